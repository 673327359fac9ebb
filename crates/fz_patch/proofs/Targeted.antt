-- The target by the bytes of a file, before and after writes.
use Rattle.std.proofs.Common.{◌≡◌, ℕ, ◌+◌, ◌<◌, ◌≤◌, List, length, sym, ap, ◌∙◌, subst, arith}
use Rattle.fz_base.specs.Sink.{overwrite}
use Rattle.fz_block.specs.Header.{data_start_of}
use Rattle.fz_table.specs.Rows.{IsTable}
use Rattle.fz_files.specs.FirstFault.{picked_tiles_of}
use Rattle.fz_files.specs.Restored.{header_in, image_table, plan_in}
use Rattle.fz_laws.specs.PatchForm.{is_wide_table}
use Rattle.fz_laws.specs.Given.{box_sieve}
use Rattle.fz_laws.specs.NewNumbers.{box_tiles}
use Rattle.fz_target.specs.Targets.{IsGivenTo, IsTarget, IsTargetIn, given_at}
use Rattle.fz_target.specs.declared.target.Target.{Target}
use Rattle.fz_patch.proofs.Stays.{IsStill, plan_still, table_still}
use Rattle.fz_patch.proofs.Written.{after_heap}

-- its table
pub table_of : (f : List ℕ) (t : Target) → IsTarget t → IsTargetIn f t → IsTable (image_table f t.header)
table_of f t is said = subst IsTable (sym said.said.table) is.readable.table

-- another file with the same header has it too
pub target_still : (f new : List ℕ) (t : Target) → header_in new t.header ≡ header_in f t.header → IsTargetIn f t → IsTargetIn new t
target_still f new t same is = record {
  said = record { plan = plan_still f new t.header same ∙ is.said.plan; table = table_still f new t.header same ∙ is.said.table };
  wide = ap is_wide_table same ∙ is.wide;
}

-- the tiles with a pixel in the box
pub tiles_of : (f : List ℕ) (t : Target) (corner patch : List ℕ) → IsTargetIn f t → IsGivenTo corner patch t → box_tiles (plan_in f t.header) (given_at corner patch) ≡ picked_tiles_of t.image.plan t.sieve
tiles_of f t corner patch is to =
    ap (λ p. picked_tiles_of p (box_sieve (given_at corner patch))) is.said.plan ∙ ap (picked_tiles_of t.image.plan) (sym to.sieve)

-- a write after the heap leaves all rows
pub still_after : (f bytes : List ℕ) (at : ℕ) (t : Target) (row : ℕ) → IsTarget t → IsTargetIn f t → 0 < length bytes → at ≤ length f → t.image.table.heap_at + t.image.table.heap_len ≤ at → row < t.image.table.rows →
    IsStill f (overwrite at bytes f) t.header row
still_after f bytes at t row is said some within heap less =
    let table : image_table f t.header ≡ t.image.table = said.said.table in
    let start : data_start_of t.header ≤ t.image.table.rows_at = omega (arith, is.rows_at) in
    after_heap f bytes at t.header row some within (table_of f t is said) (subst (λ u. data_start_of t.header ≤ u.rows_at) (sym table) start)
    (subst (λ u. u.heap_at + u.heap_len ≤ at) (sym table) heap) (subst (λ u. row < u.rows) (sym table) less)
