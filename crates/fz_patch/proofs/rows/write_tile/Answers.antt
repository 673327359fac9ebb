-- The row is written in one write.
use Rattle.std.proofs.Common.{◌≡◌, ℕ, ◌+◌, ◌*◌, List, length, Option, sym, ap, ◌∙◌, subst, arith}
use Rattle.std.specs.Prelude.{OnErr, OnOk}
use Rattle.fz_base.specs.Counts.{Tally}
use Rattle.fz_base.specs.Sink.{written}
use Rattle.fz_base.specs.Stop.{Amends}
use Rattle.fz_base.specs.Store.{HasAtLeast, MayAmend, amend_of, amended_by}
use Rattle.fz_files.specs.Packed.{row_of}
use Rattle.fz_pool.specs.Round.{coded_tile}
use Rattle.fz_table.specs.Rows.{row_start}
use Rattle.fz_table.specs.declared.table.Table.{Table}
use Rattle.fz_target.specs.Targets.{plan_to_write}
use Rattle.fz_patch.proofs.Amended.{reach-of}
use Rattle.fz_patch.proofs.CodedEnds.{heap_end_is}
use Rattle.fz_patch.proofs.CodedRows.{row_long, row_some, row_within}
use Rattle.fz_patch.proofs.rows.write_tile.Goals as goal

pub overflow_add-at : goal.overflow_add-at
overflow_add-at g c =
    let target = c.args.target.now in
    let t : Table = target.image.table in
    let at : t.rows_at + c.from.result * c.from-2.result ≡ row_start t c.args.tile = λ j. t.rows_at + c.from.ensures j * c.from-2.ensures j in
    record { fits = omega (arith, at, row_within target c.args.tile c.requires.target c.requires.tile, heap_end_is target c.requires.target, c.requires.target.end) }

pub amend_at-requires-clause-within : goal.amend_at-requires-clause-within
amend_at-requires-clause-within g c =
    let t : Table = c.args.target.now.image.table in
    let at : row_start t c.args.tile ≡ t.rows_at + c.from.result * c.from-2.result = sym (λ j. t.rows_at + c.from.ensures j * c.from-2.ensures j) in
    subst (HasAtLeast (g.D.Source.attached c.args.store.now)) at c.requires.reach

pub amend_at-requires-clause-near : goal.amend_at-requires-clause-near
amend_at-requires-clause-near g c =
    let target = c.args.target.now in
    let t : Table = target.image.table in
    let at : t.rows_at + c.from.result * c.from-2.result ≡ row_start t c.args.tile = λ j. t.rows_at + c.from.ensures j * c.from-2.ensures j in
    let long : length c.put_row.new.into ≡ t.row_bytes = ap length c.put_row.ensures ∙ row_long target c.args.offset (coded_tile c.args.slot.now) c.requires.target in
    omega (arith, at, long, row_within target c.args.tile c.requires.target c.requires.tile, heap_end_is target c.requires.target, c.requires.target.end)

pub amend_at-requires-clause-some : goal.amend_at-requires-clause-some
amend_at-requires-clause-some g c =
    let target = c.args.target.now in
    let long : length c.put_row.new.into ≡ target.image.table.row_bytes = ap length c.put_row.ensures ∙ row_long target c.args.offset (coded_tile c.args.slot.now) c.requires.target in
    omega (arith, long, row_some target c.requires.target)

pub returns-clause-amended : goal.returns-clause-amended
returns-clause-amended g c =
    let t : Table = c.args.target.now.image.table in
    let held : Option (List ℕ) = g.D.Source.held c.args.store.now in
    let now : Option (List ℕ) = g.D.Source.held c.amend_at.new.store in
    let row : List ℕ = row_of (plan_to_write c.args.target.now) c.args.offset (coded_tile c.args.slot.now) in
    let at : t.rows_at + c.from.result * c.from-2.result ≡ row_start t c.args.tile = λ j. t.rows_at + c.from.ensures j * c.from-2.ensures j in
    subst (λ (k : ℕ). OnOk c.amend_at.result (now ≡ written k row held)) at
    (subst (λ (l : List ℕ). OnOk c.amend_at.result (now ≡ written (t.rows_at + c.from.result * c.from-2.result) l held)) c.put_row.ensures c.amend_at.ensures.amended)

pub returns-clause-partly : goal.returns-clause-partly
returns-clause-partly g c =
    let t : Table = c.args.target.now.image.table in
    let held : Option (List ℕ) = g.D.Source.held c.args.store.now in
    let now : Option (List ℕ) = g.D.Source.held c.amend_at.new.store in
    let row : List ℕ = row_of (plan_to_write c.args.target.now) c.args.offset (coded_tile c.args.slot.now) in
    let at : t.rows_at + c.from.result * c.from-2.result ≡ row_start t c.args.tile = λ j. t.rows_at + c.from.ensures j * c.from-2.ensures j in
    subst (λ (k : ℕ). OnErr c.amend_at.result (MayAmend k (length row) held now)) at
    (subst (λ (l : List ℕ). OnErr c.amend_at.result (MayAmend (t.rows_at + c.from.result * c.from-2.result) (length l) held now)) c.put_row.ensures c.amend_at.ensures.partly)

pub returns-clause-reach : goal.returns-clause-reach
returns-clause-reach g c = reach-of _ (length c.put_row.new.into) _ _ _ c.amend_at.ensures.reach

pub returns-clause-cause : goal.returns-clause-cause
returns-clause-cause g c =
    let t : Table = c.args.target.now.image.table in
    let before : Tally = g.D.Source.tally c.args.store.now in
    let now : Tally = g.D.Source.tally c.amend_at.new.store in
    let row : List ℕ = row_of (plan_to_write c.args.target.now) c.args.offset (coded_tile c.args.slot.now) in
    let at : t.rows_at + c.from.result * c.from-2.result ≡ row_start t c.args.tile = λ j. t.rows_at + c.from.ensures j * c.from-2.ensures j in
    subst (λ (k : ℕ). Amends before (amended_by (amend_of k row) before) now c.amend_at.result) at
    (subst (λ (l : List ℕ). Amends before (amended_by (amend_of (t.rows_at + c.from.result * c.from-2.result) l) before) now c.amend_at.result) c.put_row.ensures c.amend_at.ensures.cause)

pub returns-clause-count : goal.returns-clause-count
returns-clause-count g c = row_long c.args.target.now c.args.offset (coded_tile c.args.slot.now) c.requires.target
