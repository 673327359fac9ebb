-- The rows and the codes of the next tiles, compared with those of the file.
use Rattle.std.proofs.Common.{◌≡◌, ℕ, ◌+◌, ◌*◌, ◌≤◌, List, length, take, Option, Some, None, IfSome, Bool, true, false, sym, ◌∙◌, subst, arith}
use Rattle.std.proofs.lemmas.List.{length-map, length-take-le}
use Rattle.fz_files.specs.Packed.{rows_from}
use Rattle.fz_pool.specs.Round.{coded_tile, coded_tiles}
use Rattle.fz_pool.specs.Window.{IsFilled, Pool}
use Rattle.fz_tile.specs.TileCode.{TileCode}
use Rattle.fz_image.specs.Progress.{with_row_bytes, with_rows}
use Rattle.fz_image.specs.declared.layout.Layout.{Layout}
use Rattle.fz_image.specs.declared.progress.Progress.{Progress}
use Rattle.fz_compare.specs.Compared.{ComparesCodes, ComparesHeap, has_bytes}
use Rattle.fz_compare.proofs.Pieces.{not_both}

-- so many tiles were encoded
pub coded_count_is : (count : ℕ) (w : Pool) → IsFilled w → count ≤ 2 * w.workers → length (coded_tiles count w.slots) ≡ count
coded_count_is count w filled near = length-map (take count w.slots) coded_tile ∙ length-take-le count w.slots (omega (arith, filled, near))

module _ (end : ℕ) (l : Layout) (w : Progress) (codes : List TileCode) (rows : List ℕ) (at : ℕ) (rows_are : rows ≡ rows_from l.plan w.heap codes) (place : at ≡ l.rows_at + l.row_len * w.tiles) where
  there : (g : List ℕ) (answer : Bool) → answer ≡ has_bytes g at end rows → answer ≡ has_bytes g (l.rows_at + l.row_len * w.tiles) end (rows_from l.plan w.heap codes)
  there g answer is = is ∙ (λ i. has_bytes g (place i) end (rows_are i))

  pub rows_differ : (held : Option (List ℕ)) → IfSome held (λ g. false ≡ has_bytes g at end rows) → IfSome held (λ g. ComparesCodes g end l w codes None)
  rows_differ None other = tt
  rows_differ (Some g) other = λ has. not_both (sym has.rows ∙ sym (there g false other))

  rows_same : (g : List ℕ) (c : Option Progress) → true ≡ has_bytes g at end rows → ComparesHeap g end l (with_rows l w codes) codes c → ComparesCodes g end l w codes c
  rows_same g None same compared = λ has. compared (record { heap = has.heap })
  rows_same g (Some now) same compared = (record { rows = sym (there g true same); heap = compared.0.heap }, compared.1)

  pub codes_same : (held : Option (List ℕ)) (p : Progress) (count : ℕ) (c : Option Progress) → p ≡ with_row_bytes l w count rows → length codes ≡ count →
      IfSome held (λ g. true ≡ has_bytes g at end rows) → IfSome held (λ g. ComparesHeap g end l p codes c) → IfSome held (λ g. ComparesCodes g end l w codes c)
  codes_same None p count c is many same compared = tt
  codes_same (Some g) p count c is many same compared =
      let written : p ≡ with_rows l w codes = is ∙ (λ i. with_row_bytes l w (sym many i) (rows_are i)) in
      rows_same g c same (subst (λ (q : Progress). ComparesHeap g end l q codes c) written compared)
