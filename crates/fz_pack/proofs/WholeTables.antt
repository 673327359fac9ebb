-- The table of an image, from the writes that made it.
use Rattle.std.proofs.Common.{◌≡◌, ℕ, ◌+◌, ◌-◌, ◌*◌, ◌^◌, ◌≤◌, Bool, List, ◌++◌, length, replicate, Option, Some, None, IfSome, sym, ap, ◌∙◌, arith}
use Rattle.std.proofs.lemmas.List.{length-append, length-replicate}
use Rattle.std.proofs.Math.Nat.{mul-zero}
use Rattle.fz_base.specs.Sink.{written}
use Rattle.fz_block.specs.Hdus.{header_bytes}
use Rattle.fz_block.specs.Header.{whole_blocks_of}
use Rattle.fz_tile.specs.TileCode.{TileCode}
use Rattle.fz_files.specs.Packed.{heap_of, packed_data, packed_table, rows_from, table_header, with_sums}
use Rattle.fz_image.specs.Image.{HoldsCodes}
use Rattle.fz_image.specs.Layout.{IsLayout, heap_at_of, rows_len_of}
use Rattle.fz_image.specs.Progress.{IsWritten, no_progress, tiles_written}
use Rattle.fz_image.specs.Tiles.{codes_from}
use Rattle.fz_image.specs.declared.layout.Layout.{Layout}
use Rattle.fz_image.specs.declared.progress.Progress.{Progress}
use Rattle.fz_pack.proofs.Codes.{rows_len}
use Rattle.fz_pack.proofs.Progresses.{WritesNext}
use Rattle.fz_pack.proofs.Sizes.{pixel_bytes_small, rows_small}
use Rattle.fz_pack.proofs.TileTotals.{codes_within}

-- a write before another, which begins where it ends, is one write of both
abbrev pub WritesJoined : Type 0
WritesJoined = (at from : ℕ) (x y : List ℕ) (contents : Option (List ℕ)) → from ≡ at + length x → written at x (written from y contents) ≡ written at (x ++ y) contents

-- the rows, the heap, the fill and then the header are the table
module _ (l : Layout) (codes : List TileCode) (head : List ℕ) (at : ℕ) (next : WritesNext) (is : IsLayout l) (count : length codes ≡ l.tiles) (place : l.rows_at ≡ at + length head) where
  abbrev R : List ℕ
  R = rows_from l.plan 0 codes

  abbrev H : List ℕ
  H = heap_of codes

  rows : length R ≡ rows_len_of l
  rows = rows_len l.plan 0 codes ∙ (λ i. (sym is.row_len i) * count i)

  both : length (R ++ H) ≡ rows_len_of l + length H
  both = length-append R H ∙ ap (λ n. n + length H) rows

  start : l.rows_at + l.row_len * 0 ≡ l.rows_at
  start = omega (arith, mul-zero l.row_len)

  data_put : (len : ℕ) (c0 c1 c2 : Option (List ℕ)) → len ≡ length (R ++ H) → c1 ≡ tiles_written l no_progress codes c0 → c2 ≡ written (l.rows_at + len) (replicate (whole_blocks_of len - len) 0) c1 → c2 ≡ written l.rows_at (packed_data l.plan codes) c0
  data_put len c0 c1 c2 size was now =
      let heap : heap_at_of l + 0 ≡ l.rows_at + length R = omega (arith, rows) in
      let first : c1 ≡ written l.rows_at (R ++ H) c0 =
      was ∙ ap (λ n. written (heap_at_of l + 0) H (written n R c0)) start ∙ ap (λ n. written n H (written l.rows_at R c0)) heap ∙ next l.rows_at R H c0 in
      now ∙ ap (λ n. written (l.rows_at + n) (replicate (whole_blocks_of n - n) 0) c1) size
      ∙ ap (written (l.rows_at + length (R ++ H)) (replicate (whole_blocks_of (length (R ++ H)) - length (R ++ H)) 0)) first
      ∙ next l.rows_at (R ++ H) (replicate (whole_blocks_of (length (R ++ H)) - length (R ++ H)) 0) c0

  table_put : WritesJoined → (len : ℕ) (c0 c1 c2 c3 : Option (List ℕ)) → len ≡ length (R ++ H) → c1 ≡ tiles_written l no_progress codes c0 → c2 ≡ written (l.rows_at + len) (replicate (whole_blocks_of len - len) 0) c1 → c3 ≡ written at head c2 →
      c3 ≡ written at (head ++ packed_data l.plan codes) c0
  table_put joined len c0 c1 c2 c3 size was now last =
      last ∙ ap (written at head) (data_put len c0 c1 c2 size was now) ∙ joined at l.rows_at head (packed_data l.plan codes) c0 place

  data_len : length (packed_data l.plan codes) ≡ whole_blocks_of (length (R ++ H))
  data_len =
      let zeros : length (replicate {A = ℕ} (whole_blocks_of (length (R ++ H)) - length (R ++ H)) 0) ≡ whole_blocks_of (length (R ++ H)) - length (R ++ H) = length-replicate {A = ℕ} (whole_blocks_of (length (R ++ H)) - length (R ++ H)) 0 in
      omega (arith, length-append (R ++ H) (replicate {A = ℕ} (whole_blocks_of (length (R ++ H)) - length (R ++ H)) 0), zeros)

-- what stands in the sink after all writes
pub holds_codes : (l : Layout) (sums : Bool) (cards : List (List ℕ)) (held c0 c1 c2 c3 : Option (List ℕ)) (w : Progress) (at end len : ℕ) (head : List ℕ) → WritesNext → WritesJoined → IsLayout l → (was : IsWritten l held c0 c1 w) → w.tiles ≡ l.tiles →
    head ≡ header_bytes (with_sums sums (table_header l.plan cards was.codes) (packed_data l.plan was.codes)) → l.rows_at ≡ at + length head → len ≡ rows_len_of l + w.heap →
    c2 ≡ written (l.rows_at + len) (replicate (whole_blocks_of len - len) 0) c1 → c3 ≡ written at head c2 → end ≡ l.rows_at + whole_blocks_of len → IfSome held (λ file. HoldsCodes sums l cards (codes_from l file 0 l.tiles) at end c0 c3)
unfolding packed_table
holds_codes l sums cards None c0 c1 c2 c3 w at end len head next joined is was tiles head_is place len_is now last end_is = tt
holds_codes l sums cards (Some file) c0 c1 c2 c3 w at end len head next joined is was tiles head_is place len_is now last end_is =
    let codes : List TileCode = was.codes in
    let number : w.tiles ≡ 0 + length codes = ap (λ (q : Progress). q.tiles) was.progress in
    let count : length codes ≡ l.tiles = omega (arith, number, tiles) in
    let heap : w.heap ≡ 0 + length (heap_of codes) = ap (λ (q : Progress). q.heap) was.progress in
    let size : len ≡ length (rows_from l.plan 0 codes ++ heap_of codes) = omega (arith, len_is, heap, both l codes head at next is count place) in
    let all : codes ≡ codes_from l file 0 l.tiles = was.told ∙ ap (codes_from l file 0) count in
    let bytes : head ++ packed_data l.plan codes ≡ packed_table sums l.plan cards codes = ap (λ t. t ++ packed_data l.plan codes) head_is in
    let put = table_put l codes head at next is count place joined len c0 c1 c2 c3 size was.contents now last in
    let long : length (head ++ packed_data l.plan codes) ≡ length head + whole_blocks_of (length (rows_from l.plan 0 codes ++ heap_of codes)) =
    length-append head (packed_data l.plan codes) ∙ ap (λ n. length head + n) (data_len l codes head at next is count place) in
    record {
      contents = put ∙ ap (λ t. written at t c0) (bytes ∙ ap (packed_table sums l.plan cards) all);
      behind = omega (arith, end_is, place, ap whole_blocks_of size, long, ap length (bytes ∙ ap (packed_table sums l.plan cards) all));
    }

-- how long the rows and the heap are at most
pub data_small : (l : Layout) (held before now : Option (List ℕ)) (w : Progress) → IsLayout l → IsWritten l held before now w → rows_len_of l + w.heap ≤ 2 ^ 36 + 2 ^ 43
data_small l held before now w is was =
    let heap : w.heap ≡ 0 + length (heap_of was.codes) = ap (λ (q : Progress). q.heap) was.progress in
    omega (arith, heap, codes_within l was.codes is was.each was.some, pixel_bytes_small l is, rows_small l is)
