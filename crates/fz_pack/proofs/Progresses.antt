-- A table that is written tile by tile: what was written, with one tile more, and with many.
use Rattle.std.proofs.Common.{◌≡◌, ℕ, zero, suc, ◌+◌, ◌*◌, ◌^◌, ◌≤◌, max, List, [], ◌∷◌, ◌++◌, length, map, Option, Some, None, IfSome, refl, sym, ap, ◌∙◌, subst, arith}
use Rattle.std.specs.List.{range_with_len}
use Rattle.std.proofs.lemmas.List.{length-append, map-append}
use Rattle.std.proofs.Math.Nat.{mul-add, mul-le-mul_left, mul-zero}
use Rattle.fz_base.specs.Sink.{written}
use Rattle.fz_sum.specs.Pieces.{total_at}
use Rattle.fz_tile.specs.TileCode.{TileCode, tile_code}
use Rattle.fz_checks.specs.Greatest.{greatest}
use Rattle.fz_head.specs.PackedTable.{planned_row}
use Rattle.fz_files.specs.Packed.{coded_count, heap_of, pixel_bits, rows_from, stored_count}
use Rattle.fz_pool.specs.Round.{coded_tiles}
use Rattle.fz_pool.specs.Window.{Pool}
use Rattle.fz_image.specs.Layout.{IsLayout, heap_at_of, rows_len_of}
use Rattle.fz_image.specs.Progress.{AreNext, IsWritten, no_progress, tiles_written, with_heap, with_rows, with_tiles}
use Rattle.fz_image.specs.Tiles.{AreCodesFrom, AreEncodedTiles, codes_from, tile_in, tiles_from}
use Rattle.fz_image.specs.declared.layout.Layout.{Layout}
use Rattle.fz_image.specs.declared.progress.Progress.{Progress}
use Rattle.fz_pack.proofs.Codes.{greatest_map, heap_append, no_heap, no_rows, rows_append, rows_len}
use Rattle.fz_pack.proofs.Sizes.{pixel_bytes_small, rows_small}
use Rattle.fz_pack.proofs.TileTotals.{codes_append, codes_within, next_fits}

-- neighbouring numbers, and those after them
range_append : (a m n : ℕ) → range_with_len a (m + n) ≡ range_with_len a m ++ range_with_len (a + m) n
range_append a zero n =
    let same : a ≡ a + zero = omega arith in
    let none : zero + n ≡ n = omega arith in
    ap (range_with_len a) none ∙ ap (λ b. range_with_len b n) same
range_append a (suc m) n =
    let next : a + 1 + m ≡ a + suc m = omega arith in
    let more : suc m + n ≡ suc (m + n) = omega arith in
    ap (range_with_len a) more ∙ ap (λ l. a ∷ l) (range_append (a + 1) m n) ∙ ap (λ b. range_with_len a (suc m) ++ range_with_len b n) next

-- the total of joined lists
abbrev pub Joins : Type 0
Joins = (at : ℕ) (a b : List ℕ) → total_at at (a ++ b) ≡ total_at at a + total_at (at + length a) b

-- writes one after another
abbrev pub WritesNext : Type 0
WritesNext = (at : ℕ) (front back : List ℕ) (contents : Option (List ℕ)) → written (at + length front) back (written at front contents) ≡ written at (front ++ back) contents

-- writes of which the first ends before the second begins
abbrev pub WritesApart : Type 0
WritesApart = (at from : ℕ) (x y : List ℕ) (contents : Option (List ℕ)) → at + length x ≤ from → written at x (written from y contents) ≡ written from y (written at x contents)

-- no bytes add nothing
no_total : (at : ℕ) → total_at at [] ≡ 0
unfolding total_at
no_total at = refl

pub no_more_heap : (l : Layout) (w : Progress) → w ≡ with_heap l w []
no_more_heap l w =
    let none : length (heap_of []) ≡ 0 = ap length no_heap in
    let heap : w.heap ≡ w.heap + length (heap_of []) = omega (arith, none) in
    let coded : w.coded ≡ max w.coded 0 = omega arith in
    let stored : w.stored ≡ max w.stored 0 = omega arith in
    let at : ℕ = rows_len_of l + w.heap in
    let total : w.sum.total ≡ w.sum.total + total_at at (heap_of []) = omega (arith, ap (total_at at) no_heap ∙ no_total at) in
    let count : w.sum.count ≡ w.sum.count + length (heap_of []) = omega (arith, none) in
    λ i. record { tiles = w.tiles; heap = heap i; coded = coded i; stored = stored i; sum = record { total = total i; count = count i } }

-- no bytes change nothing
pub no_write : (at : ℕ) (contents : Option (List ℕ)) → written at [] contents ≡ contents
no_write at None = refl
no_write at (Some c) = refl

pub no_heap_written : (at : ℕ) (contents : Option (List ℕ)) → contents ≡ written at (heap_of []) contents
no_heap_written at contents = sym (ap (λ k. written at k contents) no_heap ∙ no_write at contents)

-- ---- many tiles more

-- what is written for tiles is that for the first and that for the others
codes_split : (l : Layout) (file : List ℕ) (m n k : ℕ) → k ≡ m + n → codes_from l file 0 k ≡ codes_from l file 0 m ++ codes_from l file (0 + m) n
codes_split l file m n k whole =
    ap (λ ts. map (tile_code l.plan.codec (pixel_bits l.plan)) ts) (ap (map (tile_in l file)) (ap (range_with_len 0) whole ∙ range_append 0 m n) ∙ map-append (tile_in l file) (range_with_len 0 m) (range_with_len (0 + m) n))
    ∙ map-append (tile_code l.plan.codec (pixel_bits l.plan)) (tiles_from l file 0 m) (tiles_from l file (0 + m) n)

-- what was written with many tiles more
pub progress_joined : (l : Layout) (cs es : List TileCode) → Joins → l.row_len ≡ planned_row l.plan → with_tiles l (with_tiles l no_progress cs) es ≡ with_tiles l no_progress (cs ++ es)
progress_joined l cs es joins rows =
    let count : length (cs ++ es) ≡ length cs + length es = length-append cs es in
    let heaps : heap_of (cs ++ es) ≡ heap_of cs ++ heap_of es = heap_append cs es in
    let heap_len : length (heap_of (cs ++ es)) ≡ length (heap_of cs) + length (heap_of es) = ap length heaps ∙ length-append (heap_of cs) (heap_of es) in
    let rows_are : rows_from l.plan 0 (cs ++ es) ≡ rows_from l.plan 0 cs ++ rows_from l.plan (0 + length (heap_of cs)) es = rows_append l.plan 0 cs es in
    let row_count : length (rows_from l.plan 0 (cs ++ es)) ≡ length (rows_from l.plan 0 cs) + length (rows_from l.plan (0 + length (heap_of cs)) es) =
    ap length rows_are ∙ length-append (rows_from l.plan 0 cs) (rows_from l.plan (0 + length (heap_of cs)) es) in
    let first_rows : l.row_len * 0 + length (rows_from l.plan 0 cs) ≡ l.row_len * (0 + length cs) =
    (let none : 0 + length cs ≡ length cs = omega arith in omega (arith, mul-zero l.row_len, rows_len l.plan 0 cs, ap (λ n. n * length cs) rows, ap (λ n. l.row_len * n) none)) in
    let row_total : total_at (l.row_len * 0) (rows_from l.plan 0 (cs ++ es)) ≡ total_at (l.row_len * 0) (rows_from l.plan 0 cs) + total_at (l.row_len * (0 + length cs)) (rows_from l.plan (0 + length (heap_of cs)) es) =
    ap (total_at (l.row_len * 0)) rows_are ∙ joins (l.row_len * 0) (rows_from l.plan 0 cs) (rows_from l.plan (0 + length (heap_of cs)) es)
    ∙ ap (λ n. total_at (l.row_len * 0) (rows_from l.plan 0 cs) + total_at n (rows_from l.plan (0 + length (heap_of cs)) es)) first_rows in
    let at : ℕ = rows_len_of l in
    let heap_place : at + 0 + length (heap_of cs) ≡ at + (0 + length (heap_of cs)) = omega arith in
    let heap_total : total_at (at + 0) (heap_of (cs ++ es)) ≡ total_at (at + 0) (heap_of cs) + total_at (at + (0 + length (heap_of cs))) (heap_of es) =
    ap (total_at (at + 0)) heaps ∙ joins (at + 0) (heap_of cs) (heap_of es) ∙ ap (λ n. total_at (at + 0) (heap_of cs) + total_at n (heap_of es)) heap_place in
    let tiles : 0 + length cs + length es ≡ 0 + length (cs ++ es) = omega (arith, count) in
    let heap : 0 + length (heap_of cs) + length (heap_of es) ≡ 0 + length (heap_of (cs ++ es)) = omega (arith, heap_len) in
    let coded : max (max 0 (greatest (map (coded_count l.plan) cs))) (greatest (map (coded_count l.plan) es)) ≡ max 0 (greatest (map (coded_count l.plan) (cs ++ es))) = omega (arith, greatest_map (coded_count l.plan) cs es) in
    let stored : max (max 0 (greatest (map (stored_count l.plan) cs))) (greatest (map (stored_count l.plan) es)) ≡ max 0 (greatest (map (stored_count l.plan) (cs ++ es))) = omega (arith, greatest_map (stored_count l.plan) cs es) in
    let total : 0 + total_at (l.row_len * 0) (rows_from l.plan 0 cs) + total_at (at + 0) (heap_of cs) + total_at (l.row_len * (0 + length cs)) (rows_from l.plan (0 + length (heap_of cs)) es) + total_at (at + (0 + length (heap_of cs))) (heap_of es)
    ≡ 0 + total_at (l.row_len * 0) (rows_from l.plan 0 (cs ++ es)) + total_at (at + 0) (heap_of (cs ++ es)) = omega (arith, row_total, heap_total) in
    let counted : 0 + length (rows_from l.plan 0 cs) + length (heap_of cs) + length (rows_from l.plan (0 + length (heap_of cs)) es) + length (heap_of es) ≡ 0 + length (rows_from l.plan 0 (cs ++ es)) + length (heap_of (cs ++ es)) =
    omega (arith, row_count, heap_len) in
    λ i. record { tiles = tiles i; heap = heap i; coded = coded i; stored = stored i; sum = record { total = total i; count = counted i } }

-- and the contents
pub contents_joined : (l : Layout) (cs es : List TileCode) (before : Option (List ℕ)) → WritesNext → WritesApart → l.row_len ≡ planned_row l.plan → length cs + length es ≤ l.tiles →
    tiles_written l (with_tiles l no_progress cs) es (tiles_written l no_progress cs before) ≡ tiles_written l no_progress (cs ++ es) before
contents_joined l cs es before next swap rows few =
    let H : ℕ = heap_at_of l + 0 in
    let R : ℕ = l.rows_at + l.row_len * 0 in
    let h1 : List ℕ = heap_of cs in
    let h2 : List ℕ = heap_of es in
    let r1 : List ℕ = rows_from l.plan 0 cs in
    let r2 : List ℕ = rows_from l.plan (0 + length h1) es in
    let none : 0 + length cs ≡ length cs = omega arith in
    let one : length r1 ≡ l.row_len * length cs = rows_len l.plan 0 cs ∙ ap (λ n. n * length cs) (sym rows) in
    let two : length r2 ≡ l.row_len * length es = rows_len l.plan (0 + length h1) es ∙ ap (λ n. n * length es) (sym rows) in
    let place : l.rows_at + l.row_len * (0 + length cs) ≡ R + length r1 = omega (arith, mul-zero l.row_len, one, ap (λ n. l.row_len * n) none) in
    let heap_place : heap_at_of l + (0 + length h1) ≡ H + length h1 = omega arith in
    let most : l.row_len * (length cs + length es) ≤ l.row_len * l.tiles = mul-le-mul_left l.row_len few in
    let apart : R + length r1 + length r2 ≤ H = omega (arith, mul-zero l.row_len, one, two, most, mul-add l.row_len (length cs) (length es)) in
    ap (λ n. written n h2 (written (l.rows_at + l.row_len * (0 + length cs)) r2 (written H h1 (written R r1 before)))) heap_place
    ∙ ap (λ n. written (H + length h1) h2 (written n r2 (written H h1 (written R r1 before)))) place
    ∙ ap (written (H + length h1) h2) (swap (R + length r1) H r2 h1 (written R r1 before) apart)
    ∙ next H h1 h2 (written (R + length r1) r2 (written R r1 before))
    ∙ ap (written H (h1 ++ h2)) (next R r1 r2 before)
    ∙ (let heaps = heap_append cs es in let all = rows_append l.plan 0 cs es in λ i. written H (sym heaps i) (written R (sym all i) before))

-- ---- the next tiles of an image

pub more_written : (l : Layout) (held before c0 c1 : Option (List ℕ)) (w w' : Progress) (es : List TileCode) (count : ℕ) → Joins → WritesNext → WritesApart → IsLayout l → AreCodesFrom l w.tiles es → length es ≡ count → w.tiles + count ≤ l.tiles →
    IfSome held (λ file. es ≡ codes_from l file w.tiles count) → w' ≡ with_tiles l w es → c1 ≡ tiles_written l w es c0 → IsWritten l held before c0 w → IsWritten l held before c1 w'
more_written l held before c0 c1 w w' es count joins next swap is each size few told progress contents was =
    let at : w.tiles ≡ length was.codes = ap (λ (q : Progress). q.tiles) was.progress ∙ (let none : 0 + length was.codes ≡ length was.codes = omega arith in none) in
    let here : AreCodesFrom l (0 + length was.codes) es = subst (λ n. AreCodesFrom l n es) (at ∙ (let none : length was.codes ≡ 0 + length was.codes = omega arith in none)) each in
    let fits : length was.codes + length es ≤ l.tiles = omega (arith, at, size, few) in
    let all : length (was.codes ++ es) ≡ length was.codes + length es = length-append was.codes es in
    record {
      codes = was.codes ++ es;
      each = codes_append l 0 was.codes es was.each here;
      some = omega (arith, all, fits);
      progress = progress ∙ ap (λ (q : Progress). with_tiles l q es) was.progress ∙ progress_joined l was.codes es joins is.row_len;
      contents = contents ∙ (λ i. tiles_written l (was.progress i) es (was.contents i)) ∙ contents_joined l was.codes es before next swap is.row_len fits;
      told = told_joined held was.told told;
    }
  where
    told_joined : (h : Option (List ℕ)) → IfSome h (λ file. was.codes ≡ codes_from l file 0 (length was.codes)) → IfSome h (λ file. es ≡ codes_from l file w.tiles count) → IfSome h (λ file. (was.codes ++ es) ≡ codes_from l file 0 (length (was.codes ++ es)))
    told_joined None first more = tt
    told_joined (Some file) first more =
        let at : w.tiles ≡ 0 + length was.codes = ap (λ (q : Progress). q.tiles) was.progress in
        let all : length (was.codes ++ es) ≡ length was.codes + count = length-append was.codes es ∙ ap (λ n. length was.codes + n) size in
        (λ i. first i ++ (more ∙ ap (λ n. codes_from l file n count) at) i)
        ∙ sym (codes_split l file (length was.codes) count (length (was.codes ++ es)) all)

-- tiles that were encoded after those that are written can be written
pub are_next : (l : Layout) (held held' before now : Option (List ℕ)) (w : Progress) (count : ℕ) (pool : Pool) → IsLayout l → IsWritten l held before now w
    → AreEncodedTiles l held' w.tiles count pool → count ≤ 2 * pool.workers → w.tiles + count ≤ l.tiles → AreNext l w.heap count pool
are_next l held held' before now w count pool is was e near left =
    let es = coded_tiles count pool.slots in
    let none : 0 + length was.codes ≡ length was.codes = omega arith in
    let at : w.tiles ≡ length was.codes = ap (λ (q : Progress). q.tiles) was.progress ∙ none in
    let heap : w.heap ≡ 0 + length (heap_of was.codes) = ap (λ (q : Progress). q.heap) was.progress in
    let few : length was.codes + length es ≤ l.tiles = omega (arith, at, e.number, left) in
    record {
      filled = e.filled;
      near = near;
      lens = e.lens;
      fits = next_fits l was.codes es w.heap is was.each (subst (λ n. AreCodesFrom l n es) at e.each) few heap;
    }

-- ---- how much is added to the sum

pub summed_small : (l : Layout) (held before now : Option (List ℕ)) (w : Progress) → IsLayout l → IsWritten l held before now w → w.sum.count ≤ 2 ^ 60
summed_small l held before now w is was =
    let count : w.sum.count ≡ 0 + length (rows_from l.plan 0 was.codes) + length (heap_of was.codes) = ap (λ (q : Progress). q.sum.count) was.progress in
    let rows : length (rows_from l.plan 0 was.codes) ≡ l.row_len * length was.codes = rows_len l.plan 0 was.codes ∙ ap (λ n. n * length was.codes) (sym is.row_len) in
    let most : l.row_len * length was.codes ≤ l.row_len * l.tiles = mul-le-mul_left l.row_len was.some in
    omega (arith, count, rows, most, rows_small l is, codes_within l was.codes is was.each was.some, pixel_bytes_small l is)

-- ---- no tile yet

no_more_rows : (l : Layout) (w : Progress) → w ≡ with_rows l w []
no_more_rows l w =
    let none : rows_from l.plan w.heap [] ≡ [] = no_rows l.plan w.heap in
    let at : ℕ = l.row_len * w.tiles in
    let tiles : w.tiles ≡ w.tiles + 0 = omega arith in
    let total : w.sum.total ≡ w.sum.total + total_at at (rows_from l.plan w.heap []) = omega (arith, ap (total_at at) none ∙ no_total at) in
    let count : w.sum.count ≡ w.sum.count + length (rows_from l.plan w.heap []) = omega (arith, ap length none) in
    λ i. record { tiles = tiles i; heap = w.heap; coded = w.coded; stored = w.stored; sum = record { total = total i; count = count i } }

none_written : (l : Layout) (before : Option (List ℕ)) → before ≡ tiles_written l no_progress [] before
none_written l before =
    let H : ℕ = heap_at_of l + 0 in
    let R : ℕ = l.rows_at + l.row_len * 0 in
    sym (no_write R before) ∙ ap (λ k. written R k before) (sym (no_rows l.plan 0)) ∙ no_heap_written H (written R (rows_from l.plan 0 []) before)

-- nothing is written at first
pub written_none : (l : Layout) (held before : Option (List ℕ)) (w : Progress) → w ≡ no_progress → IsWritten l held before before w
written_none l held before w is = record {
  codes = [];
  each = tt;
  some = omega arith;
  progress = is ∙ no_more_rows l no_progress ∙ no_more_heap l (with_rows l no_progress []);
  contents = none_written l before;
  told = none held;
}
  where
    none : (h : Option (List ℕ)) → IfSome h (λ file. [] ≡ codes_from l file 0 0)
    none None = tt
    none (Some file) = refl

-- no more than all tiles are written
pub written_few : (l : Layout) (held before now : Option (List ℕ)) (w : Progress) → IsWritten l held before now w → w.tiles ≤ l.tiles
written_few l held before now w was = omega (arith, ap (λ (q : Progress). q.tiles) was.progress, was.some)
