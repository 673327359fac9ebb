-- A table that is written tile by tile: what was written, with one tile more, and with many.
use Rattle.std.proofs.Common.{◌≡◌, ℕ, ◌+◌, ◌*◌, ◌^◌, ◌≤◌, max, List, [], ◌∷◌, ◌++◌, length, map, Option, Some, None, refl, sym, ap, ◌∙◌, arith}
use Rattle.std.proofs.lemmas.List.{length-append}
use Rattle.std.proofs.Math.Nat.{mul-le-mul_left, mul-zero}
use Rattle.fz_base.specs.Sink.{written}
use Rattle.fz_sum.specs.Pieces.{total_at}
use Rattle.fz_tile.specs.TileCode.{TileCode}
use Rattle.fz_checks.specs.Greatest.{greatest}
use Rattle.fz_head.specs.PackedTable.{planned_row}
use Rattle.fz_files.specs.Packed.{coded_count, heap_of, rows_from, stored_count}
use Rattle.fz_image.specs.Layout.{IsLayout, heap_at_of, rows_len_of}
use Rattle.fz_image.specs.Progress.{no_progress, with_heap, with_tile, with_tiles}
use Rattle.fz_image.specs.Tiles.{AreCodesFrom}
use Rattle.fz_image.specs.declared.layout.Layout.{Layout}
use Rattle.fz_image.specs.declared.progress.Progress.{Progress}
use Rattle.fz_image.proofs.Codes.{greatest_map, greatest_more, heap_append, heap_more, no_heap, rows_append, rows_len}
use Rattle.fz_image.proofs.Sizes.{pixel_bytes_small, rows_small}
use Rattle.fz_image.proofs.TileTotals.{codes_within}

-- the total of joined lists
abbrev pub Joins : Type 0
Joins = (at : ℕ) (a b : List ℕ) → total_at at (a ++ b) ≡ total_at at a + total_at (at + length a) b

-- writes one after another
abbrev pub WritesNext : Type 0
WritesNext = (at : ℕ) (front back : List ℕ) (contents : Option (List ℕ)) → written (at + length front) back (written at front contents) ≡ written at (front ++ back) contents

-- writes of which the first ends before the second begins
abbrev pub WritesApart : Type 0
WritesApart = (at from : ℕ) (x y : List ℕ) (contents : Option (List ℕ)) → at + length x ≤ from → written at x (written from y contents) ≡ written from y (written at x contents)

-- no bytes add nothing
no_total : (at : ℕ) → total_at at [] ≡ 0
unfolding total_at
no_total at = refl

pub no_more_heap : (l : Layout) (w : Progress) → w ≡ with_heap l w []
no_more_heap l w =
    let none : length (heap_of []) ≡ 0 = ap length no_heap in
    let heap : w.heap ≡ w.heap + length (heap_of []) = omega (arith, none) in
    let coded : w.coded ≡ max w.coded 0 = omega arith in
    let stored : w.stored ≡ max w.stored 0 = omega arith in
    let at : ℕ = rows_len_of l + w.heap in
    let total : w.sum.total ≡ w.sum.total + total_at at (heap_of []) = omega (arith, ap (total_at at) no_heap ∙ no_total at) in
    let count : w.sum.count ≡ w.sum.count + length (heap_of []) = omega (arith, none) in
    λ i. record { tiles = w.tiles; heap = heap i; coded = coded i; stored = stored i; sum = record { total = total i; count = count i } }

-- the bytes of one tile more
tile_more : (l : Layout) (w : Progress) (cs : List TileCode) (e : TileCode) → Joins → with_tile l (with_heap l w cs) e ≡ with_heap l w (cs ++ e ∷ [])
tile_more l w cs e joins =
    let more : length (heap_of (cs ++ e ∷ [])) ≡ length (heap_of cs) + length e.bytes = ap length (heap_more cs e) ∙ length-append (heap_of cs) e.bytes in
    let heap : w.heap + length (heap_of cs) + length e.bytes ≡ w.heap + length (heap_of (cs ++ e ∷ [])) = omega (arith, more) in
    let coded = greatest_more (coded_count l.plan) w.coded cs e in
    let stored = greatest_more (stored_count l.plan) w.stored cs e in
    let at : ℕ = rows_len_of l + w.heap in
    let place : rows_len_of l + (w.heap + length (heap_of cs)) ≡ at + length (heap_of cs) = omega arith in
    let both : total_at at (heap_of (cs ++ e ∷ [])) ≡ total_at at (heap_of cs) + total_at (rows_len_of l + (w.heap + length (heap_of cs))) e.bytes =
    ap (total_at at) (heap_more cs e) ∙ joins at (heap_of cs) e.bytes ∙ ap (λ n. total_at at (heap_of cs) + total_at n e.bytes) (sym place) in
    let total : w.sum.total + total_at at (heap_of cs) + total_at (rows_len_of l + (w.heap + length (heap_of cs))) e.bytes ≡ w.sum.total + total_at at (heap_of (cs ++ e ∷ [])) =
    omega (arith, both) in
    let count : w.sum.count + length (heap_of cs) + length e.bytes ≡ w.sum.count + length (heap_of (cs ++ e ∷ [])) = omega (arith, more) in
    λ i. record { tiles = w.tiles; heap = heap i; coded = coded i; stored = stored i; sum = record { total = total i; count = count i } }

pub heap_step : (l : Layout) (w p p' : Progress) (cs es : List TileCode) (e : TileCode) → Joins → p ≡ with_heap l w cs → es ≡ cs ++ e ∷ [] → p' ≡ with_tile l p e → p' ≡ with_heap l w es
heap_step l w p p' cs es e joins so_far more step =
    step ∙ ap (λ (q : Progress). with_tile l q e) so_far ∙ tile_more l w cs e joins ∙ ap (with_heap l w) (sym more)

-- and the contents with them
pub heap_written : (l : Layout) (w p : Progress) (cs es : List TileCode) (e : TileCode) (code : List ℕ) (before now now' : Option (List ℕ)) → WritesNext → p ≡ with_heap l w cs → es ≡ cs ++ e ∷ [] →
    code ≡ e.bytes → now ≡ written (heap_at_of l + w.heap) (heap_of cs) before → now' ≡ written (heap_at_of l + p.heap) code now → now' ≡ written (heap_at_of l + w.heap) (heap_of es) before
heap_written l w p cs es e code before now now' next so_far more code_is was is =
    let place : heap_at_of l + p.heap ≡ heap_at_of l + w.heap + length (heap_of cs) = ap (λ (q : Progress). heap_at_of l + q.heap) so_far ∙ omega arith in
    is ∙ ap (λ n. written n code now) place ∙ ap (written (heap_at_of l + w.heap + length (heap_of cs)) code) was
    ∙ next (heap_at_of l + w.heap) (heap_of cs) code before
    ∙ ap (λ k. written (heap_at_of l + w.heap) k before) (ap (λ k. heap_of cs ++ k) code_is ∙ sym (heap_more cs e) ∙ ap heap_of (sym more))

-- no bytes change nothing
pub no_write : (at : ℕ) (contents : Option (List ℕ)) → written at [] contents ≡ contents
no_write at None = refl
no_write at (Some c) = refl

pub no_heap_written : (at : ℕ) (contents : Option (List ℕ)) → contents ≡ written at (heap_of []) contents
no_heap_written at contents = sym (ap (λ k. written at k contents) no_heap ∙ no_write at contents)

-- ---- many tiles more

-- what was written with many tiles more
pub progress_joined : (l : Layout) (cs es : List TileCode) → Joins → l.row_len ≡ planned_row l.plan → with_tiles l (with_tiles l no_progress cs) es ≡ with_tiles l no_progress (cs ++ es)
progress_joined l cs es joins rows =
    let count : length (cs ++ es) ≡ length cs + length es = length-append cs es in
    let heaps : heap_of (cs ++ es) ≡ heap_of cs ++ heap_of es = heap_append cs es in
    let heap_len : length (heap_of (cs ++ es)) ≡ length (heap_of cs) + length (heap_of es) = ap length heaps ∙ length-append (heap_of cs) (heap_of es) in
    let rows_are : rows_from l.plan 0 (cs ++ es) ≡ rows_from l.plan 0 cs ++ rows_from l.plan (0 + length (heap_of cs)) es = rows_append l.plan 0 cs es in
    let row_count : length (rows_from l.plan 0 (cs ++ es)) ≡ length (rows_from l.plan 0 cs) + length (rows_from l.plan (0 + length (heap_of cs)) es) =
    ap length rows_are ∙ length-append (rows_from l.plan 0 cs) (rows_from l.plan (0 + length (heap_of cs)) es) in
    let first_rows : l.row_len * 0 + length (rows_from l.plan 0 cs) ≡ l.row_len * (0 + length cs) =
    (let none : 0 + length cs ≡ length cs = omega arith in omega (arith, mul-zero l.row_len, rows_len l.plan 0 cs, ap (λ n. n * length cs) rows, ap (λ n. l.row_len * n) none)) in
    let row_total : total_at (l.row_len * 0) (rows_from l.plan 0 (cs ++ es)) ≡ total_at (l.row_len * 0) (rows_from l.plan 0 cs) + total_at (l.row_len * (0 + length cs)) (rows_from l.plan (0 + length (heap_of cs)) es) =
    ap (total_at (l.row_len * 0)) rows_are ∙ joins (l.row_len * 0) (rows_from l.plan 0 cs) (rows_from l.plan (0 + length (heap_of cs)) es)
    ∙ ap (λ n. total_at (l.row_len * 0) (rows_from l.plan 0 cs) + total_at n (rows_from l.plan (0 + length (heap_of cs)) es)) first_rows in
    let at : ℕ = rows_len_of l in
    let heap_place : at + 0 + length (heap_of cs) ≡ at + (0 + length (heap_of cs)) = omega arith in
    let heap_total : total_at (at + 0) (heap_of (cs ++ es)) ≡ total_at (at + 0) (heap_of cs) + total_at (at + (0 + length (heap_of cs))) (heap_of es) =
    ap (total_at (at + 0)) heaps ∙ joins (at + 0) (heap_of cs) (heap_of es) ∙ ap (λ n. total_at (at + 0) (heap_of cs) + total_at n (heap_of es)) heap_place in
    let tiles : 0 + length cs + length es ≡ 0 + length (cs ++ es) = omega (arith, count) in
    let heap : 0 + length (heap_of cs) + length (heap_of es) ≡ 0 + length (heap_of (cs ++ es)) = omega (arith, heap_len) in
    let coded : max (max 0 (greatest (map (coded_count l.plan) cs))) (greatest (map (coded_count l.plan) es)) ≡ max 0 (greatest (map (coded_count l.plan) (cs ++ es))) = omega (arith, greatest_map (coded_count l.plan) cs es) in
    let stored : max (max 0 (greatest (map (stored_count l.plan) cs))) (greatest (map (stored_count l.plan) es)) ≡ max 0 (greatest (map (stored_count l.plan) (cs ++ es))) = omega (arith, greatest_map (stored_count l.plan) cs es) in
    let total : 0 + total_at (l.row_len * 0) (rows_from l.plan 0 cs) + total_at (at + 0) (heap_of cs) + total_at (l.row_len * (0 + length cs)) (rows_from l.plan (0 + length (heap_of cs)) es) + total_at (at + (0 + length (heap_of cs))) (heap_of es)
    ≡ 0 + total_at (l.row_len * 0) (rows_from l.plan 0 (cs ++ es)) + total_at (at + 0) (heap_of (cs ++ es)) = omega (arith, row_total, heap_total) in
    let counted : 0 + length (rows_from l.plan 0 cs) + length (heap_of cs) + length (rows_from l.plan (0 + length (heap_of cs)) es) + length (heap_of es) ≡ 0 + length (rows_from l.plan 0 (cs ++ es)) + length (heap_of (cs ++ es)) =
    omega (arith, row_count, heap_len) in
    λ i. record { tiles = tiles i; heap = heap i; coded = coded i; stored = stored i; sum = record { total = total i; count = counted i } }

-- ---- no tile yet

-- the same of what was written of these codes
pub summed_few : (l : Layout) (codes : List TileCode) (w : Progress) → IsLayout l → AreCodesFrom l 0 codes → length codes ≤ l.tiles → w ≡ with_tiles l no_progress codes → w.sum.count ≤ 2 ^ 60
summed_few l codes w is each few progress =
    let count : w.sum.count ≡ 0 + length (rows_from l.plan 0 codes) + length (heap_of codes) = ap (λ (q : Progress). q.sum.count) progress in
    let rows : length (rows_from l.plan 0 codes) ≡ l.row_len * length codes = rows_len l.plan 0 codes ∙ ap (λ n. n * length codes) (sym is.row_len) in
    let most : l.row_len * length codes ≤ l.row_len * l.tiles = mul-le-mul_left l.row_len few in
    omega (arith, count, rows, most, rows_small l is, codes_within l codes is each few, pixel_bytes_small l is)
