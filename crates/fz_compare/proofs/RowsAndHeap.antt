-- What is written for tiles, one tile after another: their rows, their bytes, the greatest counts, and the sum.
use Rattle.std.proofs.Common.{◌≡◌, ℕ, ◌+◌, ◌-◌, ◌*◌, ◌<◌, ◌≤◌, max, Bool, true, false, List, [], ◌∷◌, ◌++◌, length, map, take, drop, slice_get, slice_index_or, Some, subst, refl, sym, ap, ◌∙◌, arith, if◌then◌else◌}
use Rattle.std.proofs.lemmas.List.{append_assoc, append-nil, length-append, length-take-le, map-append, take_more}
use Rattle.std.proofs.lemmas.Option.{get_or_from_slice_get, slice_get_within}
use Rattle.std.proofs.lemmas.Grind.{flat_map-append}
use Rattle.std.proofs.Math.Seq.{take-add}
use Rattle.std.proofs.Math.Nat.{mul-suc, mul-zero, add-zero}
use Rattle.fz_sum.specs.Pieces.{total_at}
use Rattle.fz_table.specs.Rows.{packed_row}
use Rattle.fz_table.specs.declared.array.Descriptor.{Descriptor}
use Rattle.fz_tile.specs.TileCode.{TileCode}
use Rattle.fz_tile.specs.declared.coded.Place2.{Place2}
use Rattle.fz_tile.specs.declared.coded.Place2.TheVariants.{Coded, Stored}
use Rattle.fz_head.specs.declared.plan.Plan.{Plan}
use Rattle.fz_checks.specs.Greatest.{greatest}
use Rattle.fz_head.specs.PackedTable.{planned_row}
use Rattle.fz_files.specs.Packed.{coded_count, described, heap_of, row_of, rows_from, stored_count}
use Rattle.fz_pool.specs.Round.{coded_tile, coded_tiles}
use Rattle.fz_pool.specs.declared.slot.Slot.{Slot}
use Rattle.fz_image.specs.Layout.{rows_len_of}
use Rattle.fz_image.specs.Progress.{no_progress, with_heap, with_rows, with_tile, with_tiles}
use Rattle.fz_image.specs.declared.layout.Layout.{Layout}
use Rattle.fz_image.specs.declared.progress.Progress.{Progress}

-- ---- rows and heap

pub rows_append : (p : Plan) (offset : ℕ) (cs es : List TileCode) →
    rows_from p offset (cs ++ es) ≡ rows_from p offset cs ++ rows_from p (offset + length (heap_of cs)) es
unfolding rows_from heap_of
rows_append p offset [] es = ap (λ n. rows_from p n es) (sym (add-zero offset))
rows_append p offset (c ∷ cs) es =
    let on : offset + length c.bytes + length (heap_of cs) ≡ offset + length (c.bytes ++ heap_of cs) = omega (arith, length-append c.bytes (heap_of cs)) in
    ap (λ l. row_of p offset c ++ l)
    (rows_append p (offset + length c.bytes) cs es ∙ ap (λ n. rows_from p (offset + length c.bytes) cs ++ rows_from p n es) on)
    ∙ sym (append_assoc (row_of p offset c) (rows_from p (offset + length c.bytes) cs) (rows_from p (offset + length (c.bytes ++ heap_of cs)) es))

pub heap_append : (cs es : List TileCode) → heap_of (cs ++ es) ≡ heap_of cs ++ heap_of es
unfolding heap_of
heap_append cs es = flat_map-append (λ (e : TileCode). e.bytes) cs es

one_heap : (e : TileCode) → heap_of (e ∷ []) ≡ e.bytes
unfolding heap_of
one_heap e = append-nil e.bytes

pub heap_more : (cs : List TileCode) (e : TileCode) → heap_of (cs ++ e ∷ []) ≡ heap_of cs ++ e.bytes
heap_more cs e = heap_append cs (e ∷ []) ∙ ap (λ l. heap_of cs ++ l) (one_heap e)

pub no_heap : heap_of [] ≡ []
unfolding heap_of
no_heap = refl

pub no_rows : (p : Plan) (offset : ℕ) → rows_from p offset [] ≡ []
unfolding rows_from
no_rows p offset = refl

-- the bytes of a row
packed_row_len : (wide : Bool) (coded stored : Descriptor) → length (packed_row wide coded stored) ≡ (if wide then 32 else 16)
packed_row_len true coded stored = refl
packed_row_len false coded stored = refl

row_len_by : (p : Plan) (offset : ℕ) (place : Place2) (bytes : List ℕ) → length (row_of p offset (record { place = place; bytes = bytes })) ≡ planned_row p
row_len_by p offset Coded bytes = packed_row_len p.wide (described (coded_count p (record { place = Coded; bytes = bytes })) offset) (described 0 0)
row_len_by p offset Stored bytes = packed_row_len p.wide (described 0 0) (described (stored_count p (record { place = Stored; bytes = bytes })) offset)

pub row_len : (p : Plan) (offset : ℕ) (e : TileCode) → length (row_of p offset e) ≡ planned_row p
row_len p offset e = row_len_by p offset e.place e.bytes

pub rows_len : (p : Plan) (offset : ℕ) (es : List TileCode) → length (rows_from p offset es) ≡ planned_row p * length es
unfolding rows_from
rows_len p offset [] = sym (mul-zero (planned_row p))
rows_len p offset (e ∷ es) =
    length-append (row_of p offset e) (rows_from p (offset + length e.bytes) es)
    ∙ omega (arith, row_len p offset e, rows_len p (offset + length e.bytes) es, mul-suc (planned_row p) (length es))

-- ---- the greatest of counts

pub greatest_append : (ms ns : List ℕ) → greatest (ms ++ ns) ≡ max (greatest ms) (greatest ns)
greatest_append [] ns = omega arith
greatest_append (m ∷ ms) ns = omega (arith, greatest_append ms ns)

pub greatest_map : (f : TileCode → ℕ) (cs es : List TileCode) → greatest (map f (cs ++ es)) ≡ max (greatest (map f cs)) (greatest (map f es))
greatest_map f cs es = ap greatest (map-append f cs es) ∙ greatest_append (map f cs) (map f es)

pub greatest_more : (f : TileCode → ℕ) (most : ℕ) (cs : List TileCode) (e : TileCode) →
    max (max most (greatest (map f cs))) (f e) ≡ max most (greatest (map f (cs ++ e ∷ [])))
greatest_more f most cs e = omega (arith, greatest_map f cs (e ∷ []))

-- ---- the tiles of the first slots

pub tiles_more : (i : ℕ) (slots : List Slot) (x : Slot) → slice_get slots i ≡ Some x → coded_tiles (i + 1) slots ≡ coded_tiles i slots ++ coded_tile x ∷ []
tiles_more i slots x is =
    ap (map coded_tile) (take_more slots i x (slice_get_within slots i x is) ∙ ap (λ (y : Slot). take i slots ++ y ∷ []) (get_or_from_slice_get slots i x x is))
    ∙ map-append coded_tile (take i slots) (x ∷ [])

-- the bytes of the first count tiles are those of the first i, and more
pub heap_parts : (i count : ℕ) (slots : List Slot) → i ≤ count → (rest : List ℕ) × (heap_of (coded_tiles count slots) ≡ heap_of (coded_tiles i slots) ++ rest)
heap_parts i count slots few =
    let rest : ℕ = count - i in
    let whole : count ≡ i + rest = omega (arith, few) in
    let parted : coded_tiles count slots ≡ coded_tiles i slots ++ map coded_tile (take rest (drop i slots)) =
    ap (λ n. map coded_tile (take n slots)) whole ∙ ap (map coded_tile) (take-add i rest slots) ∙ map-append coded_tile (take i slots) (take rest (drop i slots)) in
    (heap_of (map coded_tile (take rest (drop i slots))), ap heap_of parted ∙ heap_append (coded_tiles i slots) (map coded_tile (take rest (drop i slots))))

heap_prefix : (i count : ℕ) (slots : List Slot) → i ≤ count → length (heap_of (coded_tiles i slots)) ≤ length (heap_of (coded_tiles count slots))
heap_prefix i count slots few =
    let parts = heap_parts i count slots few in
    omega (arith, ap length parts.1, length-append (heap_of (coded_tiles i slots)) parts.0)

-- the bytes of a slot's tile are as many as its job says
pub tile_len : (x : Slot) → x.job.len ≤ length x.code → length (coded_tile x).bytes ≡ x.job.len
tile_len x within = length-take-le x.job.len x.code within

-- with the next tile there are as many more bytes
pub heap_len_more : (i : ℕ) (slots : List Slot) (x : Slot) → slice_get slots i ≡ Some x → x.job.len ≤ length x.code →
    length (heap_of (coded_tiles (i + 1) slots)) ≡ length (heap_of (coded_tiles i slots)) + x.job.len
heap_len_more i slots x is within =
    ap (λ l. length (heap_of l)) (tiles_more i slots x is) ∙ ap length (heap_more (coded_tiles i slots) (coded_tile x))
    ∙ length-append (heap_of (coded_tiles i slots)) (coded_tile x).bytes
    ∙ ap (λ n. length (heap_of (coded_tiles i slots)) + n) (tile_len x within)

-- and they are within what all tiles have
pub next_within : (from most i count : ℕ) (slots : List Slot) (x : Slot) → slice_get slots i ≡ Some x → x.job.len ≤ length x.code → i < count →
    from + length (heap_of (coded_tiles count slots)) ≤ most → from + length (heap_of (coded_tiles i slots)) + x.job.len ≤ most
next_within from most i count slots x is within few fits =
    omega (arith, heap_len_more i slots x is within, heap_prefix (i + 1) count slots (omega (arith, few)), fits)

-- a slot that is read is the one that conditions on slots speak of
pub slot_within : (i count : ℕ) (slots : List Slot) (x : Slot) → slice_get slots i ≡ Some x → i < count →
    ((k : ℕ) (d : Slot) → k < count → (slice_index_or slots k d).job.len ≤ length (slice_index_or slots k d).code) → x.job.len ≤ length x.code
slot_within i count slots x is few lens =
    subst (λ (y : Slot). y.job.len ≤ length y.code) (get_or_from_slice_get slots i x x is) (lens i x few)

-- ---- the sum

-- the total of joined lists
abbrev pub Joins : Type 0
Joins = (at : ℕ) (a b : List ℕ) → total_at at (a ++ b) ≡ total_at at a + total_at (at + length a) b

-- no bytes add nothing
no_total : (at : ℕ) → total_at at [] ≡ 0
unfolding total_at
no_total at = refl

pub no_more_heap : (l : Layout) (w : Progress) → w ≡ with_heap l w []
no_more_heap l w =
    let none : length (heap_of []) ≡ 0 = ap length no_heap in
    let heap : w.heap ≡ w.heap + length (heap_of []) = omega (arith, none) in
    let coded : w.coded ≡ max w.coded 0 = omega arith in
    let stored : w.stored ≡ max w.stored 0 = omega arith in
    let at : ℕ = rows_len_of l + w.heap in
    let total : w.sum.total ≡ w.sum.total + total_at at (heap_of []) = omega (arith, ap (total_at at) no_heap ∙ no_total at) in
    let count : w.sum.count ≡ w.sum.count + length (heap_of []) = omega (arith, none) in
    λ i. record { tiles = w.tiles; heap = heap i; coded = coded i; stored = stored i; sum = record { total = total i; count = count i } }

pub no_more_rows : (l : Layout) (w : Progress) → w ≡ with_rows l w []
no_more_rows l w =
    let none : rows_from l.plan w.heap [] ≡ [] = no_rows l.plan w.heap in
    let at : ℕ = l.row_len * w.tiles in
    let tiles : w.tiles ≡ w.tiles + 0 = omega arith in
    let total : w.sum.total ≡ w.sum.total + total_at at (rows_from l.plan w.heap []) = omega (arith, ap (total_at at) none ∙ no_total at) in
    let count : w.sum.count ≡ w.sum.count + length (rows_from l.plan w.heap []) = omega (arith, ap length none) in
    λ i. record { tiles = tiles i; heap = w.heap; coded = w.coded; stored = w.stored; sum = record { total = total i; count = count i } }

-- the bytes of one tile more
tile_more : (l : Layout) (w : Progress) (cs : List TileCode) (e : TileCode) → Joins → with_tile l (with_heap l w cs) e ≡ with_heap l w (cs ++ e ∷ [])
tile_more l w cs e joins =
    let more : length (heap_of (cs ++ e ∷ [])) ≡ length (heap_of cs) + length e.bytes = ap length (heap_more cs e) ∙ length-append (heap_of cs) e.bytes in
    let heap : w.heap + length (heap_of cs) + length e.bytes ≡ w.heap + length (heap_of (cs ++ e ∷ [])) = omega (arith, more) in
    let coded = greatest_more (coded_count l.plan) w.coded cs e in
    let stored = greatest_more (stored_count l.plan) w.stored cs e in
    let at : ℕ = rows_len_of l + w.heap in
    let place : rows_len_of l + (w.heap + length (heap_of cs)) ≡ at + length (heap_of cs) = omega arith in
    let both : total_at at (heap_of (cs ++ e ∷ [])) ≡ total_at at (heap_of cs) + total_at (rows_len_of l + (w.heap + length (heap_of cs))) e.bytes =
    ap (total_at at) (heap_more cs e) ∙ joins at (heap_of cs) e.bytes ∙ ap (λ n. total_at at (heap_of cs) + total_at n e.bytes) (sym place) in
    let total : w.sum.total + total_at at (heap_of cs) + total_at (rows_len_of l + (w.heap + length (heap_of cs))) e.bytes ≡ w.sum.total + total_at at (heap_of (cs ++ e ∷ [])) =
    omega (arith, both) in
    let count : w.sum.count + length (heap_of cs) + length e.bytes ≡ w.sum.count + length (heap_of (cs ++ e ∷ [])) = omega (arith, more) in
    λ i. record { tiles = w.tiles; heap = heap i; coded = coded i; stored = stored i; sum = record { total = total i; count = count i } }

pub heap_step : (l : Layout) (w p p' : Progress) (cs es : List TileCode) (e : TileCode) → Joins → p ≡ with_heap l w cs → es ≡ cs ++ e ∷ [] → p' ≡ with_tile l p e → p' ≡ with_heap l w es
heap_step l w p p' cs es e joins so_far more step =
    step ∙ ap (λ (q : Progress). with_tile l q e) so_far ∙ tile_more l w cs e joins ∙ ap (with_heap l w) (sym more)

-- what was written with many tiles more
pub progress_joined : (l : Layout) (cs es : List TileCode) → Joins → l.row_len ≡ planned_row l.plan → with_tiles l (with_tiles l no_progress cs) es ≡ with_tiles l no_progress (cs ++ es)
progress_joined l cs es joins rows =
    let count : length (cs ++ es) ≡ length cs + length es = length-append cs es in
    let heaps : heap_of (cs ++ es) ≡ heap_of cs ++ heap_of es = heap_append cs es in
    let heap_len : length (heap_of (cs ++ es)) ≡ length (heap_of cs) + length (heap_of es) = ap length heaps ∙ length-append (heap_of cs) (heap_of es) in
    let rows_are : rows_from l.plan 0 (cs ++ es) ≡ rows_from l.plan 0 cs ++ rows_from l.plan (0 + length (heap_of cs)) es = rows_append l.plan 0 cs es in
    let row_count : length (rows_from l.plan 0 (cs ++ es)) ≡ length (rows_from l.plan 0 cs) + length (rows_from l.plan (0 + length (heap_of cs)) es) =
    ap length rows_are ∙ length-append (rows_from l.plan 0 cs) (rows_from l.plan (0 + length (heap_of cs)) es) in
    let first_rows : l.row_len * 0 + length (rows_from l.plan 0 cs) ≡ l.row_len * (0 + length cs) =
    (let none : 0 + length cs ≡ length cs = omega arith in omega (arith, mul-zero l.row_len, rows_len l.plan 0 cs, ap (λ n. n * length cs) rows, ap (λ n. l.row_len * n) none)) in
    let row_total : total_at (l.row_len * 0) (rows_from l.plan 0 (cs ++ es)) ≡ total_at (l.row_len * 0) (rows_from l.plan 0 cs) + total_at (l.row_len * (0 + length cs)) (rows_from l.plan (0 + length (heap_of cs)) es) =
    ap (total_at (l.row_len * 0)) rows_are ∙ joins (l.row_len * 0) (rows_from l.plan 0 cs) (rows_from l.plan (0 + length (heap_of cs)) es)
    ∙ ap (λ n. total_at (l.row_len * 0) (rows_from l.plan 0 cs) + total_at n (rows_from l.plan (0 + length (heap_of cs)) es)) first_rows in
    let at : ℕ = rows_len_of l in
    let heap_place : at + 0 + length (heap_of cs) ≡ at + (0 + length (heap_of cs)) = omega arith in
    let heap_total : total_at (at + 0) (heap_of (cs ++ es)) ≡ total_at (at + 0) (heap_of cs) + total_at (at + (0 + length (heap_of cs))) (heap_of es) =
    ap (total_at (at + 0)) heaps ∙ joins (at + 0) (heap_of cs) (heap_of es) ∙ ap (λ n. total_at (at + 0) (heap_of cs) + total_at n (heap_of es)) heap_place in
    let tiles : 0 + length cs + length es ≡ 0 + length (cs ++ es) = omega (arith, count) in
    let heap : 0 + length (heap_of cs) + length (heap_of es) ≡ 0 + length (heap_of (cs ++ es)) = omega (arith, heap_len) in
    let coded : max (max 0 (greatest (map (coded_count l.plan) cs))) (greatest (map (coded_count l.plan) es)) ≡ max 0 (greatest (map (coded_count l.plan) (cs ++ es))) = omega (arith, greatest_map (coded_count l.plan) cs es) in
    let stored : max (max 0 (greatest (map (stored_count l.plan) cs))) (greatest (map (stored_count l.plan) es)) ≡ max 0 (greatest (map (stored_count l.plan) (cs ++ es))) = omega (arith, greatest_map (stored_count l.plan) cs es) in
    let total : 0 + total_at (l.row_len * 0) (rows_from l.plan 0 cs) + total_at (at + 0) (heap_of cs) + total_at (l.row_len * (0 + length cs)) (rows_from l.plan (0 + length (heap_of cs)) es) + total_at (at + (0 + length (heap_of cs))) (heap_of es)
    ≡ 0 + total_at (l.row_len * 0) (rows_from l.plan 0 (cs ++ es)) + total_at (at + 0) (heap_of (cs ++ es)) = omega (arith, row_total, heap_total) in
    let counted : 0 + length (rows_from l.plan 0 cs) + length (heap_of cs) + length (rows_from l.plan (0 + length (heap_of cs)) es) + length (heap_of es) ≡ 0 + length (rows_from l.plan 0 (cs ++ es)) + length (heap_of (cs ++ es)) =
    omega (arith, row_count, heap_len) in
    λ i. record { tiles = tiles i; heap = heap i; coded = coded i; stored = stored i; sum = record { total = total i; count = counted i } }
