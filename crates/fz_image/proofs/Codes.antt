-- What is written for tiles, one tile after another: their rows, their bytes and the greatest counts.
use Rattle.std.proofs.Common.{◌≡◌, ℕ, ◌+◌, ◌-◌, ◌*◌, ◌<◌, ◌≤◌, max, Bool, true, false, List, [], ◌∷◌, ◌++◌, length, map, take, drop, slice_get, slice_index_or, Some, subst, refl, sym, ap, ◌∙◌, arith, if◌then◌else◌}
use Rattle.std.proofs.lemmas.List.{append_assoc, append-nil, length-append, length-take-le, map-append, take_more}
use Rattle.std.proofs.lemmas.Option.{get_or_from_slice_get, slice_get_within}
use Rattle.std.proofs.lemmas.Grind.{flat_map-append}
use Rattle.std.proofs.Math.Seq.{take-add}
use Rattle.std.proofs.Math.Nat.{mul-suc, mul-zero, add-zero}
use Rattle.fz_table.specs.Rows.{packed_row}
use Rattle.fz_table.specs.declared.array.Descriptor.{Descriptor}
use Rattle.fz_tile.specs.TileCode.{TileCode}
use Rattle.fz_tile.specs.declared.coded.Place2.{Place2}
use Rattle.fz_tile.specs.declared.coded.Place2.TheVariants.{Coded, Stored}
use Rattle.fz_head.specs.declared.plan.Plan.{Plan}
use Rattle.fz_checks.specs.Greatest.{greatest}
use Rattle.fz_head.specs.PackedTable.{planned_row}
use Rattle.fz_files.specs.Packed.{coded_count, described, heap_of, row_of, rows_from, stored_count}
use Rattle.fz_pool.specs.Round.{coded_tile, coded_tiles}
use Rattle.fz_pool.specs.declared.slot.Slot.{Slot}

-- ---- rows and heap

pub rows_append : (p : Plan) (offset : ℕ) (cs es : List TileCode) →
    rows_from p offset (cs ++ es) ≡ rows_from p offset cs ++ rows_from p (offset + length (heap_of cs)) es
unfolding rows_from heap_of
rows_append p offset [] es = ap (λ n. rows_from p n es) (sym (add-zero offset))
rows_append p offset (c ∷ cs) es =
    let on : offset + length c.bytes + length (heap_of cs) ≡ offset + length (c.bytes ++ heap_of cs) = omega (arith, length-append c.bytes (heap_of cs)) in
    ap (λ l. row_of p offset c ++ l)
    (rows_append p (offset + length c.bytes) cs es ∙ ap (λ n. rows_from p (offset + length c.bytes) cs ++ rows_from p n es) on)
    ∙ sym (append_assoc (row_of p offset c) (rows_from p (offset + length c.bytes) cs) (rows_from p (offset + length (c.bytes ++ heap_of cs)) es))

-- the row of one tile
one_row : (p : Plan) (offset : ℕ) (e : TileCode) → rows_from p offset (e ∷ []) ≡ row_of p offset e
unfolding rows_from
one_row p offset e = append-nil (row_of p offset e)

pub rows_more : (p : Plan) (offset : ℕ) (cs : List TileCode) (e : TileCode) →
    rows_from p offset (cs ++ e ∷ []) ≡ rows_from p offset cs ++ row_of p (offset + length (heap_of cs)) e
rows_more p offset cs e =
    rows_append p offset cs (e ∷ []) ∙ ap (λ l. rows_from p offset cs ++ l) (one_row p (offset + length (heap_of cs)) e)

pub heap_append : (cs es : List TileCode) → heap_of (cs ++ es) ≡ heap_of cs ++ heap_of es
unfolding heap_of
heap_append cs es = flat_map-append (λ (e : TileCode). e.bytes) cs es

one_heap : (e : TileCode) → heap_of (e ∷ []) ≡ e.bytes
unfolding heap_of
one_heap e = append-nil e.bytes

pub heap_more : (cs : List TileCode) (e : TileCode) → heap_of (cs ++ e ∷ []) ≡ heap_of cs ++ e.bytes
heap_more cs e = heap_append cs (e ∷ []) ∙ ap (λ l. heap_of cs ++ l) (one_heap e)

pub no_heap : heap_of [] ≡ []
unfolding heap_of
no_heap = refl

pub no_rows : (p : Plan) (offset : ℕ) → rows_from p offset [] ≡ []
unfolding rows_from
no_rows p offset = refl

-- the bytes of a row
packed_row_len : (wide : Bool) (coded stored : Descriptor) → length (packed_row wide coded stored) ≡ (if wide then 32 else 16)
packed_row_len true coded stored = refl
packed_row_len false coded stored = refl

row_len_by : (p : Plan) (offset : ℕ) (place : Place2) (bytes : List ℕ) → length (row_of p offset (record { place = place; bytes = bytes })) ≡ planned_row p
row_len_by p offset Coded bytes = packed_row_len p.wide (described (coded_count p (record { place = Coded; bytes = bytes })) offset) (described 0 0)
row_len_by p offset Stored bytes = packed_row_len p.wide (described 0 0) (described (stored_count p (record { place = Stored; bytes = bytes })) offset)

pub row_len : (p : Plan) (offset : ℕ) (e : TileCode) → length (row_of p offset e) ≡ planned_row p
row_len p offset e = row_len_by p offset e.place e.bytes

pub rows_len : (p : Plan) (offset : ℕ) (es : List TileCode) → length (rows_from p offset es) ≡ planned_row p * length es
unfolding rows_from
rows_len p offset [] = sym (mul-zero (planned_row p))
rows_len p offset (e ∷ es) =
    length-append (row_of p offset e) (rows_from p (offset + length e.bytes) es)
    ∙ omega (arith, row_len p offset e, rows_len p (offset + length e.bytes) es, mul-suc (planned_row p) (length es))

-- ---- the greatest of counts

pub greatest_append : (ms ns : List ℕ) → greatest (ms ++ ns) ≡ max (greatest ms) (greatest ns)
greatest_append [] ns = omega arith
greatest_append (m ∷ ms) ns = omega (arith, greatest_append ms ns)

pub greatest_map : (f : TileCode → ℕ) (cs es : List TileCode) → greatest (map f (cs ++ es)) ≡ max (greatest (map f cs)) (greatest (map f es))
greatest_map f cs es = ap greatest (map-append f cs es) ∙ greatest_append (map f cs) (map f es)

pub greatest_more : (f : TileCode → ℕ) (most : ℕ) (cs : List TileCode) (e : TileCode) →
    max (max most (greatest (map f cs))) (f e) ≡ max most (greatest (map f (cs ++ e ∷ [])))
greatest_more f most cs e = omega (arith, greatest_map f cs (e ∷ []))

-- ---- the tiles of the first slots

pub tiles_more : (i : ℕ) (slots : List Slot) (x : Slot) → slice_get slots i ≡ Some x → coded_tiles (i + 1) slots ≡ coded_tiles i slots ++ coded_tile x ∷ []
tiles_more i slots x is =
    ap (map coded_tile) (take_more slots i x (slice_get_within slots i x is) ∙ ap (λ (y : Slot). take i slots ++ y ∷ []) (get_or_from_slice_get slots i x x is))
    ∙ map-append coded_tile (take i slots) (x ∷ [])

-- the bytes of the first i tiles are no more than those of the first count
pub heap_prefix : (i count : ℕ) (slots : List Slot) → i ≤ count → length (heap_of (coded_tiles i slots)) ≤ length (heap_of (coded_tiles count slots))
heap_prefix i count slots few =
    let rest : ℕ = count - i in
    let whole : count ≡ i + rest = omega arith in
    let parted : coded_tiles count slots ≡ coded_tiles i slots ++ map coded_tile (take rest (drop i slots)) =
    ap (λ n. map coded_tile (take n slots)) whole ∙ ap (map coded_tile) (take-add i rest slots) ∙ map-append coded_tile (take i slots) (take rest (drop i slots)) in
    let sizes : length (heap_of (coded_tiles count slots)) ≡ length (heap_of (coded_tiles i slots)) + length (heap_of (map coded_tile (take rest (drop i slots)))) =
    ap (λ l. length (heap_of l)) parted ∙ ap length (heap_append (coded_tiles i slots) (map coded_tile (take rest (drop i slots))))
    ∙ length-append (heap_of (coded_tiles i slots)) (heap_of (map coded_tile (take rest (drop i slots)))) in
    omega (arith, sizes)

-- the bytes of a slot's tile are as many as its job says
pub tile_len : (x : Slot) → x.job.len ≤ length x.code → length (coded_tile x).bytes ≡ x.job.len
tile_len x within = length-take-le x.job.len x.code within

-- with the next tile there are as many more bytes
pub heap_len_more : (i : ℕ) (slots : List Slot) (x : Slot) → slice_get slots i ≡ Some x → x.job.len ≤ length x.code →
    length (heap_of (coded_tiles (i + 1) slots)) ≡ length (heap_of (coded_tiles i slots)) + x.job.len
heap_len_more i slots x is within =
    ap (λ l. length (heap_of l)) (tiles_more i slots x is) ∙ ap length (heap_more (coded_tiles i slots) (coded_tile x))
    ∙ length-append (heap_of (coded_tiles i slots)) (coded_tile x).bytes
    ∙ ap (λ n. length (heap_of (coded_tiles i slots)) + n) (tile_len x within)

-- and they are within what all tiles have
pub next_within : (from most i count : ℕ) (slots : List Slot) (x : Slot) → slice_get slots i ≡ Some x → x.job.len ≤ length x.code → i < count →
    from + length (heap_of (coded_tiles count slots)) ≤ most → from + length (heap_of (coded_tiles i slots)) + x.job.len ≤ most
next_within from most i count slots x is within few fits =
    omega (arith, heap_len_more i slots x is within, heap_prefix (i + 1) count slots (omega (arith, few)), fits)

-- a slot that is read is the one that conditions on slots speak of
pub slot_within : (i count : ℕ) (slots : List Slot) (x : Slot) → slice_get slots i ≡ Some x → i < count →
    ((k : ℕ) (d : Slot) → k < count → (slice_index_or slots k d).job.len ≤ length (slice_index_or slots k d).code) → x.job.len ≤ length x.code
slot_within i count slots x is few lens =
    subst (λ (y : Slot). y.job.len ≤ length y.code) (get_or_from_slice_get slots i x x is) (lens i x few)

-- a row more is after the rows
pub row_put : (len i offset from : ℕ) (p : Plan) (slots : List Slot) (x : Slot) (into row : List ℕ) → len ≡ planned_row p → slice_get slots i ≡ Some x →
    from ≡ offset + length (heap_of (coded_tiles i slots)) → row ≡ row_of p from (coded_tile x) → take (len * i) into ≡ rows_from p offset (coded_tiles i slots) →
    take (len * i) into ++ row ≡ rows_from p offset (coded_tiles (i + 1) slots)
row_put len i offset from p slots x into row size is at row_is so_far =
    ap (λ l. l ++ row) so_far
    ∙ ap (λ l. rows_from p offset (coded_tiles i slots) ++ l) (row_is ∙ ap (λ n. row_of p n (coded_tile x)) at)
    ∙ sym (ap (rows_from p offset) (tiles_more i slots x is) ∙ rows_more p offset (coded_tiles i slots) (coded_tile x))
