-- What is written for tiles, one tile after another: their rows, their bytes and the greatest counts.
use Rattle.std.proofs.Common.{◌≡◌, ℕ, ◌+◌, ◌-◌, ◌*◌, max, Bool, true, false, List, [], ◌∷◌, ◌++◌, length, map, refl, sym, ap, ◌∙◌, arith, if◌then◌else◌}
use Rattle.std.proofs.lemmas.List.{append_assoc, length-append, map-append}
use Rattle.std.proofs.lemmas.Grind.{flat_map-append}
use Rattle.std.proofs.Math.Nat.{mul-suc, mul-zero, add-zero}
use Rattle.fz_table.specs.Rows.{packed_row}
use Rattle.fz_table.specs.declared.array.Descriptor.{Descriptor}
use Rattle.fz_tile.specs.TileCode.{TileCode}
use Rattle.fz_tile.specs.declared.coded.Place2.{Place2}
use Rattle.fz_tile.specs.declared.coded.Place2.TheVariants.{Coded, Stored}
use Rattle.fz_head.specs.declared.plan.Plan.{Plan}
use Rattle.fz_checks.specs.Greatest.{greatest}
use Rattle.fz_head.specs.PackedTable.{planned_row}
use Rattle.fz_files.specs.Packed.{coded_count, described, heap_of, row_of, rows_from, stored_count}

-- ---- rows and heap

pub rows_append : (p : Plan) (offset : ℕ) (cs es : List TileCode) →
    rows_from p offset (cs ++ es) ≡ rows_from p offset cs ++ rows_from p (offset + length (heap_of cs)) es
unfolding rows_from heap_of
rows_append p offset [] es = ap (λ n. rows_from p n es) (sym (add-zero offset))
rows_append p offset (c ∷ cs) es =
    let on : offset + length c.bytes + length (heap_of cs) ≡ offset + length (c.bytes ++ heap_of cs) = omega (arith, length-append c.bytes (heap_of cs)) in
    ap (λ l. row_of p offset c ++ l)
    (rows_append p (offset + length c.bytes) cs es ∙ ap (λ n. rows_from p (offset + length c.bytes) cs ++ rows_from p n es) on)
    ∙ sym (append_assoc (row_of p offset c) (rows_from p (offset + length c.bytes) cs) (rows_from p (offset + length (c.bytes ++ heap_of cs)) es))

pub heap_append : (cs es : List TileCode) → heap_of (cs ++ es) ≡ heap_of cs ++ heap_of es
unfolding heap_of
heap_append cs es = flat_map-append (λ (e : TileCode). e.bytes) cs es

pub no_heap : heap_of [] ≡ []
unfolding heap_of
no_heap = refl

pub no_rows : (p : Plan) (offset : ℕ) → rows_from p offset [] ≡ []
unfolding rows_from
no_rows p offset = refl

-- the bytes of a row
packed_row_len : (wide : Bool) (coded stored : Descriptor) → length (packed_row wide coded stored) ≡ (if wide then 32 else 16)
packed_row_len true coded stored = refl
packed_row_len false coded stored = refl

row_len_by : (p : Plan) (offset : ℕ) (place : Place2) (bytes : List ℕ) → length (row_of p offset (record { place = place; bytes = bytes })) ≡ planned_row p
row_len_by p offset Coded bytes = packed_row_len p.wide (described (coded_count p (record { place = Coded; bytes = bytes })) offset) (described 0 0)
row_len_by p offset Stored bytes = packed_row_len p.wide (described 0 0) (described (stored_count p (record { place = Stored; bytes = bytes })) offset)

pub row_len : (p : Plan) (offset : ℕ) (e : TileCode) → length (row_of p offset e) ≡ planned_row p
row_len p offset e = row_len_by p offset e.place e.bytes

pub rows_len : (p : Plan) (offset : ℕ) (es : List TileCode) → length (rows_from p offset es) ≡ planned_row p * length es
unfolding rows_from
rows_len p offset [] = sym (mul-zero (planned_row p))
rows_len p offset (e ∷ es) =
    length-append (row_of p offset e) (rows_from p (offset + length e.bytes) es)
    ∙ omega (arith, row_len p offset e, rows_len p (offset + length e.bytes) es, mul-suc (planned_row p) (length es))

-- ---- the greatest of counts

pub greatest_append : (ms ns : List ℕ) → greatest (ms ++ ns) ≡ max (greatest ms) (greatest ns)
greatest_append [] ns = omega arith
greatest_append (m ∷ ms) ns = omega (arith, greatest_append ms ns)

pub greatest_map : (f : TileCode → ℕ) (cs es : List TileCode) → greatest (map f (cs ++ es)) ≡ max (greatest (map f cs)) (greatest (map f es))
greatest_map f cs es = ap greatest (map-append f cs es) ∙ greatest_append (map f cs) (map f es)
