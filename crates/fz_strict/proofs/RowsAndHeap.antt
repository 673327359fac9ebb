-- What is written for tiles, one tile after another: their rows, their bytes, the greatest counts, and the sum.
use Rattle.std.proofs.Common.{◌≡◌, ℕ, ◌+◌, ◌-◌, ◌*◌, Bool, true, false, List, [], ◌∷◌, length, refl, sym, ◌∙◌, arith, if◌then◌else◌}
use Rattle.std.proofs.lemmas.List.{length-append}
use Rattle.std.proofs.Math.Nat.{mul-suc, mul-zero}
use Rattle.fz_table.specs.Rows.{packed_row}
use Rattle.fz_table.specs.declared.array.Descriptor.{Descriptor}
use Rattle.fz_tile.specs.TileCode.{TileCode}
use Rattle.fz_tile.specs.declared.coded.Place2.{Place2}
use Rattle.fz_tile.specs.declared.coded.Place2.TheVariants.{Coded, Stored}
use Rattle.fz_head.specs.declared.plan.Plan.{Plan}
use Rattle.fz_checks.specs.Greatest.{greatest}
use Rattle.fz_head.specs.PackedTable.{planned_row}
use Rattle.fz_files.specs.Packed.{coded_count, described, row_of, rows_from, stored_count}

-- ---- rows and heap

-- the bytes of a row
packed_row_len : (wide : Bool) (coded stored : Descriptor) → length (packed_row wide coded stored) ≡ (if wide then 32 else 16)
packed_row_len true coded stored = refl
packed_row_len false coded stored = refl

row_len_by : (p : Plan) (offset : ℕ) (place : Place2) (bytes : List ℕ) → length (row_of p offset (record { place = place; bytes = bytes })) ≡ planned_row p
row_len_by p offset Coded bytes = packed_row_len p.wide (described (coded_count p (record { place = Coded; bytes = bytes })) offset) (described 0 0)
row_len_by p offset Stored bytes = packed_row_len p.wide (described 0 0) (described (stored_count p (record { place = Stored; bytes = bytes })) offset)

pub row_len : (p : Plan) (offset : ℕ) (e : TileCode) → length (row_of p offset e) ≡ planned_row p
row_len p offset e = row_len_by p offset e.place e.bytes

pub rows_len : (p : Plan) (offset : ℕ) (es : List TileCode) → length (rows_from p offset es) ≡ planned_row p * length es
unfolding rows_from
rows_len p offset [] = sym (mul-zero (planned_row p))
rows_len p offset (e ∷ es) =
    length-append (row_of p offset e) (rows_from p (offset + length e.bytes) es)
    ∙ omega (arith, row_len p offset e, rows_len p (offset + length e.bytes) es, mul-suc (planned_row p) (length es))
