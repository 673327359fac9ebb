-- The counts of rows and of codes are numbers of 64 bits.
use Rattle.std.specs.Prelude.{⊤}
use Rattle.std.proofs.Common.{◌≡◌, ◌⊎◌, inl, inr, ℕ, zero, suc, ◌+◌, ◌-◌, ◌*◌, ◌/◌, ◌^◌, ◌<◌, ◌≤◌, max, Bool, true, false, List, [], ◌∷◌, ◌++◌, length, drop, map, All, slice_index, Option, Some, None, if◌then◌else◌, refl, sym, ap, ◌∙◌, subst, arith}
use Rattle.std.proofs.Math.Nat.{div-le_self, mul-le-mul, pow-suc}
use Rattle.std.proofs.lemmas.Bool.{cases_lt}
use Rattle.std.proofs.lemmas.List.{get_or_past}
use Rattle.std.proofs.lemmas.List.Elements.{All-drop}
use Rattle.byteorder.specs.Endian.{big_from, big_number}
use Rattle.fz_table.specs.Rows.{described_at, descriptor_in, descriptor_start, row_at}
use Rattle.fz_table.specs.declared.array.Descriptor.{Descriptor}
use Rattle.fz_table.specs.declared.column.Column.{Column}
use Rattle.fz_table.specs.declared.row.Row.{Row}
use Rattle.fz_table.specs.declared.table.Table.{Table}
use Rattle.fz_tile.specs.Plain.{AreBytes}
use Rattle.fz_tile.specs.TileCode.{TileCode}
use Rattle.fz_checks.specs.Greatest.{greatest}
use Rattle.fz_head.specs.PackedTable.{coded_unit}
use Rattle.fz_head.specs.Planned.{pixel_len}
use Rattle.fz_head.specs.declared.plan.Plan.{Plan}
use Rattle.fz_files.specs.Packed.{coded_count, heap_of, is_coded, stored_count}
use Rattle.fz_laws.proofs.CodesWritten.{heap_length}

-- ---- numbers of bytes

byte_at : (bytes : List ℕ) (i : ℕ) → AreBytes bytes → slice_index bytes i < 256
byte_at bytes i all = by_place (cases_lt i (length bytes))
  where
    by_place : (i < length bytes) ⊎ (length bytes ≤ i) → slice_index bytes i < 256
    by_place (inl less) = all i 0 less
    by_place (inr past) = let none : slice_index bytes i ≡ 0 = get_or_past bytes i 0 past in omega arith

big_below : (i n : ℕ) (bytes : List ℕ) → AreBytes bytes → big_from i n bytes < 256 ^ n
big_below i zero bytes all = omega arith
big_below i (suc n) bytes all =
    let byte : slice_index bytes i < 256 = byte_at bytes i all in
    let rest : big_from (suc i) n bytes < 256 ^ n = big_below (suc i) n bytes all in
    let most : slice_index bytes i * 256 ^ n ≤ 255 * 256 ^ n = mul-le-mul (omega arith) (omega arith) in
    let power : 256 ^ suc n ≡ 256 ^ n * 256 = pow-suc 256 n in
    omega arith

count_below : (wide : Bool) (bytes : List ℕ) → AreBytes bytes → (descriptor_in wide bytes).count < 2 ^ 64
count_below true bytes all = big_below 0 8 bytes all
count_below false bytes all = let low : big_number 4 bytes < 256 ^ 4 = big_below 0 4 bytes all in omega arith

described_below : (file : List ℕ) (t : Table) (c : Option Column) (row : ℕ) → AreBytes file → (described_at file t c row).count < 2 ^ 64
described_below file t None row all = omega arith
described_below file t (Some c) row all = count_below c.wide (drop (descriptor_start t c row) file) (All-drop (λ (b : ℕ). b < 256) (descriptor_start t c row) file all)

-- ---- lists of numbers

abbrev pub AreBelow : ℕ → List ℕ → Type 0
AreBelow bound [] = ⊤
AreBelow bound (n ∷ ns) = (n < bound) × AreBelow bound ns

pub greatest_below : (bound : ℕ) (ns : List ℕ) → 0 < bound → AreBelow bound ns → greatest ns < bound
greatest_below bound [] some all = some
greatest_below bound (n ∷ ns) some all = let rest = greatest_below bound ns some all.1 in let here = all.0 in omega arith

pub both_below : (bound : ℕ) (xs ys : List ℕ) → AreBelow bound xs → AreBelow bound ys → AreBelow bound (xs ++ ys)
both_below bound [] ys one two = two
both_below bound (x ∷ xs) ys one two = (one.0, both_below bound xs ys one.1 two)

pub coded_rows_below : (file : List ℕ) (t : Table) (ks : List ℕ) → AreBytes file → AreBelow (2 ^ 64) (map (λ (r : Row). r.coded.count) (map (row_at file t) ks))
coded_rows_below file t [] all = tt
coded_rows_below file t (k ∷ ks) all = (described_below file t t.coded k all, coded_rows_below file t ks all)

pub stored_rows_below : (file : List ℕ) (t : Table) (ks : List ℕ) → AreBytes file → AreBelow (2 ^ 64) (map (λ (r : Row). r.stored.count) (map (row_at file t) ks))
stored_rows_below file t [] all = tt
stored_rows_below file t (k ∷ ks) all = (described_below file t t.stored k all, stored_rows_below file t ks all)

-- ---- the counts of codes

coded_few : (p : Plan) (e : TileCode) → coded_count p e ≤ length e.bytes
coded_few p e = by_place (is_coded e.place)
  where
    by_place : (b : Bool) → (if b then length e.bytes / coded_unit p.codec else 0) ≤ length e.bytes
    by_place true = div-le_self (length e.bytes) (coded_unit p.codec)
    by_place false = omega arith

stored_few : (p : Plan) (e : TileCode) → stored_count p e ≤ length e.bytes
stored_few p e = by_place (is_coded e.place)
  where
    by_place : (b : Bool) → (if b then 0 else length e.bytes / pixel_len p.bitpix) ≤ length e.bytes
    by_place true = omega arith
    by_place false = div-le_self (length e.bytes) (pixel_len p.bitpix)

pub codes_below : (count : TileCode → ℕ) → ((e : TileCode) → count e ≤ length e.bytes) → (bound : ℕ) (es : List TileCode) → length (heap_of es) < bound → AreBelow bound (map count es)
codes_below count few bound [] low = tt
codes_below count few bound (e ∷ es) low =
    let all : length (heap_of (e ∷ es)) ≡ length e.bytes + length (heap_of es) = heap_length e es in
    let here = few e in
    (omega arith, codes_below count few bound es (omega arith))

pub coded_below : (p : Plan) (bound : ℕ) (es : List TileCode) → length (heap_of es) < bound → AreBelow bound (map (coded_count p) es)
coded_below p bound es low = codes_below (coded_count p) (coded_few p) bound es low

pub stored_below : (p : Plan) (bound : ℕ) (es : List TileCode) → length (heap_of es) < bound → AreBelow bound (map (stored_count p) es)
stored_below p bound es low = codes_below (stored_count p) (stored_few p) bound es low
