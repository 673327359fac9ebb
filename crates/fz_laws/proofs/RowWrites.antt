-- The codes and the rows that a patch writes.
use Rattle.std.specs.Prelude.{⊤}
use Rattle.std.proofs.Common.{◌≡◌, ◌⊎◌, inl, inr, ℕ, zero, suc, ◌+◌, ◌-◌, ◌*◌, ◌/◌, ◌^◌, ◌<◌, ◌≤◌, ◌==◌, Bool, true, false, ℤ, pos, List, [], ◌∷◌, ◌++◌, length, take, drop, map, replicate, zip, All, Contains, if◌then◌else◌, refl, sym, ap, ◌∙◌, subst, arith}
use Rattle.std.proofs.Math.Nat.{mul-le-mul}
use Rattle.fz_base.specs.Counts.{Amend}
use Rattle.fz_block.specs.declared.header.Header.{Header}
use Rattle.fz_table.specs.Rows.{descriptor_len, packed_row, row_start}
use Rattle.fz_table.specs.declared.array.Descriptor.{Descriptor}
use Rattle.fz_table.specs.declared.table.Table.{Table}
use Rattle.fz_tile.specs.Codecs.{CanRead}
use Rattle.fz_tile.specs.TileCode.{TileCode}
use Rattle.fz_head.specs.declared.plan.Plan.{Plan}
use Rattle.fz_files.specs.Packed.{coded_count, described, heap_of, is_coded, pixel_bits, row_of, stored_count, tiles_in}
use Rattle.fz_files.specs.Restored.{RowStandsFor, header_in, image_table, plan_in}
use Rattle.fz_laws.specs.Amends.{amend_of, applied}
use Rattle.fz_laws.specs.FirstPatchFault.{RowsHaveNumbers}
use Rattle.fz_laws.specs.PatchForm.{is_wide_table}
use Rattle.fz_laws.specs.Given.{Given}
use Rattle.fz_laws.specs.PatchLaws.{IsGivenFor, new_code}
use Rattle.fz_laws.specs.NewNumbers.{box_tiles}
use Rattle.fz_laws.specs.PatchTaken.{TileLaws}
use Rattle.fz_laws.specs.Writes.{code_writes, heap_end, new_codes, row_writes, table_plan, zero_writes}
use Rattle.fz_laws.proofs.Between.{AreFine, IsCardWrite, IsFine, IsRowWrite, LiesIn}
use Rattle.fz_laws.proofs.CodesWritten.{CodesAre, EndWithin, HaveBytes, heap_length}
use Rattle.fz_laws.proofs.NewCodes.{IsCodeOf, new_code_is, writable}
use Rattle.fz_laws.proofs.OnePatch.{target_readable}
use Rattle.fz_laws.proofs.TargetFacts.{HasTarget, lies, row_bytes_is, rows_are}

-- ---- writes in place: of cards and of rows

abbrev pub AreInPlace : List ℕ → Header → Table → (ℕ → List ℕ → Type 0) → List Amend → Type 0
AreInPlace base h t says [] = ⊤
AreInPlace base h t says (w ∷ ws) = (IsCardWrite base h w ⊎ IsRowWrite t says w) × AreInPlace base h t says ws

pub in_place_both : (base : List ℕ) (h : Header) (t : Table) (says : ℕ → List ℕ → Type 0) (xs ys : List Amend) → AreInPlace base h t says xs → AreInPlace base h t says ys → AreInPlace base h t says (xs ++ ys)
in_place_both base h t says [] ys one two = two
in_place_both base h t says (x ∷ xs) ys one two = (one.0, in_place_both base h t says xs ys one.1 two)

-- writes of no row
abbrev pub NoRow : ℕ → List ℕ → Type 0
NoRow row bytes = ⊥

pub any_place : (base : List ℕ) (h : Header) (t : Table) (says : ℕ → List ℕ → Type 0) (ws : List Amend) → AreInPlace base h t NoRow ws → AreInPlace base h t says ws
any_place base h t says [] all = tt
any_place base h t says (w ∷ ws) all = (by_kind all.0, any_place base h t says ws all.1)
  where
    by_kind : IsCardWrite base h w ⊎ IsRowWrite t NoRow w → IsCardWrite base h w ⊎ IsRowWrite t says w
    by_kind (inl c) = inl c
    by_kind (inr c) = absurd c.is

pub in_place_fine : (base : List ℕ) (h : Header) (t : Table) (says : ℕ → List ℕ → Type 0) (ws : List Amend) → AreInPlace base h t says ws → AreFine base h t says ws
in_place_fine base h t says [] all = tt
in_place_fine base h t says (w ∷ ws) all = (inr all.0, in_place_fine base h t says ws all.1)

pub row_low : (r row n : ℕ) → row < n → r * row + r ≤ r * n
row_low r row n low =
    let more : r * row + r ≡ r * (row + 1) = grind arith in
    let most : r * (row + 1) ≤ r * n = mul-le-mul (omega arith) (omega arith) in
    omega arith

pub in_place_within : (base file : List ℕ) (h : Header) (t : Table) (says : ℕ → List ℕ → Type 0) (ws : List Amend) → LiesIn file h t → 0 < t.row_bytes → AreInPlace base h t says ws →
    EndWithin (t.heap_at + t.heap_len) ws
in_place_within base file h t says [] is some all = tt
in_place_within base file h t says (w ∷ ws) is some all = by_kind all.0 (in_place_within base file h t says ws is some all.1)
  where
    by_kind : IsCardWrite base h w ⊎ IsRowWrite t says w → EndWithin (t.heap_at + t.heap_len) ws → EndWithin (t.heap_at + t.heap_len) (w ∷ ws)
    by_kind (inl c) rest =
        let place = c.place in
        let long = c.long in
        let within = c.within in
        let rows = is.rows in
        let heap = is.heap in
        (omega arith, omega arith, rest)
    by_kind (inr c) rest =
        let place = c.place in
        let long = c.long in
        let low : t.row_bytes * c.row + t.row_bytes ≤ t.row_bytes * t.rows = row_low t.row_bytes c.row t.rows c.low in
        let heap = is.heap in
        (omega arith, omega arith, rest)

pub fine_both : (base : List ℕ) (h : Header) (t : Table) (says : ℕ → List ℕ → Type 0) (xs ys : List Amend) → AreFine base h t says xs → AreFine base h t says ys → AreFine base h t says (xs ++ ys)
fine_both base h t says [] ys one two = two
fine_both base h t says (x ∷ xs) ys one two = (one.0, fine_both base h t says xs ys one.1 two)

-- ---- writes after the heap

pub codes_fine : (base : List ℕ) (h : Header) (t : Table) (says : ℕ → List ℕ → Type 0) (start : ℕ) (es : List TileCode) → t.heap_at + t.heap_len ≤ start → AreFine base h t says (code_writes start es)
codes_fine base h t says start [] after = tt
codes_fine base h t says start (e ∷ es) after = (inl after, codes_fine base h t says (start + length e.bytes) es (omega arith))

pub zeros_fine : (base : List ℕ) (h : Header) (t : Table) (says : ℕ → List ℕ → Type 0) (start end : ℕ) → t.heap_at + t.heap_len ≤ start → AreFine base h t says (zero_writes start end)
zeros_fine base h t says start end after = by_test (start == end)
  where
    by_test : (b : Bool) → AreFine base h t says (if b then [] else amend_of start (replicate (end - start) 0) ∷ [])
    by_test true = tt
    by_test false = (inl after, tt)

-- ---- the length of a row

packed_len : (wide : Bool) (c s : Descriptor) → length (packed_row wide c s) ≡ descriptor_len wide + descriptor_len wide
packed_len true c s = refl
packed_len false c s = refl

pub row_len : (p : Plan) (offset : ℕ) (e : TileCode) → length (row_of p offset e) ≡ descriptor_len p.wide + descriptor_len p.wide
row_len p offset e = by_place (is_coded e.place)
  where
    by_place : (coded : Bool) →
        length (if coded then packed_row p.wide (described (coded_count p e) offset) (described 0 0) else packed_row p.wide (described 0 0) (described (stored_count p e) offset))
        ≡ descriptor_len p.wide + descriptor_len p.wide
    by_place true = packed_len p.wide (described (coded_count p e) offset) (described 0 0)
    by_place false = packed_len p.wide (described 0 0) (described (stored_count p e) offset)

pub some_row : (file : List ℕ) (h : Header) → HasTarget file h → 0 < (image_table file h).row_bytes
some_row file h has = by_width (is_wide_table (header_in file h)) (row_bytes_is file h has)
  where
    by_width : (wide : Bool) → (image_table file h).row_bytes ≡ descriptor_len wide + descriptor_len wide → 0 < (image_table file h).row_bytes
    by_width true e = omega arith
    by_width false e = omega arith

-- ---- the tiles of the box

-- What a new row says: it describes the code of the new numbers of its tile, at a place of the heap where this code is in a file.
pub record IsNewBytes (file written : List ℕ) (h : Header) (g : Given) (total t : ℕ) (bytes : List ℕ) : Type 0 where
  pub xs : List ℤ
  pub offset : ℕ
  pub row : RowStandsFor file h t xs
  pub inside : Contains (box_tiles (plan_in file h) g) t
  pub is : bytes ≡ row_of (table_plan file h) offset (new_code (plan_in file h) g t xs)
  pub low : (image_table file h).heap_len ≤ offset
  pub within : offset + length (new_code (plan_in file h) g t xs).bytes ≤ total
  pub code :
      take (length (new_code (plan_in file h) g t xs).bytes) (drop ((image_table file h).heap_at + offset) written) ≡ (new_code (plan_in file h) g t xs).bytes

-- some tiles of the box
abbrev pub AreInBox : List ℕ → Header → Given → List ℕ → Type 0
AreInBox file h g [] = ⊤
AreInBox file h g (t ∷ ts) = (t < tiles_in (plan_in file h)) × Contains (box_tiles (plan_in file h) g) t × AreInBox file h g ts

module _ (tiles : TileLaws) (file : List ℕ) (h : Header) (g : Given) (has : HasTarget file h) (can : CanRead (plan_in file h).codec (pos (pixel_bits (plan_in file h)))) (given : IsGivenFor (plan_in file h) g) where
  pub one_code : (t : ℕ) (xs : List ℤ) → t < tiles_in (plan_in file h) → RowStandsFor file h t xs → 1 ≤ length (new_code (plan_in file h) g t xs).bytes
  one_code t xs low row =
      (new_code_is tiles (plan_in file h) g t xs has.is.divided (writable (plan_in file h) can has.form.numbers) given low row.count row.means.pixels).elements.some

  pub have_bytes : (ts : List ℕ) (olds : List (List ℤ)) → AreInBox file h g ts → RowsHaveNumbers file h ts olds → HaveBytes (new_codes (plan_in file h) g ts olds)
  have_bytes [] [] box rows = tt
  have_bytes [] (xs ∷ more) box rows = absurd rows
  have_bytes (t ∷ ts) [] box rows = absurd rows
  have_bytes (t ∷ ts) (xs ∷ more) box rows = (one_code t xs box.0 rows.0, have_bytes ts more box.2 rows.1)

  pub rows_in_place : (written : List ℕ) (total offset : ℕ) (ts : List ℕ) (olds : List (List ℤ)) → AreInBox file h g ts → RowsHaveNumbers file h ts olds →
      (image_table file h).heap_len ≤ offset → offset + length (heap_of (new_codes (plan_in file h) g ts olds)) ≤ total →
      CodesAre written ((image_table file h).heap_at + offset) (new_codes (plan_in file h) g ts olds) →
      AreInPlace file h (image_table file h) (IsNewBytes file written h g total)
      (row_writes (image_table file h) (table_plan file h) offset (zip ts (new_codes (plan_in file h) g ts olds)))
  rows_in_place written total offset [] [] box rows low within codes = tt
  rows_in_place written total offset [] (xs ∷ more) box rows low within codes = absurd rows
  rows_in_place written total offset (t ∷ ts) [] box rows low within codes = absurd rows
  rows_in_place written total offset (t ∷ ts) (xs ∷ more) box rows low within codes =
      let p : Plan = plan_in file h in
      let table : Table = image_table file h in
      let e : TileCode = new_code p g t xs in
      let es : List TileCode = new_codes p g ts more in
      let all : length (heap_of (e ∷ es)) ≡ length e.bytes + length (heap_of es) = heap_length e es in
      let place : table.heap_at + offset + length e.bytes ≡ table.heap_at + (offset + length e.bytes) = omega arith in
      let here : IsNewBytes file written h g total t (row_of (table_plan file h) offset e) =
      record { xs = xs; offset = offset; row = rows.0; inside = box.1; is = refl; low = low; within = omega arith; code = codes.0 } in (
        inr (record {
          row = t;
          low = subst (λ n. t < n) (sym (rows_are file h has)) box.0;
          place = refl;
          long = row_len (table_plan file h) offset e ∙ sym (row_bytes_is file h has);
          is = here;
        }),
        rows_in_place written total (offset + length e.bytes) ts more box.2 rows.1 (omega arith) (omega arith) (subst (λ n. CodesAre written n es) place codes.1),
      )
