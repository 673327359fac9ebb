-- What is written for the new numbers of a tile.
use Rattle.std.proofs.Common.{◌≡◌, ℕ, suc, ◌+◌, ◌*◌, ◌/◌, ◌^◌, ◌<◌, ◌≤◌, ◌⊎◌, ◌==◌, inl, inr, nat_lt, Bool, true, false, ℤ, pos, List, [], ◌∷◌, length, zip, map, All, slice_index_or, Option, Some, None, if◌then◌else◌, cond, unsigned_abs, refl, sym, subst, ◌∙◌, ap, arith, eqb-true}
use Rattle.std.proofs.Math.Nat.{mul-le-mul}
use Rattle.std.proofs.lemmas.Bool.{cases_lt}
use Rattle.std.proofs.lemmas.List.{get_or_past}
use Rattle.std.proofs.lemmas.List.Elements.{All-cons, All-head, All-nil, All-tail}
use Rattle.fz_bits.specs.Numbers.{IsNumber}
use Rattle.fz_grid.specs.Arrays.{at, product}
use Rattle.fz_grid.specs.Division.{AreTileLengths}
use Rattle.fz_grid.specs.Grid.{tile_coordinates, tile_lengths}
use Rattle.fz_grid.specs.Laws.{DividedArraysHaveTiles, TilesHaveAPixel, TilesHaveAtMostTheirLengths}
use Rattle.fz_grid.specs.Region.{IsDivided, lengths_of}
use Rattle.fz_tile.specs.Codecs.{CanRead, CanWrite, ReadsCodes, WritesCodes}
use Rattle.fz_tile.specs.Laws.{FillsColumn, HasPlainLen}
use Rattle.fz_tile.specs.Pixels.{IsBitpix}
use Rattle.fz_tile.specs.Plain.{plain_bytes}
use Rattle.fz_tile.specs.Record.{IsRecord}
use Rattle.fz_tile.specs.TileCode.{AreElements, TileCode, code_of, shorter, tile_code}
use Rattle.fz_tile.specs.declared.codec.Codec.{Codec}
use Rattle.fz_tile.specs.declared.codec.Codec.TheVariants.{Rice, Plio, Plain}
use Rattle.fz_tile.specs.declared.coded.Place2.TheVariants as place
use Rattle.fz_head.specs.declared.plan.Plan.{Plan}
use Rattle.fz_files.specs.Packed.{pixel_bits, tiles_in}
use Rattle.fz_files.specs.Restored.{is_plain_codec, pixels_of}
use Rattle.fz_laws.specs.PatchForm.{has_pixel_codes}
use Rattle.fz_laws.specs.Given.{Given}
use Rattle.fz_laws.specs.PatchLaws.{IsGivenFor}
use Rattle.fz_laws.specs.NewNumbers.{from_corner, is_in_box, new_at, new_number, new_numbers}
use Rattle.fz_laws.specs.PatchTaken.{PlaceLaws, TileCodesHold, TileLaws}
use Rattle.fz_laws.proofs.NewBoxes.{coordinates_count}

-- ---- one tile

-- what is written for a tile, in its column
pub record IsCodeOf (p : Plan) (xs : List ℤ) (e : TileCode) : Type 0 where
  pub elements : AreElements p.codec (pixel_bits p) (length xs) e
  pub holds : IsRecord p.codec (pixel_bits p) e.place (length e.bytes) e.bytes xs
  pub few : length e.bytes ≤ 8 * length xs
  pub coded : e.place ≡ place.Coded → is_plain_codec p.codec ≡ false
  pub stored : e.place ≡ place.Stored → length e.bytes ≡ pixel_bits p / 8 * length xs

-- a tile without a code is stored
has_code : (codec : Codec) (bitpix : ℕ) (xs : List ℤ) → (tile_code codec bitpix xs).place ≡ place.Coded → is_plain_codec codec ≡ false
has_code (Rice block bytepix) bitpix xs is = refl
has_code Plio bitpix xs is = refl
has_code Plain bitpix xs is = absurd cc

-- a stored tile is its plain bytes
is_plain : (code : Option (List ℕ)) (plain : List ℕ) → (shorter code plain).place ≡ place.Stored → (shorter code plain).bytes ≡ plain
is_plain None plain is = refl
is_plain (Some code) plain is = by_len (nat_lt (length code) (length plain)) is
  where
    picked : Bool → TileCode
    picked less = if less then record { place = place.Coded; bytes = code } else record { place = place.Stored; bytes = plain }

    by_len : (less : Bool) → (picked less).place ≡ place.Stored → (picked less).bytes ≡ plain
    by_len true is = absurd cc
    by_len false is = refl

-- a pixel has at most 8 bytes
eight_bytes : (bits : ℕ) → IsBitpix (pos bits) → bits / 8 ≤ 8
eight_bytes bits (inl e) = let same : bits ≡ 8 = cc in rw same (omega arith)
eight_bytes bits (inr (inl e)) = let same : bits ≡ 16 = cc in rw same (omega arith)
eight_bytes bits (inr (inr (inl e))) = let same : bits ≡ 32 = cc in rw same (omega arith)
eight_bytes bits (inr (inr (inr e))) = let same : bits ≡ 64 = cc in rw same (omega arith)

code_is : TileCodesHold → FillsColumn → HasPlainLen → (p : Plan) (xs : List ℤ) → CanWrite p.codec (pos (pixel_bits p)) → 1 ≤ length xs → length xs ≤ 2 ^ 26 →
    All (IsNumber (pixel_bits p)) xs → IsCodeOf p xs (tile_code p.codec (pixel_bits p) xs)
code_is hold fills lens p xs can some few all =
    let e : TileCode = tile_code p.codec (pixel_bits p) xs in
    let elements : AreElements p.codec (pixel_bits p) (length xs) e = fills p.codec (pixel_bits p) xs can some few in
    let most : length e.bytes ≤ pixel_bits p / 8 * length xs = elements.most in
    let times : pixel_bits p / 8 * length xs ≤ 8 * length xs = mul-le-mul (eight_bytes (pixel_bits p) can.size) (le_self (length xs)) in
    record {
      elements = elements;
      holds = hold p.codec (pixel_bits p) xs can some few all;
      few = omega arith;
      coded = has_code p.codec (pixel_bits p) xs;
      stored = λ is. ap length (is_plain (code_of p.codec xs) (plain_bytes (pixel_bits p) xs) is) ∙ lens (pixel_bits p) xs can.size;
    }
  where
    le_self : (n : ℕ) → n ≤ n
    le_self n = omega arith

-- tiles that can be read can be written, if the numbers of a code are as long as a pixel
pub writable : (p : Plan) → CanRead p.codec (pos (pixel_bits p)) → has_pixel_codes p.codec p.bitpix ≡ true → CanWrite p.codec (pos (pixel_bits p))
writable p can long = record { size = can.size; plain = can.plain; codes = by_codec p.codec can.codes long }
  where
    by_codec : (codec : Codec) → ReadsCodes codec → has_pixel_codes codec p.bitpix ≡ true → WritesCodes codec (pixel_bits p)
    by_codec (Rice block bytepix) reads e = (reads.0, eqb-true bytepix (pixel_bits p / 8) e)
    by_codec Plio reads e = tt
    by_codec Plain reads e = tt

-- ---- the new numbers

zero_is : (bits : ℕ) → IsBitpix (pos bits) → IsNumber bits (pos 0)
zero_is bits (inl e) = let same : bits ≡ 8 = cc in rw same (omega arith)
zero_is bits (inr (inl e)) = let same : bits ≡ 16 = cc in rw same (omega arith)
zero_is bits (inr (inr (inl e))) = let same : bits ≡ 32 = cc in rw same (omega arith)
zero_is bits (inr (inr (inr e))) = let same : bits ≡ 64 = cc in rw same (omega arith)

one_is : (P : ℤ → Type 0) (xs : List ℤ) (k : ℕ) → All P xs → P (pos 0) → P (slice_index_or xs k (pos 0))
one_is P xs k all none = by_place (cases_lt k (length xs))
  where
    by_place : (k < length xs) ⊎ (length xs ≤ k) → P (slice_index_or xs k (pos 0))
    by_place (inl less) = all k (pos 0) less
    by_place (inr past) = subst P (sym (get_or_past xs k (pos 0) past)) none

new_is : (P : ℤ → Type 0) (g : Given) (c : List ℕ) (x : ℤ) → All P g.array.numbers → P (pos 0) → P x → P (new_number g c x)
new_is P g c x given none old = by_test (is_in_box g.corner g.array.lengths c)
  where
    by_test : (b : Bool) → P (if b then at g.array (from_corner g.corner c) else x)
    by_test true = one_is P g.array.numbers _ given none
    by_test false = old

new_are : (P : ℤ → Type 0) (g : Given) (cs : List (List ℕ)) (xs : List ℤ) → All P g.array.numbers → P (pos 0) → All P xs → All P (new_at g cs xs)
new_are P g [] xs given none olds = All-nil P
new_are P g (c ∷ cs) [] given none olds = All-nil P
new_are P g (c ∷ cs) (x ∷ xs) given none olds =
    All-cons P (new_number g c x) (new_at g cs xs) (new_is P g c x given none (All-head P x xs olds)) (new_are P g cs xs given none (All-tail P x xs olds))

new_length : (g : Given) (cs : List (List ℕ)) (xs : List ℤ) → length cs ≡ length xs → length (new_at g cs xs) ≡ length xs
new_length g [] [] same = refl
new_length g [] (x ∷ xs) same = absurd (omega arith)
new_length g (c ∷ cs) [] same = absurd (omega arith)
new_length g (c ∷ cs) (x ∷ xs) same = ap suc (new_length g cs xs (omega arith))

pub new_count : PlaceLaws → (p : Plan) (g : Given) (t : ℕ) (xs : List ℤ) → length xs ≡ pixels_of p t → length (new_numbers p g t xs) ≡ length xs
new_count places p g t xs count =
    new_length g (tile_coordinates (lengths_of p.shape) (lengths_of p.tile) t) xs (coordinates_count places (lengths_of p.shape) (lengths_of p.tile) t ∙ sym count)

pub new_code_is : TileLaws → (p : Plan) (g : Given) (t : ℕ) (xs : List ℤ) → IsDivided p.shape p.tile → CanWrite p.codec (pos (pixel_bits p)) → IsGivenFor p g → t < tiles_in p →
    length xs ≡ pixels_of p t → All (IsNumber (pixel_bits p)) xs → IsCodeOf p (new_numbers p g t xs) (tile_code p.codec (pixel_bits p) (new_numbers p g t xs))
new_code_is laws p g t xs divided can given within count olds =
    let are : AreTileLengths (lengths_of p.shape) (lengths_of p.tile) = laws.tiles p.shape p.tile divided in
    let same : length (new_numbers p g t xs) ≡ length xs = new_count laws.places p g t xs count in
    let some : 1 ≤ pixels_of p t = laws.some (lengths_of p.shape) (lengths_of p.tile) t are within in
    let whole : pixels_of p t ≤ product (lengths_of p.tile) = laws.most (lengths_of p.shape) (lengths_of p.tile) t are.axes in
    let few : product (lengths_of p.tile) ≤ 2 ^ 26 = divided.tile_pixels in
    code_is laws.hold laws.fills laws.lens p (new_numbers p g t xs) can (omega (arith, same, count, some)) (omega (arith, same, count, whole, few))
    (new_are (IsNumber (pixel_bits p)) g (tile_coordinates (lengths_of p.shape) (lengths_of p.tile) t) xs given.numbers (zero_is (pixel_bits p) can.size) olds)
