-- What is written for the tiles of an array that can be packed.
use Rattle.std.proofs.Common.{◌≡◌, ℕ, zero, suc, ◌+◌, ◌*◌, ◌/◌, ◌^◌, ◌<◌, ◌≤◌, ◌⊎◌, inl, inr, nat_lt, Bool, true, false, ℤ, pos, List, [], ◌∷◌, ◌++◌, length, map, All, slice_index_or, Option, Some, None, if◌then◌else◌, unsigned_abs, refl, sym, subst, ◌∙◌, ap, arith}
use Rattle.std.proofs.Math.Nat.{div-le_self, mul-le-mul}
use Rattle.std.proofs.lemmas.Bool.{cases_lt}
use Rattle.std.proofs.lemmas.List.{get_or-map, get_or_past, length-append, length-map}
use Rattle.std.proofs.lemmas.List.Concat.{length-flat_map}
use Rattle.std.proofs.lemmas.List.Sums.{sum_by-cons}
use Rattle.std.specs.List.{range_with_len, sum_by}
use Rattle.fz_bits.specs.Numbers.{IsNumber}
use Rattle.fz_grid.specs.Arrays.{NumberArray, coordinates_of, product}
use Rattle.fz_grid.specs.Division.{AreTileLengths, tile_places}
use Rattle.fz_grid.specs.Grid.{corner_of, lengths_from, tile, tile_corner, tile_count, tile_counts, tile_lengths}
use Rattle.fz_grid.specs.Laws.{TilesAreAtTheirPlaces, TilesHaveAllPixels, TilesHaveTheirPixels}
use Rattle.fz_grid.specs.Region.{lengths_of}
use Rattle.fz_tile.specs.Codecs.{CanWrite}
use Rattle.fz_tile.specs.Laws.{FillsColumn, HasPlainLen}
use Rattle.fz_tile.specs.Pixels.{IsBitpix}
use Rattle.fz_tile.specs.Plain.{plain_bytes}
use Rattle.fz_tile.specs.Record.{IsRecord}
use Rattle.fz_tile.specs.TileCode.{AreElements, TileCode, code_of, shorter, tile_code}
use Rattle.fz_tile.specs.declared.codec.Codec.{Codec}
use Rattle.fz_tile.specs.declared.codec.Codec.TheVariants.{Rice, Plio, Plain}
use Rattle.fz_tile.specs.declared.coded.Place2.TheVariants as place
use Rattle.fz_checks.specs.Greatest.{greatest}
use Rattle.fz_head.specs.PackedTable.{coded_unit}
use Rattle.fz_head.specs.Planned.{pixel_len}
use Rattle.fz_head.specs.declared.plan.Plan.{Plan}
use Rattle.fz_files.specs.Packed.{coded_count, heap_of, is_coded, pixel_bits, stored_count, tile_codes, tiles_in}
use Rattle.fz_files.specs.Restored.{is_plain_codec}

-- what is written for a tile is a record that stands for it, and for no other list of as many pixels
abbrev pub TileCodesHold : Type 0
TileCodesHold =
    (codec : Codec) (bitpix : ℕ) (xs : List ℤ) → CanWrite codec (pos bitpix) → 1 ≤ length xs → length xs ≤ 2 ^ 26 → All (IsNumber bitpix) xs →
    IsRecord codec bitpix (tile_code codec bitpix xs).place (length (tile_code codec bitpix xs).bytes) (tile_code codec bitpix xs).bytes xs

-- ---- one tile

-- what is written for a tile, in its column
pub record IsCodeOf (p : Plan) (xs : List ℤ) (e : TileCode) : Type 0 where
  pub elements : AreElements p.codec (pixel_bits p) (length xs) e
  pub holds : IsRecord p.codec (pixel_bits p) e.place (length e.bytes) e.bytes xs
  pub few : length e.bytes ≤ 8 * length xs
  pub coded : e.place ≡ place.Coded → is_plain_codec p.codec ≡ false
  pub stored : e.place ≡ place.Stored → length e.bytes ≡ pixel_bits p / 8 * length xs

-- a tile without a code is stored
has_code : (codec : Codec) (bitpix : ℕ) (xs : List ℤ) → (tile_code codec bitpix xs).place ≡ place.Coded → is_plain_codec codec ≡ false
has_code (Rice block bytepix) bitpix xs is = refl
has_code Plio bitpix xs is = refl
has_code Plain bitpix xs is = absurd cc

-- a stored tile is its plain bytes
is_plain : (code : Option (List ℕ)) (plain : List ℕ) → (shorter code plain).place ≡ place.Stored → (shorter code plain).bytes ≡ plain
is_plain None plain is = refl
is_plain (Some code) plain is = by_len (nat_lt (length code) (length plain)) is
  where
    picked : Bool → TileCode
    picked less = if less then record { place = place.Coded; bytes = code } else record { place = place.Stored; bytes = plain }

    by_len : (less : Bool) → (picked less).place ≡ place.Stored → (picked less).bytes ≡ plain
    by_len true is = absurd cc
    by_len false is = refl

-- a pixel has at most 8 bytes
pub eight_bytes : (bitpix : ℤ) → IsBitpix bitpix → unsigned_abs bitpix / 8 ≤ 8
eight_bytes bitpix (inl e) = rw e (omega arith)
eight_bytes bitpix (inr (inl e)) = rw e (omega arith)
eight_bytes bitpix (inr (inr (inl e))) = rw e (omega arith)
eight_bytes bitpix (inr (inr (inr e))) = rw e (omega arith)

pub code_is : TileCodesHold → FillsColumn → HasPlainLen → (p : Plan) (xs : List ℤ) → CanWrite p.codec (pos (pixel_bits p)) → pixel_bits p / 8 ≤ 8 → 1 ≤ length xs → length xs ≤ 2 ^ 26 →
    All (IsNumber (pixel_bits p)) xs → IsCodeOf p xs (tile_code p.codec (pixel_bits p) xs)
code_is hold fills lens p xs can eight some few all =
    let e : TileCode = tile_code p.codec (pixel_bits p) xs in
    let elements : AreElements p.codec (pixel_bits p) (length xs) e = fills p.codec (pixel_bits p) xs can some few in
    let most : length e.bytes ≤ pixel_bits p / 8 * length xs = elements.most in
    let times : pixel_bits p / 8 * length xs ≤ 8 * length xs = mul-le-mul eight (le_self (length xs)) in
    record {
      elements = elements;
      holds = hold p.codec (pixel_bits p) xs can some few all;
      few = omega arith;
      coded = has_code p.codec (pixel_bits p) xs;
      stored = λ is. ap length (is_plain (code_of p.codec xs) (plain_bytes (pixel_bits p) xs) is) ∙ lens (pixel_bits p) xs can.size;
    }
  where
    le_self : (n : ℕ) → n ≤ n
    le_self n = omega arith

-- ---- the tiles of an array

-- the pixels of a tile are numbers of the array
pub zero_is : (bitpix : ℕ) → IsBitpix (pos bitpix) → IsNumber bitpix (pos 0)
zero_is bitpix (inl e) = let same : bitpix ≡ 8 = cc in rw same (omega arith)
zero_is bitpix (inr (inl e)) = let same : bitpix ≡ 16 = cc in rw same (omega arith)
zero_is bitpix (inr (inr (inl e))) = let same : bitpix ≡ 32 = cc in rw same (omega arith)
zero_is bitpix (inr (inr (inr e))) = let same : bitpix ≡ 64 = cc in rw same (omega arith)

one_is : (P : ℤ → Type 0) (xs : List ℤ) (k : ℕ) → All P xs → P (pos 0) → P (slice_index_or xs k (pos 0))
one_is P xs k all none = by_place (cases_lt k (length xs))
  where
    by_place : (k < length xs) ⊎ (length xs ≤ k) → P (slice_index_or xs k (pos 0))
    by_place (inl less) = all k (pos 0) less
    by_place (inr past) = subst P (sym (get_or_past xs k (pos 0) past)) none

pub tile_is : TilesAreAtTheirPlaces → (P : ℤ → Type 0) (a : NumberArray) (lengths : List ℕ) (t : ℕ) → All P a.numbers → P (pos 0) → All P (tile a lengths t)
tile_is at P a lengths t all none =
    subst (All P) (sym (at a lengths t))
    (λ k d less.
    let places : List ℕ = tile_places a.lengths lengths t in
    let inside : k < length places = subst (λ n. k < n) (length-map places (λ place. slice_index_or a.numbers place (pos 0))) less in
    subst P (sym (get_or-map (λ place. slice_index_or a.numbers place (pos 0)) places k 0 d inside)) (one_is P a.numbers (slice_index_or places k 0) all none))

-- a tile has no more pixels than a whole one
coordinates_len : (ns : List ℕ) (k : ℕ) → length (coordinates_of ns k) ≡ length ns
coordinates_len [] k = refl
coordinates_len (n ∷ ns) k = ap suc (coordinates_len ns (k / n))

counts_len : (ns ts : List ℕ) → length ts ≡ length ns → length (tile_counts ns ts) ≡ length ns
counts_len [] ts same = refl
counts_len (n ∷ ns) [] same = absurd omega (arith, same)
counts_len (n ∷ ns) (t ∷ ts) same = ap suc (counts_len ns ts (omega (arith, same)))

corner_len : (ds ts : List ℕ) → length ds ≡ length ts → length (corner_of ds ts) ≡ length ts
corner_len [] [] same = refl
corner_len [] (t ∷ ts) same = absurd omega (arith, same)
corner_len (d ∷ ds) [] same = absurd omega (arith, same)
corner_len (d ∷ ds) (t ∷ ts) same = ap suc (corner_len ds ts (omega (arith, same)))

no_more : (ns ts cs : List ℕ) → length ts ≡ length ns → length cs ≡ length ns → product (lengths_from ns ts cs) ≤ product ts
no_more [] [] cs same same' = omega arith
no_more [] (t ∷ ts) cs same same' = absurd omega (arith, same)
no_more (n ∷ ns) [] cs same same' = absurd omega (arith, same)
no_more (n ∷ ns) (t ∷ ts) [] same same' = absurd omega (arith, same')
no_more (n ∷ ns) (t ∷ ts) (c ∷ cs) same same' = mul-le-mul (omega arith) (no_more ns ts cs (omega (arith, same)) (omega (arith, same')))

pub tile_no_more : (array lengths : List ℕ) (t : ℕ) → AreTileLengths array lengths → product (tile_lengths array lengths t) ≤ product lengths
tile_no_more array lengths t are =
    let counts : length (tile_counts array lengths) ≡ length array = counts_len array lengths are.axes in
    let numbers : length (coordinates_of (tile_counts array lengths) t) ≡ length lengths = coordinates_len (tile_counts array lengths) t ∙ (counts ∙ sym are.axes) in
    no_more array lengths (tile_corner array lengths t) are.axes (corner_len (coordinates_of (tile_counts array lengths) t) lengths numbers ∙ are.axes)

-- ---- the heap

-- bytes of the tiles from number a on, of which each has at most k for a pixel
heap_most : (f : ℕ → TileCode) (q : ℕ → ℕ) (k a n : ℕ) → ((t : ℕ) → a ≤ t → t < a + n → length (f t).bytes ≤ k * q t) →
    sum_by (λ (e : TileCode). length e.bytes) (map f (range_with_len a n)) ≤ k * sum_by q (range_with_len a n)
heap_most f q k a zero each = omega arith
heap_most f q k a (suc n) each =
    let rest : sum_by (λ (e : TileCode). length e.bytes) (map f (range_with_len (a + 1) n)) ≤ k * sum_by q (range_with_len (a + 1) n) =
    heap_most f q k (a + 1) n (λ t low high. each t (omega (arith, low)) (omega (arith, high))) in
    let here : length (f a).bytes ≤ k * q a = each a (omega arith) (omega arith) in
    let left : sum_by (λ (e : TileCode). length e.bytes) (map f (range_with_len a (suc n))) ≡ length (f a).bytes + sum_by (λ (e : TileCode). length e.bytes) (map f (range_with_len (a + 1) n)) =
    sum_by-cons (λ (e : TileCode). length e.bytes) (f a) (map f (range_with_len (a + 1) n)) in
    let right : sum_by q (range_with_len a (suc n)) ≡ q a + sum_by q (range_with_len (a + 1) n) = sum_by-cons q a (range_with_len (a + 1) n) in
    let whole : k * (q a + sum_by q (range_with_len (a + 1) n)) ≡ k * q a + k * sum_by q (range_with_len (a + 1) n) = grind arith in
    let same : k * sum_by q (range_with_len a (suc n)) ≡ k * (q a + sum_by q (range_with_len (a + 1) n)) = ap (λ s. k * s) right in
    omega arith

-- the heap has at most as many bytes as the plain bytes of the image
pub heap_within : TilesHaveAllPixels → TilesHaveTheirPixels → (p : Plan) (a : NumberArray) → AreTileLengths a.lengths (lengths_of p.tile) → a.lengths ≡ lengths_of p.shape →
    ((t : ℕ) → t < tiles_in p → length (tile_code p.codec (pixel_bits p) (tile a (lengths_of p.tile) t)).bytes ≤ pixel_bits p / 8 * length (tile a (lengths_of p.tile) t)) →
    length (heap_of (tile_codes p a)) ≤ pixel_bits p / 8 * product a.lengths
unfolding heap_of tile_codes
heap_within pixels lens p a are axes each =
    let f : ℕ → TileCode = λ t. tile_code p.codec (pixel_bits p) (tile a (lengths_of p.tile) t) in
    let q : ℕ → ℕ = λ t. product (tile_lengths a.lengths (lengths_of p.tile) t) in
    let most : sum_by (λ (e : TileCode). length e.bytes) (map f (range_with_len 0 (tiles_in p))) ≤ pixel_bits p / 8 * sum_by q (range_with_len 0 (tiles_in p)) =
    heap_most f q (pixel_bits p / 8) 0 (tiles_in p) (λ t low high. subst (λ n. length (f t).bytes ≤ pixel_bits p / 8 * n) (lens a (lengths_of p.tile) t) (each t (omega (arith, high)))) in
    let all : sum_by q (range_with_len 0 (tiles_in p)) ≡ product a.lengths = subst (λ l. sum_by q (range_with_len 0 (tile_count l (lengths_of p.tile))) ≡ product a.lengths) axes (pixels a.lengths (lengths_of p.tile) are) in
    subst (λ n. n ≤ pixel_bits p / 8 * product a.lengths) (sym (length-flat_map (λ (e : TileCode). e.bytes) (map f (range_with_len 0 (tiles_in p)))))
    (subst (λ n. sum_by (λ (e : TileCode). length e.bytes) (map f (range_with_len 0 (tiles_in p))) ≤ pixel_bits p / 8 * n) all most)

-- no count of elements is above the bytes of the heap
pub coded_within : (p : Plan) (e : TileCode) → coded_count p e ≤ length e.bytes
coded_within p e = by_place (is_coded e.place)
  where
    by_place : (coded : Bool) → (if coded then length e.bytes / coded_unit p.codec else 0) ≤ length e.bytes
    by_place true = div-le_self (length e.bytes) (coded_unit p.codec)
    by_place false = omega arith

pub stored_within : (p : Plan) (e : TileCode) → stored_count p e ≤ length e.bytes
stored_within p e = by_place (is_coded e.place)
  where
    by_place : (coded : Bool) → (if coded then 0 else length e.bytes / pixel_len p.bitpix) ≤ length e.bytes
    by_place true = omega arith
    by_place false = div-le_self (length e.bytes) (pixel_len p.bitpix)

pub greatest_within : (count : TileCode → ℕ) (es : List TileCode) → ((e : TileCode) → count e ≤ length e.bytes) → greatest (map count es) ≤ length (heap_of es)
unfolding heap_of
greatest_within count [] each = omega arith
greatest_within count (e ∷ es) each =
    let rest : greatest (map count es) ≤ length (heap_of es) = greatest_within count es each in
    let here : count e ≤ length e.bytes = each e in
    let both : length (e.bytes ++ heap_of es) ≡ length e.bytes + length (heap_of es) = length-append e.bytes (heap_of es) in
    omega arith
