-- Where a piece of a line is read from, and where it goes (FITS 4.0, sections 3.3.2 and 5.2).
use Rattle.std.proofs.Common.{◌≡◌, inl, inr, ℕ, ◌+◌, ◌-◌, ◌*◌, ◌/◌, ◌≤◌, ℤ, List, ◌++◌, length, take, drop, unsigned_abs, w32, of_z, to_z, refl, sym, ap, subst, ◌∙◌, arith}
use Rattle.std.proofs.Math.Nat.{mul-le-mul_left, mul-one}
use Rattle.std.proofs.lemmas.List.{drop-drop, length-drop, length-take-le}
use Rattle.fz_tile.specs.Pixels.{HoldWhole, IsBitpix, pixel_count, place_count}
use Rattle.fz_target.proofs.Pieces.{count_both, count_pixels, count_twice}

-- BITPIX as a number of 32 bits
pub back_of : (bitpix : ℤ) → IsBitpix bitpix → to_z w32 (of_z w32 bitpix) ≡ bitpix
back_of bitpix (inl e) = subst (λ (z : ℤ). to_z w32 (of_z w32 z) ≡ z) (sym e) refl
back_of bitpix (inr (inl e)) = subst (λ (z : ℤ). to_z w32 (of_z w32 z) ≡ z) (sym e) refl
back_of bitpix (inr (inr (inl e))) = subst (λ (z : ℤ). to_z w32 (of_z w32 z) ≡ z) (sym e) refl
back_of bitpix (inr (inr (inr e))) = subst (λ (z : ℤ). to_z w32 (of_z w32 z) ≡ z) (sym e) refl

-- the bytes of a pixel: at most eight
pub size_is : (bitpix : ℤ) (size : ℕ) → IsBitpix bitpix → size ≡ unsigned_abs (to_z w32 (of_z w32 bitpix)) / 8 * 1 → size ≡ unsigned_abs bitpix / 8
size_is bitpix size is e = e ∙ (ap (λ (z : ℤ). unsigned_abs z / 8 * 1) (back_of bitpix is) ∙ mul-one (unsigned_abs bitpix / 8))

pub size_few : (bitpix : ℤ) → IsBitpix bitpix → (1 ≤ unsigned_abs bitpix / 8) × (unsigned_abs bitpix / 8 ≤ 8)
size_few bitpix (inl e) =
    let both : (1 ≤ 1) × (1 ≤ 8) = (omega arith, omega arith) in
    subst (λ (z : ℤ). (1 ≤ unsigned_abs z / 8) × (unsigned_abs z / 8 ≤ 8)) (sym e) both
size_few bitpix (inr (inl e)) =
    let both : (1 ≤ 2) × (2 ≤ 8) = (omega arith, omega arith) in
    subst (λ (z : ℤ). (1 ≤ unsigned_abs z / 8) × (unsigned_abs z / 8 ≤ 8)) (sym e) both
size_few bitpix (inr (inr (inl e))) =
    let both : (1 ≤ 4) × (4 ≤ 8) = (omega arith, omega arith) in
    subst (λ (z : ℤ). (1 ≤ unsigned_abs z / 8) × (unsigned_abs z / 8 ≤ 8)) (sym e) both
size_few bitpix (inr (inr (inr e))) =
    let both : (1 ≤ 8) × (8 ≤ 8) = (omega arith, omega arith) in
    subst (λ (z : ℤ). (1 ≤ unsigned_abs z / 8) × (unsigned_abs z / 8 ≤ 8)) (sym e) both

-- ---- the places of the piece

pub places_end : (bits to count : ℕ) (ns : List ℤ) → 2 * (to + count) ≤ length ns → place_count bits (to + count) ≤ length ns
places_end bits to count ns room = omega (arith, count_twice bits (to + count), room)

pub slice_long : (bits to count : ℕ) (ns : List ℤ) → 2 * (to + count) ≤ length ns →
    length (take (place_count bits (to + count) - place_count bits to) (drop (place_count bits to) ns)) ≡ place_count bits count
slice_long bits to count ns room =
    let both = count_both bits to count in
    let last = places_end bits to count ns room in
    let left = length-drop (place_count bits to) ns in
    let size : place_count bits (to + count) - place_count bits to ≡ place_count bits count = omega (arith, both) in
    ap (λ n. length (take n (drop (place_count bits to) ns))) size
    ∙ length-take-le (place_count bits count) (drop (place_count bits to) ns) (omega (arith, both, last, left))

pub places_slice : (bits to count first end : ℕ) (ns : List ℤ) → first ≡ place_count bits to → end ≡ place_count bits (to + count) → 2 * (to + count) ≤ length ns →
    length (take (end - first) (drop first ns)) ≡ place_count bits count
places_slice bits to count first end ns low high room = (λ i. length (take (high i - low i) (drop (low i) ns))) ∙ slice_long bits to count ns room

-- they hold whole pixels
pub slice_pixels : (bits count n : ℕ) → n ≡ place_count bits count → pixel_count bits n ≡ count
slice_pixels bits count n is = ap (pixel_count bits) is ∙ count_pixels bits count

pub slice_whole : (bits count n : ℕ) → n ≡ place_count bits count → HoldWhole bits n
slice_whole bits count n is = is ∙ ap (place_count bits) (sym (slice_pixels bits count n is))

-- what was written between two places is put back
pub put_back : (first end : ℕ) (ns part : List ℤ) → first ≤ end → take first ns ++ (part ++ drop (end - first) (drop first ns)) ≡ take first ns ++ (part ++ drop end ns)
put_back first end ns part less =
    let place : first + (end - first) ≡ end = omega (arith, less) in
    ap (λ l. take first ns ++ (part ++ l)) (drop-drop (end - first) first ns ∙ ap (λ n. drop n ns) place)

-- ---- pieces that fit a buffer

pub pieces_some : (bitpix : ℤ) (room : ℕ) → IsBitpix bitpix → 4096 ≤ room → (1 ≤ room / (unsigned_abs bitpix / 8)) × (unsigned_abs bitpix / 8 * (room / (unsigned_abs bitpix / 8)) ≤ room)
pieces_some bitpix room (inl e) few =
    let both : (1 ≤ room / 1) × (1 * (room / 1) ≤ room) = (omega (arith, few), omega (arith, few)) in
    subst (λ (z : ℤ). (1 ≤ room / (unsigned_abs z / 8)) × (unsigned_abs z / 8 * (room / (unsigned_abs z / 8)) ≤ room)) (sym e) both
pieces_some bitpix room (inr (inl e)) few =
    let both : (1 ≤ room / 2) × (2 * (room / 2) ≤ room) = (omega (arith, few), omega (arith, few)) in
    subst (λ (z : ℤ). (1 ≤ room / (unsigned_abs z / 8)) × (unsigned_abs z / 8 * (room / (unsigned_abs z / 8)) ≤ room)) (sym e) both
pieces_some bitpix room (inr (inr (inl e))) few =
    let both : (1 ≤ room / 4) × (4 * (room / 4) ≤ room) = (omega (arith, few), omega (arith, few)) in
    subst (λ (z : ℤ). (1 ≤ room / (unsigned_abs z / 8)) × (unsigned_abs z / 8 * (room / (unsigned_abs z / 8)) ≤ room)) (sym e) both
pieces_some bitpix room (inr (inr (inr e))) few =
    let both : (1 ≤ room / 8) × (8 * (room / 8) ≤ room) = (omega (arith, few), omega (arith, few)) in
    subst (λ (z : ℤ). (1 ≤ room / (unsigned_abs z / 8)) × (unsigned_abs z / 8 * (room / (unsigned_abs z / 8)) ≤ room)) (sym e) both

-- a piece of no more pixels fits too
pub piece_fits : (w n most room : ℕ) → n ≤ most → w * most ≤ room → w * n ≤ room
piece_fits w n most room less fits =
    let low : w * n ≤ w * most = mul-le-mul_left w less in
    omega (arith, low, fits)
