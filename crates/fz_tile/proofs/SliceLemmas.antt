-- Slices of pixels, of their bytes and of their places.
use Rattle.std.proofs.Common.{◌≡◌, ℕ, zero, suc, ◌+◌, ◌-◌, ◌*◌, ◌/◌, ◌<◌, ◌≤◌, ◌==◌, Bool, true, false, ℤ, List, [], ◌∷◌, ◌++◌, length, take, drop, inl, inr, refl, sym, ap, ◌∙◌, arith}
use Rattle.std.specs.List.{flat_map, All}
use Rattle.std.proofs.lemmas.Bool.{cases_lt}
use Rattle.std.proofs.lemmas.List.{drop-drop, drop-take, take-take, get_or_past}
use Rattle.std.proofs.lemmas.List.Elements.{All-take, All-drop}
use Rattle.std.proofs.Math.Nat.{mul-suc, mul-zero}
use Rattle.std.proofs.Math.Seq.{take-nil, drop-nil, take-append-add, drop-append-add}
use Rattle.fz_bits.specs.Numbers.{IsNumber}
use Rattle.fz_tile.specs.Plain.{pixel_bytes, pixel_of, plain_bytes, stored_pixels}
use Rattle.fz_tile.specs.Pixels.{halves, places, place_count, HoldPixels}
use Rattle.fz_tile.proofs.PixelLemmas.{AreBytes, IsSize, length-pixel_bytes}
use Rattle.fz_tile.proofs.PlainLemmas.{pixels_at, stored-is}

-- a list of bytes has bytes at all places
pub bytes-all : (bytes : List ℕ) → All (λ byte. byte < 256) bytes → AreBytes bytes
bytes-all bytes all i = elim (cases_lt i (length bytes)) [
  | inl within ↦ all i 0 within
  | inr past ↦ rw (get_or_past bytes i 0 past) (omega arith)
]

module _ {X Y : Type 0} (f : X → List Y) (k : ℕ) (size : (x : X) → length (f x) ≡ k) where
  next : (n : ℕ) (x : X) → k * suc n ≡ length (f x) + k * n
  next n x = omega (arith, mul-suc k n, size x)

  -- the first of what each element gives k of
  pub take-flat : (n : ℕ) (xs : List X) → flat_map f (take n xs) ≡ take (k * n) (flat_map f xs)
  take-flat zero xs = sym (ap (λ m. take m (flat_map f xs)) (mul-zero k))
  take-flat (suc n) [] = sym (take-nil (k * suc n))
  take-flat (suc n) (x ∷ xs) =
      ap (λ l. f x ++ l) (take-flat n xs)
      ∙ sym (take-append-add (f x) (flat_map f xs) (k * n))
      ∙ ap (λ m. take m (f x ++ flat_map f xs)) (sym (next n x))

  -- and what is after them
  pub drop-flat : (n : ℕ) (xs : List X) → flat_map f (drop n xs) ≡ drop (k * n) (flat_map f xs)
  drop-flat zero xs = sym (ap (λ m. drop m (flat_map f xs)) (mul-zero k))
  drop-flat (suc n) [] = sym (drop-nil (k * suc n))
  drop-flat (suc n) (x ∷ xs) =
      drop-flat n xs
      ∙ sym (drop-append-add (f x) (flat_map f xs) (k * n))
      ∙ ap (λ m. drop m (f x ++ flat_map f xs)) (sym (next n x))

  pub slice-flat : (i n : ℕ) (xs : List X) → flat_map f (take n (drop i xs)) ≡ take (k * n) (drop (k * i) (flat_map f xs))
  slice-flat i n xs = take-flat n (drop i xs) ∙ ap (take (k * n)) (drop-flat i xs)

pub slices-bytes : (b i n : ℕ) (xs : List ℤ) → IsSize b → plain_bytes b (take n (drop i xs)) ≡ take (b / 8 * n) (drop (b / 8 * i) (plain_bytes b xs))
slices-bytes b i n xs size = slice-flat (pixel_bytes b) (b / 8) (λ x. length-pixel_bytes b x size) i n xs

-- the pixels after the first i
drop-pixels_at : (b k i count m : ℕ) (bs : List ℕ) → count ≡ i + m → drop i (pixels_at b k count bs) ≡ pixels_at b k m (drop (k * i) bs)
unfolding pixels_at
drop-pixels_at b k zero count m bs is =
    let same : count ≡ m = omega (arith, is) in
    ap (λ c. pixels_at b k c bs) same ∙ ap (λ j. pixels_at b k m (drop j bs)) (sym (mul-zero k))
drop-pixels_at b k (suc i) zero m bs is = absurd (omega (arith, is))
drop-pixels_at b k (suc i) (suc count) m bs is =
    let next : k + k * i ≡ k * suc i = omega (arith, mul-suc k i) in
    let before : count ≡ i + m = omega (arith, is) in
    drop-pixels_at b k i count m (drop k bs) before ∙ ap (pixels_at b k m) (drop-drop (k * i) k bs ∙ ap (λ j. drop j bs) next)

-- the first n of them
take-pixels_at : (b k n count : ℕ) (bs : List ℕ) → n ≤ count → take n (pixels_at b k count bs) ≡ pixels_at b k n bs
unfolding pixels_at
take-pixels_at b k zero count bs le = refl
take-pixels_at b k (suc n) zero bs le = absurd (omega (arith, le))
take-pixels_at b k (suc n) (suc count) bs le = ap (λ l. pixel_of b (take k bs) ∷ l) (take-pixels_at b k n count (drop k bs) (omega (arith, le)))

-- are stored in the first bytes
pixels_at-take : (b k n : ℕ) (bs : List ℕ) → pixels_at b k n bs ≡ pixels_at b k n (take (k * n) bs)
unfolding pixels_at
pixels_at-take b k zero bs = refl
pixels_at-take b k (suc n) bs =
    let next : k * suc n ≡ k + k * n = omega (arith, mul-suc k n) in
    let front : take k (take (k * suc n) bs) ≡ take k bs = take-take k (k * suc n) bs (omega arith) in
    let behind : drop k (take (k * suc n) bs) ≡ take (k * n) (drop k bs) = ap (λ m. drop k (take m bs)) next ∙ drop-take k (k * n) bs in
    λ i. pixel_of b (sym front i) ∷ (pixels_at-take b k n (drop k bs) ∙ ap (pixels_at b k n) (sym behind)) i

pub slices-pixels : (b i n count : ℕ) (bs : List ℕ) → i + n ≤ count → take n (drop i (stored_pixels b count bs)) ≡ stored_pixels b n (take (b / 8 * n) (drop (b / 8 * i) bs))
slices-pixels b i n count bs within =
    let k = b / 8 in
    let back = drop (k * i) bs in
    ap (λ l. take n (drop i l)) (stored-is b count bs)
    ∙ ap (take n) (drop-pixels_at b k i count (count - i) bs (omega (arith, within)))
    ∙ take-pixels_at b k n (count - i) back (omega (arith, within))
    ∙ pixels_at-take b k n back
    ∙ sym (stored-is b n (take (k * n) back))

-- the places of a slice
places-slice : (b i n : ℕ) (xs : List ℤ) (wide : Bool) → (b == 64) ≡ wide → places b (take n (drop i xs)) ≡ take (place_count b n) (drop (place_count b i) (places b xs))
places-slice b i n xs true is = rw is (slice-flat halves 2 (λ x. refl) i n xs)
places-slice b i n xs false is = rw is refl

pub slices-places : (b i n : ℕ) (numbers xs : List ℤ) → HoldPixels b numbers xs → HoldPixels b (take (place_count b n) (drop (place_count b i) numbers)) (take n (drop i xs))
slices-places b i n numbers xs hold = record {
  pixels = All-take (IsNumber b) n (drop i xs) (All-drop (IsNumber b) i xs hold.pixels);
  are = ap (λ (l : List ℤ). take (place_count b n) (drop (place_count b i) l)) hold.are ∙ sym (places-slice b i n xs (b == 64) refl);
}
