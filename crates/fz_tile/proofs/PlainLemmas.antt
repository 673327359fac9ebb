-- Pixels and their bytes, one after another.
use Rattle.std.proofs.Common.{◌≡◌, ℕ, zero, suc, ◌+◌, ◌*◌, ◌/◌, ◌<◌, ◌≤◌, ℤ, pos, negsuc, List, [], ◌∷◌, ◌++◌, length, get_or, map, take, drop, inl, inr, refl, sym, subst, ap, ◌∙◌, arith, length-append, length-drop, add-one, set, FitsSigned, to_z, of_z}
use Rattle.std.specs.Int.{w16, w32}
use Rattle.std.proofs.lemmas.Int.{to_z-of_z}
use Rattle.std.proofs.lemmas.Grind.{common_steps}
use Rattle.std.specs.List.{flat_map, range_with_len, All, AllByRecursion}
use Rattle.std.proofs.lemmas.List.{get_or-set_other, get_or-set_same, get_or-take, get_or-drop, drop-drop, length-take-le, take-append-drop, take-append-le, drop-append-le, take_all, drop_all, get_or_past, length-take}
use Rattle.std.proofs.Math.Nat.{mul-suc, mul-zero}
use Rattle.std.proofs.lemmas.List.FromFn.{length-map-range_with_len}
use Rattle.std.proofs.lemmas.List.Elements.{All-from_recursion, recursion_from_All}
use Rattle.std.proofs.lemmas.Bool.{cases_eq, cases_lt}
use Rattle.fz_bits.specs.Numbers.{IsNumber}
use Rattle.fz_tile.specs.Plain.{pixel_bytes, pixel_of, plain_bytes, stored_pixels}
use Rattle.fz_tile.specs.Pixels.{upper_half, lower_half, halves}
use Rattle.fz_tile.proofs.PixelLemmas.{AreBytes, IsSize, bytes-pixel_of, pixel_of-bytes, pixel_of-number, length-pixel_bytes, lower-number, upper-number, bytes-halves}

pub bytes-take : (k : ℕ) (bs : List ℕ) → AreBytes bs → AreBytes (take k bs)
bytes-take k bs small i = elim (cases_lt i k) [
  | inl below ↦ rw (get_or-take k bs i 0 below) (small i)
  | inr past ↦ rw (get_or_past (take k bs) i 0 (omega (arith, length-take k bs))) (omega arith)
]

pub bytes-drop : (k : ℕ) (bs : List ℕ) → AreBytes bs → AreBytes (drop k bs)
bytes-drop k bs small i = rw get_or-drop (small (k + i))

-- the pixels one by one, k bytes each
unfoldable pub pixels_at : (b k n : ℕ) → List ℕ → List ℤ
pixels_at b k zero bs = []
pixels_at b k (suc n) bs = pixel_of b (take k bs) ∷ pixels_at b k n (drop k bs)

stored-pixels_at : (b k s n : ℕ) (bs : List ℕ) → map (λ i. pixel_of b (take k (drop (k * i) bs))) (range_with_len s n) ≡ pixels_at b k n (drop (k * s) bs)
unfolding pixels_at
stored-pixels_at b k s zero bs = refl
stored-pixels_at b k s (suc n) bs =
    let next : k * s + k ≡ k * (s + 1) = sym (ap (λ m. k * m) (add-one s) ∙ mul-suc k s) in
    λ i. pixel_of b (take k (drop (k * s) bs)) ∷ (stored-pixels_at b k (s + 1) n bs ∙ ap (pixels_at b k n) (ap (λ m. drop m bs) (sym next) ∙ sym (drop-drop k (k * s) bs))) i

pub stored-is : (b n : ℕ) (bs : List ℕ) → stored_pixels b n bs ≡ pixels_at b (b / 8) n bs
stored-is b n bs = stored-pixels_at b (b / 8) 0 n bs ∙ ap (λ m. pixels_at b (b / 8) n (drop m bs)) (mul-zero (b / 8))

plain-pixels_at : (b n : ℕ) (bs : List ℕ) → IsSize b → length bs ≡ b / 8 * n → AreBytes bs → plain_bytes b (pixels_at b (b / 8) n bs) ≡ bs
unfolding pixels_at
plain-pixels_at b zero [] size len small = refl
plain-pixels_at b zero (x ∷ bs) size len small = absurd (omega (arith, len, mul-zero (b / 8)))
plain-pixels_at b (suc n) bs size len small =
    let k = b / 8 in
    let whole : length bs ≡ k * n + k = len ∙ mul-suc k n in
    let room : k ≤ length bs = omega arith in
    let front : length (take k bs) ≡ k = length-take-le k bs room in
    let rest : length (drop k bs) ≡ k * n = length-drop k bs ∙ omega arith in
    ap (λ l. l ++ plain_bytes b (pixels_at b k n (drop k bs))) (bytes-pixel_of b (take k bs) size front (bytes-take k bs small))
    ∙ ap (λ l. take k bs ++ l) (plain-pixels_at b n (drop k bs) size rest (bytes-drop k bs small))
    ∙ take-append-drop k bs

-- the plain bytes of the pixels that bytes store are these bytes
pub plain-stored : (b n : ℕ) (bs : List ℕ) → IsSize b → length bs ≡ b / 8 * n → AreBytes bs → plain_bytes b (stored_pixels b n bs) ≡ bs
plain-stored b n bs size len small = ap (plain_bytes b) (stored-is b n bs) ∙ plain-pixels_at b n bs size len small

pub length-plain : (b : ℕ) (xs : List ℤ) → IsSize b → length (plain_bytes b xs) ≡ b / 8 * length xs
length-plain b [] size = sym (mul-zero (b / 8))
length-plain b (x ∷ xs) size = length-append (pixel_bytes b x) (plain_bytes b xs) ∙ omega (arith, length-pixel_bytes b x size, length-plain b xs size, mul-suc (b / 8) (length xs))

pixels_at-plain : (b : ℕ) (xs : List ℤ) → IsSize b → AllByRecursion (IsNumber b) xs → pixels_at b (b / 8) (length xs) (plain_bytes b xs) ≡ xs
unfolding pixels_at
pixels_at-plain b [] size all = refl
pixels_at-plain b (x ∷ xs) size all =
    let k = b / 8 in
    let len : length (pixel_bytes b x) ≡ k = length-pixel_bytes b x size in
    let front : take k (plain_bytes b (x ∷ xs)) ≡ pixel_bytes b x = take-append-le k (pixel_bytes b x) (plain_bytes b xs) (omega arith) ∙ take_all k (pixel_bytes b x) (omega arith) in
    let behind : drop k (plain_bytes b (x ∷ xs)) ≡ plain_bytes b xs = drop-append-le k (pixel_bytes b x) (plain_bytes b xs) (omega arith) ∙ ap (λ l. l ++ plain_bytes b xs) (drop_all k (pixel_bytes b x) (omega arith)) in
    λ i. (ap (pixel_of b) front ∙ pixel_of-bytes b x size all.0) i ∷ (ap (pixels_at b k (length xs)) behind ∙ pixels_at-plain b xs size all.1) i

-- the pixels that plain bytes store are the pixels
pub stored-plain : (b : ℕ) (xs : List ℤ) → IsSize b → All (IsNumber b) xs → stored_pixels b (length xs) (plain_bytes b xs) ≡ xs
stored-plain b xs size all = stored-is b (length xs) (plain_bytes b xs) ∙ pixels_at-plain b xs size (recursion_from_All (IsNumber b) xs all)

numbers-pixels_at : (b n : ℕ) (bs : List ℕ) → IsSize b → AreBytes bs → AllByRecursion (IsNumber b) (pixels_at b (b / 8) n bs)
unfolding pixels_at
numbers-pixels_at b zero bs size small = tt
numbers-pixels_at b (suc n) bs size small =
    (pixel_of-number b (take (b / 8) bs) size (bytes-take (b / 8) bs small), numbers-pixels_at b n (drop (b / 8) bs) size (bytes-drop (b / 8) bs small))

-- the pixels that bytes store are in range
pub stored-numbers : (b n : ℕ) (bs : List ℕ) → IsSize b → AreBytes bs → All (IsNumber b) (stored_pixels b n bs)
stored-numbers b n bs size small = subst (All (IsNumber b)) (sym (stored-is b n bs)) (All-from_recursion (IsNumber b) (pixels_at b (b / 8) n bs) (numbers-pixels_at b n bs size small))

-- at 64 bits the plain bytes are those of the halves, and the halves are in the range of 32 bits
pub plain-halves : (xs : List ℤ) → AllByRecursion (IsNumber 64) xs → plain_bytes 64 xs ≡ plain_bytes 32 (flat_map halves xs)
plain-halves [] all = refl
plain-halves (x ∷ xs) all =
    ap (λ l. l ++ plain_bytes 64 xs) (bytes-halves x all.0)
    ∙ ap (λ l. (pixel_bytes 32 (upper_half x) ++ (pixel_bytes 32 (lower_half x) ++ [])) ++ l) (plain-halves xs all.1)

pub halves-numbers : (xs : List ℤ) → AllByRecursion (IsNumber 64) xs → AllByRecursion (IsNumber 32) (flat_map halves xs)
halves-numbers [] all = tt
halves-numbers (x ∷ xs) all = (upper-number x all.0, (lower-number x, halves-numbers xs all.1))

pub length-halves : (xs : List ℤ) → length (flat_map halves xs) ≡ 2 * length xs
length-halves [] = refl
length-halves (x ∷ xs) = omega (arith, length-halves xs)

-- one more number was read
pub word_step : (numbers : List ℤ) (i : ℕ) (x : ℤ) (pixel : ℕ → ℤ) → FitsSigned w32 x → i < length numbers → ((k : ℕ) → k < i → get_or numbers k (pos 0) ≡ pixel k) → x ≡ pixel i →
    (k : ℕ) → k < i + 1 → get_or (set numbers i (to_z w32 (of_z w32 x))) k (pos 0) ≡ pixel k
word_step numbers i x pixel fits within before here k h = rw to_z-of_z (grind (arith, common_steps))

-- a number of 16 bits has room in 32
pub wider : (x : ℤ) → FitsSigned w16 x → FitsSigned w32 x
wider (pos n) h = record { sfits = omega (arith, h.sfits) }
wider (negsuc n) h = record { sfits = omega (arith, h.sfits) }

-- one more number of 16 bits was read
pub short_step : (numbers : List ℤ) (i : ℕ) (x : ℤ) → FitsSigned w16 x → i < length numbers → ((k : ℕ) (d : ℤ) → k < i → FitsSigned w16 (get_or numbers k d)) →
    (k : ℕ) (d : ℤ) → k < i + 1 → FitsSigned w16 (get_or (set numbers i (to_z w32 (of_z w32 x))) k d)
short_step numbers i x fits within before k d h = elim (cases_eq k i) [
  | inl e ↦ subst (λ (y : ℤ). FitsSigned w16 y) (sym (ap (λ m. get_or (set numbers i (to_z w32 (of_z w32 x))) m d) e ∙ get_or-set_same numbers i (to_z w32 (of_z w32 x)) d within ∙ to_z-of_z w32 x (wider x fits))) fits
  | inr other ↦ subst (λ (y : ℤ). FitsSigned w16 y) (sym (get_or-set_other numbers i k (to_z w32 (of_z w32 x)) d other)) (before k d (omega (arith, h, other)))
]

-- a byte is the pixel that it stores
pub byte_is : (bs : List ℕ) (i : ℕ) → pos (get_or bs i 0) ≡ pixel_of 8 (take 1 (drop (1 * i) bs))
byte_is bs i =
    let same : 1 * i + 0 ≡ i = omega arith in
    sym (ap pos (get_or-take 1 (drop (1 * i) bs) 0 0 (omega arith) ∙ get_or-drop (1 * i) bs 0 0 ∙ ap (λ m. get_or bs m 0) same))

pub length-stored : (b n : ℕ) (bs : List ℕ) → length (stored_pixels b n bs) ≡ n
length-stored b n bs = length-map-range_with_len _ 0 n
