-- The bytes of pixels that stand apart, one more each time.
use Rattle.std.proofs.Common.{◌≡◌, ℕ, ◌+◌, ◌-◌, ◌*◌, ◌%◌, ◌<◌, ◌≤◌, ℤ, pos, negsuc, List, [], ◌∷◌, ◌++◌, length, map, take, get_or, unsigned_abs, w16, w32, of_z, to_z, FitsSigned, refl, sym, ap, ◌∙◌, arith}
use Rattle.std.specs.Int.{to_be_bytes}
use Rattle.std.specs.List.{range_with_len}
use Rattle.std.proofs.lemmas.Grind.{flat_map-append}
use Rattle.std.proofs.lemmas.Int.{to_z-of_z}
use Rattle.std.proofs.lemmas.List.{append-nil, append_assoc, length-set, map-append, take_more_set}
use Rattle.std.proofs.lemmas.List.FromFn.{map-range_with_len_more}
use Rattle.std.proofs.Math.ListN.{set}
use Rattle.std.proofs.Math.Nat.{mod-eq_of_lt, mul-le-mul_right}
use Rattle.fz_bits.specs.Numbers.{IsNumber}
use Rattle.fz_tile.specs.Plain.{pixel_bytes, plain_bytes}
use Rattle.fz_grid.specs.Cutout.{numbers_at}

-- the first k of the pixels from one on, so far apart
abbrev pub apart : List ℤ → ℕ → ℕ → ℕ → List ℤ
apart numbers from step k = numbers_at numbers (map (λ j. from + j * step) (range_with_len 0 k))

pub one_more : (bits from step k : ℕ) (numbers : List ℤ)
    → plain_bytes bits (apart numbers from step (k + 1)) ≡ plain_bytes bits (apart numbers from step k) ++ pixel_bytes bits (get_or numbers (from + k * step) (pos 0))
one_more bits from step k numbers =
    let f : ℕ → ℕ = λ j. from + j * step in
    ap (λ l. plain_bytes bits (numbers_at numbers l)) (map-range_with_len_more f 0 k k (omega arith))
    ∙ ap (plain_bytes bits) (map-append (λ p. get_or numbers p (pos 0)) (map f (range_with_len 0 k)) (f k ∷ []))
    ∙ flat_map-append (pixel_bytes bits) (apart numbers from step k) (get_or numbers (from + k * step) (pos 0) ∷ [])
    ∙ ap (λ l. plain_bytes bits (apart numbers from step k) ++ l) (append-nil (pixel_bytes bits (get_or numbers (from + k * step) (pos 0))))

-- ---- what a pixel puts after the bytes so far

pub put_one : (out : List ℕ) (at a : ℕ) → at < length out → take (at + 1) (set out at a) ≡ take at out ++ (a ∷ [])
put_one out at a low = take_more_set out at a low

pub put_two : (out : List ℕ) (at a b : ℕ) → at + 1 < length out → take (at + 2) (set (set out at a) (at + 1) b) ≡ take at out ++ (a ∷ b ∷ [])
put_two out at a b low =
    let count : at + 2 ≡ at + 1 + 1 = omega arith in
    let long : length (set out at a) ≡ length out = length-set out at a in
    ap (λ n. take n (set (set out at a) (at + 1) b)) count
    ∙ take_more_set (set out at a) (at + 1) b (omega (arith, long, low))
    ∙ ap (λ l. l ++ (b ∷ [])) (take_more_set out at a (omega (arith, low)))
    ∙ append_assoc (take at out) (a ∷ []) (b ∷ [])

pub put_four : (out : List ℕ) (at a b c d : ℕ) → at + 3 < length out → take (at + 4) (set (set (set (set out at a) (at + 1) b) (at + 2) c) (at + 3) d) ≡ take at out ++ (a ∷ b ∷ c ∷ d ∷ [])
put_four out at a b c d low =
    let mid : List ℕ = set (set out at a) (at + 1) b in
    let count : at + 4 ≡ at + 2 + 2 = omega arith in
    let last : at + 3 ≡ at + 2 + 1 = omega arith in
    let long : length mid ≡ length out = length-set (set out at a) (at + 1) b ∙ length-set out at a in
    ap (λ n. take n (set (set mid (at + 2) c) (at + 3) d)) count
    ∙ ap (λ n. take (at + 2 + 2) (set (set mid (at + 2) c) n d)) last
    ∙ put_two mid (at + 2) c d (omega (arith, long, low))
    ∙ ap (λ l. l ++ (c ∷ d ∷ [])) (put_two out at a b (omega (arith, low)))
    ∙ append_assoc (take at out) (a ∷ b ∷ []) (c ∷ d ∷ [])

-- the bytes so far, and then those of the next pick
pub gathered_more : (bits from step k : ℕ) (numbers : List ℤ) (front more out' : List ℕ) → out' ≡ front ++ more → front ≡ plain_bytes bits (apart numbers from step k)
    → more ≡ pixel_bytes bits (get_or numbers (from + k * step) (pos 0)) → out' ≡ plain_bytes bits (apart numbers from step (k + 1))
gathered_more bits from step k numbers front more out' put so_far pixel =
    put ∙ ap (λ l. l ++ more) so_far ∙ ap (λ l. plain_bytes bits (apart numbers from step k) ++ l) pixel ∙ sym (one_more bits from step k numbers)

-- a number of 8 bits is its byte
pub byte_same : (y : ℤ) → IsNumber 8 y → (unsigned_abs (to_z w32 (of_z w32 y)) ∷ []) ≡ pixel_bytes 8 y
byte_same (pos n) h =
    let back : to_z w32 (of_z w32 (pos n)) ≡ pos n = to_z-of_z w32 (pos n) (record { sfits = omega (arith, h) }) in
    let same : n % 256 ≡ n = mod-eq_of_lt h in
    ap (λ m. m ∷ []) (ap unsigned_abs back ∙ sym same)
byte_same (negsuc n) h = absurd (h.0 refl)

-- a number of 16 bits is held by 16 bits with a sign, and by 32
pub fits_16 : (x : ℤ) → IsNumber 16 x → FitsSigned w16 x
fits_16 (pos n) h = record { sfits = h }
fits_16 (negsuc n) h = record { sfits = h.1 }

pub wide_16 : (x : ℤ) → IsNumber 16 x → FitsSigned w32 x
wide_16 (pos n) h = record { sfits = omega (arith, h) }
wide_16 (negsuc n) h = record { sfits = omega (arith, h.1) }

pub fits_32 : (x : ℤ) → IsNumber 32 x → FitsSigned w32 x
fits_32 (pos n) h = record { sfits = h }
fits_32 (negsuc n) h = record { sfits = h.1 }

-- the bytes of a word are those that it is taken apart into
pub two_same : (r : List ℕ) (n : ℕ) → r ≡ to_be_bytes w16 n → (get_or r 0 0 ∷ get_or r 1 0 ∷ []) ≡ to_be_bytes w16 n
two_same r n is = ap (λ l. get_or l 0 0 ∷ get_or l 1 0 ∷ []) is

pub four_same : (r : List ℕ) (n : ℕ) → r ≡ to_be_bytes w32 n → (get_or r 0 0 ∷ get_or r 1 0 ∷ get_or r 2 0 ∷ get_or r 3 0 ∷ []) ≡ to_be_bytes w32 n
four_same r n is = ap (λ l. get_or l 0 0 ∷ get_or l 1 0 ∷ get_or l 2 0 ∷ get_or l 3 0 ∷ []) is

-- a pick lies among the numbers
pub pick_low : (from step count k n : ℕ) → k < count → from + (count - 1) * step < n → from + k * step < n
pick_low from step count k n low near = let most : k * step ≤ (count - 1) * step = mul-le-mul_right step (omega (arith, low)) in omega (arith, most, near)
