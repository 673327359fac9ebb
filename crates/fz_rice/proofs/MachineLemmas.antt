-- Residues as the last bits of machine words.
use Rattle.std.proofs.Common.{◌≡◌, ℕ, suc, ◌+◌, ◌-◌, ◌*◌, ◌/◌, ◌%◌, ◌^◌, ◌<◌, ◌≤◌, bit_and, ℤ, pos, negsuc, inl, inr, refl, ap, ◌∙◌, arith}
use Rattle.std.specs.Int.{w32, cast_unsigned}
use Rattle.std.specs.Prelude.{FitsSigned}
use Rattle.std.proofs.lemmas.Nat.{and_mask, mod-pow-add, mod_low, mod_below, shr_split, pow_pos, pow-add, div_below}
use Rattle.fz_rice.specs.Numbers.{IsWidth, residue}
use Rattle.fz_rice.specs.Code.{difference}

pub width_le : (w : ℕ) → IsWidth w → w ≤ 32
width_le w is = elim is [ inl e ↦ omega arith | inr f ↦ elim f [ inl e ↦ omega arith | inr e ↦ omega arith ] ]

-- a mask of w ones
pub masked : (w g x : ℕ) → g + 1 ≡ 2 ^ w → bit_and x g ≡ x % 2 ^ w
masked w g x is =
    let e : g ≡ 2 ^ w - 1 = omega arith in
    ap (bit_and x) e ∙ and_mask x w

-- the last w bits of the last 32
pub mod_wide : (w x : ℕ) → w ≤ 32 → x % 4294967296 % 2 ^ w ≡ x % 2 ^ w
mod_wide w x h =
    let e : 32 ≡ 32 - w + w = omega arith in
    let pos : 0 < 2 ^ w = pow_pos w in
    ap (λ k. x % 2 ^ k % 2 ^ w) e ∙ ap (λ k. k % 2 ^ w) (mod-pow-add x (32 - w) w) ∙ mod_low (x / 2 ^ w % 2 ^ (32 - w)) w (x % 2 ^ w) (mod_below x (2 ^ w) pos)

-- whole turns do not count
pub mod_turns : (w m a : ℕ) → (m * 2 ^ w + a) % 2 ^ w ≡ a % 2 ^ w
mod_turns w m a =
    let pos : 0 < 2 ^ w = pow_pos w in
    let e : m * 2 ^ w + a ≡ (m + a / 2 ^ w) * 2 ^ w + a % 2 ^ w = omega (arith, shr_split a w) in
    ap (λ k. k % 2 ^ w) e ∙ mod_low (m + a / 2 ^ w) w (a % 2 ^ w) (mod_below a (2 ^ w) pos)

-- 2 ^ 32 is whole turns
word_turns : (w : ℕ) → w ≤ 32 → 4294967296 ≡ 2 ^ (32 - w) * 2 ^ w
word_turns w h =
    let e : 32 ≡ 32 - w + w = omega arith in
    ap (λ k. 2 ^ k) e ∙ pow-add 2 (32 - w) w

expand : (t q n : ℕ) → (t + 1 + q) * n ≡ t * n + n + q * n
expand t q n = omega arith

pub one_turn : (a b : ℕ) → 0 < a → a * b ≡ (a - 1) * b + b
one_turn a b h =
    let e : a ≡ a - 1 + 1 + 0 = omega arith in
    ap (λ k. k * b) e ∙ expand (a - 1) 0 b ∙ omega arith

pub wrapped_difference : (w last next : ℕ) → w ≤ 32 → last < 2 ^ w → (next + (4294967296 - last)) % 4294967296 % 2 ^ w ≡ difference w last next
wrapped_difference w last next h below =
    let turns = word_turns w h in
    let some : 0 < 2 ^ (32 - w) = pow_pos (32 - w) in
    let m = 2 ^ (32 - w) - 1 in
    let more : 2 ^ (32 - w) * 2 ^ w ≡ m * 2 ^ w + 2 ^ w = one_turn (2 ^ (32 - w)) (2 ^ w) some in
    let e : next + (4294967296 - last) ≡ m * 2 ^ w + (next + (2 ^ w - last)) = omega (arith, turns, more) in
    mod_wide w (next + (4294967296 - last)) h ∙ ap (λ k. k % 2 ^ w) e ∙ mod_turns w m (next + (2 ^ w - last))

-- the last bits of a negative number
pub residue-cast : (w : ℕ) (x : ℤ) → w ≤ 32 → FitsSigned w32 x → cast_unsigned w32 x % 2 ^ w ≡ residue w x
residue-cast w (pos n) h fits = refl
residue-cast w (negsuc n) h fits =
    let size : n < 2147483648 = omega (arith, fits) in
    let turns = word_turns w h in
    let pos : 0 < 2 ^ w = pow_pos w in
    let split = shr_split n w in
    let rest = mod_below n (2 ^ w) pos in
    let less : n / 2 ^ w < 2 ^ (32 - w) = div_below n (2 ^ w) (2 ^ (32 - w)) pos (omega arith) in
    let t = 2 ^ (32 - w) - 1 - n / 2 ^ w in
    let parts : 2 ^ (32 - w) ≡ t + 1 + n / 2 ^ w = omega arith in
    let product = expand t (n / 2 ^ w) (2 ^ w) in
    let whole : 4294967296 ≡ (t + 1 + n / 2 ^ w) * 2 ^ w = turns ∙ ap (λ k. k * 2 ^ w) parts in
    let e : 4294967296 - suc n ≡ t * 2 ^ w + (2 ^ w - 1 - n % 2 ^ w) = omega arith in
    ap (λ k. k % 2 ^ w) e ∙ mod_low t w (2 ^ w - 1 - n % 2 ^ w) (omega arith)
