-- What follows from the laws of numbers and their bits.
use Rattle.std.proofs.Common.{◌≡◌, ℕ, zero, suc, ◌+◌, ◌*◌, ◌/◌, ◌%◌, ◌^◌, ◌<◌, ◌≤◌, true, false, [], ◌∷◌, ◌++◌, take, replicate, refl, sym, ap, ◌∙◌, arith, add-one}
use Rattle.std.proofs.Math.Nat.{mul_comm, pow-suc, div-eq_of_lt}
use Rattle.std.proofs.Math.Numerals.{one-add}
use Rattle.std.proofs.lemmas.List.{replicate_more, take_at}
use Rattle.std.proofs.lemmas.Nat.{shr_split, shr_high, mod_low, mod_below, pow_pos, pow-add, le-div, div_below, mul-add-lt}
use Rattle.fz_bits.specs.Bits.{number_bits}
use Rattle.fz_bits.specs.Laws.{NumberLaws}

-- two numbers joined fit the bits of both
pub joined_below : (m n high low : ℕ) → high < 2 ^ m → low < 2 ^ n → high * 2 ^ n + low < 2 ^ (m + n)
joined_below m n high low h l = rw (pow-add 2 m n, mul_comm (2 ^ m) (2 ^ n)) (mul-add-lt high (2 ^ n) low (2 ^ m) h l)

-- zero has only zeros
pub number_bits-zero : (n : ℕ) → number_bits n 0 ≡ replicate n false
unfolding number_bits
number_bits-zero zero = refl
number_bits-zero (suc n) =
    ap (λ bits. bits ++ false ∷ []) (number_bits-zero n) ∙ replicate_more n false ∙ ap (λ k. replicate k false) (add-one n)

-- the quotient of a number below twice the divisor
lead_quotient : (v d : ℕ) → 0 < d → d ≤ v → v < d * 2 → v / d ≡ 1
lead_quotient v d pos low high =
    let a = le-div 1 v d pos (omega arith) in
    let b : v / d < 2 = div_below v d 2 pos (omega arith) in
    omega arith

-- the one bit of one
one_bit : number_bits 1 1 ≡ true ∷ []
unfolding number_bits
one_bit = refl

module _ (laws : NumberLaws) where
  -- the bits of two numbers joined
  pub number_bits-joined : (m n high low : ℕ) → low < 2 ^ n → number_bits (m + n) (high * 2 ^ n + low) ≡ number_bits m high ++ number_bits n low
  number_bits-joined m n high low fits =
      laws.joined m n (high * 2 ^ n + low)
      ∙ ap (λ k. number_bits m k ++ number_bits n (high * 2 ^ n + low)) (shr_high high n low fits)
      ∙ ap (λ bits. number_bits m high ++ bits) (sym (laws.last n (high * 2 ^ n + low)) ∙ ap (number_bits n) (mod_low high n low fits))

  -- the first bits are those of the quotient
  pub number_bits-front : (m n v : ℕ) → number_bits m (v / 2 ^ n) ≡ take m (number_bits (m + n) v)
  number_bits-front m n v =
      sym (ap (take m) (laws.joined m n v) ∙ take_at (number_bits m (v / 2 ^ n)) (number_bits n v) m (laws.many m (v / 2 ^ n)))

  -- a number between two powers of two: zeros, its leading one, and what is after it
  pub number_bits-lead : (z j v : ℕ) → 2 ^ j ≤ v → v < 2 ^ suc j → number_bits (z + suc j) v ≡ replicate z false ++ true ∷ number_bits j (v % 2 ^ j)
  number_bits-lead z j v low high =
      let none : v / 2 ^ suc j ≡ 0 = div-eq_of_lt high in
      let e : 1 + j ≡ suc j = one-add j in
      let whole : 2 ^ suc j ≡ 2 ^ j * 2 = pow-suc 2 j in
      let split = shr_split v j in
      let rest : v % 2 ^ j < 2 ^ j = mod_below v (2 ^ j) (pow_pos j) in
      let one : v / 2 ^ j ≡ 1 = lead_quotient v (2 ^ j) (pow_pos j) low (omega arith) in
      let behind : number_bits (suc j) v ≡ true ∷ number_bits j (v % 2 ^ j) =
      ap (λ k. number_bits k v) (sym e) ∙ laws.joined 1 j v ∙ ap (λ k. number_bits 1 k ++ number_bits j v) one
      ∙ ap (λ bits. bits ++ number_bits j v) one_bit ∙ ap (λ bits. true ∷ bits) (sym (laws.last j v)) in
      laws.joined z (suc j) v ∙ ap (λ k. number_bits z k ++ number_bits (suc j) v) none
      ∙ ap (λ bits. bits ++ number_bits (suc j) v) (number_bits-zero z) ∙ ap (λ bits. replicate z false ++ bits) behind
