-- Ones at the top of a word, and numbers that repeat.
use Rattle.std.proofs.Common.{◌≡◌, ℕ, zero, suc, ◌+◌, ◌-◌, ◌*◌, ◌/◌, ◌%◌, ◌^◌, ◌<◌, ◌≤◌, ◌==◌, Bool, true, ℤ, List, [], ◌∷◌, ◌++◌, take, drop, replicate, Ok, inl, inr, refl, sym, subst, ap, ◌∙◌, arith, append_assoc, add-one}
use Rattle.std.specs.Int.Count.{count_leading_zeros, leading_of_zero}
use Rattle.std.proofs.lemmas.Bool.{cases_lt}
use Rattle.std.proofs.lemmas.Nat.{leading_top, shr_high, pow_pos, pow-add}
use Rattle.std.proofs.lemmas.List.{append-nil, replicate_more, take-take, take-append-drop}
use Rattle.fz_bits.specs.Bits.{number_bits, last_bit}
use Rattle.fz_bits.specs.Laws.{NumberLaws}
use Rattle.fz_rice.specs.Code.{row, mapped, difference, differences}
use Rattle.fz_rice.specs.Producer.{chosen_block}
use Rattle.fz_rice.specs.Numbers.{IsWidth}
use Rattle.fz_rice.specs.Reading.{Reading, many_at, split_at, most_zeros, number}
use Rattle.fz_rice.proofs.NumberBits.{number_bits-front}
use Rattle.fz_rice.proofs.MachineLemmas.{one_turn}
use Rattle.fz_rice.proofs.LeafLemmas.{zeros_read, number_read, split_read}
use Rattle.fz_rice.proofs.NumbersLemmas.{residue-number, mapped-next}
use Rattle.fz_rice.proofs.HalfwayLemmas.{Halfway, halfway_value, next-zero}

-- the bits of a number of ones alone
number_bits-ones : (n : ℕ) → number_bits n (2 ^ n - 1) ≡ replicate n true
unfolding number_bits
number_bits-ones zero = refl
number_bits-ones (suc n) =
    let p = 2 ^ n in
    let some : 0 < p = pow_pos n in
    let twice : 2 ^ suc n ≡ p * 2 = ap (λ k. 2 ^ k) (sym (add-one n)) ∙ pow-add 2 n 1 in
    let half : (2 ^ suc n - 1) / 2 ≡ p - 1 = omega (arith, twice, some) in
    let odd : (2 ^ suc n - 1) % 2 ≡ 1 = omega (arith, twice, some) in
    ap (λ k. number_bits n k ++ last_bit (2 ^ suc n - 1) ∷ []) half ∙ ap (λ k. number_bits n (p - 1) ++ (k == 1) ∷ []) odd ∙ ap (λ bits. bits ++ true ∷ []) (number_bits-ones n) ∙ replicate_more n true ∙ ap (λ k. replicate k true) (add-one n)

-- a number with only ones in front
ones_above : NumberLaws → (c n v word : ℕ) → c + n ≡ 64 → v < 2 ^ n → word + v + 1 ≡ 18446744073709551616 → take c (number_bits 64 word) ≡ replicate c true
ones_above laws c n v word whole small all =
    let size : 18446744073709551616 ≡ 2 ^ c * 2 ^ n = ap (λ k. 2 ^ k) (sym whole) ∙ pow-add 2 c n in
    let turn : 2 ^ c * 2 ^ n ≡ (2 ^ c - 1) * 2 ^ n + 2 ^ n = one_turn (2 ^ c) (2 ^ n) (pow_pos c) in
    let low = 2 ^ n - 1 - v in
    let is : word ≡ (2 ^ c - 1) * 2 ^ n + low = omega (arith, size, turn, small, all) in
    let fits : low < 2 ^ n = omega (arith, small) in
    ap (λ i. take c (number_bits i word)) (sym whole) ∙ sym (number_bits-front laws c n word) ∙ ap (number_bits c) (ap (λ x. x / 2 ^ n) is ∙ shr_high (2 ^ c - 1) n low fits) ∙ number_bits-ones c

-- a word begins with as many ones as what it lacks has leading zeros
pub ones_front : NumberLaws → (word : ℕ) → word < 18446744073709551616 → take (count_leading_zeros 64 (18446744073709551615 - word)) (number_bits 64 word) ≡ replicate (count_leading_zeros 64 (18446744073709551615 - word)) true
ones_front laws word fits =
    let v = 18446744073709551615 - word in
    elim (cases_lt 0 v) [
      | inl some ↦
          let top = leading_top 64 v some (omega (arith, fits)) in
          ones_above laws (count_leading_zeros 64 v) (suc top.0) v word top.1 top.3 (omega (arith, fits))
      | inr none ↦
          let gone : v ≡ 0 = omega (arith, none) in
          let c : count_leading_zeros 64 v ≡ 64 = ap (count_leading_zeros 64) gone ∙ leading_of_zero 64 in
          let whole : take 64 (number_bits 64 word) ≡ replicate 64 true = ones_above laws 64 0 0 word refl (pow_pos 0) (omega (arith, fits, gone)) in
          subst (λ (i : ℕ). take i (number_bits 64 word) ≡ replicate i true) (sym c) whole
    ]

-- ones that were taken
pub ones_taken : (n ready c word : ℕ) (bits rest : List Bool) → n ≤ c → n ≤ ready → take ready (number_bits 64 word) ≡ take ready bits → take c (number_bits 64 word) ≡ replicate c true → rest ≡ drop n bits → bits ≡ replicate n true ++ rest
ones_taken n ready c word bits rest few loaded same ones gone =
    let all = number_bits 64 word in
    let front : take n bits ≡ replicate n true = sym (take-take n ready bits loaded) ∙ ap (take n) (sym same) ∙ take-take n ready all loaded ∙ sym (take-take n c all few) ∙ ap (take n) ones ∙ take-replicate_le n c few in
    sym (take-append-drop n bits) ∙ ap (λ l. l ++ drop n bits) front ∙ ap (λ l. replicate n true ++ l) (sym gone)
  where
    take-replicate_le : (n c : ℕ) → n ≤ c → take n (replicate c true) ≡ replicate n true
    take-replicate_le zero c h = refl
    take-replicate_le (suc n) zero h = absurd (omega (arith, h))
    take-replicate_le (suc n) (suc c) h = ap (λ l. true ∷ l) (take-replicate_le n c (omega (arith, h)))

-- where none was taken, all are left
pub no_ones : (n : ℕ) (bits rest : List Bool) → n ≡ 0 → bits ≡ replicate n true ++ rest → rest ≡ bits
no_ones n bits rest none is = sym (is ∙ ap (λ k. replicate k true ++ rest) none)

-- a one is a value of 0 in unary
one_read : NumberLaws → (w : ℕ) (rest : List Bool) → split_at w 0 (true ∷ rest) ≡ Ok (0, rest)
unfolding number_bits
one_read laws w rest =
    split_read w 0 0 0 (true ∷ rest) rest rest (zeros_read (most_zeros w 0) 0 (true ∷ rest) rest refl (omega arith)) (number_read laws 0 0 rest rest refl (pow_pos 0))

-- values of 0 more
pub halfway_ones : NumberLaws → (w start : ℕ) (whole : Reading (List ℕ)) (m n j : ℕ) (bits rest : List Bool) (numbers : List ℤ) (last : ℕ) → last < 2 ^ w → Halfway w start whole (many_at (split_at w 0) m bits) numbers last → m ≡ n + j → bits ≡ replicate n true ++ rest → Halfway w start whole (many_at (split_at w 0) j rest) (numbers ++ replicate n (number w last)) last
halfway_ones laws w start whole m zero j bits rest numbers last below half size is =
    let m_is : m ≡ j = omega (arith, size) in
    subst (λ (l : List ℤ). Halfway w start whole (many_at (split_at w 0) j rest) l last) (sym (append-nil numbers)) (subst (λ (k : ℕ). Halfway w start whole (many_at (split_at w 0) k rest) numbers last) m_is (subst (λ (l : List Bool). Halfway w start whole (many_at (split_at w 0) m l) numbers last) is half))
halfway_ones laws w start whole m (suc n) j bits rest numbers last below half size is =
    let x = number w last in
    let behind = replicate n true ++ rest in
    let m_is : m ≡ suc (n + j) = omega (arith, size) in
    let half_is : Halfway w start whole (many_at (split_at w 0) (suc (n + j)) (true ∷ behind)) numbers last = subst (λ (k : ℕ). Halfway w start whole (many_at (split_at w 0) k (true ∷ behind)) numbers last) m_is (subst (λ (l : List Bool). Halfway w start whole (many_at (split_at w 0) m l) numbers last) is half) in
    let next = halfway_value w start whole (split_at w 0) (n + j) (true ∷ behind) behind numbers last 0 half_is (one_read laws w behind) in
    let same : Halfway w start whole (many_at (split_at w 0) (n + j) behind) (numbers ++ x ∷ []) last = subst (λ (u : ℕ). Halfway w start whole (many_at (split_at w 0) (n + j) behind) (numbers ++ number w u ∷ []) u) (next-zero w last below) next in
    let more = halfway_ones laws w start whole (n + j) n j behind rest (numbers ++ x ∷ []) last below same refl refl in
    subst (λ (l : List ℤ). Halfway w start whole (many_at (split_at w 0) j rest) l last) (append_assoc numbers (x ∷ []) (replicate n x)) more

-- numbers that repeat have differences of 0
pub repeated : (w last n : ℕ) → IsWidth w → last < 2 ^ w → differences w last (replicate n (number w last)) ≡ replicate n 0
repeated w last zero is below = refl
repeated w last (suc n) is below =
    let x = number w last in
    let none : mapped w (difference w last last) ≡ 0 = ap (λ u. mapped w (difference w last u)) (sym (next-zero w last below)) ∙ mapped-next w last 0 is below (pow_pos w) in
    ap (λ u. mapped w (difference w last u) ∷ differences w u (replicate n x)) (residue-number w last below) ∙ ap (λ v. v ∷ differences w last (replicate n x)) none ∙ ap (λ l. 0 ∷ l) (repeated w last n is below)

-- a block of zeros is its id alone
pub zero_block : (w : ℕ) (vs : List ℕ) → vs ≡ replicate 32 0 → chosen_block w vs ≡ number_bits (row w).id_len 0
zero_block w vs is = ap (chosen_block w) is ∙ append-nil (number_bits (row w).id_len 0)
