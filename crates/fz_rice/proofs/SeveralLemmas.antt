-- Values at the top of a word, and four or two of them.
use Rattle.std.proofs.Common.{◌≡◌, ℕ, suc, ◌+◌, ◌-◌, ◌*◌, ◌/◌, ◌%◌, ◌^◌, ◌<◌, ◌≤◌, min, bit_and, bit_or, Bool, true, false, ℤ, List, [], ◌∷◌, ◌++◌, length, take, drop, set, replicate, Ok, inl, inr, refl, sym, subst, ap, ◌∙◌, arith, append_assoc, length-drop}
use Rattle.std.specs.Int.{w64, rotate_left}
use Rattle.std.specs.Int.Count.{count_leading_zeros, leading_of_zero}
use Rattle.std.proofs.lemmas.Bool.{cases_lt}
use Rattle.std.proofs.lemmas.Nat.{leading_top, and_mask, or_shifted, mod-pow-add, mod_low, mod_below, shr_high, pow_pos, pow-add, le-div, div_below}
use Rattle.std.proofs.lemmas.List.{take-append-drop, take-take, drop-take, drop-drop}
use Rattle.std.proofs.Math.Seq.{drop-append_seam}
use Rattle.std.proofs.Math.Nat.{mul_assoc, mod-eq_of_lt, pow-le-pow_right}
use Rattle.fz_bits.specs.Bits.{number_bits}
use Rattle.fz_bits.specs.Laws.{NumberLaws}
use Rattle.fz_rice.specs.Numbers.{IsWidth}
use Rattle.fz_rice.specs.Reading.{Reading, many_at, split_at, most_zeros, number, next_residue, numbers_from, last_of, IsPiece, ReadsFour, ReadsTwo}
use Rattle.fz_rice.proofs.NumberBits.{number_bits-front, number_bits-lead}
use Rattle.fz_rice.proofs.MachineLemmas.{width_le, mod_turns}
use Rattle.fz_rice.proofs.LeafLemmas.{zeros_read, number_read, split_read}
use Rattle.fz_rice.proofs.ValueReaders.{value_lt}
use Rattle.fz_rice.proofs.HalfwayLemmas.{Halfway, halfway_value}

-- the low bits of a number that is shifted to the left
shifted_low : (x n m : ℕ) → (x * 2 ^ m) % 2 ^ (n + m) ≡ (x % 2 ^ n) * 2 ^ m
shifted_low x n m =
    let e : x * 2 ^ m ≡ x * 2 ^ m + 0 = omega arith in
    let back : (x % 2 ^ n) * 2 ^ m + 0 ≡ (x % 2 ^ n) * 2 ^ m = omega arith in
    ap (λ k. k % 2 ^ (n + m)) e ∙ mod-pow-add (x * 2 ^ m + 0) n m ∙ ap (λ k. (k % 2 ^ n) * 2 ^ m + (x * 2 ^ m + 0) % 2 ^ m) (shr_high x m 0 (pow_pos m)) ∙ ap (λ k. (x % 2 ^ n) * 2 ^ m + k) (mod_low x m 0 (pow_pos m)) ∙ back

-- a word turned to the left
turned_is : (word width n : ℕ) → width + n ≡ 64 → 0 < width → 0 < n → word < 2 ^ 64 → rotate_left w64 word (width % 64) ≡ (word % 2 ^ n) * 2 ^ width + word / 2 ^ n
turned_is word width n whole some more fits =
    let by : width % 64 % 64 ≡ width = omega arith in
    let rest : (64 - width) % 64 ≡ n = omega arith in
    let e : 64 ≡ n + width = omega arith in
    let size : 2 ^ 64 ≡ 2 ^ width * 2 ^ n = ap (λ k. 2 ^ k) (sym whole) ∙ pow-add 2 width n in
    let low : word / 2 ^ n < 2 ^ width = div_below word (2 ^ n) (2 ^ width) (pow_pos n) (subst (λ (k : ℕ). word < k) size fits) in
    ap (λ k. bit_or ((word * 2 ^ k) % 2 ^ 64) (word / 2 ^ ((64 - k) % 64))) by ∙ ap (λ k. bit_or ((word * 2 ^ width) % 2 ^ 64) (word / 2 ^ k)) rest ∙ ap (λ k. bit_or ((word * 2 ^ width) % 2 ^ k) (word / 2 ^ n)) e ∙ ap (λ k. bit_or k (word / 2 ^ n)) (shifted_low word n width) ∙ or_shifted (word % 2 ^ n) width (word / 2 ^ n) low

regrouped : (t z tail : ℕ) → t * 2 ^ (z + tail) ≡ t * 2 ^ z * 2 ^ tail
regrouped t z tail = ap (λ k. t * k) (pow-add 2 z tail) ∙ sym (mul_assoc t (2 ^ z) (2 ^ tail))

-- the last bits of a turned word
low_part : (t q z k : ℕ) → bit_and (t * 2 ^ (z + (k + 1)) + q) (2 ^ k - 1) ≡ q % 2 ^ k
low_part t q z k =
    let e : z + (k + 1) ≡ z + 1 + k = omega arith in
    and_mask (t * 2 ^ (z + (k + 1)) + q) k ∙ ap (λ x. (x + q) % 2 ^ k) (ap (λ j. t * 2 ^ j) e ∙ regrouped t (z + 1) k) ∙ mod_turns k (t * 2 ^ (z + 1)) q

-- the last bits of a number
bits_behind : NumberLaws → (m n v : ℕ) → drop m (number_bits (m + n) v) ≡ number_bits n v
bits_behind laws m n v =
    let high = number_bits m (v / 2 ^ n) in
    ap (drop m) (laws.joined m n v) ∙ ap (λ k. drop k (high ++ number_bits n v)) (sym (laws.many m (v / 2 ^ n))) ∙ drop-append_seam high (number_bits n v)

some_ones : (v : ℕ) → count_leading_zeros 64 v < 64 → 0 < v
some_ones v near =
    elim (cases_lt 0 v) [
      | inl h ↦ h
      | inr h ↦ absurd (omega (arith, near, ap (count_leading_zeros 64) (let none : v ≡ 0 = omega arith in none) ∙ leading_of_zero 64))
    ]

mod_small : (a n : ℕ) → a < n → a % n ≡ a
mod_small a n h = mod-eq_of_lt h

pub piece_is : NumberLaws → (k tail word one turned mask : ℕ) → tail ≡ k + 1 → one ≡ 2 ^ k → word < 2 ^ 64 → turned ≡ rotate_left w64 word ((count_leading_zeros 64 word + tail) % 64) → mask ≡ one - 1 → count_leading_zeros 64 word + tail < 64 → IsPiece k word ((count_leading_zeros 64 word * one % 4294967296 + bit_and turned mask) % 4294967296) (count_leading_zeros 64 word + tail) turned
piece_is laws k tail word one turned mask tail_is one_is fits turned_by mask_is near =
    let z = count_leading_zeros 64 word in
    let width = z + tail in
    let n = 64 - width in
    let q = word / 2 ^ n in
    let t = word % 2 ^ n in
    let top = leading_top 64 word (some_ones word (omega arith)) fits in
    let j : top.0 ≡ k + n = omega (arith, top.1) in
    let low_power : 2 ^ k * 2 ^ n ≤ word = subst (λ (x : ℕ). x ≤ word) (ap (λ i. 2 ^ i) j ∙ pow-add 2 k n) top.2 in
    let high_power : word < 2 ^ suc k * 2 ^ n = subst (λ (x : ℕ). word < x) (ap (λ i. 2 ^ i) (let e : suc top.0 ≡ suc k + n = omega (arith, j) in e) ∙ pow-add 2 (suc k) n) top.3 in
    let least : 2 ^ k ≤ q = le-div (2 ^ k) word (2 ^ n) (pow_pos n) low_power in
    let most : q < 2 ^ suc k = div_below word (2 ^ n) (2 ^ suc k) (pow_pos n) high_power in
    let below : q < 2 ^ tail = subst (λ (i : ℕ). q < 2 ^ i) (let e : suc k ≡ tail = omega arith in e) most in
    let small : t < 2 ^ n = mod_below word (2 ^ n) (pow_pos n) in
    let turned_to : turned ≡ t * 2 ^ width + q = turned_by ∙ turned_is word width n (omega arith) (omega arith) (omega arith) fits in
    let low : bit_and turned mask ≡ q % 2 ^ k = ap (λ x. bit_and x mask) turned_to ∙ ap (bit_and (t * 2 ^ width + q)) (mask_is ∙ ap (λ x. x - 1) one_is) ∙ ap (λ x. bit_and (t * 2 ^ (z + x) + q) (2 ^ k - 1)) tail_is ∙ low_part t q z k in
    let whole : width + n ≡ 64 = omega arith in
    let narrow : q < 2 ^ width = omega (arith, most, pow-le-pow_right (let p : 0 < 2 = omega arith in p) (let e : suc k ≤ width = omega (arith, tail_is) in e)) in
    let flipped : n + width ≡ 64 = omega arith in
    let front_word : take n (number_bits 64 turned) ≡ number_bits n t = ap (λ x. take n (number_bits 64 x)) turned_to ∙ ap (λ i. take n (number_bits i (t * 2 ^ width + q))) (sym flipped) ∙ sym (number_bits-front laws n width (t * 2 ^ width + q)) ∙ ap (number_bits n) (shr_high t width q narrow) in
    let behind_word : drop width (number_bits 64 word) ≡ number_bits n t = ap (λ i. drop width (number_bits i word)) (sym whole) ∙ bits_behind laws width n word ∙ sym (laws.last n word) in
    let size : width ≡ z + suc k = omega arith in
    let one_same : z * one ≡ z * 2 ^ k = ap (λ x. z * x) one_is in
    record {
      zeros = z;
      low = q % 2 ^ k;
      size = ap (λ x. z + x) tail_is;
      fits = mod_below q (2 ^ k) (pow_pos k);
      front = sym (number_bits-front laws width n word ∙ ap (λ i. take width (number_bits i word)) whole) ∙ ap (λ i. number_bits i q) size ∙ number_bits-lead laws z k q least most;
      behind = front_word ∙ sym behind_word;
      exact = λ h. ap (λ x. (x % 4294967296 + bit_and turned mask) % 4294967296) one_same ∙ ap (λ x. (x + bit_and turned mask) % 4294967296) (mod_small (z * 2 ^ k) 4294967296 (omega (arith, h))) ∙ ap (λ x. (z * 2 ^ k + x) % 4294967296) low ∙ mod_small (z * 2 ^ k + q % 2 ^ k) 4294967296 h;
    }

-- a value at the top of a word whose first bits are the next ones
piece_reads : NumberLaws → (w k : ℕ) → IsWidth w → k < w → (n word value width rest : ℕ) (bits : List Bool) → n ≤ 64 → n ≤ length bits → take n (number_bits 64 word) ≡ take n bits → width ≤ n → width ≤ most_zeros w k + (k + 1) → IsPiece k word value width rest → (split_at w k bits ≡ Ok (value, drop width bits)) × (value < 2 ^ w) × (take (n - width) (number_bits 64 rest) ≡ take (n - width) (drop width bits))
piece_reads laws w k is less n word value width rest bits few within same le lawful p =
    let z = p.zeros in
    let low = p.low in
    let all = number_bits 64 word in
    let most : z ≤ most_zeros w k = omega (arith, p.size, lawful) in
    let small : z * 2 ^ k + low < 2 ^ w = value_lt w k z low (omega arith) most p.fits in
    let wide : 2 ^ w ≤ 2 ^ 32 = pow-le-pow_right (omega arith) (width_le w is) in
    let exact : value ≡ z * 2 ^ k + low = p.exact (omega (arith, small, wide)) in
    let front : take width bits ≡ replicate z false ++ true ∷ number_bits k low = sym (take-take width n bits le) ∙ ap (take width) (sym same) ∙ take-take width n all le ∙ p.front in
    let whole : bits ≡ replicate z false ++ true ∷ (number_bits k low ++ drop width bits) = sym (take-append-drop width bits) ∙ ap (λ l. l ++ drop width bits) front ∙ append_assoc (replicate z false) (true ∷ number_bits k low) (drop width bits) in
    let read : split_at w k bits ≡ Ok (z * 2 ^ k + low, drop width bits) = split_read w k z low bits (number_bits k low ++ drop width bits) (drop width bits) (zeros_read (most_zeros w k) z bits (number_bits k low ++ drop width bits) whole most) (number_read laws k low (number_bits k low ++ drop width bits) (drop width bits) refl p.fits) in
    let e : width + (n - width) ≡ n = omega arith in
    let behind : take (n - width) (number_bits 64 rest) ≡ take (n - width) (drop width bits) = sym (take-take (n - width) (64 - width) (number_bits 64 rest) (omega arith)) ∙ ap (take (n - width)) p.behind ∙ sym (drop-take width (n - width) all) ∙ ap (λ i. drop width (take i all)) e ∙ ap (drop width) same ∙ ap (λ i. drop width (take i bits)) (sym e) ∙ drop-take width (n - width) bits in
    (read ∙ ap (λ v. Ok (v, drop width bits)) (sym exact), subst (λ (v : ℕ). v < 2 ^ w) (sym exact) small, behind)

-- four values that stand in one word
pub record FourStand (w k a b c d : ℕ) (bits rest : List Bool) : Type 0 where
  pub reads : ReadsFour (split_at w k) a b c d bits rest
  pub a_fits : a < 2 ^ w
  pub b_fits : b < 2 ^ w
  pub c_fits : c < 2 ^ w
  pub d_fits : d < 2 ^ w

pub four_stand : NumberLaws → (w k : ℕ) → IsWidth w → k < w → (n word a b c d i j l m x y z u : ℕ) (bits rest : List Bool) → n < 64 → n ≤ length bits → take n (number_bits 64 word) ≡ take n bits → i + j + l + m ≤ n → i + j + l + m ≤ min (most_zeros w k) 1024 + 4 * (k + 1) → k + 1 ≤ i → k + 1 ≤ j → k + 1 ≤ l → k + 1 ≤ m → (i < 64 → IsPiece k word a i x) → (j < 64 → IsPiece k x b j y) → (l < 64 → IsPiece k y c l z) → (m < 64 → IsPiece k z d m u) → rest ≡ drop (i + j + l + m) bits → FourStand w k a b c d bits rest
four_stand laws w k is less n word a b c d i j l m x y z u bits rest few within same fit lawful ti tj tl tm pa pb pc pd gone =
    let second = drop i bits in
    let third = drop j second in
    let fourth = drop l third in
    let in_second = length-drop i bits in
    let in_third = length-drop j second in
    let in_fourth = length-drop l third in
    let first_read = piece_reads laws w k is less n word a i x bits (omega arith) within same (omega arith) (omega arith) (pa (omega arith)) in
    let second_read = piece_reads laws w k is less (n - i) x b j y second (omega arith) (omega (arith, in_second)) first_read.2 (omega arith) (omega arith) (pb (omega arith)) in
    let third_read = piece_reads laws w k is less (n - i - j) y c l z third (omega arith) (omega (arith, in_second, in_third)) second_read.2 (omega arith) (omega arith) (pc (omega arith)) in
    let fourth_read = piece_reads laws w k is less (n - i - j - l) z d m u fourth (omega arith) (omega (arith, in_second, in_third, in_fourth)) third_read.2 (omega arith) (omega arith) (pd (omega arith)) in
    let end : drop m fourth ≡ rest = ap (λ xs. drop m (drop l xs)) (drop-drop j i bits) ∙ ap (drop m) (drop-drop l (i + j) bits) ∙ drop-drop m (i + j + l) bits ∙ sym gone in
    record {
      reads = record { second = second; third = third; fourth = fourth; a_is = first_read.0; b_is = second_read.0; c_is = third_read.0; d_is = fourth_read.0 ∙ ap (λ xs. Ok (d, xs)) end };
      a_fits = first_read.1;
      b_fits = second_read.1;
      c_fits = third_read.1;
      d_fits = fourth_read.1;
    }

-- four places that are written
pub four_set : (xs : List ℤ) (a b c d : ℤ) → length xs ≡ 4 → set (set (set (set xs 0 a) 1 b) 2 c) 3 d ≡ a ∷ b ∷ c ∷ d ∷ []
four_set [] a b c d len = absurd (omega (arith, len))
four_set (x ∷ []) a b c d len = absurd (omega (arith, len))
four_set (x ∷ y ∷ []) a b c d len = absurd (omega (arith, len))
four_set (x ∷ y ∷ z ∷ []) a b c d len = absurd (omega (arith, len))
four_set (x ∷ y ∷ z ∷ u ∷ []) a b c d len = refl
four_set (x ∷ y ∷ z ∷ u ∷ t ∷ xs) a b c d len = absurd (omega (arith, len))

pub four_numbers : (w start a b c d p q r s : ℕ) (x y z u : ℤ) → x ≡ number w p → y ≡ number w q → z ≡ number w r → u ≡ number w s → p ≡ next_residue w start a → q ≡ next_residue w p b → r ≡ next_residue w q c → s ≡ next_residue w r d → x ∷ y ∷ z ∷ u ∷ [] ≡ numbers_from w start (a ∷ b ∷ c ∷ d ∷ [])
four_numbers w start a b c d p q r s x y z u ex ey ez eu ep eq er es = rw (ex, ey, ez, eu, es, er, eq, ep) refl

-- four values more
pub halfway_four : (w start : ℕ) (whole : Reading (List ℕ)) (read : List Bool → Reading ℕ) (m n : ℕ) (bits rest : List Bool) (numbers : List ℤ) (last a b c d : ℕ) → Halfway w start whole (many_at read m bits) numbers last → m ≡ suc (suc (suc (suc n))) → ReadsFour read a b c d bits rest → Halfway w start whole (many_at read n rest) (numbers ++ numbers_from w last (a ∷ b ∷ c ∷ d ∷ [])) (last_of w last (a ∷ b ∷ c ∷ d ∷ []))
halfway_four w start whole read m n bits rest numbers last a b c d half more four =
    let first = halfway_value w start whole read (suc (suc (suc n))) bits four.second numbers last a (subst (λ (k : ℕ). Halfway w start whole (many_at read k bits) numbers last) more half) four.a_is in
    let second = halfway_value w start whole read (suc (suc n)) four.second four.third _ _ b first four.b_is in
    let third = halfway_value w start whole read (suc n) four.third four.fourth _ _ c second four.c_is in
    let fourth = halfway_value w start whole read n four.fourth rest _ _ d third four.d_is in
    let p = next_residue w last a in
    let q = next_residue w p b in
    let r = next_residue w q c in
    let s = next_residue w r d in
    let same : (((numbers ++ number w p ∷ []) ++ number w q ∷ []) ++ number w r ∷ []) ++ number w s ∷ [] ≡ numbers ++ (number w p ∷ number w q ∷ number w r ∷ number w s ∷ []) = ap (λ l. (l ++ number w r ∷ []) ++ number w s ∷ []) (append_assoc numbers (number w p ∷ []) (number w q ∷ [])) ∙ ap (λ l. l ++ number w s ∷ []) (append_assoc numbers (number w p ∷ number w q ∷ []) (number w r ∷ [])) ∙ append_assoc numbers (number w p ∷ number w q ∷ number w r ∷ []) (number w s ∷ []) in
    subst (λ (l : List ℤ). Halfway w start whole (many_at read n rest) l s) same fourth

-- the same of two values

pub record TwoStand (w k a b : ℕ) (bits rest : List Bool) : Type 0 where
  pub reads : ReadsTwo (split_at w k) a b bits rest
  pub a_fits : a < 2 ^ w
  pub b_fits : b < 2 ^ w

pub two_stand : NumberLaws → (w k : ℕ) → IsWidth w → k < w → (n word a b i j x y : ℕ) (bits rest : List Bool) → n < 64 → n ≤ length bits → take n (number_bits 64 word) ≡ take n bits → i + j ≤ n → i + j ≤ min (most_zeros w k) 1024 + 2 * (k + 1) → k + 1 ≤ i → k + 1 ≤ j → (i < 64 → IsPiece k word a i x) → (j < 64 → IsPiece k x b j y) → rest ≡ drop (i + j) bits → TwoStand w k a b bits rest
two_stand laws w k is less n word a b i j x y bits rest few within same fit lawful ti tj pa pb gone =
    let second = drop i bits in
    let in_second = length-drop i bits in
    let first_read = piece_reads laws w k is less n word a i x bits (omega arith) within same (omega arith) (omega arith) (pa (omega arith)) in
    let second_read = piece_reads laws w k is less (n - i) x b j y second (omega arith) (omega (arith, in_second)) first_read.2 (omega arith) (omega arith) (pb (omega arith)) in
    record {
      reads = record { second = second; a_is = first_read.0; b_is = second_read.0 ∙ ap (λ xs. Ok (b, xs)) (drop-drop j i bits ∙ sym gone) };
      a_fits = first_read.1;
      b_fits = second_read.1;
    }

pub two_set : (xs : List ℤ) (a b : ℤ) → length xs ≡ 2 → set (set xs 0 a) 1 b ≡ a ∷ b ∷ []
two_set [] a b len = absurd (omega (arith, len))
two_set (x ∷ []) a b len = absurd (omega (arith, len))
two_set (x ∷ y ∷ []) a b len = refl
two_set (x ∷ y ∷ z ∷ xs) a b len = absurd (omega (arith, len))

pub two_numbers : (w start a b p q : ℕ) (x y : ℤ) → x ≡ number w p → y ≡ number w q → p ≡ next_residue w start a → q ≡ next_residue w p b → x ∷ y ∷ [] ≡ numbers_from w start (a ∷ b ∷ [])
two_numbers w start a b p q x y ex ey ep eq = rw (ex, ey, eq, ep) refl

pub halfway_two : (w start : ℕ) (whole : Reading (List ℕ)) (read : List Bool → Reading ℕ) (m n : ℕ) (bits rest : List Bool) (numbers : List ℤ) (last a b : ℕ) → Halfway w start whole (many_at read m bits) numbers last → m ≡ suc (suc n) → ReadsTwo read a b bits rest → Halfway w start whole (many_at read n rest) (numbers ++ numbers_from w last (a ∷ b ∷ [])) (last_of w last (a ∷ b ∷ []))
halfway_two w start whole read m n bits rest numbers last a b half more two =
    let first = halfway_value w start whole read (suc n) bits two.second numbers last a (subst (λ (k : ℕ). Halfway w start whole (many_at read k bits) numbers last) more half) two.a_is in
    let second = halfway_value w start whole read n two.second rest _ _ b first two.b_is in
    let p = next_residue w last a in
    let q = next_residue w p b in
    subst (λ (l : List ℤ). Halfway w start whole (many_at read n rest) l q) (append_assoc numbers (number w p ∷ []) (number w q ∷ [])) second
