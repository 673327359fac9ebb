-- Decimal digits at the front of a text, and the number that they write.
use Rattle.std.proofs.Common.{◌≡◌, ℕ, suc, ◌+◌, ◌-◌, ◌*◌, ◌<◌, ◌≤◌, ◌^◌, Bool, true, false, List, [], ◌∷◌, length, take, get_or, cond, refl, arith, lit<}
use Rattle.std.specs.List.{prefix_len}
use Rattle.std.specs.Char.{is_ascii_digit, digit_value}
use Rattle.std.specs.Str.Parse.{AllDigits, digits_value}
use Rattle.std.proofs.lemmas.Bool.Decides.{nat_tests}
use Rattle.std.proofs.lemmas.Str.Parse.{digit_at, digits_value-take-le}
use Rattle.std.proofs.lemmas.Str.{digit_value_digit}
use Rattle.std.proofs.lemmas.Int.Digits.{digits_value-lt, digits_value_more}
use Rattle.std.proofs.Math.Nat.{pow-le-pow_right}

digit_of : (c : ℕ) → is_ascii_digit c ≡ true → digit_value c < 10
digit_of c so = grind (arith, nat_tests)

digits_in_front : (c n : ℕ) (cs : List ℕ) (b : Bool) → is_ascii_digit c ≡ b → AllDigits 10 (take n cs) → AllDigits 10 (take (cond b (1 + n) 0) (c ∷ cs))
digits_in_front c n cs true so rest = let more : 1 + n ≡ suc n = omega arith in rw more (digit_of c so, rest)
digits_in_front c n cs false so rest = tt

-- what stands at the front is digits
pub front_digits : (text : List ℕ) → AllDigits 10 (take (prefix_len is_ascii_digit text) text)
front_digits [] = tt
front_digits (c ∷ cs) = digits_in_front c (prefix_len is_ascii_digit cs) cs (is_ascii_digit c) refl (front_digits cs)

-- a digit more
pub number_more : (ds : List ℕ) (i : ℕ) → AllDigits 10 ds → i < length ds → 10 * digits_value 10 (take i ds) + (get_or ds i 0 - 48) ≡ digits_value 10 (take (i + 1) ds)
number_more ds i all h = omega (arith, digits_value_more 10 ds i h, digit_at ds i all h, digit_value_digit (get_or ds i 0) (digit_at ds i all h))

-- at most nine digits
pub number_short : (ds : List ℕ) → AllDigits 10 ds → length ds ≤ 9 → digits_value 10 ds < 10 ^ 9
number_short ds all h = omega (arith, digits_value-lt 10 ds all, pow-le-pow_right {n = 10} (lit< tt) h)

pub part_short : (ds : List ℕ) (i : ℕ) → AllDigits 10 ds → length ds ≤ 9 → digits_value 10 (take i ds) < 10 ^ 9
part_short ds i all h = omega (arith, number_short ds all h, digits_value-take-le 10 ds i (lit< tt))
