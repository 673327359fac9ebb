-- The number that decimal digits write.
use Rattle.std.proofs.Common.{◌≡◌, ℕ, ◌+◌, ◌-◌, ◌*◌, ◌<◌, ◌≤◌, ◌^◌, List, length, take, get_or, arith, lit<}
use Rattle.std.specs.Str.Parse.{AllDigits, digits_value}
use Rattle.std.proofs.lemmas.Str.Parse.{digit_at, digits_value-take-le}
use Rattle.std.proofs.lemmas.Str.{digit_value_digit}
use Rattle.std.proofs.lemmas.Int.Digits.{digits_value-lt, digits_value_more}
use Rattle.std.proofs.Math.Nat.{pow-le-pow_right}

-- a digit more
pub number_more : (ds : List ℕ) (i : ℕ) → AllDigits 10 ds → i < length ds → 10 * digits_value 10 (take i ds) + (get_or ds i 0 - 48) ≡ digits_value 10 (take (i + 1) ds)
number_more ds i all h = omega (arith, digits_value_more 10 ds i h, digit_at ds i all h, digit_value_digit (get_or ds i 0) (digit_at ds i all h))

-- at most eighteen digits
number_short : (ds : List ℕ) → AllDigits 10 ds → length ds ≤ 18 → digits_value 10 ds < 10 ^ 18
number_short ds all h = omega (arith, digits_value-lt 10 ds all, pow-le-pow_right {n = 10} (lit< tt) h)

pub part_short : (ds : List ℕ) (i : ℕ) → AllDigits 10 ds → length ds ≤ 18 → digits_value 10 (take i ds) < 10 ^ 18
part_short ds i all h = omega (arith, number_short ds all h, digits_value-take-le 10 ds i (lit< tt))
