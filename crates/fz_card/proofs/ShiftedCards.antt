-- The card with a decimal less a whole number has room for it.
use Rattle.std.proofs.Common.{◌≡◌, ◌⊎◌, inl, inr, ℕ, zero, suc, ◌+◌, ◌-◌, ◌*◌, ◌/◌, ◌%◌, ◌^◌, ◌<◌, ◌≤◌, List, [], ◌∷◌, ◌++◌, length, take, decimal, Option, Some, None, refl, sym, ap, ◌∙◌, subst, arith, codes}
use Rattle.std.specs.Prelude.{ℤ, pos, negsuc, neg_ℤ, ◌-ℤ◌, ◌*ℤ◌, unsigned_abs}
use Rattle.std.specs.Option.{option_map}
use Rattle.std.specs.Str.Parse.{AllDigits, digits_value}
use Rattle.std.proofs.lemmas.Int.{ints}
use Rattle.std.proofs.lemmas.Fmt.{length-decimal-le_wide}
use Rattle.std.proofs.lemmas.Int.Digits.{digits_value-lt}
use Rattle.std.proofs.lemmas.List.{length-append, length-replicate, length-take-le}
use Rattle.std.proofs.Math.Nat.{div-le_self, mul-le-mul_left, mul-le-mul_right}
use Rattle.fz_card.specs.Laws.{MadeCardLaws}
use Rattle.fz_card.specs.Layout.{blanks, card_name}
use Rattle.fz_card.specs.Made.{right_aligned}
use Rattle.fz_card.specs.Value.{IsIntegerText, Signs}
use Rattle.fz_card.specs.Decimals.{HasDecimal, IsDecimalText, IsExponent, IsSmall, decimal_text, fraction_text, last_digits, less, scaled, shifted_card, sign_text}
use Rattle.fz_card.specs.DecimalLaws.{DecimalLaws, ShiftedIsCard}
use Rattle.fz_card.specs.DecimalReading.{decimal_of, shifted}
use Rattle.fz_card.specs.declared.decimal.Decimal.{Decimal}
use Rattle.fz_card.proofs.DecimalNumbers.{power-le, product-low}

-- ---- the decimal

abs_less : (a : ℤ) (b : ℕ) → unsigned_abs (a -ℤ pos b) ≤ unsigned_abs a + b
abs_less a b = grind (arith, ints)

signed_low : (sign : List ℕ) (n : ℕ) (v : ℤ) → Signs sign n v → (unsigned_abs v ≡ n) × (length sign ≤ 1)
signed_low sign n v (inl (inl none, is)) = (ap unsigned_abs is, (let long : length sign ≡ 0 = ap length none in omega (arith, long)))
signed_low sign n v (inl (inr plus, is)) = (ap unsigned_abs is, (let long : length sign ≡ 1 = ap length plus in omega (arith, long)))
signed_low sign zero v (inr (minus, is)) = (ap unsigned_abs is, (let long : length sign ≡ 1 = ap length minus in omega (arith, long)))
signed_low sign (suc n) v (inr (minus, is)) = (ap unsigned_abs is, (let long : length sign ≡ 1 = ap length minus in omega (arith, long)))

integer_low : (text : List ℕ) (v : ℤ) → IsIntegerText text v → (unsigned_abs v ≤ 2 ^ 63) × (length text ≤ 19)
integer_low text v is =
    let signed = signed_low is.sign (digits_value 10 is.digits) v is.signs in
    let value : digits_value 10 is.digits < 10 ^ length is.digits = digits_value-lt 10 is.digits is.numeral.1 in
    let most : 10 ^ length is.digits ≤ 10 ^ 18 = power-le (length is.digits) 18 is.short in
    let long : length text ≡ length is.sign + length is.digits = ap length is.parts ∙ length-append is.sign is.digits in
    (omega (arith, signed.0, value, most), omega (arith, long, signed.1, is.short))

exponent_small : (text : List ℕ) (e : ℤ) → IsExponent text e → IsSmall e
exponent_small text e (inl none) = subst IsSmall (sym none.1) (omega arith)
exponent_small text e (inr is) = is.small

-- its bounds
record IsLow (d : Decimal) : Type 0 where
  number : unsigned_abs d.number ≤ 10 ^ 28
  places : d.places ≤ 28

scaled_low : (m : ℤ) (behind : ℕ) (e : ℤ) → unsigned_abs m ≤ 2 ^ 63 → behind ≤ 19 → IsSmall e → IsLow (scaled m behind e)
scaled_low m behind (pos e) low few small = record { number = product-low m (e - behind) low (omega (arith, small)); places = omega (arith, few) }
scaled_low m behind (negsuc e) low few small = record { number = omega (arith, low); places = omega (arith, few, small) }

decimal_low : (text : List ℕ) (d : Decimal) → IsDecimalText text d → IsLow d
decimal_low text d is =
    let both = integer_low (is.front ++ is.fraction) is.m is.integer in
    let long : length (is.front ++ is.fraction) ≡ length is.front + length is.fraction = length-append is.front is.fraction in
    subst IsLow (sym is.is) (scaled_low is.m (length is.fraction) is.e both.0 (omega (arith, both.1, long)) (exponent_small is.exponent is.e is.is_exponent))

-- ---- its text

last_long : (count n : ℕ) → length (last_digits count n) ≡ count
last_long zero n = refl
last_long (suc count) n = ap suc (last_long count n)

fraction_long : (places n : ℕ) → length (fraction_text places n) ≤ places + 1
fraction_long zero n = omega arith
fraction_long (suc places) n = let rest = last_long places n in omega (arith, length-append (codes ".") (last_digits (suc places) n), rest)

sign_long : (v : ℤ) → length (sign_text v) ≤ 1
sign_long (pos n) = omega arith
sign_long (negsuc n) = omega arith

text_long : (d : Decimal) → unsigned_abs d.number < 10 ^ 38 → d.places ≤ 28 → length (decimal_text d) ≤ 68
text_long d low few =
    let size : ℕ = unsigned_abs d.number in
    let whole : ℕ = size / 10 ^ d.places in
    let below : whole ≤ size = div-le_self size (10 ^ d.places) in
    let digits : length (decimal whole) ≤ 38 = length-decimal-le_wide 38 whole (omega arith) (omega (arith, below, low)) (omega (arith, below, low)) in
    let all : length (decimal_text d) ≡ length (sign_text d.number) + length (decimal whole ++ fraction_text d.places size) = length-append (sign_text d.number) (decimal whole ++ fraction_text d.places size) in
    let parts : length (decimal whole ++ fraction_text d.places size) ≡ length (decimal whole) + length (fraction_text d.places size) = length-append (decimal whole) (fraction_text d.places size) in
    omega (arith, all, parts, digits, sign_long d.number, fraction_long d.places size, few)

aligned_long : (text : List ℕ) → length text ≤ 68 → length (right_aligned 20 text) ≤ 70
aligned_long text few =
    let all : length (right_aligned 20 text) ≡ length (blanks (20 - length text)) + length text = length-append (blanks (20 - length text)) text in
    let front : length (blanks (20 - length text)) ≡ 20 - length text = length-replicate {A = ℕ} (20 - length text) 32 in
    omega (arith, all, front, few)

less_low : (d : Decimal) (by : ℕ) → IsLow d → by < 2 ^ 32 → unsigned_abs (less d by).number < 10 ^ 38
less_low d by is small =
    let power : 10 ^ d.places ≤ 10 ^ 28 = power-le d.places 28 is.places in
    let first : by * 10 ^ d.places ≤ by * 10 ^ 28 = mul-le-mul_left by power in
    let at_most : by ≤ 2 ^ 32 = omega (arith, small) in
    let second : by * 10 ^ 28 ≤ 2 ^ 32 * 10 ^ 28 = mul-le-mul_right (10 ^ 28) at_most in
    let both = abs_less d.number (by * 10 ^ d.places) in
    omega (arith, both, first, second, is.number)

-- ---- the card

some_mapped : (o : Option Decimal) (card : List ℕ) (by : ℕ) (other : List ℕ) → option_map (λ d. shifted_card card by d) o ≡ Some other → (d : Decimal) × (o ≡ Some d) × (other ≡ shifted_card card by d)
some_mapped None card by other e = absurd cc
some_mapped (Some d) card by other e = let same : other ≡ shifted_card card by d = cc in (d, refl, same)

pub shifted_is_card : DecimalLaws → MadeCardLaws → ShiftedIsCard
unfolding shifted
shifted_is_card laws made card by other long small e =
    let found = some_mapped (decimal_of card) card by other e in
    let d : Decimal = found.0 in
    let has : HasDecimal card d = (laws.decimal card d).1 found.1 in
    let low : IsLow d = decimal_low has.text d has.is in
    let eight : length (card_name card) ≡ 8 = length-take-le 8 card long in
    let field : List ℕ = right_aligned 20 (decimal_text (less d by)) in
    let room : length field ≤ 70 = aligned_long (decimal_text (less d by)) (text_long (less d by) (less_low d by low small) low.places) in
    (ap length found.2 ∙ made.field_length (card_name card) field eight room, ap card_name found.2 ∙ made.field_name (card_name card) field eight)
