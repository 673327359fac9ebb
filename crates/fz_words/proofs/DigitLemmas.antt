-- Numerals of 1 to 18 digits, as `parse` reads them.
use Rattle.std.proofs.Common.{◌≡◌, ℕ, ◌^◌, ◌<◌, ◌≤◌, Bool, true, false, cond, List, [], ◌∷◌, length, sym, refl, ap, ◌∙◌, arith}
use Rattle.std.specs.Prelude.{◌&&◌, nat_lt, nat_le, Option, Some, None, Result, Ok}
use Rattle.std.specs.Char.{is_ascii_digit}
use Rattle.std.specs.List.{list_all}
use Rattle.std.specs.Result.{result_ok}
use Rattle.std.specs.Str.{all_ascii_digits}
use Rattle.std.specs.Str.Parse.{digits_value, ParsesUnsigned}
use Rattle.std.proofs.lemmas.Bool.Decides.{nat_tests}
use Rattle.std.proofs.lemmas.Str.Parse.{IsNumeralModel, numerals_by_value, tells_all_ascii_digits, digits_value_short, parse_gives}
use Rattle.fz_card.specs.Reading.{is_short_numeral}
use Rattle.fz_words.specs.Values.{digits_in}

pub all-digits : (text : List ℕ) → list_all is_ascii_digit text ≡ all_ascii_digits text
all-digits [] = refl
all-digits (b ∷ bs) = ap (λ (rest : Bool). is_ascii_digit b && rest) (all-digits bs)

own : IsNumeralModel (λ ds. all_ascii_digits ds ≡ true) (digits_value 10)
own = numerals_by_value _ tells_all_ascii_digits

both : (a b : Bool) → (a && b) ≡ true → (a ≡ true) × (b ≡ true)
both true true h = (refl, refl)
both true false h = cc
both false b h = cc

positive : (n : ℕ) → nat_lt 0 n ≡ true → 0 < n
positive n h = grind (arith, nat_tests)

few : (n : ℕ) → nat_le n 18 ≡ true → n ≤ 18
few n h = grind (arith, nat_tests)

-- what `parse` gives of 1 to 18 digits
pub parsed : {E : Type 0} (text : List ℕ) (r : Result ℕ E) → ParsesUnsigned 64 10 text r → is_short_numeral text ≡ true → r ≡ Ok (digits_value 10 text)
parsed text r reads short =
    let parts = both (all_ascii_digits text) (nat_lt 0 (length text) && nat_le (length text) 18) short in
    let lengths = both (nat_lt 0 (length text)) (nat_le (length text) 18) parts.1 in
    let most = few (length text) lengths.1 in
    let small : digits_value 10 text < 10 ^ 18 = digits_value_short own text 18 parts.0 most in
    parse_gives own 64 text r reads parts.0 (positive (length text) lengths.0) (omega (arith, small))

some-if : (test : Bool) (n : ℕ) → test ≡ true → Some n ≡ cond test (Some n) None
some-if test n e = rw e refl

-- the same, of the number as an option
pub digits-read : {E : Type 0} (text : List ℕ) (o : Option ℕ) (r : Result ℕ E) → o ≡ result_ok r → ParsesUnsigned 64 10 text r → is_short_numeral text ≡ true → o ≡ digits_in text
digits-read text o r e reads short = e ∙ ap result_ok (parsed text r reads short) ∙ some-if (is_short_numeral text) (digits_value 10 text) short
