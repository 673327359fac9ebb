-- Texts that a card can hold, made of parts: for callers of `text_card`.
use Rattle.std.proofs.Common.{◌≡◌, ℕ, ◌<◌, ◌^◌, Bool, true, eqb, List, [], ◌∷◌, ◌++◌, refl, ◌∙◌, arith}
use Rattle.std.specs.Prelude.{IsTrue, not, ◌&&◌, decimal}
use Rattle.std.specs.Int.{IsInRange}
use Rattle.std.specs.Str.Parse.{AllDigits}
use Rattle.std.proofs.lemmas.Bool.Decides.{nat_tests}
use Rattle.std.proofs.lemmas.List.Folds.{list_all-append}
use Rattle.std.proofs.lemmas.Fmt.{decimal_is_IsNumeral}
use Rattle.std.proofs.lemmas.Str.Parse.{digit_from_value}
use Rattle.fz_card.specs.Made.{is_unquoted}

both-true : (a b : Bool) → a ≡ true → b ≡ true → (a && b) ≡ true
both-true a b e f = rw (e, f)

-- no quote in two parts
pub is_unquoted-append : (xs ys : List ℕ) → IsTrue (is_unquoted xs) → IsTrue (is_unquoted ys) → IsTrue (is_unquoted (xs ++ ys))
is_unquoted-append xs ys none more = list_all-append (λ b. not (eqb b 39)) xs ys ∙ both-true (is_unquoted xs) (is_unquoted ys) none more

not-quote : (d : ℕ) → IsInRange 48 57 d → not (eqb d 39) ≡ true
not-quote d range = grind (arith, nat_tests)

is_unquoted-digits : (ds : List ℕ) → AllDigits 10 ds → IsTrue (is_unquoted ds)
is_unquoted-digits [] digits = refl
is_unquoted-digits (d ∷ ds) (digit, digits) = both-true (not (eqb d 39)) (is_unquoted ds) (not-quote d (digit_from_value d digit)) (is_unquoted-digits ds digits)

-- no quote in a number
pub is_unquoted-decimal : (n : ℕ) → n < 2 ^ 64 → IsTrue (is_unquoted (decimal n))
is_unquoted-decimal n wide = is_unquoted-digits (decimal n) (decimal_is_IsNumeral n wide).0.1
