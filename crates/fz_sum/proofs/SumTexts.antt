-- The number that a text gives: the function gives it if and only if the text does.
use Rattle.std.proofs.Common.{◌≡◌, ℕ, ◌^◌, ◌<◌, ◌≢◌, Bool, true, false, cond, eqb, ltb, List, [], ◌∷◌, length, take, get_or, sym, refl, ap, ◌∙◌, subst, arith}
use Rattle.std.specs.Prelude.{◌&&◌, Option, Some, None, IfSome, IfNone}
use Rattle.std.specs.Char.{is_ascii_digit}
use Rattle.std.specs.Option.{option_and_then, option_map}
use Rattle.std.specs.Str.{all_ascii_digits}
use Rattle.std.specs.Str.Parse.{IsNumeral, digits_value, without_leading_plus}
use Rattle.std.proofs.lemmas.Bool.{and_parts, ltb-true}
use Rattle.std.proofs.lemmas.Bool.Decides.{nat_tests}
use Rattle.std.proofs.lemmas.Str.Parse.{IsNumeralModel, numerals_by_value, tells_all_ascii_digits, without_leading_plus_none}
use Rattle.fz_card.specs.Laws.{BlankLaws, CardLaws}
use Rattle.fz_card.specs.Plain.{skip_blanks, ReadsNumeral}
use Rattle.fz_card.specs.Reading.{text_of}
use Rattle.fz_sum.specs.Texts.{GivesSum, CardGivesSum, sum_of_digits, sum_of_text, sum_of_card}

-- a number that is given only after a test
some-if : (test : Bool) (n v : ℕ) → cond test (Some n) None ≡ Some v → (test ≡ true) × (n ≡ v)
some-if true n v e = (refl, cc)
some-if false n v e = cc

-- digits are the numerals of their value
digits : IsNumeralModel (λ ds. all_ascii_digits ds ≡ true) (digits_value 10)
digits = numerals_by_value (λ ds. all_ascii_digits ds ≡ true) tells_all_ascii_digits

-- digits begin with no sign
first-digit : (text : List ℕ) → all_ascii_digits text ≡ true → get_or text 0 0 ≢ 43
first-digit [] e same = omega arith
first-digit (b ∷ bs) e same =
    let parts = and_parts (is_ascii_digit b) (all_ascii_digits bs) e in
    let f : is_ascii_digit b ≡ is_ascii_digit 43 = ap is_ascii_digit same in
    let g : is_ascii_digit 43 ≡ true = sym f ∙ parts.0 in
    cc

-- so many digits that write a number of 32 bits
tests-true : (a b c : Bool) → a ≡ true → b ≡ true → c ≡ true → (a && (b && c)) ≡ true
tests-true a b c e f g = rw (e, f, g) refl

positive : (n : ℕ) → 0 < n → ltb 0 n ≡ true
positive n some = grind (arith, nat_tests)

below : (m n : ℕ) → m < n → ltb m n ≡ true
below m n lt = grind (arith, nat_tests)

some-of : (test : Bool) (n : ℕ) → test ≡ true → Some n ≡ cond test (Some n) None
some-of test n e = rw e refl

none-of : (test : Bool) (n : ℕ) → ¬ (test ≡ true) → None ≡ cond test (Some n) None
none-of true n never = absurd (never refl)
none-of false n never = refl

-- the digits of a sum of 32 bits
pub record IsSum (text : List ℕ) (sum : ℕ) : Type 0 where
  pub numeral : IsNumeral 10 text
  pub value : sum ≡ digits_value 10 text
  pub fits : sum < 2 ^ 32

pub digits-sum : (text : List ℕ) (sum : ℕ) → sum_of_digits text ≡ Some sum → IsSum text sum
digits-sum text sum e =
    let value = digits_value 10 text in
    let parts = some-if (all_ascii_digits text && (ltb 0 (length text) && ltb value (2 ^ 32))) value sum e in
    let tests = and_parts (all_ascii_digits text) (ltb 0 (length text) && ltb value (2 ^ 32)) parts.0 in
    let bounds = and_parts (ltb 0 (length text)) (ltb value (2 ^ 32)) tests.1 in
    record {
      numeral = (ltb-true 0 (length text) bounds.0, digits.to text tests.0);
      value = sym parts.1;
      fits = subst (λ (n : ℕ). n < 2 ^ 32) parts.1 (ltb-true value (2 ^ 32) bounds.1);
    }

pub sum-digits : (text : List ℕ) (sum : ℕ) → IsSum text sum → sum_of_digits text ≡ Some sum
sum-digits text sum is =
    let value = digits_value 10 text in
    let small = subst (λ (n : ℕ). n < 2 ^ 32) is.value is.fits in
    sym (some-of (all_ascii_digits text && (ltb 0 (length text) && ltb value (2 ^ 32))) value (tests-true (all_ascii_digits text) (ltb 0 (length text)) (ltb value (2 ^ 32)) (digits.from text is.numeral.1) (positive (length text) is.numeral.0) (below value (2 ^ 32) small))) ∙ ap Some (sym is.value)

-- what was read of digits
pub read-digits : (text : List ℕ) (read : Option ℕ) → ReadsNumeral text read → all_ascii_digits text ≡ true → read ≡ sum_of_digits text
read-digits text None never e =
    let plain : without_leading_plus text ≡ text = without_leading_plus_none text (first-digit text e) in
    let refused = subst (λ (t : List ℕ). (IsNumeral 10 t × (digits_value 10 t < 2 ^ 32)) → ⊥) plain never in
    none-of (all_ascii_digits text && (ltb 0 (length text) && ltb (digits_value 10 text) (2 ^ 32))) (digits_value 10 text) (λ tests. refuted refused tests)
  where
    refuted : ((IsNumeral 10 text × (digits_value 10 text < 2 ^ 32)) → ⊥) → (all_ascii_digits text && (ltb 0 (length text) && ltb (digits_value 10 text) (2 ^ 32))) ≡ true → ⊥
    refuted refused tests =
        let parts = and_parts (all_ascii_digits text) (ltb 0 (length text) && ltb (digits_value 10 text) (2 ^ 32)) tests in
        let bounds = and_parts (ltb 0 (length text)) (ltb (digits_value 10 text) (2 ^ 32)) parts.1 in
        refused ((ltb-true 0 (length text) bounds.0, digits.to text parts.0), ltb-true (digits_value 10 text) (2 ^ 32) bounds.1)
read-digits text (Some n) whole e =
    let plain : without_leading_plus text ≡ text = without_leading_plus_none text (first-digit text e) in
    let is = subst (λ (t : List ℕ). IsNumeral 10 t × (n ≡ digits_value 10 t) × (n < 2 ^ 32)) plain whole in
    sym (sum-digits text n (record { numeral = is.0; value = is.1; fits = is.2 }))

pub no-digits : (text : List ℕ) → all_ascii_digits text ≡ false → None ≡ sum_of_digits text
no-digits text e = rw e refl

-- digits begin with no blank
unblank : (text : List ℕ) → all_ascii_digits text ≡ true → skip_blanks text ≡ text
unblank [] e = refl
unblank (b ∷ bs) e = by_test (eqb b 32) (other b (and_parts (is_ascii_digit b) (all_ascii_digits bs) e).0)
  where
    other : (x : ℕ) → is_ascii_digit x ≡ true → eqb x 32 ≡ false
    other x digit = grind (arith, nat_tests)

    by_test : (test : Bool) → test ≡ false → cond test (skip_blanks bs) (b ∷ bs) ≡ b ∷ bs
    by_test test f = rw f refl

pub text-gives : BlankLaws → (text : List ℕ) (sum : ℕ) → sum_of_text text ≡ Some sum → GivesSum text sum
unfolding sum_of_text
text-gives blanks text sum e =
    let after = blanks.skipped text in
    let is = digits-sum (skip_blanks text) sum e in
    record { before = after.count; digits = skip_blanks text; parts = after.parts; numeral = is.numeral; value = is.value; fits = is.fits }

pub gives-text : BlankLaws → (text : List ℕ) (sum : ℕ) → GivesSum text sum → sum_of_text text ≡ Some sum
unfolding sum_of_text
gives-text blanks text sum gives =
    let skipped : skip_blanks text ≡ gives.digits =
    ap skip_blanks gives.parts ∙ (blanks.behind_blanks gives.before gives.digits ∙ unblank gives.digits (digits.from gives.digits gives.numeral.1)) in
    ap sum_of_digits skipped ∙ sum-digits gives.digits sum (record { numeral = gives.numeral; value = gives.value; fits = gives.fits })

-- the same of a card
and-then-some : (read : Option (List ℕ)) (sum : ℕ) → option_and_then sum_of_text read ≡ Some sum → (text : List ℕ) × (read ≡ Some text) × (sum_of_text text ≡ Some sum)
and-then-some None sum e = cc
and-then-some (Some text) sum e = (text, refl, e)

pub card-gives : CardLaws → (card : List ℕ) (sum : ℕ) → sum_of_card card ≡ Some sum → CardGivesSum card sum
unfolding sum_of_card
card-gives laws card sum e =
    let found = and-then-some (text_of card) sum e in
    record { text = found.0; has = (laws.values.text card found.0).1 found.1; gives = text-gives laws.blanks found.0 sum found.2 }

pub gives-card : CardLaws → (card : List ℕ) (sum : ℕ) → CardGivesSum card sum → sum_of_card card ≡ Some sum
unfolding sum_of_card
gives-card laws card sum gives =
    ap (option_and_then sum_of_text) ((laws.values.text card gives.text).0 gives.has) ∙ gives-text laws.blanks gives.text sum gives.gives

-- what a function answers whose result is known
pub text-value : BlankLaws → (text : List ℕ) (read : Option ℕ) → read ≡ sum_of_text text → IfSome read (GivesSum text)
text-value blanks text None e = tt
text-value blanks text (Some sum) e = text-gives blanks text sum (sym e)

pub text-none : BlankLaws → (text : List ℕ) (read : Option ℕ) → read ≡ sum_of_text text → IfNone read ((sum : ℕ) → ¬ (GivesSum text sum))
text-none blanks text None e = λ sum gives. let f = gives-text blanks text sum gives in cc
text-none blanks text (Some sum) e = tt

pub card-value : CardLaws → (card : List ℕ) (read : Option ℕ) → read ≡ sum_of_card card → IfSome read (CardGivesSum card)
card-value laws card None e = tt
card-value laws card (Some sum) e = card-gives laws card sum (sym e)

pub card-none : CardLaws → (card : List ℕ) (read : Option ℕ) → read ≡ sum_of_card card → IfNone read ((sum : ℕ) → ¬ (CardGivesSum card sum))
card-none laws card None e = λ sum gives. let f = gives-card laws card sum gives in cc
card-none laws card (Some sum) e = tt

-- a card without a text, and one whose text was read into a buffer
pub card-untold : (card buffer : List ℕ) (len read : Option ℕ) → option_map (λ (n : ℕ). take n buffer) len ≡ text_of card → len ≡ None → read ≡ None → read ≡ sum_of_card card
unfolding sum_of_card
card-untold card buffer len read text e f =
    f ∙ ap (option_and_then sum_of_text) (sym (ap (option_map (λ (n : ℕ). take n buffer)) e) ∙ text)

pub card-told : (card buffer : List ℕ) (len read : Option ℕ) (n : ℕ) → option_map (λ (n : ℕ). take n buffer) len ≡ text_of card → len ≡ Some n → read ≡ sum_of_text (take n buffer) → read ≡ sum_of_card card
unfolding sum_of_card
card-told card buffer len read n text e f =
    f ∙ ap (option_and_then sum_of_text) (sym (ap (option_map (λ (n : ℕ). take n buffer)) e) ∙ text)
