-- Whether the value of a card is zero: the function says it.
use Rattle.std.proofs.Common.{◌≡◌, ◌≢◌, ℕ, Bool, true, false, cond, eqb, List, [], length, take, drop, sym, refl, ap, ◌∙◌, subst, arith}
use Rattle.std.specs.Prelude.{Option, Some, None, IfSome, IfNone, codes}
use Rattle.std.specs.Str.Parse.{without_leading_sign}
use Rattle.std.proofs.lemmas.Bool.Decides.{nat_tests}
use Rattle.std.proofs.lemmas.List.{nil_from_length}
use Rattle.std.proofs.lemmas.Slice.Eq.{bytes_eq-Decides}
use Rattle.fz_card.specs.Layout.{HasValueIndicator, value_field}
use Rattle.fz_card.specs.Value.{SplitsRound, HasZero, HasValue, ZeroValue}
use Rattle.fz_card.specs.Plain.{plain_text}
use Rattle.fz_card.specs.Zeros.{is_zero_number, is_zero_text, zero_in}
use Rattle.fz_card.specs.Reading.{has_value_indicator, zero_of}
use Rattle.fz_card.proofs.Readings.{inner-if, none-if}
use Rattle.fz_card.proofs.Splits.{splits_round_plain_text, plain_text-split}
use Rattle.fz_card.proofs.Values.{value_text-found, has_plain_text}
use Rattle.fz_card.proofs.ZeroTexts.{zero_text-is, is-zero_text, zero-plain, zero-some}

-- a text that is read is not empty
some-else : (test : Bool) (x v : Bool) → cond test None (Some x) ≡ Some v → (test ≡ false) × (x ≡ v)
some-else true x v e = cc
some-else false x v e = (refl, cc)

not-empty : (text : List ℕ) → eqb (length text) 0 ≡ false → text ≢ []
not-empty text other e = let same : eqb (length text) 0 ≡ true = ap (λ (t : List ℕ). eqb (length t) 0) e in cc

eqb-same : (a b : ℕ) → eqb a b ≡ true → a ≡ b
eqb-same a b h = grind (arith, nat_tests)

not-true : (b : Bool) → ¬ (b ≡ true) → b ≡ false
not-true true never = absurd (never refl)
not-true false never = refl

is-some : (text : List ℕ) → text ≢ [] → eqb (length text) 0 ≡ false
is-some text some = not-true (eqb (length text) 0) (λ e. some (nil_from_length text (eqb-same (length text) 0 e)))

-- the text of a zero value is the one that is found from the left
zero-found : (card : List ℕ) → HasZero card → is_zero_text (plain_text (value_field card)) ≡ true
zero-found card value =
    ap is_zero_text (value_text-found card value.text value.has (zero-plain value.text value.is)) ∙ is-zero_text value.text value.is

found-zero : (card : List ℕ) → HasValueIndicator card → is_zero_text (plain_text (value_field card)) ≡ true → HasZero card
found-zero card indicator e =
    record { text = plain_text (value_field card); has = has_plain_text card (plain_text (value_field card)) indicator refl; is = zero_text-is (plain_text (value_field card)) e }

not-blank : (card : List ℕ) → plain_text (value_field card) ≢ [] → ¬ (SplitsRound [] (value_field card))
not-blank card some split = some (plain_text-split [] (value_field card) split tt)

blank-not : (card : List ℕ) → ¬ (SplitsRound [] (value_field card)) → plain_text (value_field card) ≢ []
blank-not card never e = never (subst (λ (t : List ℕ). SplitsRound t (value_field card)) e (splits_round_plain_text (value_field card)))

value-of : (card : List ℕ) (a : Bool) → HasValueIndicator card → plain_text (value_field card) ≢ [] → is_zero_text (plain_text (value_field card)) ≡ a → ZeroValue card a
value-of card true indicator some e = found-zero card indicator e
value-of card false indicator some e =
    (record { indicator = indicator; not_blank = not-blank card some }, λ value. let found = zero-found card value in cc)

pub zero_of-value : (card : List ℕ) (a : Bool) → zero_of card ≡ Some a → ZeroValue card a
unfolding zero_of
zero_of-value card a e =
    let text = plain_text (value_field card) in
    let parts = inner-if (has_value_indicator card) (zero_in text) a e in
    let tests = some-else (eqb (length text) 0) (is_zero_text text) a parts.1 in
    value-of card a ((bytes_eq-Decides (take 2 (drop 8 card)) (codes "= ")).0 parts.0) (not-empty text tests.0) tests.1

-- a card with a value that is not blank
of-value : (card : List ℕ) (a : Bool) → HasValueIndicator card → plain_text (value_field card) ≢ [] → is_zero_text (plain_text (value_field card)) ≡ a → zero_of card ≡ Some a
unfolding zero_of
of-value card a indicator some e =
    rw ((bytes_eq-Decides (take 2 (drop 8 card)) (codes "= ")).1 indicator, is-some (plain_text (value_field card)) some, e) refl

pub value-zero_of : (card : List ℕ) (a : Bool) → ZeroValue card a → zero_of card ≡ Some a
value-zero_of card true value =
    let same = value_text-found card value.text value.has (zero-plain value.text value.is) in
    of-value card true value.has.indicator (λ e. omega (arith, zero-some value.text value.is, ap length (sym same ∙ e))) (zero-found card value)
value-zero_of card false value =
    of-value card false value.0.indicator (blank-not card value.0.not_blank) (not-true (is_zero_text (plain_text (value_field card))) (λ e. value.1 (found-zero card value.0.indicator e)))

pub zero_of-none : (card : List ℕ) → ¬ (HasValueIndicator card) → zero_of card ≡ None
unfolding zero_of
zero_of-none card no_value =
    none-if (has_value_indicator card) (zero_in (plain_text (value_field card))) (λ e. no_value ((bytes_eq-Decides (take 2 (drop 8 card)) (codes "= ")).0 e))

pub zero_of-text : (card text : List ℕ) → HasValueIndicator card → text ≡ plain_text (value_field card) → zero_in text ≡ zero_of card
unfolding zero_of
zero_of-text card text indicator is = ap zero_in is ∙ rw ((bytes_eq-Decides (take 2 (drop 8 card)) (codes "= ")).1 indicator) refl

some_same : (x y : Bool) → Some x ≡ Some y → x ≡ y
some_same x y e = cc

-- a card has at most one zero value
pub zero_value_once : (card : List ℕ) (a b : Bool) → ZeroValue card a → ZeroValue card b → a ≡ b
zero_value_once card a b first second = some_same a b (sym (value-zero_of card a first) ∙ value-zero_of card b second)

-- what a call read is the value of the card
pub zero_read : (card : List ℕ) (read : Option Bool) → read ≡ zero_of card → IfSome read (ZeroValue card)
zero_read card None e = tt
zero_read card (Some a) e = zero_of-value card a (sym e)

pub zero_unread : (card : List ℕ) (read : Option Bool) → read ≡ zero_of card → IfNone read (¬ (HasValue card))
zero_unread card None e = λ value.
    let found = of-value card (is_zero_text (plain_text (value_field card))) value.indicator (blank-not card value.not_blank) refl in cc
zero_unread card (Some a) e = tt

-- a text that is not empty is zero or not
pub zero_in-some : (text unsigned : List ℕ) → eqb (length text) 0 ≡ false → unsigned ≡ without_leading_sign text → Some (is_zero_number unsigned) ≡ zero_in text
unfolding is_zero_text
zero_in-some text unsigned some is = rw (some, is) refl
