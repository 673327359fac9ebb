-- The decimal of a card, by the parts of its text and from the left.
use Rattle.std.proofs.Common.{◌≡◌, ◌≢◌, ℕ, ◌<◌, Bool, true, false, cond, List, [], ◌∷◌, ◌++◌, take, drop, sym, refl, ap, ◌∙◌, subst, arith, inl, inr}
use Rattle.std.specs.Prelude.{◌⊎◌, ℤ, Option, Some, None, codes}
use Rattle.std.specs.Int.{IsInRange}
use Rattle.std.specs.Option.{option_map}
use Rattle.std.specs.Str.Parse.{AllDigits}
use Rattle.std.proofs.lemmas.Slice.Eq.{bytes_eq-Decides}
use Rattle.std.proofs.lemmas.Str.Parse.{digit_from_value}
use Rattle.fz_card.specs.Layout.{HasValueIndicator, value_field}
use Rattle.fz_card.specs.Laws.{ValueTextLaw}
use Rattle.fz_card.specs.Plain.{plain_text}
use Rattle.fz_card.specs.Reading.{has_value_indicator}
use Rattle.fz_card.specs.Value.{IsPlain, IsIntegerText, Signs}
use Rattle.fz_card.specs.declared.decimal.Decimal.{Decimal}
use Rattle.fz_card.specs.Decimals.{IsExponent, IsDecimalText, HasDecimal, IsShifted, shifted_card}
use Rattle.fz_card.specs.DecimalScans.{decimal_in}
use Rattle.fz_card.specs.DecimalReading.{decimal_of, shifted}
use Rattle.fz_card.proofs.DecimalReadings.{IntegerTextLaw, is-decimal_in, decimal_in-is}

-- a decimal has neither blanks nor a `/`
plain-append : (a b : List ℕ) → IsPlain a → IsPlain b → IsPlain (a ++ b)
plain-append [] b first second = second
plain-append (x ∷ a) b (blank, slash, first) second = (blank, slash, plain-append a b first second)

plain-front : (a b : List ℕ) → IsPlain (a ++ b) → IsPlain a
plain-front [] b plain = tt
plain-front (x ∷ a) b (blank, slash, plain) = (blank, slash, plain-front a b plain)

digits-plain : (ds : List ℕ) → AllDigits 10 ds → IsPlain ds
digits-plain [] all = tt
digits-plain (d ∷ ds) (digit, all) =
    let range : IsInRange 48 57 d = digit_from_value d digit in
    (λ e. omega arith, λ e. omega arith, digits-plain ds all)

byte-plain : (b : ℕ) → 32 < b → b ≢ 47 → IsPlain (b ∷ [])
byte-plain b above other = (λ e. omega arith, other, tt)

signed-plain : (sign digits : List ℕ) (n : ℕ) (v : ℤ) → IsPlain digits → Signs sign n v → IsPlain (sign ++ digits)
signed-plain sign digits n v plain (inl (inl none, value)) = subst (λ (s : List ℕ). IsPlain (s ++ digits)) (sym none) plain
signed-plain sign digits n v plain (inl (inr plus, value)) = subst (λ (s : List ℕ). IsPlain (s ++ digits)) (sym plus) (λ e. omega arith, λ e. omega arith, plain)
signed-plain sign digits n v plain (inr (minus, value)) = subst (λ (s : List ℕ). IsPlain (s ++ digits)) (sym minus) (λ e. omega arith, λ e. omega arith, plain)

integer-plain : (text : List ℕ) (v : ℤ) → IsIntegerText text v → IsPlain text
integer-plain text v is = subst IsPlain (sym is.parts) (signed-plain is.sign is.digits _ v (digits-plain is.digits is.numeral.1) is.signs)

point-plain : (point fraction : List ℕ) → ((point ≡ []) × (fraction ≡ [])) ⊎ (point ≡ codes ".") → IsPlain point
point-plain point fraction (inl (none, empty)) = subst IsPlain (sym none) tt
point-plain point fraction (inr is) = subst IsPlain (sym is) (λ e. omega arith, λ e. omega arith, tt)

letter-plain : (letter : List ℕ) → (letter ≡ codes "E") ⊎ (letter ≡ codes "D") → IsPlain letter
letter-plain letter (inl is) = subst IsPlain (sym is) (λ e. omega arith, λ e. omega arith, tt)
letter-plain letter (inr is) = subst IsPlain (sym is) (λ e. omega arith, λ e. omega arith, tt)

exponent-plain : (text : List ℕ) (e : ℤ) → IsExponent text e → IsPlain text
exponent-plain text e (inl (none, zero_is)) = subst IsPlain (sym none) tt
exponent-plain text e (inr is) = subst IsPlain (sym is.parts) (plain-append is.letter is.rest (letter-plain is.letter is.is_letter) (integer-plain is.rest e is.integer))

decimal-plain : (text : List ℕ) (d : Decimal) → IsDecimalText text d → IsPlain text
decimal-plain text d is =
    let both = integer-plain (is.front ++ is.fraction) is.m is.integer in
    let rest = plain-append is.fraction is.exponent (digits-plain is.fraction is.digits) (exponent-plain is.exponent is.e is.is_exponent) in
    subst IsPlain (sym is.parts) (plain-append is.front (is.point ++ (is.fraction ++ is.exponent)) (plain-front is.front is.fraction both) (plain-append is.point (is.fraction ++ is.exponent) (point-plain is.point is.fraction is.is_point) rest))

inner-if : {X : Type 0} (test : Bool) (r : Option X) (v : X) → cond test r None ≡ Some v → (test ≡ true) × (r ≡ Some v)
inner-if true r v e = (refl, e)
inner-if false r v e = cc

-- the decimal of a card
module _ (integers : IntegerTextLaw) (texts : ValueTextLaw) where
  pub has-decimal_of : (card : List ℕ) (d : Decimal) → HasDecimal card d → decimal_of card ≡ Some d
  unfolding decimal_of
  has-decimal_of card d has =
      let found = (texts card has.text (decimal-plain has.text d has.is)).0 has.has in
      rw ((bytes_eq-Decides (take 2 (drop 8 card)) (codes "= ")).1 found.0, found.1) (is-decimal_in integers has.text d has.is)

  pub decimal_of-has : (card : List ℕ) (d : Decimal) → decimal_of card ≡ Some d → HasDecimal card d
  unfolding decimal_of
  decimal_of-has card d e =
      let text = plain_text (value_field card) in
      let parts = inner-if (has_value_indicator card) (decimal_in text) d e in
      let is = decimal_in-is integers text d parts.1 in
      record { text = text; has = (texts card text (decimal-plain text d is)).1 ((bytes_eq-Decides (take 2 (drop 8 card)) (codes "= ")).0 parts.0, refl); is = is }

  pub decimal-once : (card : List ℕ) (d e : Decimal) → HasDecimal card d → HasDecimal card e → d ≡ e
  decimal-once card d e first second = same d e (sym (has-decimal_of card d first) ∙ has-decimal_of card e second)
    where
      same : (a b : Decimal) → Some a ≡ Some b → a ≡ b
      same a b h = cc

  pub is-shifted : (card : List ℕ) (by : ℕ) (other : List ℕ) → IsShifted card by other → shifted card by ≡ Some other
  unfolding shifted
  is-shifted card by other is = ap (option_map (λ d. shifted_card card by d)) (has-decimal_of card is.decimal is.has) ∙ ap Some (sym is.made)

  pub shifted-is : (card : List ℕ) (by : ℕ) (other : List ℕ) → shifted card by ≡ Some other → IsShifted card by other
  unfolding shifted
  shifted-is card by other e = by_decimal (decimal_of card) refl e
    where
      by_decimal : (found : Option Decimal) → decimal_of card ≡ found → option_map (λ d. shifted_card card by d) found ≡ Some other → IsShifted card by other
      by_decimal None f g = cc
      by_decimal (Some d) f g = record { decimal = d; has = decimal_of-has card d f; made = same (shifted_card card by d) other g }
        where
          same : (a b : List ℕ) → Some a ≡ Some b → b ≡ a
          same a b h = cc

-- a card without a value
pub no-value : (card : List ℕ) → ¬ (HasValueIndicator card) → None ≡ decimal_of card
unfolding decimal_of
no-value card none = by_test (has_value_indicator card) (decimal_in (plain_text (value_field card))) (λ e. none ((bytes_eq-Decides (take 2 (drop 8 card)) (codes "= ")).0 e))
  where
    by_test : {X : Type 0} (test : Bool) (r : Option X) → (test ≡ true → ⊥) → None ≡ cond test r None
    by_test true r never = absurd (never refl)
    by_test false r never = refl

-- a card with one
pub value-read : (card text : List ℕ) → HasValueIndicator card → text ≡ plain_text (value_field card) → decimal_in text ≡ decimal_of card
unfolding decimal_of
value-read card text has found = rw (found, (bytes_eq-Decides (take 2 (drop 8 card)) (codes "= ")).1 has) refl

-- what `shifted` gives of a card without a decimal, and of one with it
pub shifted-none : (card : List ℕ) (by : ℕ) → None ≡ decimal_of card → None ≡ shifted card by
unfolding shifted
shifted-none card by none = ap (option_map (λ d. shifted_card card by d)) none

pub shifted-some : (card : List ℕ) (by : ℕ) (d : Decimal) (made : List ℕ) → Some d ≡ decimal_of card → made ≡ shifted_card card by d → Some made ≡ shifted card by
unfolding shifted
shifted-some card by d made some is = ap Some is ∙ ap (option_map (λ d. shifted_card card by d)) some
