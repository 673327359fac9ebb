-- The values of a card: what was found from the left is the value, and a card has one value of a form.
use Rattle.std.proofs.Common.{◌≡◌, ◌≢◌, ℕ, Bool, true, false, List, get_or, sym, refl, ap, ◌∙◌, subst, arith}
use Rattle.std.specs.Prelude.{ℤ, Option, Some, None, IfSome, IfNone}
use Rattle.fz_card.specs.Layout.{HasValueIndicator, value_field}
use Rattle.fz_card.specs.Value.{HasValueText, IsIntegerText, SplitsRound, IntegerValue, LogicalValue, logical_text, IsPlain}
use Rattle.fz_card.specs.Plain.{plain_text}
use Rattle.fz_card.proofs.Splits.{splits_round_plain_text, plain_text-split}
use Rattle.fz_card.proofs.Integers.{integer_plain, integer_once}

-- a plain text of a card's value is the one that is found from the left
pub value_text-found : (card text : List ℕ) → HasValueText card text → IsPlain text → plain_text (value_field card) ≡ text
value_text-found card text has plain = plain_text-split text (value_field card) has.field plain

pub has_plain_text : (card text : List ℕ) → HasValueIndicator card → text ≡ plain_text (value_field card) → HasValueText card text
has_plain_text card text indicator found =
    record { indicator = indicator; field = subst (λ (t : List ℕ). SplitsRound t (value_field card)) (sym found) (splits_round_plain_text (value_field card)) }

pub int_some : (card text : List ℕ) (read : Option ℤ) → HasValueIndicator card → text ≡ plain_text (value_field card) → IfSome read (IsIntegerText text) → IfSome read (IntegerValue card)
int_some card text None indicator found is = tt
int_some card text (Some v) indicator found is = record { text = text; has = has_plain_text card text indicator found; is = is }

pub int_none : (card text : List ℕ) (read : Option ℤ) → text ≡ plain_text (value_field card) → IfNone read ((v : ℤ) → ¬ (IsIntegerText text v)) → IfNone read ((v : ℤ) → ¬ (IntegerValue card v))
int_none card text (Some v) found none = tt
int_none card text None found none = λ v value.
    let same : text ≡ value.text = found ∙ value_text-found card value.text value.has (integer_plain value.text v value.is) in
    none v (subst (λ (t : List ℕ). IsIntegerText t v) (sym same) value.is)

-- a card has at most one integer value
pub integer_value_once : (card : List ℕ) (v w : ℤ) → IntegerValue card v → IntegerValue card w → v ≡ w
integer_value_once card v w first second =
    let same : first.text ≡ second.text = sym (value_text-found card first.text first.has (integer_plain first.text v first.is)) ∙ value_text-found card second.text second.has (integer_plain second.text w second.is) in
    integer_once second.text v w (subst (λ (t : List ℕ). IsIntegerText t v) same first.is) second.is

pub logical_plain : (b : Bool) → IsPlain (logical_text b)
logical_plain true = (λ e. omega arith, λ e. omega arith, tt)
logical_plain false = (λ e. omega arith, λ e. omega arith, tt)

pub logical_text_once : (a b : Bool) → logical_text a ≡ logical_text b → a ≡ b
logical_text_once true true same = refl
logical_text_once true false same = let heads : 84 ≡ 70 = ap (λ (text : List ℕ). get_or text 0 0) same in absurd (omega (arith, heads))
logical_text_once false true same = let heads : 70 ≡ 84 = ap (λ (text : List ℕ). get_or text 0 0) same in absurd (omega (arith, heads))
logical_text_once false false same = refl

-- a card has at most one logical value
pub logical_value_once : (card : List ℕ) (a b : Bool) → LogicalValue card a → LogicalValue card b → a ≡ b
logical_value_once card a b first second =
    logical_text_once a b (sym (value_text-found card (logical_text a) first (logical_plain a)) ∙ value_text-found card (logical_text b) second (logical_plain b))

pub logical_some : (card text : List ℕ) (read : Option Bool) → HasValueIndicator card → text ≡ plain_text (value_field card) → IfSome read (λ b. text ≡ logical_text b) → IfSome read (LogicalValue card)
logical_some card text None indicator found is = tt
logical_some card text (Some b) indicator found is = has_plain_text card (logical_text b) indicator (sym is ∙ found)

pub logical_none : (card text : List ℕ) (read : Option Bool) → text ≡ plain_text (value_field card) → IfNone read ((b : Bool) → text ≢ logical_text b) → IfNone read ((b : Bool) → ¬ (LogicalValue card b))
logical_none card text (Some b) found none = tt
logical_none card text None found none = λ b value. none b (found ∙ value_text-found card (logical_text b) value (logical_plain b))
