-- The functions that give a card's value give the value by the split of its field.
use Rattle.std.proofs.Common.{◌≡◌, ℕ, ◌<◌, ◌≤◌, Bool, true, false, cond, ltb, leb, List, length, take, drop, sym, refl, arith}
use Rattle.std.specs.Prelude.{ℤ, ◌&&◌, Option, Some, None, IfSome, IfNone, bytes_eq, codes}
use Rattle.std.specs.Option.{option_map}
use Rattle.std.specs.Str.{all_ascii_digits}
use Rattle.std.specs.Str.Parse.{IsNumeral, without_leading_sign, digits_value, signed_digits_value}
use Rattle.std.proofs.lemmas.Bool.Decides.{nat_tests}
use Rattle.std.proofs.lemmas.Slice.Eq.{bytes_eq-Decides}
use Rattle.std.proofs.lemmas.Str.Parse.{IsNumeralModel, tells_all_ascii_digits, numerals_by_value}
use Rattle.fz_card.specs.Layout.{HasValueIndicator, value_field}
use Rattle.fz_card.specs.Value.{IsIntegerText, IntegerValue, LogicalValue, logical_text}
use Rattle.fz_card.specs.Plain.{plain_text}
use Rattle.fz_card.specs.Reading.{has_value_indicator, is_short_numeral, integer_in, integer_of, logical_in, logical_of}
use Rattle.fz_card.proofs.Integers.{reads_integer, integer_reads, integer_plain}
use Rattle.fz_card.proofs.Values.{value_text-found, has_plain_text, logical_plain}

pub some-if : {X : Type 0} (test : Bool) (x v : X) → cond test (Some x) None ≡ Some v → (test ≡ true) × (x ≡ v)
some-if true x v e = (refl, cc)
some-if false x v e = cc

pub inner-if : {X : Type 0} (test : Bool) (r : Option X) (v : X) → cond test r None ≡ Some v → (test ≡ true) × (r ≡ Some v)
inner-if true r v e = (refl, e)
inner-if false r v e = cc

pub and-true : (a b : Bool) → (a && b) ≡ true → (a ≡ true) × (b ≡ true)
and-true true true e = (refl, refl)
and-true true false e = cc
and-true false b e = cc

pub digits : IsNumeralModel (λ ds. all_ascii_digits ds ≡ true) (digits_value 10)
digits = numerals_by_value (λ ds. all_ascii_digits ds ≡ true) tells_all_ascii_digits

pub lt-true : (a b : ℕ) → ltb a b ≡ true → a < b
lt-true a b e = grind (arith, nat_tests)

pub le-true : (a b : ℕ) → leb a b ≡ true → a ≤ b
le-true a b e = grind (arith, nat_tests)

tests-true : (a : Bool) (m n : ℕ) → a ≡ true → 0 < m → m ≤ n → (a && (ltb 0 m && leb m n)) ≡ true
tests-true a m n e some within = grind (arith, nat_tests)

short_numeral-is : (text : List ℕ) → is_short_numeral text ≡ true → IsNumeral 10 text × (length text ≤ 18)
short_numeral-is text e =
    let parts = and-true (all_ascii_digits text) (ltb 0 (length text) && leb (length text) 18) e in
    let bounds = and-true (ltb 0 (length text)) (leb (length text) 18) parts.1 in
    ((lt-true 0 (length text) bounds.0, digits.to text parts.0), le-true (length text) 18 bounds.1)

is-short_numeral : (text : List ℕ) → IsNumeral 10 text → length text ≤ 18 → is_short_numeral text ≡ true
is-short_numeral text numeral short = tests-true (all_ascii_digits text) (length text) 18 (digits.from text numeral.1) numeral.0 short

pub integer_in-is : (text : List ℕ) (v : ℤ) → integer_in text ≡ Some v → IsIntegerText text v
integer_in-is text v e =
    let parts = some-if (is_short_numeral (without_leading_sign text)) (signed_digits_value 10 text) v e in
    let numeral = short_numeral-is (without_leading_sign text) parts.0 in
    integer_reads text v (record { numeral = numeral.0; short = numeral.1; value = sym parts.1 })

pub is-integer_in : (text : List ℕ) (v : ℤ) → IsIntegerText text v → integer_in text ≡ Some v
is-integer_in text v is =
    let reads = reads_integer text v is in
    rw (is-short_numeral (without_leading_sign text) reads.numeral reads.short, reads.value)

-- a text of more than 18 digits is no integer
pub long-none : (a : Bool) (n : ℕ) (v : ℤ) → 18 < n → None ≡ cond (a && (ltb 0 n && leb n 18)) (Some v) None
long-none a n v long = by_test (a && (ltb 0 n && leb n 18)) (no-test a n long)
  where
    no-test : (a : Bool) (n : ℕ) → 18 < n → (a && (ltb 0 n && leb n 18)) ≡ false
    no-test a n long = grind (arith, nat_tests)

    by_test : (test : Bool) → test ≡ false → None ≡ cond test (Some v) None
    by_test test e = rw e refl

-- the function gives v exactly where v is the integer value
pub integer_of-value : (card : List ℕ) (v : ℤ) → integer_of card ≡ Some v → IntegerValue card v
unfolding integer_of
integer_of-value card v e =
    let parts = inner-if (has_value_indicator card) (integer_in (plain_text (value_field card))) v e in
    record {
      text = plain_text (value_field card);
      has = has_plain_text card (plain_text (value_field card)) ((bytes_eq-Decides (take 2 (drop 8 card)) (codes "= ")).0 parts.0) refl;
      is = integer_in-is (plain_text (value_field card)) v parts.1;
    }

pub value-integer_of : (card : List ℕ) (v : ℤ) → IntegerValue card v → integer_of card ≡ Some v
unfolding integer_of
value-integer_of card v value =
    rw ((bytes_eq-Decides (take 2 (drop 8 card)) (codes "= ")).1 value.has.indicator, value_text-found card value.text value.has (integer_plain value.text v value.is)) (is-integer_in value.text v value.is)

-- `logical_in` with its two tests as variables
logical_by : (is_t is_f : Bool) (text : List ℕ) (b : Bool) → (is_t ≡ true → text ≡ codes "T") → (is_f ≡ true → text ≡ codes "F") → cond is_t (Some true) (cond is_f (Some false) None) ≡ Some b → text ≡ logical_text b
logical_by true is_f text true t f e = t refl
logical_by true is_f text false t f e = cc
logical_by false true text true t f e = cc
logical_by false true text false t f e = f refl
logical_by false false text b t f e = cc

logical_in-is : (text : List ℕ) (b : Bool) → logical_in text ≡ Some b → text ≡ logical_text b
logical_in-is text b e = logical_by (bytes_eq text (codes "T")) (bytes_eq text (codes "F")) text b (bytes_eq-Decides text (codes "T")).0 (bytes_eq-Decides text (codes "F")).0 e

is-logical_in : (b : Bool) → logical_in (logical_text b) ≡ Some b
is-logical_in true = refl
is-logical_in false = refl

-- the function gives b exactly where b is the logical value
pub logical_of-value : (card : List ℕ) (b : Bool) → logical_of card ≡ Some b → LogicalValue card b
unfolding logical_of
logical_of-value card b e =
    let parts = inner-if (has_value_indicator card) (logical_in (plain_text (value_field card))) b e in
    let same : plain_text (value_field card) ≡ logical_text b = logical_in-is (plain_text (value_field card)) b parts.1 in
    has_plain_text card (logical_text b) ((bytes_eq-Decides (take 2 (drop 8 card)) (codes "= ")).0 parts.0) (sym same)

pub value-logical_of : (card : List ℕ) (b : Bool) → LogicalValue card b → logical_of card ≡ Some b
unfolding logical_of
value-logical_of card b value =
    rw ((bytes_eq-Decides (take 2 (drop 8 card)) (codes "= ")).1 value.indicator, value_text-found card (logical_text b) value (logical_plain b)) (is-logical_in b)

-- an option that has just the values of a fact is the one that a function gives of them
pub same_option : {X : Type 0} (Value : X → Type 0) (read given : Option X) → IfSome read Value → IfNone read ((x : X) → ¬ (Value x)) → ((x : X) → given ≡ Some x → Value x) → ((x : X) → Value x → given ≡ Some x) → read ≡ given
same_option Value None None some none is value = refl
same_option Value None (Some x) some none is value = absurd (none x (is x refl))
same_option Value (Some x) given some none is value = sym (value x some)

pub integer_of-read : (card : List ℕ) (read : Option ℤ) → IfSome read (IntegerValue card) → IfNone read ((v : ℤ) → ¬ (IntegerValue card v)) → read ≡ integer_of card
integer_of-read card read some none = same_option (IntegerValue card) read (integer_of card) some none (integer_of-value card) (value-integer_of card)

pub logical_of-read : (card : List ℕ) (read : Option Bool) → IfSome read (LogicalValue card) → IfNone read ((b : Bool) → ¬ (LogicalValue card b)) → read ≡ logical_of card
logical_of-read card read some none = same_option (LogicalValue card) read (logical_of card) some none (logical_of-value card) (value-logical_of card)

pub none-if : {X : Type 0} (test : Bool) (r : Option X) → (test ≡ true → ⊥) → cond test r None ≡ None
none-if true r no_value = absurd (no_value refl)
none-if false r no_value = refl

-- a card without a value
pub integer_of-none : (card : List ℕ) → ¬ (HasValueIndicator card) → integer_of card ≡ None
unfolding integer_of
integer_of-none card no_value =
    none-if (has_value_indicator card) (integer_in (plain_text (value_field card))) (λ e. no_value ((bytes_eq-Decides (take 2 (drop 8 card)) (codes "= ")).0 e))

pub logical_of-none : (card : List ℕ) → ¬ (HasValueIndicator card) → logical_of card ≡ None
unfolding logical_of
logical_of-none card no_value =
    none-if (has_value_indicator card) (logical_in (plain_text (value_field card))) (λ e. no_value ((bytes_eq-Decides (take 2 (drop 8 card)) (codes "= ")).0 e))

-- what a call read is what a function gives
pub read_is : {X Y : Type 0} (f : X → Y) (Is : Y → Type 0) (read : Option X) (found : Option Y) → option_map f read ≡ found → ((y : Y) → found ≡ Some y → Is y) → IfSome read (λ x. Is (f x))
read_is f Is None found e is = tt
read_is f Is (Some x) found e is = is (f x) (sym e)

pub read_none : {X Y : Type 0} (f : X → Y) (Is : Y → Type 0) (read : Option X) (found : Option Y) → option_map f read ≡ found → ((y : Y) → Is y → found ≡ Some y) → IfNone read ((y : Y) → ¬ (Is y))
read_none f Is None found e is = λ y h. let found_y = is y h in cc
read_none f Is (Some x) found e is = tt
