-- The number after a stem: the function gives it exactly where the name is made of it.
use Rattle.std.proofs.Common.{◌≡◌, ℕ, zero, suc, ◌-◌, ◌^◌, ◌<◌, ◌≤◌, Bool, true, false, cond, eqb, ltb, List, [], ◌∷◌, ◌++◌, length, take, drop, get_or, sym, refl, ap, ◌∙◌, subst, arith}
use Rattle.std.specs.Prelude.{◌&&◌, Option, Some, None, bytes_eq}
use Rattle.std.specs.Int.{IsInRange}
use Rattle.std.specs.Str.{IsUtf8, IsAscii, all_ascii_digits}
use Rattle.std.specs.Str.Parse.{AllDigits, IsNumeral, digits_value, without_leading_plus}
use Rattle.std.specs.Fmt.{decimal}
use Rattle.std.proofs.lemmas.Bool.Decides.{nat_tests}
use Rattle.std.proofs.lemmas.Fmt.{decimal_is_IsNumeral, decimal-digits_value, decimal_digit, decimal_nonempty, first_decimal, IsAscii-from_digits}
use Rattle.std.proofs.lemmas.List.{append_assoc, drop_at, take_at, take-append-drop, length-append, length-drop}
use Rattle.std.proofs.lemmas.Slice.Eq.{bytes_eq-Decides}
use Rattle.std.proofs.lemmas.Str.{IsUtf8-from_ascii}
use Rattle.std.proofs.lemmas.Str.Ascii.{IsAscii-nil, IsAscii-cons}
use Rattle.std.proofs.lemmas.Str.Parse.{digit_at, digits_value_short, numerals_by_value, tells_digits, without_leading_plus_none}
use Rattle.fz_card.specs.Layout.{blanks, padded}
use Rattle.fz_card.specs.Plain.{cut_blanks, ReadsNumeral}
use Rattle.fz_card.specs.Made.{numbered_name}
use Rattle.fz_card.specs.Naming.{number_behind}
use Rattle.fz_card.proofs.Blanks.{length-blanks}
use Rattle.fz_card.proofs.Integers.{digits_plain}
use Rattle.fz_card.proofs.Readings.{some-if, and-true, lt-true, digits}
use Rattle.fz_card.proofs.Splits.{cut_blanks-before, cut_blanks-plain}

-- what the function tests of a name with a number
pub record HasNumber (stem name : List ℕ) (i : ℕ) : Type 0 where
  pub digits_are : all_ascii_digits (cut_blanks (drop (length stem) name)) ≡ true
  pub value : digits_value 10 (cut_blanks (drop (length stem) name)) ≡ i
  pub some : 0 < i
  pub made : name ≡ numbered_name stem i

pub number_behind-has : (stem name : List ℕ) (i : ℕ) → number_behind stem name ≡ Some i → HasNumber stem name i
unfolding number_behind
number_behind-has stem name i e =
    let text = cut_blanks (drop (length stem) name) in
    let n = digits_value 10 text in
    let parts = some-if (all_ascii_digits text && (ltb 0 n && bytes_eq name (numbered_name stem n))) n i e in
    let tests = and-true (all_ascii_digits text) (ltb 0 n && bytes_eq name (numbered_name stem n)) parts.0 in
    let inner = and-true (ltb 0 n) (bytes_eq name (numbered_name stem n)) tests.1 in
    record {
      digits_are = tests.0;
      value = parts.1;
      some = subst (λ (k : ℕ). 0 < k) parts.1 (lt-true 0 n inner.0);
      made = (bytes_eq-Decides name (numbered_name stem n)).0 inner.1 ∙ ap (numbered_name stem) parts.1;
    }

all-true : (a b c : Bool) → a ≡ true → b ≡ true → c ≡ true → (a && (b && c)) ≡ true
all-true a b c e f g = rw (e, f, g)

is-positive : (n : ℕ) → 0 < n → ltb 0 n ≡ true
is-positive n some = grind (arith, nat_tests)

pub has-number_behind : (stem name : List ℕ) (i : ℕ) → HasNumber stem name i → number_behind stem name ≡ Some i
unfolding number_behind
has-number_behind stem name i has =
    rw (has.value, all-true (all_ascii_digits (cut_blanks (drop (length stem) name))) (ltb 0 i) (bytes_eq name (numbered_name stem i)) has.digits_are (is-positive i has.some) ((bytes_eq-Decides name (numbered_name stem i)).1 has.made))

-- the digits of a name that is made of a stem and a number
pub digits_behind : (stem : List ℕ) (i : ℕ) → i < 2 ^ 64 → cut_blanks (drop (length stem) (numbered_name stem i)) ≡ decimal i
unfolding numbered_name
digits_behind stem i wide =
    let rest = blanks (8 - length (stem ++ decimal i)) in
    let behind : drop (length stem) ((stem ++ decimal i) ++ rest) ≡ decimal i ++ rest =
    ap (drop (length stem)) (append_assoc stem (decimal i) rest) ∙ drop_at stem (decimal i ++ rest) (length stem) refl in
    ap cut_blanks behind ∙ cut_blanks-plain (decimal i) (8 - length (stem ++ decimal i)) (digits_plain (decimal i) (decimal_is_IsNumeral i wide).0.1)

pub made-has : (stem name : List ℕ) (i : ℕ) → 0 < i → i < 2 ^ 64 → name ≡ numbered_name stem i → HasNumber stem name i
made-has stem name i some wide made =
    let text : cut_blanks (drop (length stem) name) ≡ decimal i = ap (λ (n : List ℕ). cut_blanks (drop (length stem) n)) made ∙ digits_behind stem i wide in
    let numeral = decimal_is_IsNumeral i wide in
    record {
      digits_are = ap all_ascii_digits text ∙ digits.from (decimal i) numeral.0.1;
      value = ap (digits_value 10) text ∙ numeral.1;
      some = some;
      made = made;
    }

-- the number of a name that is made of it
pub number_behind-made : (stem name : List ℕ) (i : ℕ) → 0 < i → i < 2 ^ 64 → name ≡ numbered_name stem i → number_behind stem name ≡ Some i
number_behind-made stem name i some wide made = has-number_behind stem name i (made-has stem name i some wide made)

-- the stem of a name that is made of one
pub stem_of_made : (stem : List ℕ) (i : ℕ) → take (length stem) (numbered_name stem i) ≡ stem
unfolding numbered_name
stem_of_made stem i =
    let rest = blanks (8 - length (stem ++ decimal i)) in
    ap (take (length stem)) (append_assoc stem (decimal i) rest) ∙ take_at stem (decimal i ++ rest) (length stem) refl

length-cut_blanks : (bs : List ℕ) → length (cut_blanks bs) ≤ length bs
length-cut_blanks bs =
    let h = cut_blanks-before bs in
    omega (arith, ap length h.parts, length-append (cut_blanks bs) (blanks h.count))

-- the number of a name of 8 bytes is short, and its digits are after the stem
pub number_short : (stem name : List ℕ) (i : ℕ) → length name ≡ 8 → HasNumber stem name i → i < 10 ^ 8
number_short stem name i eight has =
    subst (λ (k : ℕ). k < 10 ^ 8) has.value (digits_value_short digits (cut_blanks (drop (length stem) name)) 8 has.digits_are (omega (arith, length-cut_blanks (drop (length stem) name), length-drop (length stem) name)))

pub digits_of_name : (stem name : List ℕ) (i : ℕ) → length name ≡ 8 → HasNumber stem name i → cut_blanks (drop (length stem) name) ≡ decimal i
digits_of_name stem name i eight has =
    ap (λ (n : List ℕ). cut_blanks (drop (length stem) n)) has.made ∙ digits_behind stem i (omega (arith, number_short stem name i eight has))

pub none_from : {X : Type 0} (o : Option X) → ((x : X) → ¬ (o ≡ Some x)) → o ≡ None
none_from None never = refl
none_from (Some x) never = absurd (never x refl)

-- a name without the stem has no number after it
pub number_behind-other : (stem name : List ℕ) → bytes_eq (take (length stem) name) stem ≡ false → None ≡ number_behind stem name
number_behind-other stem name other =
    sym (none_from (number_behind stem name) (λ i e.
    let has = number_behind-has stem name i e in
    let same : bytes_eq (take (length stem) name) stem ≡ true = (bytes_eq-Decides (take (length stem) name) stem).1 (ap (take (length stem)) has.made ∙ stem_of_made stem i) in
    cc))

-- the digits of a number above 0 begin with one of 1 to 9
first_digit : (text : List ℕ) (i : ℕ) → 0 < i → i < 2 ^ 64 → text ≡ decimal i → (48 < get_or text 0 0) × (get_or text 0 0 ≤ 57)
first_digit text i some wide same =
    let range : IsInRange 48 57 (get_or (decimal i) 0 0) = digit_at (decimal i) 0 (decimal_is_IsNumeral i wide).0.1 (decimal_nonempty i wide) in
    subst (λ (t : List ℕ). (48 < get_or t 0 0) × (get_or t 0 0 ≤ 57)) (sym same) (first_decimal i some wide, omega (arith, range))

pub number_behind-first : (stem name text : List ℕ) → length name ≡ 8 → text ≡ cut_blanks (drop (length stem) name) → (48 < get_or text 0 0 → ¬ (get_or text 0 0 ≤ 57)) → None ≡ number_behind stem name
number_behind-first stem name text eight found other =
    sym (none_from (number_behind stem name) (λ i e.
    let has = number_behind-has stem name i e in
    let first = first_digit text i has.some (omega (arith, number_short stem name i eight has)) (found ∙ digits_of_name stem name i eight has) in
    other first.0 first.1))

-- only 0 is written with the digit 0 in front
above_zero : (v : ℕ) (text : List ℕ) → decimal v ≡ text → 48 < get_or text 0 0 → 0 < v
above_zero zero text same first =
    let zero_text : 48 ∷ [] ≡ text = sym (decimal_digit 0 (omega arith)) ∙ same in
    absurd (omega (arith, ap (λ (t : List ℕ). get_or t 0 0) zero_text))
above_zero (suc v) text same first = omega arith

-- a text of digits, the first of them not 0, is what is written of its number, which is above 0
digits_written : (text : List ℕ) (v : ℕ) → IsNumeral 10 text → length text ≤ 8 → 48 < get_or text 0 0 → v ≡ digits_value 10 text → (0 < v) × (v < 2 ^ 64) × (decimal v ≡ text)
digits_written text v numeral short first value =
    let own = numerals_by_value (AllDigits 10) tells_digits in
    let few : digits_value 10 text < 10 ^ 8 = digits_value_short own text 8 numeral.1 short in
    let written : decimal (digits_value 10 text) ≡ text = decimal-digits_value own text numeral.1 numeral.0 (λ e. absurd (omega arith)) (omega (arith, few)) in
    let same : decimal v ≡ text = ap decimal value ∙ written in
    (above_zero v text same first, omega (arith, few), same)

-- the stem, the digits and blanks are the name that is made of them
name_made : (stem name text : List ℕ) (v : ℕ) → length name ≡ 8 → take (length stem) name ≡ stem → text ≡ cut_blanks (drop (length stem) name) → decimal v ≡ text → name ≡ numbered_name stem v
unfolding numbered_name
name_made stem name text v eight front found written =
    let h = cut_blanks-before (drop (length stem) name) in
    let parts : name ≡ stem ++ (text ++ blanks h.count) =
    sym (take-append-drop (length stem) name) ∙ (ap (λ (l : List ℕ). l ++ drop (length stem) name) front ∙ ap (λ (l : List ℕ). stem ++ l) (h.parts ∙ ap (λ (l : List ℕ). l ++ blanks h.count) (sym found))) in
    let joined : name ≡ (stem ++ text) ++ blanks h.count = parts ∙ sym (append_assoc stem text (blanks h.count)) in
    let count : h.count ≡ 8 - length (stem ++ text) = omega (arith, ap length joined, length-append (stem ++ text) (blanks h.count), length-blanks h.count) in
    joined ∙ (ap (λ (k : ℕ). (stem ++ text) ++ blanks k) count ∙ ap padded (ap (λ (t : List ℕ). stem ++ t) (sym written)))

-- what was read of the digits is the number after the stem
pub number_behind-read : (stem name text : List ℕ) (read : Option ℕ) → length name ≡ 8 → take (length stem) name ≡ stem → text ≡ cut_blanks (drop (length stem) name) → 48 < get_or text 0 0 → ReadsNumeral text read → read ≡ number_behind stem name
number_behind-read stem name text None eight front found first reads =
    let plain : without_leading_plus text ≡ text = without_leading_plus_none text (omega arith) in
    sym (none_from (number_behind stem name) (λ i e.
    let has = number_behind-has stem name i e in
    let short = number_short stem name i eight has in
    let same : without_leading_plus text ≡ decimal i = plain ∙ (found ∙ digits_of_name stem name i eight has) in
    let numeral = decimal_is_IsNumeral i (omega (arith, short)) in
    reads (subst (λ (t : List ℕ). IsNumeral 10 t × (digits_value 10 t < 2 ^ 32)) (sym same) (numeral.0, omega (arith, numeral.1, short)))))
number_behind-read stem name text (Some v) eight front found first reads =
    let plain : without_leading_plus text ≡ text = without_leading_plus_none text (omega arith) in
    let numeral : IsNumeral 10 text = subst (IsNumeral 10) plain reads.0 in
    let short : length text ≤ 8 = omega (arith, ap length found, length-cut_blanks (drop (length stem) name), length-drop (length stem) name) in
    let written = digits_written text v numeral short first (reads.1 ∙ ap (digits_value 10) plain) in
    sym (number_behind-made stem name v written.0 written.1 (name_made stem name text v eight front found written.2))

-- a text that `parse` reads as a number is ASCII
plus_ascii : (plus : Bool) (d : ℕ) (ds : List ℕ) → (plus ≡ true → d ≡ 43) → IsNumeral 10 (drop (cond plus 1 0) (d ∷ ds)) → IsAscii (d ∷ ds)
plus_ascii true d ds p numeral = IsAscii-cons d ds (omega (arith, p refl)) (IsAscii-from_digits ds numeral.1)
plus_ascii false d ds p numeral = IsAscii-from_digits (d ∷ ds) numeral.1

eqb-same : (a b : ℕ) → eqb a b ≡ true → a ≡ b
eqb-same a b h = grind (arith, nat_tests)

pub plus_utf8 : (text : List ℕ) → IsNumeral 10 (without_leading_plus text) → IsUtf8 text
plus_utf8 [] numeral = IsUtf8-from_ascii [] IsAscii-nil
plus_utf8 (d ∷ ds) numeral = IsUtf8-from_ascii (d ∷ ds) (plus_ascii (eqb d 43) d ds (eqb-same d 43) numeral)
