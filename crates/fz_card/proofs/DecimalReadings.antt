-- The decimal that a text writes, by its parts and from the left.
use Rattle.std.proofs.Common.{◌≡◌, ℕ, ◌≤◌, Bool, true, false, cond, eqb, leb, List, [], ◌∷◌, ◌++◌, length, sym, refl, ap, ◌∙◌, subst, arith, inl, inr}
use Rattle.std.specs.Prelude.{◌⊎◌, ◌↔◌, ◌||◌, ℤ, pos, negsuc, codes, Option, Some, None}
use Rattle.std.specs.Char.{is_ascii_digit}
use Rattle.std.specs.Int.{IsInRange}
use Rattle.std.specs.Option.{option_map, option_and_then}
use Rattle.std.specs.Str.{all_ascii_digits}
use Rattle.std.specs.Str.Parse.{AllDigits, digits_value, without_leading_sign}
use Rattle.std.proofs.lemmas.Bool.Decides.{nat_tests}
use Rattle.std.proofs.lemmas.List.{append_assoc, append-nil}
use Rattle.std.proofs.lemmas.Str.Parse.{IsNumeralModel, digit_from_value, numerals_by_value, tells_all_ascii_digits}
use Rattle.fz_card.specs.Value.{IsIntegerText, Signs}
use Rattle.fz_card.specs.Reading.{integer_in}
use Rattle.fz_card.specs.Zeros.{skip_point}
use Rattle.fz_card.specs.declared.decimal.Decimal.{Decimal}
use Rattle.fz_card.specs.Decimals.{IsSmall, IsExponentText, IsExponent, IsDecimalText, scaled}
use Rattle.fz_card.specs.DecimalScans.{before, behind, is_letter, is_point, is_small, if_small, small_integer_in, exponent_in, joined_integer, joined_decimal, decimal_in}
use Rattle.fz_card.proofs.DecimalScans.{before-behind, BeginsSo, behind-begins, IsFree, free-append, free-front, free-rest, before-free, behind-free, before-begins, behind-begins_so}

-- digits and signs are neither letters nor points
digit-letter : (d : ℕ) → IsInRange 48 57 d → is_letter d ≡ false
digit-letter d range = grind (arith, nat_tests)

digit-point : (d : ℕ) → IsInRange 48 57 d → is_point d ≡ false
digit-point d range = grind (arith, nat_tests)

digits-letters : (ds : List ℕ) → AllDigits 10 ds → IsFree is_letter ds
digits-letters [] all = tt
digits-letters (d ∷ ds) (digit, all) = (digit-letter d (digit_from_value d digit), digits-letters ds all)

digits-points : (ds : List ℕ) → AllDigits 10 ds → IsFree is_point ds
digits-points [] all = tt
digits-points (d ∷ ds) (digit, all) = (digit-point d (digit_from_value d digit), digits-points ds all)

sign-free : (test : ℕ → Bool) → test 43 ≡ false → test 45 ≡ false → (sign : List ℕ) (n : ℕ) (v : ℤ) → Signs sign n v → IsFree test sign
sign-free test plus minus sign n v (inl (inl none, value)) = subst (IsFree test) (sym none) tt
sign-free test plus minus sign n v (inl (inr is, value)) = subst (IsFree test) (sym is) (plus, tt)
sign-free test plus minus sign n v (inr (is, value)) = subst (IsFree test) (sym is) (minus, tt)

integer-letters : (text : List ℕ) (v : ℤ) → IsIntegerText text v → IsFree is_letter text
integer-letters text v is = subst (IsFree is_letter) (sym is.parts) (free-append is_letter is.sign is.digits (sign-free is_letter refl refl is.sign _ v is.signs) (digits-letters is.digits is.numeral.1))

integer-points : (text : List ℕ) (v : ℤ) → IsIntegerText text v → IsFree is_point text
integer-points text v is = subst (IsFree is_point) (sym is.parts) (free-append is_point is.sign is.digits (sign-free is_point refl refl is.sign _ v is.signs) (digits-points is.digits is.numeral.1))

-- digits, as a test
digits : IsNumeralModel (λ ds. all_ascii_digits ds ≡ true) (digits_value 10)
digits = numerals_by_value (λ ds. all_ascii_digits ds ≡ true) tells_all_ascii_digits

-- the law of integers
abbrev pub IntegerTextLaw : Type 0
IntegerTextLaw = (text : List ℕ) (v : ℤ) → IsIntegerText text v ↔ (integer_in text ≡ Some v)

small-test : (e : ℤ) → IsSmall e → is_small e ≡ true
small-test (pos n) small = within n 9 small
  where
    within : (a b : ℕ) → a ≤ b → leb a b ≡ true
    within a b h = grind (arith, nat_tests)
small-test (negsuc n) small = within n 8 (omega arith)
  where
    within : (a b : ℕ) → a ≤ b → leb a b ≡ true
    within a b h = grind (arith, nat_tests)

three : (n : ℕ) → n ≤ 3 → leb n 3 ≡ true
three n few = grind (arith, nat_tests)

letter-exponent : (integers : IntegerTextLaw) (text : List ℕ) (e : ℤ) → IsExponentText text e → exponent_in text ≡ Some e
letter-exponent integers text e is = by_letter is.is_letter
  where
    rest-is : small_integer_in is.rest ≡ Some e
    rest-is = rw (three (length (without_leading_sign is.rest)) is.few, (integers is.rest e).0 is.integer, small-test e is.small) refl

    by_letter : (is.letter ≡ codes "E") ⊎ (is.letter ≡ codes "D") → exponent_in text ≡ Some e
    by_letter (inl l) = ap exponent_in (is.parts ∙ ap (λ (x : List ℕ). x ++ is.rest) l) ∙ rest-is
    by_letter (inr l) = ap exponent_in (is.parts ∙ ap (λ (x : List ℕ). x ++ is.rest) l) ∙ rest-is

pub is-exponent_in : (integers : IntegerTextLaw) (text : List ℕ) (e : ℤ) → IsExponent text e → exponent_in text ≡ Some e
is-exponent_in integers text e (inl (none, zero_is)) = ap exponent_in none ∙ ap Some (sym zero_is)
is-exponent_in integers text e (inr is) = letter-exponent integers text e is

exponent-begins : (text : List ℕ) (e : ℤ) → IsExponent text e → BeginsSo is_letter text
exponent-begins text e (inl (none, zero_is)) = subst (BeginsSo is_letter) (sym none) tt
exponent-begins text e (inr is) = by_letter is.is_letter
  where
    by_letter : (is.letter ≡ codes "E") ⊎ (is.letter ≡ codes "D") → BeginsSo is_letter text
    by_letter (inl l) = subst (BeginsSo is_letter) (sym (is.parts ∙ ap (λ (x : List ℕ). x ++ is.rest) l)) refl
    by_letter (inr l) = subst (BeginsSo is_letter) (sym (is.parts ∙ ap (λ (x : List ℕ). x ++ is.rest) l)) refl

-- the parts of a mantissa
point-letters : (point fraction : List ℕ) → ((point ≡ []) × (fraction ≡ [])) ⊎ (point ≡ codes ".") → IsFree is_letter point
point-letters point fraction (inl (none, empty)) = subst (IsFree is_letter) (sym none) tt
point-letters point fraction (inr is) = subst (IsFree is_letter) (sym is) (refl, tt)

point-begins : (point fraction : List ℕ) → ((point ≡ []) × (fraction ≡ [])) ⊎ (point ≡ codes ".") → BeginsSo is_point (point ++ fraction)
point-begins point fraction (inl (none, empty)) = rw (none, empty) tt
point-begins point fraction (inr is) = rw is refl

point-skipped : (point fraction : List ℕ) → ((point ≡ []) × (fraction ≡ [])) ⊎ (point ≡ codes ".") → skip_point (point ++ fraction) ≡ fraction
point-skipped point fraction (inl (none, empty)) = rw (none, empty) refl
point-skipped point fraction (inr is) = rw is refl

pub is-decimal_in : (integers : IntegerTextLaw) (text : List ℕ) (d : Decimal) → IsDecimalText text d → decimal_in text ≡ Some d
unfolding decimal_in
is-decimal_in integers text d is =
    let both = is.front ++ is.fraction in
    let letters = integer-letters both is.m is.integer in
    let points = integer-points both is.m is.integer in
    let mantissa = is.front ++ (is.point ++ is.fraction) in
    let free : IsFree is_letter mantissa = free-append is_letter is.front (is.point ++ is.fraction) (free-front is_letter is.front is.fraction letters) (free-append is_letter is.point is.fraction (point-letters is.point is.fraction is.is_point) (free-rest is_letter is.front is.fraction letters)) in
    let parts : text ≡ mantissa ++ is.exponent = is.parts ∙ simp append_assoc in
    let begins = exponent-begins is.exponent is.e is.is_exponent in
    let first : before is_letter text ≡ mantissa = ap (before is_letter) parts ∙ (before-free is_letter mantissa is.exponent free ∙ (ap (λ (l : List ℕ). mantissa ++ l) (before-begins is_letter is.exponent begins) ∙ append-nil mantissa)) in
    let last : behind is_letter text ≡ is.exponent = ap (behind is_letter) parts ∙ (behind-free is_letter mantissa is.exponent free ∙ behind-begins_so is_letter is.exponent begins) in
    let no_point = free-front is_point is.front is.fraction points in
    let at_point = point-begins is.point is.fraction is.is_point in
    let front : before is_point mantissa ≡ is.front = before-free is_point is.front (is.point ++ is.fraction) no_point ∙ (ap (λ (l : List ℕ). is.front ++ l) (before-begins is_point (is.point ++ is.fraction) at_point) ∙ append-nil is.front) in
    let rest : behind is_point mantissa ≡ is.point ++ is.fraction = behind-free is_point is.front (is.point ++ is.fraction) no_point ∙ behind-begins_so is_point (is.point ++ is.fraction) at_point in
    let fraction : skip_point (behind is_point mantissa) ≡ is.fraction = ap skip_point rest ∙ point-skipped is.point is.fraction is.is_point in
    let joined : joined_integer is.front is.fraction ≡ Some is.m = rw (digits.from is.fraction is.digits) ((integers both is.m).0 is.integer) in
    let exponent = is-exponent_in integers is.exponent is.e is.is_exponent in
    rw (first, last, front, fraction, joined, exponent) (ap Some (sym is.is))

-- and back: the parts of a text of which a decimal was found
some-if : {X : Type 0} (test : Bool) (r : Option X) (v : X) → cond test r None ≡ Some v → (test ≡ true) × (r ≡ Some v)
some-if true r v e = (refl, e)
some-if false r v e = cc

record PointOf (rest : List ℕ) : Type 0 where
  point : List ℕ
  parts : rest ≡ point ++ skip_point rest
  is : ((point ≡ []) × (skip_point rest ≡ [])) ⊎ (point ≡ codes ".")

point-of : (rest : List ℕ) → BeginsSo is_point rest → PointOf rest
point-of [] begins = record { point = []; parts = refl; is = inl (refl, refl) }
point-of (b ∷ bs) begins = record { point = 46 ∷ []; parts = (let e : b ≡ 46 = same b 46 begins in rw e refl); is = inr refl }
  where
    same : (a b : ℕ) → eqb a b ≡ true → a ≡ b
    same a b h = grind (arith, nat_tests)

small-is : (e : ℤ) → is_small e ≡ true → IsSmall e
small-is (pos n) e = within n 9 e
  where
    within : (a b : ℕ) → leb a b ≡ true → a ≤ b
    within a b h = grind (arith, nat_tests)
small-is (negsuc n) e = let f : n ≤ 8 = within n 8 e in omega arith
  where
    within : (a b : ℕ) → leb a b ≡ true → a ≤ b
    within a b h = grind (arith, nat_tests)

if_small-is : (o : Option ℤ) (e : ℤ) → if_small o ≡ Some e → (o ≡ Some e) × IsSmall e
if_small-is None e f = cc
if_small-is (Some v) e f = by_test (is_small v) refl f
  where
    by_test : (test : Bool) → is_small v ≡ test → cond test (Some v) None ≡ Some e → (Some v ≡ Some e) × IsSmall e
    by_test true t g = (g, subst IsSmall (same v e g) (small-is v t))
      where
        same : (a b : ℤ) → Some a ≡ Some b → a ≡ b
        same a b h = cc
    by_test false t g = cc

few-is : (n : ℕ) → leb n 3 ≡ true → n ≤ 3
few-is n e = grind (arith, nat_tests)

letter-is : (b : ℕ) → is_letter b ≡ true → (b ∷ [] ≡ codes "E") ⊎ (b ∷ [] ≡ codes "D")
letter-is b e = by_test (eqb b 69) refl e
  where
    same : (a c : ℕ) → eqb a c ≡ true → a ≡ c
    same a c h = grind (arith, nat_tests)

    by_test : (test : Bool) → eqb b 69 ≡ test → (test || eqb b 68) ≡ true → (b ∷ [] ≡ codes "E") ⊎ (b ∷ [] ≡ codes "D")
    by_test true t f = inl (ap (λ (x : ℕ). x ∷ []) (same b 69 t))
    by_test false t f = inr (ap (λ (x : ℕ). x ∷ []) (same b 68 f))

pub exponent_in-is : (integers : IntegerTextLaw) (text : List ℕ) (e : ℤ) → exponent_in text ≡ Some e → IsExponent text e
exponent_in-is integers [] e f = inl (refl, zero_is e f)
  where
    zero_is : (e : ℤ) → Some (pos 0) ≡ Some e → e ≡ pos 0
    zero_is e f = cc
exponent_in-is integers (b ∷ bs) e f =
    let letter = some-if (is_letter b) (small_integer_in bs) e f in
    let few = some-if (leb (length (without_leading_sign bs)) 3) (if_small (integer_in bs)) e letter.1 in
    let small = if_small-is (integer_in bs) e few.1 in
    inr (record { letter = b ∷ []; rest = bs; parts = refl; is_letter = letter-is b letter.0; integer = (integers bs e).1 small.0; few = few-is (length (without_leading_sign bs)) few.0; small = small.1 })

and-then-parts : (joined exponent : Option ℤ) (behind : ℕ) (d : Decimal) → option_and_then (λ m. option_map (λ e. scaled m behind e) exponent) joined ≡ Some d → (m : ℤ) × (e : ℤ) × (joined ≡ Some m) × (exponent ≡ Some e) × (scaled m behind e ≡ d)
and-then-parts None exponent behind d f = cc
and-then-parts (Some m) None behind d f = cc
and-then-parts (Some m) (Some e) behind d f = (m, e, refl, refl, same (scaled m behind e) d f)
  where
    same : (a b : Decimal) → Some a ≡ Some b → a ≡ b
    same a b g = cc

pub decimal_in-is : (integers : IntegerTextLaw) (text : List ℕ) (d : Decimal) → decimal_in text ≡ Some d → IsDecimalText text d
unfolding decimal_in
decimal_in-is integers text d f =
    let mantissa = before is_letter text in
    let exponent = behind is_letter text in
    let front = before is_point mantissa in
    let rest = behind is_point mantissa in
    let found = and-then-parts (joined_integer front (skip_point rest)) (exponent_in exponent) (length (skip_point rest)) d f in
    let integer = some-if (all_ascii_digits (skip_point rest)) (integer_in (front ++ skip_point rest)) found.0 found.2 in
    let point = point-of rest (behind-begins is_point mantissa) in
    let inner : mantissa ≡ front ++ (point.point ++ skip_point rest) = before-behind is_point mantissa ∙ ap (λ (l : List ℕ). front ++ l) point.parts in
    record {
      front = front;
      point = point.point;
      fraction = skip_point rest;
      exponent = exponent;
      m = found.0;
      e = found.1;
      parts = before-behind is_letter text ∙ (ap (λ (l : List ℕ). l ++ exponent) inner ∙ simp append_assoc);
      is_point = point.is;
      digits = digits.to (skip_point rest) integer.0;
      integer = (integers (front ++ skip_point rest) found.0).1 integer.1;
      is_exponent = exponent_in-is integers exponent found.1 found.3;
      is = sym found.4;
    }

-- the decimal of a text by the parts that the code takes it into
module _ (text mantissa exponent front rest fraction : List ℕ) (split : mantissa ≡ before is_letter text) (last : exponent ≡ behind is_letter text) (first : front ≡ before is_point mantissa) (behind_front : rest ≡ behind is_point mantissa) (skipped : fraction ≡ skip_point rest) where
  decimal-parts : decimal_in text ≡ joined_decimal front fraction exponent
  unfolding decimal_in
  decimal-parts = rw (skipped, behind_front, first, last, split) refl

  pub no-integer : None ≡ joined_integer front fraction → None ≡ decimal_in text
  no-integer none = rw (decimal-parts, ← none) refl

  pub no-exponent : (m : ℤ) → Some m ≡ joined_integer front fraction → None ≡ exponent_in exponent → None ≡ decimal_in text
  no-exponent m some none = rw (decimal-parts, ← some, ← none) refl

  pub decimal-is : (m e : ℤ) (d : Decimal) → Some m ≡ joined_integer front fraction → Some e ≡ exponent_in exponent → d ≡ scaled m (length fraction) e → Some d ≡ decimal_in text
  decimal-is m e d some small is = rw (decimal-parts, ← some, ← small, is) refl
