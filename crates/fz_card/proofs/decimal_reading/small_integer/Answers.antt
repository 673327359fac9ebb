use Rattle.std.proofs.Common.{◌≡◌, ℕ, ◌<◌, ◌≤◌, nat_le, true, false, Option, Some, None, List, length, FitsSigned, sym, ap, ◌∙◌, if◌then◌else◌, arith, rules}
use Rattle.std.specs.Prelude.{ℤ, pos, negsuc, ◌<ℤ◌, ◌≤ℤ◌}
use Rattle.std.specs.Int.{w32, w64}
use Rattle.std.specs.Str.Parse.{without_leading_sign}
use Rattle.std.proofs.lemmas.Bool.Decides.{nat_tests}
use Rattle.std.proofs.lemmas.Int.{to_z-of_z, ints}
use Rattle.fz_card.specs.Reading.{integer_in}
use Rattle.fz_card.specs.DecimalScans.{if_small, is_small, small_integer_in}
use Rattle.fz_card.proofs.decimal_reading.small_integer.Goals as goal

le_true : (n m : ℕ) → n ≤ m → nat_le n m ≡ true
le_true n m within = grind (arith, nat_tests)

le_false : (n m : ℕ) → m < n → nat_le n m ≡ false
le_false n m over = grind (arith, nat_tests)

-- a text of more than three digits, and one of at most three
long : (text : List ℕ) (n : ℕ) → n ≡ length (without_leading_sign text) → 3 < n → None ≡ small_integer_in text
long text n is over = sym (ap (λ b. if b then if_small (integer_in text) else None) (le_false (length (without_leading_sign text)) 3 (omega (arith, is, over))))

short : (text : List ℕ) (n : ℕ) (answer : Option ℤ) → n ≡ length (without_leading_sign text) → n ≤ 3 → answer ≡ integer_in text → if_small answer ≡ small_integer_in text
short text n answer is few found =
    ap if_small found ∙ sym (ap (λ b. if b then if_small (integer_in text) else None) (le_true (length (without_leading_sign text)) 3 (omega (arith, is, few))))

small : (v : ℤ) → negsuc 8 ≤ℤ v → v ≤ℤ pos 9 → is_small v ≡ true
small (pos n) low high = le_true n 9 (omega (arith, ints, high))
small (negsuc n) low high = le_true n 8 (omega (arith, ints, low))

below : (v : ℤ) → v <ℤ negsuc 8 → is_small v ≡ false
below (pos n) low = absurd (omega (arith, ints, low))
below (negsuc n) low = le_false n 8 (omega (arith, ints, low))

above : (v : ℤ) → pos 9 <ℤ v → is_small v ≡ false
above (pos n) high = le_false n 9 (omega (arith, ints, high))
above (negsuc n) high = absurd (omega (arith, ints, high))

kept : (v : ℤ) → is_small v ≡ true → Some v ≡ if_small (Some v)
kept v is = sym (ap (λ b. if b then Some v else None) is)

dropped : (v : ℤ) → is_small v ≡ false → None ≡ if_small (Some v)
dropped v is = sym (ap (λ b. if b then Some v else None) is)

pub returns-then-digit_count-gt-MOST_EXPONENT_DIGITS : goal.returns-then-digit_count-gt-MOST_EXPONENT_DIGITS
returns-then-digit_count-gt-MOST_EXPONENT_DIGITS c = long c.args.text.now c.digit_count.result c.digit_count.ensures (omega arith)

pub returns-in_err-small : goal.returns-in_err-small
returns-in_err-small c = c.from_residual.ensures ∙ short c.args.text.now c.digit_count.result None c.digit_count.ensures (omega arith) c.in_err-small.ensures.function

pub returns-in-minus9-to-9 : goal.returns-in-minus9-to-9
returns-in-minus9-to-9 c =
    let v = c.in_ok-small.small in
    let wide : FitsSigned w64 v = search rules in
    let low : negsuc 8 ≤ℤ v = omega (arith, ints) in
    let high : v ≤ℤ pos 9 = omega (arith, ints) in
    let narrow : FitsSigned w32 v = omega (arith, ints) in
    rw (to_z-of_z w64 v wide, to_z-of_z w32 v narrow) (kept v (small v low high) ∙ short c.args.text.now c.digit_count.result (Some v) c.digit_count.ensures (omega arith) c.in_ok-small.ensures.function)

pub returns-in_default : goal.returns-in_default
returns-in_default c =
    let v = c.in_ok-small.small in
    let low : v <ℤ negsuc 8 = omega (arith, ints) in
    dropped v (below v low) ∙ short c.args.text.now c.digit_count.result (Some v) c.digit_count.ensures (omega arith) c.in_ok-small.ensures.function

pub returns-in_default-2 : goal.returns-in_default-2
returns-in_default-2 c =
    let v = c.in_ok-small.small in
    let high : pos 9 <ℤ v = omega (arith, ints) in
    dropped v (above v high) ∙ short c.args.text.now c.digit_count.result (Some v) c.digit_count.ensures (omega arith) c.in_ok-small.ensures.function
