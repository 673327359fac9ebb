-- Integers: the text of one is a sign and digits, as `parse` reads it.
use Rattle.std.proofs.Common.{◌≡◌, ℕ, zero, suc, ◌<◌, ◌≤◌, ◌^◌, Bool, true, false, cond, eqb, List, [], ◌∷◌, ◌++◌, length, drop, sym, refl, ap, ◌∙◌, subst, arith, inl, inr}
use Rattle.std.specs.Prelude.{ℤ, pos, negsuc, neg_ℤ, FitsSigned, codes, Option, Some, None, IfSome, IfNone}
use Rattle.std.specs.Int.{IsInRange, w64}
use Rattle.std.specs.Str.{IsUtf8, IsAscii}
use Rattle.std.specs.Str.Parse.{AllDigits, IsNumeral, digits_value, without_leading_sign, signed_digits_value}
use Rattle.std.specs.Fmt.{decimal, signed_decimal}
use Rattle.std.proofs.lemmas.Bool.Decides.{nat_tests}
use Rattle.std.proofs.lemmas.Str.{IsUtf8-from_ascii}
use Rattle.std.proofs.lemmas.Str.Ascii.{IsAscii-nil, IsAscii-cons}
use Rattle.std.proofs.lemmas.Str.Parse.{digit_from_value, digits_value_short, numerals_by_value, tells_digits}
use Rattle.std.proofs.lemmas.Fmt.{decimal_is_IsNumeral, length-decimal-le, IsAscii-from_digits}
use Rattle.fz_card.specs.Value.{IsShort, IsIntegerText, Signs, IsPlain}
use Rattle.fz_card.specs.Plain.{ReadsSigned}

eqb-other : (a b : ℕ) → 48 ≤ a → b < 48 → eqb a b ≡ false
eqb-other a b high low = grind (arith, nat_tests)

eqb-same : (a b : ℕ) → eqb a b ≡ true → a ≡ b
eqb-same a b h = grind (arith, nat_tests)

-- what `parse` finds of the text of the integer v
pub record Reads (text : List ℕ) (v : ℤ) : Type 0 where
  pub numeral : IsNumeral 10 (without_leading_sign text)
  pub short : length (without_leading_sign text) ≤ 18
  pub value : v ≡ signed_digits_value 10 text

-- `reads_first` with the tests of the first byte as variables
reads_first : (minus plus : Bool) (d : ℕ) (ds : List ℕ) (v : ℤ) → minus ≡ false → plus ≡ false → IsNumeral 10 (d ∷ ds) → length (d ∷ ds) ≤ 18 → v ≡ pos (digits_value 10 (d ∷ ds)) → (IsNumeral 10 (cond minus ds (drop (cond plus 1 0) (d ∷ ds))) × (length (cond minus ds (drop (cond plus 1 0) (d ∷ ds))) ≤ 18) × (v ≡ cond minus (neg_ℤ (pos (digits_value 10 (cond minus ds (drop (cond plus 1 0) (d ∷ ds)))))) (pos (digits_value 10 (cond minus ds (drop (cond plus 1 0) (d ∷ ds)))))))
reads_first false false d ds v m p numeral short value = (numeral, short, value)
reads_first true plus d ds v m p numeral short value = cc
reads_first false true d ds v m p numeral short value = cc

reads_digits : (digits : List ℕ) (v : ℤ) → IsNumeral 10 digits → length digits ≤ 18 → v ≡ pos (digits_value 10 digits) → Reads digits v
reads_digits [] v numeral short value = absurd (omega (arith, numeral.0))
reads_digits (d ∷ ds) v numeral short value =
    let range : IsInRange 48 57 d = digit_from_value d numeral.1.0 in
    let parts = reads_first (eqb d 45) (eqb d 43) d ds v (eqb-other d 45 (omega arith) (omega arith)) (eqb-other d 43 (omega arith) (omega arith)) numeral short value in
    record { numeral = parts.0; short = parts.1; value = parts.2 }

reads_signed : (sign digits : List ℕ) (v : ℤ) → IsNumeral 10 digits → length digits ≤ 18 → Signs sign (digits_value 10 digits) v → Reads (sign ++ digits) v
reads_signed sign digits v numeral short (inl (inl none, value)) =
    subst (λ (s : List ℕ). Reads (s ++ digits) v) (sym none) (reads_digits digits v numeral short value)
reads_signed sign digits v numeral short (inl (inr plus, value)) =
    subst (λ (s : List ℕ). Reads (s ++ digits) v) (sym plus) (record { numeral = numeral; short = short; value = value })
reads_signed sign digits v numeral short (inr (minus, value)) =
    subst (λ (s : List ℕ). Reads (s ++ digits) v) (sym minus) (record { numeral = numeral; short = short; value = value })

pub reads_integer : (text : List ℕ) (v : ℤ) → IsIntegerText text v → Reads text v
reads_integer text v is = subst (λ (t : List ℕ). Reads t v) (sym is.parts) (reads_signed is.sign is.digits v is.numeral is.short is.signs)

integer_first : (minus plus : Bool) (d : ℕ) (ds : List ℕ) (v : ℤ) → (minus ≡ true → d ≡ 45) → (plus ≡ true → d ≡ 43) → IsNumeral 10 (cond minus ds (drop (cond plus 1 0) (d ∷ ds))) → length (cond minus ds (drop (cond plus 1 0) (d ∷ ds))) ≤ 18 → v ≡ cond minus (neg_ℤ (pos (digits_value 10 (cond minus ds (drop (cond plus 1 0) (d ∷ ds)))))) (pos (digits_value 10 (cond minus ds (drop (cond plus 1 0) (d ∷ ds))))) → IsIntegerText (d ∷ ds) v
integer_first true plus d ds v m p numeral short value = record { sign = codes "-"; digits = ds; parts = ap (λ (b : ℕ). b ∷ ds) (m refl); numeral = numeral; short = short; signs = inr (refl, value) }
integer_first false true d ds v m p numeral short value = record { sign = codes "+"; digits = ds; parts = ap (λ (b : ℕ). b ∷ ds) (p refl); numeral = numeral; short = short; signs = inl (inr refl, value) }
integer_first false false d ds v m p numeral short value = record { sign = []; digits = d ∷ ds; parts = refl; numeral = numeral; short = short; signs = inl (inl refl, value) }

pub integer_reads : (text : List ℕ) (v : ℤ) → Reads text v → IsIntegerText text v
integer_reads [] v reads = absurd (omega (arith, reads.numeral.0))
integer_reads (d ∷ ds) v reads = integer_first (eqb d 45) (eqb d 43) d ds v (eqb-same d 45) (eqb-same d 43) reads.numeral reads.short reads.value

-- a text that `parse` reads as a number is ASCII
ascii_first : (minus plus : Bool) (d : ℕ) (ds : List ℕ) → (minus ≡ true → d ≡ 45) → (plus ≡ true → d ≡ 43) → IsNumeral 10 (cond minus ds (drop (cond plus 1 0) (d ∷ ds))) → IsAscii (d ∷ ds)
ascii_first true plus d ds m p numeral = IsAscii-cons d ds (omega (arith, m refl)) (IsAscii-from_digits ds numeral.1)
ascii_first false true d ds m p numeral = IsAscii-cons d ds (omega (arith, p refl)) (IsAscii-from_digits ds numeral.1)
ascii_first false false d ds m p numeral = IsAscii-from_digits (d ∷ ds) numeral.1

pub numeral_utf8 : (text : List ℕ) → IsNumeral 10 (without_leading_sign text) → IsUtf8 text
numeral_utf8 [] numeral = IsUtf8-from_ascii [] IsAscii-nil
numeral_utf8 (d ∷ ds) numeral = IsUtf8-from_ascii (d ∷ ds) (ascii_first (eqb d 45) (eqb d 43) d ds (eqb-same d 45) (eqb-same d 43) numeral)

-- no more than 18 digits fit 64 bits
fits_sign : (minus : Bool) (n : ℕ) → n < 10 ^ 18 → FitsSigned w64 (cond minus (neg_ℤ (pos n)) (pos n))
fits_sign false n short = record { sfits = omega arith }
fits_sign true zero short = record { sfits = omega arith }
fits_sign true (suc n) short = record { sfits = omega arith }

pub reads_fits : (text : List ℕ) → IsNumeral 10 (without_leading_sign text) → length (without_leading_sign text) ≤ 18 → FitsSigned w64 (signed_digits_value 10 text)
reads_fits text numeral short = fits_sign _ _ (digits_value_short (numerals_by_value (AllDigits 10) tells_digits) (without_leading_sign text) 18 numeral.1 short)

-- a text has at most one integer
pub integer_once : (text : List ℕ) (v w : ℤ) → IsIntegerText text v → IsIntegerText text w → v ≡ w
integer_once text v w first second = (reads_integer text v first).value ∙ sym (reads_integer text w second).value

pub digits_plain : (digits : List ℕ) → AllDigits 10 digits → IsPlain digits
digits_plain [] all = tt
digits_plain (d ∷ digits) (digit, all) =
    let range : IsInRange 48 57 d = digit_from_value d digit in
    (λ e. omega arith, λ e. omega arith, digits_plain digits all)

signed_plain : (sign digits : List ℕ) (n : ℕ) (v : ℤ) → IsPlain digits → Signs sign n v → IsPlain (sign ++ digits)
signed_plain sign digits n v plain (inl (inl none, value)) = subst (λ (s : List ℕ). IsPlain (s ++ digits)) (sym none) plain
signed_plain sign digits n v plain (inl (inr plus, value)) =
    subst (λ (s : List ℕ). IsPlain (s ++ digits)) (sym plus) (λ e. omega arith, λ e. omega arith, plain)
signed_plain sign digits n v plain (inr (minus, value)) =
    subst (λ (s : List ℕ). IsPlain (s ++ digits)) (sym minus) (λ e. omega arith, λ e. omega arith, plain)

pub integer_plain : (text : List ℕ) (v : ℤ) → IsIntegerText text v → IsPlain text
integer_plain text v is =
    subst IsPlain (sym is.parts) (signed_plain is.sign is.digits (digits_value 10 is.digits) v (digits_plain is.digits is.numeral.1) is.signs)

-- the text that is written of a short integer is the text of that integer
pub decimal_integer : (v : ℤ) → IsShort v → IsIntegerText (signed_decimal v) v
decimal_integer (pos n) short =
    let fits : n < 2 ^ 64 = omega arith in
    let digits = decimal_is_IsNumeral n fits in
    record { sign = []; digits = decimal n; parts = refl; numeral = digits.0; short = length-decimal-le 18 n (omega arith) short fits; signs = inl (inl refl, ap pos (sym digits.1)) }
decimal_integer (negsuc n) short =
    let fits : suc n < 2 ^ 64 = omega arith in
    let digits = decimal_is_IsNumeral (suc n) fits in
    record { sign = codes "-"; digits = decimal (suc n); parts = refl; numeral = digits.0; short = length-decimal-le 18 (suc n) (omega arith) short fits; signs = inr (refl, ap (λ (m : ℕ). neg_ℤ (pos m)) (sym digits.1)) }

-- and it is short enough to end in column 30
pub length-signed_decimal : (v : ℤ) → IsShort v → length (signed_decimal v) ≤ 20
length-signed_decimal (pos n) short = omega (arith, length-decimal-le 18 n (omega arith) short (omega arith))
length-signed_decimal (negsuc n) short = omega (arith, length-decimal-le 18 (suc n) (omega arith) short (omega arith))

-- what a short text was read as is its integer, and where nothing was read it is none
pub read_integer : (text : List ℕ) (read : Option ℤ) → length (without_leading_sign text) ≤ 18 → ReadsSigned text read → IfSome read (IsIntegerText text)
read_integer text None short reads = tt
read_integer text (Some v) short reads = integer_reads text v (record { numeral = reads.0; short = short; value = reads.1 })

pub read_no_integer : (text : List ℕ) (read : Option ℤ) → length (without_leading_sign text) ≤ 18 → ReadsSigned text read → IfNone read ((v : ℤ) → ¬ (IsIntegerText text v))
read_no_integer text None short reads = λ v is. let numeral = (reads_integer text v is).numeral in reads (numeral, reads_fits text numeral short)
read_no_integer text (Some v) short reads = tt

short_sign : (minus : Bool) (n : ℕ) → n < 10 ^ 18 → IsShort (cond minus (neg_ℤ (pos n)) (pos n))
short_sign false n short = short
short_sign true zero short = short
short_sign true (suc n) short = short

-- an integer has at most 18 digits
pub integer_short : (text : List ℕ) (v : ℤ) → IsIntegerText text v → IsShort v
integer_short text v is =
    let reads = reads_integer text v is in
    subst IsShort (sym reads.value) (short_sign _ _ (digits_value_short (numerals_by_value (AllDigits 10) tells_digits) (without_leading_sign text) 18 reads.numeral.1 reads.short))

pub read_short : (text : List ℕ) (read : Option ℤ) → IfSome read (IsIntegerText text) → IfSome read IsShort
read_short text None is = tt
read_short text (Some v) is = integer_short text v is
