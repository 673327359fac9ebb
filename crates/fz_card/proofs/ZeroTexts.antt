-- Numbers that are zero: the scan from the left finds just the texts of one.
use Rattle.std.proofs.Common.{◌≡◌, ◌≢◌, ℕ, zero, suc, ◌+◌, ◌<◌, Bool, true, false, cond, eqb, ltb, List, [], ◌∷◌, ◌++◌, length, drop, replicate, sym, refl, ap, ◌∙◌, subst, arith, inl, inr}
use Rattle.std.specs.Prelude.{⊤, ◌⊎◌, ◌&&◌, ◌||◌, codes}
use Rattle.std.specs.Char.{is_ascii_digit}
use Rattle.std.specs.Int.{IsInRange}
use Rattle.std.specs.List.{list_all}
use Rattle.std.specs.Str.{all_ascii_digits}
use Rattle.std.specs.Str.Parse.{IsNumeral, without_leading_sign}
use Rattle.std.proofs.lemmas.Bool.Decides.{nat_tests}
use Rattle.std.proofs.lemmas.List.{length-append, length-replicate}
use Rattle.std.proofs.lemmas.Str.Parse.{digit_from_value}
use Rattle.fz_card.specs.Value.{IsSign, IsExponent, IsZeroText, IsPlain}
use Rattle.fz_card.specs.Zeros.{skip_zeros, skip_point, is_numeral, is_exponent, is_zero_number, is_zero_text}
use Rattle.fz_card.proofs.Readings.{and-true, lt-true, digits}
use Rattle.fz_card.proofs.Integers.{digits_plain}

eqb-other : (a b : ℕ) → a ≢ b → eqb a b ≡ false
eqb-other a b h = grind (arith, nat_tests)

eqb-same : (a b : ℕ) → eqb a b ≡ true → a ≡ b
eqb-same a b h = grind (arith, nat_tests)

-- an optional sign stands before a text
record Signed (text rest : List ℕ) : Type 0 where
  sign : List ℕ
  parts : text ≡ sign ++ rest
  is_sign : IsSign sign

signed-first : (minus plus : Bool) (b : ℕ) (bs : List ℕ) → eqb b 45 ≡ minus → eqb b 43 ≡ plus → Signed (b ∷ bs) (cond minus bs (drop (cond plus 1 0) (b ∷ bs)))
signed-first true plus b bs m p = record { sign = codes "-"; parts = ap (λ (c : ℕ). c ∷ bs) (eqb-same b 45 m); is_sign = inr (inr refl) }
signed-first false true b bs m p = record { sign = codes "+"; parts = ap (λ (c : ℕ). c ∷ bs) (eqb-same b 43 p); is_sign = inr (inl refl) }
signed-first false false b bs m p = record { sign = []; parts = refl; is_sign = inl refl }

sign-parts : (text : List ℕ) → Signed text (without_leading_sign text)
sign-parts [] = record { sign = []; parts = refl; is_sign = inl refl }
sign-parts (b ∷ bs) = signed-first (eqb b 45) (eqb b 43) b bs refl refl

-- the first byte is no sign
abbrev pub BeginsUnsigned : List ℕ → Type 0
BeginsUnsigned [] = ⊤
BeginsUnsigned (b ∷ bs) = (b ≢ 45) × (b ≢ 43)

unsigned-none : (rest : List ℕ) → BeginsUnsigned rest → without_leading_sign rest ≡ rest
unsigned-none [] is = refl
unsigned-none (b ∷ bs) is = rw (eqb-other b 45 is.0, eqb-other b 43 is.1) refl

sign-taken : (sign rest : List ℕ) → IsSign sign → BeginsUnsigned rest → without_leading_sign (sign ++ rest) ≡ rest
sign-taken sign rest (inl none) is = ap (λ (s : List ℕ). without_leading_sign (s ++ rest)) none ∙ unsigned-none rest is
sign-taken sign rest (inr (inl plus)) is = ap (λ (s : List ℕ). without_leading_sign (s ++ rest)) plus
sign-taken sign rest (inr (inr minus)) is = ap (λ (s : List ℕ). without_leading_sign (s ++ rest)) minus

abbrev zeros : ℕ → List ℕ
zeros count = replicate count 48

-- zeros, and what is after them
record Zeros (bs rest : List ℕ) : Type 0 where
  count : ℕ
  parts : bs ≡ zeros count ++ rest

zeros-step : (test : Bool) (b : ℕ) (bs : List ℕ) → eqb b 48 ≡ test → Zeros bs (skip_zeros bs) → Zeros (b ∷ bs) (cond test (skip_zeros bs) (b ∷ bs))
zeros-step true b bs is h = record { count = suc h.count; parts = let e : b ≡ 48 = eqb-same b 48 is in rw e (ap (λ (l : List ℕ). 48 ∷ l) h.parts) }
zeros-step false b bs is h = record { count = 0; parts = refl }

zeros-parts : (bs : List ℕ) → Zeros bs (skip_zeros bs)
zeros-parts [] = record { count = 0; parts = refl }
zeros-parts (b ∷ bs) = zeros-step (eqb b 48) b bs refl (zeros-parts bs)

skip_zeros-zeros : (count : ℕ) (rest : List ℕ) → skip_zeros (zeros count ++ rest) ≡ skip_zeros rest
skip_zeros-zeros zero rest = refl
skip_zeros-zeros (suc count) rest = skip_zeros-zeros count rest

-- a point, and what is after it
record Pointed (bs rest : List ℕ) : Type 0 where
  point : List ℕ
  parts : bs ≡ point ++ rest
  is_point : (point ≡ []) ⊎ (point ≡ codes ".")

point-step : (test : Bool) (b : ℕ) (bs : List ℕ) → eqb b 46 ≡ test → Pointed (b ∷ bs) (cond test bs (b ∷ bs))
point-step true b bs is = record { point = codes "."; parts = ap (λ (c : ℕ). c ∷ bs) (eqb-same b 46 is); is_point = inr refl }
point-step false b bs is = record { point = []; parts = refl; is_point = inl refl }

point-parts : (bs : List ℕ) → Pointed bs (skip_point bs)
point-parts [] = record { point = []; parts = refl; is_point = inl refl }
point-parts (b ∷ bs) = point-step (eqb b 46) b bs refl

-- digits
numeral-is : (text : List ℕ) → is_numeral text ≡ true → IsNumeral 10 text
numeral-is text e =
    let parts = and-true (all_ascii_digits text) (ltb 0 (length text)) e in
    (lt-true 0 (length text) parts.1, digits.to text parts.0)

both-true : (a b : Bool) → a ≡ true → b ≡ true → (a && b) ≡ true
both-true a b e f = rw (e, f) refl

is-positive : (n : ℕ) → 0 < n → ltb 0 n ≡ true
is-positive n some = grind (arith, nat_tests)

is-numeral : (text : List ℕ) → IsNumeral 10 text → is_numeral text ≡ true
is-numeral text numeral = both-true (all_ascii_digits text) (ltb 0 (length text)) (digits.from text numeral.1) (is-positive (length text) numeral.0)

numeral-unsigned : (text : List ℕ) → IsNumeral 10 text → BeginsUnsigned text
numeral-unsigned [] numeral = tt
numeral-unsigned (b ∷ bs) numeral =
    let range : IsInRange 48 57 b = digit_from_value b numeral.1.0 in
    (λ e. omega arith, λ e. omega arith)

-- an exponent
letter-parts : (e d : Bool) (b : ℕ) (bs : List ℕ) → eqb b 69 ≡ e → eqb b 68 ≡ d → (e || d) ≡ true → is_numeral (without_leading_sign bs) ≡ true → IsExponent (b ∷ bs)
letter-parts true d b bs is_e is_d some numeral =
    let signed = sign-parts bs in
    record { letter = codes "E"; sign = signed.sign; digits = without_leading_sign bs; parts = ap (λ (c : ℕ). c ∷ bs) (eqb-same b 69 is_e) ∙ ap (λ (l : List ℕ). 69 ∷ l) signed.parts; is_letter = inl refl; is_sign = signed.is_sign; numeral = numeral-is (without_leading_sign bs) numeral }
letter-parts false true b bs is_e is_d some numeral =
    let signed = sign-parts bs in
    record { letter = codes "D"; sign = signed.sign; digits = without_leading_sign bs; parts = ap (λ (c : ℕ). c ∷ bs) (eqb-same b 68 is_d) ∙ ap (λ (l : List ℕ). 68 ∷ l) signed.parts; is_letter = inr refl; is_sign = signed.is_sign; numeral = numeral-is (without_leading_sign bs) numeral }
letter-parts false false b bs is_e is_d some numeral = cc

exponent-is : (text : List ℕ) → is_exponent text ≡ true → (text ≡ []) ⊎ IsExponent text
exponent-is [] e = inl refl
exponent-is (b ∷ bs) e =
    let parts = and-true (eqb b 69 || eqb b 68) (is_numeral (without_leading_sign bs)) e in
    inr (letter-parts (eqb b 69) (eqb b 68) b bs refl refl parts.0 parts.1)

exponent-tail : (sign digits : List ℕ) → IsSign sign → IsNumeral 10 digits → is_numeral (without_leading_sign (sign ++ digits)) ≡ true
exponent-tail sign digits is_sign numeral = ap is_numeral (sign-taken sign digits is_sign (numeral-unsigned digits numeral)) ∙ is-numeral digits numeral

-- an exponent is found, and is neither zeros nor a point
record Ends (text : List ℕ) : Type 0 where
  found : is_exponent text ≡ true
  no_zeros : skip_zeros text ≡ text
  no_point : skip_point text ≡ text
  unsigned : BeginsUnsigned text

letter-ends : (text letter tail : List ℕ) → text ≡ letter ++ tail → (letter ≡ codes "E") ⊎ (letter ≡ codes "D") → is_numeral (without_leading_sign tail) ≡ true → Ends text
letter-ends text letter tail parts (inl e) numeral =
    subst Ends (sym (parts ∙ ap (λ (l : List ℕ). l ++ tail) e)) (record { found = numeral; no_zeros = refl; no_point = refl; unsigned = (λ f. omega arith, λ f. omega arith) })
letter-ends text letter tail parts (inr d) numeral =
    subst Ends (sym (parts ∙ ap (λ (l : List ℕ). l ++ tail) d)) (record { found = numeral; no_zeros = refl; no_point = refl; unsigned = (λ f. omega arith, λ f. omega arith) })

exponent-ends : (text : List ℕ) → (text ≡ []) ⊎ IsExponent text → Ends text
exponent-ends text (inl none) = subst Ends (sym none) (record { found = refl; no_zeros = refl; no_point = refl; unsigned = tt })
exponent-ends text (inr is) = letter-ends text is.letter (is.sign ++ is.digits) is.parts is.is_letter (exponent-tail is.sign is.digits is.is_sign is.numeral)

length-zeros : (count : ℕ) → length (zeros count) ≡ count
length-zeros count = length-replicate {A = ℕ} count 48

-- what the scan finds is a number that is zero
zero-parts : (text unsigned whole fraction rest : List ℕ) (signed : Signed text unsigned) (first : Zeros unsigned whole) (pointed : Pointed whole fraction) (second : Zeros fraction rest) → length whole + length rest < length unsigned + length fraction → (rest ≡ []) ⊎ IsExponent rest → IsZeroText text
zero-parts text unsigned whole fraction rest signed first pointed second some exponent =
    record {
      sign = signed.sign;
      whole = first.count;
      point = pointed.point;
      fraction = second.count;
      exponent = rest;
      parts = signed.parts ∙ ap (λ (l : List ℕ). signed.sign ++ l) (first.parts ∙ ap (λ (l : List ℕ). zeros first.count ++ l) (pointed.parts ∙ ap (λ (l : List ℕ). pointed.point ++ l) second.parts));
      is_sign = signed.is_sign;
      is_point = pointed.is_point;
      some = omega (arith, ap length first.parts, length-append (zeros first.count) whole, length-zeros first.count, ap length second.parts, length-append (zeros second.count) rest, length-zeros second.count);
      is_exponent = exponent;
    }

pub zero_text-is : (text : List ℕ) → is_zero_text text ≡ true → IsZeroText text
unfolding is_zero_text
zero_text-is text e =
    let unsigned = without_leading_sign text in
    let whole = skip_zeros unsigned in
    let fraction = skip_point whole in
    let rest = skip_zeros fraction in
    let tests = and-true (ltb (length whole + length rest) (length unsigned + length fraction)) (is_exponent rest) e in
    zero-parts text unsigned whole fraction rest (sign-parts text) (zeros-parts unsigned) (point-parts whole) (zeros-parts fraction) (lt-true (length whole + length rest) (length unsigned + length fraction) tests.0) (exponent-is rest tests.1)

is-below : (m n : ℕ) → m < n → ltb m n ≡ true
is-below m n below = grind (arith, nat_tests)

-- the scan of a number whose parts are known
number-found : (number whole fraction rest : List ℕ) → skip_zeros number ≡ whole → skip_point whole ≡ fraction → skip_zeros fraction ≡ rest → length whole + length rest < length number + length fraction → is_exponent rest ≡ true → is_zero_number number ≡ true
number-found number whole fraction rest e1 e2 e3 some exponent =
    rw (e1, e2, e3) (both-true (ltb (length whole + length rest) (length number + length fraction)) (is_exponent rest) (is-below (length whole + length rest) (length number + length fraction) some) exponent)

-- zeros, a point or none, zeros and an exponent are found
pointed-found : (number point exponent : List ℕ) (whole fraction : ℕ) → number ≡ zeros whole ++ (point ++ (zeros fraction ++ exponent)) → (point ≡ []) ⊎ (point ≡ codes ".") → 0 < whole + fraction → Ends exponent → is_zero_number number ≡ true
pointed-found number point exponent whole fraction parts (inl none) some ends =
    let last = zeros fraction in
    let plain : number ≡ zeros whole ++ (last ++ exponent) = parts ∙ ap (λ (p : List ℕ). zeros whole ++ (p ++ (last ++ exponent))) none in
    let skipped : skip_zeros number ≡ exponent = ap skip_zeros plain ∙ (skip_zeros-zeros whole (last ++ exponent) ∙ (skip_zeros-zeros fraction exponent ∙ ends.no_zeros)) in
    number-found number exponent exponent exponent skipped ends.no_point ends.no_zeros (omega (arith, ap length plain, length-append (zeros whole) (last ++ exponent), length-append last exponent, length-zeros whole, length-zeros fraction)) ends.found
pointed-found number point exponent whole fraction parts (inr dot) some ends =
    let last = zeros fraction in
    let plain : number ≡ zeros whole ++ (46 ∷ (last ++ exponent)) = parts ∙ ap (λ (p : List ℕ). zeros whole ++ (p ++ (last ++ exponent))) dot in
    let skipped : skip_zeros number ≡ 46 ∷ (last ++ exponent) = ap skip_zeros plain ∙ skip_zeros-zeros whole (46 ∷ (last ++ exponent)) in
    number-found number (46 ∷ (last ++ exponent)) (last ++ exponent) exponent skipped refl (skip_zeros-zeros fraction exponent ∙ ends.no_zeros) (omega (arith, ap length plain, length-append (zeros whole) (46 ∷ (last ++ exponent)), length-append last exponent, length-zeros whole, length-zeros fraction)) ends.found

zeros-unsigned : (count : ℕ) (rest : List ℕ) → (count ≡ 0 → BeginsUnsigned rest) → BeginsUnsigned (zeros count ++ rest)
zeros-unsigned zero rest is = is refl
zeros-unsigned (suc count) rest is = (λ e. omega arith, λ e. omega arith)

point-unsigned : (point rest : List ℕ) → (point ≡ []) ⊎ (point ≡ codes ".") → (point ≡ [] → BeginsUnsigned rest) → BeginsUnsigned (point ++ rest)
point-unsigned point rest (inl none) is = subst (λ (p : List ℕ). BeginsUnsigned (p ++ rest)) (sym none) (is none)
point-unsigned point rest (inr dot) is = subst (λ (p : List ℕ). BeginsUnsigned (p ++ rest)) (sym dot) (λ e. omega arith, λ e. omega arith)

pub is-zero_text : (text : List ℕ) → IsZeroText text → is_zero_text text ≡ true
unfolding is_zero_text
is-zero_text text is =
    let ends = exponent-ends is.exponent is.is_exponent in
    let last = zeros is.fraction in
    let number = zeros is.whole ++ (is.point ++ (last ++ is.exponent)) in
    let unsigned : BeginsUnsigned number =
    zeros-unsigned is.whole (is.point ++ (last ++ is.exponent)) (λ none. point-unsigned is.point (last ++ is.exponent) is.is_point (λ no_point. zeros-unsigned is.fraction is.exponent (λ e. ends.unsigned))) in
    let taken : without_leading_sign text ≡ number = ap without_leading_sign is.parts ∙ sign-taken is.sign number is.is_sign unsigned in
    ap is_zero_number taken ∙ pointed-found number is.point is.exponent is.whole is.fraction refl is.is_point is.some ends

-- a number that is zero has neither blanks nor a `/` in it
plain-append : (xs ys : List ℕ) → IsPlain xs → IsPlain ys → IsPlain (xs ++ ys)
plain-append [] ys none plain = plain
plain-append (b ∷ xs) ys (blank, slash, rest) plain = (blank, slash, plain-append xs ys rest plain)

sign-plain : (sign : List ℕ) → IsSign sign → IsPlain sign
sign-plain sign (inl none) = subst IsPlain (sym none) tt
sign-plain sign (inr (inl plus)) = subst IsPlain (sym plus) (λ e. omega arith, λ e. omega arith, tt)
sign-plain sign (inr (inr minus)) = subst IsPlain (sym minus) (λ e. omega arith, λ e. omega arith, tt)

zeros-plain : (count : ℕ) → IsPlain (zeros count)
zeros-plain zero = tt
zeros-plain (suc count) = (λ e. omega arith, λ e. omega arith, zeros-plain count)

point-plain : (point : List ℕ) → (point ≡ []) ⊎ (point ≡ codes ".") → IsPlain point
point-plain point (inl none) = subst IsPlain (sym none) tt
point-plain point (inr dot) = subst IsPlain (sym dot) (λ e. omega arith, λ e. omega arith, tt)

letter-plain : (letter : List ℕ) → (letter ≡ codes "E") ⊎ (letter ≡ codes "D") → IsPlain letter
letter-plain letter (inl e) = subst IsPlain (sym e) (λ f. omega arith, λ f. omega arith, tt)
letter-plain letter (inr d) = subst IsPlain (sym d) (λ f. omega arith, λ f. omega arith, tt)

exponent-plain : (text : List ℕ) → (text ≡ []) ⊎ IsExponent text → IsPlain text
exponent-plain text (inl none) = subst IsPlain (sym none) tt
exponent-plain text (inr is) =
    subst IsPlain (sym is.parts) (plain-append is.letter (is.sign ++ is.digits) (letter-plain is.letter is.is_letter) (plain-append is.sign is.digits (sign-plain is.sign is.is_sign) (digits_plain is.digits is.numeral.1)))

pub zero-plain : (text : List ℕ) → IsZeroText text → IsPlain text
zero-plain text is =
    let last = zeros is.fraction in
    subst IsPlain (sym is.parts) (plain-append is.sign _ (sign-plain is.sign is.is_sign) (plain-append (zeros is.whole) _ (zeros-plain is.whole) (plain-append is.point _ (point-plain is.point is.is_point) (plain-append last is.exponent (zeros-plain is.fraction) (exponent-plain is.exponent is.is_exponent)))))

pub zero-some : (text : List ℕ) → IsZeroText text → 0 < length text
zero-some text is =
    omega (arith, is.some, ap length is.parts, length-append is.sign (zeros is.whole ++ (is.point ++ (zeros is.fraction ++ is.exponent))), length-append (zeros is.whole) (is.point ++ (zeros is.fraction ++ is.exponent)), length-append is.point (zeros is.fraction ++ is.exponent), length-append (zeros is.fraction) is.exponent, length-zeros is.whole, length-zeros is.fraction)

-- the digits of a text, one by one
pub all-digits : (text : List ℕ) → list_all is_ascii_digit text ≡ all_ascii_digits text
all-digits [] = refl
all-digits (b ∷ bs) = ap (λ (rest : Bool). is_ascii_digit b && rest) (all-digits bs)

and-with : (a b : Bool) → b ≡ true → a ≡ (a && b)
and-with true b e = sym e
and-with false b e = refl

none-zero : (n : ℕ) → eqb n 0 ≡ false → ltb 0 n ≡ true
none-zero n other = grind (arith, nat_tests)

-- what a test of each byte says of a text that is not empty
pub numeral_test : (text : List ℕ) (read : Bool) → eqb (length text) 0 ≡ false → read ≡ list_all is_ascii_digit text → read ≡ is_numeral text
numeral_test text read some is =
    is ∙ (all-digits text ∙ and-with (all_ascii_digits text) (ltb 0 (length text)) (none-zero (length text) some))
