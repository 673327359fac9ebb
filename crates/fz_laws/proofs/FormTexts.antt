-- The form of a column that a patch writes: a card can hold it, and it is read as the old one.
use Rattle.std.proofs.Common.{◌≡◌, ◌⊎◌, inl, inr, ℕ, ◌+◌, ◌-◌, ◌*◌, ◌<◌, ◌≤◌, ◌^◌, Bool, true, false, not, ◌==◌, IsTrue, List, [], ◌∷◌, ◌++◌, length, codes, decimal, Option, Some, None, refl, sym, ◌∙◌, ap, subst, arith, rules, length-append, eqb-true}
use Rattle.std.specs.Str.{all_ascii_digits, byte}
use Rattle.std.specs.List.{list_all}
use Rattle.std.specs.Char.{is_ascii_digit}
use Rattle.std.proofs.lemmas.Bool.Decides.{nat_tests}
use Rattle.std.specs.Prelude.{slice_index, if◌then◌else◌}
use Rattle.std.proofs.lemmas.Str.Parse.{IsNumeralModel, numerals_by_fold}
use Rattle.std.proofs.lemmas.Fmt.{digits_decimal, length-decimal-le}
use Rattle.std.proofs.lemmas.List.Folds.{list_all-append}
use Rattle.std.proofs.Math.Seq.{get_or-append_seam}
use Rattle.fz_card.specs.Made.{IsCardText}
use Rattle.fz_head.specs.PackedHeader.{descriptor_form}

abbrev read_on : ℕ → List ℕ → ℕ
read_on n [] = n
read_on n (c ∷ cs) = read_on (10 * n + (c - 48)) cs

own : IsNumeralModel (λ ds. all_ascii_digits ds ≡ true) (read_on 0)
own = numerals_by_fold _ (search rules) read_on (search rules)

-- no quote
abbrev unquoted : ℕ → Bool
unquoted b = not (b == 39)

digit_unquoted : (d : ℕ) → is_ascii_digit d ≡ true → unquoted d ≡ true
digit_unquoted d h = grind (arith, nat_tests)

digits_unquoted : (ds : List ℕ) → all_ascii_digits ds ≡ true → list_all unquoted ds ≡ true
digits_unquoted [] h = refl
digits_unquoted (d ∷ ds) h =
    let both : (is_ascii_digit d ≡ true) × (all_ascii_digits ds ≡ true) = search rules in
    rw (digit_unquoted d both.0) (digits_unquoted ds both.1)

unquoted-append : (xs ys : List ℕ) → list_all unquoted xs ≡ true → list_all unquoted ys ≡ true → list_all unquoted (xs ++ ys) ≡ true
unquoted-append xs ys px py = rw (list_all-append, px) py

-- a text that ends with a bracket does not end with a blank
bracket_last : (front : List ℕ) → slice_index (front ++ 41 ∷ []) (length (front ++ 41 ∷ []) - 1) ≡ 41
bracket_last front =
    let last : length (front ++ 41 ∷ []) - 1 ≡ length front = simp length-append (omega arith) in
    ap (λ i. slice_index (front ++ 41 ∷ []) i) last ∙ get_or-append_seam front 41 [] 0

bracket_text : (front : List ℕ) → length front ≤ 67 → list_all unquoted front ≡ true → IsCardText (front ++ 41 ∷ [])
bracket_text front short plain = record {
  fits = simp length-append (omega arith);
  unquoted = search (rules, unquoted-append front (41 ∷ []) plain refl);
  trimmed = λ e. absurd (omega (arith, bracket_last front, e));
}

length-form_front : (kind letter digits : List ℕ) → length kind ≡ 2 → length letter ≡ 1 → length (kind ++ letter ++ codes "(" ++ digits) ≡ 4 + length digits
length-form_front kind letter digits two one = simp length-append (omega arith)

plain_front : (kind letter digits : List ℕ) → list_all unquoted kind ≡ true → list_all unquoted letter ≡ true → list_all unquoted digits ≡ true → list_all unquoted (kind ++ letter ++ codes "(" ++ digits) ≡ true
plain_front kind letter digits pk pl pd =
    unquoted-append (kind ++ letter ++ codes "(") digits (unquoted-append (kind ++ letter) (codes "(") (unquoted-append kind letter pk pl) refl) pd

kind_len : (wide : Bool) → length (if wide then codes "1Q" else codes "1P") ≡ 2
kind_len true = refl
kind_len false = refl

kind_plain : (wide : Bool) → list_all unquoted (if wide then codes "1Q" else codes "1P") ≡ true
kind_plain true = refl
kind_plain false = refl

-- a form with a letter that is no quote is a text that a card can hold
pub form_is_text : (wide : Bool) (letter most : ℕ) → unquoted letter ≡ true → most < 2 ^ 64 → IsCardText (descriptor_form wide (letter ∷ []) most)
form_is_text wide letter most plain small =
    let kind = if wide then codes "1Q" else codes "1P" in
    bracket_text (kind ++ (letter ∷ []) ++ codes "(" ++ decimal most)
    (omega (arith, length-form_front kind (letter ∷ []) (decimal most) (kind_len wide) refl, length-decimal-le 20 most (omega arith) (omega arith) small))
    (plain_front kind (letter ∷ []) (decimal most) (kind_plain wide) (rw plain refl) (digits_unquoted (decimal most) (digits_decimal own most small)))
