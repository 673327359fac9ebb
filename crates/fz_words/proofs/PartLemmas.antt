-- The parts of a line, word by word.
use Rattle.std.proofs.Common.{◌≡◌, ℕ, zero, suc, ◌+◌, ◌-◌, ◌<◌, ◌≤◌, Bool, true, false, cond, List, [], ◌∷◌, ◌++◌, length, map, drop, get_or, sym, refl, ap, ◌∙◌, subst, arith, add-one}
use Rattle.std.specs.Prelude.{◌≢◌, is_some, nat_lt, slice_get, Option, Some, None, String, string_bytes}
use Rattle.std.specs.List.{cons_option, filter_map}
use Rattle.std.specs.Option.{option_map}
use Rattle.std.proofs.lemmas.Bool.Decides.{nat_tests}
use Rattle.std.proofs.lemmas.Option.{slice_get-map, slice_get_past, slice_get_read}
use Rattle.std.proofs.Math.Seq.{drop-cons}
use Rattle.std.proofs.Math.ListN.{drop_of_length-le}
use Rattle.fz_words.specs.Jobs.{at_most_once}
use Rattle.fz_words.specs.Parts.{PartIs, awaited, operand_in, operands_in, part_of, parts_behind, texts_of, unanswered, value_in, values_in}
use Rattle.fz_words.specs.declared.table.Command.{Command}
use Rattle.fz_words.specs.declared.table.OptionName.{OptionName}

-- a word of the line: its place, and its text
pub record IsWord {Z : Type 0} (words : List (String Z)) (i : ℕ) (w : String Z) (text : List ℕ) : Type 0 where
  pub within : i < length words
  pub there : w ≡ get_or words i w
  pub text_is : text ≡ string_bytes w

drop-next : {A : Type 0} (xs : List A) (i : ℕ) (x : A) → i < length xs → x ≡ get_or xs i x → drop i xs ≡ x ∷ drop (i + 1) xs
drop-next xs i x within there =
    let same : suc i ≡ i + 1 = omega arith in
    drop-cons xs i x within ∙ (λ j. sym there j ∷ drop (same j) xs)

parts-next : {Z : Type 0} (command : Command) (before : List ℕ) (words : List (String Z)) (i : ℕ) (w : String Z) (text : List ℕ) → IsWord words i w text → parts_behind command before (texts_of (drop i words)) ≡ part_of command before text ∷ parts_behind command text (texts_of (drop (i + 1) words))
parts-next command before words i w text is =
    ap (λ ws. parts_behind command before (texts_of ws)) (drop-next words i w is.within is.there)
    ∙ ap (λ t. part_of command before t ∷ parts_behind command t (texts_of (drop (i + 1) words))) (sym is.text_is)

parts-end : {Z : Type 0} (command : Command) (before : List ℕ) (words : List (String Z)) (i : ℕ) → length words ≤ i → parts_behind command before (texts_of (drop i words)) ≡ unanswered (awaited command before)
parts-end command before words i past = ap (λ ws. parts_behind command before (texts_of ws)) (drop_of_length-le words past)

-- the values of an option
pub values-next : {Z : Type 0} (option : OptionName) (found : Option (List ℕ)) (all : List (List ℕ)) (command : Command) (before : List ℕ) (words : List (String Z)) (i : ℕ) (w : String Z) (text : List ℕ) (value : Option (List ℕ)) → IsWord words i w text → value ≡ value_in option (part_of command before text) → all ≡ cons_option found (values_in option (parts_behind command before (texts_of (drop i words)))) → all ≡ cons_option found (cons_option value (values_in option (parts_behind command text (texts_of (drop (i + 1) words)))))
values-next option found all command before words i w text value is given h =
    h ∙ ap (λ parts. cons_option found (values_in option parts)) (parts-next command before words i w text is)
    ∙ ap (λ v. cons_option found (cons_option v (values_in option (parts_behind command text (texts_of (drop (i + 1) words)))))) (sym given)

pub values-twice : (all : List (List ℕ)) (first second : List ℕ) (others : List (List ℕ)) → all ≡ cons_option (Some first) (cons_option (Some second) others) → None ≡ at_most_once all
values-twice all first second others h = sym (ap at_most_once h)

no-values : (option : OptionName) (o : Option OptionName) → values_in option (unanswered o) ≡ []
no-values option None = refl
no-values option (Some awaiting) = refl

once : (found : Option (List ℕ)) → at_most_once (cons_option found []) ≡ Some found
once None = refl
once (Some value) = refl

pub values-end : {Z : Type 0} (option : OptionName) (found : Option (List ℕ)) (all : List (List ℕ)) (command : Command) (before : List ℕ) (words : List (String Z)) (i : ℕ) → length words ≤ i → all ≡ cons_option found (values_in option (parts_behind command before (texts_of (drop i words)))) → Some found ≡ at_most_once all
values-end option found all command before words i past h =
    sym (ap at_most_once (h ∙ ap (λ parts. cons_option found (values_in option parts)) (parts-end command before words i past) ∙ ap (cons_option found) (no-values option (awaited command before))) ∙ once found)

-- the operands
pub operands-next : {Z : Type 0} (got : Option (List ℕ)) (others : List (List ℕ)) (left : ℕ) (command : Command) (before : List ℕ) (words : List (String Z)) (i : ℕ) (w : String Z) (text : List ℕ) (operand : Option (List ℕ)) → IsWord words i w text → operand ≡ operand_in (part_of command before text) → got ≡ slice_get (operands_in (parts_behind command before (texts_of (drop i words))) ++ others) left → got ≡ slice_get (cons_option operand (operands_in (parts_behind command text (texts_of (drop (i + 1) words)))) ++ others) left
operands-next got others left command before words i w text operand is given h =
    h ∙ ap (λ parts. slice_get (operands_in parts ++ others) left) (parts-next command before words i w text is)
    ∙ ap (λ o. slice_get (cons_option o (operands_in (parts_behind command text (texts_of (drop (i + 1) words)))) ++ others) left) (sym given)

pub get-later : {A : Type 0} (x : A) (xs : List A) (left : ℕ) → left ≢ 0 → slice_get (x ∷ xs) left ≡ slice_get xs (left - 1)
get-later x xs zero some = absurd (some refl)
get-later x xs (suc left) some =
    let same : suc left - 1 ≡ left = omega arith in
    ap (slice_get xs) (sym same)

no-operands : (o : Option OptionName) → operands_in (unanswered o) ≡ []
no-operands None = refl
no-operands (Some awaiting) = refl

pub operands-end : {Z : Type 0} (got : Option (List ℕ)) (others : List (List ℕ)) (left : ℕ) (command : Command) (before : List ℕ) (words : List (String Z)) (i : ℕ) → length words ≤ i → got ≡ slice_get (operands_in (parts_behind command before (texts_of (drop i words))) ++ others) left → got ≡ slice_get others left
operands-end got others left command before words i past h =
    h ∙ ap (λ parts. slice_get (operands_in parts ++ others) left) (parts-end command before words i past) ∙ ap (λ ops. slice_get (ops ++ others) left) (no-operands (awaited command before))

not-below : (m n : ℕ) → false ≡ nat_lt m n → n ≤ m
not-below m n h = grind (arith, nat_tests)

below : (m n : ℕ) → true ≡ nat_lt m n → m < n
below m n h = grind (arith, nat_tests)

pub get-past : {Z : Type 0} (others : List (String Z)) (left : ℕ) → false ≡ nat_lt left (length others) → slice_get (texts_of others) left ≡ None
get-past others left past =
    slice_get-map string_bytes others left ∙ ap (option_map string_bytes) (slice_get_past others left (not-below left (length others) past))

pub get-there : {Z : Type 0} (others : List (String Z)) (left : ℕ) (s : String Z) (text : List ℕ) → true ≡ nat_lt left (length others) → s ≡ get_or others left s → text ≡ string_bytes s → slice_get (texts_of others) left ≡ Some text
get-there others left s text within there is =
    slice_get-map string_bytes others left
    ∙ ap (option_map string_bytes) (slice_get_read others (length others) left s refl (below left (length others) within) there)
    ∙ ap (λ t. Some t) (sym is)

pub no-value : {A : Type 0} (o : Option A) → is_some o ≡ false → o ≡ None
no-value None h = refl
no-value (Some x) h = cc
