-- Words and their texts; the first `--`.
use Rattle.std.proofs.Common.{◌≡◌, ℕ, ◌+◌, ◌-◌, ◌<◌, ◌≤◌, Bool, true, false, cond, ltb, List, [], ◌∷◌, ◌++◌, length, map, take, drop, get_or, sym, refl, ap, ◌∙◌, subst, arith}
use Rattle.std.specs.Prelude.{not, nat_lt, Option, Some, None, String, string_bytes}
use Rattle.std.specs.List.{position, position_or_len, prefix_len, before_first, after_first}
use Rattle.std.proofs.lemmas.Bool.Decides.{nat_tests}
use Rattle.std.proofs.lemmas.List.{take-map, drop-map, length-drop, length-map, take_all}
use Rattle.std.proofs.Math.ListN.{drop_of_length-le}
use Rattle.fz_words.specs.Jobs.{LineIs, line_of}
use Rattle.fz_words.specs.Parts.{is_mark, operands_in, parts_behind, texts_of}
use Rattle.fz_words.specs.declared.table.Command.{Command}

place-map : {X Y : Type 0} (f : X → Y) (p : Y → Bool) (xs : List X) → position_or_len (λ x. p (f x)) xs ≡ position_or_len p (map f xs)
place-map f p [] = refl
place-map f p (x ∷ xs) = ap (λ (n : ℕ). cond (not (p (f x))) (1 + n) 0) (place-map f p xs)

-- the first place at which a test of the items' texts passes
pub position-map : {X Y : Type 0} (f : X → Y) (p : Y → Bool) (xs : List X) → position (λ x. p (f x)) xs ≡ position p (map f xs)
position-map f p xs =
    let place = place-map f p xs in
    let long : length (map f xs) ≡ length xs = length-map xs f in
    rw (long, place) refl

some-place : (t : Bool) (n i : ℕ) → cond t (Some n) None ≡ Some i → n ≡ i
some-place true n i h = cc
some-place false n i h = cc

none-place : (t : Bool) (n : ℕ) → cond t (Some n) None ≡ None → t ≡ false
none-place true n h = cc
none-place false n h = refl

not-below : (m n : ℕ) → nat_lt m n ≡ false → n ≤ m
not-below m n h = grind (arith, nat_tests)

-- the parts and operands of words before a `--` and behind it
abbrev pub line_at : Command → List (List ℕ) → List (List ℕ) → LineIs
line_at command before others = record { parts = parts_behind command [] before; operands = operands_in (parts_behind command [] before) ++ others }

cut-at : (p : List ℕ → Bool) (xs : List (List ℕ)) (i : ℕ) → position p xs ≡ Some i → (take i xs ≡ before_first p xs) × (drop (i + 1) xs ≡ after_first p xs)
cut-at p xs i found =
    let same = some-place (nat_lt (position_or_len p xs) (length xs)) (position_or_len p xs) i found in
    (ap (λ (n : ℕ). take n xs) (sym same), ap (λ (n : ℕ). drop (n + 1) xs) (sym same))

cut-nowhere : (p : List ℕ → Bool) (xs : List (List ℕ)) → position p xs ≡ None → (xs ≡ before_first p xs) × ([] ≡ after_first p xs)
cut-nowhere p xs none =
    let high = not-below (position_or_len p xs) (length xs) (none-place (nat_lt (position_or_len p xs) (length xs)) (position_or_len p xs) none) in
    (sym (take_all (position_or_len p xs) xs high), sym (drop_of_length-le xs (omega (arith, high))))

pub line-marked : {Z : Type 0} (command : Command) (words : List (String Z)) (mark : ℕ) → position is_mark (texts_of words) ≡ Some mark → line_at command (texts_of (take mark words)) (texts_of (take (length words - (mark + 1)) (drop (mark + 1) words))) ≡ line_of command (texts_of words)
line-marked command words mark found =
    let parts = cut-at is_mark (texts_of words) mark found in
    let before = sym (take-map string_bytes mark words) ∙ parts.0 in
    let long = length-drop (mark + 1) words in
    let whole = take_all (length words - (mark + 1)) (drop (mark + 1) words) (omega (arith, long)) in
    let others = ap (map string_bytes) whole ∙ sym (drop-map string_bytes (mark + 1) words) ∙ parts.1 in
    λ i. line_at command (before i) (others i)

pub line-unmarked : {Z : Type 0} (command : Command) (words : List (String Z)) → position is_mark (texts_of words) ≡ None → line_at command (texts_of words) [] ≡ line_of command (texts_of words)
line-unmarked command words none =
    let parts = cut-nowhere is_mark (texts_of words) none in
    λ i. line_at command (parts.0 i) (parts.1 i)
