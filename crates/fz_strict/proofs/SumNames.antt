-- Whether a header has cards of these names.
use Rattle.std.proofs.Common.{◌≡◌, ℕ, suc, ◌+◌, not, cond, ltb, List, [], ◌∷◌, length, Some, None, refl, sym, ap, ◌∙◌, arith}
use Rattle.std.specs.Prelude.{Bool, true, false, ◌&&◌, ◌||◌, bytes_eq}
use Rattle.std.specs.List.{list_any, position, position_or_len}
use Rattle.std.specs.Option.{is_some}
use Rattle.std.proofs.lemmas.Bool.{lt-ltb}
use Rattle.std.proofs.lemmas.Bool.Decides.{nat_tests}
use Rattle.fz_block.specs.Cards.{first_card}
use Rattle.fz_block.specs.Hdus.{cards_of}
use Rattle.fz_card.specs.Layout.{card_name}
use Rattle.fz_table.specs.Columns.{first_named}
use Rattle.fz_strict.proofs.Pieces.{not_both}

-- ---- some card has a name exactly if a first one does

some_if : (b : Bool) (n : ℕ) → is_some (cond b (Some n) None) ≡ b
some_if true n = refl
some_if false n = refl

same_test : (a b : ℕ) → ltb (1 + a) (suc b) ≡ ltb a b
same_test a b = grind (arith, nat_tests)

some_position : {X : Type 0} (has : X → Bool) (xs : List X) → is_some (position has xs) ≡ list_any has xs
some_position has [] = refl
some_position has (x ∷ xs) = by_test (has x) (some_position has xs)
  where
    by_test : (b : Bool) → is_some (position has xs) ≡ list_any has xs →
        is_some (cond (ltb (cond (not b) (1 + position_or_len has xs) 0) (suc (length xs))) (Some (cond (not b) (1 + position_or_len has xs) 0)) None) ≡ (b || list_any has xs)
    by_test true rest = some_if (ltb 0 (suc (length xs))) 0 ∙ lt-ltb 0 (suc (length xs)) (omega arith)
    by_test false rest = some_if (ltb (1 + position_or_len has xs) (suc (length xs))) (1 + position_or_len has xs) ∙ (same_test (position_or_len has xs) (length xs) ∙ (sym (some_if (ltb (position_or_len has xs) (length xs)) (position_or_len has xs)) ∙ rest))

-- what the law of cards says
abbrev pub FindsFirst : Type 0
FindsFirst = (has : List ℕ → Bool) (header : List ℕ) → first_card has header ≡ position has (cards_of header)

pub named_any : (name header : List ℕ) → FindsFirst → is_some (first_named name header) ≡ list_any (λ card. bytes_eq (card_name card) name) (cards_of header)
unfolding first_named
named_any name header law = ap is_some (law (λ card. bytes_eq (card_name card) name) header) ∙ some_position (λ card. bytes_eq (card_name card) name) (cards_of header)

pub and_second : (a b : Bool) → true ≡ a → b ≡ (a && b)
and_second true b is = refl
and_second false b is = absurd (not_both is)

pub and_none : (a b : Bool) → false ≡ a → false ≡ (a && b)
and_none true b is = absurd (not_both (sym is))
and_none false b is = refl

pub and_third : (a b c : Bool) → true ≡ a → true ≡ b → c ≡ (a && (b && c))
and_third a b c one two = and_second b c two ∙ and_second a (b && c) one
