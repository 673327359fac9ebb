-- A card in a packed header, and back.
use Rattle.std.proofs.Common.{◌≡◌, ℕ, Bool, true, false, List, ◌++◌, length, take, drop, sym, refl, ap, ◌∙◌}
use Rattle.std.specs.Prelude.{ℤ, Option, Some, None, if◌then◌else◌, bytes_eq, codes}
use Rattle.std.proofs.lemmas.List.{take_at, drop_at, drop-drop, take-append-drop}
use Rattle.std.proofs.lemmas.Slice.Eq.{bytes_eq-Decides}
use Rattle.fz_card.specs.Layout.{card_name}
use Rattle.fz_card.specs.Naming.{packed_name}
use Rattle.fz_card.specs.Plain.{plain_text}
use Rattle.fz_card.specs.Reading.{integer_in, integer_of}
use Rattle.fz_card.specs.CardLists.{has_name}
use Rattle.fz_card.specs.Laws.{CardLaws}
use Rattle.fz_head.specs.PackedHeader.{packed_card}
use Rattle.fz_head.specs.PlainHeader.{plain_card}
use Rattle.fz_head.proofs.CardNames.{new_name, old_name, IsFree, length-new_name, old-new_name, new_name-of, was-named}

-- two tests that tell the same
pub same_tests : (p q : Bool) → (p ≡ true → q ≡ true) → (q ≡ true → p ≡ true) → p ≡ q
same_tests true q f g = sym (f refl)
same_tests false true f g = g refl
same_tests false false f g = refl

-- the value stays
integer_behind : List ℕ → Option ℤ
integer_behind rest = if bytes_eq (take 2 rest) (codes "= ") then integer_in (plain_text (drop 2 rest)) else None

integer_of-rest : (card : List ℕ) → integer_of card ≡ integer_behind (drop 8 card)
unfolding integer_of integer_behind
integer_of-rest card = rw (drop-drop 2 8 card) refl

-- by the laws of cards
module _ (laws : CardLaws) where
  -- the name and the rest of a card with another name
  pub name-packed_card : (card : List ℕ) → length (card_name card) ≡ 8 → card_name (packed_card card) ≡ new_name (card_name card)
  name-packed_card card eight = take_at (new_name (card_name card)) (drop 8 card) 8 (length-new_name laws (card_name card) eight)

  pub rest-packed_card : (card : List ℕ) → length (card_name card) ≡ 8 → drop 8 (packed_card card) ≡ drop 8 card
  rest-packed_card card eight = drop_at (new_name (card_name card)) (drop 8 card) 8 (length-new_name laws (card_name card) eight)

  -- the card comes back
  pub plain-packed_card : (card : List ℕ) → IsFree (card_name card) → plain_card (packed_card card) ≡ card
  plain-packed_card card is =
      let name : card_name (packed_card card) ≡ new_name (card_name card) = name-packed_card card is.eight in
      let rest : drop 8 (packed_card card) ≡ drop 8 card = rest-packed_card card is.eight in
      let front : old_name (card_name (packed_card card)) ≡ card_name card = ap old_name name ∙ old-new_name laws (card_name card) is in
      ap (λ l. l ++ drop 8 (packed_card card)) front ∙ (ap (λ l. card_name card ++ l) rest ∙ take-append-drop 8 card)

  -- a card has the new name exactly where it had the old one
  pub has_name-packed_card : (card a b : List ℕ) → IsFree (card_name card) → packed_name a ≡ Some b → has_name b (packed_card card) ≡ has_name a card
  has_name-packed_card card a b is e =
      let name : card_name (packed_card card) ≡ new_name (card_name card) = name-packed_card card is.eight in
      same_tests (has_name b (packed_card card)) (has_name a card)
      (λ t. (bytes_eq-Decides (card_name card) a).1 (was-named laws (card_name card) a b is e (sym name ∙ (bytes_eq-Decides (card_name (packed_card card)) b).0 t)))
      (λ t. (bytes_eq-Decides (card_name (packed_card card)) b).1 (name ∙ (ap new_name ((bytes_eq-Decides (card_name card) a).0 t) ∙ new_name-of a b e)))

  pub integer_of-packed_card : (card : List ℕ) → length (card_name card) ≡ 8 → integer_of (packed_card card) ≡ integer_of card
  integer_of-packed_card card eight = integer_of-rest (packed_card card) ∙ (ap integer_behind (rest-packed_card card eight) ∙ sym (integer_of-rest card))
