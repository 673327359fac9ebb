-- Names that no card of an image has in its packed header, and values that its cards keep there.
use Rattle.std.proofs.Common.{◌≡◌, ℕ, ◌<◌, Bool, true, false, List, length, take, drop, map, sym, refl, ap, ◌∙◌, subst, arith}
use Rattle.std.specs.Prelude.{Option, Some, None, is_some, unwrap_or, codes, bytes_eq, if◌then◌else◌}
use Rattle.std.specs.List.{AllByRecursion, range_with_len}
use Rattle.std.proofs.lemmas.Bool.{both_ways}
use Rattle.std.proofs.lemmas.List.{drop-drop}
use Rattle.std.proofs.lemmas.Slice.Eq.{bytes_eq-Decides}
use Rattle.fz_card.specs.Layout.{card_name}
use Rattle.fz_card.specs.Naming.{is_dropped, is_reserved, packed_name, plain_name, number_behind, up_to}
use Rattle.fz_card.specs.Plain.{plain_text}
use Rattle.fz_card.specs.Quoted.{text_in}
use Rattle.fz_card.specs.Reading.{logical_in, logical_of, text_of, zero_of}
use Rattle.fz_card.specs.Tables.{IsDropped, IsNumberedName}
use Rattle.fz_card.specs.Zeros.{zero_in}
use Rattle.fz_card.specs.CardLists.{has_name}
use Rattle.fz_card.specs.Laws.{CardLaws}
use Rattle.fz_block.specs.Cards.{card_at}
use Rattle.fz_head.specs.PackedHeader.{packed_card}
use Rattle.fz_head.proofs.CardNames.{new_name, new_name-kept, numbered-is}
use Rattle.fz_head.proofs.ImageCards.{IsImage, is_free, new_card_name, false_of}
use Rattle.fz_head.proofs.MadeFinds.{NoneNamed}
use Rattle.fz_head.proofs.Ranges.{all-mapped, map-map-range}
use Rattle.fz_head.proofs.SingleCards.{rest-packed_card}

-- the values of a card by its columns from the ninth on
logical_behind : List ℕ → Option Bool
logical_behind rest = if bytes_eq (take 2 rest) (codes "= ") then logical_in (plain_text (drop 2 rest)) else None

logical_of-rest : (card : List ℕ) → logical_of card ≡ logical_behind (drop 8 card)
unfolding logical_of logical_behind
logical_of-rest card = rw (drop-drop 2 8 card) refl

text_behind : List ℕ → Option (List ℕ)
text_behind rest = if bytes_eq (take 2 rest) (codes "= ") then text_in (drop 2 rest) else None

text_of-rest : (card : List ℕ) → text_of card ≡ text_behind (drop 8 card)
unfolding text_of text_behind
text_of-rest card = rw (drop-drop 2 8 card) refl

zero_behind : List ℕ → Option Bool
zero_behind rest = if bytes_eq (take 2 rest) (codes "= ") then zero_in (plain_text (drop 2 rest)) else None

zero_of-rest : (card : List ℕ) → zero_of card ≡ zero_behind (drop 8 card)
unfolding zero_of zero_behind
zero_of-rest card = rw (drop-drop 2 8 card) refl

-- the cards of an image in its packed header
abbrev pub image_card : List ℕ → ℕ → List ℕ
image_card header i = packed_card (card_at header i)

abbrev pub image_cards : List ℕ → ℕ → List (List ℕ)
image_cards header last = map packed_card (map (card_at header) (range_with_len 0 last))

-- by the laws of cards
module _ (laws : CardLaws) where
  pub logical_of-packed_card : (card : List ℕ) → length (card_name card) ≡ 8 → logical_of (packed_card card) ≡ logical_of card
  logical_of-packed_card card eight = logical_of-rest (packed_card card) ∙ (ap logical_behind (rest-packed_card laws card eight) ∙ sym (logical_of-rest card))

  pub text_of-packed_card : (card : List ℕ) → length (card_name card) ≡ 8 → text_of (packed_card card) ≡ text_of card
  text_of-packed_card card eight = text_of-rest (packed_card card) ∙ (ap text_behind (rest-packed_card laws card eight) ∙ sym (text_of-rest card))

  pub zero_of-packed_card : (card : List ℕ) → length (card_name card) ≡ 8 → zero_of (packed_card card) ≡ zero_of card
  zero_of-packed_card card eight = zero_of-rest (packed_card card) ∙ (ap zero_behind (rest-packed_card laws card eight) ∙ sym (zero_of-rest card))

  -- a name that no card of an image may have, and that no other becomes
  foreign-by : (name b : List ℕ) (found : Option (List ℕ)) → packed_name name ≡ found → plain_name b ≡ None → is_reserved b ≡ true → is_reserved name ≡ false → ¬ (unwrap_or found name ≡ b)
  foreign-by name b None e none reserved free same = both_ways (is_reserved name) free (ap is_reserved same ∙ reserved)
  foreign-by name b (Some c) e none reserved free same =
      let back : plain_name b ≡ Some name = ap plain_name (sym same) ∙ laws.names.packed_back name c e in
      cc

  pub foreign : (name b : List ℕ) → plain_name b ≡ None → is_reserved b ≡ true → is_reserved name ≡ false → ¬ (new_name name ≡ b)
  foreign name b none reserved free = foreign-by name b (packed_name name) refl none reserved free

  module _ (header : List ℕ) (primary : Bool) (n last : ℕ) (image : IsImage header primary n last) where
    -- what each card has
    pub each-card : (P : List ℕ → Type 0) → ((i : ℕ) → i < last → P (image_card header i)) → AllByRecursion P (image_cards header last)
    each-card P all =
        subst (AllByRecursion P) (sym (map-map-range packed_card (card_at header) 0 last)) (all-mapped P (image_card header) 0 last (λ i low high. all i (omega arith)))

    -- none is one of the table alone
    pub not-dropped : (i : ℕ) → i < last → is_dropped (card_name (image_card header i)) ≡ false
    not-dropped i before = ap is_dropped (new_card_name laws header primary n last image i before) ∙ new_name-kept laws (card_name (card_at header i)) (is_free laws header primary n last image i before)

    pub none-of-image : (name : List ℕ) → is_dropped name ≡ true → NoneNamed name (image_cards header last)
    none-of-image name dropped =
        each-card (λ card. has_name name card ≡ false) (λ i before.
        false_of (has_name name (image_card header i)) (λ t. both_ways (is_dropped name) (ap is_dropped (sym ((bytes_eq-Decides (card_name (image_card header i)) name).0 t)) ∙ not-dropped i before) dropped))

    pub none-foreign : (name : List ℕ) → plain_name name ≡ None → is_reserved name ≡ true → NoneNamed name (image_cards header last)
    none-foreign name none reserved =
        each-card (λ card. has_name name card ≡ false) (λ i before.
        false_of (has_name name (image_card header i)) (λ t.
        foreign (card_name (card_at header i)) name none reserved (is_free laws header primary n last image i before).free
        (sym (new_card_name laws header primary n last image i before) ∙ (bytes_eq-Decides (card_name (image_card header i)) name).0 t)))

    -- none has a numbered name of the table alone
    pub no-number : (stem : List ℕ) (last_number : ℕ) → ((name : List ℕ) → IsNumberedName stem 1 last_number name → IsDropped name) → (i : ℕ) → i < last →
        up_to last_number (number_behind stem (card_name (image_card header i))) ≡ None
    no-number stem last_number dropped i before = by_number (up_to last_number (number_behind stem (card_name (image_card header i)))) refl
      where
        by_number : (found : Option ℕ) → up_to last_number (number_behind stem (card_name (image_card header i))) ≡ found → found ≡ None
        by_number None e = refl
        by_number (Some k) e =
            absurd (both_ways (is_dropped (card_name (image_card header i))) (not-dropped i before)
            (laws.names.named_dropped (card_name (image_card header i)) (dropped (card_name (image_card header i)) (numbered-is laws stem last_number (card_name (image_card header i)) (ap is_some e)))))
