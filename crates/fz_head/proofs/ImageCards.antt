-- The cards of an image that may be packed, and what they are in its packed header.
use Rattle.std.proofs.Common.{◌≡◌, ℕ, ◌<◌, ◌≤◌, ◌^◌, Bool, true, false, List, [], get_or, map, sym, refl, ap, ◌∙◌, arith, zero-add}
use Rattle.std.specs.Prelude.{◌&&◌, ◌||◌, not, Some, None, codes}
use Rattle.std.specs.List.{range_with_len}
use Rattle.std.proofs.lemmas.Bool.{and_from, both_ways, or_parts}
use Rattle.std.proofs.lemmas.List.{length-take-le}
use Rattle.std.proofs.lemmas.List.FromFn.{length-map-range_with_len, get_or-map-range_with_len}
use Rattle.fz_card.specs.Layout.{card_name}
use Rattle.fz_card.specs.Made.{numbered_name}
use Rattle.fz_card.specs.Naming.{is_in, is_in_some, is_reserved, packed_name}
use Rattle.fz_card.specs.Tables.Names.{Numbered}
use Rattle.fz_card.specs.CardLists.{has_name}
use Rattle.fz_card.specs.Laws.{CardLaws}
use Rattle.fz_card.specs.Reading.{has_text}
use Rattle.fz_block.specs.Cards.{card_at, is_named}
use Rattle.fz_head.specs.PackChecks.{is_axis_above, is_of_other_sort, is_reserved_card, reserved_index}
use Rattle.fz_head.specs.PackedHeader.{packed_card}
use Rattle.fz_head.specs.PlainHeader.{plain_card}
use Rattle.fz_head.specs.Repeats.{first_repeat, image_names, itself}
use Rattle.fz_head.proofs.CardNames.{new_name, IsFree, is-numbered, not-numbered}
use Rattle.fz_head.proofs.FrontCards.{HasFront, HasEnd, Place, once, eighty, no_repeat}
use Rattle.fz_head.proofs.Ranges.{position_none}
use Rattle.fz_head.proofs.SingleCards.{name-packed_card, plain-packed_card, has_name-packed_card}

-- an image of n axes with so many cards, whose names are those of an image
pub record IsImage (header : List ℕ) (primary : Bool) (n last : ℕ) : Type 0 where
  pub front : HasFront header primary n
  pub end : HasEnd header last
  pub reserved : reserved_index primary n (map (card_at header) (range_with_len 0 last)) ≡ None
  pub single : first_repeat image_names itself (map (card_at header) (range_with_len 0 last)) ≡ None

pub false_of : (b : Bool) → (b ≡ true → ⊥) → b ≡ false
false_of true never = absurd (never refl)
false_of false never = refl

pub or_false : (a b : Bool) → a ≡ false → b ≡ false → (a || b) ≡ false
or_false a b e f = rw (e, f) refl

pub or_first : (a b : Bool) → a ≡ true → (a || b) ≡ true
or_first a b e = rw e refl

pub or_second : (a b : Bool) → b ≡ true → (a || b) ≡ true
or_second true b e = refl
or_second false b e = e

-- by the laws of cards
module _ (laws : CardLaws) where
  module _ (header : List ℕ) (primary : Bool) (n last : ℕ) (image : IsImage header primary n last) where
    -- no card is reserved
    allowed : (i : ℕ) → i < last → is_reserved_card primary n (card_at header i) ≡ false
    allowed i before =
        let cards = map (card_at header) (range_with_len 0 last) in
        let here : get_or cards i [] ≡ card_at header i = get_or-map-range_with_len (card_at header) 0 last i i [] before (zero-add i) in
        ap (is_reserved_card primary n) (sym here)
        ∙ position_none (is_reserved_card primary n) cards i [] image.reserved (omega (arith, length-map-range_with_len (card_at header) 0 last))

    unreserved : (i : ℕ) → i < last → is_reserved (card_name (card_at header i)) ≡ false
    unreserved i before = (or_parts (is_reserved (card_name (card_at header i))) _ (allowed i before)).0

    other_allowed : (i : ℕ) → i < last → (is_of_other_sort primary (card_at header i) || (is_axis_above n (card_at header i) || (is_named (codes "EXTNAME") (card_at header i) && has_text (codes "COMPRESSED_IMAGE") (card_at header i)))) ≡ false
    other_allowed i before = (or_parts (is_reserved (card_name (card_at header i))) _ (allowed i before)).1

    pub right_sort : (i : ℕ) → i < last → is_of_other_sort primary (card_at header i) ≡ false
    right_sort i before = (or_parts (is_of_other_sort primary (card_at header i)) _ (other_allowed i before)).0

    pub named_allowed : (i : ℕ) → i < last → (is_axis_above n (card_at header i) || (is_named (codes "EXTNAME") (card_at header i) && has_text (codes "COMPRESSED_IMAGE") (card_at header i))) ≡ false
    named_allowed i before = (or_parts (is_of_other_sort primary (card_at header i)) _ (other_allowed i before)).1

    pub no_axis_above : (i j : ℕ) → i < last → n < j → j ≤ 999 → 1 ≤ j → ¬ (card_name (card_at header i) ≡ numbered_name (codes "NAXIS") j)
    no_axis_above i j before above high low made =
        let name = card_name (card_at header i) in
        let wide : j < 2 ^ 64 = omega arith in
        both_ways (is_axis_above n (card_at header i)) (or_parts (is_axis_above n (card_at header i)) _ (named_allowed i before)).0
        (and_from (is_in (Numbered (codes "NAXIS") 999) name) (not (is_in (Numbered (codes "NAXIS") n) name)) (is-numbered laws (codes "NAXIS") 999 j name low high wide made) (ap not (not-numbered laws (codes "NAXIS") n j name low above wide made)))

    pub is_free : (i : ℕ) → i < last → IsFree (card_name (card_at header i))
    is_free i before = record {
      eight = length-take-le 8 (card_at header i) (omega (arith, eighty header last i image.end before));
      free = unreserved i before;
      low = λ h. no_axis_above i h.number before (omega (arith, h.low, image.front.few)) h.high (omega (arith, h.low)) h.made;
    }

  module _ (header : List ℕ) (primary : Bool) (n last : ℕ) (image : IsImage header primary n last) where
    pub new_card_name : (i : ℕ) → i < last → card_name (packed_card (card_at header i)) ≡ new_name (card_name (card_at header i))
    new_card_name i before = name-packed_card laws (card_at header i) (is_free header primary n last image i before).eight

    pub comes_back : (i : ℕ) → i < last → plain_card (packed_card (card_at header i)) ≡ card_at header i
    comes_back i before = plain-packed_card laws (card_at header i) (is_free header primary n last image i before)

    -- a card has the packed name exactly where it had the plain one
    pub same_name : (i : ℕ) (a b : List ℕ) → i < last → packed_name a ≡ Some b → has_name b (packed_card (card_at header i)) ≡ has_name a (card_at header i)
    same_name i a b before e = has_name-packed_card laws (card_at header i) a b (is_free header primary n last image i before) e

    -- two cards do not share a name that stands once
    pub apart : (j i : ℕ) → j < i → i < last → Place primary n j → ¬ (card_name (card_at header j) ≡ card_name (card_at header i))
    apart j i less before at same =
        no_repeat header last j i image.single less before (ap (is_in_some image_names) (sym same) ∙ once laws header primary n j image.front at) same

    pub front_apart : (j i : ℕ) → j < i → i < last → Place primary n i → ¬ (card_name (card_at header j) ≡ card_name (card_at header i))
    front_apart j i less before at same = no_repeat header last j i image.single less before (once laws header primary n i image.front at) same
