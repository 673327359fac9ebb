-- The headers of the image that a packed header stands for, and of a part of it, are no longer than it.
use Rattle.std.proofs.Common.{◌≡◌, ℕ, zero, suc, ◌+◌, ◌*◌, ◌<◌, ◌≤◌, Bool, true, false, cond, List, [], ◌∷◌, length, ap, sym, ◌∙◌, refl, arith}
use Rattle.std.specs.Prelude.{◌||◌, Some, codes, bytes_eq}
use Rattle.std.specs.List.{find, list_any}
use Rattle.std.specs.Option.{option_to_list}
use Rattle.std.proofs.lemmas.Bool.{both_ways}
use Rattle.std.proofs.lemmas.Slice.Eq.{bytes_eq-Decides}
use Rattle.fz_card.specs.Layout.{card_name, padded}
use Rattle.fz_card.specs.Made.{numbered_name}
use Rattle.fz_card.specs.CardLists.{first_of_name, has_name}
use Rattle.fz_block.specs.Cards.{card_at}
use Rattle.fz_block.specs.Facts.{IsHeaderOf}
use Rattle.fz_block.specs.Header.{whole_blocks_of}
use Rattle.fz_block.specs.Hdus.{cards_of}
use Rattle.fz_block.specs.declared.header.Header.{Header}
use Rattle.fz_grid.specs.declared.region.Region.{Region}
use Rattle.fz_head.specs.declared.plan.Plan.{Plan}
use Rattle.fz_head.specs.Conditions.{IsPackedPlan}
use Rattle.fz_head.specs.PlainHeader.{axis_count, cutout_header, plain_header}
use Rattle.fz_head.proofs.FrontCards.{HasEnd, header-cards, header-end, size-names}
use Rattle.fz_head.proofs.PackAnswers.{cards-count}
use Rattle.fz_head.proofs.PackedPlans.{says}
use Rattle.fz_head.proofs.Ranges.{any_of}
use Rattle.fz_head.proofs.RestoredSizes.{HasOwn, any-found, cutout-fewer, plain-fewer, some-card}

-- a card of a list that has a property is found
one-found : {X : Type 0} (has : X → Bool) (xs : List X) → list_any has xs ≡ true → 1 ≤ length (option_to_list (find has xs))
one-found has [] some = cc
one-found has (x ∷ xs) some = by_test (has x) some (one-found has xs)
  where
    by_test : (b : Bool) → (b || list_any has xs) ≡ true → (list_any has xs ≡ true → 1 ≤ length (option_to_list (find has xs))) → 1 ≤ length (option_to_list (cond b (Some x) (find has xs)))
    by_test true some later = omega arith
    by_test false some later = later some

-- END is none of the cards that have another name
behind-card : (header : List ℕ) (last i : ℕ) (name : List ℕ) → HasEnd header last → card_name (card_at header i) ≡ name → bytes_eq name (padded (codes "END")) ≡ false → ¬ (last ≡ i)
behind-card header last i name end is other same =
    let named : name ≡ padded (codes "END") = sym is ∙ (ap (λ k. card_name (card_at header k)) (sym same) ∙ end.named) in
    both_ways (bytes_eq name (padded (codes "END"))) other ((bytes_eq-Decides name (padded (codes "END"))).1 named)

module _ (header : List ℕ) (h : Header) (p : Plan) (is : IsHeaderOf header h) (planned : IsPackedPlan header h p) where
  abbrev cards : List (List ℕ)
  cards = cards_of header

  count : length cards ≡ h.cards
  count = cards-count header h is

  codec : 1 ≤ length (option_to_list (first_of_name (padded (codes "ZCMPTYPE")) cards))
  codec = any-found (has_name (padded (codes "ZCMPTYPE"))) cards (says header h p planned).has_codec

  sizes : (card_name (card_at header 1) ≡ padded (codes "BITPIX")) × (card_name (card_at header 2) ≡ padded (codes "NAXIS"))
  sizes = size-names h.hdu header is.mandatory

  three-cards : 3 ≤ h.cards
  three-cards =
      let end : HasEnd header h.cards = header-end header h is in
      let one : 1 ≤ h.cards = omega (arith, some-card (padded (codes "ZCMPTYPE")) cards codec, count) in
      no-less h.cards one (behind-card header h.cards 1 (padded (codes "BITPIX")) end sizes.0 refl) (behind-card header h.cards 2 (padded (codes "NAXIS")) end sizes.1 refl)
    where
      no-less : (n : ℕ) → 1 ≤ n → ¬ (n ≡ 1) → ¬ (n ≡ 2) → 3 ≤ n
      no-less zero one not-one not-two = absurd (omega arith)
      no-less (suc zero) one not-one not-two = absurd (not-one refl)
      no-less (suc (suc zero)) one not-one not-two = absurd (not-two refl)
      no-less (suc (suc (suc n))) one not-one not-two = omega arith

  card-found : (i : ℕ) (name : List ℕ) → i < h.cards → card_name (card_at header i) ≡ name → 1 ≤ length (option_to_list (first_of_name name cards))
  card-found i name within named =
      one-found (has_name name) cards
      (ap (list_any (has_name name)) (header-cards header h is) ∙ any_of (has_name name) (card_at header) 0 h.cards i (omega arith) (omega arith) ((bytes_eq-Decides (card_name (card_at header i)) name).1 named))

  has-own : HasOwn cards
  has-own = record {
    bitpix = card-found 1 (padded (codes "BITPIX")) (omega (arith, three-cards)) sizes.0;
    naxis = card-found 2 (padded (codes "NAXIS")) (omega (arith, three-cards)) sizes.1;
    codec = codec;
    few = (says header h p planned).few;
    axes = λ i low high. any-found (has_name (numbered_name (codes "ZNAXIS") i)) cards ((says header h p planned).has_axes i low high);
  }

  blocks : (count before last len size : ℕ) → count ≤ last → 80 * (last + 1) ≤ len → len ≡ 2880 * (before + 1) → size ≡ whole_blocks_of (80 * (count + 1)) → size ≤ len
  blocks count before last len size few within whole is = omega arith

  pub plain-short : (size : ℕ) → size ≡ whole_blocks_of (80 * (length (plain_header cards) + 1)) → size ≤ length header
  plain-short size e = blocks (length (plain_header cards)) is.whole.before h.cards (length header) size (omega (arith, plain-fewer cards has-own, count)) (header-end header h is).within is.whole.blocks e

  pub cutout-short : (region : Region) (size : ℕ) → region.n ≡ axis_count cards → size ≡ whole_blocks_of (80 * (length (cutout_header cards region) + 1)) → size ≤ length header
  cutout-short region size same e =
      blocks (length (cutout_header cards region)) is.whole.before h.cards (length header) size (omega (arith, cutout-fewer cards has-own region same, count)) (header-end header h is).within is.whole.blocks e
