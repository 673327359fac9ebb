-- A packed header that is made of that of an image, and what it is made of.
use Rattle.std.proofs.Common.{◌≡◌, ℕ, zero, suc, ◌-◌, Bool, true, false, cond, List, map, sym, refl, ap, ◌∙◌, arith}
use Rattle.std.specs.Prelude.{Option, Some, None, is_some, unwrap_or, codes, bytes_eq}
use Rattle.std.specs.List.{AllByRecursion, range_with_len}
use Rattle.std.proofs.lemmas.List.FromFn.{length-map-range_with_len}
use Rattle.fz_card.specs.Laws.{CardLaws}
use Rattle.fz_card.specs.Reading.{text_of}
use Rattle.fz_block.specs.Cards.{card_at}
use Rattle.fz_block.specs.Facts.{sort_of, sort_named}
use Rattle.fz_block.specs.Hdus.{cards_of, size_at}
use Rattle.fz_block.specs.declared.header.Header.{Header}
use Rattle.fz_block.specs.declared.header.Sort.TheVariants.{Image, BinTable, Other}
use Rattle.fz_head.specs.declared.plan.Plan.{Plan}
use Rattle.fz_head.specs.declared.totals.Totals.{Totals}
use Rattle.fz_head.specs.PackChecks.{name_checks, reserved_index}
use Rattle.fz_head.specs.Packable.{is_primary}
use Rattle.fz_head.specs.PackedHeader.{made_cards}
use Rattle.fz_head.specs.Repeats.{first_repeat, image_names, itself}
use Rattle.fz_head.specs.SumCards.{AreDropped}
use Rattle.fz_head.specs.ThereAndBack.{MayBePacked}
use Rattle.fz_head.proofs.FrontCards.{HasEnd, HasFront, clear, front_count, front-before-end, has_front, is_first_hdu}
use Rattle.fz_head.proofs.MadeCards.{made-dropped}
use Rattle.fz_head.proofs.BackAgain.{IsPacked}

none_of : {X : Type 0} (o : Option X) → is_some o ≡ false → o ≡ None
none_of None e = refl
none_of (Some x) e = cc

-- an extension is no primary
no_primary : (b c : Bool) → is_primary (cond b Image (cond c BinTable Other)) ≡ false
no_primary true c = refl
no_primary false true = refl
no_primary false false = refl

named_no_primary : (text : Option (List ℕ)) → is_primary (sort_named text) ≡ false
named_no_primary None = refl
named_no_primary (Some text) = no_primary (bytes_eq text (codes "IMAGE")) (bytes_eq text (codes "BINTABLE"))

pub primary_is : (k : ℕ) (header : List ℕ) → is_primary (sort_of k header) ≡ is_first_hdu k
primary_is zero header = refl
primary_is (suc k) header = named_no_primary (text_of (card_at header 0))

-- by the laws of cards
module _ (laws : CardLaws) where
  pub packed_is : (header : List ℕ) (h : Header) (p : Plan) (s : Totals) (sums : List (List ℕ)) (last : ℕ) → MayBePacked header h → p.shape ≡ h.axes → AreDropped sums → HasEnd header last →
      IsPacked header (is_first_hdu h.hdu) (size_at header 2) last (made_cards p s) sums
  packed_is header h p s sums last may shape dropped end = record {
    image = record { front = front; end = end; reserved = reserved; single = single };
    made_are = made-dropped laws p s (omega (arith, front.few, axes, ap (λ a. a.n) shape));
    sums_are = dropped;
    count = refl;
    more = last - front_count (is_first_hdu h.hdu) (size_at header 2);
    enough = omega (arith, front-before-end laws header (is_first_hdu h.hdu) (size_at header 2) last front end);
  }
    where
      front : HasFront header (is_first_hdu h.hdu) (size_at header 2)
      front = has_front h.hdu header may.simple may.is_header.mandatory

      axes : h.axes.n ≡ size_at header 2
      axes = ap (λ (f : Header). f.axes.n) may.is_header.facts ∙ length-map-range_with_len (size_at header) 3 (size_at header 2)

      primary : is_primary h.sort ≡ is_first_hdu h.hdu
      primary = ap (λ (f : Header). is_primary f.sort) may.is_header.facts ∙ primary_is h.hdu header

      cards : cards_of header ≡ map (card_at header) (range_with_len 0 last)
      cards = ap (λ o. map (card_at header) (range_with_len 0 (unwrap_or o 0))) end.found

      passed : AllByRecursion (λ check. check.0 ≡ false) (name_checks h header)
      passed = clear (name_checks h header) may.names

      reserved : reserved_index (is_first_hdu h.hdu) (size_at header 2) (map (card_at header) (range_with_len 0 last)) ≡ None
      reserved =
          ap (λ b. reserved_index b (size_at header 2) (map (card_at header) (range_with_len 0 last))) (sym primary)
          ∙ (ap (λ k. reserved_index (is_primary h.sort) k (map (card_at header) (range_with_len 0 last))) (sym axes)
          ∙ (ap (reserved_index (is_primary h.sort) h.axes.n) (sym cards)
          ∙ none_of (reserved_index (is_primary h.sort) h.axes.n (cards_of header)) passed.0))

      single : first_repeat image_names itself (map (card_at header) (range_with_len 0 last)) ≡ None
      single = ap (first_repeat image_names itself) (sym cards) ∙ none_of (first_repeat image_names itself (cards_of header)) passed.1.0
