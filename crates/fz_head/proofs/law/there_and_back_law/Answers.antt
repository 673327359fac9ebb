-- What the checks of an image to be packed say of its cards, for the way to a packed header and back.
use Rattle.std.proofs.Common.{◌≡◌, ℕ, List, map, sym, ap, ◌∙◌}
use Rattle.std.specs.Prelude.{unwrap_or}
use Rattle.std.specs.List.{range_with_len}
use Rattle.fz_card.specs.Laws.{CardLaws}
use Rattle.fz_block.specs.Cards.{card_at}
use Rattle.fz_block.specs.Hdus.{cards_of, size_at}
use Rattle.fz_block.specs.declared.header.Header.{Header}
use Rattle.fz_head.specs.declared.plan.Plan.{Plan}
use Rattle.fz_head.specs.declared.totals.Totals.{Totals}
use Rattle.fz_head.specs.PackedHeader.{made_cards, packed_header, packed_with, sum_cards}
use Rattle.fz_head.specs.PlainHeader.{plain_header}
use Rattle.fz_head.specs.SumCards.{AreDropped}
use Rattle.fz_head.specs.ThereAndBack.{MayBePacked}
use Rattle.fz_head.proofs.law.there_and_back_law.Goals as goal
use Rattle.fz_head.proofs.FrontCards.{has_end, is_first_hdu}
use Rattle.fz_head.proofs.MadeCards.{blanks-are, sums-dropped}
use Rattle.fz_head.proofs.BackAgain.{back_again}
use Rattle.fz_head.proofs.MadeImage.{packed_is}

back : (laws : CardLaws) (header : List ℕ) (h : Header) (p : Plan) (s : Totals) (sums : List (List ℕ)) → MayBePacked header h → p.shape ≡ h.axes → AreDropped sums → plain_header (packed_with (cards_of header) p s sums) ≡ cards_of header
back laws header h p s sums may shape dropped =
    let at = has_end header may.is_header.whole.has in
    let cards : cards_of header ≡ map (card_at header) (range_with_len 0 at.0) = ap (λ o. map (card_at header) (range_with_len 0 (unwrap_or o 0))) at.1.found in
    ap (λ l. plain_header (packed_with l p s sums)) cards
    ∙ (back_again laws header (is_first_hdu h.hdu) (size_at header 2) at.0 (made_cards p s) sums (packed_is laws header h p s sums at.0 may shape dropped at.1) ∙ sym cards)

pub returns-clause-blank : goal.returns-clause-blank
unfolding packed_header
returns-clause-blank c = λ header h p s may shape. back c.card_laws.ensures header h p s (sum_cards s.sums) may shape (sums-dropped (sum_cards s.sums) (blanks-are c.card_laws.ensures s.sums))

pub returns-clause-sums : goal.returns-clause-sums
returns-clause-sums c = back c.card_laws.ensures
