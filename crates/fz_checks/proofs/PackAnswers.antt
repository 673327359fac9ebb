-- The checks of an image to be packed, one after another: the first that refuses.
use Rattle.std.proofs.Common.{◌≡◌, ℕ, ◌-◌, List, length, ap, ◌∙◌}
use Rattle.std.proofs.lemmas.List.FromFn.{length-map-range_with_len}
use Rattle.fz_block.specs.Cards.{card_at}
use Rattle.fz_block.specs.Facts.{IsHeaderOf}
use Rattle.fz_block.specs.Hdus.{cards_of}
use Rattle.fz_block.specs.declared.header.Header.{Header}
use Rattle.fz_checks.proofs.FrontCards.{header-cards}

-- how many cards there are before END
pub cards-count : (header : List ℕ) (h : Header) → IsHeaderOf header h → length (cards_of header) ≡ h.cards
cards-count header h is = ap length (header-cards header h is) ∙ length-map-range_with_len (card_at header) 0 h.cards
