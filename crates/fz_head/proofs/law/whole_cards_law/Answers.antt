use Rattle.fz_block.specs.Hdus.{cards_of}
use Rattle.fz_head.specs.PackedHeader.{packed_with}
use Rattle.fz_head.specs.PlainHeader.{cutout_header, plain_header}
use Rattle.fz_head.proofs.Whole.{cards-whole, cutout-cards, plain-cards}
use Rattle.fz_head.proofs.WholeCards.{all-before-end, all-whole}
use Rattle.fz_head.proofs.WholeMade.{packed-cards}
use Rattle.fz_head.proofs.law.whole_cards_law.Goals as goal

pub returns-clause-read : goal.returns-clause-read
returns-clause-read c = λ header is. all-before-end (cards_of header) (cards-whole header is)

pub returns-clause-packed : goal.returns-clause-packed
returns-clause-packed c = λ header h p s sums is. all-before-end (packed_with (cards_of header) p s sums) (packed-cards c.card_laws.ensures header h p s sums is)

pub returns-clause-plain : goal.returns-clause-plain
returns-clause-plain c = λ cards are. all-before-end (plain_header cards) (plain-cards c.card_laws.ensures cards (all-whole cards are))

pub returns-clause-cutout : goal.returns-clause-cutout
returns-clause-cutout c = λ cards region are few short. all-before-end (cutout_header cards region) (cutout-cards c.card_laws.ensures cards (all-whole cards are) region few short)
