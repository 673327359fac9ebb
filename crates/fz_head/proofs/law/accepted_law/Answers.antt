use Rattle.std.proofs.Common.{sym, subst}
use Rattle.fz_block.specs.Hdus.{cards_of}
use Rattle.fz_head.specs.PackedHeader.{packed_with}
use Rattle.fz_head.specs.ThereAndBack.{HasCards}
use Rattle.fz_head.proofs.Accepted.{accepted}
use Rattle.fz_head.proofs.PackedBytes.{bytes-have}
use Rattle.fz_head.proofs.law.accepted_law.Goals as goal

pub returns-clause-bytes : goal.returns-clause-bytes
returns-clause-bytes c = λ header h p s sums k start bytes is same. accepted c.card_laws.ensures header h p s sums is k start bytes
    (subst (λ b. HasCards b (packed_with (cards_of header) p s sums)) (sym same) (bytes-have c.card_laws.ensures c.cards_law.ensures.cards c.cards_law.ensures.header header h p s sums is))

pub returns-clause-cards : goal.returns-clause-cards
returns-clause-cards c = λ header h p s sums k start bytes is has. accepted c.card_laws.ensures header h p s sums is k start bytes has
