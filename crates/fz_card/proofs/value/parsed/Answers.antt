use Rattle.fz_card.proofs.Integers.{numeral_utf8}
use Rattle.fz_card.proofs.value.parsed.Goals as goal

pub returns-in_default : goal.returns-in_default
returns-in_default c = λ read. c.in_default.ensures.cases.0 (numeral_utf8 c.args.text.now read.0)
