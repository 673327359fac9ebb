use Rattle.fz_card.proofs.Readings.{integer_in-is, is-integer_in}
use Rattle.fz_card.proofs.value.integer_text_law.Goals as goal

pub returns : goal.returns
returns c = λ text v. (is-integer_in text v, integer_in-is text v)
