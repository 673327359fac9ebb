use Rattle.fz_card.proofs.ZeroValues.{zero_value_once, zero_of-value, value-zero_of}
use Rattle.fz_card.proofs.zero.zero_law.Goals as goal

pub returns-clause-once : goal.returns-clause-once
returns-clause-once c = zero_value_once

pub returns-clause-function : goal.returns-clause-function
returns-clause-function c = λ card a. (value-zero_of card a, zero_of-value card a)
