use Rattle.fz_card.proofs.Values.{integer_value_once}
use Rattle.fz_card.proofs.Readings.{integer_of-value, value-integer_of}
use Rattle.fz_card.proofs.value.int_law.Goals as goal

pub returns-clause-once : goal.returns-clause-once
returns-clause-once c = integer_value_once

pub returns-clause-function : goal.returns-clause-function
returns-clause-function c = λ card v. (value-integer_of card v, integer_of-value card v)
