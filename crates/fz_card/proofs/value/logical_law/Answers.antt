use Rattle.fz_card.proofs.Values.{logical_value_once}
use Rattle.fz_card.proofs.Readings.{logical_of-value, value-logical_of}
use Rattle.fz_card.proofs.value.logical_law.Goals as goal

pub returns-clause-once : goal.returns-clause-once
returns-clause-once c = logical_value_once

pub returns-clause-function : goal.returns-clause-function
returns-clause-function c = λ card v. (value-logical_of card v, logical_of-value card v)
