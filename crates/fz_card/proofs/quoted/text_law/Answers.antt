use Rattle.fz_card.proofs.TextValues.{text_value_once, text_of-value, value-text_of}
use Rattle.fz_card.proofs.quoted.text_law.Goals as goal

pub returns-clause-once : goal.returns-clause-once
returns-clause-once c = text_value_once

pub returns-clause-function : goal.returns-clause-function
returns-clause-function c = λ card a. (value-text_of card a, text_of-value card a)
