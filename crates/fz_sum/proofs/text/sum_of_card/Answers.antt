use Rattle.fz_sum.proofs.SumTexts.{card-untold, card-told, card-value, card-none}
use Rattle.fz_sum.proofs.text.sum_of_card.Goals as goal

pub returns-in_err-len-clause-function : goal.returns-in_err-len-clause-function
returns-in_err-len-clause-function c = card-untold c.args.card.now.bytes c.text.new.into c.text.result _ c.text.ensures.function c.in_err-len.was c.from_residual.ensures

pub returns-in_err-len-clause-none : goal.returns-in_err-len-clause-none
returns-in_err-len-clause-none c = card-none c.card_laws.ensures c.args.card.now.bytes _ (returns-in_err-len-clause-function c)

pub returns-clause-function : goal.returns-clause-function
returns-clause-function c = card-told c.args.card.now.bytes c.text.new.into c.text.result _ c.in_ok-len.len c.text.ensures.function c.in_ok-len.was c.sum_of_text.ensures.function

pub returns-clause-none : goal.returns-clause-none
returns-clause-none c = card-none c.card_laws.ensures c.args.card.now.bytes _ (returns-clause-function c)

pub returns-clause-value : goal.returns-clause-value
returns-clause-value c = card-value c.card_laws.ensures c.args.card.now.bytes _ (returns-clause-function c)
