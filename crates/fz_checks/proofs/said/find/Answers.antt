use Rattle.fz_checks.proofs.SaidCards.{index-named, said-card, said-none}
use Rattle.fz_checks.proofs.said.find.Goals as goal

pub returns-clause-index : goal.returns-clause-index
returns-clause-index c = index-named c.args.buf.now c.args.name.now.bytes c.first_named.result c.first_named.ensures.first

pub returns-clause-card : goal.returns-clause-card
returns-clause-card c = said-card c.args.buf.now c.args.name.now.bytes c.first_named.result c.first_named.ensures.first

pub returns-clause-none : goal.returns-clause-none
returns-clause-none c = said-none c.args.buf.now c.args.name.now.bytes c.first_named.result c.first_named.ensures.first
