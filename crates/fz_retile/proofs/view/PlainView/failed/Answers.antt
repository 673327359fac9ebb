-- As it was kept.
use Rattle.fz_retile.proofs.view.PlainView.failed.Goals as goal

pub returns-clause-clean : goal.returns-clause-clean
returns-clause-clean g c = c.args.self.now.failures.clean

pub returns-clause-rose : goal.returns-clause-rose
returns-clause-rose g c = c.args.self.now.failures.rose
