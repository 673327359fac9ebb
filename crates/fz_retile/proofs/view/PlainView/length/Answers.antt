-- It is at most 2^62.
use Rattle.fz_retile.proofs.view.PlainView.length.Goals as goal

pub returns-clause-near : goal.returns-clause-near
returns-clause-near g c = c.args.self.now.fixed.short
