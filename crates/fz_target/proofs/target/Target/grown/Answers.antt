-- The heap and the data are longer.
use Rattle.fz_target.proofs.GrownTargets.{grown_target}
use Rattle.fz_target.proofs.target.Target.grown.Goals as goal

pub returns-clause-target : goal.returns-clause-target
returns-clause-target c = grown_target c.args.self.now c.args.more c.requires.target c.requires.near
