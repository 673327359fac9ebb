use Rattle.std.proofs.Common.{arith}
use Rattle.fz_rice.proofs.OnesLemmas.{ones_front}
use Rattle.fz_rice.proofs.several.ones_of.Goals as goal

pub returns-clause-ones : goal.returns-clause-ones
returns-clause-ones c =
    ones_front c.number_law.ensures c.args.word (omega (arith, c.ranges.word.fits))
