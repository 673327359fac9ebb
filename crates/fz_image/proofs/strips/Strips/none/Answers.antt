-- No strips are there.
use Rattle.fz_image.proofs.StripBytes.{none_there}
use Rattle.fz_image.proofs.strips.Strips.none.Goals as goal

pub returns-clause-strips : goal.returns-clause-strips
returns-clause-strips c = λ held bytes. none_there held bytes
