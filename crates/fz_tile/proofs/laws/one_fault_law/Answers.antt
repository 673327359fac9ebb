-- A record stands for pixels, or is refused in one way.
use Rattle.fz_tile.proofs.FaultLemmas.{same_fault, refuses}
use Rattle.fz_tile.proofs.laws.one_fault_law.Goals as goal

pub returns-clause-none : goal.returns-clause-none
returns-clause-none c = λ codec bitpix total n place read fault can is. refuses c.reading_law.ensures.one c.reading_law.ensures.none codec bitpix total n place read is.0 fault can.codes is.1 is.2.pixels is.2.meaning

pub returns-clause-one : goal.returns-clause-one
returns-clause-one c = λ codec bitpix total n place read fault other can is also. same_fault c.reading_law.ensures.one c.reading_law.ensures.none codec bitpix total n place read other fault can.codes also is
