-- The law, over only the definitions.
use Rattle.std.proofs.Common.{arith}
use Rattle.fz_bits.proofs.WriterLemmas.{length-written}
use Rattle.fz_bits.proofs.laws.room_law.Goals as goal

pub returns : goal.returns
returns c = λ w. omega (arith, length-written w)
