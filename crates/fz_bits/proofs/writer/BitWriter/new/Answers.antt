use Rattle.std.proofs.Common.{refl}
use Rattle.fz_bits.specs.Bits.{number_bits, bits_of}
use Rattle.fz_bits.specs.Writer.{written}
use Rattle.fz_bits.proofs.writer.BitWriter.new.Goals as goal

pub returns-clause-empty : goal.returns-clause-empty
unfolding written bits_of number_bits
returns-clause-empty c = refl
