use Rattle.std.proofs.Common.{refl, arith}
use Rattle.fz_bits.specs.Reader.{left}
use Rattle.fz_bits.proofs.BitsLemmas.{number_bits-zero}
use Rattle.fz_bits.proofs.ReaderLemmas.{ahead_loaded}
use Rattle.fz_bits.proofs.reader.BitReader.new.Goals as goal

pub invariant_of-result : goal.invariant_of-result
invariant_of-result c =
    record {
      small = c.requires;
      within = omega arith;
      loaded = omega arith;
      few = omega arith;
      ahead = ∣ ahead_loaded 0 0 0 _ (omega arith) (omega arith) (number_bits-zero 64) ∣₁;
    }

pub returns-clause-left : goal.returns-clause-left
unfolding left
returns-clause-left c = refl
