-- The law, over only the definitions.
use Rattle.std.proofs.Common.{false, length, replicate, refl}
use Rattle.fz_bits.specs.Bits.{fill_len}
use Rattle.fz_rice.specs.Producer.{rice_bits}
use Rattle.fz_rice.proofs.EncodeLemmas.{code_bits, code_some}
use Rattle.fz_rice.proofs.LawLemmas.{producer_is}
use Rattle.fz_rice.proofs.laws.producer_law.Goals as goal

pub returns-clause-code : goal.returns-clause-code
returns-clause-code c = λ w block xs is some all. (producer_is w block xs is all, (replicate (fill_len (length (rice_bits w block xs))) false, refl))

pub returns-clause-bits : goal.returns-clause-bits
returns-clause-bits c = code_bits c.bytes_law.ensures.bits

pub returns-clause-some : goal.returns-clause-some
returns-clause-some c = code_some c.number_law.ensures c.bytes_law.ensures.whole
