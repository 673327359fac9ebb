-- The law, over the definitions alone.
use Rattle.fz_bits.proofs.BitsLemmas.{length-bits_of}
use Rattle.fz_bits.proofs.BytesLemmas.{length-bytes_of, bits_of-bytes_of, bytes_of-bits_of_all}
use Rattle.fz_bits.proofs.laws.bytes_law.Goals as goal

pub returns-clause-eight : goal.returns-clause-eight
returns-clause-eight c = length-bits_of

pub returns-clause-whole : goal.returns-clause-whole
returns-clause-whole c = length-bytes_of

pub returns-clause-bits : goal.returns-clause-bits
returns-clause-bits c = bits_of-bytes_of

pub returns-clause-bytes : goal.returns-clause-bytes
returns-clause-bytes c = bytes_of-bits_of_all
