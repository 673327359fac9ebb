-- The law, over only the definitions.
use Rattle.fz_bits.proofs.BitsLemmas.{length-number_bits, number_bits-append, number_bits-mod}
use Rattle.fz_bits.proofs.BytesLemmas.{bits_value-lt, number_bits-bits_value, bits_value-append, bits_value-number_bits}
use Rattle.fz_bits.proofs.laws.number_law.Goals as goal

pub returns : goal.returns
returns c = record {
  many = length-number_bits;
  joined = number_bits-append;
  last = number_bits-mod;
  value = bits_value-number_bits;
  bits = number_bits-bits_value;
  below = bits_value-lt;
  joined_value = bits_value-append;
}
