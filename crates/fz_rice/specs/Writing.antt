-- What a call that writes bits does to a writer.
use Rattle.std.specs.Prelude.{◌≡◌, ℕ, ◌+◌, ◌^◌, ◌<◌, ◌≤◌, ◌↔◌, Bool, List, ◌++◌, length, Result, IsErr, OnOk}
use Rattle.fz_bits.specs.Bits.{number_bits}
use Rattle.fz_bits.specs.Writer.{written, lent, room}
use Rattle.fz_bits.specs.declared.writer.BitWriter.{BitWriter}
use Rattle.fz_bits.specs.declared.writer.Full.{Full}
use Rattle.fz_rice.specs.Code.{split_bits}

-- the bits are written, or there is no room for them
pub record Writes {A : Type 0} (result : Result A Full) (bits : List Bool) (old new : BitWriter) : Type 0 where
  pub same : lent new ≡ lent old
  pub space : room new ≡ room old
  pub ok : OnOk result (written new ≡ written old ++ bits)
  pub full : IsErr result ↔ (room old < length (written old) + length bits)

-- so many bits of a number are a value in unary and k bits; a width above 63 says only that they are too many
pub record IsField (k value bits width : ℕ) : Type 0 where
  pub fits : bits < 2 ^ width
  pub few : width ≤ 96
  pub is : width < 64 → number_bits width bits ≡ split_bits k value
