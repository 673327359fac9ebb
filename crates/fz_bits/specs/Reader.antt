-- A bit reader is seen as the bits that are left and the number of bits read.
use Rattle.std.specs.Prelude.{◌≡◌, ℕ, ◌+◌, ◌-◌, ◌*◌, ◌≤◌, Bool, false, List, length, take, drop, replicate}
use Rattle.fz_bits.specs.Bits.{bits_of}
use Rattle.fz_bits.specs.declared.reader.BitReader.{BitReader}

-- how many bits were read
abbrev pub place : BitReader → ℕ
place r = 8 * r.at - r.count

-- the bits that are left
unfoldable pub left : BitReader → List Bool
left r = drop (place r) (bits_of r.code.now)

-- how many of the bits that are left are loaded
abbrev pub ready : BitReader → ℕ
ready r = r.count

-- the bits that are left and the place are as before
pub record IsUnmoved (old new : BitReader) : Type 0 where
  pub left : left new ≡ left old
  pub place : place new ≡ place old

-- more than `max` zeros are next
abbrev pub HasZeros : ℕ → List Bool → Type 0
HasZeros max bits = take (max + 1) bits ≡ replicate (max + 1) false

-- all bits are zeros, and they are at most `max`
abbrev pub IsZeros : ℕ → List Bool → Type 0
IsZeros max bits = (bits ≡ replicate (length bits) false) × (length bits ≤ max)
