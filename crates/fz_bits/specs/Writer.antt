-- A bit writer is seen as the bits written so far, in a buffer of a known length.
use Rattle.std.specs.Prelude.{◌≡◌, ℕ, ◌+◌, ◌*◌, ◌/◌, Bool, List, ◌++◌, length, take, drop}
use Rattle.std.specs.Borrow.{GName}
use Rattle.fz_bits.specs.Bits.{number_bits, bits_of}
use Rattle.fz_bits.specs.declared.writer.BitWriter.{BitWriter}

-- the bits written so far
unfoldable pub written : BitWriter → List Bool
written w = bits_of (take w.at w.out.now) ++ number_bits w.count w.pending

-- which borrow the buffer is: it stays the same from `new` to `finish`
abbrev pub lent : BitWriter → GName
lent w = w.out.ghost_name

-- the buffer's bytes
abbrev pub buffer : BitWriter → List ℕ
buffer w = w.out.now

-- how many bits the buffer holds
abbrev pub room : BitWriter → ℕ
room w = 8 * length (buffer w)

-- the bytes after those that so many bits take are as before
abbrev pub SameBehind : ℕ → List ℕ → List ℕ → Type 0
SameBehind n old new = drop ((n + 7) / 8) new ≡ drop ((n + 7) / 8) old
