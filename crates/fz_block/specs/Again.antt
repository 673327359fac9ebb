-- A header that is read once more, into a buffer that is there already (FITS 4.0, sections 3.3.1 and 4.4.1).
use Rattle.std.specs.Prelude.{ℕ, ◌≡◌, ◌+◌, ◌-◌, ◌*◌, ◌≤◌, nat_lt, List, length, take, Option, Result, Ok, Err, if◌then◌else◌}
use Rattle.fz_base.specs.Refusal.{refusal}
use Rattle.fz_base.specs.Source.{Reads}
use Rattle.fz_base.specs.declared.fault.Fault.{Fault}
use Rattle.fz_base.specs.declared.fault.Place.TheVariants.{Card}
use Rattle.fz_base.specs.declared.kind.Kind.TheVariants.{BadCard}
use Rattle.fz_block.specs.Checks.{header_blocks_of, hdu_at}
use Rattle.fz_block.specs.declared.header.Header.{Header}

-- so many blocks of the header that begins at this byte are at the front of a buffer, if it has room for them
abbrev pub HasBlocks : Option (List ℕ) → ℕ → ℕ → List ℕ → Type 0
HasBlocks held start n buf = 2880 * n ≤ length buf → Reads held start (take (2880 * n) buf)

-- a buffer of one block is the last of so many blocks of the header that begins at this byte
abbrev pub IsLastBlock : Option (List ℕ) → ℕ → ℕ → List ℕ → Type 0
IsLastBlock held start n buf = length buf ≡ 2880 → Reads held (start + (2880 * n - 2880)) buf

-- The header whose blocks were found, in a buffer of so many bytes. A longer one is another than was met before, for which the
-- buffer was taken.
abbrev pub where_room : ℕ → ℕ → ℕ → List ℕ → Result ℕ Fault → Result Header Fault
where_room room k start file (Err fault) = Err fault
where_room room k start file (Ok blocks) = if nat_lt room (2880 * blocks) then Err (refusal k (Card 0) BadCard) else hdu_at k start file

-- the facts of the header of HDU k, read once more into a buffer of so many bytes, or why the file is refused
unfoldable pub hdu_again_at : ℕ → ℕ → ℕ → List ℕ → Result Header Fault
hdu_again_at room k start file = where_room room k start file (header_blocks_of k start file)
