-- Places that follow from the facts of a header (FITS 4.0, sections 3.1 and 3.3).
use Rattle.std.specs.Prelude.{ℕ, ◌+◌, ◌*◌, ◌/◌}
use Rattle.fz_block.specs.declared.header.Header.{Header}

-- a length in bytes with the fill to whole blocks of 2,880 bytes
abbrev pub whole_blocks_of : ℕ → ℕ
whole_blocks_of len = (len + 2879) / 2880 * 2880

-- the byte at which the data begin
abbrev pub data_start_of : Header → ℕ
data_start_of h = h.start + 2880 * h.blocks

-- the byte after the data and their fill
abbrev pub next_start_of : Header → ℕ
next_start_of h = data_start_of h + whole_blocks_of h.data_len
