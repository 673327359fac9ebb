-- Which bytes jobs may read of the files of `PlainFile` and `FaultFile`, worked out by hand (FITS 4.0, sections 3.1, 3.3, 7.3.3, 7.3.5
-- and 10.1.3). A range is the byte at which it begins, and how many bytes it has.
use Rattle.std.specs.Prelude.{ℕ, List, [], ◌∷◌, ◌++◌}

-- the packed file: its first block is the header of the empty primary, and its second one the header of the table
abbrev pub both_headers : List (ℕ × ℕ)
both_headers = (0, 2880) ∷ (2880, 2880) ∷ []

-- the primary has no data; they would begin at byte 2880
abbrev pub no_data : ℕ × ℕ
no_data = (2880, 0)

-- The six rows of 16 bytes begin at byte 5760, and the heap begins directly after them, at byte 5856. Of each row both descriptors, of 8
-- bytes each, and its record: 4, 4, 2, 2, 2 and 1 pixels of one byte each, at bytes 0, 4, 8, 10, 12 and 14 of the heap.
abbrev pub six_rows : List (ℕ × ℕ)
six_rows =
    (5760, 8) ∷ (5768, 8) ∷ (5856, 4)
    ∷ (5776, 8) ∷ (5784, 8) ∷ (5860, 4)
    ∷ (5792, 8) ∷ (5800, 8) ∷ (5864, 2)
    ∷ (5808, 8) ∷ (5816, 8) ∷ (5866, 2)
    ∷ (5824, 8) ∷ (5832, 8) ∷ (5868, 2)
    ∷ (5840, 8) ∷ (5848, 8) ∷ (5870, 1)
    ∷ []

-- the data of the table with their padding, which are the third block
abbrev pub third_block : ℕ × ℕ
third_block = (5760, 2880)

-- `unpack` may read the headers, and the rows with their records
abbrev pub unpack_ranges : List (ℕ × ℕ)
unpack_ranges = both_headers ++ no_data ∷ six_rows

-- `verify` also the data of each HDU, for its checksums
abbrev pub verify_ranges : List (ℕ × ℕ)
verify_ranges = both_headers ++ no_data ∷ (six_rows ++ third_block ∷ [])

-- `list` the headers
abbrev pub list_ranges : List (ℕ × ℕ)
list_ranges = both_headers

-- The file of the image, of which `pack` may read the padding after its 15 pixels of one byte each, which begin at byte 2880; the header; and
-- the data with their padding.
abbrev pub pack_ranges : List (ℕ × ℕ)
pack_ranges = (2895, 2865) ∷ (0, 2880) ∷ (2880, 2880) ∷ []

-- The file of `FaultFile` with ten bytes after an image of 8 pixels of two bytes each, for which it is rejected: the padding, the header, and
-- these ten bytes.
abbrev pub rejected_ranges : List (ℕ × ℕ)
rejected_ranges = (2896, 2864) ∷ (0, 2880) ∷ (5760, 10) ∷ []
