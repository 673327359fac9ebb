-- Patches of the packed file of `PlainFile`, without a codec and with tiles of 2 by 2 pixels, written out by hand: six pixels in four tiles;
-- only the last pixel; and two pixels of a table whose TFORM2 says less than its rows (FITS 4.0, sections 4.4.1.2, 7.3.5 and 10.1.3).
use Rattle.std.specs.Prelude.{ℕ, List, [], ◌∷◌, ◌++◌, codes, drop, replicate, take, Some, None}
use Rattle.fz_base.specs.Counts.{Amend}
use Rattle.fz_files.specs.HandMade.{block_of, card_of, empty_cards}
use Rattle.fz_files.specs.PlainFile.{plain_cards, plain_data, plain_heap}
use Rattle.fz_laws.specs.Amends.{amend_of}
use Rattle.fz_laws.specs.Given.{PatchJob}
use Rattle.fz_laws.specs.Writes.{Steps}

-- ---- six pixels

-- the cards of an image of 3 by 2 pixels of 8 bits
abbrev pub six_cards : List (List ℕ)
six_cards =
    card_of (codes "SIMPLE  =                    T")
    ∷ card_of (codes "BITPIX  =                    8")
    ∷ card_of (codes "NAXIS   =                    2")
    ∷ card_of (codes "NAXIS1  =                    3")
    ∷ card_of (codes "NAXIS2  =                    2")
    ∷ []

-- its pixels are 0
abbrev pub six_file : List ℕ
six_file = block_of six_cards ++ replicate 2880 0

-- the first of them goes to column 2 of row 2, counted from 1
abbrev pub six_job : PatchJob
six_job = record { wanted = None; corner = 1 ∷ 1 ∷ [] }

-- the tiles that have one of them
abbrev pub six_tiles : List ℕ
six_tiles = 0 ∷ 1 ∷ 3 ∷ 4 ∷ []

-- the writes: four tiles after the heap of 15 bytes, and zeros to the end of the block; PCOUNT is card 5; and each row says no code, and
-- the pixels of the tile, counted, at their byte of the heap. No count is above the 4 that TFORM2 says.
abbrev pub six_steps : Steps
six_steps = record {
  heap =
      amend_of 5871 (0x01 ∷ 0x02 ∷ 0x06 ∷ 0x00 ∷ [])
      ∷ amend_of 5875 (0x03 ∷ 0x04 ∷ 0x00 ∷ 0x00 ∷ [])
      ∷ amend_of 5879 (0x0B ∷ 0x00 ∷ [])
      ∷ amend_of 5881 (0x00 ∷ 0x00 ∷ [])
      ∷ amend_of 5883 (replicate 2757 0)
      ∷ [];
  pcount = amend_of 3280 (card_of (codes "PCOUNT  =                   27")) ∷ [];
  forms = [];
  rows =
      amend_of 5760 (0 ∷ 0 ∷ 0 ∷ 0 ∷ 0 ∷ 0 ∷ 0 ∷ 0 ∷ 0 ∷ 0 ∷ 0 ∷ 4 ∷ 0 ∷ 0 ∷ 0 ∷ 15 ∷ [])
      ∷ amend_of 5776 (0 ∷ 0 ∷ 0 ∷ 0 ∷ 0 ∷ 0 ∷ 0 ∷ 0 ∷ 0 ∷ 0 ∷ 0 ∷ 4 ∷ 0 ∷ 0 ∷ 0 ∷ 19 ∷ [])
      ∷ amend_of 5808 (0 ∷ 0 ∷ 0 ∷ 0 ∷ 0 ∷ 0 ∷ 0 ∷ 0 ∷ 0 ∷ 0 ∷ 0 ∷ 2 ∷ 0 ∷ 0 ∷ 0 ∷ 23 ∷ [])
      ∷ amend_of 5824 (0 ∷ 0 ∷ 0 ∷ 0 ∷ 0 ∷ 0 ∷ 0 ∷ 0 ∷ 0 ∷ 0 ∷ 0 ∷ 2 ∷ 0 ∷ 0 ∷ 0 ∷ 25 ∷ [])
      ∷ [];
  sums = [];
}

-- all of them, in the order in which they are made
abbrev pub six_writes : List Amend
six_writes =
    amend_of 5871 (0x01 ∷ 0x02 ∷ 0x06 ∷ 0x00 ∷ [])
    ∷ amend_of 5875 (0x03 ∷ 0x04 ∷ 0x00 ∷ 0x00 ∷ [])
    ∷ amend_of 5879 (0x0B ∷ 0x00 ∷ [])
    ∷ amend_of 5881 (0x00 ∷ 0x00 ∷ [])
    ∷ amend_of 5883 (replicate 2757 0)
    ∷ amend_of 3280 (card_of (codes "PCOUNT  =                   27"))
    ∷ amend_of 5760 (0 ∷ 0 ∷ 0 ∷ 0 ∷ 0 ∷ 0 ∷ 0 ∷ 0 ∷ 0 ∷ 0 ∷ 0 ∷ 4 ∷ 0 ∷ 0 ∷ 0 ∷ 15 ∷ [])
    ∷ amend_of 5776 (0 ∷ 0 ∷ 0 ∷ 0 ∷ 0 ∷ 0 ∷ 0 ∷ 0 ∷ 0 ∷ 0 ∷ 0 ∷ 4 ∷ 0 ∷ 0 ∷ 0 ∷ 19 ∷ [])
    ∷ amend_of 5808 (0 ∷ 0 ∷ 0 ∷ 0 ∷ 0 ∷ 0 ∷ 0 ∷ 0 ∷ 0 ∷ 0 ∷ 0 ∷ 2 ∷ 0 ∷ 0 ∷ 0 ∷ 23 ∷ [])
    ∷ amend_of 5824 (0 ∷ 0 ∷ 0 ∷ 0 ∷ 0 ∷ 0 ∷ 0 ∷ 0 ∷ 0 ∷ 0 ∷ 0 ∷ 2 ∷ 0 ∷ 0 ∷ 0 ∷ 25 ∷ [])
    ∷ []

-- the patched file of 8,640 bytes: the old tiles stay in the heap, and no row describes them any more
abbrev pub six_rows : List ℕ
six_rows =
    0 ∷ 0 ∷ 0 ∷ 0 ∷ 0 ∷ 0 ∷ 0 ∷ 0 ∷ 0 ∷ 0 ∷ 0 ∷ 4 ∷ 0 ∷ 0 ∷ 0 ∷ 15
    ∷ 0 ∷ 0 ∷ 0 ∷ 0 ∷ 0 ∷ 0 ∷ 0 ∷ 0 ∷ 0 ∷ 0 ∷ 0 ∷ 4 ∷ 0 ∷ 0 ∷ 0 ∷ 19
    ∷ 0 ∷ 0 ∷ 0 ∷ 0 ∷ 0 ∷ 0 ∷ 0 ∷ 0 ∷ 0 ∷ 0 ∷ 0 ∷ 2 ∷ 0 ∷ 0 ∷ 0 ∷ 8
    ∷ 0 ∷ 0 ∷ 0 ∷ 0 ∷ 0 ∷ 0 ∷ 0 ∷ 0 ∷ 0 ∷ 0 ∷ 0 ∷ 2 ∷ 0 ∷ 0 ∷ 0 ∷ 23
    ∷ 0 ∷ 0 ∷ 0 ∷ 0 ∷ 0 ∷ 0 ∷ 0 ∷ 0 ∷ 0 ∷ 0 ∷ 0 ∷ 2 ∷ 0 ∷ 0 ∷ 0 ∷ 25
    ∷ 0 ∷ 0 ∷ 0 ∷ 0 ∷ 0 ∷ 0 ∷ 0 ∷ 0 ∷ 0 ∷ 0 ∷ 0 ∷ 1 ∷ 0 ∷ 0 ∷ 0 ∷ 14 ∷ []

abbrev pub six_heap : List ℕ
six_heap = 0x01 ∷ 0x02 ∷ 0x06 ∷ 0x00 ∷ 0x03 ∷ 0x04 ∷ 0x00 ∷ 0x00 ∷ 0x0B ∷ 0x00 ∷ 0x00 ∷ 0x00 ∷ []

abbrev pub six_table_cards : List (List ℕ)
six_table_cards = take 5 plain_cards ++ card_of (codes "PCOUNT  =                   27") ∷ drop 6 plain_cards

abbrev pub six_patched : List ℕ
six_patched = block_of empty_cards ++ (block_of six_table_cards ++ (six_rows ++ (plain_heap ++ (six_heap ++ replicate 2757 0))))

-- ---- the last pixel

-- the cards of an image of one pixel
abbrev pub one_cards : List (List ℕ)
one_cards =
    card_of (codes "SIMPLE  =                    T")
    ∷ card_of (codes "BITPIX  =                    8")
    ∷ card_of (codes "NAXIS   =                    2")
    ∷ card_of (codes "NAXIS1  =                    1")
    ∷ card_of (codes "NAXIS2  =                    1")
    ∷ []

abbrev pub one_file : List ℕ
one_file = block_of one_cards ++ 99 ∷ replicate 2879 0

-- it goes to column 5 of row 3, and HDU 1 is asked for by its number
abbrev pub one_job : PatchJob
one_job = record { wanted = Some 1; corner = 4 ∷ 2 ∷ [] }

abbrev pub one_steps : Steps
one_steps = record {
  heap = amend_of 5871 (99 ∷ []) ∷ amend_of 5872 (replicate 2768 0) ∷ [];
  pcount = amend_of 3280 (card_of (codes "PCOUNT  =                   16")) ∷ [];
  forms = [];
  rows = amend_of 5840 (0 ∷ 0 ∷ 0 ∷ 0 ∷ 0 ∷ 0 ∷ 0 ∷ 0 ∷ 0 ∷ 0 ∷ 0 ∷ 1 ∷ 0 ∷ 0 ∷ 0 ∷ 15 ∷ []) ∷ [];
  sums = [];
}

-- ---- a form that says too little

-- the same table with 1 in the form of its second column, whose rows describe up to 4 pixels
abbrev pub short_cards : List (List ℕ)
short_cards = take 11 plain_cards ++ card_of (codes "TFORM2  = '1PB(1)  '") ∷ drop 12 plain_cards

abbrev pub short_file : List ℕ
short_file = block_of empty_cards ++ (block_of short_cards ++ plain_data)

-- the cards of an image of 2 by 1 pixels, which are 9
abbrev pub two_cards : List (List ℕ)
two_cards =
    card_of (codes "SIMPLE  =                    T")
    ∷ card_of (codes "BITPIX  =                    8")
    ∷ card_of (codes "NAXIS   =                    2")
    ∷ card_of (codes "NAXIS1  =                    2")
    ∷ card_of (codes "NAXIS2  =                    1")
    ∷ []

abbrev pub two_file : List ℕ
two_file = block_of two_cards ++ 9 ∷ 9 ∷ replicate 2878 0

-- they go to columns 4 and 5 of row 3, so to tiles of 2 pixels and of 1
abbrev pub two_job : PatchJob
two_job = record { wanted = None; corner = 3 ∷ 2 ∷ [] }

-- TFORM2, which is card 11, says the greatest count of all its rows then, and not that of the new ones
abbrev pub two_steps : Steps
two_steps = record {
  heap = amend_of 5871 (0x0D ∷ 9 ∷ []) ∷ amend_of 5873 (9 ∷ []) ∷ amend_of 5874 (replicate 2766 0) ∷ [];
  pcount = amend_of 3280 (card_of (codes "PCOUNT  =                   18")) ∷ [];
  forms = amend_of 3760 (card_of (codes "TFORM2  = '1PB(4)  '")) ∷ [];
  rows =
      amend_of 5824 (0 ∷ 0 ∷ 0 ∷ 0 ∷ 0 ∷ 0 ∷ 0 ∷ 0 ∷ 0 ∷ 0 ∷ 0 ∷ 2 ∷ 0 ∷ 0 ∷ 0 ∷ 15 ∷ [])
      ∷ amend_of 5840 (0 ∷ 0 ∷ 0 ∷ 0 ∷ 0 ∷ 0 ∷ 0 ∷ 0 ∷ 0 ∷ 0 ∷ 0 ∷ 1 ∷ 0 ∷ 0 ∷ 0 ∷ 17 ∷ [])
      ∷ [];
  sums = [];
}
