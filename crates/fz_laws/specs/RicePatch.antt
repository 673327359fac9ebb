-- Patches of the packed file of `RiceFile`, which has Rice codes of rows of 4 pixels of 16 bits, written out by hand: a row whose code is
-- not shorter than its pixels, and one whose code is (FITS 4.0, sections 7.3.5, 10.1.3 and 10.4.1).
use Rattle.std.specs.Prelude.{ℕ, List, [], ◌∷◌, ◌++◌, codes, pos, replicate, None}
use Rattle.fz_block.specs.declared.header.Header.{Header}
use Rattle.fz_block.specs.declared.header.Sort.TheVariants.{BinTable}
use Rattle.fz_files.specs.HandMade.{block_of, card_of}
use Rattle.fz_laws.specs.Amends.{amend_of}
use Rattle.fz_laws.specs.Given.{PatchJob}
use Rattle.fz_laws.specs.Writes.{Steps}

-- the header of the table, after the empty primary: 25 cards in one block, and 32 bytes of rows and 8 bytes of heap after it
abbrev pub rice_facts : Header
rice_facts = record {
  hdu = 1;
  start = 2880;
  cards = 25;
  blocks = 1;
  sort = BinTable;
  bitpix = pos 8;
  axes = record { n = 2; len = 16 ∷ 2 ∷ 0 ∷ 0 ∷ 0 ∷ 0 ∷ 0 ∷ 0 ∷ 0 ∷ [] };
  pcount = 8;
  gcount = 1;
  data_len = 40;
}

-- the cards of an image of 4 by 1 pixels of 16 bits
abbrev pub row_cards : List (List ℕ)
row_cards =
    card_of (codes "SIMPLE  =                    T")
    ∷ card_of (codes "BITPIX  =                   16")
    ∷ card_of (codes "NAXIS   =                    2")
    ∷ card_of (codes "NAXIS1  =                    4")
    ∷ card_of (codes "NAXIS2  =                    1")
    ∷ []

-- its pixels are 0, -32768, 5 and -7
abbrev pub far_bytes : List ℕ
far_bytes = 0x00 ∷ 0x00 ∷ 0x80 ∷ 0x00 ∷ 0x00 ∷ 0x05 ∷ 0xFF ∷ 0xF9 ∷ []

abbrev pub far_file : List ℕ
far_file = block_of row_cards ++ (far_bytes ++ replicate 2872 0)

-- they become the second row
abbrev pub far_job : PatchJob
far_job = record { wanted = None; corner = 0 ∷ 1 ∷ [] }

-- the tile is stored after the heap of 8 bytes; TFORM2, which is card 11 and says 0, says 4 then
abbrev pub far_steps : Steps
far_steps = record {
  heap = amend_of 5800 far_bytes ∷ amend_of 5808 (replicate 2832 0) ∷ [];
  pcount = amend_of 3280 (card_of (codes "PCOUNT  =                   16")) ∷ [];
  forms = amend_of 3760 (card_of (codes "TFORM2  = '1PI(4)  '")) ∷ [];
  rows = amend_of 5776 (0 ∷ 0 ∷ 0 ∷ 0 ∷ 0 ∷ 0 ∷ 0 ∷ 0 ∷ 0 ∷ 0 ∷ 0 ∷ 4 ∷ 0 ∷ 0 ∷ 0 ∷ 8 ∷ []) ∷ [];
  sums = [];
}

-- the same with four pixels 5, which become the first row
abbrev pub flat_file : List ℕ
flat_file = block_of row_cards ++ ((0x00 ∷ 0x05 ∷ 0x00 ∷ 0x05 ∷ 0x00 ∷ 0x05 ∷ 0x00 ∷ 0x05 ∷ []) ++ replicate 2872 0)

abbrev pub flat_job : PatchJob
flat_job = record { wanted = None; corner = 0 ∷ 0 ∷ [] }

-- their code: the start value 5 in 16 bits, id 0 in 4, and 4 bits fill; the 3 bytes are no more than the 4 that TFORM1 says
abbrev pub flat_steps : Steps
flat_steps = record {
  heap = amend_of 5800 (0x00 ∷ 0x05 ∷ 0x00 ∷ []) ∷ amend_of 5803 (replicate 2837 0) ∷ [];
  pcount = amend_of 3280 (card_of (codes "PCOUNT  =                   11")) ∷ [];
  forms = [];
  rows = amend_of 5760 (0 ∷ 0 ∷ 0 ∷ 3 ∷ 0 ∷ 0 ∷ 0 ∷ 8 ∷ 0 ∷ 0 ∷ 0 ∷ 0 ∷ 0 ∷ 0 ∷ 0 ∷ 0 ∷ []) ∷ [];
  sums = [];
}
