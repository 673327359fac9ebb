-- Parts that are cut from the packed file of `PlainFile`: the pixels, and the ranges of the file that they are read from, written out by
-- hand (FITS 4.0, sections 7.3 and 10.1).
use Rattle.std.specs.Prelude.{ℕ, pos, ℤ, List, [], ◌∷◌, ◌++◌, codes, replicate}
use Rattle.fz_block.specs.declared.header.Header.{Header}
use Rattle.fz_block.specs.declared.header.Sort.TheVariants.{BinTable}
use Rattle.fz_grid.specs.declared.sieve.Sieve.{Sieve}
use Rattle.fz_files.specs.ExtensionFile.{image_table_cards}
use Rattle.fz_files.specs.HandMade.{block_of, card_of}
use Rattle.fz_files.specs.PlainFile.{plain_cards}

-- the header of the table, after the empty primary: 21 cards in one block, and 96 bytes of rows and 15 bytes of heap after it
abbrev pub table_facts : Header
table_facts = record {
  hdu = 1;
  start = 2880;
  cards = 21;
  blocks = 1;
  sort = BinTable;
  bitpix = pos 8;
  axes = record { n = 2; len = 16 ∷ 6 ∷ 0 ∷ 0 ∷ 0 ∷ 0 ∷ 0 ∷ 0 ∷ 0 ∷ [] };
  pcount = 15;
  gcount = 1;
  data_len = 111;
}

-- every pixel of the box from column 2 to 4 and row 2 to 3, counted from 1
abbrev pub box_sieve : Sieve
box_sieve = record {
  n = 2;
  lo = 1 ∷ 1 ∷ 0 ∷ 0 ∷ 0 ∷ 0 ∷ 0 ∷ 0 ∷ 0 ∷ [];
  hi = 3 ∷ 2 ∷ 0 ∷ 0 ∷ 0 ∷ 0 ∷ 0 ∷ 0 ∷ 0 ∷ [];
  step = 1 ∷ 1 ∷ 0 ∷ 0 ∷ 0 ∷ 0 ∷ 0 ∷ 0 ∷ 0 ∷ [];
}

-- its pixels
abbrev pub box_numbers : List ℤ
box_numbers = pos 7 ∷ pos 8 ∷ pos 9 ∷ pos 12 ∷ pos 13 ∷ pos 14 ∷ []

-- the headers of both HDUs, and of tiles 0, 1, 3 and 4 the two descriptors of the row and the bytes in the heap
abbrev pub box_ranges : List (ℕ × ℕ)
box_ranges =
    (0, 2880) ∷ (2880, 2880)
    ∷ (5760, 8) ∷ (5768, 8) ∷ (5856, 4)
    ∷ (5776, 8) ∷ (5784, 8) ∷ (5860, 4)
    ∷ (5808, 8) ∷ (5816, 8) ∷ (5866, 2)
    ∷ (5824, 8) ∷ (5832, 8) ∷ (5868, 2)
    ∷ []

-- every second pixel of every second row
abbrev pub step_sieve : Sieve
step_sieve = record {
  n = 2;
  lo = 0 ∷ 0 ∷ 0 ∷ 0 ∷ 0 ∷ 0 ∷ 0 ∷ 0 ∷ 0 ∷ [];
  hi = 4 ∷ 2 ∷ 0 ∷ 0 ∷ 0 ∷ 0 ∷ 0 ∷ 0 ∷ 0 ∷ [];
  step = 2 ∷ 2 ∷ 0 ∷ 0 ∷ 0 ∷ 0 ∷ 0 ∷ 0 ∷ 0 ∷ [];
}

abbrev pub step_numbers : List ℤ
step_numbers = pos 1 ∷ pos 3 ∷ pos 5 ∷ pos 11 ∷ pos 13 ∷ pos 15 ∷ []

-- the first and the fifth pixel of the first row: tile 1, which is between them, has none of both
abbrev pub ends_sieve : Sieve
ends_sieve = record {
  n = 2;
  lo = 0 ∷ 0 ∷ 0 ∷ 0 ∷ 0 ∷ 0 ∷ 0 ∷ 0 ∷ 0 ∷ [];
  hi = 4 ∷ 0 ∷ 0 ∷ 0 ∷ 0 ∷ 0 ∷ 0 ∷ 0 ∷ 0 ∷ [];
  step = 4 ∷ 1 ∷ 0 ∷ 0 ∷ 0 ∷ 0 ∷ 0 ∷ 0 ∷ 0 ∷ [];
}

-- the headers of both HDUs, and of tiles 0 and 2 the two descriptors of the row and the bytes in the heap
abbrev pub ends_ranges : List (ℕ × ℕ)
ends_ranges =
    (0, 2880) ∷ (2880, 2880)
    ∷ (5760, 8) ∷ (5768, 8) ∷ (5856, 4)
    ∷ (5792, 8) ∷ (5800, 8) ∷ (5864, 2)
    ∷ []

-- the cutout of the box: the cards of a primary image of 3 by 2 pixels, the pixels, and fill
abbrev pub box_cards : List (List ℕ)
box_cards =
    card_of (codes "SIMPLE  =                    T")
    ∷ card_of (codes "BITPIX  =                    8")
    ∷ card_of (codes "NAXIS   =                    2")
    ∷ card_of (codes "NAXIS1  =                    3")
    ∷ card_of (codes "NAXIS2  =                    2")
    ∷ []

abbrev pub box_file : List ℕ
box_file = block_of box_cards ++ ((0x07 ∷ 0x08 ∷ 0x09 ∷ 0x0C ∷ 0x0D ∷ 0x0E ∷ []) ++ replicate 2874 0)

-- the cards of the table, and after them reference pixels of both axes
abbrev pub reference_cards : List (List ℕ)
reference_cards = plain_cards ++ card_of (codes "CRPIX1  =                  3.0") ∷ card_of (codes "CRPIX2  =                  2.5") ∷ []

-- the cards of the cutout of the box, whose corner is one pixel after the first along both axes
abbrev pub moved_cards : List (List ℕ)
moved_cards = box_cards ++ card_of (codes "CRPIX1  =                  2.0") ∷ card_of (codes "CRPIX2  =                  1.5") ∷ []

-- every second pixel from the second on along axis 1, and all along axis 2
abbrev pub second_sieve : Sieve
second_sieve = record {
  n = 2;
  lo = 1 ∷ 0 ∷ 0 ∷ 0 ∷ 0 ∷ 0 ∷ 0 ∷ 0 ∷ 0 ∷ [];
  hi = 3 ∷ 2 ∷ 0 ∷ 0 ∷ 0 ∷ 0 ∷ 0 ∷ 0 ∷ 0 ∷ [];
  step = 2 ∷ 1 ∷ 0 ∷ 0 ∷ 0 ∷ 0 ∷ 0 ∷ 0 ∷ 0 ∷ [];
}

-- the cards of its cutout, which keeps both reference pixels
abbrev pub kept_cards : List (List ℕ)
kept_cards =
    card_of (codes "SIMPLE  =                    T")
    ∷ card_of (codes "BITPIX  =                    8")
    ∷ card_of (codes "NAXIS   =                    2")
    ∷ card_of (codes "NAXIS1  =                    2")
    ∷ card_of (codes "NAXIS2  =                    3")
    ∷ card_of (codes "CRPIX1  =                  3.0")
    ∷ card_of (codes "CRPIX2  =                  2.5")
    ∷ []

-- the cards of a table of an image in an extension, and after them cards that belong to its packed form, and others of the image
abbrev pub mixed_cards : List (List ℕ)
mixed_cards =
    image_table_cards
    ++ card_of (codes "ZEXTEND =                    T")
    ∷ card_of (codes "INHERIT =                    T")
    ∷ card_of (codes "CRPIX1  =                  3.0")
    ∷ card_of (codes "CRPIX2  =  2.5E0 / centre")
    ∷ card_of (codes "CRPIX3  =                  4.0")
    ∷ card_of (codes "ZHECKSUM= 'KgTAMeS5KeSAKeS3'")
    ∷ card_of (codes "ZDATASUM= '0       '")
    ∷ card_of (codes "OBJECT  = 'M31     '")
    ∷ []

-- columns 2 to 4 of both rows, counted from 1, by a sieve that says numbers of a third axis too
abbrev pub third_sieve : Sieve
third_sieve = record {
  n = 2;
  lo = 1 ∷ 0 ∷ 1 ∷ 0 ∷ 0 ∷ 0 ∷ 0 ∷ 0 ∷ 0 ∷ [];
  hi = 3 ∷ 1 ∷ 1 ∷ 0 ∷ 0 ∷ 0 ∷ 0 ∷ 0 ∷ 0 ∷ [];
  step = 1 ∷ 1 ∷ 1 ∷ 0 ∷ 0 ∷ 0 ∷ 0 ∷ 0 ∷ 0 ∷ [];
}

-- the cards of its cutout: a primary image, whose reference pixels move along axis 1 only
abbrev pub unmixed_cards : List (List ℕ)
unmixed_cards =
    card_of (codes "SIMPLE  =                    T")
    ∷ card_of (codes "BITPIX  =                   16")
    ∷ card_of (codes "NAXIS   =                    2")
    ∷ card_of (codes "NAXIS1  =                    3")
    ∷ card_of (codes "NAXIS2  =                    2")
    ∷ card_of (codes "CRPIX1  =                  2.0")
    ∷ card_of (codes "CRPIX2  =  2.5E0 / centre")
    ∷ card_of (codes "CRPIX3  =                  4.0")
    ∷ card_of (codes "OBJECT  = 'M31     '")
    ∷ []
