-- A patch of a file of another packer, written out by hand: descriptors of 64 bits, though the image is small; tiles of NOCOMPRESS that
-- are stored as codes; names of columns in small letters; a card THEAP; forms that say no greatest count; and checksums without a text (FITS 4.0,
-- sections 4.4.2.7, 7.3.1, 7.3.5 and 10.1.3).
use Rattle.std.specs.Prelude.{ℕ, pos, List, [], ◌∷◌, ◌++◌, codes, replicate, None}
use Rattle.fz_block.specs.declared.header.Header.{Header}
use Rattle.fz_block.specs.declared.header.Sort.TheVariants.{BinTable}
use Rattle.fz_files.specs.HandMade.{block_of, card_of, empty_cards}
use Rattle.fz_laws.specs.Amends.{amend_of}
use Rattle.fz_laws.specs.Given.{PatchJob}
use Rattle.fz_laws.specs.Writes.{Steps}

-- the cards of the table of an image of 4 pixels of 8 bits in tiles of 2
abbrev pub lent_cards : List (List ℕ)
lent_cards =
    card_of (codes "XTENSION= 'BINTABLE'")
    ∷ card_of (codes "BITPIX  =                    8")
    ∷ card_of (codes "NAXIS   =                    2")
    ∷ card_of (codes "NAXIS1  =                   32")
    ∷ card_of (codes "NAXIS2  =                    2")
    ∷ card_of (codes "PCOUNT  =                    4")
    ∷ card_of (codes "GCOUNT  =                    1")
    ∷ card_of (codes "TFIELDS =                    2")
    ∷ card_of (codes "TTYPE1  = 'compressed_data'")
    ∷ card_of (codes "TFORM1  = 'QB      '")
    ∷ card_of (codes "TTYPE2  = 'Uncompressed_Data'")
    ∷ card_of (codes "TFORM2  = '1QB (4) '")
    ∷ card_of (codes "THEAP   =                   64")
    ∷ card_of (codes "ZIMAGE  =                    T")
    ∷ card_of (codes "ZCMPTYPE= 'NOCOMPRESS'")
    ∷ card_of (codes "ZBITPIX =                    8")
    ∷ card_of (codes "ZNAXIS  =                    1")
    ∷ card_of (codes "ZNAXIS1 =                    4")
    ∷ card_of (codes "ZTILE1  =                    2")
    ∷ card_of (codes "DATASUM = '        '")
    ∷ card_of (codes "CHECKSUM= '        '")
    ∷ []

-- its header, after a primary without data: 21 cards in one block, and 64 bytes of rows and 4 bytes of heap after it
abbrev pub lent_facts : Header
lent_facts = record {
  hdu = 1;
  start = 2880;
  cards = 21;
  blocks = 1;
  sort = BinTable;
  bitpix = pos 8;
  axes = record { n = 2; len = 32 ∷ 2 ∷ 0 ∷ 0 ∷ 0 ∷ 0 ∷ 0 ∷ 0 ∷ 0 ∷ [] };
  pcount = 4;
  gcount = 1;
  data_len = 68;
}

-- its rows: a code of 2 bytes at byte 0 and at byte 2 of the heap, each number in 8 bytes
abbrev pub lent_rows : List ℕ
lent_rows =
    0 ∷ 0 ∷ 0 ∷ 0 ∷ 0 ∷ 0 ∷ 0 ∷ 2 ∷ 0 ∷ 0 ∷ 0 ∷ 0 ∷ 0 ∷ 0 ∷ 0 ∷ 0
    ∷ 0 ∷ 0 ∷ 0 ∷ 0 ∷ 0 ∷ 0 ∷ 0 ∷ 0 ∷ 0 ∷ 0 ∷ 0 ∷ 0 ∷ 0 ∷ 0 ∷ 0 ∷ 0
    ∷ 0 ∷ 0 ∷ 0 ∷ 0 ∷ 0 ∷ 0 ∷ 0 ∷ 2 ∷ 0 ∷ 0 ∷ 0 ∷ 0 ∷ 0 ∷ 0 ∷ 0 ∷ 2
    ∷ 0 ∷ 0 ∷ 0 ∷ 0 ∷ 0 ∷ 0 ∷ 0 ∷ 0 ∷ 0 ∷ 0 ∷ 0 ∷ 0 ∷ 0 ∷ 0 ∷ 0 ∷ 0 ∷ []

-- the file, whose pixels are 1 to 4
abbrev pub lent_file : List ℕ
lent_file = block_of empty_cards ++ (block_of lent_cards ++ (lent_rows ++ ((1 ∷ 2 ∷ 3 ∷ 4 ∷ []) ++ replicate 2812 0)))

-- an image of one axis with one pixel, which is 9
abbrev pub nine_cards : List (List ℕ)
nine_cards =
    card_of (codes "SIMPLE  =                    T")
    ∷ card_of (codes "BITPIX  =                    8")
    ∷ card_of (codes "NAXIS   =                    1")
    ∷ card_of (codes "NAXIS1  =                    1")
    ∷ []

abbrev pub nine_image : List ℕ
nine_image = block_of nine_cards ++ 9 ∷ replicate 2879 0

-- it becomes the last pixel
abbrev pub lent_job : PatchJob
lent_job = record { wanted = None; corner = 3 ∷ [] }

-- the tile is stored as plain bytes then, and its row says no code; TFORM1 stays, since no code is written; the checksums stay without a text
abbrev pub lent_steps : Steps
lent_steps = record {
  heap = amend_of 5828 (3 ∷ 9 ∷ []) ∷ amend_of 5830 (replicate 2810 0) ∷ [];
  pcount = amend_of 3280 (card_of (codes "PCOUNT  =                    6")) ∷ [];
  forms = amend_of 3760 (card_of (codes "TFORM2  = '1QB(2)  '")) ∷ [];
  rows =
      amend_of 5792
      (0 ∷ 0 ∷ 0 ∷ 0 ∷ 0 ∷ 0 ∷ 0 ∷ 0 ∷ 0 ∷ 0 ∷ 0 ∷ 0 ∷ 0 ∷ 0 ∷ 0 ∷ 0
      ∷ 0 ∷ 0 ∷ 0 ∷ 0 ∷ 0 ∷ 0 ∷ 0 ∷ 2 ∷ 0 ∷ 0 ∷ 0 ∷ 0 ∷ 0 ∷ 0 ∷ 0 ∷ 4 ∷ [])
      ∷ [];
  sums = [];
}
