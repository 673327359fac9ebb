-- A small file of another packer with descriptors of 64 bits, and the file that it stands for, written out by hand (FITS 4.0, sections
-- 7.3.5 and 10.1.3).
use Rattle.std.specs.Prelude.{ℕ, List, [], ◌∷◌, ◌++◌, codes, replicate}
use Rattle.fz_files.specs.HandMade.{card_of, block_of, empty_cards}
use Rattle.fz_files.specs.OtherFile.{other_heap}

-- the cards of the table
abbrev pub wide_cards : List (List ℕ)
wide_cards =
    card_of (codes "XTENSION= 'BINTABLE'")
    ∷ card_of (codes "BITPIX  =                    8")
    ∷ card_of (codes "NAXIS   =                    2")
    ∷ card_of (codes "NAXIS1  =                   16")
    ∷ card_of (codes "NAXIS2  =                    1")
    ∷ card_of (codes "PCOUNT  =                    6")
    ∷ card_of (codes "GCOUNT  =                    1")
    ∷ card_of (codes "TFIELDS =                    1")
    ∷ card_of (codes "TTYPE1  = 'COMPRESSED_DATA'")
    ∷ card_of (codes "TFORM1  = '1QB(6)  '")
    ∷ card_of (codes "ZIMAGE  =                    T")
    ∷ card_of (codes "ZCMPTYPE= 'RICE_1  '")
    ∷ card_of (codes "ZBITPIX =                   16")
    ∷ card_of (codes "ZNAXIS  =                    1")
    ∷ card_of (codes "ZNAXIS1 =                    3")
    ∷ card_of (codes "ZSIMPLE =                    T")
    ∷ []

-- its row: a code of 6 bytes at byte 0 of the heap, each number in 8 bytes
abbrev pub wide_row : List ℕ
wide_row = 0 ∷ 0 ∷ 0 ∷ 0 ∷ 0 ∷ 0 ∷ 0 ∷ 6 ∷ 0 ∷ 0 ∷ 0 ∷ 0 ∷ 0 ∷ 0 ∷ 0 ∷ 0 ∷ []

-- the packed file of 8,640 bytes, whose heap is the code of `OtherFile`
abbrev pub wide_file : List ℕ
wide_file = block_of empty_cards ++ (block_of wide_cards ++ (wide_row ++ (other_heap ++ replicate 2858 0)))

-- what a cut of the whole axis reads: both headers, the descriptor of 16 bytes, and the code
abbrev pub wide_ranges : List (ℕ × ℕ)
wide_ranges = (0, 2880) ∷ (2880, 2880) ∷ (5760, 16) ∷ (5776, 6) ∷ []

-- the cards of the image
abbrev pub narrow_cards : List (List ℕ)
narrow_cards =
    card_of (codes "SIMPLE  =                    T")
    ∷ card_of (codes "BITPIX  =                   16")
    ∷ card_of (codes "NAXIS   =                    1")
    ∷ card_of (codes "NAXIS1  =                    3")
    ∷ []

-- the file of 5,760 bytes that the packed file stands for: the pixels are 1000, 1000 and 1003
abbrev pub narrow_file : List ℕ
narrow_file = block_of narrow_cards ++ ((0x03 ∷ 0xE8 ∷ 0x03 ∷ 0xE8 ∷ 0x03 ∷ 0xEB ∷ []) ++ replicate 2874 0)
