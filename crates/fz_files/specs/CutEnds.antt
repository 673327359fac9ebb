-- Where a cut ends: at the HDU that it cuts from, at a refused one, and with the file; and how much it reads of a long record. Files,
-- ranges and faults are written out by hand (FITS 4.0, sections 3.1, 7.3.5 and 10.1).
use Rattle.std.specs.Prelude.{ℕ, List, [], ◌∷◌, ◌++◌, codes, replicate, Option, Some}
use Rattle.fz_base.specs.Refusal.{refusal}
use Rattle.fz_base.specs.declared.fault.Fault.{Fault}
use Rattle.fz_base.specs.declared.fault.Place.TheVariants.{Byte, Card}
use Rattle.fz_base.specs.declared.kind.Kind.TheVariants.{NotPacked, OutOfBox}
use Rattle.fz_grid.specs.declared.sieve.Sieve.{Sieve}
use Rattle.fz_files.specs.FaultFile.{ten_zeros}
use Rattle.fz_files.specs.HandMade.{block_of, card_of}
use Rattle.fz_files.specs.LinesFile.{bare_image_cards}
use Rattle.fz_files.specs.OtherFile.{first_cards}
use Rattle.fz_files.specs.PlainFile.{plain_file}

-- the packed file of `PlainFile`, and an image without data after its table
abbrev pub longer_file : List ℕ
longer_file = plain_file ++ block_of bare_image_cards

-- the packed file of `PlainFile`, and ten bytes that are no HDU
abbrev pub unfinished_file : List ℕ
unfinished_file = plain_file ++ ten_zeros

-- what a cut from its HDU 2 reads: the headers of both HDUs, and the ten bytes
abbrev pub unfinished_ranges : List (ℕ × ℕ)
unfinished_ranges = (0, 2880) ∷ (2880, 2880) ∷ (8640, 10) ∷ []

-- pixels 1 to 6 of an axis of 5 pixels, counted from 1, in every row
abbrev pub outside_sieve : Sieve
outside_sieve = record {
  n = 2;
  lo = 0 ∷ 0 ∷ 0 ∷ 0 ∷ 0 ∷ 0 ∷ 0 ∷ 0 ∷ 0 ∷ [];
  hi = 5 ∷ 2 ∷ 0 ∷ 0 ∷ 0 ∷ 0 ∷ 0 ∷ 0 ∷ 0 ∷ [];
  step = 1 ∷ 1 ∷ 0 ∷ 0 ∷ 0 ∷ 0 ∷ 0 ∷ 0 ∷ 0 ∷ [];
}

-- the fault is that of ZNAXIS1, which is card 19 of HDU 1
abbrev pub outside_fault : Option Fault
outside_fault = Some (refusal 1 (Card 19) OutOfBox)

-- a file that is not packed ends before HDU 1, at byte 5760
abbrev pub missing_fault : Option Fault
missing_fault = Some (refusal 1 (Byte 5760) NotPacked)

-- the cards of the table of `OtherFile` for a heap of 100 bytes
abbrev pub record_cards : List (List ℕ)
record_cards =
    card_of (codes "XTENSION= 'BINTABLE'")
    ∷ card_of (codes "BITPIX  =                    8 / bytes")
    ∷ card_of (codes "NAXIS   =                    2 / rows of bytes")
    ∷ card_of (codes "NAXIS1  =                    8 / one descriptor")
    ∷ card_of (codes "NAXIS2  =                    1 / one tile")
    ∷ card_of (codes "PCOUNT  =                  100 / bytes of the heap")
    ∷ card_of (codes "GCOUNT  =                    1")
    ∷ card_of (codes "TFIELDS =                    1")
    ∷ card_of (codes "TTYPE1  = 'COMPRESSED_DATA'    / codes of the tiles")
    ∷ card_of (codes "TFORM1  = '1PB(100)'")
    ∷ card_of (codes "ZIMAGE  =                    T / this is a packed image")
    ∷ card_of (codes "ZCMPTYPE= 'RICE_1  '")
    ∷ card_of (codes "ZBITPIX =                   16 / bits of a pixel")
    ∷ card_of (codes "ZNAXIS  =                    1")
    ∷ card_of (codes "ZNAXIS1 =                    3 / pixels")
    ∷ card_of (codes "ZSIMPLE =                    T / the image was a primary")
    ∷ []

-- the file: its row describes a record of 100 bytes, of which a tile of 3 pixels needs far fewer
abbrev pub record_file : List ℕ
record_file = block_of first_cards ++ (block_of record_cards ++ ((0 ∷ 0 ∷ 0 ∷ 100 ∷ 0 ∷ 0 ∷ 0 ∷ 0 ∷ []) ++ (replicate 100 1 ++ replicate 2772 0)))

-- the whole axis
abbrev pub axis_sieve : Sieve
axis_sieve = record {
  n = 1;
  lo = 0 ∷ 0 ∷ 0 ∷ 0 ∷ 0 ∷ 0 ∷ 0 ∷ 0 ∷ 0 ∷ [];
  hi = 2 ∷ 0 ∷ 0 ∷ 0 ∷ 0 ∷ 0 ∷ 0 ∷ 0 ∷ 0 ∷ [];
  step = 1 ∷ 0 ∷ 0 ∷ 0 ∷ 0 ∷ 0 ∷ 0 ∷ 0 ∷ 0 ∷ [];
}

-- what a cut of it reads: both headers, the descriptor, and 8 bytes for each of the 3 pixels and 64 more
abbrev pub record_ranges : List (ℕ × ℕ)
record_ranges = (0, 2880) ∷ (2880, 2880) ∷ (5760, 8) ∷ (5768, 88) ∷ []
