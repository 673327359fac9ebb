-- A file with checksums of which one is right, one wrong and one empty, and the lines that `verify` and `list` print of it, written
-- out by hand (FITS 4.0, sections 4.4.2.7 and 7.1).
use Rattle.std.specs.Prelude.{ℕ, List, [], ◌∷◌, ◌++◌, codes, replicate, Option, Some}
use Rattle.fz_base.specs.Refusal.{refusal}
use Rattle.fz_base.specs.declared.fault.Fault.{Fault}
use Rattle.fz_base.specs.declared.fault.Place.TheVariants.{Row as AtRow}
use Rattle.fz_base.specs.declared.kind.Kind.TheVariants.{DescriptorRange}
use Rattle.fz_files.specs.FaultFile.{past_rows}
use Rattle.fz_files.specs.HandMade.{card_of, block_of, empty_cards}
use Rattle.fz_files.specs.PlainFile.{plain_cards, plain_data, plain_heap}

-- the cards of the table of `PlainFile`: DATASUM gives the sum of the data after three blanks, for which CHECKSUM was not made
abbrev pub blanks_cards : List (List ℕ)
blanks_cards =
    plain_cards
    ++ card_of (codes "DATASUM = '   371075163'")
    ∷ card_of (codes "CHECKSUM= 'FkBCGjA9FjAAFjA9'")
    ∷ []

-- the cards of an IMAGE extension without data
abbrev pub bare_image_cards : List (List ℕ)
bare_image_cards =
    card_of (codes "XTENSION= 'IMAGE   '")
    ∷ card_of (codes "BITPIX  =                    8")
    ∷ card_of (codes "NAXIS   =                    0")
    ∷ card_of (codes "PCOUNT  =                    0")
    ∷ card_of (codes "GCOUNT  =                    1")
    ∷ []

-- the same with a DATASUM whose text is empty, and a CHECKSUM that is right
abbrev pub empty_sum_cards : List (List ℕ)
empty_sum_cards =
    bare_image_cards
    ++ card_of (codes "DATASUM = '        '")
    ∷ card_of (codes "CHECKSUM= 'KgTAMeS5KeSAKeS3'")
    ∷ []

-- the file of 11,520 bytes: the empty primary, the table and its data, and the image without data
abbrev pub lines_file : List ℕ
lines_file = block_of empty_cards ++ (block_of blanks_cards ++ (plain_data ++ block_of empty_sum_cards))

-- what `verify` prints of it
abbrev pub verify_lines : List ℕ
verify_lines =
    codes "HDU 0 datasum none checksum none tiles -\n"
    ++ (codes "HDU 1 datasum ok checksum wrong tiles 6\n"
    ++ codes "HDU 2 datasum none checksum ok tiles -\n")

-- what `list` prints of it
abbrev pub list_lines : List ℕ
list_lines =
    codes "HDU 0 IMAGE 8 - header 2880 data 0\n"
    ++ (codes "HDU 1 PACKED NOCOMPRESS 8 5x3 tile 2x2 rows 6 header 2880 data 2880\n"
    ++ codes "HDU 2 IMAGE 8 - header 2880 data 0\n")

-- the same file with the rows of `FaultFile`, of which row 3 is the first that is refused
abbrev pub lines_past : List ℕ
lines_past = block_of empty_cards ++ (block_of blanks_cards ++ ((past_rows ++ (plain_heap ++ replicate 2769 0)) ++ block_of empty_sum_cards))

-- its first fault
abbrev pub lines_fault : Option Fault
lines_fault = Some (refusal 1 (AtRow 3) DescriptorRange)

-- what `verify` prints of it: the line of the HDU before the fault
abbrev pub first_line : List ℕ
first_line = codes "HDU 0 datasum none checksum none tiles -\n"
