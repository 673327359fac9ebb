-- Files with a fault and its place, and one without, written out by hand: which of several faults is the first, at which card, and
-- what is no fault (FITS 4.0, sections 4.4.1, 7.3.5, 10.1.1 and 10.1.3).
use Rattle.std.specs.Prelude.{ℕ, ℤ, pos, List, [], ◌∷◌, ◌++◌, codes, drop, take, replicate, Option, Some}
use Rattle.fz_base.specs.Refusal.{refusal}
use Rattle.fz_base.specs.declared.fault.Fault.{Fault}
use Rattle.fz_base.specs.declared.fault.Place.TheVariants.{Card, Row as AtRow}
use Rattle.fz_base.specs.declared.kind.Kind.TheVariants.{BadCard, DescriptorRange, Limit, MisplacedPrimary, Reserved}
use Rattle.fz_files.specs.ExtensionFile.{bare_cards, image_data, image_table_cards, row_pixels}
use Rattle.fz_files.specs.HandMade.{block_of, card_of, empty_cards}
use Rattle.fz_files.specs.PlainFile.{grid_file, plain_cards, plain_data}
use Rattle.fz_files.specs.RiceFile.{rice_cards, rice_heap, small_cards, small_hdu}

-- an image with BITPIX twice, the second time at card 5, and a reserved name at card 6, which `pack` looks for first
abbrev pub twice_cards : List (List ℕ)
twice_cards = small_cards ++ card_of (codes "BITPIX  =                   16") ∷ card_of (codes "ZTILE1  =                    1") ∷ []

abbrev pub twice_file : List ℕ
twice_file = block_of twice_cards ++ small_hdu.payload

abbrev pub twice_fault : Option Fault
twice_fault = Some (refusal 0 (Card 6) Reserved)

-- a header without data, which says 2,147,483,647 by 2,147,483,647 pixels of 64 bits: that is past the limit at NAXIS, which comes before
-- the end of the file
abbrev pub huge_cards : List (List ℕ)
huge_cards =
    card_of (codes "SIMPLE  =                    T")
    ∷ card_of (codes "BITPIX  =                   64")
    ∷ card_of (codes "NAXIS   =                    2")
    ∷ card_of (codes "NAXIS1  =           2147483647")
    ∷ card_of (codes "NAXIS2  =           2147483647")
    ∷ []

abbrev pub huge_file : List ℕ
huge_file = block_of huge_cards

abbrev pub huge_fault : Option Fault
huge_fault = Some (refusal 0 (Card 2) Limit)

-- a packed primary after a primary with pixels: ZSIMPLE is card 16
abbrev pub misplaced_file : List ℕ
misplaced_file = grid_file ++ (block_of plain_cards ++ plain_data)

abbrev pub misplaced_fault : Option Fault
misplaced_fault = Some (refusal 1 (Card 16) MisplacedPrimary)

-- the packed file of `ExtensionFile` with 2 in ZGCOUNT, which is card 22
abbrev pub groups_cards : List (List ℕ)
groups_cards = take 22 image_table_cards ++ card_of (codes "ZGCOUNT =                    2") ∷ []

abbrev pub groups_file : List ℕ
groups_file = block_of bare_cards ++ (block_of groups_cards ++ image_data)

abbrev pub groups_fault : Option Fault
groups_fault = Some (refusal 1 (Card 22) BadCard)

-- the same with a table in ZTENSION, which is card 16
abbrev pub sort_cards : List (List ℕ)
sort_cards = take 16 image_table_cards ++ card_of (codes "ZTENSION= 'TABLE   '") ∷ drop 17 image_table_cards

abbrev pub sort_file : List ℕ
sort_file = block_of bare_cards ++ (block_of sort_cards ++ image_data)

abbrev pub sort_fault : Option Fault
sort_fault = Some (refusal 1 (Card 16) BadCard)

-- the packed file of `ExtensionFile` with a row 0 that describes 9 pixels of 2 bytes in a heap of 16 bytes
abbrev pub nine_rows : List ℕ
nine_rows =
    0 ∷ 0 ∷ 0 ∷ 0 ∷ 0 ∷ 0 ∷ 0 ∷ 0 ∷ 0 ∷ 0 ∷ 0 ∷ 9 ∷ 0 ∷ 0 ∷ 0 ∷ 0
    ∷ 0 ∷ 0 ∷ 0 ∷ 0 ∷ 0 ∷ 0 ∷ 0 ∷ 0 ∷ 0 ∷ 0 ∷ 0 ∷ 4 ∷ 0 ∷ 0 ∷ 0 ∷ 8 ∷ []

abbrev pub nine_file : List ℕ
nine_file = block_of bare_cards ++ (block_of image_table_cards ++ (nine_rows ++ (row_pixels ++ (row_pixels ++ replicate 2832 0))))

abbrev pub nine_fault : Option Fault
nine_fault = Some (refusal 1 (AtRow 0) DescriptorRange)

-- the packed file of `RiceFile` with a row 0 that describes a pixel too: a row with a code is read by its code
abbrev pub both_rows : List ℕ
both_rows =
    0 ∷ 0 ∷ 0 ∷ 4 ∷ 0 ∷ 0 ∷ 0 ∷ 0 ∷ 0 ∷ 0 ∷ 0 ∷ 1 ∷ 0 ∷ 0 ∷ 0 ∷ 0
    ∷ 0 ∷ 0 ∷ 0 ∷ 4 ∷ 0 ∷ 0 ∷ 0 ∷ 4 ∷ 0 ∷ 0 ∷ 0 ∷ 0 ∷ 0 ∷ 0 ∷ 0 ∷ 0 ∷ []

abbrev pub both_file : List ℕ
both_file = block_of empty_cards ++ (block_of rice_cards ++ (both_rows ++ (rice_heap ++ replicate 2840 0)))

-- the pixels of each of its rows
abbrev pub both_pixels : List ℤ
both_pixels = pos 0 ∷ pos 1 ∷ pos 0 ∷ pos 1 ∷ []
