-- Files with faults, written out by hand: one of the image's own cards, and one after its HDU (FITS 4.0, sections 3.1, 3.6 and 10.1.2).
use Rattle.std.specs.Prelude.{ℕ, List, [], ◌∷◌, ◌++◌, codes, replicate, Option, Some}
use Rattle.fz_base.specs.Refusal.{refusal}
use Rattle.fz_base.specs.declared.fault.Fault.{Fault}
use Rattle.fz_base.specs.declared.fault.Place.TheVariants.{Byte, Card, Row as AtRow}
use Rattle.fz_base.specs.declared.kind.Kind.TheVariants.{DescriptorRange, Reserved, TrailingBytes}
use Rattle.fz_files.specs.HandMade.{card_of, block_of, empty_cards}
use Rattle.fz_files.specs.PlainFile.{plain_cards, plain_heap}
use Rattle.fz_files.specs.RiceFile.{small_cards, small_hdu}

-- bytes that are no HDU
abbrev pub ten_zeros : List ℕ
ten_zeros = replicate 10 0

-- the small file, and bytes after it
abbrev pub trailing_file : List ℕ
trailing_file = small_hdu.header ++ (small_hdu.payload ++ ten_zeros)

-- the same with a sixth card, whose name is kept for packed images
abbrev pub reserved_cards : List (List ℕ)
reserved_cards = small_cards ++ card_of (codes "ZTILE1  =                    1") ∷ []

abbrev pub reserved_file : List ℕ
reserved_file = block_of reserved_cards ++ (small_hdu.payload ++ ten_zeros)

-- the fault of the card, which is card 5 of HDU 0
abbrev pub reserved_fault : Option Fault
reserved_fault = Some (refusal 0 (Card 5) Reserved)

-- the fault of the bytes, from which HDU 1 would begin
abbrev pub trailing_fault : Option Fault
trailing_fault = Some (refusal 1 (Byte 5760) TrailingBytes)

-- the rows of the packed file of `PlainFile`, but those of tiles 3 and 5 describe 16 pixels each, which end after the heap
abbrev pub past_rows : List ℕ
past_rows =
    0 ∷ 0 ∷ 0 ∷ 0 ∷ 0 ∷ 0 ∷ 0 ∷ 0 ∷ 0 ∷ 0 ∷ 0 ∷ 4 ∷ 0 ∷ 0 ∷ 0 ∷ 0
    ∷ 0 ∷ 0 ∷ 0 ∷ 0 ∷ 0 ∷ 0 ∷ 0 ∷ 0 ∷ 0 ∷ 0 ∷ 0 ∷ 4 ∷ 0 ∷ 0 ∷ 0 ∷ 4
    ∷ 0 ∷ 0 ∷ 0 ∷ 0 ∷ 0 ∷ 0 ∷ 0 ∷ 0 ∷ 0 ∷ 0 ∷ 0 ∷ 2 ∷ 0 ∷ 0 ∷ 0 ∷ 8
    ∷ 0 ∷ 0 ∷ 0 ∷ 0 ∷ 0 ∷ 0 ∷ 0 ∷ 0 ∷ 0 ∷ 0 ∷ 0 ∷ 16 ∷ 0 ∷ 0 ∷ 0 ∷ 10
    ∷ 0 ∷ 0 ∷ 0 ∷ 0 ∷ 0 ∷ 0 ∷ 0 ∷ 0 ∷ 0 ∷ 0 ∷ 0 ∷ 2 ∷ 0 ∷ 0 ∷ 0 ∷ 12
    ∷ 0 ∷ 0 ∷ 0 ∷ 0 ∷ 0 ∷ 0 ∷ 0 ∷ 0 ∷ 0 ∷ 0 ∷ 0 ∷ 16 ∷ 0 ∷ 0 ∷ 0 ∷ 14 ∷ []

abbrev pub past_file : List ℕ
past_file = block_of empty_cards ++ (block_of plain_cards ++ (past_rows ++ (plain_heap ++ replicate 2769 0)))

-- the fault of the lower of both rows
abbrev pub past_fault : Option Fault
past_fault = Some (refusal 1 (AtRow 3) DescriptorRange)
