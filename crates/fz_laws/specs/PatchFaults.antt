-- Patches with a fault, written out by hand, over the packed file of `PlainFile` and others: which of several faults is the first, and where
-- (FITS 4.0, sections 3.1, 4.4.1, 7.3.1, 7.3.5 and 10.1.1).
use Rattle.std.specs.Prelude.{ℕ, [], ◌∷◌, Option, Some, None}
use Rattle.fz_base.specs.Refusal.{refusal}
use Rattle.fz_base.specs.declared.fault.Fault.{Fault}
use Rattle.fz_base.specs.declared.fault.Place.TheVariants.{Byte, Card, Row as AtRow}
use Rattle.fz_base.specs.declared.kind.Kind.TheVariants.{BadPatch, DescriptorRange, NotPacked, OutOfBox, TrailingBytes, Unpatchable}
use Rattle.fz_laws.specs.Given.{PatchJob}

-- the box ends one column after the last, which is 5: refused at ZNAXIS1, card 19
abbrev pub past_axis_job : PatchJob
past_axis_job = record { wanted = None; corner = 3 ∷ 1 ∷ [] }

abbrev pub past_axis_fault : Option Fault
past_axis_fault = Some (refusal 1 (Card 19) OutOfBox)

-- one axis for an image of two: refused at ZNAXIS, card 18, before the given image is looked at
abbrev pub axis_job : PatchJob
axis_job = record { wanted = None; corner = 1 ∷ [] }

abbrev pub axis_fault : Option Fault
axis_fault = Some (refusal 1 (Card 18) OutOfBox)

-- the given file is the packed one itself, which begins with a primary without data: no image of 8 bits and two axes
abbrev pub given_fault : Option Fault
given_fault = Some (refusal 0 (Byte 0) BadPatch)

-- an image follows the table, so the heap cannot grow: refused where it begins
abbrev pub follower_fault : Option Fault
follower_fault = Some (refusal 1 (Byte 8640) Unpatchable)

-- ten bytes follow it that are no HDU: refused before anything is said of HDU 1
abbrev pub no_hdu_fault : Option Fault
no_hdu_fault = Some (refusal 2 (Byte 8640) TrailingBytes)

-- the table has one column
abbrev pub form_fault : Option Fault
form_fault = Some (refusal 1 (Card 0) Unpatchable)

-- the file has no packed image: HDU 1 would begin at its end
abbrev pub no_image_fault : Option Fault
no_image_fault = Some (refusal 1 (Byte 5760) NotPacked)

-- rows 3 and 5 describe bytes after the heap: the box has tile 3
abbrev pub row_fault : Option Fault
row_fault = Some (refusal 1 (AtRow 3) DescriptorRange)
