-- The checks of a patch that come before any row is looked at, in their order: the checks of every job for every HDU of the file; those of
-- a packed image for the HDU that is wanted; that it is the last and has the form of one that can be patched; the axes of the place; the
-- image that is given; and its box (FITS 4.0, sections 3.3.2, 4.4.1, 7.3 and 10.1).
use Rattle.std.specs.Prelude.{ℕ, ◌==◌, ◌&&◌, not, nat_le, Bool, true, false, List, [], ◌∷◌, ◌++◌, length, codes, Option, Result, Ok, Err, if◌then◌else◌}
use Rattle.std.specs.List.{flat_map, list_all, range_with_len}
use Rattle.std.specs.Ordering.{int_eq}
use Rattle.fz_base.specs.Refusal.{refusal, first_refusal}
use Rattle.fz_base.specs.declared.fault.Fault.{Fault}
use Rattle.fz_base.specs.declared.fault.Place.TheVariants.{Byte, Card}
use Rattle.fz_base.specs.declared.kind.Kind.TheVariants.{BadPatch, OutOfBox, Unpatchable}
use Rattle.fz_block.specs.Checks.{Judge, headers_of, unless_refused, walk_of}
use Rattle.fz_block.specs.Hdus.{cards_of}
use Rattle.fz_block.specs.Header.{next_start_of}
use Rattle.fz_block.specs.Walk.{hdu_of, stops}
use Rattle.fz_block.specs.declared.header.Header.{Header}
use Rattle.fz_grid.specs.Region.{lengths_of}
use Rattle.fz_checks.specs.JobChecks.{axis_inside, image_checks, is_after_empty, missing_hdu, packed_card_checks}
use Rattle.fz_checks.specs.Judges.{is_wanted}
use Rattle.fz_head.specs.PackedChecks.{at_word}
use Rattle.fz_head.specs.PlainHeader.{axis_count}
use Rattle.fz_head.specs.declared.plan.Plan.{Plan}
use Rattle.fz_files.specs.Restored.{header_in, plan_in}
use Rattle.fz_laws.specs.PatchForm.{has_form}
use Rattle.fz_laws.specs.Given.{PatchJob, box_region, given_by, given_header}

-- ---- the packed image

-- the checks of the header of the HDU that is wanted, which may be that after an empty primary: those of a cut, without its box
abbrev pub find_checks : Header → List ℕ → Bool → List (Bool × Fault)
find_checks h header after_empty = packed_card_checks h header ++ image_checks h header after_empty

abbrev pub find_hdu_checks : List ℕ → Header → List (Bool × Fault)
find_hdu_checks file h = find_checks h (hdu_of file h).header (is_after_empty file h)

-- what is said of an HDU while the wanted one is looked for
abbrev pub find_judge : Option ℕ → List ℕ → Judge
find_judge wanted file h =
    if is_wanted wanted (hdu_of file h).header h then unless_refused true (first_refusal (find_hdu_checks file h)) else Ok false

-- the last of some headers; this fault if there is none
abbrev pub last_or : Fault → List Header → Result Header Fault
last_or fault [] = Err fault
last_or fault (h ∷ []) = Ok h
last_or fault (h ∷ k ∷ hs) = last_or fault (k ∷ hs)

-- the header of the wanted HDU, at which the search stops; or the file ends before it
abbrev pub wanted_among : Option ℕ → List ℕ → Result (List Header) Fault → Result Header Fault
wanted_among wanted file (Err fault) = Err fault
wanted_among wanted file (Ok hs) =
    let missing = missing_hdu wanted (length hs) (length file) in
    if stops (find_judge wanted file) hs then last_or missing hs else Err missing

abbrev pub wanted_image : Option ℕ → List ℕ → Result Header Fault
wanted_image wanted file = wanted_among wanted file (walk_of (find_judge wanted file) 65536 file)

-- ---- whether it can be patched, and by what is given

-- it is the last HDU of the file: what is written grows to the file's end
abbrev pub last_check : List ℕ → Header → Bool × Fault
last_check file h = (not (next_start_of h == length file), refusal h.hdu (Byte (next_start_of h)) Unpatchable)

-- its table has the form of one that can be patched
abbrev pub form_check : List ℕ → Header → Bool × Fault
form_check file h = (not (has_form (header_in file h) h (plan_in file h)), refusal h.hdu (Card 0) Unpatchable)

-- the place of the first pixel has as many axes as the image
abbrev pub corner_check : List ℕ → Header → PatchJob → Bool × Fault
corner_check file h job =
    let cards = cards_of (header_in file h) in
    (not (length job.corner == axis_count cards), at_word h.hdu (codes "ZNAXIS") cards OutOfBox)

-- an image with this header may be put into one with this plan: it has pixels of the same bits, as many axes, and a pixel along each
abbrev pub may_be_given : Plan → Result Header Fault → Bool
may_be_given p (Err fault) = false
may_be_given p (Ok q) = int_eq q.bitpix p.bitpix && (q.axes.n == p.shape.n && list_all (nat_le 1) (lengths_of q.axes))

abbrev pub given_check : List ℕ → List ℕ → Header → Bool × Fault
given_check file patch h = (not (may_be_given (plan_in file h) (given_header patch)), refusal 0 (Byte 0) BadPatch)

-- along each axis the box ends within the image
abbrev pub inside_checks : List ℕ → List ℕ → Header → PatchJob → List (Bool × Fault)
inside_checks file patch h job =
    let cards = cards_of (header_in file h) in
    flat_map (λ i. axis_inside h.hdu cards (box_region (given_by patch job)) i ∷ []) (range_with_len 0 (axis_count cards))

-- the checks before the given image is looked at, and all
abbrev pub own_checks : List ℕ → Header → PatchJob → List (Bool × Fault)
own_checks file h job = last_check file h ∷ form_check file h ∷ corner_check file h job ∷ []

abbrev pub target_checks : List ℕ → List ℕ → Header → PatchJob → List (Bool × Fault)
target_checks file patch h job = own_checks file h job ++ (given_check file patch h ∷ inside_checks file patch h job)

-- ---- all of them

abbrev pub if_patchable : List ℕ → List ℕ → PatchJob → Result Header Fault → Result Header Fault
if_patchable file patch job (Err fault) = Err fault
if_patchable file patch job (Ok h) = unless_refused h (first_refusal (target_checks file patch h job))

abbrev pub if_all_pass : {A : Type 0} → Result (List Header) Fault → Result A Fault → Result A Fault
if_all_pass (Err fault) next = Err fault
if_all_pass (Ok hs) next = next

-- the header of the packed image that is patched, or the fault of the first check that refuses
unfoldable pub patch_target : List ℕ → List ℕ → PatchJob → Result Header Fault
patch_target file patch job = if_all_pass (headers_of 65536 file) (if_patchable file patch job (wanted_image job.wanted file))
