-- What a cut of a packed file finds and makes, by the file that was packed; so the options that it was packed with do not matter (FITS
-- 4.0, sections 3.3.2, 4.4.1.1 and 10.1).
use Rattle.std.specs.Prelude.{ℕ, ◌≡◌, ◌↔◌, ◌==◌, ◌+◌, ◌-◌, ◌<◌, ◌&&◌, not, nat_lt, true, List, [], ◌∷◌, ◌++◌, length, take}
use Rattle.std.specs.Prelude.{drop, map, codes, slice_index, unsigned_abs, Option, Some, None, unwrap_or, Bool, if◌then◌else◌}
use Rattle.std.specs.List.{filter, find, list_all, range_with_len}
use Rattle.std.specs.Option.{option_map}
use Rattle.fz_base.specs.declared.fault.Fault.{Fault}
use Rattle.fz_base.specs.declared.kind.Kind.{Kind}
use Rattle.fz_base.specs.declared.kind.Kind.TheVariants.{NotPacked, OutOfBox}
use Rattle.fz_card.specs.Layout.{card_name}
use Rattle.fz_card.specs.Naming.{is_in_some}
use Rattle.fz_block.specs.Checks.{headers_of}
use Rattle.fz_block.specs.Hdus.{Hdu, cards_of, header_bytes}
use Rattle.fz_block.specs.Walk.{hdu_of}
use Rattle.fz_block.specs.declared.header.Header.{Header}
use Rattle.fz_grid.specs.Arrays.{NumberArray, product}
use Rattle.fz_grid.specs.Region.{lengths_of}
use Rattle.fz_grid.specs.declared.region.Region.{Region}
use Rattle.fz_grid.specs.declared.sieve.Sieve.{Sieve}
use Rattle.fz_grid.specs.Cutout.{picked_numbers}
use Rattle.fz_tile.specs.Plain.{plain_bytes, stored_pixels}
use Rattle.fz_head.specs.Packable.{is_packable, is_primary}
use Rattle.fz_head.specs.PackedHeader.{flag_card, numbered_number_card}
use Rattle.fz_head.specs.PlainHeader.{whole_names}
use Rattle.fz_head.specs.declared.options.PackOptions.{PackOptions}
use Rattle.fz_files.specs.CutoutBytes.{IsCutout, moved_card, picked_region}
use Rattle.fz_files.specs.FirstFault.{IsFirstFault}
use Rattle.fz_files.specs.Packed.{zero_filled}
use Rattle.fz_files.specs.Picks.{HasNinePlaces, HasPicks}
use Rattle.fz_files.specs.Walks.{box_of, found_headers}
use Rattle.fz_files.specs.declared.job.Job.TheVariants.{Cut}
use Rattle.fz_laws.specs.RoundTrip.{IsPacked}

-- ---- the HDU that is asked for

-- the headers of all HDUs of a file that `pack` takes, which are at most 65,535
abbrev pub hdus_in : List ℕ → List Header
hdus_in file = found_headers (headers_of 65535 file)

-- by how much the numbers of HDUs rise when a file with these is packed: an empty primary is put before a packed primary
abbrev pub rise_of : List Header → ℕ
rise_of [] = 0
rise_of (h ∷ hs) = if is_packable h then 1 else 0

-- whether a cut of the packed file asks for this HDU: for the HDU of a number there, or for the first packed one
abbrev pub is_asked : Option ℕ → ℕ → Header → Bool
is_asked None by h = is_packable h
is_asked (Some k) by h = h.hdu + by == k

-- the HDU of the file that it asks for
abbrev pub asked_hdu : Option ℕ → List Header → Option Header
asked_hdu wanted hs = find (is_asked wanted (rise_of hs)) hs

-- ---- why a cut is refused

-- a box has axes of these lengths, and ends within each
abbrev pub box_is_inside : Region → List ℕ → Bool
box_is_inside box lengths =
    box.n == length lengths
    && list_all (λ i. not (nat_lt (slice_index lengths i) (slice_index box.lo i + slice_index box.len i))) (range_with_len 0 (length lengths))

-- the HDU that a fault is in, and its kind
abbrev pub reason_of : Fault → ℕ × Kind
reason_of x = (x.hdu, x.kind)

-- why a cut by a box is refused of an HDU that has this number in the packed file
abbrev pub reason_at : ℕ → Region → Header → Option (ℕ × Kind)
reason_at k box h = if is_packable h then (if box_is_inside box (lengths_of h.axes) then None else Some (k, OutOfBox)) else Some (k, NotPacked)

-- and of a file that has the HDU that is asked for, or has not
abbrev pub reason_for : Option ℕ → Region → List Header → Option Header → Option (ℕ × Kind)
reason_for wanted box hs None = Some (unwrap_or wanted (length hs + rise_of hs), NotPacked)
reason_for wanted box hs (Some h) = reason_at (h.hdu + rise_of hs) box h

-- why a cut of the packed file is refused, by the file that was packed; none if it is not
abbrev pub cut_refusal : Option ℕ → Sieve → List ℕ → Option (ℕ × Kind)
cut_refusal wanted sieve file = reason_for wanted (box_of sieve) (hdus_in file) (asked_hdu wanted (hdus_in file))

-- the first fault of a cut of a packed file is in this HDU and of this kind
abbrev pub CutsAreRefused : Type 0
CutsAreRefused =
    (o : PackOptions) (file bytes : List ℕ) (wanted : Option ℕ) (sieve : Sieve) (found : Option Fault) → IsPacked o file bytes →
    IsFirstFault (Cut wanted sieve) bytes found →
    option_map reason_of found ≡ cut_refusal wanted sieve file

-- there is none exactly if the file says none
abbrev pub CutsAreSound : Type 0
CutsAreSound =
    (o : PackOptions) (file bytes : List ℕ) (wanted : Option ℕ) (sieve : Sieve) → IsPacked o file bytes
    → IsFirstFault (Cut wanted sieve) bytes None ↔ (cut_refusal wanted sieve file ≡ None)

-- so it does not depend on the options but for its place
abbrev pub FaultsAreAlike : Type 0
FaultsAreAlike =
    (o p : PackOptions) (file bytes others : List ℕ) (wanted : Option ℕ) (sieve : Sieve) (found other : Option Fault) →
    IsPacked o file bytes → IsPacked p file others →
    IsFirstFault (Cut wanted sieve) bytes found → IsFirstFault (Cut wanted sieve) others other → option_map reason_of found ≡ option_map reason_of other

-- ---- what is cut

-- the cards of the primary image that holds a region of an image with these cards and so many axes: those of the image, with the
-- lengths of the region, but for those that speak of the whole image or its file
abbrev pub region_cards : Bool → ℕ → List (List ℕ) → Region → List (List ℕ)
region_cards primary n cards region =
    (if primary then take 1 cards else flag_card (codes "SIMPLE") ∷ [])
    ++ (take 2 (drop 1 cards)
    ++ (map (λ i. numbered_number_card (codes "NAXIS") i (slice_index region.len (i - 1))) (range_with_len 1 region.n)
    ++ filter (λ card. not (is_in_some whole_names (card_name card))) (drop (3 + n) cards)))

-- the array of an image with this header and these data
abbrev pub stored_array : Header → List ℕ → NumberArray
stored_array h payload = record { lengths = lengths_of h.axes; numbers = stored_pixels (unsigned_abs h.bitpix) (product (lengths_of h.axes)) payload }

-- the cards of the picks of an image: those of the region, with the reference pixels that the cut moves
abbrev pub picked_cards : Sieve → Header → Hdu → List (List ℕ)
picked_cards sieve h d = map (moved_card sieve) (region_cards (is_primary h.sort) h.axes.n (cards_of d.header) (picked_region sieve))

-- the file of the picks of an image: these cards, and the bytes of its pixels at the picks
abbrev pub picked_part : Sieve → Header → Hdu → List ℕ
picked_part sieve h d =
    header_bytes (picked_cards sieve h d)
    ++ zero_filled (plain_bytes (unsigned_abs h.bitpix) (picked_numbers (stored_array h d.payload) sieve))

-- The bytes are the picks of the image of a file that a cut of its packed file asks for.
pub record IsPickedPart (wanted : Option ℕ) (sieve : Sieve) (file part : List ℕ) : Type 0 where
  pub image : Header
  pub asked : asked_hdu wanted (hdus_in file) ≡ Some image
  pub packable : is_packable image ≡ true
  pub made : part ≡ picked_part sieve image (hdu_of file image)

-- a cutout of a packed file is a part of the file that was packed
abbrev pub CutoutsAreParts : Type 0
CutoutsAreParts =
    (o : PackOptions) (file bytes : List ℕ) (wanted : Option ℕ) (sieve : Sieve) (part : List ℕ) → IsPacked o file bytes → HasNinePlaces sieve → HasPicks sieve →
    IsCutout wanted sieve bytes part → IsPickedPart wanted sieve file part

-- and such a part is the cutout, if no cut is refused
abbrev pub PartsAreCutouts : Type 0
PartsAreCutouts =
    (o : PackOptions) (file bytes : List ℕ) (wanted : Option ℕ) (sieve : Sieve) (part : List ℕ) → IsPacked o file bytes → HasNinePlaces sieve → HasPicks sieve →
    cut_refusal wanted sieve file ≡ None → IsPickedPart wanted sieve file part → IsCutout wanted sieve bytes part

-- A sieve picks every pixel of an image.
pub record PicksAll (sieve : Sieve) (h : Header) : Type 0 where
  pub axes : sieve.n ≡ h.axes.n
  pub los : (i : ℕ) → i < sieve.n → slice_index sieve.lo i ≡ 0
  pub his : (i : ℕ) → i < sieve.n → slice_index sieve.hi i + 1 ≡ slice_index h.axes.len i
  pub steps : (i : ℕ) → i < sieve.n → slice_index sieve.step i ≡ 1

-- a cutout of all its pixels has all its data
abbrev pub WholeCutoutsHaveAll : Type 0
WholeCutoutsHaveAll =
    (o : PackOptions) (file bytes : List ℕ) (wanted : Option ℕ) (sieve : Sieve) (part : List ℕ) (image : Header) → IsPacked o file bytes →
    HasNinePlaces sieve → HasPicks sieve →
    IsCutout wanted sieve bytes part → asked_hdu wanted (hdus_in file) ≡ Some image → PicksAll sieve image →
    part ≡ header_bytes (picked_cards sieve image (hdu_of file image)) ++ (hdu_of file image).payload

-- and no cutout depends on the options
abbrev pub CutoutsAreAlike : Type 0
CutoutsAreAlike =
    (o p : PackOptions) (file bytes others : List ℕ) (wanted : Option ℕ) (sieve : Sieve) (part other : List ℕ) → IsPacked o file bytes →
    IsPacked p file others →
    HasNinePlaces sieve → HasPicks sieve → IsCutout wanted sieve bytes part → IsCutout wanted sieve others other → part ≡ other
