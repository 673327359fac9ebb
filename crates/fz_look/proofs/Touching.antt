-- What a view reads of a packed file is what `unpack` reads of it (FITS 4.0, sections 3.1, 7.3.5 and 10.1).
use Rattle.std.proofs.Common.{◌≡◌, ℕ, zero, suc, ◌+◌, ◌*◌, ◌<◌, ◌≤◌, ◌&&◌, Bool, true, false, if◌then◌else◌, List, [], ◌∷◌, ◌++◌, length, Option, Some, None, Ok, inl, inr, refl, sym, ap, ◌∙◌, subst, arith}
use Rattle.std.specs.Prelude.{is_none, min, nat_le}
use Rattle.std.specs.List.{flat_map}
use Rattle.std.proofs.lemmas.Bool.{cases_lt}
use Rattle.std.proofs.lemmas.List.{length-append}
use Rattle.fz_base.specs.Ranges.{LiesIn, LogsIn, LogsWithinLaw}
use Rattle.fz_base.specs.Refusal.{first_refusal, refusal}
use Rattle.fz_base.specs.Source.{LogsWithin}
use Rattle.fz_base.specs.declared.fault.Fault.{Fault}
use Rattle.fz_base.specs.declared.fault.Place.TheVariants.{Byte}
use Rattle.fz_base.specs.declared.kind.Kind.TheVariants.{LongHeader, Truncated}
use Rattle.fz_block.specs.Cards.{end_of}
use Rattle.fz_block.specs.Checks.{begin_checks, blocks_looked_at, blocks_to_end, hdu_at, header_blocks_of, header_room, header_touched, unless_refused}
use Rattle.fz_block.specs.Header.{data_start_of, next_start_of}
use Rattle.fz_block.specs.declared.header.Header.{Header}
use Rattle.fz_checks.specs.declared.job_checks.PackedImage.{PackedImage}
use Rattle.fz_files.specs.Packed.{tiles_in}
use Rattle.fz_files.specs.Restored.{is_image, is_packed_primary, standing}
use Rattle.fz_files.specs.Touched.{data_touched, data_range, image_ranges, touched_by}
use Rattle.fz_files.specs.declared.job.Job.TheVariants.{Unpack}
use Rattle.fz_job.specs.Images.{fetched_ranges, AreTilesOf}
use Rattle.fz_job.specs.declared.survey.Survey.{Survey}
use Rattle.fz_job.specs.Hdus.{DataAreOfHdus, HeaderIsOfHdus, KnownAreTouched, TilesAreOfImage, UnpacksWithin, ranges_of_hdus}
use Rattle.fz_job.specs.Headers.{ranges_of_headers}
use Rattle.fz_job.specs.Known.{IsKnown}
use Rattle.fz_look.specs.Here.{IsPlaced, here_of}
use Rattle.fz_look.specs.declared.here.Here.{Here}
use Rattle.fz_look.proofs.Hands.{copied_here, header_same, here, image_here, seen}
use Rattle.fz_look.proofs.Knowing.{begins_there, it}

-- ---- an HDU that stands for something is one of all

standing_by : (b : Bool) (j k : Header) (hs front : List Header) (h : Header) (back : List Header) → (if b then k ∷ hs else j ∷ k ∷ hs) ≡ front ++ h ∷ back → (before : List Header) × (j ∷ k ∷ hs ≡ before ++ h ∷ back)
standing_by true j k hs front h back parts = (j ∷ front, ap (λ (l : List Header). j ∷ l) parts)
standing_by false j k hs front h back parts = (front, parts)

pub standing_in : (g : List ℕ) (hs front : List Header) (h : Header) (back : List Header) → standing g hs ≡ front ++ h ∷ back → (before : List Header) × (hs ≡ before ++ h ∷ back)
standing_in g [] front h back parts = absurd (omega (arith, ap length parts, length-append front (h ∷ back)))
standing_in g (j ∷ []) front h back parts = (front, parts)
standing_in g (j ∷ k ∷ hs) front h back parts = standing_by (is_packed_primary g k) j k hs front h back parts

-- ---- a header is read as far as it goes

looked_at : (checks : List (Bool × Fault)) (end : Option ℕ) (x : Bool) (one two : Fault) (blocks : ℕ) →
    unless_refused (blocks_to_end end) (first_refusal (checks ++ ((is_none end && x, one) ∷ (is_none end, two) ∷ []))) ≡ Ok blocks → blocks_looked_at (first_refusal checks) end ≡ blocks
looked_at [] None true one two blocks is = absurd cc
looked_at [] None false one two blocks is = absurd cc
looked_at [] (Some i) x one two blocks is = cc
looked_at ((true, fault) ∷ checks) end x one two blocks is = absurd cc
looked_at ((false, fault) ∷ checks) end x one two blocks is = looked_at checks end x one two blocks is

header_ends : (k start : ℕ) (g : List ℕ) (h : Header) → header_blocks_of k start g ≡ Ok h.blocks → h.start ≡ start → next_start_of h ≤ length g → header_touched k start g ≡ data_start_of h
unfolding header_blocks_of header_touched
header_ends k start g h found begin within =
    let blocks : blocks_looked_at (first_refusal (begin_checks k start g)) (end_of (header_room start g)) ≡ h.blocks = looked_at (begin_checks k start g) (end_of (header_room start g)) (nat_le (start + 737280) (length g)) (refusal k (Byte start) LongHeader) (refusal k (Byte (length g)) Truncated) h.blocks found in
    ap (λ n. min (length g) (start + 2880 * n)) blocks ∙ omega (arith, within, begin)

-- ---- ranges

lies_left : (xs ys : List (ℕ × ℕ)) (byte : ℕ) → LiesIn xs byte → LiesIn (xs ++ ys) byte
lies_left [] ys byte is = absurd is
lies_left (x ∷ xs) ys byte (inl here) = inl here
lies_left (x ∷ xs) ys byte (inr later) = inr (lies_left xs ys byte later)

lies_right : (xs ys : List (ℕ × ℕ)) (byte : ℕ) → LiesIn ys byte → LiesIn (xs ++ ys) byte
lies_right [] ys byte is = is
lies_right (x ∷ xs) ys byte is = inr (lies_right xs ys byte is)

header_lies : (g : List ℕ) (before : List Header) (h : Header) (after : List Header) (byte : ℕ) → h.start ≤ byte → byte < header_touched h.hdu h.start g → LiesIn (ranges_of_headers g (before ++ h ∷ after)) byte
header_lies g [] h after byte low high = inl (low, omega (arith, low, high))
header_lies g (b ∷ before) h after byte low high = inr (header_lies g before h after byte low high)

data_lies : (g : List ℕ) (before : List Header) (h : Header) (after : List Header) (byte : ℕ) → LiesIn (data_touched Unpack g h) byte → LiesIn (flat_map (data_touched Unpack g) (before ++ h ∷ after)) byte
data_lies g [] h after byte is = lies_left (data_touched Unpack g h) (flat_map (data_touched Unpack g) after) byte is
data_lies g (b ∷ before) h after byte is = lies_right (data_touched Unpack g b) (flat_map (data_touched Unpack g) (before ++ h ∷ after)) byte (data_lies g before h after byte is)

copy_lies : (g : List ℕ) (h : Header) (b : Bool) (byte : ℕ) → is_image g h ≡ b → b ≡ false → data_start_of h ≤ byte → byte < next_start_of h → LiesIn (data_touched Unpack g h) byte
copy_lies g h b byte is none low high =
    subst (λ (c : Bool). LiesIn (if c then image_ranges g h else data_range h ∷ []) byte) (sym (is ∙ none)) (inl (low, omega (arith, low, high)))

-- ---- reads

module _ (g : List ℕ) (s : Survey) (known : IsKnown Unpack g s) (touches : KnownAreTouched Unpack) where
  -- those of one of all HDUs are those of the job
  of_job : (front : List Header) (h : Header) (back : List Header) (old new : Option (List (ℕ × ℕ))) → standing g known.headers ≡ front ++ h ∷ back →
      ((before : List Header) → LogsIn (ranges_of_hdus Unpack g (before ++ h ∷ back)) old new) → LogsIn (touched_by Unpack g) old new
  of_job front h back old new parts logs =
      let all = standing_in g known.headers front h back parts in
      let same : ranges_of_hdus Unpack g (all.0 ++ h ∷ back) ≡ touched_by Unpack g = ap (ranges_of_hdus Unpack g) (sym all.1) ∙ sym (touches g s known) in
      subst (λ (r : List (ℕ × ℕ)). LogsIn r old new) same (logs all.0)

  pub header_logs : HeaderIsOfHdus Unpack → (k start at : ℕ) (flag : Bool) (old new : Option (List (ℕ × ℕ))) → IsPlaced g k start flag at → LogsWithin start (header_touched k start g) old new → LogsIn (touched_by Unpack g) old new
  header_logs law k start at flag old new p read =
      let j = it g s known k start at flag p in
      let begin : j.header.start ≡ start = begins_there g s known k start at flag p in
      of_job j.front j.header j.back old new j.parts (λ before.
      law g before j.back j.header old new
      (subst (λ n. LogsWithin j.header.start (header_touched n j.header.start g) old new) (sym j.number)
      (subst (λ m. LogsWithin m (header_touched k m g) old new) (sym begin) read)))

  module _ (h : Here) (found : here_of g h.read.header.hdu ≡ Some h) where
    pub copy_logs : LogsWithinLaw → ((k start : ℕ) (file : List ℕ) (h : Header) → hdu_at k start file ≡ Ok h → header_blocks_of k start file ≡ Ok h.blocks) → (old new : Option (List (ℕ × ℕ))) →
        h.read.image ≡ None → LogsWithin h.read.header.start (next_start_of h.read.header) old new → LogsIn (touched_by Unpack g) old new
    copy_logs within blocks old new none read =
        let among = here g s known h found in
        let was = (seen g s known h found).seen in
        let same : among.header ≡ h.read.header = header_same g s known h found in
        let ends_in : next_start_of among.header ≤ length g = (seen g s known h found).within in
        let copied : is_image g among.header ≡ false = subst (λ (e : Header). is_image g e ≡ false) (sym same) (copied_here g s known h found none) in
        let last : header_touched among.header.hdu among.header.start g ≡ data_start_of among.header =
        header_ends among.header.hdu among.header.start g among.header (blocks among.header.hdu among.header.start g among.header was.found) refl ends_in in
        of_job among.front among.header among.back old new among.parts (λ before.
        within among.header.start (next_start_of among.header) (ranges_of_hdus Unpack g (before ++ among.header ∷ among.back)) old new
        (λ byte low high. lies before among.header among.back byte low high last copied)
        (subst (λ (e : Header). LogsWithin e.start (next_start_of e) old new) (sym same) read))
      where
        lies : (before : List Header) (e : Header) (back : List Header) (byte : ℕ) → e.start ≤ byte → byte < next_start_of e → header_touched e.hdu e.start g ≡ data_start_of e → is_image g e ≡ false →
            LiesIn (ranges_of_hdus Unpack g (before ++ e ∷ back)) byte
        lies before e back byte low high last copied = elim (cases_lt byte (data_start_of e)) [
          | inl below ↦ lies_left (ranges_of_headers g (before ++ e ∷ back)) (flat_map (data_touched Unpack g) (before ++ e ∷ back)) byte (header_lies g before e back byte low (omega (arith, below, last)))
          | inr above ↦ lies_right (ranges_of_headers g (before ++ e ∷ back)) (flat_map (data_touched Unpack g) (before ++ e ∷ back)) byte (data_lies g before e back byte (copy_lies g e (is_image g e) byte refl copied above high))
        ]

    pub tile_logs : TilesAreOfImage → UnpacksWithin → DataAreOfHdus Unpack → (i : PackedImage) (t : ℕ) (old new : Option (List (ℕ × ℕ))) → h.read.image ≡ Some i → t < tiles_in i.plan →
        LogsIn (fetched_ranges g h.read.header (t ∷ [])) old new → LogsIn (touched_by Unpack g) old new
    tile_logs tiles unpacks hdus i t old new some low read =
        let among = here g s known h found in
        let same : among.header ≡ h.read.header = header_same g s known h found in
        let said = image_here g s known h found i some in
        let rows : LogsIn (image_ranges g h.read.header) old new = tiles g h.read.header i (t ∷ []) old new said.0 (one_tile i t low) read in
        let payload : LogsIn (data_touched Unpack g among.header) old new =
        subst (λ (e : Header). LogsIn (data_touched Unpack g e) old new) (sym same) (unpacks.rows g h.read.header old new said.1 rows) in
        of_job among.front among.header among.back old new among.parts (λ before. hdus g before among.back among.header old new payload)
      where
        one_tile : (i : PackedImage) (t : ℕ) → t < tiles_in i.plan → AreTilesOf i (t ∷ [])
        one_tile i t low zero within = low
        one_tile i t low (suc n) within = absurd (omega (arith, within))
