-- What is read of one HDU that is compared lies in what `verify` reads of the file (FITS 4.0, sections 3.1, 7.3.5 and 10.1).
use Rattle.std.proofs.Common.{◌≡◌, ℕ, suc, ◌+◌, ◌-◌, ◌*◌, ◌<◌, ◌≤◌, ◌⊎◌, ◌&&◌, Bool, true, false, List, [], ◌∷◌, ◌++◌, append-nil, length, inl, inr, refl, sym, ap, ◌∙◌, subst, arith}
use Rattle.std.specs.Prelude.{Option, Some, None, IfSome, Ok, is_none, nat_le, if◌then◌else◌}
use Rattle.std.specs.List.{flat_map}
use Rattle.std.specs.Option.{option_map}
use Rattle.std.proofs.lemmas.Bool.{cases_lt}
use Rattle.fz_base.specs.Ranges.{LiesIn, LogsIn, LogsJoinLaw, LogsWithinLaw}
use Rattle.fz_base.specs.Refusal.{first_refusal, refusal}
use Rattle.fz_base.specs.Source.{LogsWithin}
use Rattle.fz_base.specs.declared.fault.Fault.{Fault}
use Rattle.fz_base.specs.declared.fault.Place.TheVariants.{Byte}
use Rattle.fz_base.specs.declared.kind.Kind.TheVariants.{LongHeader, Truncated}
use Rattle.fz_block.specs.Cards.{end_of}
use Rattle.fz_block.specs.Checks.{begin_checks, blocks_looked_at, blocks_to_end, hdu_at, header_blocks_of, header_room, header_touched, unless_refused}
use Rattle.fz_block.specs.Header.{data_start_of, next_start_of}
use Rattle.fz_block.specs.declared.header.Header.{Header}
use Rattle.fz_checks.specs.declared.job_checks.PackedImage.{PackedImage}
use Rattle.fz_files.specs.Touched.{data_range, data_touched, image_ranges, packed_ranges}
use Rattle.fz_files.specs.Restored.{is_image}
use Rattle.fz_files.specs.declared.job.Job.TheVariants.{Verify}
use Rattle.fz_job.specs.declared.survey.Survey.{Survey}
use Rattle.fz_job.specs.Again.{IsAgain, ReadsAsSeen, WasSeen, WereSeen}
use Rattle.fz_job.specs.Hdus.{HeaderIsOfHdus, ranges_of_hdus}
use Rattle.fz_job.specs.Headers.{ranges_of_headers}
use Rattle.fz_job.specs.Known.{IsList}
use Rattle.fz_job.specs.declared.again.ReadHdu.{ReadHdu}
use Rattle.fz_compare.specs.Reads.{hdu_ranges, table_ranges}
use Rattle.fz_strict.proofs.Parts.{IsPart, next, next_seen, read_same}
use Rattle.fz_strict.proofs.Said.{image_said}

-- ---- in some ranges

-- nothing was read
same_ranges : (old : Option (List (ℕ × ℕ))) → old ≡ option_map (λ rs. rs ++ []) old
same_ranges None = refl
same_ranges (Some rs) = ap Some (sym (append-nil rs))

pub nothing : (ranges : List (ℕ × ℕ)) (old : Option (List (ℕ × ℕ))) → LogsIn ranges old old
nothing ranges old = ([], (λ k d few. absurd (omega (arith, few))), same_ranges old)

pub unread : (held : Option (List ℕ)) (ranges : List ℕ → List (ℕ × ℕ)) (old : Option (List (ℕ × ℕ))) → IfSome held (λ g. LogsIn (ranges g) old old)
unread None ranges old = tt
unread (Some g) ranges old = nothing (ranges g) old

-- what is read one after another, where the source tells its bytes
pub join_told : LogsJoinLaw → (held : Option (List ℕ)) (ranges : List ℕ → List (ℕ × ℕ)) (old mid new : Option (List (ℕ × ℕ))) → IfSome held (λ g. LogsIn (ranges g) old mid) → IfSome held (λ g. LogsIn (ranges g) mid new) →
    IfSome held (λ g. LogsIn (ranges g) old new)
join_told join None ranges old mid new first later = tt
join_told join (Some g) ranges old mid new first later = join (ranges g) old mid new first later

pub wider : (ranges more : List (ℕ × ℕ)) (old new : Option (List (ℕ × ℕ))) → ((byte : ℕ) → LiesIn ranges byte → LiesIn more byte) → LogsIn ranges old new → LogsIn more old new
wider ranges more old new inside reads = (reads.0, (λ k d few byte from to. inside byte (reads.1 k d few byte from to)), reads.2)

pub lies_before : (front back : List (ℕ × ℕ)) (byte : ℕ) → LiesIn front byte → LiesIn (front ++ back) byte
lies_before [] back byte is = absurd is
lies_before ((start, count) ∷ front) back byte (inl is) = inl is
lies_before ((start, count) ∷ front) back byte (inr is) = inr (lies_before front back byte is)

lies_behind : (front back : List (ℕ × ℕ)) (byte : ℕ) → LiesIn back byte → LiesIn (front ++ back) byte
lies_behind [] back byte is = is
lies_behind ((start, count) ∷ front) back byte is = inr (lies_behind front back byte is)

-- ---- a packed image

-- bytes of the file up to its end
pub bytes_read : LogsWithinLaw → (held : Option (List ℕ)) (h : Header) (end : ℕ) (old new : Option (List (ℕ × ℕ))) → end ≡ next_start_of h → LogsWithin 0 end old new → IfSome held (λ g. LogsIn (table_ranges g h) old new)
bytes_read within None h end old new is reads = tt
bytes_read within (Some g) h end old new is reads = within 0 end (table_ranges g h) old new (λ byte from to. inl (from, omega (arith, to, is))) reads

-- an HDU with an image is packed
packed_lies : (g : List ℕ) (h : Header) (b : Bool) (byte : ℕ) → b ≡ true → LiesIn (table_ranges g h) byte → LiesIn ((0, next_start_of h) ∷ (if b then image_ranges g h else [])) byte
packed_lies g h true byte is there = there
packed_lies g h false byte is there = absurd cc

pub image_read : (held : Option (List ℕ)) (n : ℕ) (buf : List ℕ) (a : ReadHdu) → IsAgain held n buf a → (i : PackedImage) → a.image ≡ Some i → (old new : Option (List (ℕ × ℕ))) → IfSome held (λ g. LogsIn (table_ranges g a.header) old new) →
    IfSome held (λ g. LogsIn (hdu_ranges g a.header) old new)
image_read None n buf a w i is old new reads = tt
image_read (Some g) n buf a w i is old new reads =
    wider (table_ranges g a.header) (hdu_ranges g a.header) old new (λ byte there. packed_lies g a.header (is_image g a.header) byte (image_said (Some g) n buf a w i g refl is).0 there) reads

-- ---- the headers of a file without a fault, and its data, are all of it

-- the blocks of the header of an HDU in a file are those that the search finds
abbrev pub FindsBlocks : Type 0
FindsBlocks = (k start : ℕ) (file : List ℕ) (h : Header) → hdu_at k start file ≡ Ok h → header_blocks_of k start file ≡ Ok h.blocks

-- these are the blocks that are looked at
looked_at : (checks : List (Bool × Fault)) (end : Option ℕ) (x : Bool) (one two : Fault) (blocks : ℕ) →
    unless_refused (blocks_to_end end) (first_refusal (checks ++ ((is_none end && x, one) ∷ (is_none end, two) ∷ []))) ≡ Ok blocks → blocks_looked_at (first_refusal checks) end ≡ blocks
looked_at [] None true one two blocks is = absurd cc
looked_at [] None false one two blocks is = absurd cc
looked_at [] (Some i) x one two blocks is = cc
looked_at ((true, fault) ∷ checks) end x one two blocks is = absurd cc
looked_at ((false, fault) ∷ checks) end x one two blocks is = looked_at checks end x one two blocks is

header_ends : (k start : ℕ) (g : List ℕ) (blocks : ℕ) → header_blocks_of k start g ≡ Ok blocks → start + 2880 * blocks ≤ length g → start + 2880 * blocks ≤ header_touched k start g
unfolding header_blocks_of header_touched
header_ends k start g blocks found within =
    let same : blocks_looked_at (first_refusal (begin_checks k start g)) (end_of (header_room start g)) ≡ blocks =
    looked_at (begin_checks k start g) (end_of (header_room start g)) (nat_le (start + 737280) (length g)) (refusal k (Byte start) LongHeader) (refusal k (Byte (length g)) Truncated) blocks found in
    omega (arith, same, within)

module _ (find : FindsBlocks) (file : List ℕ) (header_len tile : ℕ) where
  -- HDUs one after another end with the file
  pub ends_within : (k start : ℕ) (hs : List Header) → WereSeen file header_len tile k start hs → start ≤ length file
  ends_within k start [] seen = omega (arith, seen)
  ends_within k start (h ∷ hs) seen = let later = ends_within (suc k) (next_start_of h) hs seen.1 in omega (arith, seen.0.place, later)

  header_whole : (k start : ℕ) (h : Header) → WasSeen file k start header_len tile h → next_start_of h ≤ length file → data_start_of h ≤ header_touched h.hdu h.start file
  header_whole k start h seen within =
      let found : hdu_at h.hdu h.start file ≡ Ok h = (λ i. hdu_at (seen.number i) (seen.place i) file) ∙ seen.found in
      header_ends h.hdu h.start file h.blocks (find h.hdu h.start file h found) (omega (arith, within))

  -- a byte is one of a header, or of data
  abbrev Covers : List Header → ℕ → Type 0
  Covers hs byte = LiesIn (ranges_of_headers file hs) byte ⊎ LiesIn (flat_map (data_touched Verify file) hs) byte

  one_later : (h : Header) (hs : List Header) (byte : ℕ) → Covers hs byte → Covers (h ∷ hs) byte
  one_later h hs byte (inl is) = inl (inr is)
  one_later h hs byte (inr is) = inr (lies_behind (data_touched Verify file h) (flat_map (data_touched Verify file) hs) byte is)

  by_place : (h : Header) (hs : List Header) (byte : ℕ) → data_start_of h ≤ header_touched h.hdu h.start file → h.start ≤ byte → (byte < data_start_of h) ⊎ (data_start_of h ≤ byte) → (byte < next_start_of h) ⊎ (next_start_of h ≤ byte) →
      (next_start_of h ≤ byte → Covers hs byte) → Covers (h ∷ hs) byte
  by_place h hs byte whole low (inl header) end rest = inl (inl (low, omega (arith, low, header, whole)))
  by_place h hs byte whole low (inr from) (inl to) rest =
      inr (lies_before (data_touched Verify file h) (flat_map (data_touched Verify file) hs) byte (lies_behind (packed_ranges file h) (data_range h ∷ []) byte (inl (from, omega (arith, from, to)))))
  by_place h hs byte whole low (inr from) (inr past) rest = one_later h hs byte (rest past)

  covers : (k start : ℕ) (hs : List Header) → WereSeen file header_len tile k start hs → (byte : ℕ) → start ≤ byte → byte < length file → Covers hs byte
  covers k start [] seen byte low high = absurd (omega (arith, seen, low, high))
  covers k start (h ∷ hs) seen byte low high =
      by_place h hs byte (header_whole k start h seen.0 (ends_within (suc k) (next_start_of h) hs seen.1)) (omega (arith, seen.0.place, low)) (cases_lt byte (data_start_of h)) (cases_lt byte (next_start_of h))
      (λ past. covers (suc k) (next_start_of h) hs seen.1 byte past high)

  in_both : (hs : List Header) (byte : ℕ) → Covers hs byte → LiesIn (ranges_of_hdus Verify file hs) byte
  in_both hs byte (inl is) = lies_before (ranges_of_headers file hs) (flat_map (data_touched Verify file) hs) byte is
  in_both hs byte (inr is) = lies_behind (ranges_of_headers file hs) (flat_map (data_touched Verify file) hs) byte is

  pub whole_file : (hs : List Header) → WereSeen file header_len tile 0 0 hs → (byte : ℕ) → byte < length file → LiesIn (ranges_of_hdus Verify file hs) byte
  whole_file hs seen byte high = in_both hs byte (covers 0 0 hs seen byte (omega arith) high)

-- ---- one of the HDUs

rows_lie : (file : List ℕ) (before after : List Header) (h : Header) (byte : ℕ) → LiesIn (packed_ranges file h) byte → LiesIn (flat_map (data_touched Verify file) (before ++ h ∷ after)) byte
rows_lie file [] after h byte is = lies_before (data_touched Verify file h) (flat_map (data_touched Verify file) after) byte (lies_before (packed_ranges file h) (data_range h ∷ []) byte is)
rows_lie file (j ∷ before) after h byte is = lies_behind (data_touched Verify file j) (flat_map (data_touched Verify file) (before ++ h ∷ after)) byte (rows_lie file before after h byte is)

module _ (g : List ℕ) (s : Survey) (hs done : List Header) (k start : ℕ) (flag : Bool) (p : IsPart g s hs done k start flag) (few : k < length hs) where
  parts_here : hs ≡ done ++ (next g s hs done k start flag p few).0 ∷ (next g s hs done k start flag p few).1.0
  parts_here = p.parts ∙ ap (λ l. done ++ l) (next g s hs done k start flag p few).1.1

  -- its header
  pub header_part : HeaderIsOfHdus Verify → (old new : Option (List (ℕ × ℕ))) → LogsWithin start (header_touched k start g) old new → LogsIn (ranges_of_hdus Verify g hs) old new
  header_part law old new reads =
      let more = next g s hs done k start flag p few in
      let seen : WasSeen g k start s.header_len s.tile more.0 = (next_seen g s hs done k start flag p few).0 in
      let there : LogsWithin more.0.start (header_touched more.0.hdu more.0.start g) old new =
      subst (λ n. LogsWithin more.0.start (header_touched n more.0.start g) old new) (sym seen.number) (subst (λ n. LogsWithin n (header_touched k n g) old new) (sym seen.place) reads) in
      subst (λ (l : List Header). LogsIn (ranges_of_hdus Verify g l) old new) (sym parts_here) (law g done more.1.0 more.0 old new there)

  -- what is compared of it
  pub hdu_part : FindsBlocks → IsList g s hs → (a : ReadHdu) → ReadsAsSeen g k start flag s.header_len s.tile (Ok a) → (old new : Option (List (ℕ × ℕ))) → LogsIn (hdu_ranges g a.header) old new → LogsIn (ranges_of_hdus Verify g hs) old new
  hdu_part find list a again old new reads = wider (hdu_ranges g a.header) (ranges_of_hdus Verify g hs) old new (λ byte is. lies byte is) reads
    where
      lies : (byte : ℕ) → LiesIn (hdu_ranges g a.header) byte → LiesIn (ranges_of_hdus Verify g hs) byte
      lies byte (inl is) =
          let more = next g s hs done k start flag p few in
          let within : next_start_of more.0 ≤ length g = ends_within find g s.header_len s.tile (suc k) (next_start_of more.0) more.1.0 (next_seen g s hs done k start flag p few).1 in
          let same : next_start_of a.header ≡ next_start_of more.0 = ap next_start_of (read_same g s hs done k start flag p few a again) in
          whole_file find g s.header_len s.tile hs list.seen byte (omega (arith, is.1, same, within))
      lies byte (inr is) =
          let more = next g s hs done k start flag p few in
          let there : LiesIn (packed_ranges g more.0) byte = subst (λ (h : Header). LiesIn (packed_ranges g h) byte) (read_same g s hs done k start flag p few a again) is in
          let among : LiesIn (flat_map (data_touched Verify g) hs) byte = subst (λ (l : List Header). LiesIn (flat_map (data_touched Verify g) l) byte) (sym parts_here) (rows_lie g done more.1.0 more.0 byte there) in
          lies_behind (ranges_of_headers g hs) (flat_map (data_touched Verify g) hs) byte among
