-- What is read of the HDUs of a file: headers, fill and data (FITS 4.0, sections 3.1 and 3.3).
use Rattle.std.proofs.Common.{◌≡◌, ℕ, zero, suc, ◌+◌, ◌-◌, ◌<◌, ◌≤◌, ◌==◌, Bool, true, false, if◌then◌else◌, List, [], ◌∷◌, ◌++◌, append-nil, length, map, inl, inr, ◌⊎◌, refl, sym, ap, ◌∙◌, subst, arith}
use Rattle.std.specs.Prelude.{Option, Some, None, IfSome, Result, Ok, Err, slice_index_or}
use Rattle.std.specs.List.{flat_map}
use Rattle.std.specs.Option.{option_map}
use Rattle.fz_base.specs.Ranges.{LiesIn, LogsIn, LogsJoinLaw, LogsWithinLaw}
use Rattle.fz_base.specs.Source.{LogsOnly, LogsWithin}
use Rattle.fz_base.specs.declared.fault.Fault.{Fault}
use Rattle.fz_block.specs.Checks.{Judge, hdu_at, header_touched}
use Rattle.fz_block.specs.Facts.{IsHeaderOf}
use Rattle.fz_block.specs.Header.{data_start_of, next_start_of}
use Rattle.fz_block.specs.Takings.{for_those_after, where_going_on}
use Rattle.fz_block.specs.Walk.{hdu_of}
use Rattle.fz_block.specs.declared.header.Header.{Header}
use Rattle.fz_checks.specs.JobChecks.{data_end_of}
use Rattle.fz_checks.specs.Judges.{pack_judge}
use Rattle.fz_head.specs.Packable.{is_packable}
use Rattle.fz_head.specs.declared.options.PackOptions.{PackOptions}
use Rattle.fz_files.specs.Cutout.{header_range}
use Rattle.fz_files.specs.Laws.{ReachedAreFound, place_of}
use Rattle.fz_files.specs.Reads.{header_ranges}
use Rattle.fz_files.specs.Walks.{Reached, header_fault, headers_for, reached_after, reached_behind, reached_by, reached_from}
use Rattle.fz_files.specs.declared.job.Job.TheVariants.{Pack}
use Rattle.fz_job.specs.SurveyReads.{IsWithinOne}
use Rattle.fz_job.specs.Surveys.{fill_places_in, hdu_places, places_from, survey_places}
use Rattle.fz_job.specs.declared.checks.JobChecks.TheVariants.{Pack as PackChecks}
use Rattle.fz_job.specs.declared.survey.Survey.{Survey}
use Rattle.fz_pack.specs.Again.{ReadsAsSeen, WereSeen}
use Rattle.fz_pack.specs.Behind.{AreWritten, IsUnderway}
use Rattle.fz_pack.specs.Known.{IsKnown, SurveysKnow}
use Rattle.fz_pack.specs.Reads.{HdusAreTouched, LooksAreTouched, ReadsHdus, ranges_of_hdus}
use Rattle.fz_files.specs.Touched.{all_data_touched, data_touched, fill_of, fill_ranges, hdus_touched, touched_by}
use Rattle.fz_pack.specs.declared.again.Again.{Again}
use Rattle.fz_pack.proofs.Finished.{Knows}
use Rattle.fz_pack.proofs.Known.{reached_is, same_judge}

-- ---- reads within ranges

same_ranges : (old : Option (List (ℕ × ℕ))) → old ≡ option_map (λ rs. rs ++ []) old
same_ranges None = refl
same_ranges (Some rs) = ap Some (sym (append-nil rs))

-- nothing was read
nothing : (ranges : List (ℕ × ℕ)) (old : Option (List (ℕ × ℕ))) → LogsIn ranges old old
nothing ranges old = ([], (λ k d few. absurd (omega (arith, few))), same_ranges old)

pub unread : (held : Option (List ℕ)) (ranges : List ℕ → List (ℕ × ℕ)) (old : Option (List (ℕ × ℕ))) → IfSome held (λ g. LogsIn (ranges g) old old)
unread None ranges old = tt
unread (Some g) ranges old = nothing (ranges g) old

lies_before : (front back : List (ℕ × ℕ)) (byte : ℕ) → LiesIn front byte → LiesIn (front ++ back) byte
lies_before [] back byte is = absurd is
lies_before ((start, count) ∷ front) back byte (inl is) = inl is
lies_before ((start, count) ∷ front) back byte (inr is) = inr (lies_before front back byte is)

lies_behind : (front back : List (ℕ × ℕ)) (byte : ℕ) → LiesIn back byte → LiesIn (front ++ back) byte
lies_behind [] back byte is = is
lies_behind ((start, count) ∷ front) back byte is = inr (lies_behind front back byte is)

-- ---- what the first look reads

-- the places of the header of an HDU, and of the fill
looked : PackOptions → List ℕ → Reached → List (ℕ × ℕ)
looked o file r = (r.start, header_touched r.hdu r.start file) ∷ fill_places_in (PackChecks o) (hdu_at r.hdu r.start file)

module _ (o : PackOptions) (file : List ℕ) where
  abbrev J : Judge
  J = pack_judge o file

  abbrev later_places : ℕ → ℕ → Header → List (ℕ × ℕ)
  later_places more k h = places_from (PackChecks o) more (suc k) (next_start_of h) file

  abbrev later_reached : ℕ → ℕ → Header → List Reached
  later_reached more k h = reached_from J more (suc k) (next_start_of h) file

  module _ (more k start : ℕ) (later : (h : Header) → later_places more k h ≡ flat_map (looked o file) (later_reached more k h)) where
    going_by : (h : Header) (last : Bool) → (if last then [] else later_places more k h) ≡ flat_map (looked o file) (if last then [] else later_reached more k h)
    going_by h true = refl
    going_by h false = later h

    going_on : (h : Header) (r : Result Bool Fault) → where_going_on file h (later_places more k h) r ≡ flat_map (looked o file) (reached_behind file h (later_reached more k h) r)
    going_on h (Err x) = refl
    going_on h (Ok true) = refl
    going_on h (Ok false) = going_by h (next_start_of h == length file)

    going_at : (r : Result Header Fault) → for_those_after file J (later_places more k) r ≡ flat_map (looked o file) (reached_after file J (later_reached more k) r)
    going_at (Err x) = refl
    going_at (Ok h) = going_on h (J h)

  -- the places are those of the HDUs that the job comes to
  places_are : (more k start : ℕ) → places_from (PackChecks o) more k start file ≡ flat_map (looked o file) (reached_from J more k start file)
  unfolding places_from reached_from looked
  places_are zero k start = refl
  places_are (suc more) k start =
      let rest = going_at more k start (λ h. places_are more (suc k) (next_start_of h)) (hdu_at k start file) in
      (λ i. hdu_places (PackChecks o) k start file ++ for_those_after file (same_judge o file i) (λ h. places_from (PackChecks o) more (suc k) (next_start_of h) file) (hdu_at k start file))
      ∙ ap (λ l. hdu_places (PackChecks o) k start file ++ l) rest

-- a byte between two of these places lies in one of the ranges
abbrev ReadIn : List (ℕ × ℕ) → ℕ → Type 0
ReadIn [] byte = ⊥
ReadIn ((from, to) ∷ places) byte = ((from ≤ byte) × (byte < to)) ⊎ ReadIn places byte

read_in : (places : List (ℕ × ℕ)) (k : ℕ) (p : ℕ × ℕ) (byte : ℕ) → k < length places → slice_index_or places k p ≡ p → p.0 ≤ byte → byte < p.1 → ReadIn places byte
read_in [] k p byte few here from to = absurd (omega (arith, few))
read_in ((x, y) ∷ places) zero p byte few here from to =
    let first : x ≡ p.0 = ap (λ (q : ℕ × ℕ). q.0) here in
    let end : y ≡ p.1 = ap (λ (q : ℕ × ℕ). q.1) here in
    inl (omega (arith, first, from), omega (arith, end, to))
read_in ((x, y) ∷ places) (suc k) p byte few here from to = inr (read_in places k p byte (omega (arith, few)) here from to)

fill_by : (b : Bool) (from to : ℕ) (rest : List (ℕ × ℕ)) (byte : ℕ) → ReadIn ((if b then (from, to) ∷ [] else []) ++ rest) byte → LiesIn (if b then (from, to - from) ∷ [] else []) byte ⊎ ReadIn rest byte
fill_by true from to rest byte (inl is) = inl (inl (is.0, omega (arith, is.0, is.1)))
fill_by true from to rest byte (inr is) = inr is
fill_by false from to rest byte is = inr is

module _ (o : PackOptions) (file : List ℕ) (byte : ℕ) where
  fill_step : (r : Result Header Fault) (rest : List (ℕ × ℕ)) → ReadIn (fill_places_in (PackChecks o) r ++ rest) byte → LiesIn (fill_of r) byte ⊎ ReadIn rest byte
  fill_step (Err x) rest is = inr is
  fill_step (Ok h) rest is = fill_by (is_packable h) (data_end_of h) (next_start_of h) rest byte is

  abbrev Looked : List Reached → Type 0
  Looked rs = LiesIn (flat_map (fill_ranges file) rs) byte ⊎ LiesIn (map (header_range file) rs) byte

  behind_looked : (r : Reached) (rs : List Reached) → Looked rs → Looked (r ∷ rs)
  behind_looked r rs (inl there) = inl (lies_behind (fill_ranges file r) (flat_map (fill_ranges file) rs) byte there)
  behind_looked r rs (inr there) = inr (inr there)

  next_looked : (r : Reached) (rs : List Reached) → LiesIn (fill_ranges file r) byte ⊎ ReadIn (flat_map (looked o file) rs) byte → (ReadIn (flat_map (looked o file) rs) byte → Looked rs) → Looked (r ∷ rs)
  next_looked r rs (inl there) rest = inl (lies_before (fill_ranges file r) (flat_map (fill_ranges file) rs) byte there)
  next_looked r rs (inr there) rest = behind_looked r rs (rest there)

  looked_lies : (rs : List Reached) → ReadIn (flat_map (looked o file) rs) byte → Looked rs
  unfolding looked
  looked_lies [] is = absurd is
  looked_lies (r ∷ rs) (inl is) = inr (inl (is.0, omega (arith, is.0, is.1)))
  looked_lies (r ∷ rs) (inr is) = next_looked r rs (fill_step (hdu_at r.hdu r.start file) (flat_map (looked o file) rs) is) (λ there. looked_lies rs there)

  abbrev Fills : List Reached → List (ℕ × ℕ)
  Fills rs = flat_map (fill_ranges file) rs

  abbrev Rest : List (ℕ × ℕ)
  Rest = all_data_touched (header_fault (Pack o) file) (Pack o) file

  in_touched : (rs : List Reached) → LiesIn (Fills rs) byte ⊎ LiesIn (map (header_range file) rs) byte → LiesIn (Fills rs ++ (map (header_range file) rs ++ Rest)) byte
  in_touched rs (inl there) = lies_before (Fills rs) (map (header_range file) rs ++ Rest) byte there
  in_touched rs (inr there) = lies_behind (Fills rs) (map (header_range file) rs ++ Rest) byte (lies_before (map (header_range file) rs) Rest byte there)

pub look_touched : LooksAreTouched
look_touched o file range within byte from to =
    let rs : List Reached = reached_from (pack_judge o file) 65535 0 0 file in
    let one : IsWithinOne (flat_map (looked o file) rs) range = subst (λ ps. IsWithinOne ps range) (places_are o file 65535 0 0) within in
    subst (λ (l : List Reached). LiesIn (flat_map (fill_ranges file) l ++ (map (header_range file) l ++ all_data_touched (header_fault (Pack o) file) (Pack o) file)) byte) (sym (reached_is o file))
    (in_touched o file byte rs (looked_lies o file byte rs (read_in (flat_map (looked o file) rs) one.1.0 one.0 byte one.1.1 one.1.2 (omega (arith, one.2, from)) (omega (arith, one.2, to)))))

-- ---- the HDUs that it saw

all_data : (o : PackOptions) (file : List ℕ) (hs : List Header) → header_fault (Pack o) file ≡ None → headers_for (Pack o) file ≡ hs → all_data_touched (header_fault (Pack o) file) (Pack o) file ≡ flat_map (data_touched (Pack o) file) hs
unfolding all_data_touched
all_data o file hs sound are = ap (λ (f : Option Fault). all_data_touched f (Pack o) file) sound ∙ ap (flat_map (data_touched (Pack o) file)) are

pub hdus_are : ReachedAreFound → HdusAreTouched
hdus_are found o file s known =
    let front : header_ranges (Pack o) file ≡ map (header_range file) (map place_of known.headers) = ap (map (header_range file)) (found (Pack o) file known.no_fault ∙ ap (map place_of) known.are) in
    let back : all_data_touched (header_fault (Pack o) file) (Pack o) file ≡ flat_map (data_touched (Pack o) file) known.headers = all_data o file known.headers known.no_fault known.are in
    λ i. front i ++ back i

-- ---- one of the HDUs

header_lies : (file : List ℕ) (before after : List Header) (h : Header) (byte : ℕ) → h.start ≤ byte → byte < header_touched h.hdu h.start file → LiesIn (map (header_range file) (map place_of (before ++ h ∷ after))) byte
header_lies file [] after h byte from to = inl (from, omega (arith, from, to))
header_lies file (j ∷ before) after h byte from to = inr (header_lies file before after h byte from to)

data_lie : (o : PackOptions) (file : List ℕ) (before after : List Header) (h : Header) (byte : ℕ) → data_start_of h ≤ byte → byte < next_start_of h → LiesIn (flat_map (data_touched (Pack o) file) (before ++ h ∷ after)) byte
data_lie o file [] after h byte from to = inl (from, omega (arith, from, to))
data_lie o file (j ∷ before) after h byte from to = inr (data_lie o file before after h byte from to)

-- what the law says of headers
abbrev FactsLaw : Type 0
FactsLaw = (k start : ℕ) (file : List ℕ) (h : Header) → hdu_at k start file ≡ Ok h → (h.hdu ≡ k) × (h.start ≡ start) × IsHeaderOf (hdu_of file h).header h

module _ (within : LogsWithinLaw) (o : PackOptions) (file : List ℕ) (before after : List Header) (h : Header) (old new : Option (List (ℕ × ℕ))) where
  one_header_read : (k start : ℕ) → h.hdu ≡ k → h.start ≡ start → LogsWithin start (header_touched k start file) old new → LogsIn (ranges_of_hdus o file (before ++ h ∷ after)) old new
  one_header_read k start number place reads =
      let end : header_touched h.hdu h.start file ≡ header_touched k start file = λ i. header_touched (number i) (place i) file in
      within start (header_touched k start file) (ranges_of_hdus o file (before ++ h ∷ after)) old new
      (λ byte from to. lies_before (map (header_range file) (map place_of (before ++ h ∷ after))) (flat_map (data_touched (Pack o) file) (before ++ h ∷ after)) byte
      (header_lies file before after h byte (omega (arith, from, place)) (omega (arith, to, end)))) reads

  one_data_read : LogsWithin (data_start_of h) (next_start_of h) old new → LogsIn (ranges_of_hdus o file (before ++ h ∷ after)) old new
  one_data_read reads =
      within (data_start_of h) (next_start_of h) (ranges_of_hdus o file (before ++ h ∷ after)) old new
      (λ byte from to. lies_behind (map (header_range file) (map place_of (before ++ h ∷ after))) (flat_map (data_touched (Pack o) file) (before ++ h ∷ after)) byte
      (data_lie o file before after h byte from to)) reads

-- ---- one HDU after another

module _ (o : PackOptions) (s : Survey) (old : Option (List (ℕ × ℕ))) where
  -- nothing is read before the first
  pub no_hdu : (held : Option (List ℕ)) → IfSome held (λ g. ReadsHdus o g s old old)
  no_hdu None = tt
  no_hdu (Some g) = λ hs list. nothing (ranges_of_hdus o g hs) old

  module _ (within : LogsWithinLaw) (join : LogsJoinLaw) (k start at : ℕ) (before now : Option (List ℕ)) (few : k < s.hdus) (mid new : Option (List (ℕ × ℕ))) where
    -- the header of the next one
    next_header : FactsLaw → (g : List ℕ) (hs : List Header) (w : AreWritten o g s.header_len s.tile hs k start at before now) (rest : List Header) → w.rest ≡ rest → k < length hs →
        LogsWithin start (header_touched k start g) mid new → LogsIn (ranges_of_hdus o g hs) mid new
    next_header facts g hs w [] is little one =
        let none : hs ≡ w.done = w.parts ∙ ap (λ l. w.done ++ l) is ∙ append-nil w.done in
        absurd (omega (arith, w.count, ap length none, little))
    next_header facts g hs w (h ∷ rest) is little one =
        let seen : WereSeen o g s.header_len s.tile k start (h ∷ rest) = subst (λ l. WereSeen o g s.header_len s.tile k start l) is w.seen in
        let parts : hs ≡ w.done ++ h ∷ rest = w.parts ∙ ap (λ l. w.done ++ l) is in
        let those = facts k start g h seen.0.found in
        subst (λ (l : List Header). LogsIn (ranges_of_hdus o g l) mid new) (sym parts) (one_header_read within o g w.done rest h mid new k start those.0 those.1 one)

    pub one_header : FactsLaw → (held : Option (List ℕ)) → IfSome held (IsUnderway o s.header_len s.tile s.hdus k start at before now) → IfSome held (λ g. LogsWithin start (header_touched k start g) mid new) →
        IfSome held (λ g. ReadsHdus o g s old mid) → IfSome held (λ g. ReadsHdus o g s old new)
    one_header facts None was one reads = tt
    one_header facts (Some g) was one reads = λ hs list.
        let w = was hs list.seen list.count in
        join (ranges_of_hdus o g hs) old mid new (reads hs list) (next_header facts g hs w w.rest refl (omega (arith, few, list.count)) one)

    -- and its data
    next_data : (g : List ℕ) (hs : List Header) (a : Again) (w : AreWritten o g s.header_len s.tile hs k start at before now) (rest : List Header) → w.rest ≡ rest → k < length hs →
        ReadsAsSeen o g k start s.header_len s.tile (Ok a) → LogsWithin (data_start_of a.header) (next_start_of a.header) mid new → LogsIn (ranges_of_hdus o g hs) mid new
    next_data g hs a w [] is little again one =
        let none : hs ≡ w.done = w.parts ∙ ap (λ l. w.done ++ l) is ∙ append-nil w.done in
        absurd (omega (arith, w.count, ap length none, little))
    next_data g hs a w (h ∷ rest) is little again one =
        let seen : WereSeen o g s.header_len s.tile k start (h ∷ rest) = subst (λ l. WereSeen o g s.header_len s.tile k start l) is w.seen in
        let parts : hs ≡ w.done ++ h ∷ rest = w.parts ∙ ap (λ l. w.done ++ l) is in
        let same : a.header ≡ h = (again h seen.0).1 in
        subst (λ (l : List Header). LogsIn (ranges_of_hdus o g l) mid new) (sym parts)
        (one_data_read within o g w.done rest h mid new (subst (λ (j : Header). LogsWithin (data_start_of j) (next_start_of j) mid new) same one))

    pub one_hdu : (held : Option (List ℕ)) (a : Again) → IfSome held (IsUnderway o s.header_len s.tile s.hdus k start at before now) → IfSome held (λ g. ReadsAsSeen o g k start s.header_len s.tile (Ok a)) →
        LogsWithin (data_start_of a.header) (next_start_of a.header) mid new → IfSome held (λ g. ReadsHdus o g s old mid) → IfSome held (λ g. ReadsHdus o g s old new)
    one_hdu None a was again one reads = tt
    one_hdu (Some g) a was again one reads = λ hs list.
        let w = was hs list.seen list.count in
        join (ranges_of_hdus o g hs) old mid new (reads hs list) (next_data g hs a w w.rest refl (omega (arith, few, list.count)) again one)

-- ---- the first look, and what follows it

module _ (o : PackOptions) (held : Option (List ℕ)) (old mid new : Option (List (ℕ × ℕ))) where
  pub look_read : LooksAreTouched → IfSome held (λ g. LogsOnly (IsWithinOne (survey_places (PackChecks o) g)) old mid) → IfSome held (λ g. LogsIn (touched_by (Pack o) g) old mid)
  look_read look reads = by_held held reads
    where
      by_held : (told : Option (List ℕ)) → IfSome told (λ g. LogsOnly (IsWithinOne (survey_places (PackChecks o) g)) old mid) → IfSome told (λ g. LogsIn (touched_by (Pack o) g) old mid)
      by_held None reads = tt
      by_held (Some g) reads = (reads.0, (λ k d few byte from to. look o g _ (reads.1 k d few) byte from to), reads.2)

  pub all_read : LogsJoinLaw → SurveysKnow → HdusAreTouched → (s : Survey) → IfSome held (Knows o s) → IfSome held (λ g. LogsIn (touched_by (Pack o) g) old mid) → IfSome held (λ g. ReadsHdus o g s mid new) →
      IfSome held (λ g. LogsIn (touched_by (Pack o) g) old new)
  all_read join know are s knows first next = by_held held knows first next
    where
      by_held : (told : Option (List ℕ)) → IfSome told (Knows o s) → IfSome told (λ g. LogsIn (touched_by (Pack o) g) old mid) → IfSome told (λ g. ReadsHdus o g s mid new) → IfSome told (λ g. LogsIn (touched_by (Pack o) g) old new)
      by_held None knows first next = tt
      by_held (Some g) knows first next =
          let known : IsKnown o g s = know o g s knows in
          let hdus : LogsIn (hdus_touched (Pack o) g) mid new = subst (λ rs. LogsIn rs mid new) (sym (are o g s known)) (next known.headers known.seen) in
          let rest : LogsIn (touched_by (Pack o) g) mid new =
          (hdus.0, (λ k d few byte from to. lies_behind (flat_map (fill_ranges g) (reached_by (Pack o) g)) (hdus_touched (Pack o) g) byte (hdus.1 k d few byte from to)), hdus.2) in
          join (touched_by (Pack o) g) old mid new first rest
