-- What is read of the HDUs of a file: headers, rows and data (FITS 4.0, sections 3.1, 7.3.5 and 10.1).
use Rattle.std.proofs.Common.{◌≡◌, ℕ, ◌<◌, Bool, true, false, if◌then◌else◌, List, [], ◌∷◌, ◌++◌, append-nil, length, inl, inr, refl, sym, ap, ◌∙◌, subst, arith}
use Rattle.std.specs.Prelude.{Option, Some, None, IfSome, Ok}
use Rattle.std.specs.Option.{option_map}
use Rattle.fz_base.specs.Ranges.{LiesIn, LogsIn, LogsJoinLaw}
use Rattle.fz_base.specs.Source.{LogsOnly, LogsWithin}
use Rattle.fz_block.specs.Checks.{header_touched}
use Rattle.fz_block.specs.Header.{data_start_of, next_start_of}
use Rattle.fz_block.specs.declared.header.Header.{Header}
use Rattle.fz_checks.specs.declared.job_checks.PackedImage.{PackedImage}
use Rattle.fz_files.specs.Reads.{header_ranges}
use Rattle.fz_files.specs.Restored.{is_packed_primary, standing}
use Rattle.fz_files.specs.Walks.{header_fault}
use Rattle.fz_files.specs.declared.job.Job.TheVariants.{Unpack}
use Rattle.fz_job.specs.Images.{fetched_ranges, AreTilesOf, IsSaid}
use Rattle.fz_job.specs.SurveyReads.{IsWithinOne}
use Rattle.fz_job.specs.Surveys.{survey_places}
use Rattle.fz_job.specs.declared.checks.JobChecks.TheVariants.{Unpack as UnpackChecks}
use Rattle.fz_job.specs.declared.survey.Survey.{Survey}
use Rattle.fz_job.specs.Again.{IsAgain, ReadsAsSeen, WasSeen, WereSeen}
use Rattle.fz_job.specs.Hdus.{DataAreOfHdus, HeaderIsOfHdus, KnownAreTouched, ReadsHdus, TilesAreOfImage, UnpacksWithin, ranges_of_hdus}
use Rattle.fz_job.specs.Headers.{LooksReadHeaders}
use Rattle.fz_job.specs.Known.{IsKnown, SurveysKnow}
use Rattle.fz_files.specs.Touched.{all_data_touched, data_touched, image_ranges, touched_by}
use Rattle.fz_job.specs.declared.again.ReadHdu.{ReadHdu}
use Rattle.fz_unpack.specs.Behind.{AreWritten, IsUnderway, SaysBehind}
use Rattle.fz_unpack.proofs.Finished.{Knows}
use Rattle.fz_unpack.proofs.Images.{packed_again, stays}

-- ---- reads within ranges

-- nothing was read
same_ranges : (old : Option (List (ℕ × ℕ))) → old ≡ option_map (λ rs. rs ++ []) old
same_ranges None = refl
same_ranges (Some rs) = ap Some (sym (append-nil rs))

nothing : (ranges : List (ℕ × ℕ)) (old : Option (List (ℕ × ℕ))) → LogsIn ranges old old
nothing ranges old = ([], (λ k d few. absurd (omega (arith, few))), same_ranges old)

pub unread : (held : Option (List ℕ)) (ranges : List ℕ → List (ℕ × ℕ)) (old : Option (List (ℕ × ℕ))) → IfSome held (λ g. LogsIn (ranges g) old old)
unread None ranges old = tt
unread (Some g) ranges old = nothing (ranges g) old

-- what is read one after another, where the source tells its bytes
pub join_told : LogsJoinLaw → (held : Option (List ℕ)) (ranges : List ℕ → List (ℕ × ℕ)) (old mid new : Option (List (ℕ × ℕ))) → IfSome held (λ g. LogsIn (ranges g) old mid) → IfSome held (λ g. LogsIn (ranges g) mid new) →
    IfSome held (λ g. LogsIn (ranges g) old new)
join_told join None ranges old mid new first next = tt
join_told join (Some g) ranges old mid new first next = join (ranges g) old mid new first next

-- ---- one HDU

pub round_read : TilesAreOfImage → (held : Option (List ℕ)) (h : Header) (image : PackedImage) (tiles : List ℕ) (old new : Option (List (ℕ × ℕ))) → IfSome held (λ g. IsSaid g h image) → AreTilesOf image tiles →
    IfSome held (λ g. LogsIn (fetched_ranges g h tiles) old new) → IfSome held (λ g. LogsIn (image_ranges g h) old new)
round_read law None h image tiles old new said are reads = tt
round_read law (Some g) h image tiles old new said are reads = law g h image tiles old new said are reads

pub rows_read : UnpacksWithin → (held : Option (List ℕ)) (n : ℕ) (buf : List ℕ) (h : Header) (i : PackedImage) → IsAgain held n buf (record { header = h; image = Some i }) → (old new : Option (List (ℕ × ℕ))) →
    IfSome held (λ g. LogsIn (image_ranges g h) old new) → IfSome held (λ g. LogsIn (data_touched Unpack g h) old new)
rows_read law None n buf h i w old new reads = tt
rows_read law (Some g) n buf h i w old new reads = law.rows g h old new (packed_again (Some g) n buf h i w) reads

pub copy_read : UnpacksWithin → (held : Option (List ℕ)) (n : ℕ) (buf : List ℕ) (a : ReadHdu) → IsAgain held n buf a → a.image ≡ None → (old new : Option (List (ℕ × ℕ))) →
    LogsWithin (data_start_of a.header) (next_start_of a.header) old new → IfSome held (λ g. LogsIn (data_touched Unpack g a.header) old new)
copy_read law None n buf a w none old new reads = tt
copy_read law (Some g) n buf a w none old new reads = law.rest g a.header old new (stays (Some g) n buf a w g refl none) reads

-- ---- the header of one

-- the header of one of some HDUs, of which number and place are known
header_there : HeaderIsOfHdus Unpack → (g : List ℕ) (header_len tile k start : ℕ) (before after : List Header) (h : Header) (old new : Option (List (ℕ × ℕ))) → WasSeen g k start header_len tile h →
    LogsWithin start (header_touched k start g) old new → LogsIn (ranges_of_hdus Unpack g (before ++ h ∷ after)) old new
header_there law g header_len tile k start before after h old new seen one =
    law g before after h old new
    (subst (λ n. LogsWithin h.start (header_touched n h.start g) old new) (sym seen.number) (subst (λ n. LogsWithin n (header_touched k n g) old new) (sym seen.place) one))

-- an HDU is one of those of a file if it is one of those that stand for something
pub record IsSplit (hs : List Header) (h : Header) (rest : List Header) : Type 0 where
  pub before : List Header
  pub parts : hs ≡ before ++ h ∷ rest

split_by : (b : Bool) (i j : Header) (hs done rest : List Header) (h : Header) → (if b then j ∷ hs else i ∷ j ∷ hs) ≡ done ++ h ∷ rest → IsSplit (i ∷ j ∷ hs) h rest
split_by true i j hs done rest h parts = record { before = i ∷ done; parts = ap (λ l. i ∷ l) parts }
split_by false i j hs done rest h parts = record { before = done; parts = parts }

split : (g : List ℕ) (hs done rest : List Header) (h : Header) → standing g hs ≡ done ++ h ∷ rest → IsSplit hs h rest
split g [] done rest h parts = record { before = done; parts = parts }
split g (i ∷ []) done rest h parts = record { before = done; parts = parts }
split g (i ∷ j ∷ hs) done rest h parts = split_by (is_packed_primary g j) i j hs done rest h parts

module _ (s : Survey) (old : Option (List (ℕ × ℕ))) where
  -- nothing is read before the first
  pub no_hdu : (held : Option (List ℕ)) → IfSome held (λ g. ReadsHdus Unpack g s old old)
  no_hdu None = tt
  no_hdu (Some g) = λ hs list. nothing (ranges_of_hdus Unpack g hs) old

  module _ (join : LogsJoinLaw) (k start at : ℕ) (flag : Bool) (before now : Option (List ℕ)) (few : k < s.hdus) (mid new : Option (List (ℕ × ℕ))) where
    -- the header of the next one
    next_header : HeaderIsOfHdus Unpack → (g : List ℕ) (hs : List Header) (w : AreWritten g s.header_len s.tile hs k start at flag before now) (rest : List Header) → w.rest ≡ rest → k < length hs →
        LogsWithin start (header_touched k start g) mid new → LogsIn (ranges_of_hdus Unpack g hs) mid new
    next_header law g hs w [] is little one = absurd (omega (arith, w.count, ap length is, little))
    next_header law g hs w (h ∷ rest) is little one =
        let seen : WereSeen g s.header_len s.tile k start (h ∷ rest) = subst (λ l. WereSeen g s.header_len s.tile k start l) is w.seen in
        let there : IsSplit hs h rest = split g hs w.done rest h (w.parts ∙ ap (λ l. w.done ++ l) is) in
        subst (λ (l : List Header). LogsIn (ranges_of_hdus Unpack g l) mid new) (sym there.parts) (header_there law g s.header_len s.tile k start there.before rest h mid new seen.0 one)

    pub one_header : HeaderIsOfHdus Unpack → (held : Option (List ℕ)) → IfSome held (IsUnderway s k start at flag before now) → IfSome held (λ g. LogsWithin start (header_touched k start g) mid new) →
        IfSome held (λ g. ReadsHdus Unpack g s old mid) → IfSome held (λ g. ReadsHdus Unpack g s old new)
    one_header law None was one reads = tt
    one_header law (Some g) was one reads = λ hs list.
        let w = was hs list in
        join (ranges_of_hdus Unpack g hs) old mid new (reads hs list) (next_header law g hs w w.rest refl (omega (arith, few, list.count)) one)

    -- its rows or its data
    next_data : DataAreOfHdus Unpack → (g : List ℕ) (hs : List Header) (a : ReadHdu) (w : AreWritten g s.header_len s.tile hs k start at flag before now) (rest : List Header) → w.rest ≡ rest → k < length hs →
        ReadsAsSeen g k start flag s.header_len s.tile (Ok a) → LogsIn (data_touched Unpack g a.header) mid new → LogsIn (ranges_of_hdus Unpack g hs) mid new
    next_data law g hs a w [] is little again one = absurd (omega (arith, w.count, ap length is, little))
    next_data law g hs a w (h ∷ rest) is little again one =
        let seen : WereSeen g s.header_len s.tile k start (h ∷ rest) = subst (λ l. WereSeen g s.header_len s.tile k start l) is w.seen in
        let behind : SaysBehind g flag (h ∷ rest) = subst (λ l. SaysBehind g flag l) is w.flag in
        let same : a.header ≡ h = (again h seen.0 behind).1 in
        let there : IsSplit hs h rest = split g hs w.done rest h (w.parts ∙ ap (λ l. w.done ++ l) is) in
        subst (λ (l : List Header). LogsIn (ranges_of_hdus Unpack g l) mid new) (sym there.parts)
        (law g there.before rest h mid new (subst (λ (j : Header). LogsIn (data_touched Unpack g j) mid new) same one))

    pub one_hdu : DataAreOfHdus Unpack → (held : Option (List ℕ)) (a : ReadHdu) → IfSome held (IsUnderway s k start at flag before now) → IfSome held (λ g. ReadsAsSeen g k start flag s.header_len s.tile (Ok a)) →
        IfSome held (λ g. LogsIn (data_touched Unpack g a.header) mid new) → IfSome held (λ g. ReadsHdus Unpack g s old mid) → IfSome held (λ g. ReadsHdus Unpack g s old new)
    one_hdu law None a was again one reads = tt
    one_hdu law (Some g) a was again one reads = λ hs list.
        let w = was hs list in
        join (ranges_of_hdus Unpack g hs) old mid new (reads hs list) (next_data law g hs a w w.rest refl (omega (arith, few, list.count)) again one)

-- ---- the first look, and what follows it

lies_before : (front back : List (ℕ × ℕ)) (byte : ℕ) → LiesIn front byte → LiesIn (front ++ back) byte
lies_before [] back byte is = absurd is
lies_before ((start, count) ∷ front) back byte (inl is) = inl is
lies_before ((start, count) ∷ front) back byte (inr is) = inr (lies_before front back byte is)

module _ (held : Option (List ℕ)) (old mid new : Option (List (ℕ × ℕ))) where
  pub look_read : LooksReadHeaders Unpack → IfSome held (λ g. LogsOnly (IsWithinOne (survey_places UnpackChecks g)) old mid) → IfSome held (λ g. LogsIn (touched_by Unpack g) old mid)
  look_read look reads = by_held held reads
    where
      by_held : (told : Option (List ℕ)) → IfSome told (λ g. LogsOnly (IsWithinOne (survey_places UnpackChecks g)) old mid) → IfSome told (λ g. LogsIn (touched_by Unpack g) old mid)
      by_held None reads = tt
      by_held (Some g) reads = (
        reads.0,
        (λ k d few byte from to. lies_before (header_ranges Unpack g) (all_data_touched (header_fault Unpack g) Unpack g) byte (look g _ (reads.1 k d few) byte from to)),
        reads.2,
      )

  pub all_read : LogsJoinLaw → SurveysKnow Unpack → KnownAreTouched Unpack → (s : Survey) → IfSome held (Knows s) → IfSome held (λ g. LogsIn (touched_by Unpack g) old mid) → IfSome held (λ g. ReadsHdus Unpack g s mid new) →
      IfSome held (λ g. LogsIn (touched_by Unpack g) old new)
  all_read join know are s knows first next = by_held held knows first next
    where
      by_held : (told : Option (List ℕ)) → IfSome told (Knows s) → IfSome told (λ g. LogsIn (touched_by Unpack g) old mid) → IfSome told (λ g. ReadsHdus Unpack g s mid new) → IfSome told (λ g. LogsIn (touched_by Unpack g) old new)
      by_held None knows first next = tt
      by_held (Some g) knows first next =
          let known : IsKnown Unpack g s = know g s knows in
          let rest : LogsIn (touched_by Unpack g) mid new = subst (λ rs. LogsIn rs mid new) (sym (are g s known)) (next known.headers known.seen) in
          join (touched_by Unpack g) old mid new first rest
