-- What is read of the HDUs of a file, one after another, and of the whole file (FITS 4.0, sections 3.1, 7.3.5 and 10.1).
use Rattle.std.proofs.Common.{◌≡◌, ℕ, ◌+◌, ◌<◌, Bool, List, ◌++◌, length, refl, sym, ap, ◌∙◌, subst, arith}
use Rattle.std.specs.Prelude.{Option, Some, None, IfSome, Ok}
use Rattle.fz_base.specs.Ranges.{LogsIn, LogsJoinLaw}
use Rattle.fz_base.specs.Source.{LogsOnly, LogsWithin}
use Rattle.fz_block.specs.Checks.{header_touched}
use Rattle.fz_block.specs.declared.header.Header.{Header}
use Rattle.fz_files.specs.Reads.{header_ranges}
use Rattle.fz_files.specs.Touched.{all_data_touched, touched_by}
use Rattle.fz_files.specs.Walks.{header_fault, headers_for, job_walk}
use Rattle.fz_files.specs.declared.job.Job.TheVariants.{Unpack, Verify}
use Rattle.fz_head.specs.declared.options.PackOptions.{PackOptions}
use Rattle.fz_job.specs.SurveyReads.{IsWithinOne}
use Rattle.fz_job.specs.Surveys.{survey_places}
use Rattle.fz_job.specs.declared.checks.JobChecks.TheVariants.{Unpack as UnpackChecks}
use Rattle.fz_job.specs.declared.survey.Survey.{Survey}
use Rattle.fz_job.specs.Again.{ReadsAsSeen}
use Rattle.fz_job.specs.Hdus.{HeaderIsOfHdus, KnownAreTouched, ReadsHdus, ranges_of_hdus}
use Rattle.fz_job.specs.Headers.{LooksReadHeaders}
use Rattle.fz_job.specs.Known.{IsKnown, SurveysKnow}
use Rattle.fz_job.specs.declared.again.ReadHdu.{ReadHdu}
use Rattle.fz_compare.specs.Reads.{ReadsKnown, hdu_ranges}
use Rattle.fz_strict.specs.declared.options.Found.{Found}
use Rattle.fz_strict.specs.declared.origin.Origin.{Origin}
use Rattle.fz_strict.proofs.CompareLoop.{IsComparing}
use Rattle.fz_strict.proofs.FindLoop.{IsGathering}
use Rattle.fz_strict.proofs.Promises.{Knows}
use Rattle.fz_strict.proofs.ReadRanges.{FindsBlocks, hdu_part, header_part, lies_before, nothing}

module _ (s : Survey) (old : Option (List (ℕ × ℕ))) where
  -- ---- headers, to find the options

  pub no_header : (held : Option (List ℕ)) → IfSome held (λ g. ReadsHdus Verify g s old old)
  no_header None = tt
  no_header (Some g) = λ hs list. nothing (ranges_of_hdus Verify g hs) old

  pub header_gathered : HeaderIsOfHdus Verify → LogsJoinLaw → (held : Option (List ℕ)) (k start : ℕ) (flag : Bool) (f : Found) (mid new : Option (List (ℕ × ℕ))) → k < s.hdus → IfSome held (IsGathering s k start flag f) →
      IfSome held (λ g. LogsWithin start (header_touched k start g) mid new) → IfSome held (λ g. ReadsHdus Verify g s old mid) → IfSome held (λ g. ReadsHdus Verify g s old new)
  header_gathered law join None k start flag f mid new few was one reads = tt
  header_gathered law join (Some g) k start flag f mid new few was one reads = λ hs list.
      let w = was hs list in
      let little : k < length hs = omega (arith, few, list.count) in
      join (ranges_of_hdus Verify g hs) old mid new (reads hs list) (header_part g s hs w.done k start flag w.part little law mid new one)

  -- ---- headers, rows and tables, to compare them

  pub no_hdu : (held : Option (List ℕ)) → IfSome held (λ g. ReadsKnown g s old old)
  no_hdu None = tt
  no_hdu (Some g) = λ known. nothing (ranges_of_hdus Verify g known.headers) old

  module _ (o : PackOptions) (join : LogsJoinLaw) (held : Option (List ℕ)) (k start : ℕ) (flag : Bool) (origin : Option Origin) (mid new : Option (List (ℕ × ℕ))) (few : k < s.hdus) (was : IfSome held (IsComparing o s k start flag origin)) where
    pub header_compared : HeaderIsOfHdus Verify → IfSome held (λ g. LogsWithin start (header_touched k start g) mid new) → IfSome held (λ g. ReadsKnown g s old mid) → IfSome held (λ g. ReadsKnown g s old new)
    header_compared law one reads = by_held held was one reads
      where
        by_held : (told : Option (List ℕ)) → IfSome told (IsComparing o s k start flag origin) → IfSome told (λ g. LogsWithin start (header_touched k start g) mid new) → IfSome told (λ g. ReadsKnown g s old mid) → IfSome told (λ g. ReadsKnown g s old new)
        by_held None was one reads = tt
        by_held (Some g) was one reads = λ known.
            let w = was known in
            let hs : List Header = known.headers in
            let little : k < length hs = omega (arith, few, known.seen.count) in
            join (ranges_of_hdus Verify g hs) old mid new (reads known) (header_part g s hs w.done k start flag w.part little law mid new one)

    pub hdu_compared : FindsBlocks → (a : ReadHdu) → IfSome held (λ g. ReadsAsSeen g k start flag s.header_len s.tile (Ok a)) → IfSome held (λ g. LogsIn (hdu_ranges g a.header) mid new) → IfSome held (λ g. ReadsKnown g s old mid) →
        IfSome held (λ g. ReadsKnown g s old new)
    hdu_compared find a again one reads = by_held held was again one reads
      where
        by_held : (told : Option (List ℕ)) → IfSome told (IsComparing o s k start flag origin) → IfSome told (λ g. ReadsAsSeen g k start flag s.header_len s.tile (Ok a)) → IfSome told (λ g. LogsIn (hdu_ranges g a.header) mid new) →
            IfSome told (λ g. ReadsKnown g s old mid) → IfSome told (λ g. ReadsKnown g s old new)
        by_held None was again one reads = tt
        by_held (Some g) was again one reads = λ known.
            let w = was known in
            let hs : List Header = known.headers in
            let little : k < length hs = omega (arith, few, known.seen.count) in
            join (ranges_of_hdus Verify g hs) old mid new (reads known) (hdu_part g s hs w.done k start flag w.part little find known.seen a again mid new one)

  -- ---- first to find the options, and then to compare

  pub options_read : (held : Option (List ℕ)) (new : Option (List (ℕ × ℕ))) → IfSome held (λ g. ReadsHdus Verify g s old new) → IfSome held (λ g. ReadsKnown g s old new)
  options_read None new reads = tt
  options_read (Some g) new reads = λ known. reads known.headers known.seen

  pub then_compared : LogsJoinLaw → (held : Option (List ℕ)) (mid new : Option (List (ℕ × ℕ))) → IfSome held (λ g. ReadsHdus Verify g s old mid) → IfSome held (λ g. ReadsKnown g s mid new) → IfSome held (λ g. ReadsKnown g s old new)
  then_compared join None mid new first next = tt
  then_compared join (Some g) mid new first next = λ known. join (ranges_of_hdus Verify g known.headers) old mid new (first known.headers known.seen) (next known)

-- ---- the first look, and what follows it

module _ (held : Option (List ℕ)) (old new : Option (List (ℕ × ℕ))) where
  pub look_reads : LooksReadHeaders Verify → IfSome held (λ g. LogsOnly (IsWithinOne (survey_places UnpackChecks g)) old new) → IfSome held (λ g. LogsIn (header_ranges Verify g) old new)
  look_reads look reads = by_held held reads
    where
      by_held : (told : Option (List ℕ)) → IfSome told (λ g. LogsOnly (IsWithinOne (survey_places UnpackChecks g)) old new) → IfSome told (λ g. LogsIn (header_ranges Verify g) old new)
      by_held None reads = tt
      by_held (Some g) reads = (reads.0, (λ k d few byte from to. look g _ (reads.1 k d few) byte from to), reads.2)

  pub headers_read : IfSome held (λ g. LogsIn (header_ranges Verify g) old new) → IfSome held (λ g. LogsIn (touched_by Verify g) old new)
  headers_read reads = by_held held reads
    where
      by_held : (told : Option (List ℕ)) → IfSome told (λ g. LogsIn (header_ranges Verify g) old new) → IfSome told (λ g. LogsIn (touched_by Verify g) old new)
      by_held None reads = tt
      by_held (Some g) reads =
          (reads.0, (λ k d few byte from to. lies_before (header_ranges Verify g) (all_data_touched (header_fault Verify g) Verify g) byte (reads.1 k d few byte from to)), reads.2)

-- `verify` looks at the headers at which `unpack` looks
same_headers : (g : List ℕ) → headers_for Verify g ≡ headers_for Unpack g
unfolding job_walk
same_headers g = refl

known_touched : KnownAreTouched Verify → (g : List ℕ) (s : Survey) (checked : IsKnown Verify g s) (known : IsKnown Unpack g s) → touched_by Verify g ≡ ranges_of_hdus Verify g known.headers
known_touched are g s checked known = are g s checked ∙ ap (ranges_of_hdus Verify g) (sym checked.are ∙ same_headers g ∙ known.are)

pub all_read : LogsJoinLaw → SurveysKnow Verify → SurveysKnow Unpack → KnownAreTouched Verify → (s : Survey) (held : Option (List ℕ)) (old mid new : Option (List (ℕ × ℕ))) → IfSome held (Knows s) → IfSome held (λ g. LogsIn (touched_by Verify g) old mid) →
    IfSome held (λ g. ReadsKnown g s mid new) → IfSome held (λ g. LogsIn (touched_by Verify g) old new)
all_read join checks knows are s None old mid new exact first next = tt
all_read join checks knows are s (Some g) old mid new exact first next =
    let known : IsKnown Unpack g s = knows g s exact in
    let rest : LogsIn (touched_by Verify g) mid new = subst (λ rs. LogsIn rs mid new) (sym (known_touched are g s (checks g s exact) known)) (next known) in
    join (touched_by Verify g) old mid new first rest
