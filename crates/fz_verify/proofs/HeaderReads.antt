-- Headers are read, and nothing else (FITS 4.0, sections 3.1 and 3.3.1).
use Rattle.std.proofs.Common.{◌≡◌, ℕ, ◌+◌, ◌-◌, ◌<◌, ◌≤◌, Bool, List, [], ◌∷◌, ◌++◌, append-nil, length, map, inl, inr, refl, sym, ap, ◌∙◌, subst, arith}
use Rattle.std.specs.Prelude.{Option, Some, None, IfSome}
use Rattle.std.specs.Option.{option_map}
use Rattle.fz_base.specs.Ranges.{LiesIn, LogsIn, LogsJoinLaw, LogsWithinLaw}
use Rattle.fz_base.specs.Source.{LogsOnly, LogsWithin}
use Rattle.fz_block.specs.Checks.{header_touched}
use Rattle.fz_block.specs.declared.header.Header.{Header}
use Rattle.fz_files.specs.Reads.{header_ranges}
use Rattle.fz_files.specs.declared.job.Job.{Job}
use Rattle.fz_job.specs.SurveyReads.{IsWithinOne}
use Rattle.fz_job.specs.Surveys.{survey_places}
use Rattle.fz_job.specs.declared.checks.JobChecks.TheVariants.{Unpack as UnpackChecks}
use Rattle.fz_job.specs.declared.survey.Survey.{Survey}
use Rattle.fz_job.specs.Again.{WasSeen}
use Rattle.fz_job.specs.Headers.{HeadersAreSeen, LooksReadHeaders, ranges_of_headers}
use Rattle.fz_job.specs.Known.{IsKnown, SurveysKnow}
use Rattle.fz_verify.specs.Printed.{IsListing}
use Rattle.fz_verify.specs.Reads.{ReadsHeaders}
use Rattle.fz_verify.proofs.Finished.{Knows}
use Rattle.fz_verify.proofs.Parts.{next, was_seen}

-- nothing was read
same_ranges : (old : Option (List (ℕ × ℕ))) → old ≡ option_map (λ rs. rs ++ []) old
same_ranges None = refl
same_ranges (Some rs) = ap Some (sym (append-nil rs))

pub nothing : (ranges : List (ℕ × ℕ)) (old : Option (List (ℕ × ℕ))) → LogsIn ranges old old
nothing ranges old = ([], (λ k d few. absurd (omega (arith, few))), same_ranges old)

pub unread : (held : Option (List ℕ)) (ranges : List ℕ → List (ℕ × ℕ)) (old : Option (List (ℕ × ℕ))) → IfSome held (λ g. LogsIn (ranges g) old old)
unread None ranges old = tt
unread (Some g) ranges old = nothing (ranges g) old

-- a byte of the header of one of some HDUs lies in the ranges of their headers
lies_in_one : (file : List ℕ) (done rest : List Header) (h : Header) (byte : ℕ) → h.start ≤ byte → byte < header_touched h.hdu h.start file → LiesIn (ranges_of_headers file (done ++ h ∷ rest)) byte
lies_in_one file [] rest h byte from to = inl (from, omega (arith, from, to))
lies_in_one file (j ∷ done) rest h byte from to = inr (lies_in_one file done rest h byte from to)

module _ (s : Survey) (old : Option (List (ℕ × ℕ))) where
  -- nothing is read before the first
  pub none_read : (held : Option (List ℕ)) → IfSome held (λ g. ReadsHeaders g s old old)
  none_read None = tt
  none_read (Some g) = λ hs list. nothing (ranges_of_headers g hs) old

  -- the header of one more
  pub one_read : LogsWithinLaw → LogsJoinLaw → (held : Option (List ℕ)) (k start : ℕ) (flag : Bool) (before now : Option (List ℕ)) (mid new : Option (List (ℕ × ℕ))) → k < s.hdus →
      IfSome held (IsListing s k start flag before now) → IfSome held (λ g. LogsWithin start (header_touched k start g) mid new) → IfSome held (λ g. ReadsHeaders g s old mid) →
      IfSome held (λ g. ReadsHeaders g s old new)
  one_read within join None k start flag before now mid new few was one reads = tt
  one_read within join (Some g) k start flag before now mid new few was one reads = λ hs list.
      let w = was hs list in
      let little : k < length hs = omega (arith, few, list.count) in
      let more = next g s hs w.done k start flag w.part little in
      let seen : WasSeen g k start s.header_len s.tile more.0 = was_seen g s hs w.done k start flag w.part little in
      let parts : hs ≡ w.done ++ more.0 ∷ more.1.0 = w.part.parts ∙ ap (λ l. w.done ++ l) more.1.1 in
      let end : header_touched more.0.hdu more.0.start g ≡ header_touched k start g = λ i. header_touched (seen.number i) (seen.place i) g in
      let inside : (byte : ℕ) → start ≤ byte → byte < header_touched k start g → LiesIn (ranges_of_headers g hs) byte =
      λ byte from to. subst (λ (l : List Header). LiesIn (ranges_of_headers g l) byte) (sym parts)
      (lies_in_one g w.done more.1.0 more.0 byte (omega (arith, from, seen.place)) (omega (arith, to, end))) in
      join (ranges_of_headers g hs) old mid new (reads hs list) (within start (header_touched k start g) (ranges_of_headers g hs) mid new inside one)

-- ---- the first look, and what follows it

module _ (job : Job) (held : Option (List ℕ)) (old mid new : Option (List (ℕ × ℕ))) where
  pub look_reads : LooksReadHeaders job → IfSome held (λ g. LogsOnly (IsWithinOne (survey_places UnpackChecks g)) old mid) → IfSome held (λ g. LogsIn (header_ranges job g) old mid)
  look_reads look reads = by_held held reads
    where
      by_held : (told : Option (List ℕ)) → IfSome told (λ g. LogsOnly (IsWithinOne (survey_places UnpackChecks g)) old mid) → IfSome told (λ g. LogsIn (header_ranges job g) old mid)
      by_held None reads = tt
      by_held (Some g) reads = (reads.0, (λ k d few byte from to. look g _ (reads.1 k d few) byte from to), reads.2)

  pub both_read : LogsJoinLaw → SurveysKnow job → HeadersAreSeen job → (s : Survey) → IfSome held (Knows s) → IfSome held (λ g. LogsIn (header_ranges job g) old mid) → IfSome held (λ g. ReadsHeaders g s mid new) →
      IfSome held (λ g. LogsIn (header_ranges job g) old new)
  both_read join know are s knows first next = by_held held knows first next
    where
      by_held : (told : Option (List ℕ)) → IfSome told (Knows s) → IfSome told (λ g. LogsIn (header_ranges job g) old mid) → IfSome told (λ g. ReadsHeaders g s mid new) → IfSome told (λ g. LogsIn (header_ranges job g) old new)
      by_held None knows first next = tt
      by_held (Some g) knows first next =
          let known : IsKnown job g s = know g s knows in
          let rest : LogsIn (header_ranges job g) mid new = subst (λ rs. LogsIn rs mid new) (sym (are g s known)) (next known.headers known.seen) in
          join (header_ranges job g) old mid new first rest
