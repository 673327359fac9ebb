-- The headers that are read lie in those of the HDUs that the job comes to (FITS 4.0, section 3.1).
use Rattle.std.proofs.Common.{◌≡◌, ℕ, zero, suc, ◌+◌, ◌<◌, ◌≤◌, ◌==◌, Bool, true, false, List, [], ◌∷◌, ◌++◌, length, map, inl, inr, refl, sym, ap, ◌∙◌, subst, arith}
use Rattle.std.specs.Prelude.{Option, Some, None, Result, Ok, Err, slice_index_or, if◌then◌else◌}
use Rattle.fz_base.specs.Ranges.{LiesIn}
use Rattle.fz_base.specs.declared.fault.Fault.{Fault}
use Rattle.fz_block.specs.Checks.{Judge, hdu_at, header_touched}
use Rattle.fz_block.specs.Header.{next_start_of}
use Rattle.fz_block.specs.Takings.{for_those_after, where_going_on}
use Rattle.fz_block.specs.declared.header.Header.{Header}
use Rattle.fz_files.specs.Cutout.{header_range}
use Rattle.fz_files.specs.Laws.{ReachedAreFound, place_of}
use Rattle.fz_files.specs.Reads.{header_ranges}
use Rattle.fz_files.specs.Walks.{Reached, reached_after, reached_behind, reached_from}
use Rattle.fz_files.specs.declared.job.Job.{Job}
use Rattle.fz_checks.specs.Judges.{unpack_judge}
use Rattle.fz_job.specs.SurveyReads.{IsWithinOne}
use Rattle.fz_job.specs.Surveys.{hdu_places, places_from, survey_places}
use Rattle.fz_job.specs.declared.checks.JobChecks.TheVariants.{Unpack as UnpackChecks}
use Rattle.fz_job.specs.declared.survey.Survey.{Survey}
use Rattle.fz_job.specs.Headers.{ranges_of_headers}
use Rattle.fz_job.specs.Known.{IsKnown}
use Rattle.fz_job.proofs.UnpackJobs.{IsReader}
use Rattle.fz_job.proofs.Known.{same_judge}

-- ---- what the first look reads

-- the first place of a header, and the place after the last that the search for its END looks at
abbrev looked : List ℕ → Reached → ℕ × ℕ
looked file r = (r.start, header_touched r.hdu r.start file)

module _ (file : List ℕ) where
  abbrev J : Judge
  J = unpack_judge file

  abbrev later_places : ℕ → ℕ → Header → List (ℕ × ℕ)
  later_places more k h = places_from UnpackChecks more (suc k) (next_start_of h) file

  abbrev later_reached : ℕ → ℕ → Header → List Reached
  later_reached more k h = reached_from J more (suc k) (next_start_of h) file

  module _ (more k start : ℕ) (later : (h : Header) → later_places more k h ≡ map (looked file) (later_reached more k h)) where
    going_by : (h : Header) (last : Bool) → (if last then [] else later_places more k h) ≡ map (looked file) (if last then [] else later_reached more k h)
    going_by h true = refl
    going_by h false = later h

    going_on : (h : Header) (r : Result Bool Fault) → where_going_on file h (later_places more k h) r ≡ map (looked file) (reached_behind file h (later_reached more k h) r)
    going_on h (Err x) = refl
    going_on h (Ok true) = refl
    going_on h (Ok false) = going_by h (next_start_of h == length file)

    going_at : (r : Result Header Fault) → for_those_after file J (later_places more k) r ≡ map (looked file) (reached_after file J (later_reached more k) r)
    going_at (Err x) = refl
    going_at (Ok h) = going_on h (J h)

    one_place : (r : Result Header Fault) → hdu_at k start file ≡ r → hdu_places UnpackChecks k start file ≡ looked file (record { hdu = k; start = start }) ∷ []
    one_place (Err x) is = rw is refl
    one_place (Ok h) is = rw is refl

  -- the places are those of the headers of the HDUs that the job comes to
  places_are : (more k start : ℕ) → places_from UnpackChecks more k start file ≡ map (looked file) (reached_from J more k start file)
  unfolding places_from reached_from
  places_are zero k start = refl
  places_are (suc more) k start =
      let one = one_place more k start (λ h. places_are more (suc k) (next_start_of h)) (hdu_at k start file) refl in
      let rest = going_at more k start (λ h. places_are more (suc k) (next_start_of h)) (hdu_at k start file) in
      (λ i. one i ++ for_those_after file (same_judge file i) (λ h. places_from UnpackChecks more (suc k) (next_start_of h) file) (hdu_at k start file))
      ∙ ap (λ l. looked file (record { hdu = k; start = start }) ∷ l) rest

  -- a byte between two of these places lies in one of the ranges
  lies_in_headers : (rs : List Reached) (k : ℕ) (p : ℕ × ℕ) (byte : ℕ) → k < length (map (looked file) rs) → slice_index_or (map (looked file) rs) k p ≡ p →
      p.0 ≤ byte → byte < p.1 → LiesIn (map (header_range file) rs) byte
  lies_in_headers [] k p byte few here from to = absurd (omega (arith, few))
  lies_in_headers (r ∷ rs) zero p byte few here from to =
      let first : r.start ≡ p.0 = ap (λ (q : ℕ × ℕ). q.0) here in
      let end : header_touched r.hdu r.start file ≡ p.1 = ap (λ (q : ℕ × ℕ). q.1) here in
      inl (omega (arith, first, from), omega (arith, first, end, from, to))
  lies_in_headers (r ∷ rs) (suc k) p byte few here from to = inr (lies_in_headers rs k p byte (omega (arith, few)) here from to)

  pub look_reads : (job : Job) → IsReader job → (range : ℕ × ℕ) → IsWithinOne (survey_places UnpackChecks file) range → (byte : ℕ) → range.0 ≤ byte → byte < range.0 + range.1 → LiesIn (header_ranges job file) byte
  look_reads job reader range within byte from to =
      let rs : List Reached = reached_from J 65536 0 0 file in
      let one : IsWithinOne (map (looked file) rs) range = subst (λ ps. IsWithinOne ps range) (places_are 65536 0 0) within in
      subst (λ (l : List Reached). LiesIn (map (header_range file) l) byte) (sym (reader.reached file))
      (lies_in_headers rs one.1.0 one.0 byte one.1.1 one.1.2 (omega (arith, one.2, from)) (omega (arith, one.2, to)))

  -- ---- the headers that it saw

  pub headers_seen : ReachedAreFound → (job : Job) (s : Survey) (known : IsKnown job file s) → header_ranges job file ≡ ranges_of_headers file known.headers
  headers_seen found job s known = ap (map (header_range file)) (found job file known.no_fault ∙ ap (map place_of) known.are)
