-- What a cut reads lies in the touched ranges (FITS 4.0, sections 3.1 and 10.1).
use Rattle.std.proofs.Common.{◌≡◌, ℕ, ◌+◌, ◌<◌, ◌≤◌, List, [], ◌∷◌, ◌++◌, append-nil, length, map, inl, inr, refl, sym, ap, ◌∙◌, subst, arith}
use Rattle.std.specs.Prelude.{Option, None, Result, Ok, Err}
use Rattle.std.specs.List.{flat_map}
use Rattle.fz_base.specs.Ranges.{LiesIn}
use Rattle.fz_base.specs.declared.fault.Fault.{Fault}
use Rattle.fz_block.specs.Checks.{Judge, walk_of}
use Rattle.fz_block.specs.Walk.{AreHeadersBetween, RefusesNone}
use Rattle.fz_block.specs.declared.header.Header.{Header}
use Rattle.fz_grid.specs.declared.sieve.Sieve.{Sieve}
use Rattle.fz_checks.specs.Judges.{cut_judge}
use Rattle.fz_files.specs.Cutout.{header_range, ranges_of_row, rows_touched, touched}
use Rattle.fz_files.specs.FirstFault.{picked_rows}
use Rattle.fz_files.specs.Walks.{box_of, fault_of_walk, found_headers, header_fault, job_walk, last_of, reached_from}
use Rattle.fz_files.specs.declared.job.Job.TheVariants.{Cut}
use Rattle.fz_job.specs.SurveyReads.{IsWithinOne}
use Rattle.fz_job.specs.Surveys.{survey_places}
use Rattle.fz_job.specs.declared.checks.JobChecks.TheVariants.{Cut as CutChecks}
use Rattle.fz_job.specs.declared.survey.Survey.{Survey}
use Rattle.fz_cut.specs.Picks.{picked_ranges}
use Rattle.fz_cut.specs.Known.{IsKnown}
use Rattle.fz_cut.specs.Written.{work_ranges}
use Rattle.fz_cut.proofs.Known.{job_is, reached_is, same_judge}
use Rattle.fz_cut.proofs.Walks.{FactsLaw, HasLast, has_last, last_is, lies_before, lies_behind, lies_in_headers, lies_in_last, looked, place_of, places_are, walk_met}

abbrev pub HeadersLaw : Type 0
HeadersLaw = (judge : Judge) (most : ℕ) (file : List ℕ) (hs : List Header) → walk_of judge most file ≡ Ok hs → (0 < length hs) × (length hs ≤ most) × RefusesNone judge hs × ((end : ℕ) × (end ≤ length file) × AreHeadersBetween 0 0 end file hs)

module _ (want : Option ℕ) (sieve : Sieve) (file : List ℕ) where
  abbrev J : Judge
  J = cut_judge want (box_of sieve) file

  all_places : survey_places (CutChecks want (box_of sieve)) file ≡ map (looked file) (reached_from J 65536 0 0 file)
  all_places = places_are want (box_of sieve) file J (same_judge want (box_of sieve) file) 65536 0 0

  in_touched : (byte : ℕ) → LiesIn (map (header_range file) (reached_from J 65536 0 0 file) ++ rows_touched (header_fault (Cut want sieve) file) (Cut want sieve) file) byte → LiesIn (touched want sieve file) byte
  unfolding touched
  in_touched byte is = subst (λ rs. LiesIn (map (header_range file) rs ++ rows_touched (header_fault (Cut want sieve) file) (Cut want sieve) file) byte) (sym (reached_is want sieve file)) is

  pub look_touched : (range : ℕ × ℕ) → IsWithinOne (survey_places (CutChecks want (box_of sieve)) file) range → (byte : ℕ) → range.0 ≤ byte → byte < range.0 + range.1 → LiesIn (touched want sieve file) byte
  look_touched range within byte from to =
      let one : IsWithinOne (map (looked file) (reached_from J 65536 0 0 file)) range = subst (λ ps. IsWithinOne ps range) all_places within in
      in_touched byte
      (lies_in_headers file (reached_from J 65536 0 0 file) (rows_touched (header_fault (Cut want sieve) file) (Cut want sieve) file) one.1.0 one.0 byte one.1.1 one.1.2
      (omega (arith, one.2, from)) (omega (arith, one.2, to)))

  -- ---- what the work after the first look reads

  walked : (r : Result (List Header) Fault) → job_walk (Cut want sieve) file ≡ r → fault_of_walk (Cut want sieve) file r ≡ None → (hs : List Header) × (job_walk (Cut want sieve) file ≡ Ok hs)
  walked (Ok hs) is none = (hs, is)
  walked (Err x) is none = absurd cc

  header_touched_too : HeadersLaw → FactsLaw → (s : Survey) (known : IsKnown want sieve file s) (byte : ℕ) → LiesIn (header_range file (place_of known.from) ∷ []) byte → LiesIn (map (header_range file) (reached_from J 65536 0 0 file)) byte
  header_touched_too headers facts s known byte is =
      let found = walked (job_walk (Cut want sieve) file) refl known.no_fault in
      let walk : walk_of J 65536 file ≡ Ok found.0 = sym (job_is want sieve file) ∙ found.1 in
      let parts : HasLast found.0 = has_last found.0 (headers J 65536 file found.0 walk).0 in
      let last : parts.last ∷ [] ≡ known.from ∷ [] = sym (last_is parts.before parts.last) ∙ ap last_of (sym parts.parts) ∙ ap (λ r. last_of (found_headers r)) (sym found.1) ∙ known.last in
      let same : known.from ≡ parts.last = cc in
      let here : LiesIn (header_range file (place_of parts.last) ∷ []) byte = subst (λ (h : Header). LiesIn (header_range file (place_of h) ∷ []) byte) same is in
      subst (λ rs. LiesIn (map (header_range file) rs) byte) (sym (walk_met facts J file 65536 0 0 found.0 walk))
      (subst (λ (hs : List Header). LiesIn (map (header_range file) (map place_of hs)) byte) (sym parts.parts) (lies_in_last file parts.before parts.last byte here))

  rows_are : (s : Survey) (known : IsKnown want sieve file s) → rows_touched (header_fault (Cut want sieve) file) (Cut want sieve) file ≡ picked_ranges file known.from sieve
  rows_are s known =
      ap (λ (f : Option Fault). rows_touched f (Cut want sieve) file) known.no_fault
      ∙ ap (λ (hs : List Header). flat_map (ranges_of_row file) (flat_map (picked_rows file sieve) hs)) known.last
      ∙ ap (flat_map (ranges_of_row file)) (append-nil (picked_rows file sieve known.from))

  pub work_touched : HeadersLaw → FactsLaw → (s : Survey) (known : IsKnown want sieve file s) (byte : ℕ) → LiesIn (work_ranges file sieve known.from) byte → LiesIn (touched want sieve file) byte
  work_touched headers facts s known byte (inl is) =
      in_touched byte
      (lies_before (map (header_range file) (reached_from J 65536 0 0 file)) (rows_touched (header_fault (Cut want sieve) file) (Cut want sieve) file) byte (header_touched_too headers facts s known byte (inl is)))
  work_touched headers facts s known byte (inr is) =
      in_touched byte
      (lies_behind (map (header_range file) (reached_from J 65536 0 0 file)) (rows_touched (header_fault (Cut want sieve) file) (Cut want sieve) file) byte
      (subst (λ rs. LiesIn rs byte) (sym (rows_are s known)) is))
