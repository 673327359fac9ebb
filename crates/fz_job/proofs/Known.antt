-- What the first look says of a file (FITS 4.0, sections 3.1 and 10.1).
use Rattle.std.proofs.Common.{◌≡◌, ℕ, ◌<◌, ◌≤◌, Bool, List, length, map, refl, sym, ap, ◌∙◌, arith}
use Rattle.std.specs.Prelude.{Some, None, Result, Ok, Err}
use Rattle.std.specs.Result.{result_map_both}
use Rattle.fz_base.specs.declared.fault.Fault.{Fault}
use Rattle.fz_block.specs.Checks.{Judge, walk_of}
use Rattle.fz_block.specs.Walk.{AreHeadersBetween, PassFrom, RefusesNone, hdu_of}
use Rattle.fz_block.specs.declared.header.Header.{Header}
use Rattle.fz_files.specs.Buffers.{header_len, longest_header}
use Rattle.fz_files.specs.Restored.{is_packed_primary}
use Rattle.fz_files.specs.Walks.{fault_of_walk, found_headers, header_fault, headers_for, job_walk, reached_from}
use Rattle.fz_files.specs.declared.job.Job.{Job}
use Rattle.fz_job.specs.Judges.{judge_of}
use Rattle.fz_job.specs.Surveys.{header_len as header_len_seen, headers_seen, is_primary_table, primary_at, survey_of, surveyed, tile_pixels as tile_seen}
use Rattle.fz_job.specs.declared.checks.JobChecks.TheVariants.{Unpack as UnpackChecks}
use Rattle.fz_job.specs.declared.survey.Survey.{Survey}
use Rattle.fz_job.specs.Known.{IsKnown, IsList}
use Rattle.fz_job.proofs.UnpackJobs.{IsReader}
use Rattle.fz_job.proofs.Walked.{AreMet, AreSound, BlocksLaw, PlacesLaw, largest_is, longest_is, walk_met, walk_sound, were_seen}
use Rattle.fz_checks.specs.Greatest.{greatest}
use Rattle.fz_checks.specs.Judges.{unpack_judge}
use Rattle.fz_head.specs.PackedPlan.{plan_of_cards}

-- the laws of headers that it stands on
pub record TheLaws : Type 0 where
  pub headers : (judge : Judge) (most : ℕ) (file : List ℕ) (hs : List Header) → walk_of judge most file ≡ Ok hs → (0 < length hs) × (length hs ≤ most) × RefusesNone judge hs × ((end : ℕ) × (end ≤ length file) × AreHeadersBetween 0 0 end file hs)
  pub pass : (judge : Judge) (most : ℕ) (file : List ℕ) (hs : List Header) → walk_of judge most file ≡ Ok hs → PassFrom 0 0 (length file) (map (hdu_of file) hs)
  pub blocks : BlocksLaw
  pub places : PlacesLaw

-- both name the same checks
pub same_judge : (file : List ℕ) → judge_of UnpackChecks file ≡ unpack_judge file
unfolding judge_of
same_judge file = refl

same_walk : (file : List ℕ) → headers_seen UnpackChecks file ≡ walk_of (unpack_judge file) 65536 file
same_walk file = ap (λ (j : Judge). walk_of j 65536 file) (same_judge file)

-- and a packed primary
same_primary : (file : List ℕ) → is_primary_table UnpackChecks file ≡ is_packed_primary file
unfolding is_primary_table plan_of_cards
same_primary file = refl

module _ (laws : TheLaws) (file : List ℕ) (s : Survey) (hs : List Header) (walk : walk_of (unpack_judge file) 65536 file ≡ Ok hs) (learnt : survey_of UnpackChecks file hs ≡ s) where
  met : AreMet file 0 0 (reached_from (unpack_judge file) 65536 0 0 file) hs
  met = walk_met file 65536 0 0 hs walk

  sound : AreSound file 0 0 hs
  sound = let are = (laws.headers (unpack_judge file) 65536 file hs walk).3 in
      walk_sound file laws.blocks laws.places 0 0 are.0 hs are.1 are.2 (laws.pass (unpack_judge file) 65536 file hs walk)

  longest_seen : greatest (map header_len_seen hs) ≡ s.header_len
  longest_seen = ap (λ (x : Survey). x.header_len) learnt

  largest_seen : greatest (map (tile_seen UnpackChecks file) hs) ≡ s.tile
  largest_seen = ap (λ (x : Survey). x.tile) learnt

  seen : IsList file s hs
  seen = record {
    seen = were_seen file s.header_len s.tile 0 0 hs met.0 sound (omega (arith, longest_seen)) (omega (arith, largest_seen));
    count = ap (λ (x : Survey). x.hdus) learnt;
    primary = ap (λ (x : Survey). x.packed_primary) (sym learnt) ∙ ap (λ (is : Header → Bool). primary_at is hs) (same_primary file);
  }

  module _ (job : Job) (reader : IsReader job) where
    walk_is : job_walk job file ≡ Ok hs
    walk_is = reader.walk file ∙ walk

    no_fault : header_fault job file ≡ None
    no_fault = ap (fault_of_walk job file) walk_is ∙ reader.ends file hs

    headers_are : headers_for job file ≡ hs
    headers_are = ap found_headers walk_is

    longest : longest_header job file ≡ s.header_len
    longest = reader.longest file ∙ ap (λ rs. greatest (map (header_len file) rs)) (reader.reached file ∙ met.1) ∙ longest_is file 0 0 hs sound ∙ longest_seen

    known_by : IsKnown job file s
    known_by = record {
      headers = hs;
      seen = seen;
      are = headers_are;
      no_fault = no_fault;
      longest = longest;
      largest = reader.largest file hs s no_fault headers_are (largest_is file hs ∙ largest_seen);
    }

module _ (file : List ℕ) where
  by_seen : TheLaws → (job : Job) → IsReader job → (s : Survey) (r : Result (List Header) Fault) → headers_seen UnpackChecks file ≡ r → result_map_both (survey_of UnpackChecks file) (λ x. x) r ≡ Ok s → IsKnown job file s
  by_seen laws job reader s (Ok hs) is e =
      let learnt : survey_of UnpackChecks file hs ≡ s = cc in
      known_by laws file s hs (sym (same_walk file) ∙ is) learnt job reader
  by_seen laws job reader s (Err x) is e = absurd cc

  pub is_known : TheLaws → (job : Job) → IsReader job → (s : Survey) → surveyed UnpackChecks file ≡ Ok s → IsKnown job file s
  is_known laws job reader s e = by_seen laws job reader s (headers_seen UnpackChecks file) refl e

  by_refused : (job : Job) → IsReader job → (x : Fault) (r : Result (List Header) Fault) → headers_seen UnpackChecks file ≡ r → result_map_both (survey_of UnpackChecks file) (λ x. x) r ≡ Err x → header_fault job file ≡ Some x
  by_refused job reader x (Ok hs) is e = absurd cc
  by_refused job reader x (Err y) is e =
      let same : y ≡ x = cc in
      ap (fault_of_walk job file) (reader.walk file ∙ sym (same_walk file) ∙ is) ∙ ap Some same

  pub is_refused : (job : Job) → IsReader job → (x : Fault) → surveyed UnpackChecks file ≡ Err x → header_fault job file ≡ Some x
  is_refused job reader x e = by_refused job reader x (headers_seen UnpackChecks file) refl e
