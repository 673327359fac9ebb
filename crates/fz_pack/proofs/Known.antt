-- What the first look says of a file (FITS 4.0, sections 3.1 and 10.1).
use Rattle.std.proofs.Common.{◌≡◌, ℕ, ◌<◌, ◌≤◌, false, List, length, map, refl, sym, ap, ◌∙◌, arith}
use Rattle.std.specs.Prelude.{Option, Some, None, Result, Ok, Err}
use Rattle.std.specs.List.{filter}
use Rattle.std.specs.Result.{result_map_both}
use Rattle.fz_base.specs.declared.fault.Fault.{Fault}
use Rattle.fz_block.specs.Checks.{Judge, headers_of, walk_of}
use Rattle.fz_block.specs.Hdus.{AreHdusOf}
use Rattle.fz_block.specs.Walk.{AreHeadersBetween, PassFrom, RefusesNone, hdu_of, stops}
use Rattle.fz_block.specs.declared.header.Header.{Header}
use Rattle.fz_head.specs.Packable.{is_packable}
use Rattle.fz_head.specs.Planned.{pack_plan_of}
use Rattle.fz_head.specs.declared.options.PackOptions.{PackOptions}
use Rattle.fz_files.specs.Buffers.{header_len, largest_tile, longest_header, plans_behind}
use Rattle.fz_files.specs.Walks.{fault_of_walk, found_headers, header_fault, headers_for, job_walk, reached_by, reached_from}
use Rattle.fz_files.specs.declared.job.Job.TheVariants.{Pack}
use Rattle.fz_job.specs.Judges.{judge_of}
use Rattle.fz_job.specs.Surveys.{header_len as header_len_seen, headers_seen, survey_of, surveyed, tile_pixels as tile_seen}
use Rattle.fz_job.specs.declared.checks.JobChecks.TheVariants.{Pack as PackChecks}
use Rattle.fz_job.specs.declared.survey.Survey.{Survey}
use Rattle.fz_pack.specs.Known.{IsKnown}
use Rattle.fz_pack.specs.Written.{IsList}
use Rattle.fz_pack.proofs.Walked.{AreMet, AreSound, BlocksLaw, PlacesLaw, largest_is, longest_is, never_stops, walk_met, walk_sound, were_seen}
use Rattle.fz_checks.specs.WorkBuffers.{pixels_of_tile}
use Rattle.fz_checks.specs.Greatest.{greatest}
use Rattle.fz_checks.specs.Judges.{pack_judge}

-- the laws of headers that it stands on
pub record TheLaws : Type 0 where
  pub headers : (judge : Judge) (most : ℕ) (file : List ℕ) (hs : List Header) → walk_of judge most file ≡ Ok hs → (0 < length hs) × (length hs ≤ most) × RefusesNone judge hs × ((end : ℕ) × (end ≤ length file) × AreHeadersBetween 0 0 end file hs)
  pub whole : (judge : Judge) (most : ℕ) (file : List ℕ) (hs : List Header) → walk_of judge most file ≡ Ok hs → stops judge hs ≡ false → headers_of most file ≡ Ok hs
  pub pass : (judge : Judge) (most : ℕ) (file : List ℕ) (hs : List Header) → walk_of judge most file ≡ Ok hs → PassFrom 0 0 (length file) (map (hdu_of file) hs)
  pub parts : (most : ℕ) (file : List ℕ) (hs : List Header) → headers_of most file ≡ Ok hs → AreHdusOf file (map (hdu_of file) hs)
  pub blocks : BlocksLaw
  pub places : PlacesLaw

-- both name the same checks
pub same_judge : (o : PackOptions) (file : List ℕ) → judge_of (PackChecks o) file ≡ pack_judge o file
unfolding judge_of
same_judge o file = refl

same_walk : (o : PackOptions) (file : List ℕ) → headers_seen (PackChecks o) file ≡ walk_of (pack_judge o file) 65535 file
same_walk o file = ap (λ (j : Judge). walk_of j 65535 file) (same_judge o file)

job_is : (o : PackOptions) (file : List ℕ) → job_walk (Pack o) file ≡ walk_of (pack_judge o file) 65535 file
unfolding job_walk
job_is o file = refl

pub reached_is : (o : PackOptions) (file : List ℕ) → reached_by (Pack o) file ≡ reached_from (pack_judge o file) 65535 0 0 file
unfolding reached_by
reached_is o file = refl

module _ (laws : TheLaws) (o : PackOptions) (file : List ℕ) (s : Survey) (hs : List Header) (walk : walk_of (pack_judge o file) 65535 file ≡ Ok hs) (learnt : survey_of (PackChecks o) file hs ≡ s) where
  met : AreMet o file 0 0 (reached_from (pack_judge o file) 65535 0 0 file) hs
  met = walk_met o file 65535 0 0 hs walk

  sound : AreSound file 0 0 hs
  sound = let are = (laws.headers (pack_judge o file) 65535 file hs walk).3 in
      walk_sound o file laws.blocks laws.places 0 0 are.0 hs are.1 are.2 (laws.pass (pack_judge o file) 65535 file hs walk)

  longest_seen : greatest (map header_len_seen hs) ≡ s.header_len
  longest_seen = ap (λ (x : Survey). x.header_len) learnt

  largest_seen : greatest (map (tile_seen (PackChecks o) file) hs) ≡ s.tile
  largest_seen = ap (λ (x : Survey). x.tile) learnt

  seen : IsList o file s hs
  seen = record {
    seen = were_seen o file s.header_len s.tile 0 0 hs met.0 sound (omega (arith, longest_seen)) (omega (arith, largest_seen));
    count = ap (λ (x : Survey). x.hdus) learnt;
  }

  walk_is : job_walk (Pack o) file ≡ Ok hs
  walk_is = job_is o file ∙ walk

  no_fault : header_fault (Pack o) file ≡ None
  no_fault = ap (fault_of_walk (Pack o) file) walk_is

  headers_are : headers_for (Pack o) file ≡ hs
  headers_are = ap found_headers walk_is

  longest : longest_header (Pack o) file ≡ s.header_len
  longest = ap (λ rs. greatest (map (header_len file) rs)) (reached_is o file ∙ met.1) ∙ longest_is o file 0 0 hs sound ∙ longest_seen

  largest : largest_tile (Pack o) file ≡ s.tile
  largest = ap (λ (f : Option Fault). greatest (map pixels_of_tile (plans_behind f (Pack o) file))) no_fault
      ∙ ap (λ (l : List Header). greatest (map pixels_of_tile (map (pack_plan_of o) (filter is_packable l)))) headers_are
      ∙ largest_is o file hs ∙ largest_seen

  known_by : IsKnown o file s
  known_by = record {
    headers = hs;
    seen = seen;
    are = headers_are;
    parts = laws.parts 65535 file hs (laws.whole (pack_judge o file) 65535 file hs walk (never_stops o file hs));
    no_fault = no_fault;
    longest = longest;
    largest = largest;
  }

module _ (o : PackOptions) (file : List ℕ) where
  by_seen : TheLaws → (s : Survey) (r : Result (List Header) Fault) → headers_seen (PackChecks o) file ≡ r → result_map_both (survey_of (PackChecks o) file) (λ x. x) r ≡ Ok s → IsKnown o file s
  by_seen laws s (Ok hs) is e =
      let learnt : survey_of (PackChecks o) file hs ≡ s = cc in
      known_by laws o file s hs (sym (same_walk o file) ∙ is) learnt
  by_seen laws s (Err x) is e = absurd cc

  pub is_known : TheLaws → (s : Survey) → surveyed (PackChecks o) file ≡ Ok s → IsKnown o file s
  is_known laws s e = by_seen laws s (headers_seen (PackChecks o) file) refl e

  by_refused : (x : Fault) (r : Result (List Header) Fault) → headers_seen (PackChecks o) file ≡ r → result_map_both (survey_of (PackChecks o) file) (λ x. x) r ≡ Err x → header_fault (Pack o) file ≡ Some x
  by_refused x (Ok hs) is e = absurd cc
  by_refused x (Err y) is e =
      let same : y ≡ x = cc in
      ap (fault_of_walk (Pack o) file) (job_is o file ∙ sym (same_walk o file) ∙ is) ∙ ap Some same

  pub is_refused : (x : Fault) → surveyed (PackChecks o) file ≡ Err x → header_fault (Pack o) file ≡ Some x
  is_refused x e = by_refused x (headers_seen (PackChecks o) file) refl e
