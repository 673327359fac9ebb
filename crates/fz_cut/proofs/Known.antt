-- What the first look says of a file that a part is cut from (FITS 4.0, sections 3.1 and 10.1).
use Rattle.std.proofs.Common.{◌≡◌, ℕ, suc, ◌*◌, ◌<◌, ◌≤◌, max, Bool, true, false, List, [], ◌∷◌, ◌++◌, length, map, refl, sym, ap, ◌∙◌, arith}
use Rattle.std.specs.Prelude.{Option, Some, None, Result, Ok, Err, IsOk, if◌then◌else◌}
use Rattle.std.specs.Result.{result_map_both}
use Rattle.fz_base.specs.Refusal.{first_refusal}
use Rattle.fz_base.specs.declared.fault.Fault.{Fault}
use Rattle.fz_block.specs.Checks.{Judge, unless_refused, walk_of}
use Rattle.fz_block.specs.Facts.{IsHeaderOf}
use Rattle.fz_block.specs.Walk.{AreHeadersBetween, RefusesNone, is_stop, stops}
use Rattle.fz_block.specs.declared.header.Header.{Header}
use Rattle.fz_grid.specs.Laws.{DividedArraysHaveTiles, TilesHaveAtMostTheirLengths}
use Rattle.fz_grid.specs.Region.{IsDivided, lengths_of}
use Rattle.fz_grid.specs.declared.region.Region.{Region}
use Rattle.fz_grid.specs.declared.sieve.Sieve.{Sieve}
use Rattle.fz_checks.specs.Greatest.{greatest}
use Rattle.fz_checks.specs.JobChecks.{IsImageOf, cut_checks, cut_hdu_checks, image_in, image_to_cut, is_after_empty, missing_hdu}
use Rattle.fz_checks.specs.Judges.{cut_judge, is_wanted}
use Rattle.fz_checks.specs.WorkBuffers.{pixels_of_tile}
use Rattle.fz_head.specs.declared.plan.Plan.{Plan}
use Rattle.fz_files.specs.Buffers.{header_len, plans_behind}
use Rattle.fz_files.specs.Restored.{header_in, pixels_of, plan_in}
use Rattle.fz_files.specs.Walks.{box_of, fault_of_walk, found_headers, header_fault, headers_for, job_walk, last_of, missing_of, reached_by, reached_from}
use Rattle.fz_files.specs.declared.job.Job.TheVariants.{Cut}
use Rattle.fz_job.specs.Judges.{judge_of}
use Rattle.fz_job.specs.Surveys.{by_stop, cut_surveyed, header_len as header_len_seen, headers_seen, packed_tile, stopped_at, survey_of, tile_pixels as tile_seen, unless_missing}
use Rattle.fz_job.specs.declared.checks.JobChecks.TheVariants.{Cut as CutChecks}
use Rattle.fz_job.specs.declared.survey.Survey.{Survey}
use Rattle.fz_cut.specs.Again.{WasSeen}
use Rattle.fz_cut.specs.Known.{IsKnown}
use Rattle.fz_cut.proofs.Walks.{AreFound, BlocksLaw, FactsLaw, HasLast, has_last, last_is, longest_is, or_parts, place_of, stopped_last, stops_last, stops_none, walk_met}

-- the laws that it stands on
pub record TheLaws : Type 0 where
  pub headers : (judge : Judge) (most : ℕ) (file : List ℕ) (hs : List Header) → walk_of judge most file ≡ Ok hs → (0 < length hs) × (length hs ≤ most) × RefusesNone judge hs × ((end : ℕ) × (end ≤ length file) × AreHeadersBetween 0 0 end file hs)
  pub last : (judge : Judge) (most : ℕ) (file : List ℕ) (hs : List Header) (h : Header) → walk_of judge most file ≡ Ok (hs ++ h ∷ []) → stops judge hs ≡ false
  pub found : (judge : Judge) (most : ℕ) (file : List ℕ) (hs : List Header) → walk_of judge most file ≡ Ok hs → AreFound file hs
  pub facts : FactsLaw
  pub blocks : BlocksLaw
  pub image : (h : Header) (header : List ℕ) (after_empty : Bool) (region : Region) → IsHeaderOf header h → first_refusal (cut_checks h header after_empty region) ≡ None → IsImageOf header h (image_in h header)
  pub tiles : DividedArraysHaveTiles
  pub whole : TilesHaveAtMostTheirLengths

-- both name the same checks
pub same_judge : (want : Option ℕ) (region : Region) (file : List ℕ) → judge_of (CutChecks want region) file ≡ cut_judge want region file
unfolding judge_of
same_judge want region file = refl

pub job_is : (want : Option ℕ) (sieve : Sieve) (file : List ℕ) → job_walk (Cut want sieve) file ≡ walk_of (cut_judge want (box_of sieve) file) 65536 file
unfolding job_walk
job_is want sieve file = refl

pub reached_is : (want : Option ℕ) (sieve : Sieve) (file : List ℕ) → reached_by (Cut want sieve) file ≡ reached_from (cut_judge want (box_of sieve) file) 65536 0 0 file
unfolding reached_by
reached_is want sieve file = refl

-- ---- what the job says of an HDU

module _ (want : Option ℕ) (region : Region) (file : List ℕ) where
  abbrev J : Judge
  J = cut_judge want region file

  abbrev wanted : Header → Bool
  wanted h = is_wanted want (header_in file h) h

  wanted_if : (b : Bool) (r : Option Fault) → (if b then unless_refused true r else Ok false) ≡ Ok true → (b ≡ true) × (r ≡ None)
  wanted_if true None says = (refl, refl)
  wanted_if true (Some x) says = absurd cc
  wanted_if false r says = absurd cc

  pub stops_at : (h : Header) → J h ≡ Ok true → (wanted h ≡ true) × (first_refusal (cut_hdu_checks file region h) ≡ None)
  stops_at h says = wanted_if (wanted h) (first_refusal (cut_hdu_checks file region h)) says

  none_if : (b : Bool) (r : Option Fault) → is_stop (if b then unless_refused true r else Ok false) ≡ false → IsOk (if b then unless_refused true r else Ok false) → b ≡ false
  none_if true None says ok = absurd cc
  none_if true (Some x) says ok = absurd cc
  none_if false r says ok = refl

  goes_on : (h : Header) → is_stop (J h) ≡ false → IsOk (J h) → wanted h ≡ false
  goes_on h says ok = none_if (wanted h) (first_refusal (cut_hdu_checks file region h)) says ok

  says_true : (r : Result Bool Fault) → is_stop r ≡ true → r ≡ Ok true
  says_true (Ok b) is = ap Ok is
  says_true (Err x) is = absurd cc

  -- no tile of the HDUs before the last is worked on
  no_tile : (h : Header) → wanted h ≡ false → tile_seen (CutChecks want region) file h ≡ 0
  unfolding tile_seen
  no_tile h none = ap (λ b. if b then packed_tile (header_in file h) else 0) none

  its_tile : (h : Header) → wanted h ≡ true → tile_seen (CutChecks want region) file h ≡ pixels_of_tile (plan_in file h)
  unfolding tile_seen
  its_tile h is = ap (λ b. if b then packed_tile (header_in file h) else 0) is

  pub largest_is : (hs : List Header) (h : Header) → stops J hs ≡ false → RefusesNone J (hs ++ h ∷ []) → wanted h ≡ true → greatest (map (tile_seen (CutChecks want region) file) (hs ++ h ∷ [])) ≡ pixels_of_tile (plan_in file h)
  largest_is [] h none ok is = let one = its_tile h is in omega (arith, one)
  largest_is (j ∷ hs) h none ok is =
      let parts = or_parts (is_stop (J j)) (stops J hs) none in
      let one = no_tile j (goes_on j parts.0 ok.0) in
      let rest = largest_is hs h parts.1 ok.1 is in
      omega (arith, one, rest)

module _ (laws : TheLaws) (want : Option ℕ) (sieve : Sieve) (file : List ℕ) where
  abbrev K : Judge
  K = cut_judge want (box_of sieve) file

  -- the last of some headers is found as they all are
  found_last : (hs : List Header) (h : Header) → AreFound file (hs ++ h ∷ []) → AreFound file (h ∷ [])
  found_last [] h found = found
  found_last (j ∷ hs) h found = found_last hs h (λ k d few. found (suc k) d (omega (arith, few)))

  refuses_last : (hs : List Header) (h : Header) → RefusesNone K (hs ++ h ∷ []) → IsOk (K h)
  refuses_last [] h ok = ok.0
  refuses_last (j ∷ hs) h ok = refuses_last hs h ok.1

  -- what the walk finds, up to the HDU that is cut from
  module _ (s : Survey) (hs : List Header) (h : Header) (walk : walk_of K 65536 file ≡ Ok (hs ++ h ∷ [])) (learnt : survey_of (CutChecks want (box_of sieve)) file (hs ++ h ∷ []) ≡ s) (says : K h ≡ Ok true) where
    abbrev all : List Header
    all = hs ++ h ∷ []

    none_before : stops K hs ≡ false
    none_before = laws.last K 65536 file hs h walk

    each : AreFound file all
    each = laws.found K 65536 file all walk

    passed : (is_wanted want (header_in file h) h ≡ true) × (first_refusal (cut_hdu_checks file (box_of sieve) h) ≡ None)
    passed = stops_at want (box_of sieve) file h says

    header_is : IsHeaderOf (header_in file h) h
    header_is = let at = found_last hs h each 0 h (omega arith) in (laws.facts h.hdu h.start file h at).2

    longest_seen : greatest (map header_len_seen all) ≡ s.header_len
    longest_seen = ap (λ (x : Survey). x.header_len) learnt

    largest_seen : pixels_of_tile (plan_in file h) ≡ s.tile
    largest_seen = sym (largest_is want (box_of sieve) file hs h none_before (laws.headers K 65536 file all walk).2 passed.0) ∙ ap (λ (x : Survey). x.tile) learnt

    is_image : IsImageOf (header_in file h) h (image_in h (header_in file h))
    is_image = laws.image h (header_in file h) (is_after_empty file h) (box_of sieve) header_is passed.1

    divided : IsDivided (plan_in file h).shape (plan_in file h).tile
    divided = is_image.divided

    short_last : (ks : List Header) → 2880 * h.blocks ≤ greatest (map header_len_seen (ks ++ h ∷ []))
    short_last [] = omega arith
    short_last (j ∷ ks) = let rest = short_last ks in omega (arith, rest)

    seen : WasSeen file (box_of sieve) s.header_len s.tile h
    unfolding image_to_cut
    seen = record {
      found = found_last hs h each 0 h (omega arith);
      is_header = header_is;
      short = omega (arith, short_last hs, longest_seen);
      image = image_in h (header_in file h);
      said = ap (unless_refused (image_in h (header_in file h))) passed.1;
      small =
          let p : Plan = plan_in file h in
          let first : pixels_of p 0 ≤ pixels_of_tile p = laws.whole (lengths_of p.shape) (lengths_of p.tile) 0 (laws.tiles p.shape p.tile divided).axes in
          omega (arith, first, largest_seen);
    }

    walk_is : job_walk (Cut want sieve) file ≡ Ok all
    walk_is = job_is want sieve file ∙ walk

    no_missing : missing_of want K file all ≡ None
    no_missing = ap (λ b. if b then None else Some (missing_hdu want (length all) (length file))) (stops_last K hs h (ap is_stop says))

    no_fault : header_fault (Cut want sieve) file ≡ None
    no_fault = ap (fault_of_walk (Cut want sieve) file) walk_is ∙ no_missing

    headers_are : headers_for (Cut want sieve) file ≡ all
    headers_are = ap found_headers walk_is

    last : last_of (headers_for (Cut want sieve) file) ≡ h ∷ []
    last = ap last_of headers_are ∙ last_is hs h

    met : reached_by (Cut want sieve) file ≡ map place_of all
    met = reached_is want sieve file ∙ walk_met laws.facts K file 65536 0 0 all walk

    pub known_by : s.stopped ≡ Some h → IsKnown want sieve file s
    known_by stopped = record {
      from = h;
      stopped = stopped;
      seen = seen;
      last = last;
      no_fault = no_fault;
      longest = ap (λ rs. greatest (map (header_len file) rs)) met ∙ longest_is laws.blocks file all each ∙ longest_seen;
      largest = ap (λ (f : Option Fault). greatest (map pixels_of_tile (plans_behind f (Cut want sieve) file))) no_fault
          ∙ ap (λ (l : List Header). greatest (map pixels_of_tile (map (plan_in file) l))) last
          ∙ (let one : max (pixels_of_tile (plan_in file h)) 0 ≡ pixels_of_tile (plan_in file h) = omega arith in one) ∙ largest_seen;
    }

  -- ---- by what the survey answers

  same_walk : headers_seen (CutChecks want (box_of sieve)) file ≡ walk_of K 65536 file
  same_walk = ap (λ (j : Judge). walk_of j 65536 file) (same_judge want (box_of sieve) file)

  -- it stops at the last header, or at none
  stop_case : (hs : List Header) (parts : HasLast hs) (h : Header) → walk_of K 65536 file ≡ Ok hs → stopped_at (judge_of (CutChecks want (box_of sieve)) file) hs ≡ Some h → (K parts.last ≡ Ok true) × (parts.last ≡ h)
  stop_case hs parts h walk stopped =
      let walk' : walk_of K 65536 file ≡ Ok (parts.before ++ parts.last ∷ []) = walk ∙ ap Ok parts.parts in
      let none : stops K parts.before ≡ false = laws.last K 65536 file parts.before parts.last walk' in
      let at : (if is_stop (K parts.last) then Some parts.last else None) ≡ Some h =
      sym (stopped_last K parts.before parts.last none) ∙ ap (stopped_at K) (sym parts.parts) ∙ ap (λ (j : Judge). stopped_at j hs) (sym (same_judge want (box_of sieve) file)) ∙ stopped in
      by_stop_at (is_stop (K parts.last)) refl at
    where
      by_stop_at : (b : Bool) → is_stop (K parts.last) ≡ b → (if b then Some parts.last else None) ≡ Some h → (K parts.last ≡ Ok true) × (parts.last ≡ h)
      by_stop_at true is e = (says_true want (box_of sieve) file (K parts.last) is, cc)
      by_stop_at false is e = absurd cc

  none_case : (hs : List Header) (parts : HasLast hs) → walk_of K 65536 file ≡ Ok hs → stopped_at (judge_of (CutChecks want (box_of sieve)) file) hs ≡ None → stops K hs ≡ false
  none_case hs parts walk stopped =
      let walk' : walk_of K 65536 file ≡ Ok (parts.before ++ parts.last ∷ []) = walk ∙ ap Ok parts.parts in
      let none : stops K parts.before ≡ false = laws.last K 65536 file parts.before parts.last walk' in
      let at : (if is_stop (K parts.last) then Some parts.last else None) ≡ None =
      sym (stopped_last K parts.before parts.last none) ∙ ap (stopped_at K) (sym parts.parts) ∙ ap (λ (j : Judge). stopped_at j hs) (sym (same_judge want (box_of sieve) file)) ∙ stopped in
      ap (stops K) parts.parts ∙ stops_none K parts.before parts.last none (by_none (is_stop (K parts.last)) refl at)
    where
      by_none : (b : Bool) → is_stop (K parts.last) ≡ b → (if b then Some parts.last else None) ≡ None → is_stop (K parts.last) ≡ false
      by_none true is e = absurd cc
      by_none false is e = is

  known_in : (s : Survey) (hs : List Header) (h : Header) → walk_of K 65536 file ≡ Ok hs → survey_of (CutChecks want (box_of sieve)) file hs ≡ s → s.stopped ≡ Some h → IsKnown want sieve file s
  known_in s hs h walk learnt stopped =
      let parts = has_last hs (laws.headers K 65536 file hs walk).0 in
      let here : stopped_at (judge_of (CutChecks want (box_of sieve)) file) hs ≡ Some h = ap (λ (x : Survey). x.stopped) learnt ∙ stopped in
      let both = stop_case hs parts h walk here in
      known_by s parts.before parts.last (walk ∙ ap Ok parts.parts) (ap (survey_of (CutChecks want (box_of sieve)) file) (sym parts.parts) ∙ learnt) both.0 (stopped ∙ ap Some (sym both.1))

  by_stopped : (s s' : Survey) (o : Option Header) → s'.stopped ≡ o → by_stop want file s' o ≡ Ok s → (s' ≡ s) × ((h : Header) × (o ≡ Some h))
  by_stopped s s' None is e = absurd cc
  by_stopped s s' (Some h) is e = (cc, (h, refl))

  by_seen : (s : Survey) (r : Result (List Header) Fault) → headers_seen (CutChecks want (box_of sieve)) file ≡ r →
      unless_missing want file (result_map_both (survey_of (CutChecks want (box_of sieve)) file) (λ x. x) r) ≡ Ok s → IsKnown want sieve file s
  by_seen s (Ok hs) is e =
      let s' : Survey = survey_of (CutChecks want (box_of sieve)) file hs in
      let both = by_stopped s s' s'.stopped refl e in
      known_in s hs both.1.0 (sym same_walk ∙ is) both.0 (ap (λ (x : Survey). x.stopped) (sym both.0) ∙ both.1.1)
  by_seen s (Err x) is e = absurd cc

  pub is_known : (s : Survey) → cut_surveyed want (box_of sieve) file ≡ Ok s → IsKnown want sieve file s
  is_known s e = by_seen s (headers_seen (CutChecks want (box_of sieve)) file) refl e

  by_missing : (s' : Survey) (x : Fault) (o : Option Header) → s'.stopped ≡ o → by_stop want file s' o ≡ Err x → (o ≡ None) × (missing_hdu want s'.hdus (length file) ≡ x)
  by_missing s' x None is e = (refl, cc)
  by_missing s' x (Some h) is e = absurd cc

  by_refused : (x : Fault) (r : Result (List Header) Fault) → headers_seen (CutChecks want (box_of sieve)) file ≡ r →
      unless_missing want file (result_map_both (survey_of (CutChecks want (box_of sieve)) file) (λ x. x) r) ≡ Err x → header_fault (Cut want sieve) file ≡ Some x
  by_refused x (Ok hs) is e =
      let s' : Survey = survey_of (CutChecks want (box_of sieve)) file hs in
      let walk : walk_of K 65536 file ≡ Ok hs = sym same_walk ∙ is in
      let both = by_missing s' x s'.stopped refl e in
      let parts = has_last hs (laws.headers K 65536 file hs walk).0 in
      let none : stops K hs ≡ false = none_case hs parts walk both.0 in
      ap (fault_of_walk (Cut want sieve) file) (job_is want sieve file ∙ walk)
      ∙ ap (λ b. if b then None else Some (missing_hdu want (length hs) (length file))) none ∙ ap Some both.1
  by_refused x (Err y) is e =
      let same : y ≡ x = cc in
      ap (fault_of_walk (Cut want sieve) file) (job_is want sieve file ∙ sym same_walk ∙ is) ∙ ap Some same

  pub is_refused : (x : Fault) → cut_surveyed want (box_of sieve) file ≡ Err x → header_fault (Cut want sieve) file ≡ Some x
  is_refused x e = by_refused x (headers_seen (CutChecks want (box_of sieve)) file) refl e
