-- The walks by which a patch finds its image.
use Rattle.std.proofs.Common.{◌≡◌, ◌⊎◌, inl, inr, ℕ, zero, suc, ◌+◌, ◌*◌, ◌/◌, ◌<◌, ◌≤◌, ◌==◌, ◌||◌, Bool, true, false, List, [], ◌∷◌, ◌++◌, length, All, Option, Some, None, Result, Ok, Err, if◌then◌else◌, refl, sym, ap, ◌∙◌, subst, arith, eq-eqb}
use Rattle.fz_base.specs.declared.fault.Fault.{Fault}
use Rattle.fz_block.specs.Checks.{Judge, hdu_at, headers_of, unjudged, walk_from, walk_of}
use Rattle.fz_block.specs.Header.{data_start_of, next_start_of, whole_blocks_of}
use Rattle.fz_block.specs.Walk.{hdu_of, is_stop, stops}
use Rattle.fz_block.specs.declared.header.Header.{Header}
use Rattle.fz_checks.specs.JobChecks.{missing_hdu}
use Rattle.fz_files.specs.Walks.{last_of}
use Rattle.fz_laws.specs.PatchChecks.{find_judge, if_all_pass, if_patchable, last_or, patch_target, wanted_among, wanted_image}
use Rattle.fz_laws.specs.Given.{PatchJob}
use Rattle.fz_laws.specs.PatchTaken.{HduLaws}
use Rattle.fz_laws.proofs.AlikeFiles.{header_length, some_blocks}
use Rattle.fz_laws.proofs.AlikeWalks.{Ended, Stopped, Went, either, last_later, no_walk, same_here, same_last, starts_before, step}
use Rattle.fz_laws.proofs.OnePatch.{target_wanted}
use Rattle.fz_laws.proofs.TargetFacts.{HasTarget}

-- ---- the wanted image

pub record WantedWalk (file : List ℕ) (wanted : Option ℕ) (h : Header) : Type 0 where
  pub found : List Header
  pub walk : walk_of (find_judge wanted file) 65536 file ≡ Ok found
  pub stop : stops (find_judge wanted file) found ≡ true
  pub last : last_of found ≡ h ∷ []

last_is : (fault : Fault) (hs : List Header) (h : Header) → last_or fault hs ≡ Ok h → last_of hs ≡ h ∷ []
last_is fault [] h e = absurd cc
last_is fault (k ∷ []) h e = let same : k ≡ h = cc in ap (λ x. x ∷ []) same
last_is fault (k ∷ j ∷ hs) h e = last_is fault (j ∷ hs) h e

pub wanted_walk : (file : List ℕ) (wanted : Option ℕ) (h : Header) → wanted_image wanted file ≡ Ok h → WantedWalk file wanted h
wanted_walk file wanted h e = by_walk (walk_of (find_judge wanted file) 65536 file) refl e
  where
    by_stop : (hs : List Header) (stop : Bool) → walk_of (find_judge wanted file) 65536 file ≡ Ok hs → stops (find_judge wanted file) hs ≡ stop →
        (if stop then last_or (missing_hdu wanted (length hs) (length file)) hs else Err (missing_hdu wanted (length hs) (length file))) ≡ Ok h → WantedWalk file wanted h
    by_stop hs false walk stop is = absurd cc
    by_stop hs true walk stop is = record { found = hs; walk = walk; stop = stop; last = last_is (missing_hdu wanted (length hs) (length file)) hs h is }

    by_walk : (r : Result (List Header) Fault) → walk_of (find_judge wanted file) 65536 file ≡ r → wanted_among wanted file r ≡ Ok h → WantedWalk file wanted h
    by_walk (Err x) walk is = absurd cc
    by_walk (Ok hs) walk is = by_stop hs (stops (find_judge wanted file) hs) walk refl is

-- the search stops at it
pub stops_last : (judge : Judge) (h : Header) (file : List ℕ) (more k start : ℕ) (ks : List Header) → walk_from judge more k start file ≡ Ok ks → stops judge ks ≡ true → last_of ks ≡ h ∷ [] →
    (judge h ≡ Ok true)
stops_last judge h file zero k start ks walk stop last = absurd (no_walk judge k start file ks walk)
stops_last judge h file (suc more) k start ks walk stop last = by_step (λ j from rest. stops_last judge h file more j from rest) (step judge more k start file ks walk)
  where
    by_step : ((j from : ℕ) (rest : List Header) → walk_from judge more j from file ≡ Ok rest → stops judge rest ≡ true → last_of rest ≡ h ∷ [] → judge h ≡ Ok true) →
        Stopped judge k start file ks ⊎ (Ended judge k start file ks ⊎ Went judge more k start file ks) → judge h ≡ Ok true
    by_step again (inl s) = sym (ap judge (same_last h s.here (sym (ap last_of s.all) ∙ last))) ∙ s.says
    by_step again (inr (inl s)) =
        let none : stops judge ks ≡ false = ap (stops judge) s.all ∙ ap (λ v. is_stop v || false) s.says in
        absurd cc
    by_step again (inr (inr s)) =
        let stop_on : stops judge s.rest ≡ true = either (is_stop (judge s.here)) (stops judge s.rest) false (ap is_stop s.says) (sym (ap (stops judge) s.all) ∙ stop) in
        let last_on : last_of s.rest ≡ h ∷ [] = sym (last_later h s.here judge more (suc k) (next_start_of s.here) file s.rest s.walk) ∙ (sym (ap last_of s.all) ∙ last) in
        again (suc k) (next_start_of s.here) s.rest s.walk stop_on last_on

-- and finds it where it begins
pub last_found : (laws : HduLaws) (judge : Judge) (h : Header) (file : List ℕ) (more k start : ℕ) (ks : List Header) → walk_from judge more k start file ≡ Ok ks → last_of ks ≡ h ∷ [] → hdu_at h.hdu h.start file ≡ Ok h
last_found laws judge h file zero k start ks walk last = absurd (no_walk judge k start file ks walk)
last_found laws judge h file (suc more) k start ks walk last = by_step (λ j from rest. last_found laws judge h file more j from rest) (step judge more k start file ks walk)
  where
    at_here : (e : Header) → hdu_at k start file ≡ Ok e → e ≡ h → hdu_at h.hdu h.start file ≡ Ok h
    at_here e found same =
        let facts = laws.facts k start file e found in
        subst (λ (x : Header). hdu_at x.hdu x.start file ≡ Ok x) same ((λ j. hdu_at (facts.0 j) (facts.1 j) file) ∙ found)

    by_step : ((j from : ℕ) (rest : List Header) → walk_from judge more j from file ≡ Ok rest → last_of rest ≡ h ∷ [] → hdu_at h.hdu h.start file ≡ Ok h) →
        Stopped judge k start file ks ⊎ (Ended judge k start file ks ⊎ Went judge more k start file ks) → hdu_at h.hdu h.start file ≡ Ok h
    by_step again (inl s) = at_here s.here s.found (same_last h s.here (sym (ap last_of s.all) ∙ last))
    by_step again (inr (inl s)) = at_here s.here s.found (same_last h s.here (sym (ap last_of s.all) ∙ last))
    by_step again (inr (inr s)) =
        again (suc k) (next_start_of s.here) s.rest s.walk (sym (last_later h s.here judge more (suc k) (next_start_of s.here) file s.rest s.walk) ∙ (sym (ap last_of s.all) ∙ last))

-- ---- all HDUs

-- an HDU that ends with the file is the last of all
pub last_of_all : (judge : Judge) (h : Header) (file : List ℕ) → (next_start_of h == length file) ≡ true → (more k start : ℕ) (hs ks : List Header) → walk_from unjudged more k start file ≡ Ok hs →
    walk_from judge more k start file ≡ Ok ks → last_of ks ≡ h ∷ [] → last_of hs ≡ h ∷ []
last_of_all judge h file ends zero k start hs ks all walk last = absurd (no_walk judge k start file ks walk)
last_of_all judge h file ends (suc more) k start hs ks all walk last =
    by_step (λ j from hs ks. last_of_all judge h file ends more j from hs ks) (step unjudged more k start file hs all) (step judge more k start file ks walk)
  where
    Again : Type 0
    Again = (j from : ℕ) (hs ks : List Header) → walk_from unjudged more j from file ≡ Ok hs → walk_from judge more j from file ≡ Ok ks → last_of ks ≡ h ∷ [] → last_of hs ≡ h ∷ []

    -- the other walk ends here
    here_too : (e : Header) → hdu_at k start file ≡ Ok e → e ≡ h → Stopped unjudged k start file hs ⊎ (Ended unjudged k start file hs ⊎ Went unjudged more k start file hs) → last_of hs ≡ h ∷ []
    here_too e found same (inl u) = let says = u.says in absurd cc
    here_too e found same (inr (inl u)) =
        let one : u.here ≡ e = same_here e u.here (hdu_at k start file) found u.found in
        ap last_of u.all ∙ ap (λ x. x ∷ []) (one ∙ same)
    here_too e found same (inr (inr u)) =
        let one : u.here ≡ e = same_here e u.here (hdu_at k start file) found u.found in
        let next : (next_start_of h == length file) ≡ false = sym (ap (λ (x : Header). next_start_of x == length file) (one ∙ same)) ∙ u.next in
        absurd cc

    later_too : Again → (s : Went judge more k start file ks) → Stopped unjudged k start file hs ⊎ (Ended unjudged k start file hs ⊎ Went unjudged more k start file hs) → last_of hs ≡ h ∷ []
    later_too again s (inl u) = let says = u.says in absurd cc
    later_too again s (inr (inl u)) =
        let one : u.here ≡ s.here = same_here s.here u.here (hdu_at k start file) s.found u.found in
        let end : (next_start_of s.here == length file) ≡ true = sym (ap (λ (x : Header). next_start_of x == length file) one) ∙ u.last in
        let next = s.next in
        absurd cc
    later_too again s (inr (inr u)) =
        let one : u.here ≡ s.here = same_here s.here u.here (hdu_at k start file) s.found u.found in
        let walk_on : walk_from unjudged more (suc k) (next_start_of s.here) file ≡ Ok u.rest = ap (λ (x : Header). walk_from unjudged more (suc k) (next_start_of x) file) (sym one) ∙ u.walk in
        let last_on : last_of s.rest ≡ h ∷ [] = sym (last_later h s.here judge more (suc k) (next_start_of s.here) file s.rest s.walk) ∙ (sym (ap last_of s.all) ∙ last) in
        ap last_of u.all ∙ (last_later h u.here unjudged more (suc k) (next_start_of u.here) file u.rest u.walk ∙ again (suc k) (next_start_of s.here) u.rest s.rest walk_on s.walk last_on)

    by_step : Again → Stopped unjudged k start file hs ⊎ (Ended unjudged k start file hs ⊎ Went unjudged more k start file hs) →
        Stopped judge k start file ks ⊎ (Ended judge k start file ks ⊎ Went judge more k start file ks) → last_of hs ≡ h ∷ []
    by_step again u (inl s) = here_too s.here s.found (same_last h s.here (sym (ap last_of s.all) ∙ last)) u
    by_step again u (inr (inl s)) = here_too s.here s.found (same_last h s.here (sym (ap last_of s.all) ∙ last)) u
    by_step again u (inr (inr s)) = later_too again s u

pub record HasAll (file : List ℕ) (h : Header) : Type 0 where
  pub headers : List Header
  pub is : headers_of 65536 file ≡ Ok headers
  pub last : last_of headers ≡ h ∷ []
  pub found : hdu_at h.hdu h.start file ≡ Ok h

pub all_headers : HduLaws → (file patch : List ℕ) (job : PatchJob) (h : Header) → patch_target file patch job ≡ Ok h → next_start_of h ≡ length file → HasAll file h
unfolding patch_target
all_headers laws file patch job h target ends = by_headers (headers_of 65536 file) refl target
  where
    w : WantedWalk file job.wanted h
    w = wanted_walk file job.wanted h (target_wanted file patch job h target)

    by_headers : (r : Result (List Header) Fault) → headers_of 65536 file ≡ r → if_all_pass r (if_patchable file patch job (wanted_image job.wanted file)) ≡ Ok h → HasAll file h
    by_headers (Err x) is e = absurd cc
    by_headers (Ok hs) is e = record {
      headers = hs;
      is = is;
      last = last_of_all (find_judge job.wanted file) h file (eq-eqb (next_start_of h) (length file) ends) 65536 0 0 hs w.found is w.walk w.last;
      found = last_found laws (find_judge job.wanted file) h file 65536 0 0 w.found w.walk w.last;
    }

-- the first HDU of a file lies before one that is not the first
pub first_ends : (laws : HduLaws) (file : List ℕ) (h : Header) → HasAll file h → 0 < h.hdu → 2880 ≤ h.start
first_ends laws file h all later = by_step (step unjudged 65535 0 0 file all.headers all.is)
  where
    by_step : Stopped unjudged 0 0 file all.headers ⊎ (Ended unjudged 0 0 file all.headers ⊎ Went unjudged 65535 0 0 file all.headers) → 2880 ≤ h.start
    by_step (inl s) = let says = s.says in absurd cc
    by_step (inr (inl s)) =
        let same : s.here ≡ h = same_last h s.here (sym (ap last_of s.all) ∙ all.last) in
        let first : s.here.hdu ≡ 0 = (laws.facts 0 0 file s.here s.found).0 in
        let number : s.here.hdu ≡ h.hdu = ap (λ (x : Header). x.hdu) same in
        absurd (omega arith)
    by_step (inr (inr s)) =
        let last_on : last_of s.rest ≡ h ∷ [] = sym (last_later h s.here unjudged 65535 1 (next_start_of s.here) file s.rest s.walk) ∙ (sym (ap last_of s.all) ∙ all.last) in
        let low : next_start_of s.here ≤ h.start = starts_before laws file h 65535 1 (next_start_of s.here) s.rest s.walk last_on in
        let long : length (hdu_of file s.here).header ≡ 2880 * s.here.blocks = header_length laws 0 0 file s.here s.found in
        let some : 2880 ≤ length (hdu_of file s.here).header = some_blocks laws 0 0 file s.here s.found in
        omega arith
