-- The walk over the headers of a file ends at the HDU that is rejected.
use Rattle.std.proofs.Common.{◌≡◌, ◌⊎◌, inl, inr, ℕ, zero, suc, ◌+◌, ◌<◌, ◌==◌, Bool, true, false, List, [], ◌∷◌, ◌++◌, length, Some, Result, Ok, Err, if◌then◌else◌, refl, sym, ◌∙◌, ap, arith}
use Rattle.fz_base.specs.Refusal.{refusal}
use Rattle.fz_base.specs.declared.fault.Fault.{Fault}
use Rattle.fz_base.specs.declared.fault.Place.TheVariants.{Byte}
use Rattle.fz_base.specs.declared.kind.Kind.TheVariants.{Limit}
use Rattle.fz_block.specs.Checks.{Judge, by_judgement, followed_by, hdu_at, judged, walk_from, walk_of}
use Rattle.fz_block.specs.Header.{next_start_of}
use Rattle.fz_block.specs.declared.header.Header.{Header}
use Rattle.fz_files.specs.declared.job.Job.{Job}
use Rattle.fz_files.specs.declared.job.Job.TheVariants.{Pack, Unpack, Cut, Verify, List as ListHdus, Drill, Retile}
use Rattle.fz_files.specs.Ends.{EndsAtTheFault, EndsAtTheLimit, EndsWithTheFile, IsRejectedAt, judge_for, most_for}
use Rattle.fz_files.specs.Walks.{Reached, fault_of_walk, header_fault, job_walk, reached_after, reached_behind, reached_by, reached_from}
use Rattle.fz_files.proofs.FaultHduLemmas.{hdu_fault, judge_hdu}
use Rattle.fz_files.proofs.ReachedLemmas.{HeaderIsFound, reaches_from}

-- HDUs from number k on, of which the last is rejected
record StopsAt (judge : Judge) (k : ℕ) (file : List ℕ) (rs : List Reached) (x : Fault) : Type 0 where
  before : List Reached
  last : Reached
  ends : rs ≡ before ++ last ∷ []
  number : last.hdu ≡ k + length before
  rejected : IsRejectedAt judge file last x

-- the byte after the last of some HDUs, or this one if there are none
abbrev IsAfter : List ℕ → ℕ → List Reached → ℕ → Type 0
IsAfter file start [] byte = byte ≡ start
IsAfter file start (r ∷ rs) byte = (h : Header) × (hdu_at r.hdu r.start file ≡ Ok h) × IsAfter file (next_start_of h) rs byte

-- as many as there may be
record RunsOut (more k start : ℕ) (file : List ℕ) (rs : List Reached) (x : Fault) : Type 0 where
  many : length rs ≡ more
  byte : ℕ
  after : IsAfter file start rs byte
  fault : x ≡ refusal (k + more) (Byte byte) Limit

abbrev EndsFrom : Judge → ℕ → ℕ → ℕ → List ℕ → Fault → Type 0
EndsFrom judge more k start file x = StopsAt judge k file (reached_from judge more k start file) x ⊎ RunsOut more k start file (reached_from judge more k start file) x

ends_from : (judge : Judge) (more k start : ℕ) (file : List ℕ) (x : Fault) → walk_from judge more k start file ≡ Err x → EndsFrom judge more k start file x
unfolding walk_from reached_from
ends_from judge zero k start file x is =
    let same : x ≡ refusal k (Byte start) Limit = cc in
    let count : k ≡ k + 0 = omega arith in
    inr (record { many = refl; byte = start; after = refl; fault = same ∙ ap (λ n. refusal n (Byte start) Limit) count })
ends_from judge (suc more) k start file x is = by_here (λ h. ends_from judge more (suc k) (next_start_of h) file x) (hdu_at k start file) refl is
  where
    here : Reached
    here = record { hdu = k; start = start }

    first : IsRejectedAt judge file here x → StopsAt judge k file (here ∷ []) x
    first rejected = record { before = []; last = here; ends = refl; number = omega arith; rejected = rejected }

    later : (h : Header) → hdu_at k start file ≡ Ok h → (rs : List Reached) → StopsAt judge (suc k) file rs x ⊎ RunsOut more (suc k) (next_start_of h) file rs x →
        StopsAt judge k file (here ∷ rs) x ⊎ RunsOut (suc more) k start file (here ∷ rs) x
    later h found rs (inl s) = inl (record { before = here ∷ s.before; last = s.last; ends = ap (λ l. here ∷ l) s.ends; number = omega (arith, s.number); rejected = s.rejected })
    later h found rs (inr r) =
        let count : suc k + more ≡ k + suc more = omega arith in
        inr (record { many = omega (arith, r.many); byte = r.byte; after = (h, found, r.after); fault = r.fault ∙ ap (λ n. refusal n (Byte r.byte) Limit) count })

    by_rest : (h : Header) → hdu_at k start file ≡ Ok h → (walk_from judge more (suc k) (next_start_of h) file ≡ Err x → EndsFrom judge more (suc k) (next_start_of h) file x) →
        (rest : Result (List Header) Fault) → walk_from judge more (suc k) (next_start_of h) file ≡ rest → followed_by h rest ≡ Err x →
        StopsAt judge k file (here ∷ reached_from judge more (suc k) (next_start_of h) file) x ⊎ RunsOut (suc more) k start file (here ∷ reached_from judge more (suc k) (next_start_of h) file) x
    by_rest h found ends (Err y) walk is =
        let same : y ≡ x = cc in
        later h found (reached_from judge more (suc k) (next_start_of h) file) (ends (walk ∙ ap Err same))
    by_rest h found ends (Ok hs) walk is = absurd cc

    by_last : (h : Header) → hdu_at k start file ≡ Ok h → (walk_from judge more (suc k) (next_start_of h) file ≡ Err x → EndsFrom judge more (suc k) (next_start_of h) file x) → (last : Bool) →
        (if last then Ok (h ∷ []) else followed_by h (walk_from judge more (suc k) (next_start_of h) file)) ≡ Err x →
        StopsAt judge k file (here ∷ (if last then [] else reached_from judge more (suc k) (next_start_of h) file)) x
        ⊎ RunsOut (suc more) k start file (here ∷ (if last then [] else reached_from judge more (suc k) (next_start_of h) file)) x
    by_last h found ends true is = absurd cc
    by_last h found ends false is = by_rest h found ends (walk_from judge more (suc k) (next_start_of h) file) refl is

    by_judge : (h : Header) → hdu_at k start file ≡ Ok h → (walk_from judge more (suc k) (next_start_of h) file ≡ Err x → EndsFrom judge more (suc k) (next_start_of h) file x) →
        (says : Result Bool Fault) → judge h ≡ says → by_judgement file h (walk_from judge more (suc k) (next_start_of h) file) says ≡ Err x →
        StopsAt judge k file (here ∷ reached_behind file h (reached_from judge more (suc k) (next_start_of h) file) says) x
        ⊎ RunsOut (suc more) k start file (here ∷ reached_behind file h (reached_from judge more (suc k) (next_start_of h) file) says) x
    by_judge h found ends (Err y) says is =
        let same : y ≡ x = cc in
        inl (first (inr (h, found, says ∙ ap Err same)))
    by_judge h found ends (Ok true) says is = absurd cc
    by_judge h found ends (Ok false) says is = by_last h found ends (next_start_of h == length file) is

    by_here : ((h : Header) → walk_from judge more (suc k) (next_start_of h) file ≡ Err x → EndsFrom judge more (suc k) (next_start_of h) file x) →
        (r : Result Header Fault) → hdu_at k start file ≡ r → judged file judge (λ h. walk_from judge more (suc k) (next_start_of h) file) r ≡ Err x →
        StopsAt judge k file (here ∷ reached_after file judge (λ h. reached_from judge more (suc k) (next_start_of h) file) r) x
        ⊎ RunsOut (suc more) k start file (here ∷ reached_after file judge (λ h. reached_from judge more (suc k) (next_start_of h) file) r) x
    by_here ends (Err y) found is =
        let same : y ≡ x = cc in
        inl (first (inl (found ∙ ap Err same)))
    by_here ends (Ok h) found is = by_judge h found (ends h) (judge h) refl is

-- the fault is of the HDU that is rejected
fault_there : HeaderIsFound → (job : Job) (file : List ℕ) (r : Reached) (x : Fault) → IsRejectedAt (judge_for job file) file r x → x.hdu ≡ r.hdu
fault_there find job file r x (inl e) = hdu_fault r.hdu r.start file x e
fault_there find job file r x (inr (h, found, says)) = judge_hdu job file h x says ∙ (find r.hdu r.start file h found).0

-- ---- the whole file

-- the last of some HDUs, and the byte after it
record EndsBefore (file : List ℕ) (rs : List Reached) (byte : ℕ) : Type 0 where
  before : List Reached
  last : Reached
  ends : rs ≡ before ++ last ∷ []
  header : Header
  found : hdu_at last.hdu last.start file ≡ Ok header
  place : byte ≡ next_start_of header

ends_before : (file : List ℕ) (start : ℕ) (rs : List Reached) (byte : ℕ) → 0 < length rs → IsAfter file start rs byte → EndsBefore file rs byte
ends_before file start [] byte some after = absurd omega (arith, some)
ends_before file start (r ∷ []) byte some (h, found, place) = record { before = []; last = r; ends = refl; header = h; found = found; place = place }
ends_before file start (r ∷ (s ∷ rs)) byte some (h, found, after) =
    let b : EndsBefore file (s ∷ rs) byte = ends_before file (next_start_of h) (s ∷ rs) byte (omega arith) after in
    record { before = r ∷ b.before; last = b.last; ends = ap (λ l. r ∷ l) b.ends; header = b.header; found = b.found; place = b.place }

abbrev Ends : Job → List ℕ → Fault → Type 0
Ends job file x = EndsAtTheFault job file x ⊎ (EndsAtTheLimit job file x ⊎ EndsWithTheFile job file x)

-- the walk of a job over the whole file
record IsWalk (job : Job) (file : List ℕ) : Type 0 where
  some : 0 < most_for job
  walk : job_walk job file ≡ walk_of (judge_for job file) (most_for job) file
  reached : reached_by job file ≡ reached_from (judge_for job file) (most_for job) 0 0 file

module _ (find : HeaderIsFound) (job : Job) (file : List ℕ) (x : Fault) (w : IsWalk job file) where
  by_end : EndsFrom (judge_for job file) (most_for job) 0 0 file x → Ends job file x
  by_end (inl s) = inl (record {
    before = s.before;
    last = s.last;
    ends = w.reached ∙ s.ends;
    number = omega (arith, s.number);
    rejected = s.rejected;
    hdu = fault_there find job file s.last x s.rejected;
  })
  by_end (inr r) =
      let count : 0 + most_for job ≡ most_for job = omega arith in
      let b : EndsBefore file (reached_from (judge_for job file) (most_for job) 0 0 file) r.byte =
      ends_before file 0 (reached_from (judge_for job file) (most_for job) 0 0 file) r.byte (omega (arith, r.many, w.some)) r.after in
      inr (inl (record {
        many = ap length w.reached ∙ r.many;
        before = b.before;
        last = b.last;
        ends = w.reached ∙ b.ends;
        header = b.header;
        found = b.found;
        fault = r.fault ∙ (λ i. refusal (count i) (Byte (b.place i)) Limit);
      }))

  by_walk : (found : Result (List Header) Fault) → job_walk job file ≡ found → fault_of_walk job file found ≡ Some x → Ends job file x
  by_walk (Err y) is e =
      let same : y ≡ x = cc in
      by_end (ends_from (judge_for job file) (most_for job) 0 0 file x (sym w.walk ∙ (is ∙ ap Err same)))
  by_walk (Ok hs) is e = inr (inr (record { found = hs; walk = is; reached = w.reached ∙ reaches_from find (judge_for job file) (most_for job) 0 0 file hs (sym w.walk ∙ is); missing = e }))

walk_is : (job : Job) (file : List ℕ) (x : Fault) → header_fault job file ≡ Some x → IsWalk job file
unfolding job_walk reached_by
walk_is (Pack o) file x e = record { some = omega arith; walk = refl; reached = refl }
walk_is Unpack file x e = record { some = omega arith; walk = refl; reached = refl }
walk_is (Cut wanted sieve) file x e = record { some = omega arith; walk = refl; reached = refl }
walk_is Verify file x e = record { some = omega arith; walk = refl; reached = refl }
walk_is ListHdus file x e = record { some = omega arith; walk = refl; reached = refl }
walk_is (Drill rows) file x e = absurd cc
walk_is (Retile o) file x e = record { some = omega arith; walk = refl; reached = refl }

pub walks_end : HeaderIsFound → (job : Job) (file : List ℕ) (x : Fault) → header_fault job file ≡ Some x → EndsAtTheFault job file x ⊎ (EndsAtTheLimit job file x ⊎ EndsWithTheFile job file x)
walks_end find job file x e = by_walk find job file x (walk_is job file x e) (job_walk job file) refl e
