-- What is promised of the answer to the words of `patch`: what the job says of its files since they were attached, and what holds if one of
-- them could not be.
use Rattle.std.proofs.Common.{◌≡◌, ℕ, List, refl, sym, ap, ◌∙◌, subst, arith, inl, inr}
use Rattle.std.specs.Prelude.{◌⊎◌, Option, Some, None, IfSome, IsSome, Result, Ok, Err, OnOk}
use Rattle.fz_base.specs.Counts.{Amended, CountsKept, Rose, Tally, nameless}
use Rattle.fz_base.specs.Meter.{Gauge, narrowed}
use Rattle.fz_base.specs.Names.{with_name}
use Rattle.fz_base.specs.Stop.{IfRefused}
use Rattle.fz_base.specs.Store.{StoreKept}
use Rattle.fz_base.specs.Takings.{first_past}
use Rattle.fz_base.specs.declared.fault.Fault.{Fault}
use Rattle.fz_base.specs.declared.failure.Stop.{Stop}
use Rattle.fz_base.specs.declared.failure.Stop.TheVariants.{Refused as StopRefused, ReadFault as StopRead, WriteFault as StopWrite, OverLimit as StopLimit, NoMemory as StopMemory}
use Rattle.fz_job.specs.Clauses.{IfOverLimit, IsChanged, IsOfSomeRow}
use Rattle.fz_patch.specs.Clauses.{AnswersPatch, HasPatchCause, IsPatchedBy, IsUnwritten, KeepsPatchBuffers, LeavesSafe, TakingsOfBoth, TellsPatchFault}
use Rattle.fz_target.specs.Ends.{SameCounts}
use Rattle.fz_target.specs.Told.{IfBoth}
use Rattle.fz_laws.specs.PatchBuffers.{patch_takings}
use Rattle.fz_laws.specs.Given.{PatchJob}
use Rattle.fz_words.specs.PatchJobs.{PatchAsked}
use Rattle.fz_app.specs.PatchPromises.{IfOpened, OpensBoth, PatchEnds, PatchNames, job_asked, patch_limit}
use Rattle.fz_app.proofs.JobAnswers.{on_ok}
use Rattle.fz_app.proofs.Tallies.{kept_from}

both_always : (held given : Option (List ℕ)) (P : List ℕ → List ℕ → Type 0) → ((file by : List ℕ) → P file by) → IfBoth held given P
both_always None given P f = tt
both_always (Some file) None P f = tt
both_always (Some file) (Some by) P f = f file by

both_weaker : (held given : Option (List ℕ)) (P Q : List ℕ → List ℕ → Type 0) → ((file by : List ℕ) → P file by → Q file by) → IfBoth held given P → IfBoth held given Q
both_weaker None given P Q f p = tt
both_weaker (Some file) None P Q f p = tt
both_weaker (Some file) (Some by) P Q f p = f file by p

-- ---- counts

-- a store that was only read is kept
pub store_kept : (before now : Tally) → CountsKept before now → StoreKept before now
store_kept before now k =
    let same : now.amended.faults ≡ before.amended.faults = ap (λ (a : Amended). a.faults) k.not_amended in
    record {
      faults_kept = k.faults_kept;
      wants_kept = k.wants_kept;
      write_faults_kept = omega (arith, same);
      settled_kept = omega (arith, ap (λ (a : Amended). a.settled) k.not_amended);
      faults_stay = k.faults_stay;
      wants_stay = k.wants_stay;
      write_faults_stay = λ full. same ∙ full;
      names_kept = k.names_kept;
    }

-- what is kept with names is kept without
store_nameless : (before now : Tally) → StoreKept before now → StoreKept (nameless before) (nameless now)
store_nameless before now k = record {
  faults_kept = k.faults_kept;
  wants_kept = k.wants_kept;
  write_faults_kept = k.write_faults_kept;
  settled_kept = k.settled_kept;
  faults_stay = k.faults_stay;
  wants_stay = k.wants_stay;
  write_faults_stay = k.write_faults_stay;
  names_kept = refl;
}

same_nameless : (before now : Tally) → SameCounts before now → SameCounts (nameless before) (nameless now)
same_nameless before now s = record { faults = s.faults; wants = s.wants; write_faults = s.write_faults; names = refl }

-- ---- a file could not be attached

same_safe : (job : PatchJob) (held given : Option (List ℕ)) (before now : Amended) → now.writes ≡ before.writes → IfBoth held given (LeavesSafe job held before now)
same_safe job None given before now same = tt
same_safe job (Some file) None before now same = tt
same_safe job (Some file) (Some by) before now same = inl (refl, same)

-- nothing was taken yet
narrow_keeps : (job : PatchJob) (held given : Option (List ℕ)) (old : Gauge) (memory : ℕ) → old.live ≡ 0 → KeepsPatchBuffers job held given (narrowed old memory) (narrowed old memory)
narrow_keeps job held given old memory none = record {
  live = none;
  limit = refl;
  risen = omega arith;
  peak = both_always held given _ (λ file by. omega arith);
  most = omega arith;
}

if_opened : (answer : Result (Unit {0}) Stop) (P : Type 0) → P → IfOpened answer P
if_opened (Ok done) P p = p
if_opened (Err (StopRefused x)) P p = p
if_opened (Err StopRead) P p = tt
if_opened (Err StopWrite) P p = p
if_opened (Err (StopLimit live asked limit)) P p = p
if_opened (Err StopMemory) P p = tt

module _ (asked : PatchAsked) (held given : Option (List ℕ)) (store store' patch patch' : Tally) (old : Gauge) where
  -- no answer of the job, nor a refusal, nor a limit that was passed
  abbrev Unopened : Stop → Type 0
  Unopened stop =
      OpensBoth {X = ℕ × ℕ} (nameless store) (nameless store') (nameless patch) (nameless patch') (Err stop) →
      PatchNames {X = ℕ × ℕ} asked.file asked.patch store.names store'.names patch.names patch'.names (Err stop) → old.live ≡ 0 →
      PatchEnds asked held held given store store' patch patch' old (narrowed old asked.memory) (Err stop)

  same_amended : {r : Result (ℕ × ℕ) Stop} → OpensBoth (nameless store) (nameless store') (nameless patch) (nameless patch') r → store'.amended ≡ store.amended
  same_amended o = o.store_kept.not_amended

  pub not_attached : (stop : Stop) → Unopened stop
  not_attached (StopRefused x) o n none = absurd o.stop
  not_attached StopRead o n none = record {
    patched = tt;
    safe = same_safe (job_asked asked) held given store.amended store'.amended (ap (λ (a : Amended). a.writes) o.store_kept.not_amended);
    unwritten = record {
      refused = λ is. absurd cc;
      late = tt;
      past = both_always held given _ (λ g p some. (refl, o.store_kept.not_amended));
      over_limit = tt;
    };
    fault = tt;
    answered = λ quiet unwritten still. both_always held given _ (λ g p enough. elim o.stop [
      | inl rose ↦ quiet rose
      | inr rose ↦ still rose
    ]);
    done = tt;
    refused = λ is. absurd cc;
    read_fault = λ is. o.stop;
    write_fault = λ is. absurd cc;
    over_limit = tt;
    first_past = both_always held given _ (λ g p. tt);
    block = λ low. inr (inl refl);
    buffers = narrow_keeps (job_asked asked) held given old asked.memory none;
    names = record { in_order = n.in_order; both = tt };
    store_kept = store_kept (nameless store) (nameless store') o.store_kept;
    patch_kept = o.patch_kept;
  }
  not_attached StopWrite o n none = absurd o.stop
  not_attached (StopLimit live asked limit) o n none = absurd o.stop
  not_attached StopMemory o n none = record {
    patched = tt;
    safe = same_safe (job_asked asked) held given store.amended store'.amended (ap (λ (a : Amended). a.writes) o.store_kept.not_amended);
    unwritten = record {
      refused = λ is. absurd cc;
      late = tt;
      past = both_always held given _ (λ g p some. (refl, o.store_kept.not_amended));
      over_limit = tt;
    };
    fault = tt;
    answered = λ quiet unwritten still. both_always held given _ (λ g p enough. tt);
    done = tt;
    refused = λ is. absurd cc;
    read_fault = λ is. absurd cc;
    write_fault = λ is. absurd cc;
    over_limit = tt;
    first_past = both_always held given _ (λ g p. tt);
    block = λ low. inr (inr refl);
    buffers = narrow_keeps (job_asked asked) held given old asked.memory none;
    names = record { in_order = n.in_order; both = tt };
    store_kept = store_kept (nameless store) (nameless store') o.store_kept;
    patch_kept = o.patch_kept;
  }

-- the same of the answer, and of FILE and the meter as they are then
pub unopened : (asked : PatchAsked) (held held' given : Option (List ℕ)) (store store' patch patch' : Tally) (old new : Gauge) (r : Result (Unit {0}) Stop) (stop : Stop) →
    r ≡ Err stop → held' ≡ held → new ≡ narrowed old asked.memory →
    OpensBoth {X = ℕ × ℕ} (nameless store) (nameless store') (nameless patch) (nameless patch') (Err stop) →
    PatchNames {X = ℕ × ℕ} asked.file asked.patch store.names store'.names patch.names patch'.names (Err stop) → old.live ≡ 0 →
    PatchEnds asked held held' given store store' patch patch' old new r
unopened asked held held' given store store' patch patch' old new r stop is same meter opens names none =
    subst (λ (h : Option (List ℕ)). PatchEnds asked held h given store store' patch patch' old new r) (sym same)
    (subst (λ (m : Gauge). PatchEnds asked held held given store store' patch patch' old m r) (sym meter)
    (subst (λ (s : Result (Unit {0}) Stop). PatchEnds asked held held given store store' patch patch' old (narrowed old asked.memory) s) (sym is)
    (not_attached asked held given store store' patch patch' old stop opens names none)))

-- ---- both were attached

-- what the job says of its files as they were when both were attached
pub record PatchSays (job : PatchJob) (held held' given : Option (List ℕ)) (store store' patch patch' : Tally) (old new : Gauge) (answer : Result (Unit {0}) Stop) : Type 0 where
  pub patched : OnOk answer (IfBoth held given (IsPatchedBy job held' store.amended store'.amended))
  pub safe : IfBoth held given (LeavesSafe job held' store.amended store'.amended)
  pub unwritten : IsUnwritten held given old.limit (λ file by. patch_takings file by job) ((held' ≡ held) × (store'.amended ≡ store.amended)) answer
  pub first_fault : TellsPatchFault job held given answer
  pub answered : AnswersPatch job held given store store' patch patch' old.limit answer
  pub cause : HasPatchCause job held given store store' patch patch' old.limit answer
  pub buffers : KeepsPatchBuffers job held given old new
  pub counts : StoreKept store store' × CountsKept patch patch'

if_late : (answer : Result (Unit {0}) Stop) (P Q : Type 0) (E : Fault → Type 0) → (P → Q) → IfRefused answer (λ x. P ⊎ E x) → IfRefused answer (λ x. Q ⊎ E x)
if_late (Ok done) P Q E f is = tt
if_late (Err (StopRefused x)) P Q E f (inl is) = inl (f is)
if_late (Err (StopRefused x)) P Q E f (inr late) = inr late
if_late (Err StopRead) P Q E f is = tt
if_late (Err StopWrite) P Q E f is = tt
if_late (Err (StopLimit live asked limit)) P Q E f is = tt
if_late (Err StopMemory) P Q E f is = tt

if_over : (answer : Result (Unit {0}) Stop) (P Q : Type 0) → (P → Q) → IfOverLimit answer P → IfOverLimit answer Q
if_over (Ok done) P Q f is = tt
if_over (Err (StopRefused x)) P Q f is = tt
if_over (Err StopRead) P Q f is = tt
if_over (Err StopWrite) P Q f is = tt
if_over (Err (StopLimit live asked limit)) P Q f is = f is
if_over (Err StopMemory) P Q f is = tt

weaker_unwritten : (held given : Option (List ℕ)) (limit : ℕ) (takings : TakingsOfBoth) (P Q : Type 0) (answer : Result (Unit {0}) Stop) → (P → Q) →
    IsUnwritten held given limit takings P answer → IsUnwritten held given limit takings Q answer
weaker_unwritten held given limit takings P Q answer f u = record {
  refused = λ is. both_weaker held given (λ file by. P) (λ file by. Q) (λ file by. f) (u.refused is);
  late = if_late answer P Q (λ x. IsChanged x ⊎ IsOfSomeRow x) f u.late;
  past = both_weaker held given (λ g p. IsSome (first_past limit (takings g p)) → P) (λ g p. IsSome (first_past limit (takings g p)) → Q)
      (λ g p is some. f (is some)) u.past;
  over_limit = if_over answer P Q f u.over_limit;
}

-- What is said of both since they were attached is said of them as they were before, without their names: to attach them is no fault and no want.
module _ (asked : PatchAsked) (held held' given : Option (List ℕ)) (store opened store' patch opened_patch patch' : Tally) (old new : Gauge) (answer : Result (Unit {0}) Stop)
    (es : nameless opened ≡ nameless store) (ep : nameless opened_patch ≡ nameless patch) where
  amended_is : opened.amended ≡ store.amended
  amended_is = ap (λ (t : Tally). t.amended) es

  counts_same : SameCounts opened store' × (patch' ≡ opened_patch) → SameCounts (nameless store) (nameless store') × (nameless patch' ≡ nameless patch)
  counts_same same = (subst (λ (t : Tally). SameCounts t (nameless store')) es (same_nameless opened store' same.0), ap nameless same.1 ∙ ep)

  rose_before : Rose opened.faults store'.faults ⊎ Rose opened_patch.faults patch'.faults → Rose store.faults store'.faults ⊎ Rose patch.faults patch'.faults
  rose_before rose = subst (λ (t : Tally). Rose t.faults store'.faults ⊎ Rose patch.faults patch'.faults) es
      (subst (λ (t : Tally). Rose opened.faults store'.faults ⊎ Rose t.faults patch'.faults) ep rose)

  pub attached : opened.names ≡ with_name asked.file store.names → opened_patch.names ≡ with_name asked.patch patch.names →
      PatchSays (job_asked asked) held held' given opened store' opened_patch patch' (narrowed old asked.memory) new answer →
      PatchEnds asked held held' given store store' patch patch' old new answer
  attached file by s = record {
    patched = subst (λ (a : Amended). OnOk answer (IfBoth held given (IsPatchedBy (job_asked asked) held' a store'.amended))) amended_is s.patched;
    safe = subst (λ (a : Amended). IfBoth held given (LeavesSafe (job_asked asked) held' a store'.amended)) amended_is s.safe;
    unwritten = weaker_unwritten held given (patch_limit asked old) (λ g p. patch_takings g p (job_asked asked))
        ((held' ≡ held) × (store'.amended ≡ opened.amended)) ((held' ≡ held) × (store'.amended ≡ store.amended)) answer
        (λ same. (same.0, same.1 ∙ amended_is)) s.unwritten;
    fault = s.first_fault;
    answered = subst (λ (t : Tally). AnswersPatch (job_asked asked) held given t (nameless store') (nameless patch) (nameless patch') (patch_limit asked old) answer) es
        (subst (λ (t : Tally). AnswersPatch (job_asked asked) held given (nameless opened) (nameless store') t (nameless patch') (patch_limit asked old) answer) ep s.answered);
    done = on_ok answer (SameCounts opened store' × (patch' ≡ opened_patch)) (SameCounts (nameless store) (nameless store') × (nameless patch' ≡ nameless patch)) counts_same s.cause.done;
    refused = λ is. counts_same (s.cause.refused is);
    read_fault = λ is. rose_before (s.cause.read_fault is);
    write_fault = λ is. subst (λ (t : Tally). Rose t.amended.faults store'.amended.faults) es (s.cause.write_fault is);
    over_limit = s.cause.over_limit;
    first_past = s.cause.first_past;
    block = λ low. inl (s.cause.block low).0;
    buffers = s.buffers;
    names = record {
      in_order = inr (s.counts.0.names_kept ∙ file, inr (s.counts.1.names_kept ∙ by));
      both = if_opened answer _ (s.counts.0.names_kept ∙ file, s.counts.1.names_kept ∙ by);
    };
    store_kept = subst (λ (t : Tally). StoreKept t (nameless store')) es (store_nameless opened store' s.counts.0);
    patch_kept = kept_from patch opened_patch patch' ep s.counts.1;
  }

-- ---- what was read

-- a fact of what is asked for
pub if_asked : (asked : Option PatchAsked) (a : PatchAsked) (P : PatchAsked → Type 0) → asked ≡ Some a → P a → IfSome asked P
if_asked asked a P is p = subst (λ (o : Option PatchAsked). IfSome o P) (sym is) p
