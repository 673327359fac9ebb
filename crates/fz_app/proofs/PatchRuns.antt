-- The promises of a run of `patch`, from what is promised of the answer to its words.
use Rattle.std.proofs.Common.{◌≡◌, ℕ, ◌<◌, ◌≤◌, List, refl, sym, subst}
use Rattle.std.specs.Prelude.{◌≢◌, ◌⊎◌, ◌↔◌, Option, Some, None, Result, OnOk, IsErrOf}
use Rattle.fz_base.specs.Counts.{Amended, CountsKept, Rose, Tally, nameless}
use Rattle.fz_base.specs.Meter.{Gauge, narrowed}
use Rattle.fz_base.specs.Source.{HoldsOctets}
use Rattle.fz_base.specs.Stop.{IsRefused, TellsLimit}
use Rattle.fz_base.specs.Store.{StoreKept}
use Rattle.fz_base.specs.Takings.{PastWithinLaw, TellsFirstPast}
use Rattle.fz_base.specs.declared.failure.Stop.{Stop}
use Rattle.fz_base.specs.declared.failure.Stop.TheVariants.{ReadFault as StopRead, WriteFault as StopWrite, OverLimit as StopLimit, NoMemory as StopMemory}
use Rattle.fz_patch.specs.Clauses.{AnswersPatch, IsPatchedBy, IsUnwritten, KeepsPatchBuffers, LeavesSafe, TellsPatchFault, greatest_patch_bound}
use Rattle.fz_target.specs.Ends.{SameCounts}
use Rattle.fz_target.specs.Told.{IfBoth}
use Rattle.fz_laws.specs.Amends.{applied}
use Rattle.fz_laws.specs.PatchBuffers.{patch_bound, patch_takings}
use Rattle.fz_laws.specs.Given.{PatchJob}
use Rattle.fz_laws.specs.PatchLaws.{AllWritesPatch, PatchIsBounded as IsBoundedPatch}
use Rattle.fz_laws.specs.Writes.{all_writes}
use Rattle.fz_words.specs.PatchJobs.{PatchAsked, patch_job_of}
use Rattle.fz_app.specs.Answer.{IsPromisedTo}
use Rattle.fz_app.specs.PatchPromises.{ArePatchCountsKept, ArePatchNames, HasPatch, HasPatchFault, IsLeftSafe, IsPatchComplete, IsPatchUsage, IsPatchedFor}
use Rattle.fz_app.specs.PatchPromises.{IsReplacedFor, IsUnwrittenFor, PatchEnds, PatchHasCause, PatchIsBounded, PatchNames, job_asked, patch_limit}
use Rattle.fz_app.specs.declared.status.Status.{Status}
use Rattle.fz_app.specs.declared.status.Status.TheVariants.{Different, Usage}
use Rattle.fz_app.proofs.Answered.{of_promise}
use Rattle.fz_app.proofs.JobAnswers.{on_ok}
use Rattle.fz_app.proofs.Limits.{within_answer}
use Rattle.fz_app.proofs.PatchAnswers.{store_kept}
use Rattle.fz_app.proofs.RunPromises.{always, asked_fact}
use Rattle.fz_app.proofs.Tallies.{kept_by}

-- all writes of a patch were made: so FILE has the patch
has_patch : AllWritesPatch → (job : PatchJob) (held given held' : Option (List ℕ)) (before now : Amended) → HoldsOctets held → HoldsOctets given →
    IfBoth held given (IsPatchedBy job held' before now) → IfBoth held given (λ file by. HasPatch job file by held')
has_patch law job None given held' before now file by is = tt
has_patch law job (Some g) None held' before now file by is = tt
has_patch law job (Some g) (Some p) held' before now file by is = record {
  header = is.header;
  target = is.are.target;
  new = applied (all_writes is.steps) g;
  holds = is.wrote.held_is;
  is = law g p job is.header is.steps (record { file_bytes = file; patch_bytes = by; steps_are = is.are });
}

-- what passes the limit is within the bound
within_both : PastWithinLaw → IsBoundedPatch → (job : PatchJob) (held given : Option (List ℕ)) (limit : ℕ) (r : Result (Unit {0}) Stop) → TellsLimit limit greatest_patch_bound r →
    IfBoth held given (λ file by. TellsFirstPast limit (patch_takings file by job) r) → IfBoth held given (λ file by. TellsLimit limit (patch_bound file by job) r)
within_both past bounded job None given limit r tells first = tt
within_both past bounded job (Some g) None limit r tells first = tt
within_both past bounded job (Some g) (Some p) limit r tells first = within_answer past limit greatest_patch_bound (patch_bound g p job) (patch_takings g p job) r (bounded g p job) tells first

module _ (held held' given : Option (List ℕ)) (store store' patch patch' : Tally) (old new : Gauge) where
  abbrev pub Ended : PatchAsked → Result (Unit {0}) Stop → Type 0
  Ended a = PatchEnds a held held' given store store' patch patch' old new

  usage_by : (asked : Option PatchAsked) (status : Status) → IsPromisedTo asked status Ended → (status ≡ Usage) ↔ (asked ≡ None)
  usage_by None status promise = (λ is. refl, λ is. promise)
  usage_by (Some a) status promise = (λ is. absurd (promise.1 is), λ is. absurd cc)

  module _ (words : List (List ℕ)) (status : Status) (promise : IsPromisedTo (patch_job_of words) status Ended) where
    pub usage : (SameFile SamePatch SameMeter : Type 0) → (status ≡ Usage → SameFile × SamePatch × SameMeter) → status ≢ Different → IsPatchUsage words SameFile SamePatch SameMeter status
    usage SameFile SamePatch SameMeter same other = record { exactly = usage_by (patch_job_of words) status promise; untouched = same; never_different = other }

    pub patched : IsPatchedFor words held given held' store.amended store'.amended status
    patched = of_promise (patch_job_of words) status Ended (λ a r. OnOk r (IfBoth held given (IsPatchedBy (job_asked a) held' store.amended store'.amended))) (λ a r p. p.patched) promise

    pub replaced : AllWritesPatch → HoldsOctets held → HoldsOctets given → IsReplacedFor words held given held' status
    replaced law file by = of_promise (patch_job_of words) status Ended (λ a r. OnOk r (IfBoth held given (λ g p. HasPatch (job_asked a) g p held')))
        (λ a r p. on_ok r _ _ (has_patch law (job_asked a) held given held' store.amended store'.amended file by) p.patched) promise

    pub safe : IsLeftSafe words held given held' store.amended store'.amended
    safe = asked_fact (patch_job_of words) status Ended (λ a. IfBoth held given (LeavesSafe (job_asked a) held' store.amended store'.amended)) (λ a r p. p.safe) promise

    pub unwritten : IsUnwrittenFor words held given old ((held' ≡ held) × (store'.amended ≡ store.amended)) status
    unwritten = of_promise (patch_job_of words) status Ended
        (λ a r. IsUnwritten held given (patch_limit a old) (λ g p. patch_takings g p (job_asked a)) ((held' ≡ held) × (store'.amended ≡ store.amended)) r)
        (λ a r p. p.unwritten) promise

    pub first_fault : HasPatchFault words held given status
    first_fault = of_promise (patch_job_of words) status Ended (λ a r. TellsPatchFault (job_asked a) held given r) (λ a r p. p.fault) promise

    pub complete : IsPatchComplete words held given (nameless store) (nameless store') (nameless patch) (nameless patch') old status
    complete = of_promise (patch_job_of words) status Ended (λ a r. AnswersPatch (job_asked a) held given (nameless store) (nameless store') (nameless patch) (nameless patch') (patch_limit a old) r) (λ a r p. p.answered) promise

    pub cause : PastWithinLaw → IsBoundedPatch → PatchHasCause words held given (nameless store) (nameless store') (nameless patch) (nameless patch') old status
    cause past bounded = record {
      done = of_promise (patch_job_of words) status Ended (λ a r. OnOk r (SameCounts (nameless store) (nameless store') × (nameless patch' ≡ nameless patch))) (λ a r p. p.done) promise;
      refused = of_promise (patch_job_of words) status Ended (λ a r. IsRefused r → SameCounts (nameless store) (nameless store') × (nameless patch' ≡ nameless patch)) (λ a r p. p.refused) promise;
      read_fault = of_promise (patch_job_of words) status Ended (λ a r. IsErrOf r StopRead → Rose store.faults store'.faults ⊎ Rose patch.faults patch'.faults) (λ a r p. p.read_fault) promise;
      write_fault = of_promise (patch_job_of words) status Ended (λ a r. IsErrOf r StopWrite → Rose store.amended.faults store'.amended.faults) (λ a r p. p.write_fault) promise;
      over_limit = of_promise (patch_job_of words) status Ended (λ a r. TellsLimit (patch_limit a old) greatest_patch_bound r) (λ a r p. p.over_limit) promise;
      first_past = of_promise (patch_job_of words) status Ended (λ a r. IfBoth held given (λ g p. TellsFirstPast (patch_limit a old) (patch_takings g p (job_asked a)) r)) (λ a r p. p.first_past) promise;
      within = of_promise (patch_job_of words) status Ended (λ a r. IfBoth held given (λ g p. TellsLimit (patch_limit a old) (patch_bound g p (job_asked a)) r))
          (λ a r p. within_both past bounded (job_asked a) held given (patch_limit a old) r p.over_limit p.first_past) promise;
      block = of_promise (patch_job_of words) status Ended
          (λ a r. patch_limit a old < 2880 → IsErrOf r (StopLimit 0 2880 (patch_limit a old)) ⊎ (IsErrOf r StopRead ⊎ IsErrOf r StopMemory)) (λ a r p. p.block) promise;
    }

    pub buffers : new.peak ≤ new.limit → PatchIsBounded words held given old new
    buffers within = record {
      within = within;
      asked = asked_fact (patch_job_of words) status Ended (λ a. KeepsPatchBuffers (job_asked a) held given (narrowed old a.memory) new) (λ a r p. p.buffers) promise;
    }

    pub names : ArePatchNames words store.names store'.names patch.names patch'.names status
    names = of_promise (patch_job_of words) status Ended (λ a r. PatchNames a.file a.patch store.names store'.names patch.names patch'.names r) (λ a r p. p.names) promise

    pub counts : (text text' : Tally) → (status ≡ Usage → store' ≡ store) → (status ≡ Usage → patch' ≡ patch) → CountsKept text text' →
        ArePatchCountsKept (nameless store) (nameless store') (nameless patch) (nameless patch') text text'
    counts text text' same same_patch kept = record {
      of_store = always (patch_job_of words) status Ended (StoreKept (nameless store) (nameless store'))
          (λ is. subst (λ (t : Tally). StoreKept (nameless store) (nameless t)) (sym (same is)) (store_kept (nameless store) (nameless store) (kept_by (nameless store) (nameless store) refl)))
          (λ a r p. p.store_kept) promise;
      of_patch = always (patch_job_of words) status Ended (CountsKept (nameless patch) (nameless patch'))
          (λ is. subst (λ (t : Tally). CountsKept (nameless patch) (nameless t)) (sym (same_patch is)) (kept_by (nameless patch) (nameless patch) refl)) (λ a r p. p.patch_kept) promise;
      of_text = kept;
    }
