-- How the whole work ends, by how its parts end.
use Rattle.std.proofs.Common.{◌≡◌, ◌⊎◌, inl, inr, ℕ, ◌≤◌, List, Option, Some, None, Result, Ok, Err, refl, sym, ap, ◌∙◌, subst, arith}
use Rattle.std.specs.Prelude.{IfSome}
use Rattle.fz_base.specs.Counts.{Amend, CountsKept, Rose, Tally}
use Rattle.fz_base.specs.Stop.{IfRefused, IsRefused}
use Rattle.fz_base.specs.Store.{StoreKept}
use Rattle.fz_base.specs.declared.fault.Fault.{Fault}
use Rattle.fz_base.specs.declared.failure.Stop.{Stop}
use Rattle.fz_base.specs.declared.failure.Stop.TheVariants.{Refused, ReadFault, WriteFault, OverLimit, NoMemory}
use Rattle.fz_block.specs.Header.{next_start_of, whole_blocks_of}
use Rattle.fz_fetch.specs.Rows.{StandsWithin}
use Rattle.fz_laws.specs.FirstPatchFault.{ArePatchSteps, IsBoxFault, IsFaultBehindTarget}
use Rattle.fz_laws.specs.Given.{PatchJob, given_by}
use Rattle.fz_laws.specs.Writes.{Steps}
use Rattle.fz_block.specs.declared.header.Header.{Header}
use Rattle.fz_patch.specs.Clauses.{TellsPatchFault}
use Rattle.fz_target.specs.Ends.{Patches, ReadsTiles, SameCounts, StoppedPatching}
use Rattle.fz_patch.specs.Jobs.{ForJobs}
use Rattle.fz_target.specs.Steps.{Wrote, WroteSome}
use Rattle.fz_target.specs.Targets.{IsGivenTo, IsTarget, given_at}
use Rattle.fz_target.specs.Told.{IfBoth}
use Rattle.fz_target.specs.declared.target.Target.{Target}
use Rattle.fz_patch.proofs.Amended.{kept-then, rose-from, same-then}
use Rattle.fz_patch.proofs.CodedEnds.{heap_end_is}
use Rattle.fz_patch.proofs.EndsTold.{both_of}
use Rattle.fz_patch.proofs.StepPatch.{for_jobs}

-- ---- what is within the file

whole_at_least : (n : ℕ) → n ≤ whole_blocks_of n
whole_at_least n = omega arith

pub stands_at : (t : Target) (attached : Option ℕ) (n : ℕ) → IsTarget t → attached ≡ Some n → next_start_of t.header ≡ n → StandsWithin attached t.image.table
stands_at t attached n is there end = (n, omega (arith, is.end, end), there, omega (arith, heap_end_is t is, whole_at_least t.header.data_len, end))

pub if_some_map : (held : Option (List ℕ)) (P Q : List ℕ → Type 0) → ((f : List ℕ) → P f → Q f) → IfSome held P → IfSome held Q
if_some_map None P Q f is = tt
if_some_map (Some x) P Q f is = f x is

-- ---- writes that began elsewhere

pub some_from : (ws : List Amend) (held held' now : Option (List ℕ)) (log log' log'' : Option (List Amend)) → held ≡ held' → log ≡ log' → WroteSome ws held now log log'' → WroteSome ws held' now log' log''
some_from ws held held' now log log' log'' e l some = subst (λ k. WroteSome ws held' now k log'') l (subst (λ k. WroteSome ws k now log log'') e some)

pub wrote_from : (ws : List Amend) (held held' now : Option (List ℕ)) (log log' log'' : Option (List Amend)) → held ≡ held' → log ≡ log' → Wrote ws held now log log'' → Wrote ws held' now log' log''
wrote_from ws held held' now log log' log'' e l wrote = subst (λ k. Wrote ws held' now k log'') l (subst (λ k. Wrote ws k now log log'') e wrote)

-- ---- faults

-- what is said after a stop
abbrev Tells : Type 0 → Stop → PatchJob → List ℕ → List ℕ → Type 0
Tells X stop job file by = TellsPatchFault {X = X} job (Some file) (Some by) (Err stop)

pub fault_told : (X : Type 0) (t : Target) (held given : Option (List ℕ)) (stop : Stop) →
    IfRefused {X = X} (Err stop) (λ x. IfBoth held given (λ f p. (corner : List ℕ) → IsGivenTo corner p t → IsBoxFault f t.header (given_at corner p) (Some x))) →
    ForJobs held given t (λ job file by. TellsPatchFault {X = X} job (Some file) (Some by) (Err stop))
fault_told X t held given (Refused x) fault =
    for_jobs held given t (Tells X (Refused x)) (λ f p is by wanted corner to target. subst (λ r. IsFaultBehindTarget f (given_at corner p) r (Some x)) (sym target) (both_of held given (λ f p. (corner : List ℕ) → IsGivenTo corner p t → IsBoxFault f t.header (given_at corner p) (Some x)) f p is by fault corner to))
fault_told X t held given ReadFault fault = for_jobs held given t (Tells X ReadFault) (λ f p is by wanted corner to target. tt)
fault_told X t held given WriteFault fault = for_jobs held given t (Tells X WriteFault) (λ f p is by wanted corner to target. tt)
fault_told X t held given (OverLimit live asked limit) fault = for_jobs held given t (Tells X (OverLimit live asked limit)) (λ f p is by wanted corner to target. tt)
fault_told X t held given NoMemory fault = for_jobs held given t (Tells X NoMemory) (λ f p is by wanted corner to target. tt)

-- an answer that is not Refused, of a patch without a fault
pub never_faulty : {X : Type 0} (job : PatchJob) (f p : List ℕ) (h : Header) (steps : Steps) (r : Result X Stop) → ArePatchSteps f p job h steps → ¬ IsRefused r → TellsPatchFault job (Some f) (Some p) r
never_faulty job f p h steps (Ok x) are not = subst (λ q. IsFaultBehindTarget f (given_by p job) q None) (sym are.target) (inr (are.olds, are.numbers, sym are.room))
never_faulty job f p h steps (Err (Refused x)) are not = absurd (not (x, refl))
never_faulty job f p h steps (Err ReadFault) are not = tt
never_faulty job f p h steps (Err WriteFault) are not = tt
never_faulty job f p h steps (Err (OverLimit live asked limit)) are not = tt
never_faulty job f p h steps (Err NoMemory) are not = tt

-- ---- nothing was written

pub late_tile : {X : Type 0} (Q : Fault → Type 0) (s s' p p' : Tally) (held held' : Option (List ℕ)) (stop : Stop) → held' ≡ held → ReadsTiles {X = X} s s' p p' (Err stop) → IfRefused {X = X} (Err stop) (λ x. ((held' ≡ held) × (s' ≡ s)) ⊎ Q x)
late_tile Q s s' p p' held held' (Refused x) same a = inl (same, a.stop.0)
late_tile Q s s' p p' held held' ReadFault same a = tt
late_tile Q s s' p p' held held' WriteFault same a = tt
late_tile Q s s' p p' held held' (OverLimit live asked limit) same a = tt
late_tile Q s s' p p' held held' NoMemory same a = tt

pub refused_tile : {X : Type 0} (s s' p p' : Tally) (r : Result X Stop) → ReadsTiles s s' p p' r → IsRefused r → s' ≡ s
refused_tile s s' p p' (Ok x) a refused = absurd cc
refused_tile s s' p p' (Err (Refused x)) a refused = a.stop.0
refused_tile s s' p p' (Err ReadFault) a refused = absurd cc
refused_tile s s' p p' (Err WriteFault) a refused = absurd cc
refused_tile s s' p p' (Err (OverLimit live asked limit)) a refused = absurd cc
refused_tile s s' p p' (Err NoMemory) a refused = absurd cc

-- ---- counts

either_rose : (s s' s'' p p' p'' : Tally) → SameCounts s s' → p' ≡ p → Rose s'.faults s''.faults ⊎ Rose p'.faults p''.faults → Rose s.faults s''.faults ⊎ Rose p.faults p''.faults
either_rose s s' s'' p p' p'' same given (inl rose) = inl (rose-from s.faults s'.faults s''.faults same.faults rose)
either_rose s s' s'' p p' p'' same given (inr rose) = inr (rose-from p.faults p'.faults p''.faults (ap (λ (t : Tally). t.faults) given) rose)

stop_then : (s s' s'' p p' p'' : Tally) (stop : Stop) → SameCounts s s' → p' ≡ p → StoppedPatching s' s'' p' p'' stop → StoppedPatching s s'' p p'' stop
stop_then s s' s'' p p' p'' (Refused x) same given e = (same-then s s' s'' same e.0, e.1 ∙ given)
stop_then s s' s'' p p' p'' ReadFault same given e = either_rose s s' s'' p p' p'' same given e
stop_then s s' s'' p p' p'' WriteFault same given e = rose-from s.amended.faults s'.amended.faults s''.amended.faults same.write_faults e
stop_then s s' s'' p p' p'' (OverLimit live asked limit) same given e = e
stop_then s s' s'' p p' p'' NoMemory same given e = tt

-- a part after others that were done
pub patches_then : {X : Type 0} (s s' s'' p p' p'' : Tally) (r : Result X Stop) → StoreKept s s' → SameCounts s s' → p' ≡ p → Patches s' s'' p' p'' r → Patches s s'' p p'' r
patches_then s s' s'' p p' p'' (Ok x) kept same given a = record {
  store_kept = kept-then s s' s'' kept a.store_kept;
  patch_kept = subst (λ (t : Tally). CountsKept t p'') given a.patch_kept;
  ok = (same-then s s' s'' same a.ok.0, a.ok.1 ∙ given);
  stop = tt;
}
patches_then s s' s'' p p' p'' (Err stop) kept same given a = record {
  store_kept = kept-then s s' s'' kept a.store_kept;
  patch_kept = subst (λ (t : Tally). CountsKept t p'') given a.patch_kept;
  ok = tt;
  stop = stop_then s s' s'' p p' p'' stop same given a.stop;
}
