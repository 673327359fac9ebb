-- The buffers of the work, and how the work ends by how its writes end.
use Rattle.std.proofs.Common.{◌≡◌, ℕ, ◌+◌, ◌-◌, ◌*◌, max, List, replicate, sum, Option, Some, None, Result, Ok, Err, refl, sym, ap, ◌∙◌, arith}
use Rattle.std.specs.Prelude.{IfErr}
use Rattle.fz_base.specs.Counts.{Tally}
use Rattle.fz_base.specs.Meter.{Gauge, handed_back, taken}
use Rattle.fz_base.specs.Stop.{IfRefused, stop_of_short}
use Rattle.fz_base.specs.Takings.{TellsFirstPast, TellsShort, first_past}
use Rattle.fz_base.specs.declared.fault.Fault.{Fault}
use Rattle.fz_base.specs.declared.failure.Short.{Short}
use Rattle.fz_base.specs.declared.failure.Short.TheVariants.{NoMemory as NoRoom, OverLimit as PastLimit}
use Rattle.fz_base.specs.declared.failure.Stop.{Stop}
use Rattle.fz_base.specs.declared.failure.Stop.TheVariants.{Refused, ReadFault, WriteFault, OverLimit, NoMemory}
use Rattle.fz_job.specs.Clauses.{IfOverLimit}
use Rattle.fz_laws.specs.Given.{PatchJob}
use Rattle.fz_pool.specs.Laws.{AreFresh}
use Rattle.fz_pool.specs.Window.{HasSlotsFor, Pool, slot_sizes, WindowStays}
use Rattle.fz_job.specs.Takes.{TellsTheLimit}
use Rattle.fz_job.specs.Workspace.{HasLengths, HoldsWhatItTook, SpaceStays, held_bytes, slots_for, wanted_buffers, window_for}
use Rattle.fz_job.specs.declared.workspace.Wants.{Wants}
use Rattle.fz_job.specs.declared.workspace.Workspace.{Workspace}
use Rattle.fz_target.specs.Ends.{Patches, StoppedPatching, StoppedWorking, WorksInPlace}
use Rattle.fz_patch.specs.Jobs.{ForJobs}
use Rattle.fz_target.specs.Targets.{job_at}
use Rattle.fz_target.specs.declared.target.Target.{Target}
use Rattle.fz_patch.proofs.Amended.{kept-same}
use Rattle.fz_patch.proofs.EndsJoined.{counts_same}
use Rattle.fz_patch.proofs.EndsTold.{if_both}

-- ---- what is said of every job

pub for_jobs : (held given : Option (List ℕ)) (t : Target) (P : PatchJob → List ℕ → List ℕ → Type 0) → ((job : PatchJob) (f p : List ℕ) → held ≡ Some f → P job f p) → ForJobs held given t P
for_jobs held given t P all = if_both held given _ (λ f p is by wanted corner gives target. all (job_at wanted corner) f p is)

pub if_refused : {X : Type 0} {P : Fault → Type 0} (r : Result X Stop) → ((x : Fault) → P x) → IfRefused r P
if_refused (Ok x) all = tt
if_refused (Err (Refused x)) all = all x
if_refused (Err ReadFault) all = tt
if_refused (Err WriteFault) all = tt
if_refused (Err (OverLimit live asked limit)) all = tt
if_refused (Err NoMemory) all = tt

-- ---- buffers that were not given

pub works_short : {X : Type 0} (s p : Tally) (limit : ℕ) (short : Short) → TellsTheLimit limit short → WorksInPlace {X = X} s s p p limit (Err (stop_of_short short))
works_short s p limit NoRoom told = record { store_kept = kept-same s; patch_kept = counts_same p p refl; ok = tt; stop = tt }
works_short s p limit (PastLimit live asked passed) told = record { store_kept = kept-same s; patch_kept = counts_same p p refl; ok = tt; stop = told }

pub past_short : (X Y : Type 0) (limit : ℕ) (takings : List (ℕ × ℕ)) (short : Short) → TellsShort {X = Y} limit takings (Err short) → TellsFirstPast {X = X} limit takings (Err (stop_of_short short))
past_short X Y limit takings NoRoom tells = tt
past_short X Y limit takings (PastLimit live asked told) tells = tells

-- ---- buffers that were given

stop_works : (s s' p p' : Tally) (limit : ℕ) (stop : Stop) → StoppedPatching s s' p p' stop → StoppedWorking s s' p p' limit stop
stop_works s s' p p' limit (Refused x) why = why
stop_works s s' p p' limit ReadFault why = why
stop_works s s' p p' limit WriteFault why = why
stop_works s s' p p' limit (OverLimit live asked told) why = absurd why
stop_works s s' p p' limit NoMemory why = tt

err_works : {X : Type 0} (s s' p p' : Tally) (limit : ℕ) (r : Result X Stop) → IfErr r (StoppedPatching s s' p p') → IfErr r (StoppedWorking s s' p p' limit)
err_works s s' p p' limit (Ok x) why = tt
err_works s s' p p' limit (Err stop) why = stop_works s s' p p' limit stop why

pub patches_work : {X : Type 0} (s s' p p' : Tally) (limit : ℕ) (r : Result X Stop) → Patches s s' p p' r → WorksInPlace s s' p p' limit r
patches_work s s' p p' limit r a = record {
  store_kept = a.store_kept;
  patch_kept = a.patch_kept;
  ok = a.ok;
  stop = err_works s s' p p' limit r a.stop;
}

pub past_patches : {X : Type 0} (s s' p p' : Tally) (limit : ℕ) (takings : List (ℕ × ℕ)) (r : Result X Stop) → IfErr r (StoppedPatching s s' p p') → first_past limit takings ≡ None → TellsFirstPast limit takings r
past_patches s s' p p' limit takings (Ok x) why none = none
past_patches s s' p p' limit takings (Err (Refused x)) why none = none
past_patches s s' p p' limit takings (Err ReadFault) why none = tt
past_patches s s' p p' limit takings (Err WriteFault) why none = none
past_patches s s' p p' limit takings (Err (OverLimit live asked told)) why none = absurd why
past_patches s s' p p' limit takings (Err NoMemory) why none = tt

pub over_patches : {X : Type 0} (P : Type 0) (s s' p p' : Tally) (r : Result X Stop) → IfErr r (StoppedPatching s s' p p') → IfOverLimit r P
over_patches P s s' p p' (Ok x) why = tt
over_patches P s s' p p' (Err (Refused x)) why = tt
over_patches P s s' p p' (Err ReadFault) why = tt
over_patches P s s' p p' (Err WriteFault) why = tt
over_patches P s s' p p' (Err (OverLimit live asked told)) why = absurd why
over_patches P s s' p p' (Err NoMemory) why = tt

-- ---- what was taken comes back

pub still_held : HoldsWhatItTook → (wants : Wants) (w w' : Workspace) (W : ℕ) (pool pool' : Pool) → HasLengths wants w → SpaceStays w w' → pool ≡ window_for W wants.tile → WindowStays pool pool' →
    held_bytes w' pool' ≡ sum (wanted_buffers wants W)
still_held holds wants w w' W pool pool' lengths space is window =
    let workers : pool'.workers ≡ W = window.workers ∙ ap (λ (p : Pool). p.workers) is in
    let lengths' : HasLengths wants w' =
    record {
      header = space.header ∙ lengths.header;
      translated = space.translated ∙ lengths.translated;
      copy = space.copy ∙ lengths.copy;
    } in
    let sizes : slot_sizes pool'.slots ≡ slot_sizes (slots_for pool'.workers wants.tile) =
    window.sizes ∙ ap (λ (p : Pool). slot_sizes p.slots) is ∙ ap (λ n. slot_sizes (slots_for n wants.tile)) (sym workers) in
    holds wants w' pool' lengths' sizes ∙ ap (λ n. sum (wanted_buffers wants n)) workers

pub meter_back : (old mid new : Gauge) (total bytes : ℕ) → mid ≡ taken old total → bytes ≡ total → new ≡ handed_back mid bytes → (new.live ≡ old.live) × (new.limit ≡ old.limit) × (new.peak ≡ max old.peak (old.live + total))
meter_back old mid new total bytes took same gave =
    let live : mid.live ≡ old.live + total = ap (λ (g : Gauge). g.live) took in
    let less : new.live ≡ mid.live - bytes = ap (λ (g : Gauge). g.live) gave in
    let peak : mid.peak ≡ max old.peak (old.live + total) = ap (λ (g : Gauge). g.peak) took in
    let last : new.peak ≡ mid.peak = ap (λ (g : Gauge). g.peak) gave in
    (omega (arith, live, less, same), ap (λ (g : Gauge). g.limit) gave ∙ ap (λ (g : Gauge). g.limit) took, last ∙ peak)

-- how long the slots are of a window that was filled
pub filled_slots : AreFresh → (W n pixels : ℕ) (pool : Pool) → n ≡ pixels → pool ≡ window_for W (Some n) → HasSlotsFor pixels pool
filled_slots fresh W n pixels pool same is =
    let sizes : slot_sizes pool.slots ≡ replicate (2 * pool.workers) (2 * n, 8 * n + 64) =
    ap (λ (p : Pool). slot_sizes p.slots) is ∙ fresh (2 * W) n ∙ ap (λ (p : Pool). replicate (2 * p.workers) (2 * n, 8 * n + 64)) (sym is) in
    (n, sizes, omega (arith, same))
