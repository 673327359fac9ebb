-- Why a look ended, by why its parts did.
use Rattle.std.proofs.Common.{◌≡◌, ℕ, List, refl, sym, subst, arith}
use Rattle.std.specs.Prelude.{Option, Some, None, IfSome, IfErr, Result, Ok, Err, OnOk}
use Rattle.fz_base.specs.Counts.{Rose, Tally, CountsKept, uncounted}
use Rattle.fz_base.specs.Stop.{IfRefused, TellsLimit}
use Rattle.fz_base.specs.Takings.{TellsFirstPast, first_past}
use Rattle.fz_base.specs.declared.fault.Fault.{Fault}
use Rattle.fz_base.specs.declared.failure.Stop.{Stop}
use Rattle.fz_base.specs.declared.failure.Stop.TheVariants.{Refused, ReadFault, WriteFault, OverLimit, NoMemory}
use Rattle.fz_fetch.specs.Stops.{Fetches, StoppedFetching}
use Rattle.fz_files.specs.declared.job.Job.TheVariants.{Unpack}
use Rattle.fz_job.specs.Clauses.{HasJobCause}
use Rattle.fz_job.specs.Keeps.{Rewrites, StoppedRewriting}
use Rattle.fz_job.specs.Stages.{StoppedWorking, Works}
use Rattle.fz_look.specs.Looks.{HasLookCause}
use Rattle.fz_look.specs.declared.looked.Looked.{Looked}
use Rattle.fz_look.proofs.Outcomes.{kept_same, ok_always}

-- what reads and decodes writes nothing
stopped_alike : (source source' : Tally) (stop : Stop) → StoppedFetching source source' stop → StoppedRewriting source source' uncounted uncounted stop
stopped_alike source source' (Refused x) why = (why, refl)
stopped_alike source source' ReadFault why = why
stopped_alike source source' WriteFault why = absurd why
stopped_alike source source' (OverLimit live asked limit) why = why
stopped_alike source source' NoMemory why = tt

pub rewrites_alike : (X Y : Type 0) (source source' : Tally) (stop : Stop) → Fetches {X = X} source source' (Err stop) → Rewrites {X = Y} source source' uncounted uncounted (Err stop)
rewrites_alike X Y source source' stop fetches =
    record { source_kept = fetches.kept; sink_kept = kept_same uncounted; ok = tt; stop = stopped_alike source source' stop fetches.stop }

-- the same of another answer
pub works_alike : (X Y : Type 0) (source source' sink sink' : Tally) (limit : ℕ) (stop : Stop) → Works {X = X} source source' sink sink' limit (Err stop) → Works {X = Y} source source' sink sink' limit (Err stop)
works_alike X Y source source' sink sink' limit stop works = record { source_kept = works.source_kept; sink_kept = works.sink_kept; ok = tt; stop = works.stop }

pub limit_alike : (X Y : Type 0) (limit most : ℕ) (stop : Stop) → TellsLimit {X = X} limit most (Err stop) → TellsLimit {X = Y} limit most (Err stop)
limit_alike X Y limit most (Refused x) tells = tt
limit_alike X Y limit most ReadFault tells = tt
limit_alike X Y limit most WriteFault tells = tt
limit_alike X Y limit most (OverLimit live asked told) tells = tells
limit_alike X Y limit most NoMemory tells = tt

past_alike : (X Y : Type 0) (limit : ℕ) (takings : List (ℕ × ℕ)) (stop : Stop) → TellsFirstPast {X = X} limit takings (Err stop) → TellsFirstPast {X = Y} limit takings (Err stop)
past_alike X Y limit takings (Refused x) tells = tells
past_alike X Y limit takings ReadFault tells = tt
past_alike X Y limit takings WriteFault tells = tells
past_alike X Y limit takings (OverLimit live asked told) tells = tells
past_alike X Y limit takings NoMemory tells = tt

pub first_past_alike : (X Y : Type 0) (held : Option (List ℕ)) (limit : ℕ) (takings : List ℕ → List (ℕ × ℕ)) (stop : Stop) → IfSome held (λ g. TellsFirstPast {X = X} limit (takings g) (Err stop)) →
    IfSome held (λ g. TellsFirstPast {X = Y} limit (takings g) (Err stop))
first_past_alike X Y None limit takings stop tells = tt
first_past_alike X Y (Some g) limit takings stop tells = past_alike X Y limit (takings g) stop tells

-- the cause of a job that writes nothing is that of a look
never_rose : Rose uncounted.faults uncounted.faults → ⊥
never_rose rose = absurd (omega (arith, rose))

pub look_cause : (held : Option (List ℕ)) (source source' : Tally) (limit workers : ℕ) (r : Result Looked Stop) → CountsKept source source' → HasJobCause Unpack held source source' uncounted uncounted limit workers r →
    HasLookCause held source source' limit workers r
look_cause held source source' limit workers r kept cause = record {
  kept = kept;
  done = done_by r cause.done;
  refused = λ is. (cause.refused is).0;
  read_fault = cause.read_fault;
  no_write_fault = λ is. never_rose (cause.write_fault is);
  over_limit = cause.over_limit;
  first_past = cause.first_past;
  block = λ low. let both = cause.block low in (both.0, both.1);
}
  where
    done_by : (r : Result Looked Stop) → OnOk r ((source' ≡ source) × (uncounted ≡ uncounted)) → OnOk r (source' ≡ source)
    done_by (Ok l) both = both.0
    done_by (Err stop) both = tt

-- ---- after the rows: there may be no memory for the buffers of a view, and nothing else stops

pub past_unless : (X : Type 0) (limit : ℕ) (takings : List (ℕ × ℕ)) (r : Result X Stop) → IfErr r (λ stop. stop ≡ NoMemory) → first_past limit takings ≡ None → TellsFirstPast limit takings r
past_unless X limit takings (Ok x) only none = none
past_unless X limit takings (Err stop) only none = subst (λ (s : Stop). TellsFirstPast {X = X} limit takings (Err s)) (sym only) tt

pub refused_unless : (X : Type 0) (r : Result X Stop) (P : Fault → Type 0) → IfErr r (λ stop. stop ≡ NoMemory) → IfRefused r P
refused_unless X (Ok x) P only = tt
refused_unless X (Err stop) P only = subst (λ (s : Stop). IfRefused {X = X} (Err s) P) (sym only) tt

pub works_unless : (X : Type 0) (source source' : Tally) (limit : ℕ) (r : Result X Stop) → source' ≡ source → IfErr r (λ stop. stop ≡ NoMemory) → Works source source' uncounted uncounted limit r
works_unless X source source' limit r same only = record {
  source_kept = subst (λ (t : Tally). CountsKept source t) (sym same) (kept_same source);
  sink_kept = kept_same uncounted;
  ok = ok_always r ((source' ≡ source) × (uncounted ≡ uncounted)) (same, refl);
  stop = stop_by r only;
}
  where
    stop_by : (r : Result X Stop) → IfErr r (λ stop. stop ≡ NoMemory) → IfErr r (StoppedWorking source source' uncounted uncounted limit)
    stop_by (Ok x) only = tt
    stop_by (Err stop) only = subst (StoppedWorking source source' uncounted uncounted limit) (sym only) tt
