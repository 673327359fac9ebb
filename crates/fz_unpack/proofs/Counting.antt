-- What the parts of a job say of the counts of source and sink, said of the job.
use Rattle.std.proofs.Common.{◌≡◌, Result, Ok, Err, refl, sym, subst, inl, inr, arith}
use Rattle.fz_base.specs.Counts.{CountsKept, Tally}
use Rattle.fz_base.specs.Stop.{IfRefused, ReadsOnly, StoppedReading}
use Rattle.fz_base.specs.declared.fault.Fault.{Fault as Refusal}
use Rattle.fz_base.specs.declared.failure.Stop.{Stop}
use Rattle.fz_base.specs.declared.failure.Stop.TheVariants.{Refused, ReadFault, WriteFault, OverLimit, NoMemory}
use Rattle.fz_files.specs.declared.job.Job.TheVariants.{Unpack}
use Rattle.fz_job.specs.Clauses.{ComesLate, IsChanged, IsOfSomeRow}
use Rattle.fz_job.specs.Keeps.{Rewrites, StoppedRewriting}

-- no count rose
unmoved : (t : Tally) → CountsKept t t
unmoved t = record { faults_kept = omega arith; wants_kept = omega arith; faults_stay = λ e. e; wants_stay = λ e. e; names_kept = refl; not_amended = refl }

still : (a b : Tally) → b ≡ a → CountsKept a b
still a b e = subst (CountsKept a) (sym e) (unmoved a)

pub rewrote : (s s' k k' : Tally) → s' ≡ s → k' ≡ k → Rewrites {X = Unit {0}} s s' k k' (Ok tt)
rewrote s s' k k' e f = record { source_kept = still s s' e; sink_kept = still k k' f; ok = (e, f); stop = tt }

pub refused_only : (s s' k k' : Tally) (stop : Stop) (x : Refusal) → stop ≡ Refused x → s' ≡ s → k' ≡ k → Rewrites {X = Unit {0}} s s' k k' (Err stop)
refused_only s s' k k' stop x is e f = subst (λ t. Rewrites {X = Unit {0}} s s' k k' (Err t)) (sym is)
    (record { source_kept = still s s' e; sink_kept = still k k' f; ok = tt; stop = (e, f) })

read_stop : (s s' k k' : Tally) (stop : Stop) → StoppedReading s s' stop → k' ≡ k → StoppedRewriting s s' k k' stop
read_stop s s' k k' (Refused x) why f = (why, f)
read_stop s s' k k' ReadFault why f = why
read_stop s s' k k' WriteFault why f = absurd why
read_stop s s' k k' (OverLimit live asked limit) why f = why
read_stop s s' k k' NoMemory why f = tt

-- a call that reads stopped
pub read_fails : {X : Type 0} (s one s' k k' : Tally) (stop : Stop) (r : Result (Unit {0}) Stop) → r ≡ Err stop → one ≡ s → k' ≡ k → ReadsOnly {X = X} one s' (Err stop) → Rewrites s s' k k' r
read_fails s one s' k k' stop r is e f reads =
    subst (Rewrites s s' k k') (sym is) (record {
      source_kept = subst (λ t. CountsKept t s') e reads.kept;
      sink_kept = still k k' f;
      ok = tt;
      stop = read_stop s s' k k' stop (subst (λ t. StoppedReading t s' stop) e reads.stop) f;
    })

-- a call that writes stopped
pub write_fails : {X : Type 0} (s two s' k one k' : Tally) (stop : Stop) (r : Result (Unit {0}) Stop) → r ≡ Err stop → two ≡ s → one ≡ k → Rewrites {X = X} two s' one k' (Err stop) → Rewrites s s' k k' r
write_fails s two s' k one k' stop r is e f writes =
    subst (Rewrites s s' k k') (sym is) (record {
      source_kept = subst (λ t. CountsKept t s') e writes.source_kept;
      sink_kept = subst (λ t. CountsKept t k') f writes.sink_kept;
      ok = tt;
      stop = subst (λ t. StoppedRewriting s s' t k' stop) f (subst (λ t. StoppedRewriting t s' one k' stop) e writes.stop);
    })

-- ---- a refusal that comes late

late : (P : Refusal → Type 0) → ((x : Refusal) → P x → ComesLate Unpack x) → (X : Type 0) (stop : Stop) → IfRefused {X = X} (Err stop) P → IfRefused {X = Unit {0}} (Err stop) (ComesLate Unpack)
late P so X (Refused x) why = so x why
late P so X ReadFault why = tt
late P so X WriteFault why = tt
late P so X (OverLimit live asked limit) why = tt
late P so X NoMemory why = tt

pub late_change : (X : Type 0) (stop : Stop) (r : Result (Unit {0}) Stop) → r ≡ Err stop → IfRefused {X = X} (Err stop) IsChanged → IfRefused r (ComesLate Unpack)
late_change X stop r is why = subst (λ (s : Result (Unit {0}) Stop). IfRefused s (ComesLate Unpack)) (sym is) (late IsChanged (λ x e. inl e) X stop why)

pub late_row : (X : Type 0) (stop : Stop) (r : Result (Unit {0}) Stop) → r ≡ Err stop → IfRefused {X = X} (Err stop) IsOfSomeRow → IfRefused r (ComesLate Unpack)
late_row X stop r is why = subst (λ (s : Result (Unit {0}) Stop). IfRefused s (ComesLate Unpack)) (sym is) (late IsOfSomeRow (λ x e. inr e) X stop why)
