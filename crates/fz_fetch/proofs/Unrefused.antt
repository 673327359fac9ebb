-- A call that refuses nothing, and what is said of a call that it stops.
use Rattle.std.proofs.Common.{◌≡◌, OnOk, Result, Ok, Err, refl, sym, subst}
use Rattle.fz_base.specs.Counts.{Tally}
use Rattle.fz_base.specs.Stop.{IfRefused, IsRefused, ReadsOnly, StoppedReading}
use Rattle.fz_base.specs.declared.fault.Fault.{Fault as Refusal}
use Rattle.fz_base.specs.declared.failure.Stop.{Stop}
use Rattle.fz_base.specs.declared.failure.Stop.TheVariants.{Refused, ReadFault, WriteFault, OverLimit, NoMemory}
use Rattle.fz_fetch.specs.Stops.{Fetches, StoppedFetching}

pub unrefused : {A : Type 0} (P : Refusal → Type 0) (r : Result A Stop) → ¬ (IsRefused r) → IfRefused r P
unrefused P (Ok x) never = tt
unrefused P (Err (Refused x)) never = absurd (never (x, refl))
unrefused P (Err ReadFault) never = tt
unrefused P (Err WriteFault) never = tt
unrefused P (Err (OverLimit live asked limit)) never = tt
unrefused P (Err NoMemory) never = tt

pub refuses_none : (X : Type 0) {A : Type 0} (P : Refusal → Type 0) (r : Result A Stop) (stop : Stop) → r ≡ Err stop → ¬ (IsRefused {X = X} (Err stop)) → IfRefused r P
refuses_none X {A} P r (Refused x) is never = absurd (never (x, refl))
refuses_none X {A} P r ReadFault is never = subst (λ (s : Result A Stop). IfRefused s P) (sym is) tt
refuses_none X {A} P r WriteFault is never = subst (λ (s : Result A Stop). IfRefused s P) (sym is) tt
refuses_none X {A} P r (OverLimit live asked limit) is never = subst (λ (s : Result A Stop). IfRefused s P) (sym is) tt
refuses_none X {A} P r NoMemory is never = subst (λ (s : Result A Stop). IfRefused s P) (sym is) tt

pub none_put : {A : Type 0} (P : Type 0) (r : Result A Stop) (stop : Stop) → r ≡ Err stop → OnOk r P
none_put {A} P r stop is = subst (λ (s : Result A Stop). OnOk s P) (sym is) tt

pub stopped_reading : (X : Type 0) {A : Type 0} (before now : Tally) (r : Result A Stop) (stop : Stop) → r ≡ Err stop → ReadsOnly {X = X} before now (Err stop) → ReadsOnly before now r
stopped_reading X {A} before now r stop is reads =
    subst (λ (s : Result A Stop). ReadsOnly before now s) (sym is) (record { kept = reads.kept; ok = tt; stop = reads.stop })

fetching_stop : (before now : Tally) (stop : Stop) → StoppedReading before now stop → StoppedFetching before now stop
fetching_stop before now (Refused x) why = why
fetching_stop before now ReadFault why = why
fetching_stop before now WriteFault why = absurd why
fetching_stop before now (OverLimit live asked limit) why = absurd why
fetching_stop before now NoMemory why = tt

-- a call that reads and decodes stopped where it reads
pub stopped_fetching : (X : Type 0) {A : Type 0} (before now : Tally) (r : Result A Stop) (stop : Stop) → r ≡ Err stop → ReadsOnly {X = X} before now (Err stop) → Fetches before now r
stopped_fetching X {A} before now r stop is reads =
    subst (λ (s : Result A Stop). Fetches before now s) (sym is) (record { kept = reads.kept; ok = tt; stop = fetching_stop before now stop reads.stop })

-- or where a row is refused that was read
pub refused_fetching : (X A : Type 0) (before now : Tally) (stop : Stop) (x : Refusal) (y : X) → stop ≡ Refused x → ReadsOnly {X = X} before now (Ok y) → Fetches {X = A} before now (Err stop)
refused_fetching X A before now stop x y is reads =
    subst (λ (s : Stop). Fetches {X = A} before now (Err s)) (sym is) (record { kept = reads.kept; ok = tt; stop = reads.ok })
