-- What a write in place does to the length and the tally of a store, and several one after another.
use Rattle.std.proofs.Common.{◌≡◌, ℕ, ◌≤◌, Option, Some, Result, Ok, Err, refl, sym, ap, ◌∙◌, subst, arith}
use Rattle.fz_base.specs.Counts.{Amend, CountsKept, Rose, Tally}
use Rattle.fz_base.specs.Stop.{Amends, OnlyReads, StoppedByAmend, StoppedByRead}
use Rattle.fz_base.specs.Store.{HasAtLeast, Reaches, StoreKept, amended_by, settled_by}
use Rattle.fz_base.specs.declared.failure.Stop.{Stop}
use Rattle.fz_base.specs.declared.failure.Stop.TheVariants.{Refused, ReadFault, WriteFault, OverLimit, NoMemory}
use Rattle.fz_target.specs.Ends.{AmendsStore, SameCounts, StoppedAmending}
use Rattle.fz_target.specs.Steps.{KeepsReach}

-- ---- the attached length

pub at-least : (attached : Option ℕ) (n m : ℕ) → HasAtLeast attached n → m ≤ n → HasAtLeast attached m
at-least attached n m has less = (has.0, has.1, omega (arith, has.2, less))

pub reach-same : (attached : Option ℕ) → KeepsReach attached attached
reach-same attached = λ n has. has

pub reach-is : (attached attached' : Option ℕ) → attached' ≡ attached → KeepsReach attached attached'
reach-is attached attached' same = λ n has. subst (λ a. HasAtLeast a n) (sym same) has

pub reach-then : (attached attached' attached'' : Option ℕ) → KeepsReach attached attached' → KeepsReach attached' attached'' → KeepsReach attached attached''
reach-then attached attached' attached'' first second = λ n has. second n (first n has)

some-is : {x y : ℕ} → Some x ≡ Some y → x ≡ y
some-is e = cc

pub reach-of : {X E : Type 0} (at count : ℕ) (old new : Option ℕ) (result : Result X E) → Reaches at count old new result → KeepsReach old new
reach-of at count old new result reach = λ n has.
    let same : has.0 ≡ reach.before = some-is (sym has.1 ∙ reach.was) in
    (reach.now, reach.is, omega (arith, same, has.2, reach.least))

-- ---- the tally

pub same-counts : (t : Tally) → SameCounts t t
same-counts t = record { faults = refl; wants = refl; write_faults = refl; names = refl }

pub same-is : (t t' : Tally) → t' ≡ t → SameCounts t t'
same-is t t' e = record { faults = ap (λ (x : Tally). x.faults) e; wants = ap (λ (x : Tally). x.wants) e; write_faults = ap (λ (x : Tally). x.amended.faults) e; names = ap (λ (x : Tally). x.names) e }

pub same-then : (s s' s'' : Tally) → SameCounts s s' → SameCounts s' s'' → SameCounts s s''
same-then s s' s'' a b = record { faults = b.faults ∙ a.faults; wants = b.wants ∙ a.wants; write_faults = b.write_faults ∙ a.write_faults; names = b.names ∙ a.names }

pub same-amended : (w : Amend) (t t' : Tally) → t' ≡ amended_by w t → SameCounts t t'
same-amended w t t' e = record { faults = ap (λ (x : Tally). x.faults) e; wants = ap (λ (x : Tally). x.wants) e; write_faults = ap (λ (x : Tally). x.amended.faults) e; names = ap (λ (x : Tally). x.names) e }

pub kept-same : (t : Tally) → StoreKept t t
kept-same t = record {
  faults_kept = omega arith;
  wants_kept = omega arith;
  write_faults_kept = omega arith;
  settled_kept = omega arith;
  faults_stay = λ e. e;
  wants_stay = λ e. e;
  write_faults_stay = λ e. e;
  names_kept = refl;
}

pub kept-then : (s s' s'' : Tally) → StoreKept s s' → StoreKept s' s'' → StoreKept s s''
kept-then s s' s'' a b = record {
  faults_kept = omega (arith, a.faults_kept, b.faults_kept);
  wants_kept = omega (arith, a.wants_kept, b.wants_kept);
  write_faults_kept = omega (arith, a.write_faults_kept, b.write_faults_kept);
  settled_kept = omega (arith, a.settled_kept, b.settled_kept);
  faults_stay = λ e. b.faults_stay (a.faults_stay e);
  wants_stay = λ e. b.wants_stay (a.wants_stay e);
  write_faults_stay = λ e. b.write_faults_stay (a.write_faults_stay e);
  names_kept = b.names_kept ∙ a.names_kept;
}

-- a call that keeps all counts of a source keeps those of a store
pub kept-read : (s s' : Tally) → CountsKept s s' → StoreKept s s'
kept-read s s' k = record {
  faults_kept = k.faults_kept;
  wants_kept = k.wants_kept;
  write_faults_kept = omega (arith, ap (λ a. a.faults) k.not_amended);
  settled_kept = omega (arith, ap (λ a. a.settled) k.not_amended);
  faults_stay = k.faults_stay;
  wants_stay = k.wants_stay;
  write_faults_stay = λ e. ap (λ a. a.faults) k.not_amended ∙ e;
  names_kept = k.names_kept;
}

-- ---- a write, and what stopped

by-amend : (s s' : Tally) (stop : Stop) → StoppedByAmend s s' stop → StoppedAmending s s' stop
by-amend s s' (Refused x) e = e
by-amend s s' ReadFault e = absurd e
by-amend s s' WriteFault e = e
by-amend s s' (OverLimit live asked limit) e = e
by-amend s s' NoMemory e = e

pub one-amends : {X : Type 0} (w : Amend) (s s' : Tally) (result : Result X Stop) → Amends s (amended_by w s) s' result → AmendsStore s s' result
one-amends w s s' (Ok x) a = record { kept = a.kept; ok = same-amended w s s' a.ok; stop = tt }
one-amends w s s' (Err stop) a = record { kept = a.kept; ok = tt; stop = by-amend s s' stop a.stop }

-- a wait, which writes nothing
same-settled : (t t' : Tally) → t' ≡ settled_by t → SameCounts t t'
same-settled t t' e = record { faults = ap (λ (x : Tally). x.faults) e; wants = ap (λ (x : Tally). x.wants) e; write_faults = ap (λ (x : Tally). x.amended.faults) e; names = ap (λ (x : Tally). x.names) e }

pub settled-amends : {X : Type 0} (s s' : Tally) (result : Result X Stop) → Amends s (settled_by s) s' result → AmendsStore s s' result
settled-amends s s' (Ok x) a = record { kept = a.kept; ok = same-settled s s' a.ok; stop = tt }
settled-amends s s' (Err stop) a = record { kept = a.kept; ok = tt; stop = by-amend s s' stop a.stop }

by-read : (s s' : Tally) (stop : Stop) → StoppedByRead s s' stop → StoppedAmending s s' stop
by-read s s' (Refused x) e = e
by-read s s' ReadFault e = e
by-read s s' WriteFault e = absurd e
by-read s s' (OverLimit live asked limit) e = e
by-read s s' NoMemory e = e

-- a read
pub read-amends : {X : Type 0} (s s' : Tally) (result : Result X Stop) → OnlyReads s s' result → AmendsStore s s' result
read-amends s s' (Ok x) a = record { kept = kept-read s s' a.kept; ok = same-is s s' a.ok; stop = tt }
read-amends s s' (Err stop) a = record { kept = kept-read s s' a.kept; ok = tt; stop = by-read s s' stop a.stop }

pub rose-from : (a b c : ℕ) → b ≡ a → Rose b c → Rose a c
rose-from a b c e rose = subst (λ n. Rose n c) e rose

stop-after : (s s' s'' : Tally) (stop : Stop) → SameCounts s s' → StoppedAmending s' s'' stop → StoppedAmending s s'' stop
stop-after s s' s'' (Refused x) same e = e
stop-after s s' s'' ReadFault same e = rose-from s.faults s'.faults s''.faults same.faults e
stop-after s s' s'' WriteFault same e = rose-from s.amended.faults s'.amended.faults s''.amended.faults same.write_faults e
stop-after s s' s'' (OverLimit live asked limit) same e = e
stop-after s s' s'' NoMemory same e = rose-from s.wants s'.wants s''.wants same.wants e

-- a part that ended after one that was done
pub amends-then : {X : Type 0} (s s' s'' : Tally) (result : Result X Stop) → StoreKept s s' → SameCounts s s' → AmendsStore s' s'' result → AmendsStore s s'' result
amends-then s s' s'' (Ok x) kept same a = record { kept = kept-then s s' s'' kept a.kept; ok = same-then s s' s'' same a.ok; stop = tt }
amends-then s s' s'' (Err stop) kept same a = record { kept = kept-then s s' s'' kept a.kept; ok = tt; stop = stop-after s s' s'' stop same a.stop }

-- nothing was done
pub amends-nothing : {X : Type 0} (s : Tally) (x : X) → AmendsStore {X = X} s s (Ok x)
amends-nothing s x = record { kept = kept-same s; ok = same-counts s; stop = tt }
