-- The counts of a view: those of its source, and what it refused of readings that were accepted before.
use Rattle.std.proofs.Common.{◌≡◌, ℕ, ◌-◌, ◌^◌, ◌≤◌, true, Option, Some, None, IfSome, Result, Ok, Err, refl, ◌∙◌, subst, sym, arith}
use Rattle.std.specs.Prelude.{min}
use Rattle.std.specs.Option.{ForSome}
use Rattle.std.proofs.lemmas.Option.{same_Some}
use Rattle.fz_base.specs.Counts.{CountsKept, HasCause, Rose, Tally, counted}
use Rattle.fz_base.specs.Stop.{IfRefused, StoppedReading}
use Rattle.fz_base.specs.declared.fault.Fault.{Fault}
use Rattle.fz_base.specs.declared.failure.Failed.{Failed}
use Rattle.fz_base.specs.declared.failure.Failed.TheVariants.{Fault as IsFault, NoMemory as IsWant}
use Rattle.fz_base.specs.declared.failure.Stop.{Stop}
use Rattle.fz_base.specs.declared.failure.Stop.TheVariants.{Refused, ReadFault, WriteFault, OverLimit, NoMemory}
use Rattle.fz_retile.specs.Views.{KeepsFirst, failed_after, failed_by, is_late, later_after, more_by, or_first, together, with_more}

-- ---- counts that are kept

pub kept_on : (start t0 t1 : Tally) → CountsKept start t0 → CountsKept t0 t1 → CountsKept start t1
kept_on start t0 t1 one two = record {
  faults_kept = omega (arith, one.faults_kept, two.faults_kept);
  wants_kept = omega (arith, one.wants_kept, two.wants_kept);
  faults_stay = λ full. two.faults_stay (one.faults_stay full);
  wants_stay = λ full. two.wants_stay (one.wants_stay full);
  names_kept = two.names_kept ∙ one.names_kept;
  not_amended = two.not_amended ∙ one.not_amended;
}

pub kept_same : (t : Tally) → CountsKept t t
kept_same t = record {
  faults_kept = omega arith;
  wants_kept = omega arith;
  faults_stay = λ full. full;
  wants_stay = λ full. full;
  names_kept = refl;
  not_amended = refl;
}

-- with the refusals beside them
kept_with : (t0 t1 : Tally) (m0 m1 : ℕ) → CountsKept t0 t1 → min m0 (2 ^ 64 - 1) ≤ min m1 (2 ^ 64 - 1) → CountsKept (with_more t0 m0) (with_more t1 m1)
kept_with t0 t1 m0 m1 kept more =
    let less : together t0.faults m0 ≤ together t1.faults m1 = omega (arith, kept.faults_kept, more) in
    record {
      faults_kept = less;
      wants_kept = kept.wants_kept;
      faults_stay = λ full. omega (arith, less, full);
      wants_stay = kept.wants_stay;
      names_kept = refl;
      not_amended = kept.not_amended;
    }

rose_with : (a b m : ℕ) → Rose a b → Rose (together a m) (together b m)
rose_with a b m rose = omega (arith, rose)

rose_more : (a m : ℕ) → Rose (together a m) (together a (counted m))
rose_more a m = omega arith

-- ---- after a call on the source that stopped

-- the view tells it as its own failure
pub stop_cause : (X : Type 0) (t0 t1 : Tally) (m : ℕ) (stop : Stop) → CountsKept t0 t1 → StoppedReading t0 t1 stop →
    HasCause {T = X} (with_more t0 m) (with_more t1 (more_by stop m)) (Err (failed_by stop))
stop_cause X t0 t1 m (Refused x) kept why = record {
  kept = kept_with t0 t1 m (counted m) kept (omega arith);
  ok = tt;
  fault = λ is. subst (λ (t : Tally). Rose (together t0.faults m) (together t.faults (counted m))) (sym why) (rose_more t0.faults m);
  no_memory = λ is. absurd cc;
}
stop_cause X t0 t1 m ReadFault kept why = record {
  kept = kept_with t0 t1 m m kept (omega arith);
  ok = tt;
  fault = λ is. rose_with t0.faults t1.faults m why;
  no_memory = λ is. absurd cc;
}
stop_cause X t0 t1 m WriteFault kept why = absurd why
stop_cause X t0 t1 m (OverLimit live asked limit) kept why = absurd why
stop_cause X t0 t1 m NoMemory kept why = record {
  kept = kept_with t0 t1 m m kept (omega arith);
  ok = tt;
  fault = λ is. absurd cc;
  no_memory = λ is. why;
}

-- nothing was counted before it
pub cause_after : (X : Type 0) (t s u : Tally) (r : Result X Failed) → s ≡ t → HasCause s u r → HasCause t u r
cause_after X t s u r same cause = subst (λ (v : Tally). HasCause v u r) same cause

pub cause_none : (X : Type 0) (x : X) (t u : Tally) → u ≡ t → HasCause {T = X} t u (Ok x)
cause_none X x t u same = record {
  kept = subst (λ (v : Tally). CountsKept t v) (sym same) (kept_same t);
  ok = same;
  fault = λ is. absurd cc;
  no_memory = λ is. absurd cc;
}

pub same_with : (t0 t1 : Tally) (m0 m1 : ℕ) → t1 ≡ t0 → m1 ≡ m0 → with_more t1 m1 ≡ with_more t0 m0
same_with t0 t1 m0 m1 tallies more = λ i. with_more (tallies i) (more i)

-- ---- what is kept of it

module _ (start t0 t1 : Tally) where
  pub clean_on : (stop : Stop) (failed : Option Failed) → (failed ≡ None → t0 ≡ start) → StoppedReading t0 t1 stop → failed_after stop failed ≡ None → t1 ≡ start
  clean_on (Refused x) failed clean why none = why ∙ clean none
  clean_on ReadFault None clean why none = absurd cc
  clean_on ReadFault (Some f) clean why none = absurd cc
  clean_on WriteFault failed clean why none = absurd why
  clean_on (OverLimit live asked limit) failed clean why none = absurd why
  clean_on NoMemory None clean why none = absurd cc
  clean_on NoMemory (Some f) clean why none = absurd cc

  pub rose_on : (stop : Stop) (failed : Option Failed) → CountsKept t0 t1 → (failed ≡ None → t0 ≡ start) → (failed ≡ Some IsFault → Rose start.faults t0.faults) → StoppedReading t0 t1 stop →
      failed_after stop failed ≡ Some IsFault → Rose start.faults t1.faults
  rose_on (Refused x) failed kept clean rose why is = omega (arith, kept.faults_kept, rose is)
  rose_on ReadFault None kept clean rose why is = subst (λ (t : Tally). Rose t.faults t1.faults) (clean refl) why
  rose_on ReadFault (Some f) kept clean rose why is = omega (arith, kept.faults_kept, rose is)
  rose_on WriteFault failed kept clean rose why is = absurd why
  rose_on (OverLimit live asked limit) failed kept clean rose why is = absurd why
  rose_on NoMemory None kept clean rose why is = absurd cc
  rose_on NoMemory (Some f) kept clean rose why is = omega (arith, kept.faults_kept, rose is)

  pub wanted_on : (stop : Stop) (failed : Option Failed) → CountsKept t0 t1 → (failed ≡ None → t0 ≡ start) → (failed ≡ Some IsWant → Rose start.wants t0.wants) → StoppedReading t0 t1 stop →
      failed_after stop failed ≡ Some IsWant → Rose start.wants t1.wants
  wanted_on (Refused x) failed kept clean rose why is = omega (arith, kept.wants_kept, rose is)
  wanted_on ReadFault None kept clean rose why is = absurd cc
  wanted_on ReadFault (Some f) kept clean rose why is = omega (arith, kept.wants_kept, rose is)
  wanted_on WriteFault failed kept clean rose why is = absurd why
  wanted_on (OverLimit live asked limit) failed kept clean rose why is = absurd why
  wanted_on NoMemory None kept clean rose why is = subst (λ (t : Tally). Rose t.wants t1.wants) (clean refl) why
  wanted_on NoMemory (Some f) kept clean rose why is = omega (arith, kept.wants_kept, rose is)

-- a refusal is counted, and the first one is kept
pub none_on : (stop : Stop) (m : ℕ) (later : Option Fault) → (m ≡ 0 → later ≡ None) → more_by stop m ≡ 0 → later_after stop later ≡ None
none_on (Refused x) m later none zero = absurd (omega (arith, zero))
none_on ReadFault m later none zero = none zero
none_on WriteFault m later none zero = none zero
none_on (OverLimit live asked limit) m later none zero = none zero
none_on NoMemory m later none zero = none zero

some_refused : (x : Fault) (later : Option Fault) → or_first later x ≡ None → ⊥
some_refused x None is = cc
some_refused x (Some y) is = cc

pub some_on : (stop : Stop) (m : ℕ) (later : Option Fault) → (later ≡ None → m ≡ 0) → later_after stop later ≡ None → more_by stop m ≡ 0
some_on (Refused x) m later some is = absurd (some_refused x later is)
some_on ReadFault m later some is = some is
some_on WriteFault m later some is = some is
some_on (OverLimit live asked limit) m later some is = some is
some_on NoMemory m later some is = some is

late_first : (x : Fault) (later : Option Fault) → is_late x ≡ true → ForSome later (λ y. is_late y ≡ true) → ForSome (or_first later x) (λ y. is_late y ≡ true)
late_first x None late was y is = subst (λ z. is_late z ≡ true) (same_Some x y is) late
late_first x (Some z) late was y is = was y is

pub late_on : (X : Type 0) (stop : Stop) (later : Option Fault) → IfRefused {X = X} (Err stop) (λ x. is_late x ≡ true) → ForSome later (λ y. is_late y ≡ true) →
    ForSome (later_after stop later) (λ y. is_late y ≡ true)
late_on X (Refused x) later late was = late_first x later late was
late_on X ReadFault later late was = was
late_on X WriteFault later late was = was
late_on X (OverLimit live asked limit) later late was = was
late_on X NoMemory later late was = was

-- and nothing is refused of a source that shows its bytes
never_by : (X : Type 0) (stop : Stop) (m : ℕ) → IfRefused {X = X} (Err stop) (λ x. ⊥) → m ≡ 0 → more_by stop m ≡ 0
never_by X (Refused x) m never zero = absurd never
never_by X ReadFault m never zero = zero
never_by X WriteFault m never zero = zero
never_by X (OverLimit live asked limit) m never zero = zero
never_by X NoMemory m never zero = zero

pub never_on : {A : Type 0} (X : Type 0) (held : Option A) (stop : Stop) (m : ℕ) → IfSome held (λ g. IfRefused {X = X} (Err stop) (λ x. ⊥)) → ForSome held (λ g. m ≡ 0) → ForSome held (λ g. more_by stop m ≡ 0)
never_on X None stop m never zero g is = absurd cc
never_on X (Some h) stop m never zero g is = never_by X stop m never (zero h refl)

-- ---- as it was kept

pub cause_kept : (X : Type 0) (t0 t1 : Tally) (m m' : ℕ) (stop : Stop) (failed : Failed) → m' ≡ more_by stop m → failed ≡ failed_by stop → CountsKept t0 t1 → StoppedReading t0 t1 stop →
    HasCause {T = X} (with_more t0 m) (with_more t1 m') (Err failed)
cause_kept X t0 t1 m m' stop failed more is kept why =
    subst (λ n. HasCause {T = X} (with_more t0 m) (with_more t1 n) (Err failed)) (sym more)
    (subst (λ (f : Failed). HasCause {T = X} (with_more t0 m) (with_more t1 (more_by stop m)) (Err f)) (sym is) (stop_cause X t0 t1 m stop kept why))

-- ---- since a time at which the counts, and what was kept, were the same

-- why a call failed is why another did
other_cause : (X Y : Type 0) (t0 t1 : Tally) (failed : Failed) → HasCause {T = X} t0 t1 (Err failed) → HasCause {T = Y} t0 t1 (Err failed)
other_cause X Y t0 t1 IsFault cause = record {
  kept = cause.kept;
  ok = tt;
  fault = λ is. cause.fault refl;
  no_memory = λ is. absurd cc;
}
other_cause X Y t0 t1 IsWant cause = record {
  kept = cause.kept;
  ok = tt;
  fault = λ is. absurd cc;
  no_memory = λ is. cause.no_memory refl;
}

pub first_after : (X : Type 0) (l0 l1 l2 : Option Fault) (r : Result X Failed) → l1 ≡ l0 → KeepsFirst l1 l2 r → KeepsFirst l0 l2 r
first_after X l0 l1 l2 r same first = subst (λ (l : Option Fault). KeepsFirst l l2 r) same first

pub cause_since : (X Y : Type 0) (t0 t1 t2 : Tally) (failed : Failed) (result : Result Y Failed) → result ≡ Err failed → t1 ≡ t0 → HasCause {T = X} t1 t2 (Err failed)
    → HasCause t0 t2 result
cause_since X Y t0 t1 t2 failed result stopped same cause =
    subst (λ (r : Result Y Failed). HasCause t0 t2 r) (sym stopped) (other_cause X Y t0 t2 failed (cause_after X t0 t1 t2 (Err failed) same cause))

pub first_since : (X Y : Type 0) (l0 l1 l2 : Option Fault) (failed : Failed) (result : Result Y Failed) → result ≡ Err failed → l1 ≡ l0 → KeepsFirst {X = X} l1 l2 (Err failed)
    → KeepsFirst l0 l2 result
first_since X Y l0 l1 l2 failed result stopped same first =
    let there : KeepsFirst {X = X} l0 l2 (Err failed) = first_after X l0 l1 l2 (Err failed) same first in
    subst (λ (r : Result Y Failed). KeepsFirst l0 l2 r) (sym stopped) (record { ok = tt; first = there.first })
