-- One write in place, and zeros up to a byte.
use Rattle.std.proofs.Common.{◌≡◌, ◌≢◌, ℕ, ◌-◌, ◌==◌, Bool, true, false, List, [], ◌∷◌, length, replicate, Option, Result, Ok, Err, if◌then◌else◌, refl, ap, subst, eqb-true}
use Rattle.std.specs.Prelude.{OnErr, OnOk}
use Rattle.fz_base.specs.Counts.{Amend, Tally}
use Rattle.fz_base.specs.Sink.{written}
use Rattle.fz_base.specs.Stop.{Amends}
use Rattle.fz_base.specs.Store.{MayAmend, amended_by}
use Rattle.fz_base.specs.declared.failure.Stop.{Stop}
use Rattle.fz_laws.specs.Amends.{amend_of}
use Rattle.fz_laws.specs.Writes.{zero_writes}
use Rattle.fz_target.specs.Steps.{Wrote, WroteSome}
use Rattle.fz_patch.proofs.Wrotes.{one-failed, one-wrote, wrote-all}

pub amend_wrote : {X : Type 0} (w : Amend) (held held' : Option (List ℕ)) (s s' : Tally) (r : Result X Stop) → OnOk r (held' ≡ written w.at w.bytes held) → Amends s (amended_by w s) s' r →
    OnOk r (Wrote (w ∷ []) held held' s.amended.writes s'.amended.writes)
amend_wrote w held held' s s' (Ok x) made a = one-wrote w held held' s.amended.writes s'.amended.writes made (ap (λ (t : Tally). t.amended.writes) a.ok)
amend_wrote w held held' s s' (Err stop) made a = tt

pub amend_some : {X : Type 0} (w : Amend) (held held' : Option (List ℕ)) (s s' : Tally) (r : Result X Stop) → OnOk r (held' ≡ written w.at w.bytes held) → OnErr r (MayAmend w.at (length w.bytes) held held') →
    Amends s (amended_by w s) s' r → WroteSome (w ∷ []) held held' s.amended.writes s'.amended.writes
amend_some w held held' s s' (Ok x) made part a =
    wrote-all (w ∷ []) held held' s.amended.writes s'.amended.writes (one-wrote w held held' s.amended.writes s'.amended.writes made (ap (λ (t : Tally). t.amended.writes) a.ok))
amend_some w held held' s s' (Err stop) made part a = one-failed w held held' s.amended.writes s'.amended.writes part a.unlogged

-- ---- zeros

zeros_are : (at end : ℕ) (bytes : List ℕ) → at ≢ end → bytes ≡ replicate (end - at) 0 → amend_of at bytes ∷ [] ≡ zero_writes at end
zeros_are at end bytes differ are = by_test (at == end) refl
  where
    by_test : (b : Bool) → (at == end) ≡ b → amend_of at bytes ∷ [] ≡ (if b then [] else amend_of at (replicate (end - at) 0) ∷ [])
    by_test true e = absurd (differ (eqb-true at end e))
    by_test false e = ap (λ l. amend_of at l ∷ []) are

pub zeros_wrote : {X : Type 0} (at end : ℕ) (bytes : List ℕ) (held held' : Option (List ℕ)) (s s' : Tally) (r : Result X Stop) → at ≢ end → bytes ≡ replicate (end - at) 0 → OnOk r (held' ≡ written at bytes held) →
    Amends s (amended_by (amend_of at bytes) s) s' r → OnOk r (Wrote (zero_writes at end) held held' s.amended.writes s'.amended.writes)
zeros_wrote at end bytes held held' s s' r differ are made a =
    subst (λ ws. OnOk r (Wrote ws held held' s.amended.writes s'.amended.writes)) (zeros_are at end bytes differ are) (amend_wrote (amend_of at bytes) held held' s s' r made a)

pub zeros_some : {X : Type 0} (at end : ℕ) (bytes : List ℕ) (held held' : Option (List ℕ)) (s s' : Tally) (r : Result X Stop) → at ≢ end → bytes ≡ replicate (end - at) 0 → OnOk r (held' ≡ written at bytes held) →
    OnErr r (MayAmend at (length bytes) held held') → Amends s (amended_by (amend_of at bytes) s) s' r → WroteSome (zero_writes at end) held held' s.amended.writes s'.amended.writes
zeros_some at end bytes held held' s s' r differ are made part a =
    subst (λ ws. WroteSome ws held held' s.amended.writes s'.amended.writes) (zeros_are at end bytes differ are) (amend_some (amend_of at bytes) held held' s s' r made part a)
