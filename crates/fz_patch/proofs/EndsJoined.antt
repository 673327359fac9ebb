-- How the passes over the tiles end, by how their parts end: the counts of both files, what is attached, and what was logged.
use Rattle.std.proofs.Common.{◌≡◌, ◌⊎◌, inl, inr, ℕ, ◌+◌, ◌^◌, ◌≤◌, List, length, Option, Some, None, Result, Ok, Err, refl, sym, ap, ◌∙◌, subst, arith}
use Rattle.std.specs.Prelude.{IfErr, IfSome}
use Rattle.fz_base.specs.Counts.{CountsKept, Rose, Tally}
use Rattle.fz_base.specs.Source.{HoldsLength}
use Rattle.fz_base.specs.Stop.{Amends, IfRefused, IsRefused}
use Rattle.fz_base.specs.Store.{HasAtLeast, Reaches, StoreKept, settled_by}
use Rattle.fz_base.specs.declared.fault.Fault.{Fault}
use Rattle.fz_base.specs.declared.failure.Stop.{Stop}
use Rattle.fz_base.specs.declared.failure.Stop.TheVariants.{Refused, ReadFault, WriteFault, OverLimit, NoMemory}
use Rattle.fz_table.specs.declared.table.Table.{Table}
use Rattle.fz_fetch.specs.Rows.{StandsWithin}
use Rattle.fz_target.specs.Ends.{AmendsStore, Patches, ReadsTiles, SameCounts, StoppedAmending, StoppedPatching, StoppedTile}
use Rattle.fz_patch.proofs.Amended.{kept-read, kept-then, rose-from, same-is, same-then}

-- ---- refusals

pub refused_weaker : {X : Type 0} {P Q : Fault → Type 0} (r : Result X Stop) → ((x : Fault) → P x → Q x) → IfRefused r P → IfRefused r Q
refused_weaker (Ok x) f is = tt
refused_weaker (Err (Refused x)) f is = f x is
refused_weaker (Err ReadFault) f is = tt
refused_weaker (Err WriteFault) f is = tt
refused_weaker (Err (OverLimit live asked limit)) f is = tt
refused_weaker (Err NoMemory) f is = tt

-- the same stop of a call with another answer
pub refused_as : (X Y : Type 0) (P : Fault → Type 0) (stop : Stop) → IfRefused {X = X} (Err stop) P → IfRefused {X = Y} (Err stop) P
refused_as X Y P (Refused x) is = is
refused_as X Y P ReadFault is = tt
refused_as X Y P WriteFault is = tt
refused_as X Y P (OverLimit live asked limit) is = tt
refused_as X Y P NoMemory is = tt

pub is_refused_as : {X Y : Type 0} (stop : Stop) → IsRefused {X = X} (Err stop) → IsRefused {X = Y} (Err stop)
is_refused_as stop is = (is.0, cc)

-- a part that only amends is never refused
pub amends_unrefused : {X : Type 0} (s s' : Tally) (r : Result X Stop) → AmendsStore s s' r → IsRefused r → ⊥
amends_unrefused s s' r a refused = subst (λ q. IfErr q (StoppedAmending s s')) refused.1 a.stop

pub none_refused : {X : Type 0} (P : Fault → Type 0) (s s' : Tally) (r : Result X Stop) → AmendsStore s s' r → IfRefused r P
none_refused P s s' (Ok x) a = tt
none_refused P s s' (Err (Refused x)) a = absurd a.stop
none_refused P s s' (Err ReadFault) a = tt
none_refused P s s' (Err WriteFault) a = tt
none_refused P s s' (Err (OverLimit live asked limit)) a = tt
none_refused P s s' (Err NoMemory) a = tt

-- ---- counts

pub counts_same : (p p' : Tally) → p' ≡ p → CountsKept p p'
counts_same p p' e =
    subst (CountsKept p) (sym e)
    (record { faults_kept = omega arith; wants_kept = omega arith; faults_stay = λ k. k; wants_stay = λ k. k; names_kept = refl; not_amended = refl })

either_rose : (s s' s'' p p' p'' : Tally) → SameCounts s s' → p' ≡ p → Rose s'.faults s''.faults ⊎ Rose p'.faults p''.faults → Rose s.faults s''.faults ⊎ Rose p.faults p''.faults
either_rose s s' s'' p p' p'' same given (inl rose) = inl (rose-from s.faults s'.faults s''.faults same.faults rose)
either_rose s s' s'' p p' p'' same given (inr rose) = inr (rose-from p.faults p'.faults p''.faults (ap (λ (t : Tally). t.faults) given) rose)

-- a tile after parts that were done
tile_stop : (s s' s'' p p' p'' : Tally) (stop : Stop) → SameCounts s s' → p' ≡ p → StoppedTile s' s'' p' p'' stop → StoppedPatching s s'' p p'' stop
tile_stop s s' s'' p p' p'' (Refused x) same given e = (same-then s s' s'' same (same-is s' s'' e.0), e.1 ∙ given)
tile_stop s s' s'' p p' p'' ReadFault same given e = either_rose s s' s'' p p' p'' same given e
tile_stop s s' s'' p p' p'' WriteFault same given e = absurd e
tile_stop s s' s'' p p' p'' (OverLimit live asked limit) same given e = e
tile_stop s s' s'' p p' p'' NoMemory same given e = tt

pub tile_patches : {X : Type 0} (s s' s'' p p' p'' : Tally) (r : Result X Stop) → StoreKept s s' → SameCounts s s' → p' ≡ p → ReadsTiles s' s'' p' p'' r → Patches s s'' p p'' r
tile_patches s s' s'' p p' p'' (Ok x) kept same given a = record {
  store_kept = kept-then s s' s'' kept (kept-read s' s'' a.store_kept);
  patch_kept = subst (λ (t : Tally). CountsKept t p'') given a.patch_kept;
  ok = (same-then s s' s'' same (same-is s' s'' a.ok.0), a.ok.1 ∙ given);
  stop = tt;
}
tile_patches s s' s'' p p' p'' (Err stop) kept same given a = record {
  store_kept = kept-then s s' s'' kept (kept-read s' s'' a.store_kept);
  patch_kept = subst (λ (t : Tally). CountsKept t p'') given a.patch_kept;
  ok = tt;
  stop = tile_stop s s' s'' p p' p'' stop same given a.stop;
}

-- a write after parts that were done
amend_stop : (s s' s'' p p'' : Tally) (stop : Stop) → SameCounts s s' → p'' ≡ p → StoppedAmending s' s'' stop → StoppedPatching s s'' p p'' stop
amend_stop s s' s'' p p'' (Refused x) same given e = absurd e
amend_stop s s' s'' p p'' ReadFault same given e = inl (rose-from s.faults s'.faults s''.faults same.faults e)
amend_stop s s' s'' p p'' WriteFault same given e = rose-from s.amended.faults s'.amended.faults s''.amended.faults same.write_faults e
amend_stop s s' s'' p p'' (OverLimit live asked limit) same given e = e
amend_stop s s' s'' p p'' NoMemory same given e = tt

pub amend_patches : {X : Type 0} (s s' s'' p p'' : Tally) (r : Result X Stop) → StoreKept s s' → SameCounts s s' → p'' ≡ p → AmendsStore s' s'' r → Patches s s'' p p'' r
amend_patches s s' s'' p p'' (Ok x) kept same given a = record {
  store_kept = kept-then s s' s'' kept a.kept;
  patch_kept = counts_same p p'' given;
  ok = (same-then s s' s'' same a.ok, given);
  stop = tt;
}
amend_patches s s' s'' p p'' (Err stop) kept same given a = record {
  store_kept = kept-then s s' s'' kept a.kept;
  patch_kept = counts_same p p'' given;
  ok = tt;
  stop = amend_stop s s' s'' p p'' stop same given a.stop;
}

-- a refusal after parts that were done
pub refused_patches : {X : Type 0} (s s' p p' : Tally) (x : Fault) → StoreKept s s' → SameCounts s s' → p' ≡ p → Patches {X = X} s s' p p' (Err (Refused x))
refused_patches s s' p p' x kept same given = record {
  store_kept = kept;
  patch_kept = counts_same p p' given;
  ok = tt;
  stop = (same, given);
}

-- ---- what was logged

pub read_writes : (s s' : Tally) → CountsKept s s' → s'.amended.writes ≡ s.amended.writes
read_writes s s' kept = ap (λ a. a.writes) kept.not_amended

pub settled_writes : {X : Type 0} (s s' : Tally) (r : Result X Stop) → Amends s (settled_by s) s' r → s'.amended.writes ≡ s.amended.writes
settled_writes s s' (Ok x) a = ap (λ (t : Tally). t.amended.writes) a.ok
settled_writes s s' (Err stop) a = a.unlogged

-- ---- what is attached

pub reach_end : {X E : Type 0} (at count : ℕ) (old new : Option ℕ) (x : X) → Reaches {E = E} at count old new (Ok x) → HasAtLeast new (at + count)
reach_end at count old new x reach = (reach.now, reach.is, omega (arith, reach.ok))

pub start_reach : (attached : Option ℕ) (t : Table) → StandsWithin attached t → HasAtLeast attached (t.heap_at + t.heap_len)
start_reach attached t within = (within.0, within.2, within.3)

pub reach_table : (attached : Option ℕ) (t : Table) → ((n : ℕ) → attached ≡ Some n → n ≤ 2 ^ 62) → HasAtLeast attached (t.heap_at + t.heap_len) → StandsWithin attached t
reach_table attached t near has = (has.0, omega (arith, near has.0 has.1), has.1, has.2)

-- a file that shows its bytes has as many
pub told_long : (held : Option (List ℕ)) (attached : Option ℕ) (at : ℕ) → ((n : ℕ) → attached ≡ Some n → HoldsLength held n) → HasAtLeast attached at → IfSome held (λ f. at ≤ length f)
told_long None attached at agrees has = tt
told_long (Some f) attached at agrees has = let long : length f ≡ has.0 = agrees has.0 has.1 in omega (arith, long, has.2)
