-- What is told stays told after reads and writes.
use Rattle.std.proofs.Common.{◌≡◌, ℕ, List, ◌++◌, take, Option, Some, None, IsSome, Result, Ok, Err, OnOk, OnErr, refl, sym, subst}
use Rattle.std.specs.Option.{option_map}
use Rattle.fz_base.specs.Sink.{overwrite, written, MayWrite}
use Rattle.fz_base.specs.Told.{StaysTold}

-- what did not change
pub same_told : {A : Type 0} (before now : Option A) → now ≡ before → StaysTold before now
same_told before now same told = subst IsSome (sym same) told

-- a change of what is told
mapped_is : {A : Type 0} (change : A → A) (before : Option A) → IsSome before → IsSome (option_map change before)
mapped_is change None told = told
mapped_is change (Some x) told = refl

mapped_told : {A : Type 0} (change : A → A) (before now : Option A) → now ≡ option_map change before → StaysTold before now
mapped_told change before now is told = subst IsSome (sym is) (mapped_is change before told)

-- more ranges after those that were read
pub logged_told : (more : List (ℕ × ℕ)) (old new : Option (List (ℕ × ℕ))) → new ≡ option_map (λ rs. rs ++ more) old → StaysTold old new
logged_told more old new is = mapped_told (λ rs. rs ++ more) old new is

-- a write
pub written_told : (at : ℕ) (bytes : List ℕ) (old new : Option (List ℕ)) → new ≡ written at bytes old → StaysTold old new
written_told at bytes old new is = mapped_told (overwrite at bytes) old new is

-- a call that writes, whatever it answers
pub write_told : {T E : Type 0} (result : Result T E) (at : ℕ) (bytes : List ℕ) (old new : Option (List ℕ)) → OnOk result (new ≡ written at bytes old) → OnErr result (MayWrite at bytes old new) → StaysTold old new
write_told (Ok x) at bytes old new ok err = written_told at bytes old new ok
write_told (Err e) at bytes old new ok err = written_told at (take (err.0) bytes) old new (err.1)
