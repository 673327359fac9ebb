-- Bytes that are read of an HDU that is copied (FITS 4.0, section 3.1).
use Rattle.std.proofs.Common.{◌≡◌, ℕ, ◌+◌, ◌-◌, inl, inr, List, [], ◌∷◌, ◌++◌, Option, IsSome, option_map, sym, subst}
use Rattle.fz_base.specs.Source.{MayLog}
use Rattle.fz_base.specs.Told.{StaysTold}

-- what may log a read stays shown
pub told_log : ((more : List (ℕ × ℕ)) (old new : Option (List (ℕ × ℕ))) → new ≡ option_map (λ rs. rs ++ more) old → StaysTold old new) → (at count : ℕ) (old new : Option (List (ℕ × ℕ))) → MayLog at count old new → StaysTold old new
told_log law at count old new (inl same) = λ told. subst (λ (l : Option (List (ℕ × ℕ))). IsSome l) (sym same) told
told_log law at count old new (inr more) = law ((at, count) ∷ []) old new more
