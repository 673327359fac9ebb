-- Ranges that were told stay told after reads.
use Rattle.std.proofs.Common.{◌≡◌, ℕ, ◌++◌, List, Option, Some, None, IsSome, refl, sym, subst}
use Rattle.std.specs.Option.{option_map}
use Rattle.fz_base.specs.Told.{StaysTold}

still_told : (more : List (ℕ × ℕ)) (old : Option (List (ℕ × ℕ))) → StaysTold old (option_map (λ rs. rs ++ more) old)
still_told more None = λ told. told
still_told more (Some rs) = λ told. refl

pub more_told : (more : List (ℕ × ℕ)) (old new : Option (List (ℕ × ℕ))) → new ≡ option_map (λ rs. rs ++ more) old → StaysTold old new
more_told more old new is = λ told. subst IsSome (sym is) (still_told more old told)

pub both_told : (old mid new : Option (List (ℕ × ℕ))) → StaysTold old mid → StaysTold mid new → StaysTold old new
both_told old mid new first second = λ told. second (first told)
