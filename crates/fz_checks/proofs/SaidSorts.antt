-- What a packed header that was made says of scaling, of its sort and of an offset.
use Rattle.std.proofs.Common.{◌≡◌, ℕ, suc, Bool, true, false, cond, List, [], ◌∷◌, refl, ap, ◌∙◌}
use Rattle.std.specs.Prelude.{Option, Some, None, is_some}
use Rattle.std.specs.Option.{option_map}
use Rattle.std.specs.List.{find, position}
use Rattle.fz_checks.proofs.SaidCards.{position-step}

-- an index stands exactly where something is found
some-mapped : (o : Option ℕ) → is_some (option_map suc o) ≡ is_some o
some-mapped None = refl
some-mapped (Some i) = refl

pub same-found : {X : Type 0} (has : X → Bool) (xs : List X) → is_some (position has xs) ≡ is_some (find has xs)
same-found has [] = refl
same-found has (x ∷ xs) = ap is_some (position-step has x xs) ∙ by_test (has x) (same-found has xs)
  where
    by_test : (b : Bool) → is_some (position has xs) ≡ is_some (find has xs) → is_some (cond b (Some 0) (option_map suc (position has xs))) ≡ is_some (cond b (Some x) (find has xs))
    by_test true rest = refl
    by_test false rest = some-mapped (position has xs) ∙ rest
