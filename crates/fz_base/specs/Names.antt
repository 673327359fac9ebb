-- The names by which a source was opened and a sink was made, one after another. They are none if the object does not show them.
use Rattle.std.specs.Prelude.{ℕ, ◌≡◌, ◌⊎◌, List, [], ◌∷◌, ◌++◌, Option, Result, Ok, Err, OnOk}
use Rattle.std.specs.Option.{option_map}

-- the names with one more at their end
abbrev pub with_name : List ℕ → Option (List (List ℕ)) → Option (List (List ℕ))
with_name name names = option_map (λ ns. ns ++ name ∷ []) names

-- the names after a call that opens or makes by this name: it is one more if the call answered Ok
abbrev pub names_by : {T E : Type 0} → List ℕ → Result T E → Option (List (List ℕ)) → Option (List (List ℕ))
names_by name (Ok x) names = with_name name names
names_by name (Err e) names = names

-- the names are as they were, or have this one more
abbrev pub MayName : List ℕ → Option (List (List ℕ)) → Option (List (List ℕ)) → Type 0
MayName name old new = (new ≡ old) ⊎ (new ≡ with_name name old)

-- what a call opens or makes that does so by this name and by no other: at most once, whatever it answers, and exactly once after Ok
pub record NamesOnce {T E : Type 0} (name : List ℕ) (old new : Option (List (List ℕ))) (result : Result T E) : Type 0 where
  pub done : OnOk result (new ≡ with_name name old)
  pub at_most : MayName name old new
