-- What is said of files that show their bytes.
use Rattle.std.proofs.Common.{◌≡◌, ℕ, List, Option, Some, None, refl, subst}
use Rattle.std.specs.Prelude.{IfSome}

pub if_some : (held : Option (List ℕ)) (P : List ℕ → Type 0) → ((f : List ℕ) → held ≡ Some f → P f) → IfSome held P
if_some None P all = tt
if_some (Some f) P all = all f refl

pub some_of : (held : Option (List ℕ)) (P : List ℕ → Type 0) (f : List ℕ) → held ≡ Some f → IfSome held P → P f
some_of held P f is have = subst (λ (h : Option (List ℕ)). IfSome h P) is have
