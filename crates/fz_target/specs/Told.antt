-- What is said if both files show their bytes: the one that is patched, and the one whose image is put in.
use Rattle.std.specs.Prelude.{ℕ, List, Option, IfSome}

abbrev pub IfBoth : Option (List ℕ) → Option (List ℕ) → (List ℕ → List ℕ → Type 0) → Type 0
IfBoth held given P = IfSome held (λ file. IfSome given (λ patch. P file patch))
