-- What is said of two values is said of those that they are.
use Rattle.std.proofs.Common.{◌≡◌, subst}

pub moved : {A B : Type 0} (P : A → B → Type 0) {a a' : A} {b b' : B} → a ≡ a' → b ≡ b' → P a b → P a' b'
moved P {a = a} {b' = b'} first second is = subst (λ x. P x b') first (subst (P a) second is)
