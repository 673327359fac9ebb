-- What is said of an Ok is so of every error.
use Rattle.std.proofs.Common.{◌≡◌, OnOk, Result, Err, sym, subst}
use Rattle.fz_base.specs.declared.failure.Stop.{Stop}

pub never_ok : (P : Type 0) (r : Result (Unit {0}) Stop) (stop : Stop) → r ≡ Err stop → OnOk r P
never_ok P r stop is = subst (λ (q : Result (Unit {0}) Stop). OnOk q P) (sym is) tt
