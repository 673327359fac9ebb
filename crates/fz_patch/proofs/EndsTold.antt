-- What is said of files that show their bytes.
use Rattle.std.proofs.Common.{◌≡◌, inl, inr, ℕ, List, length, take, Option, Some, None, refl, sym, subst}
use Rattle.std.specs.Option.{option_map}
use Rattle.std.specs.Prelude.{IfSome, IsSome}
use Rattle.fz_base.specs.Counts.{Amend}
use Rattle.fz_base.specs.Sink.{written}
use Rattle.fz_base.specs.Store.{MayAmend}
use Rattle.fz_base.specs.Told.{StaysTold}
use Rattle.fz_laws.specs.Amends.{applied}
use Rattle.fz_target.specs.Steps.{HasFirstOf, WroteSome}
use Rattle.fz_target.specs.Told.{IfBoth}

pub if_some : (held : Option (List ℕ)) (P : List ℕ → Type 0) → ((f : List ℕ) → held ≡ Some f → P f) → IfSome held P
if_some None P all = tt
if_some (Some f) P all = all f refl

pub some_of : (held : Option (List ℕ)) (P : List ℕ → Type 0) (f : List ℕ) → held ≡ Some f → IfSome held P → P f
some_of held P f is have = subst (λ (h : Option (List ℕ)). IfSome h P) is have

pub if_both : (held given : Option (List ℕ)) (P : List ℕ → List ℕ → Type 0) → ((f p : List ℕ) → held ≡ Some f → given ≡ Some p → P f p) → IfBoth held given P
if_both None given P all = tt
if_both (Some f) None P all = tt
if_both (Some f) (Some p) P all = all f p refl refl

pub both_of : (held given : Option (List ℕ)) (P : List ℕ → List ℕ → Type 0) (f p : List ℕ) → held ≡ Some f → given ≡ Some p → IfBoth held given P → P f p
both_of held given P f p is by have = subst (λ (s : Option (List ℕ)). IfBoth (Some f) s P) by (subst (λ (h : Option (List ℕ)). IfBoth h given P) is have)

-- ---- a store that shows its bytes goes on to show them

pub told-then : (first before now : Option (List ℕ)) → StaysTold first before → StaysTold before now → StaysTold first now
told-then first before now one two = λ some. two (one some)

pub told-is : (before now : Option (List ℕ)) → now ≡ before → StaysTold before now
told-is before now is = λ some. subst (λ (o : Option (List ℕ)). IsSome o) (sym is) some

told-mapped : (f : List ℕ → List ℕ) (before now : Option (List ℕ)) → now ≡ option_map f before → StaysTold before now
told-mapped f None now is = λ some. absurd cc
told-mapped f (Some g) now is = λ some. subst (λ (o : Option (List ℕ)). IsSome o) (sym is) refl

pub told-written : (at : ℕ) (bytes : List ℕ) (before now : Option (List ℕ)) → now ≡ written at bytes before → StaysTold before now
told-written at bytes None now is = λ some. absurd cc
told-written at bytes (Some g) now is = λ some. subst (λ (o : Option (List ℕ)). IsSome o) (sym is) refl

pub told-amended : (at count : ℕ) (before now : Option (List ℕ)) → MayAmend at count before now → StaysTold before now
told-amended at count before now may = told-written at may.0 before now may.2

pub told-some : (ws : List Amend) (before now : Option (List ℕ)) (log log' : Option (List Amend)) → WroteSome ws before now log log' → StaysTold before now
told-some ws before now log log' some = by_first some.held_is
  where
    front : List ℕ → List ℕ
    front = applied (take some.count ws)

    by_first : HasFirstOf some.count ws before now → StaysTold before now
    by_first (inl is) = told-mapped front before now is
    by_first (inr (w, there, may)) = told-then before (option_map front before) now (told-mapped front before (option_map front before) refl) (told-amended w.at (length w.bytes) (option_map front before) now may)

-- and if it is known only of a store that shows them
pub told-if : (before now : Option (List ℕ)) (P : List ℕ → Type 0) → ((f : List ℕ) → before ≡ Some f → P f → StaysTold before now) → IfSome before P → StaysTold before now
told-if None now P all is = λ some. absurd cc
told-if (Some f) now P all is = all f refl is
