-- The first of some takings that passes a limit: of one list after another, and within a bound.
use Rattle.std.proofs.Common.{◌≡◌, ℕ, ◌+◌, ◌≤◌, nat_lt, Bool, true, false, List, [], ◌∷◌, ◌++◌, refl, ap, ◌∙◌, subst, arith}
use Rattle.std.proofs.lemmas.Bool.Decides.{nat_tests}
use Rattle.std.specs.Prelude.{Option, Some, None, if◌then◌else◌}
use Rattle.fz_base.specs.Takings.{PastFirstLaw, PastSecondLaw, PastWithinLaw, first_past}

some_is : (a b : ℕ × ℕ) → ◌≡◌ {A = Option (ℕ × ℕ)} (Some a) (Some b) → a ≡ b
some_is a b e = cc

-- no taking passes: neither this one nor a later one
none_both : (b : Bool) (one : ℕ × ℕ) (later : Option (ℕ × ℕ)) → (if b then Some one else later) ≡ None → (b ≡ false) × (later ≡ None)
none_both true one later none = absurd cc
none_both false one later none = (refl, none)

some_more : (b : Bool) (one found : ℕ × ℕ) (later more : Option (ℕ × ℕ)) → (later ≡ Some found → more ≡ Some found) → (if b then Some one else later) ≡ Some found → (if b then Some one else more) ≡ Some found
some_more true one found later more grows is = is
some_more false one found later more grows is = grows is

some_within : (bound : ℕ) (b : Bool) (one found : ℕ × ℕ) (later : Option (ℕ × ℕ)) → one.0 + one.1 ≤ bound → (later ≡ Some found → found.0 + found.1 ≤ bound) → (if b then Some one else later) ≡ Some found →
    found.0 + found.1 ≤ bound
some_within bound true one found later here rest is = subst (λ (p : ℕ × ℕ). p.0 + p.1 ≤ bound) (some_is one found is) here
some_within bound false one found later here rest is = rest is

pub past_second : PastSecondLaw
past_second limit [] second none = refl
past_second limit ((live, asked) ∷ first) second none =
    let parts : (nat_lt limit (live + asked) ≡ false) × (first_past limit first ≡ None) = none_both (nat_lt limit (live + asked)) (live, asked) (first_past limit first) none in
    ap (λ b. if b then Some (live, asked) else first_past limit (first ++ second)) parts.0 ∙ past_second limit first second parts.1

pub past_first : PastFirstLaw
past_first limit found [] second is = absurd cc
past_first limit found ((live, asked) ∷ first) second is =
    some_more (nat_lt limit (live + asked)) (live, asked) found (first_past limit first) (first_past limit (first ++ second)) (past_first limit found first second) is

pub past_within : PastWithinLaw
past_within limit bound [] found none is = absurd cc
past_within limit bound ((live, asked) ∷ takings) found none is =
    let parts : (nat_lt bound (live + asked) ≡ false) × (first_past bound takings ≡ None) = none_both (nat_lt bound (live + asked)) (live, asked) (first_past bound takings) none in
    let here : live + asked ≤ bound = grind (arith, nat_tests, parts.0) in
    some_within bound (nat_lt limit (live + asked)) (live, asked) found (first_past limit takings) here (past_within limit bound takings found parts.1) is
