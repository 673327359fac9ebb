-- Takings one after another: the most that is live, and limits that none passes.
use Rattle.std.proofs.Common.{◌≡◌, ℕ, ◌+◌, ◌≤◌, max, true, false, nat_lt, Bool, List, [], ◌∷◌, ◌++◌, sum, refl, ap, ◌∙◌, arith}
use Rattle.std.specs.Prelude.{Option, Some, None, Result, Ok, Err, if◌then◌else◌}
use Rattle.std.proofs.lemmas.Bool.Decides.{nat_tests}
use Rattle.std.proofs.lemmas.List.Sums.{sum_by-cons}
use Rattle.fz_base.specs.Takings.{TellsFirstPast, first_past, highest, piled}
use Rattle.fz_base.specs.declared.failure.Stop.{Stop}
use Rattle.fz_base.specs.declared.failure.Stop.TheVariants.{Refused, ReadFault, WriteFault, OverLimit, NoMemory}

on_bool : (b : Bool) (taking : ℕ × ℕ) (later : Option (ℕ × ℕ)) → (if b then Some taking else later) ≡ None → (b ≡ false) × (later ≡ None)
on_bool true taking later e = absurd cc
on_bool false taking later e = (refl, e)

pub highest_first : (first second : List (ℕ × ℕ)) → highest first ≤ highest (first ++ second)
highest_first [] second = omega arith
highest_first ((live, asked) ∷ first) second = let more = highest_first first second in omega (arith, more)

pub highest_both : (first second : List (ℕ × ℕ)) → highest (first ++ second) ≡ max (highest first) (highest second)
highest_both [] second = omega arith
highest_both ((live, asked) ∷ first) second = let more = highest_both first second in omega (arith, more)

-- buffers that are taken one after another are all live after the last
pub highest_piled : (live n : ℕ) (ns : List ℕ) → highest (piled live (n ∷ ns)) ≡ live + sum (n ∷ ns)
highest_piled live n [] = let first : sum (n ∷ []) ≡ n + 0 = sum_by-cons (λ x. x) n [] in omega (arith, first)
highest_piled live n (m ∷ ms) =
    let first : sum (n ∷ m ∷ ms) ≡ n + sum (m ∷ ms) = sum_by-cons (λ x. x) n (m ∷ ms) in
    let rest : highest (piled (live + n) (m ∷ ms)) ≡ live + n + sum (m ∷ ms) = highest_piled (live + n) m ms in
    omega (arith, first, rest)

-- a limit that no taking passes is at least the most that is live, and no larger one is passed
pub highest_within : (limit : ℕ) (ts : List (ℕ × ℕ)) → first_past limit ts ≡ None → highest ts ≤ limit
highest_within limit [] none = omega arith
highest_within limit ((live, asked) ∷ ts) none =
    let parts : (nat_lt limit (live + asked) ≡ false) × (first_past limit ts ≡ None) = on_bool (nat_lt limit (live + asked)) (live, asked) (first_past limit ts) none in
    let rest : highest ts ≤ limit = highest_within limit ts parts.1 in
    let here : live + asked ≤ limit = grind (arith, nat_tests, parts.0) in
    omega (arith, rest, here)

pub past_wider : (limit wider : ℕ) (ts : List (ℕ × ℕ)) → limit ≤ wider → first_past limit ts ≡ None → first_past wider ts ≡ None
past_wider limit wider [] more none = refl
past_wider limit wider ((live, asked) ∷ ts) more none =
    let parts : (nat_lt limit (live + asked) ≡ false) × (first_past limit ts ≡ None) = on_bool (nat_lt limit (live + asked)) (live, asked) (first_past limit ts) none in
    let test : nat_lt wider (live + asked) ≡ false = grind (arith, nat_tests, parts.0, more) in
    ap (λ c. if c then Some (live, asked) else first_past wider ts) test ∙ past_wider limit wider ts more parts.1

-- an answer that tells the first of some takings tells that of others where it is the same
pub tells_same : {X : Type 0} (limit : ℕ) (xs ys : List (ℕ × ℕ)) (r : Result X Stop) → first_past limit ys ≡ first_past limit xs → TellsFirstPast limit xs r → TellsFirstPast limit ys r
tells_same limit xs ys (Ok x) same tells = same ∙ tells
tells_same limit xs ys (Err (Refused x)) same tells = same ∙ tells
tells_same limit xs ys (Err ReadFault) same tells = tt
tells_same limit xs ys (Err WriteFault) same tells = same ∙ tells
tells_same limit xs ys (Err (OverLimit live asked told)) same tells = same ∙ tells
tells_same limit xs ys (Err NoMemory) same tells = tt
