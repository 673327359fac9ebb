-- What is settled when a patch stops: all steps before the last one that was begun.
use Rattle.std.proofs.Common.{◌≡◌, ◌⊎◌, inl, inr, ℕ, ◌+◌, ◌≤◌, List, [], ◌++◌, length, take, Option, Some, None, Result, Ok, Err, refl, sym, ap, ◌∙◌, subst, arith}
use Rattle.std.specs.Prelude.{IfSome, OnOk}
use Rattle.std.specs.Option.{option_map}
use Rattle.std.proofs.lemmas.List.{append_assoc, length-append}
use Rattle.fz_base.specs.Counts.{Amend, Amended, Tally}
use Rattle.fz_base.specs.Stop.{Amends}
use Rattle.fz_base.specs.Store.{IsSettled, count_of, settled_by}
use Rattle.fz_base.specs.declared.failure.Stop.{Stop}
use Rattle.fz_laws.specs.Safe.{IsStep}
use Rattle.fz_laws.specs.Writes.{Steps}
use Rattle.fz_patch.specs.Clauses.{AreSettledUpTo}
use Rattle.fz_target.specs.Steps.{WroteSome}

-- after a wait all is settled
pub all_settled : {X : Type 0} (s s' : Tally) (r : Result X Stop) → Amends s (settled_by s) s' r → OnOk r (IsSettled s'.amended)
all_settled s s' (Ok x) a = subst (λ (t : Tally). IsSettled t.amended) (sym a.ok) refl
all_settled s s' (Err stop) a = tt

-- the writes before, and two lists more
pub joined : (before mid now : Option (List Amend)) (a b : List Amend) → mid ≡ option_map (λ w. w ++ a) before → now ≡ option_map (λ w. w ++ b) mid → now ≡ option_map (λ w. w ++ (a ++ b)) before
joined None mid now a b one two = two ∙ ap (option_map (λ w. w ++ b)) one
joined (Some w) mid now a b one two = two ∙ ap (option_map (λ v. v ++ b)) one ∙ ap Some (append_assoc w a b)

nothing_earlier : (earlier : List Amend) (before : Option (List Amend)) (settled : ℕ) → earlier ≡ [] → IfSome before (λ ws. (earlier ≡ []) ⊎ (length ws + length earlier ≤ settled))
nothing_earlier earlier None settled none = tt
nothing_earlier earlier (Some ws) settled none = inl none

counted : (before : Option (List Amend)) (mid : Amended) (earlier : List Amend) (settled : ℕ) → mid.writes ≡ option_map (λ w. w ++ earlier) before → IsSettled mid → mid.settled ≤ settled →
    IfSome before (λ ws. (earlier ≡ []) ⊎ (length ws + length earlier ≤ settled))
counted None mid earlier settled logged is kept = tt
counted (Some ws) mid earlier settled logged is kept =
    let count : count_of mid.writes ≡ length (ws ++ earlier) = ap count_of logged in
    let long : length (ws ++ earlier) ≡ length ws + length earlier = length-append ws earlier in
    inr (omega (arith, is, count, long, kept))

-- in the first step
pub amid_first : (steps : Steps) (before now : Amended) (heap : List Amend) (x x' : Option (List ℕ)) → steps.heap ≡ heap → WroteSome heap x x' before.writes now.writes → AreSettledUpTo steps before now
amid_first steps before now heap x x' is some = record {
  earlier = [];
  step = steps.heap;
  is_step = inl (inl (refl, refl));
  count = some.count;
  logged = subst (λ ws. now.writes ≡ option_map (λ w. w ++ take some.count ws) before.writes) (sym is) some.logged;
  settled = nothing_earlier [] before.writes now.settled refl;
}

-- in a later one, after a wait
pub amid_later : (steps : Steps) (before mid now : Amended) (earlier step made within : List Amend) (x x' : Option (List ℕ)) → IsStep steps earlier step → earlier ≡ made → step ≡ within →
    mid.writes ≡ option_map (λ w. w ++ made) before.writes → IsSettled mid → mid.settled ≤ now.settled → WroteSome within x x' mid.writes now.writes → AreSettledUpTo steps before now
amid_later steps before mid now earlier step made within x x' is first then logged settled kept some =
    let mine : mid.writes ≡ option_map (λ w. w ++ earlier) before.writes = subst (λ ws. mid.writes ≡ option_map (λ w. w ++ ws) before.writes) (sym first) logged in
    let more : now.writes ≡ option_map (λ w. w ++ take some.count step) mid.writes = subst (λ ws. now.writes ≡ option_map (λ w. w ++ take some.count ws) mid.writes) (sym then) some.logged in
    record {
      earlier = earlier;
      step = step;
      is_step = is;
      count = some.count;
      logged = joined before.writes mid.writes now.writes earlier (take some.count step) mine more;
      settled = counted before.writes mid earlier now.settled mine settled kept;
    }

-- what follows from two facts of an answer Ok
pub ok_both : {X P Q R : Type 0} (r : Result X Stop) → (P → Q → R) → OnOk r P → OnOk r Q → OnOk r R
ok_both (Ok x) f p q = f p q
ok_both (Err stop) f p q = tt
