-- Ranges within one of several places.
use Rattle.std.proofs.Common.{◌≡◌, ℕ, Bool, true, false, List, [], ◌∷◌, ◌++◌, refl, sym, subst, ap, ◌∙◌, inr, arith}
use Rattle.std.specs.Prelude.{All, Option, Some, None, Result, Ok, Err, OnOk, OnErr, Contains, if◌then◌else◌}
use Rattle.std.specs.Option.{option_map}
use Rattle.std.proofs.lemmas.List.{append-nil, append_assoc}
use Rattle.std.proofs.lemmas.List.Elements.{All-append, All-nil, Contains-append_left, Contains-append_right}
use Rattle.fz_base.specs.Source.{logged, MayLog, LogsOnly, LogsWithin, IsRangeBetween}
use Rattle.fz_job.specs.SurveyReads.{IsWithinOne}

-- nothing more was read
mapped_nothing : (ranges : Option (List (ℕ × ℕ))) → ranges ≡ option_map (λ rs. rs ++ []) ranges
mapped_nothing None = refl
mapped_nothing (Some rs) = ap Some (sym (append-nil rs))

pub logs_none : (Kind : ℕ × ℕ → Type 0) (ranges : Option (List (ℕ × ℕ))) → LogsOnly Kind ranges ranges
logs_none Kind ranges = ([], All-nil Kind, mapped_nothing ranges)

-- some ranges were read, and then others
mapped_both : (front back : List (ℕ × ℕ)) (old : Option (List (ℕ × ℕ))) → option_map (λ rs. rs ++ back) (option_map (λ rs. rs ++ front) old) ≡ option_map (λ rs. rs ++ (front ++ back)) old
mapped_both front back None = refl
mapped_both front back (Some rs) = ap Some (append_assoc rs front back)

pub logs_both : (Kind : ℕ × ℕ → Type 0) (old mid new : Option (List (ℕ × ℕ))) → LogsOnly Kind old mid → LogsOnly Kind mid new → LogsOnly Kind old new
logs_both Kind old mid new first second = (
  first.0 ++ second.0,
  All-append Kind first.0 second.0 first.1 second.1,
  second.2 ∙ ap (option_map (λ rs. rs ++ second.0)) first.2 ∙ mapped_both first.0 second.0 old,
)

-- ranges of a kind are of a wider one
all_wider : (Kind Wider : ℕ × ℕ → Type 0) (more : List (ℕ × ℕ)) → ((r : ℕ × ℕ) → Kind r → Wider r) → All Kind more → All Wider more
all_wider Kind Wider more wider all = search (wider, all)

pub logs_wider : (Kind Wider : ℕ × ℕ → Type 0) (old new : Option (List (ℕ × ℕ))) → ((r : ℕ × ℕ) → Kind r → Wider r) → LogsOnly Kind old new → LogsOnly Wider old new
logs_wider Kind Wider old new wider logs = (logs.0, all_wider Kind Wider logs.0 wider logs.1, logs.2)

-- a call that read a range
pub read_logs : {X E : Type 0} (result : Result X E) (at count : ℕ) (old new : Option (List (ℕ × ℕ))) → OnOk result (new ≡ logged at count old) → OnErr result (MayLog at count old new) → MayLog at count old new
read_logs (Ok x) at count old new ok err = inr ok
read_logs (Err e) at count old new ok err = err

-- within one place, and so within one of several
pub logs_in : (places : List (ℕ × ℕ)) (from to : ℕ) (old new : Option (List (ℕ × ℕ))) → Contains places (from, to) → LogsWithin from to old new → LogsOnly (IsWithinOne places) old new
logs_in places from to old new has logs = logs_wider (IsRangeBetween from to) (IsWithinOne places) old new (λ r is. ((from, to), has, is)) logs

-- nothing was read
pub logs_same : (places : List (ℕ × ℕ)) (old new : Option (List (ℕ × ℕ))) → new ≡ old → LogsOnly (IsWithinOne places) old new
logs_same places old new e = subst (λ (r : Option (List (ℕ × ℕ))). LogsOnly (IsWithinOne places) old r) (sym e) (logs_none (IsWithinOne places) old)

-- the places are among others
pub logs_left : (places more : List (ℕ × ℕ)) (old new : Option (List (ℕ × ℕ))) → LogsOnly (IsWithinOne places) old new → LogsOnly (IsWithinOne (places ++ more)) old new
logs_left places more old new logs =
    logs_wider (IsWithinOne places) (IsWithinOne (places ++ more)) old new (λ r is. (is.0, Contains-append_left places more is.0 is.1, is.2)) logs

pub logs_right : (more places : List (ℕ × ℕ)) (old new : Option (List (ℕ × ℕ))) → LogsOnly (IsWithinOne places) old new → LogsOnly (IsWithinOne (more ++ places)) old new
logs_right more places old new logs =
    logs_wider (IsWithinOne places) (IsWithinOne (more ++ places)) old new (λ r is. (is.0, Contains-append_right more places is.0 is.1, is.2)) logs

pub contains_one : (p : ℕ × ℕ) → Contains (p ∷ []) p
contains_one p = (0, omega arith, refl)

-- the fill, if it is looked at
pub logs_where : (b : Bool) (from to : ℕ) (old new : Option (List (ℕ × ℕ))) → b ≡ true → LogsWithin from to old new → LogsOnly (IsWithinOne (if b then (from, to) ∷ [] else [])) old new
logs_where false from to old new so logs = absurd cc
logs_where true from to old new so logs = logs_in ((from, to) ∷ []) from to old new (contains_one (from, to)) logs
