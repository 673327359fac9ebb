-- Logs of several reads.
use Rattle.std.proofs.Common.{◌≡◌, ℕ, ◌+◌, ◌<◌, ◌≤◌, ◌++◌, List, [], ◌∷◌, Option, Some, None, refl, sym, ap, ◌∙◌, inl, inr, arith}
use Rattle.std.specs.List.{All}
use Rattle.std.specs.Option.{option_map}
use Rattle.std.proofs.lemmas.List.{append-nil, append_assoc}
use Rattle.std.proofs.lemmas.List.Elements.{All-append, All-nil, All-cons}
use Rattle.fz_base.specs.Source.{MayLog, LogsOnly, LogsWithin, IsRangeBetween}

-- nothing more
mapped_nothing : (ranges : Option (List (ℕ × ℕ))) → ranges ≡ option_map (λ rs. rs ++ []) ranges
mapped_nothing None = refl
mapped_nothing (Some rs) = ap Some (sym (append-nil rs))

pub logs_none : (Kind : ℕ × ℕ → Type 0) (ranges : Option (List (ℕ × ℕ))) → LogsOnly Kind ranges ranges
logs_none Kind ranges = ([], All-nil Kind, mapped_nothing ranges)

-- one more, or nothing
all_one : (Kind : ℕ × ℕ → Type 0) (at count : ℕ) → Kind (at, count) → All Kind ((at, count) ∷ [])
all_one Kind at count is = All-cons Kind (at, count) [] is (All-nil Kind)

pub logs_one : (Kind : ℕ × ℕ → Type 0) (at count : ℕ) (old new : Option (List (ℕ × ℕ))) → Kind (at, count) → MayLog at count old new → LogsOnly Kind old new
logs_one Kind at count old new is (inl same) = ([], All-nil Kind, same ∙ mapped_nothing old)
logs_one Kind at count old new is (inr more) = ((at, count) ∷ [], all_one Kind at count is, more)

-- some, and then others
mapped_both : (front back : List (ℕ × ℕ)) (old : Option (List (ℕ × ℕ))) →
    option_map (λ rs. rs ++ back) (option_map (λ rs. rs ++ front) old) ≡ option_map (λ rs. rs ++ (front ++ back)) old
mapped_both front back None = refl
mapped_both front back (Some rs) = ap Some (append_assoc rs front back)

pub logs_both : (Kind : ℕ × ℕ → Type 0) (old mid new : Option (List (ℕ × ℕ))) → LogsOnly Kind old mid → LogsOnly Kind mid new → LogsOnly Kind old new
logs_both Kind old mid new first second = (
  first.0 ++ second.0,
  All-append Kind first.0 second.0 first.1 second.1,
  second.2 ∙ ap (option_map (λ rs. rs ++ second.0)) first.2 ∙ mapped_both first.0 second.0 old,
)

-- a wider kind
all_wider : (Kind Wider : ℕ × ℕ → Type 0) (more : List (ℕ × ℕ)) → ((r : ℕ × ℕ) → Kind r → Wider r) → All Kind more → All Wider more
all_wider Kind Wider more wider all = search (wider, all)

pub logs_wider : (Kind Wider : ℕ × ℕ → Type 0) (old new : Option (List (ℕ × ℕ))) → ((r : ℕ × ℕ) → Kind r → Wider r) → LogsOnly Kind old new → LogsOnly Wider old new
logs_wider Kind Wider old new wider logs = (logs.0, all_wider Kind Wider logs.0 wider logs.1, logs.2)

pub within_wider : (from to from' to' : ℕ) → from' ≤ from → to ≤ to' → (r : ℕ × ℕ) → IsRangeBetween from to r → IsRangeBetween from' to' r
within_wider from to from' to' low high r is = (is.0, omega (arith, is.1, low), omega (arith, is.2, high))

pub logs_within_wider : (from to from' to' : ℕ) (old new : Option (List (ℕ × ℕ))) → from' ≤ from → to ≤ to' → LogsWithin from to old new → LogsWithin from' to' old new
logs_within_wider from to from' to' old new low high logs = logs_wider (IsRangeBetween from to) (IsRangeBetween from' to') old new (within_wider from to from' to' low high) logs

-- one read between two places
pub logs_within_one : (from to at count : ℕ) (old new : Option (List (ℕ × ℕ))) → 0 < count → from ≤ at → at + count ≤ to → MayLog at count old new → LogsWithin from to old new
logs_within_one from to at count old new some low high may = logs_one (IsRangeBetween from to) at count old new (some, low, high) may
