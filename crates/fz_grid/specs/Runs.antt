-- Runs of neighbouring places: a run is its first place and how many places it has (FITS 4.0, section 3.3.2).
use Rattle.std.specs.Prelude.{◌≡◌, ◌≢◌, ℕ, ◌+◌, ◌<◌, ◌≤◌, List, [], ◌∷◌}
use Rattle.std.specs.List.{flat_map, range_with_len}

-- no run is empty, and none ends where the next begins
abbrev pub AreApart : List (ℕ × ℕ) → Type 0
AreApart [] = Unit {0}
AreApart (run ∷ []) = 0 < run.1
AreApart (run ∷ (next ∷ runs)) = (0 < run.1) × (run.0 + run.1 ≢ next.0) × AreApart (next ∷ runs)

-- the runs list exactly these places, in their order, and are longest
pub record AreRunsOf (places : List ℕ) (runs : List (ℕ × ℕ)) : Type 0 where
  pub listed : flat_map (λ run. range_with_len run.0 run.1) runs ≡ places
  pub longest : AreApart runs

-- each run ends within so many places
abbrev pub EndWithin : ℕ → List (ℕ × ℕ) → Type 0
EndWithin places [] = Unit {0}
EndWithin places (run ∷ runs) = (run.0 + run.1 ≤ places) × EndWithin places runs

-- how many places the runs have together
abbrev pub total_length : List (ℕ × ℕ) → ℕ
total_length [] = 0
total_length (run ∷ runs) = run.1 + total_length runs
