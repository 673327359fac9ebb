-- Runs that list places: where they end, and how many places they have.
use Rattle.std.proofs.Common.{◌≡◌, ℕ, suc, zero, ◌+◌, ◌<◌, ◌≤◌, List, [], ◌∷◌, ◌++◌, length, map, refl, ap, subst, sym, ◌∙◌, arith, length-append}
use Rattle.std.specs.List.{AllByRecursion, flat_map, range_with_len}
use Rattle.std.proofs.lemmas.List.FromFn.{length-range_with_len}
use Rattle.fz_grid.specs.Arrays.{product}
use Rattle.fz_grid.specs.Nth.{nth_place}
use Rattle.fz_grid.specs.Region.{places_of}
use Rattle.fz_grid.specs.Runs.{AreApart, AreRunsOf, EndWithin, total_length}
use Rattle.fz_grid.proofs.BoxLemmas.{IsBox, lengths_positive, nth_lt, places_by_number, places_length}

pub all_map : {A : Type 0} (P : ℕ → Type 0) (f : A → ℕ) (xs : List A) → ((x : A) → P (f x)) → AllByRecursion P (map f xs)
all_map P f [] each = tt
all_map P f (x ∷ xs) each = (each x, all_map P f xs each)

-- each place of a box lies in the array
pub places_inside : (ns os rs : List ℕ) → IsBox ns os rs → AllByRecursion (λ p. p < product ns) (places_of ns os rs)
places_inside ns os rs box =
    let by_number = places_by_number ns os rs (lengths_positive ns os rs box) in
    subst (AllByRecursion (λ p. p < product ns)) (sym by_number)
    (all_map (λ p. p < product ns) (nth_place ns os rs) (range_with_len 0 (product rs)) (λ k. nth_lt ns os rs k box))

all_front : (P : ℕ → Type 0) (xs ys : List ℕ) → AllByRecursion P (xs ++ ys) → AllByRecursion P xs
all_front P [] ys all = tt
all_front P (x ∷ xs) ys all = (all.0, all_front P xs ys all.1)

all_back : (P : ℕ → Type 0) (xs ys : List ℕ) → AllByRecursion P (xs ++ ys) → AllByRecursion P ys
all_back P [] ys all = all
all_back P (x ∷ xs) ys all = all_back P xs ys all.1

range_end : (end a n : ℕ) → AllByRecursion (λ p. p < end) (range_with_len a (suc n)) → a + suc n ≤ end
range_end end a zero all = let first : a < end = all.0 in omega arith
range_end end a (suc n) all = let rest = range_end end (a + 1) n all.1 in omega arith

run_end : (end a n : ℕ) → 0 < n → AllByRecursion (λ p. p < end) (range_with_len a n) → a + n ≤ end
run_end end a zero some all = absurd (omega arith)
run_end end a (suc n) some all = range_end end a n all

apart_tail : (run : ℕ × ℕ) (runs : List (ℕ × ℕ)) → AreApart (run ∷ runs) → (0 < run.1) × AreApart runs
apart_tail run [] apart = (apart, tt)
apart_tail run (next ∷ runs) apart = (apart.0, apart.2)

pub end_within : (end : ℕ) (runs : List (ℕ × ℕ)) → AreApart runs → AllByRecursion (λ p. p < end) (flat_map (λ (run : ℕ × ℕ). range_with_len run.0 run.1) runs) → EndWithin end runs
end_within end [] apart all = tt
end_within end (run ∷ runs) apart all =
    let rest = flat_map (λ (run : ℕ × ℕ). range_with_len run.0 run.1) runs in
    let cut = apart_tail run runs apart in
    (run_end end run.0 run.1 cut.0 (all_front (λ p. p < end) (range_with_len run.0 run.1) rest all), end_within end runs cut.1 (all_back (λ p. p < end) (range_with_len run.0 run.1) rest all))

pub total_is : (runs : List (ℕ × ℕ)) → total_length runs ≡ length (flat_map (λ (run : ℕ × ℕ). range_with_len run.0 run.1) runs)
total_is [] = refl
total_is (run ∷ runs) =
    let rest = flat_map (λ (run : ℕ × ℕ). range_with_len run.0 run.1) runs in
    let whole = length-append (range_with_len run.0 run.1) rest in
    let first = length-range_with_len run.0 run.1 in
    omega (arith, whole, first, total_is runs)

-- the runs of a box end within the array, and have the box's places
pub runs_inside : (ns os rs : List ℕ) (runs : List (ℕ × ℕ)) → IsBox ns os rs → AreRunsOf (places_of ns os rs) runs → EndWithin (product ns) runs
runs_inside ns os rs runs box are =
    end_within (product ns) runs are.longest (subst (AllByRecursion (λ p. p < product ns)) (sym are.listed) (places_inside ns os rs box))

pub runs_total : (ns os rs : List ℕ) (runs : List (ℕ × ℕ)) → AreRunsOf (places_of ns os rs) runs → total_length runs ≡ product rs
runs_total ns os rs runs are = total_is runs ∙ (ap length are.listed ∙ places_length ns os rs)
