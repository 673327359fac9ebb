-- The number of a place among those of its array.
use Rattle.std.proofs.Common.{◌≡◌, ℕ, suc, zero, ◌+◌, ◌*◌, ◌<◌, ◌≤◌, List, [], ◌∷◌, length, get_or, take, drop, ap, ◌∙◌, arith, length-take, length-drop}
use Rattle.std.proofs.lemmas.List.{get_or-take, get_or-drop}
use Rattle.std.proofs.lemmas.Nat.{mul-add-lt}
use Rattle.fz_grid.specs.Arrays.{product, place_of}
use Rattle.fz_grid.proofs.Lists.{AllPositive, product_pos, rest_more, product_drop_le, positive_front}

-- coordinates that are below the lengths, one for each axis
unfoldable pub AreBelow : List ℕ → List ℕ → Type 0
AreBelow lengths coordinates = (i : ℕ) → i < length lengths → get_or coordinates i 0 < get_or lengths i 0

pub positive_below : (ns cs : List ℕ) → AreBelow ns cs → AllPositive ns
unfolding AreBelow AllPositive
positive_below ns cs below i inside = omega (arith, below i inside)

pub below_tail : (n c : ℕ) (ns cs : List ℕ) → AreBelow (n ∷ ns) (c ∷ cs) → AreBelow ns cs
unfolding AreBelow
below_tail n c ns cs below i inside = below (suc i) (omega arith)

pub below_head : (n c : ℕ) (ns cs : List ℕ) → AreBelow (n ∷ ns) (c ∷ cs) → c < n
unfolding AreBelow
below_head n c ns cs below = below zero (omega arith)

-- each place has a number below how many places there are
pub place_lt : (ns cs : List ℕ) → AreBelow ns cs → place_of ns cs < product ns
place_lt [] cs below = omega arith
place_lt (n ∷ ns) [] below = omega (arith, product_pos (n ∷ ns) (positive_below (n ∷ ns) [] below))
place_lt (n ∷ ns) (c ∷ cs) below =
    let higher = place_lt ns cs (below_tail n c ns cs below) in
    let lower = below_head n c ns cs below in
    omega (arith, mul-add-lt (place_of ns cs) n c (product ns) higher lower)

-- what holds of a table's first n entries holds of those from axis i on
pub below_rest : (xs cs : List ℕ) (n i : ℕ) → n ≤ length xs → ((k : ℕ) → k < n → get_or cs k 0 < get_or xs k 0) → AreBelow (drop i (take n xs)) (drop i (take n cs))
unfolding AreBelow
below_rest xs cs n i inside below k within =
    let front : i + k < n = omega (arith, length-drop i (take n xs), length-take n xs) in
    let at_xs : get_or (drop i (take n xs)) k 0 ≡ get_or xs (i + k) 0 = get_or-drop i (take n xs) k 0 ∙ get_or-take n xs (i + k) 0 front in
    let at_cs : get_or (drop i (take n cs)) k 0 ≡ get_or cs (i + k) 0 = get_or-drop i (take n cs) k 0 ∙ get_or-take n cs (i + k) 0 front in
    omega (arith, below (i + k) front)

-- one axis more
pub place_more : (xs cs : List ℕ) (n i j : ℕ) → i < n → n ≤ length xs → n ≤ length cs → i + 1 ≡ j → place_of (drop i (take n xs)) (drop i (take n cs)) ≡ get_or cs i 0 + get_or xs i 0 * place_of (drop j (take n xs)) (drop j (take n cs))
place_more xs cs n i j below inside inside' next =
    let at_xs = rest_more xs n i j below inside next in
    let at_cs = rest_more cs n i j below inside' next in
    ap (λ l. place_of l (drop i (take n cs))) at_xs ∙ ap (place_of (get_or xs i 0 ∷ drop j (take n xs))) at_cs

pub place_step_lt : (xs cs : List ℕ) (n i j : ℕ) → i < n → n ≤ length xs → n ≤ length cs → i + 1 ≡ j → ((k : ℕ) → k < n → get_or cs k 0 < get_or xs k 0) → get_or cs i 0 + get_or xs i 0 * place_of (drop j (take n xs)) (drop j (take n cs)) < product (take n xs)
place_step_lt xs cs n i j below inside inside' next all =
    let positive : (k : ℕ) → k < n → 1 ≤ get_or xs k 0 = λ k h. omega (arith, all k h) in
    omega (
      arith,
      place_more xs cs n i j below inside inside' next,
      place_lt (drop i (take n xs)) (drop i (take n cs)) (below_rest xs cs n i inside all),
      product_drop_le (take n xs) i (positive_front xs n positive),
    )

-- the place of a table's first n entries
pub index_lt : (xs cs : List ℕ) (n : ℕ) → n ≤ length xs → ((k : ℕ) → k < n → get_or cs k 0 < get_or xs k 0) → place_of (take n xs) (take n cs) < product (take n xs)
index_lt xs cs n inside all = place_lt (take n xs) (take n cs) (below_rest xs cs n 0 inside all)
