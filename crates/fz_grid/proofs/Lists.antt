-- Tables of axes, whose first entries are a list: what stands from an axis on.
use Rattle.std.proofs.Common.{◌≡◌, ℕ, suc, zero, ◌+◌, ◌*◌, ◌<◌, ◌≤◌, min, List, [], ◌∷◌, length, get_or, take, drop, ap, sym, ◌∙◌, arith, inl, inr, length-take}
use Rattle.std.proofs.lemmas.Bool.{cases_lt}
use Rattle.std.proofs.lemmas.List.{drop_more, get_or-take, drop_all}
use Rattle.std.proofs.Math.Nat.{mul-le-mul_left, le-mul_of_pos_right}
use Rattle.fz_grid.specs.Arrays.{product}

-- from axis i on: its entry, and what stands from the next one on
pub rest_more : (xs : List ℕ) (n i j : ℕ) → i < n → n ≤ length xs → i + 1 ≡ j → drop i (take n xs) ≡ get_or xs i 0 ∷ drop j (take n xs)
rest_more xs n i j below inside next =
    let within : i < length (take n xs) = omega (arith, length-take n xs) in
    let here = drop_more (take n xs) i 0 within in
    let same = get_or-take n xs i 0 below in
    here ∙ (ap (λ x. x ∷ drop (i + 1) (take n xs)) same ∙ ap (λ m. get_or xs i 0 ∷ drop m (take n xs)) next)

-- past the last axis nothing stands
pub rest_none : (xs : List ℕ) (n : ℕ) → drop n (take n xs) ≡ []
rest_none xs n = drop_all n (take n xs) (omega (arith, length-take n xs))

pub product_more : (xs : List ℕ) (n i j : ℕ) → i < n → n ≤ length xs → i + 1 ≡ j → product (drop i (take n xs)) ≡ get_or xs i 0 * product (drop j (take n xs))
product_more xs n i j below inside next = ap product (rest_more xs n i j below inside next)

-- a list of lengths above 0
unfoldable pub AllPositive : List ℕ → Type 0
AllPositive xs = (i : ℕ) → i < length xs → 1 ≤ get_or xs i 0

pub tail_positive : (x : ℕ) (xs : List ℕ) → AllPositive (x ∷ xs) → AllPositive xs
unfolding AllPositive
tail_positive x xs positive i below = positive (suc i) (omega arith)

pub head_positive : (x : ℕ) (xs : List ℕ) → AllPositive (x ∷ xs) → 1 ≤ x
unfolding AllPositive
head_positive x xs positive = positive zero (omega arith)

-- the first entries of a table whose entries up to n are above 0
pub positive_front : (xs : List ℕ) (n : ℕ) → ((i : ℕ) → i < n → 1 ≤ get_or xs i 0) → AllPositive (take n xs)
unfolding AllPositive
positive_front xs n positive i below =
    let in_front : i < n = omega (arith, length-take n xs) in
    rw (get_or-take n xs i 0 in_front) (positive i in_front)

pub product_pos : (xs : List ℕ) → AllPositive xs → 1 ≤ product xs
product_pos [] positive = omega arith
product_pos (x ∷ xs) positive =
    omega (arith, le-mul_of_pos_right (product xs) (head_positive x xs positive), product_pos xs (tail_positive x xs positive))

pub product_drop_le : (xs : List ℕ) (i : ℕ) → AllPositive xs → product (drop i xs) ≤ product xs
product_drop_le xs zero positive = omega arith
product_drop_le [] (suc i) positive = omega arith
product_drop_le (x ∷ xs) (suc i) positive =
    omega (arith, product_drop_le xs i (tail_positive x xs positive), le-mul_of_pos_right (product xs) (head_positive x xs positive))

-- a product over the axes from one on is no greater than that over all
pub product_step_le : (xs : List ℕ) (n i j : ℕ) → i < n → n ≤ length xs → i + 1 ≡ j → ((k : ℕ) → k < n → 1 ≤ get_or xs k 0) → get_or xs i 0 * product (drop j (take n xs)) ≤ product (take n xs)
product_step_le xs n i j below inside next positive =
    omega (arith, product_more xs n i j below inside next, product_drop_le (take n xs) i (positive_front xs n positive))

-- the entries of a table whose front is a list of lengths above 0
pub positive_from : (xs all : List ℕ) (n : ℕ) → n ≤ length xs → take n xs ≡ all → AllPositive all → (i : ℕ) → i < n → 1 ≤ get_or xs i 0
unfolding AllPositive
positive_from xs all n inside is positive i below =
    let here : get_or xs i 0 ≡ get_or all i 0 = sym (get_or-take n xs i 0 below) ∙ ap (λ l. get_or l i 0) is in
    let long : length all ≡ n = ap length (sym is) ∙ (length-take n xs ∙ omega arith) in
    let at_least = positive i (omega arith) in
    omega (arith, here, at_least)

-- a table has at least as many entries as are above 0
pub long_enough : (xs : List ℕ) (n : ℕ) → ((i : ℕ) → i < n → 1 ≤ get_or xs i 0) → n ≤ length xs
long_enough xs zero positive = omega arith
long_enough [] (suc n) positive = absurd (omega (arith, positive n (omega arith)))
long_enough (x ∷ xs) (suc n) positive = omega (arith, long_enough xs n (λ i h. positive (suc i) (omega arith)))

pub take_positive : (xs : List ℕ) (m : ℕ) → AllPositive xs → AllPositive (take m xs)
unfolding AllPositive
take_positive xs m positive i h =
    let in_front : i < m = omega (arith, length-take m xs) in
    rw (get_or-take m xs i 0 in_front) (positive i (omega (arith, length-take m xs)))

pub product_take_le : (xs : List ℕ) (m : ℕ) → AllPositive xs → product (take m xs) ≤ product xs
product_take_le xs zero positive = product_pos xs positive
product_take_le [] (suc m) positive = omega arith
product_take_le (x ∷ xs) (suc m) positive = mul-le-mul_left x (product_take_le xs m (tail_positive x xs positive))

-- a product that stops at a greatest number, over one axis more
pub stopped_step : (p x most : ℕ) → 1 ≤ most → min (min p most * x) most ≡ min (x * p) most
stopped_step p zero most some =
    let none : min p most * zero ≡ zero * p = omega arith in
    ap (λ k. min k most) none
stopped_step p (suc x) most some = elim (cases_lt most p) [ inl more ↦ stopped more | inr fits ↦ exact fits ]
  where
    stopped : most < p → min (min p most * suc x) most ≡ min (suc x * p) most
    stopped more =
        let at_most : min p most ≡ most = omega arith in
        let least : most ≤ most * suc x = omega arith in
        let above : most ≤ suc x * p = omega (arith, le-mul_of_pos_right p (suc_some x)) in
        ap (λ k. min (k * suc x) most) at_most ∙ omega (arith, least, above)
      where
        suc_some : (x : ℕ) → 1 ≤ suc x
        suc_some x = omega arith

    exact : p ≤ most → min (min p most * suc x) most ≡ min (suc x * p) most
    exact fits =
        let at_p : min p most ≡ p = omega arith in
        let turned : p * suc x ≡ suc x * p = omega arith in
        ap (λ k. min (k * suc x) most) at_p ∙ ap (λ k. min k most) turned
