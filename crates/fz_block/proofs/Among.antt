-- The first END among the cards of several blocks.
use Rattle.std.proofs.Common.{◌≡◌, ℕ, zero, suc, ◌+◌, ◌-◌, ◌*◌, ◌<◌, ◌≤◌, Bool, true, false, List, take, drop, codes, Option, Some, None, refl, sym, ◌∙◌, ap, arith, zero-add, if◌then◌else◌}
use Rattle.std.specs.Option.{option_map}
use Rattle.std.proofs.lemmas.List.{drop-drop, drop-take, take-take}
use Rattle.fz_block.specs.Cards.{is_named, end_among}

-- what the search says of a card and of those after it
abbrev pub on_card : Bool → Option ℕ → Option ℕ
on_card is_end later = if is_end then Some 0 else option_map suc later

not_here : (is_end : Bool) (later : Option ℕ) → on_card is_end later ≡ None → (is_end ≡ false) × (later ≡ None)
not_here true later none = grind (arith, none)
not_here false None none = (refl, refl)
not_here false (Some k) none = grind (arith, none)

one_more : (m : ℕ) (later : Option ℕ) → option_map suc (option_map (λ k. m + k) later) ≡ option_map (λ k. suc m + k) later
one_more m None = refl
one_more m (Some k) = let e : suc (m + k) ≡ suc m + k = omega arith in ap Some e

pub behind : (m : ℕ) (xs : List ℕ) → drop (80 * m) (drop 80 xs) ≡ drop (80 * suc m) xs
behind m xs =
    let step : 80 + 80 * m ≡ 80 * suc m = omega arith in
    drop-drop (80 * m) 80 xs ∙ ap (λ n. drop n xs) step

-- a search that finds nothing among the first cards goes on after them
pub none_first : (m n : ℕ) (xs : List ℕ) → end_among m xs ≡ None → end_among (m + n) xs ≡ option_map (λ k. m + k) (end_among n (drop (80 * m) xs))
unfolding end_among
none_first zero n xs none = ap (λ k. end_among k xs) (zero-add n) ∙ sym (same (end_among n xs))
  where
    same : (o : Option ℕ) → option_map (λ k. 0 + k) o ≡ o
    same None = refl
    same (Some k) = ap Some (zero-add k)
none_first (suc m) n xs none =
    let split : (is_named (codes "END") (take 80 xs) ≡ false) × (end_among m (drop 80 xs) ≡ None) = not_here (is_named (codes "END") (take 80 xs)) (end_among m (drop 80 xs)) none in
    let later : end_among (m + n) (drop 80 xs) ≡ option_map (λ k. m + k) (end_among n (drop (80 * m) (drop 80 xs))) = none_first m n (drop 80 xs) split.1 in
    let count : suc m + n ≡ suc (m + n) = omega arith in
    ap (λ k. end_among k xs) count
    ∙ (ap (λ b. on_card b (end_among (m + n) (drop 80 xs))) split.0
    ∙ (ap (option_map suc) later
    ∙ (one_more m (end_among n (drop (80 * m) (drop 80 xs)))
    ∙ ap (λ ys. option_map (λ k. suc m + k) (end_among n ys)) (behind m xs))))

-- a search that finds END among the first cards is at its end
pub found_first : (m n i : ℕ) (xs : List ℕ) → end_among m xs ≡ Some i → end_among (m + n) xs ≡ Some i
unfolding end_among
found_first zero n i xs found = grind (arith, found)
found_first (suc m) n i xs found =
    let count : suc m + n ≡ suc (m + n) = omega arith in
    ap (λ k. end_among k xs) count
    ∙ by_card (is_named (codes "END") (take 80 xs)) (end_among m (drop 80 xs)) (end_among (m + n) (drop 80 xs)) (λ j h. found_first m n j (drop 80 xs) h) i found
  where
    by_card : (b : Bool) (less more : Option ℕ) → ((j : ℕ) → less ≡ Some j → more ≡ Some j) → (i : ℕ) → on_card b less ≡ Some i → on_card b more ≡ Some i
    by_card true less more grows i found = found
    by_card false None more grows i found = grind (arith, found)
    by_card false (Some j) more grows i found = ap (option_map suc) (grows j refl) ∙ found

-- END is one of the cards
pub found_below : (m i : ℕ) (xs : List ℕ) → end_among m xs ≡ Some i → i < m
unfolding end_among
found_below zero i xs found = grind (arith, found)
found_below (suc m) i xs found = by_card (is_named (codes "END") (take 80 xs)) (end_among m (drop 80 xs)) (λ j h. found_below m j (drop 80 xs) h) found
  where
    by_card : (b : Bool) (less : Option ℕ) → ((j : ℕ) → less ≡ Some j → j < m) → on_card b less ≡ Some i → i < suc m
    by_card true less below found = let same : 0 ≡ i = grind (arith, found) in omega (arith, same)
    by_card false None below found = grind (arith, found)
    by_card false (Some j) below found =
        let same : suc j ≡ i = grind (arith, found) in
        let small : j < m = below j refl in
        omega (arith, same, small)

-- what is after the cards is not looked at
pub among_take : (n k : ℕ) (xs : List ℕ) → 80 * n ≤ k → end_among n (take k xs) ≡ end_among n xs
unfolding end_among
among_take zero k xs h = refl
among_take (suc n) k xs h =
    let split : 80 + (k - 80) ≡ k = omega (arith, h) in
    let first : take 80 (take k xs) ≡ take 80 xs = take-take 80 k xs (omega (arith, h)) in
    let rest : drop 80 (take k xs) ≡ take (k - 80) (drop 80 xs) = ap (λ j. drop 80 (take j xs)) (sym split) ∙ drop-take 80 (k - 80) xs in
    let room : 80 * n ≤ k - 80 = omega (arith, h) in
    let later : end_among n (drop 80 (take k xs)) ≡ end_among n (drop 80 xs) = ap (end_among n) rest ∙ among_take n (k - 80) (drop 80 xs) room in
    ap (λ c. on_card (is_named (codes "END") c) (end_among n (drop 80 (take k xs)))) first ∙ ap (on_card (is_named (codes "END") (take 80 xs))) later
