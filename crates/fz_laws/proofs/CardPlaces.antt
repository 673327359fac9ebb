-- Cards by their places in the bytes of a header.
use Rattle.std.proofs.Common.{◌≡◌, ℕ, zero, suc, ◌+◌, ◌-◌, ◌*◌, ◌/◌, ◌<◌, ◌≤◌, Bool, true, false, cond, List, length, take, drop, codes, bytes_eq, Option, Some, None, option_map, unwrap_or, refl, sym, ap, ◌∙◌, subst, arith, drop-drop, take-take}
use Rattle.std.proofs.lemmas.List.{drop-take}
use Rattle.fz_card.specs.Layout.{card_name, padded}
use Rattle.fz_block.specs.Cards.{card_at, end_among, end_of, first_among, is_named}

next_card : (b : List ℕ) (i : ℕ) → card_at (drop 80 b) i ≡ card_at b (suc i)
next_card b i =
    let place : 80 + 80 * i ≡ 80 * suc i = omega arith in
    ap (take 80) (drop-drop (80 * i) 80 b ∙ ap (λ k. drop k b) place)

-- END is found by names alone
pub end_same : (n : ℕ) (a b : List ℕ) → ((i : ℕ) → i < n → card_name (card_at b i) ≡ card_name (card_at a i)) → end_among n b ≡ end_among n a
unfolding end_among
end_same zero a b each = refl
end_same (suc n) a b each =
    let next : (i : ℕ) → i < n → card_name (card_at (drop 80 b) i) ≡ card_name (card_at (drop 80 a) i) =
    λ i below. ap card_name (next_card b i) ∙ (each (suc i) (omega arith) ∙ sym (ap card_name (next_card a i))) in
    let rest : end_among n (drop 80 b) ≡ end_among n (drop 80 a) = end_same n (drop 80 a) (drop 80 b) next in
    let here : card_name (take 80 b) ≡ card_name (take 80 a) = each 0 (omega arith) in
    λ j. cond (bytes_eq (here j) (padded (codes "END"))) (Some 0) (option_map suc (rest j))

pub end_below : (n : ℕ) (a : List ℕ) (i : ℕ) → end_among n a ≡ Some i → i < n
unfolding end_among
end_below zero a i e = absurd cc
end_below (suc n) a i e = by_test (end_below n (drop 80 a)) (is_named (codes "END") (take 80 a)) (end_among n (drop 80 a)) refl e
  where
    by_test : ((k : ℕ) → end_among n (drop 80 a) ≡ Some k → k < n) → (t : Bool) (o : Option ℕ) → end_among n (drop 80 a) ≡ o → cond t (Some 0) (option_map suc o) ≡ Some i → i < suc n
    by_test later true o same is = let first : 0 ≡ i = cc in omega arith
    by_test later false None same is = absurd cc
    by_test later false (Some k) same is =
        let next : suc k ≡ i = cc in
        let below : k < n = later k same in
        omega arith

-- the first card with a property has it
pub first_has : (has : List ℕ → Bool) (n : ℕ) (a : List ℕ) (i : ℕ) → first_among has n a ≡ Some i → (i < n) × (has (card_at a i) ≡ true)
unfolding first_among
first_has has zero a i e = absurd cc
first_has has (suc n) a i e = by_test (first_has has n (drop 80 a)) (has (take 80 a)) (first_among has n (drop 80 a)) refl refl e
  where
    by_test : ((k : ℕ) → first_among has n (drop 80 a) ≡ Some k → (k < n) × (has (card_at (drop 80 a) k) ≡ true)) → (t : Bool) (o : Option ℕ) → has (take 80 a) ≡ t →
        first_among has n (drop 80 a) ≡ o → cond t (Some 0) (option_map suc o) ≡ Some i → (i < suc n) × (has (card_at a i) ≡ true)
    by_test later true o here same is =
        let first : 0 ≡ i = cc in
        (omega arith, subst (λ k. has (card_at a k) ≡ true) first here)
    by_test later false None here same is = absurd cc
    by_test later false (Some k) here same is =
        let next : suc k ≡ i = cc in
        let rest = later k same in
        let below : k < n = rest.0 in
        (omega arith, subst (λ m. has (card_at a m) ≡ true) next (ap has (sym (next_card a k)) ∙ rest.1))

-- a card of the front of a header
pub card_in_front : (m : ℕ) (a : List ℕ) (i : ℕ) → 80 * i + 80 ≤ m → card_at (take m a) i ≡ card_at a i
card_in_front m a i within =
    let parts : 80 * i + (m - 80 * i) ≡ m = omega arith in
    let front : drop (80 * i) (take m a) ≡ take (m - 80 * i) (drop (80 * i) a) = ap (λ k. drop (80 * i) (take k a)) (sym parts) ∙ drop-take (80 * i) (m - 80 * i) a in
    ap (take 80) front ∙ take-take 80 (m - 80 * i) (drop (80 * i) a) (omega arith)

-- a card before END lies within the header
pub before_end : (a : List ℕ) (i : ℕ) → i < unwrap_or (end_of a) 0 → 80 * i < length a
before_end a i below = by_end (end_of a) refl below
  where
    by_end : (o : Option ℕ) → end_of a ≡ o → i < unwrap_or o 0 → 80 * i < length a
    by_end None same less = absurd (omega arith)
    by_end (Some e) same less =
        let within : e < length a / 80 = end_below (length a / 80) a e same in
        omega arith
