-- Bytes are a header and what is behind it in one way only.
use Rattle.std.proofs.Common.{◌≡◌, inl, inr, ℕ, zero, suc, ◌+◌, ◌-◌, ◌*◌, ◌/◌, ◌<◌, ◌≤◌, min, Bool, true, false, List, ◌++◌, length, take, drop, codes, Option, Some, None, IsSome, if◌then◌else◌, refl, sym, ◌∙◌, ap, arith}
use Rattle.std.specs.Option.{option_map}
use Rattle.std.proofs.lemmas.Bool.{cases_lt}
use Rattle.std.proofs.lemmas.List.{append_cancel_left, drop-take, length-take, take-append-le, take-take, take_at}
use Rattle.fz_block.specs.Cards.{end_among, end_of, is_named}
use Rattle.fz_block.specs.Hdus.{IsHeader}
use Rattle.fz_strict.specs.Laws.{BytesHaveOneHeader}

-- ---- the first END among cards

-- what the search says of a card and of those behind it
abbrev on_card : Bool → Option ℕ → Option ℕ
on_card is_end later = if is_end then Some 0 else option_map suc later

found_first : (m n i : ℕ) (xs : List ℕ) → end_among m xs ≡ Some i → end_among (m + n) xs ≡ Some i
unfolding end_among
found_first zero n i xs found = grind (arith, found)
found_first (suc m) n i xs found =
    let count : suc m + n ≡ suc (m + n) = omega arith in
    ap (λ k. end_among k xs) count
    ∙ by_card (is_named (codes "END") (take 80 xs)) (end_among m (drop 80 xs)) (end_among (m + n) (drop 80 xs)) (λ j h. found_first m n j (drop 80 xs) h) i
    found
  where
    by_card : (b : Bool) (less more : Option ℕ) → ((j : ℕ) → less ≡ Some j → more ≡ Some j) → (i : ℕ) → on_card b less ≡ Some i → on_card b more ≡ Some i
    by_card true less more grows i found = found
    by_card false None more grows i found = grind (arith, found)
    by_card false (Some j) more grows i found = ap (option_map suc) (grows j refl) ∙ found

-- what stands behind the cards is not looked at
among_take : (n k : ℕ) (xs : List ℕ) → 80 * n ≤ k → end_among n (take k xs) ≡ end_among n xs
unfolding end_among
among_take zero k xs h = refl
among_take (suc n) k xs h =
    let split : 80 + (k - 80) ≡ k = omega (arith, h) in
    let first : take 80 (take k xs) ≡ take 80 xs = take-take 80 k xs (omega (arith, h)) in
    let rest : drop 80 (take k xs) ≡ take (k - 80) (drop 80 xs) = ap (λ j. drop 80 (take j xs)) (sym split) ∙ drop-take 80 (k - 80) xs in
    let room : 80 * n ≤ k - 80 = omega (arith, h) in
    let later : end_among n (drop 80 (take k xs)) ≡ end_among n (drop 80 xs) = ap (end_among n) rest ∙ among_take n (k - 80) (drop 80 xs) room in
    ap (λ c. on_card (is_named (codes "END") c) (end_among n (drop 80 (take k xs)))) first ∙ ap (on_card (is_named (codes "END") (take 80 xs))) later

-- the first END of so many blocks
end_of_blocks : (n : ℕ) (xs : List ℕ) → 2880 * n ≤ length xs → end_of (take (2880 * n) xs) ≡ end_among (36 * n) xs
end_of_blocks n xs within =
    let len : length (take (2880 * n) xs) ≡ min (2880 * n) (length xs) = length-take (2880 * n) xs in
    let cards : length (take (2880 * n) xs) / 80 ≡ 36 * n = omega (arith, len, within) in
    let inside : 80 * (36 * n) ≤ 2880 * n = omega arith in
    ap (λ c. end_among c (take (2880 * n) xs)) cards ∙ among_take (36 * n) (2880 * n) xs inside

some_in : (o : Option ℕ) → IsSome o → (i : ℕ) × (o ≡ Some i)
some_in None is = absurd cc
some_in (Some i) is = (i, refl)

-- ---- headers

-- a header does not begin with a shorter one
not_shorter : (a b x y : List ℕ) → (one : IsHeader a) → (two : IsHeader b) → a ++ x ≡ b ++ y → one.before < two.before → ⊥
not_shorter a b x y one two same less =
    let m = one.before in
    let n = two.before in
    let long_a : length a ≡ 2880 * (m + 1) = one.blocks in
    let long_b : length b ≡ 2880 * (n + 1) = two.blocks in
    let front : take (2880 * n) b ≡ take (2880 * n) (a ++ x) = sym (take-append-le (2880 * n) b y (omega arith)) ∙ ap (take (2880 * n)) (sym same) in
    let begins : take (2880 * (m + 1)) (a ++ x) ≡ a = take_at a x (2880 * (m + 1)) long_a in
    let found = some_in (end_of a) one.has in
    let i = found.0 in
    let cards_a : length a / 80 ≡ 36 * (m + 1) = omega (arith, long_a) in
    let in_a : end_among (36 * (m + 1)) a ≡ Some i = ap (λ c. end_among c a) (sym cards_a) ∙ found.1 in
    let in_both : end_among (36 * (m + 1)) (a ++ x) ≡ Some i =
    sym (among_take (36 * (m + 1)) (2880 * (m + 1)) (a ++ x) (omega arith)) ∙ (ap (end_among (36 * (m + 1))) begins ∙ in_a) in
    let more : 36 * (m + 1) + (36 * n - 36 * (m + 1)) ≡ 36 * n = omega (arith, less) in
    let in_front : end_among (36 * n) (a ++ x) ≡ Some i =
    ap (λ c. end_among c (a ++ x)) (sym more) ∙ found_first (36 * (m + 1)) (36 * n - 36 * (m + 1)) i (a ++ x) in_both in
    let in_b : end_among (36 * n) b ≡ Some i =
    sym (among_take (36 * n) (2880 * n) b (omega arith))
    ∙ (ap (end_among (36 * n)) front ∙ (among_take (36 * n) (2880 * n) (a ++ x) (omega arith) ∙ in_front)) in
    let none : end_among (36 * n) b ≡ None = sym (end_of_blocks n b (omega arith)) ∙ two.none in
    let clash : Some i ≡ None = sym in_b ∙ none in
    cc

one_header : (a b x y : List ℕ) → IsHeader a → IsHeader b → a ++ x ≡ b ++ y → a ≡ b
one_header a b x y one two same = elim (cases_lt one.before two.before) as (λ _. a ≡ b) [
  | inl less ↦ absurd (not_shorter a b x y one two same less)
  | inr more ↦ elim (cases_lt two.before one.before) as (λ _. a ≡ b) [
    | inl less ↦ absurd (not_shorter b a y x two one (sym same) less)
    | inr again ↦
        let equal : one.before ≡ two.before = omega arith in
        let long_b : length b ≡ 2880 * (one.before + 1) = two.blocks ∙ ap (λ n. 2880 * (n + 1)) (sym equal) in
        sym (take_at a x (2880 * (one.before + 1)) one.blocks) ∙ (ap (take (2880 * (one.before + 1))) same ∙ take_at b y (2880 * (one.before + 1)) long_b)
  ]
]

pub one_split : BytesHaveOneHeader
one_split a b x y one two same =
    let header : a ≡ b = one_header a b x y one two same in
    (header, append_cancel_left b x y (ap (λ l. l ++ x) (sym header) ∙ same))
