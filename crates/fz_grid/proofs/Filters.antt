-- Neighbouring numbers that pass a test.
use Rattle.std.proofs.Common.{◌≡◌, ℕ, suc, zero, ◌+◌, ◌-◌, ◌*◌, ◌/◌, ◌%◌, ◌<◌, ◌≤◌, Bool, true, false, ◌&&◌, cond, List, [], ◌∷◌, ◌++◌, map, refl, ap, sym, ◌∙◌, arith}
use Rattle.std.specs.List.{filter, flat_map, range_with_len}
use Rattle.std.proofs.lemmas.List.{append-nil}
use Rattle.std.proofs.lemmas.List.Elements.{filter-append}
use Rattle.std.proofs.lemmas.Nat.{div-mul-add, mod-mul-add}
use Rattle.fz_grid.proofs.Ranges.{range_append}

-- the test of numbers from a on is another test of numbers from b on
pub filter_moved : (p q : ℕ → Bool) (a b d n : ℕ) → a ≡ b + d → ((i : ℕ) → i < n → p (a + i) ≡ q (b + i)) → filter p (range_with_len a n) ≡ map (λ c. c + d) (filter q (range_with_len b n))
filter_moved p q a b d zero apart same = refl
filter_moved p q a b d (suc n) apart same =
    let at_a : a + zero ≡ a = omega arith in
    let at_b : b + zero ≡ b = omega arith in
    let here : p a ≡ q b = ap p (sym at_a) ∙ (same zero (omega arith) ∙ ap q at_b) in
    let later : (i : ℕ) → i < n → p (a + 1 + i) ≡ q (b + 1 + i) = λ i h.
    let next_a : a + 1 + i ≡ a + suc i = omega arith in
    let next_b : b + 1 + i ≡ b + suc i = omega arith in
    ap p next_a ∙ (same (suc i) (omega arith) ∙ ap q (sym next_b)) in
    let rest = filter_moved p q (a + 1) (b + 1) d n (omega (arith, apart)) later in
    let kept = filter q (range_with_len (b + 1) n) in
    ap (λ t. cond t (a ∷ filter p (range_with_len (a + 1) n)) (filter p (range_with_len (a + 1) n))) here
    ∙ (ap (λ l. cond (q b) (a ∷ l) l) rest
    ∙ (ap (λ x. cond (q b) (x ∷ map (λ c. c + d) kept) (map (λ c. c + d) kept)) apart
    ∙ outside (q b) kept))
  where
    outside : (t : Bool) (kept : List ℕ) → cond t ((b + d) ∷ map (λ c. c + d) kept) (map (λ c. c + d) kept) ≡ map (λ c. c + d) (cond t (b ∷ kept) kept)
    outside true kept = refl
    outside false kept = refl

pub filter_none : (p : ℕ → Bool) (a n : ℕ) → ((i : ℕ) → i < n → p (a + i) ≡ false) → filter p (range_with_len a n) ≡ []
filter_none p a zero fails = refl
filter_none p a (suc n) fails =
    let at_a : a + zero ≡ a = omega arith in
    let here : p a ≡ false = ap p (sym at_a) ∙ fails zero (omega arith) in
    let later : (i : ℕ) → i < n → p (a + 1 + i) ≡ false = λ i h.
    let next_a : a + 1 + i ≡ a + suc i = omega arith in
    ap p next_a ∙ fails (suc i) (omega arith) in
    ap (λ t. cond t (a ∷ filter p (range_with_len (a + 1) n)) (filter p (range_with_len (a + 1) n))) here ∙ filter_none p (a + 1) n later

pub filter_all : (p : ℕ → Bool) (a n : ℕ) → ((i : ℕ) → i < n → p (a + i) ≡ true) → filter p (range_with_len a n) ≡ range_with_len a n
filter_all p a zero passes = refl
filter_all p a (suc n) passes =
    let at_a : a + zero ≡ a = omega arith in
    let here : p a ≡ true = ap p (sym at_a) ∙ passes zero (omega arith) in
    let later : (i : ℕ) → i < n → p (a + 1 + i) ≡ true = λ i h.
    let next_a : a + 1 + i ≡ a + suc i = omega arith in
    ap p next_a ∙ passes (suc i) (omega arith) in
    ap (λ t. cond t (a ∷ filter p (range_with_len (a + 1) n)) (filter p (range_with_len (a + 1) n))) here ∙ ap (λ l. a ∷ l) (filter_all p (a + 1) n later)

-- a test that passes from f on, for s numbers
pub filter_between : (p : ℕ → Bool) (f s g : ℕ) → f + s ≤ g → ((d : ℕ) → d < f → p d ≡ false) → ((d : ℕ) → f ≤ d → d < f + s → p d ≡ true) → ((d : ℕ) → f + s ≤ d → d < g → p d ≡ false) → filter p (range_with_len 0 g) ≡ range_with_len f s
filter_between p f s g fits before within after =
    let rest = g - (f + s) in
    let front = range_append 0 f (s + rest) g f (omega arith) (omega arith) in
    let back = range_append f s rest (s + rest) (f + s) refl refl in
    let none_before : filter p (range_with_len 0 f) ≡ [] = filter_none p 0 f (λ i h. before (0 + i) (omega arith)) in
    let all_within : filter p (range_with_len f s) ≡ range_with_len f s = filter_all p f s (λ i h. within (f + i) (omega arith) (omega arith)) in
    let none_after : filter p (range_with_len (f + s) rest) ≡ [] = filter_none p (f + s) rest (λ i h. after (f + s + i) (omega arith) (omega arith)) in
    ap (filter p) front
    ∙ (filter-append p (range_with_len 0 f) (range_with_len f (s + rest))
    ∙ (ap (λ l. l ++ filter p (range_with_len f (s + rest))) none_before
    ∙ (ap (filter p) back
    ∙ (filter-append p (range_with_len f s) (range_with_len (f + s) rest)
    ∙ (ap (λ l. l ++ filter p (range_with_len (f + s) rest)) all_within
    ∙ (ap (λ l. range_with_len f s ++ l) none_after ∙ append-nil (range_with_len f s)))))))

-- rows of g places: a place passes where its column and its row do
pub filter_rows : (a b : ℕ → Bool) (g x m : ℕ) → 0 < g → filter (λ k. a (k % g) && b (k / g)) (range_with_len (x * g) (m * g)) ≡ flat_map (λ q. map (λ c. c + q * g) (filter a (range_with_len 0 g))) (filter b (range_with_len x m))
filter_rows a b g x zero some =
    let none : zero * g ≡ zero = omega arith in
    ap (λ n. filter (λ k. a (k % g) && b (k / g)) (range_with_len (x * g) n)) none
filter_rows a b g x (suc m) some =
    let p : ℕ → Bool = λ k. a (k % g) && b (k / g) in
    let row : ℕ → List ℕ = λ q. map (λ c. c + q * g) (filter a (range_with_len 0 g)) in
    let split = range_append (x * g) g (m * g) (suc m * g) ((x + 1) * g) (omega arith) (omega arith) in
    ap (filter p) split
    ∙ (filter-append p (range_with_len (x * g) g) (range_with_len ((x + 1) * g) (m * g))
    ∙ (ap (λ l. l ++ filter p (range_with_len ((x + 1) * g) (m * g))) (this_row (b x) refl)
    ∙ (ap (λ l. cond (b x) (row x) [] ++ l) (filter_rows a b g (x + 1) m some)
    ∙ joined row x (filter b (range_with_len (x + 1) m)) (b x))))
  where
    at_place : (i : ℕ) → i < g → (a ((x * g + i) % g) && b ((x * g + i) / g)) ≡ (a i && b x)
    at_place i h =
        let low : (x * g + i) % g ≡ i = mod-mul-add x g i h in
        let high : (x * g + i) / g ≡ x = div-mul-add x g i h in
        ap (λ j. a j && b ((x * g + i) / g)) low ∙ ap (λ j. a i && b j) high

    always : (t : Bool) → (t && true) ≡ t
    always true = refl
    always false = refl

    never : (t : Bool) → (t && false) ≡ false
    never true = refl
    never false = refl

    this_row : (t : Bool) → b x ≡ t → filter (λ k. a (k % g) && b (k / g)) (range_with_len (x * g) g) ≡ cond t (map (λ c. c + x * g) (filter a (range_with_len 0 g))) []
    this_row true is =
        filter_moved (λ k. a (k % g) && b (k / g)) a (x * g) 0 (x * g) g (omega arith) (λ i h.
        let from_zero : i ≡ 0 + i = omega arith in
        at_place i h ∙ (ap (λ t. a i && t) is ∙ (always (a i) ∙ ap a from_zero)))
    this_row false is =
        filter_none (λ k. a (k % g) && b (k / g)) (x * g) g (λ i h. at_place i h ∙ (ap (λ t. a i && t) is ∙ never (a i)))

    joined : (row : ℕ → List ℕ) (x : ℕ) (xs : List ℕ) (t : Bool) → cond t (row x) [] ++ flat_map row xs ≡ flat_map row (cond t (x ∷ xs) xs)
    joined row x xs true = refl
    joined row x xs false = refl
