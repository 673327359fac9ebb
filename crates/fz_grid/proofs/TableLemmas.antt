-- Tables of axes, whose first entries are a list.
use Rattle.std.proofs.Common.{◌≡◌, ℕ, suc, zero, ◌+◌, ◌-◌, ◌*◌, ◌<◌, ◌≤◌, List, [], ◌∷◌, length, get_or, take, set, refl, ap, ◌∙◌, arith, get_or-set_other, get_or-set_same}
use Rattle.std.proofs.lemmas.Nat.{mul-le}
use Rattle.fz_grid.specs.Arrays.{product}
use Rattle.fz_grid.specs.Grid.{moved}
use Rattle.fz_grid.specs.Sieve.{all_before, pick_count, pick_counts, picks_before, picks_in, stepped}
use Rattle.fz_grid.specs.Cutout.{first_from}

-- all entries but the first
abbrev pub rest_of : List ℕ → List ℕ
rest_of [] = []
rest_of (x ∷ xs) = xs

pub front_of : (xs : List ℕ) (n : ℕ) → 0 < n → 0 < length xs → take n xs ≡ get_or xs 0 0 ∷ rest_of (take n xs)
front_of xs zero some long = absurd (omega arith)
front_of [] (suc n) some long = absurd (omega arith)
front_of (x ∷ xs) (suc n) some long = refl

-- with another first entry
pub front_set : (xs : List ℕ) (n : ℕ) → 0 < n → 0 < length xs → take n (set xs 0 1) ≡ 1 ∷ rest_of (take n xs)
front_set xs zero some long = absurd (omega arith)
front_set [] (suc n) some long = absurd (omega arith)
front_set (x ∷ xs) (suc n) some long = refl

-- the same first entries
pub same_front : (xs ys : List ℕ) (n : ℕ) → n ≤ length xs → n ≤ length ys → ((i : ℕ) → i < n → get_or xs i 0 ≡ get_or ys i 0) → take n xs ≡ take n ys
same_front xs ys zero in_xs in_ys each = refl
same_front [] ys (suc n) in_xs in_ys each = absurd (omega arith)
same_front (x ∷ xs) [] (suc n) in_xs in_ys each = absurd (omega arith)
same_front (x ∷ xs) (y ∷ ys) (suc n) in_xs in_ys each =
    ap (λ z. z ∷ take n xs) (each zero (omega arith)) ∙ ap (λ l. y ∷ l) (same_front xs ys n (omega arith) (omega arith) (λ i h. each (suc i) (omega arith)))

-- the coordinates of a pick
pub stepped_list : (xs os ss ks : List ℕ) (n : ℕ) → n ≤ length xs → n ≤ length os → n ≤ length ss → n ≤ length ks → ((i : ℕ) → i < n → get_or xs i 0 ≡ get_or os i 0 + get_or ks i 0 * get_or ss i 0) → take n xs ≡ stepped (take n os) (take n ss) (take n ks)
stepped_list xs os ss ks zero in_xs in_os in_ss in_ks each = refl
stepped_list [] os ss ks (suc n) in_xs in_os in_ss in_ks each = absurd (omega arith)
stepped_list (x ∷ xs) [] ss ks (suc n) in_xs in_os in_ss in_ks each = absurd (omega arith)
stepped_list (x ∷ xs) (o ∷ os) [] ks (suc n) in_xs in_os in_ss in_ks each = absurd (omega arith)
stepped_list (x ∷ xs) (o ∷ os) (s ∷ ss) [] (suc n) in_xs in_os in_ss in_ks each = absurd (omega arith)
stepped_list (x ∷ xs) (o ∷ os) (s ∷ ss) (k ∷ ks) (suc n) in_xs in_os in_ss in_ks each =
    ap (λ y. y ∷ take n xs) (each zero (omega arith)) ∙ ap (λ l. (o + k * s) ∷ l) (stepped_list xs os ss ks n (omega arith) (omega arith) (omega arith) (omega arith) (λ i h. each (suc i) (omega arith)))

-- the coordinates of a pixel that is counted from a corner
pub moved_list : (xs os ks : List ℕ) (n : ℕ) → n ≤ length xs → n ≤ length os → n ≤ length ks → ((i : ℕ) → i < n → get_or xs i 0 ≡ get_or os i 0 + get_or ks i 0) → take n xs ≡ moved (take n os) (take n ks)
moved_list xs os ks zero in_xs in_os in_ks each = refl
moved_list [] os ks (suc n) in_xs in_os in_ks each = absurd (omega arith)
moved_list (x ∷ xs) [] ks (suc n) in_xs in_os in_ks each = absurd (omega arith)
moved_list (x ∷ xs) (o ∷ os) [] (suc n) in_xs in_os in_ks each = absurd (omega arith)
moved_list (x ∷ xs) (o ∷ os) (k ∷ ks) (suc n) in_xs in_os in_ks each =
    ap (λ y. y ∷ take n xs) (each zero (omega arith)) ∙ ap (λ l. (o + k) ∷ l) (moved_list xs os ks n (omega arith) (omega arith) (omega arith) (λ i h. each (suc i) (omega arith)))

-- how many picks there are
pub counts_list : (xs os hs ss : List ℕ) (n : ℕ) → n ≤ length xs → n ≤ length os → n ≤ length hs → n ≤ length ss → ((i : ℕ) → i < n → get_or xs i 0 ≡ pick_count (get_or os i 0) (get_or hs i 0) (get_or ss i 0)) → take n xs ≡ pick_counts (take n os) (take n hs) (take n ss)
counts_list xs os hs ss zero in_xs in_os in_hs in_ss each = refl
counts_list [] os hs ss (suc n) in_xs in_os in_hs in_ss each = absurd (omega arith)
counts_list (x ∷ xs) [] hs ss (suc n) in_xs in_os in_hs in_ss each = absurd (omega arith)
counts_list (x ∷ xs) (o ∷ os) [] ss (suc n) in_xs in_os in_hs in_ss each = absurd (omega arith)
counts_list (x ∷ xs) (o ∷ os) (h ∷ hs) [] (suc n) in_xs in_os in_hs in_ss each = absurd (omega arith)
counts_list (x ∷ xs) (o ∷ os) (h ∷ hs) (s ∷ ss) (suc n) in_xs in_os in_hs in_ss each =
    ap (λ y. y ∷ take n xs) (each zero (omega arith)) ∙ ap (λ l. pick_count o h s ∷ l) (counts_list xs os hs ss n (omega arith) (omega arith) (omega arith) (omega arith) (λ i h'. each (suc i) (omega arith)))

-- how many picks stand before a corner
pub befores_list : (xs os hs ss cs : List ℕ) (n : ℕ) → n ≤ length xs → n ≤ length os → n ≤ length hs → n ≤ length ss → n ≤ length cs → ((i : ℕ) → i < n → get_or xs i 0 ≡ picks_before (get_or os i 0) (get_or hs i 0) (get_or ss i 0) (get_or cs i 0)) → take n xs ≡ all_before (take n os) (take n hs) (take n ss) (take n cs)
befores_list xs os hs ss cs zero in_xs in_os in_hs in_ss in_cs each = refl
befores_list [] os hs ss cs (suc n) in_xs in_os in_hs in_ss in_cs each = absurd (omega arith)
befores_list (x ∷ xs) [] hs ss cs (suc n) in_xs in_os in_hs in_ss in_cs each = absurd (omega arith)
befores_list (x ∷ xs) (o ∷ os) [] ss cs (suc n) in_xs in_os in_hs in_ss in_cs each = absurd (omega arith)
befores_list (x ∷ xs) (o ∷ os) (h ∷ hs) [] cs (suc n) in_xs in_os in_hs in_ss in_cs each = absurd (omega arith)
befores_list (x ∷ xs) (o ∷ os) (h ∷ hs) (s ∷ ss) [] (suc n) in_xs in_os in_hs in_ss in_cs each = absurd (omega arith)
befores_list (x ∷ xs) (o ∷ os) (h ∷ hs) (s ∷ ss) (c ∷ cs) (suc n) in_xs in_os in_hs in_ss in_cs each =
    ap (λ y. y ∷ take n xs) (each zero (omega arith)) ∙ ap (λ l. picks_before o h s c ∷ l) (befores_list xs os hs ss cs n (omega arith) (omega arith) (omega arith) (omega arith) (omega arith) (λ i h'. each (suc i) (omega arith)))

-- the first pick from a corner on
pub firsts_list : (xs os hs ss cs : List ℕ) (n : ℕ) → n ≤ length xs → n ≤ length os → n ≤ length hs → n ≤ length ss → n ≤ length cs → ((i : ℕ) → i < n → get_or xs i 0 ≡ get_or os i 0 + picks_before (get_or os i 0) (get_or hs i 0) (get_or ss i 0) (get_or cs i 0) * get_or ss i 0 - get_or cs i 0) → take n xs ≡ first_from (take n os) (take n hs) (take n ss) (take n cs)
firsts_list xs os hs ss cs zero in_xs in_os in_hs in_ss in_cs each = refl
firsts_list [] os hs ss cs (suc n) in_xs in_os in_hs in_ss in_cs each = absurd (omega arith)
firsts_list (x ∷ xs) [] hs ss cs (suc n) in_xs in_os in_hs in_ss in_cs each = absurd (omega arith)
firsts_list (x ∷ xs) (o ∷ os) [] ss cs (suc n) in_xs in_os in_hs in_ss in_cs each = absurd (omega arith)
firsts_list (x ∷ xs) (o ∷ os) (h ∷ hs) [] cs (suc n) in_xs in_os in_hs in_ss in_cs each = absurd (omega arith)
firsts_list (x ∷ xs) (o ∷ os) (h ∷ hs) (s ∷ ss) [] (suc n) in_xs in_os in_hs in_ss in_cs each = absurd (omega arith)
firsts_list (x ∷ xs) (o ∷ os) (h ∷ hs) (s ∷ ss) (c ∷ cs) (suc n) in_xs in_os in_hs in_ss in_cs each =
    ap (λ y. y ∷ take n xs) (each zero (omega arith)) ∙ ap (λ l. (o + picks_before o h s c * s - c) ∷ l) (firsts_list xs os hs ss cs n (omega arith) (omega arith) (omega arith) (omega arith) (omega arith) (λ i h'. each (suc i) (omega arith)))

-- how many picks a box has
pub parts_list : (xs os hs ss cs ns : List ℕ) (n : ℕ) → n ≤ length xs → n ≤ length os → n ≤ length hs → n ≤ length ss → n ≤ length cs → n ≤ length ns → ((i : ℕ) → i < n → get_or xs i 0 ≡ picks_before (get_or os i 0) (get_or hs i 0) (get_or ss i 0) (get_or cs i 0 + get_or ns i 0) - picks_before (get_or os i 0) (get_or hs i 0) (get_or ss i 0) (get_or cs i 0)) → take n xs ≡ picks_in (take n os) (take n hs) (take n ss) (take n cs) (take n ns)
parts_list xs os hs ss cs ns zero in_xs in_os in_hs in_ss in_cs in_ns each = refl
parts_list [] os hs ss cs ns (suc n) in_xs in_os in_hs in_ss in_cs in_ns each = absurd (omega arith)
parts_list (x ∷ xs) [] hs ss cs ns (suc n) in_xs in_os in_hs in_ss in_cs in_ns each = absurd (omega arith)
parts_list (x ∷ xs) (o ∷ os) [] ss cs ns (suc n) in_xs in_os in_hs in_ss in_cs in_ns each = absurd (omega arith)
parts_list (x ∷ xs) (o ∷ os) (h ∷ hs) [] cs ns (suc n) in_xs in_os in_hs in_ss in_cs in_ns each = absurd (omega arith)
parts_list (x ∷ xs) (o ∷ os) (h ∷ hs) (s ∷ ss) [] ns (suc n) in_xs in_os in_hs in_ss in_cs in_ns each = absurd (omega arith)
parts_list (x ∷ xs) (o ∷ os) (h ∷ hs) (s ∷ ss) (c ∷ cs) [] (suc n) in_xs in_os in_hs in_ss in_cs in_ns each = absurd (omega arith)
parts_list (x ∷ xs) (o ∷ os) (h ∷ hs) (s ∷ ss) (c ∷ cs) (m ∷ ns) (suc n) in_xs in_os in_hs in_ss in_cs in_ns each =
    ap (λ y. y ∷ take n xs) (each zero (omega arith)) ∙ ap (λ l. (picks_before o h s (c + m) - picks_before o h s c) ∷ l) (parts_list xs os hs ss cs ns n (omega arith) (omega arith) (omega arith) (omega arith) (omega arith) (omega arith) (λ i h'. each (suc i) (omega arith)))

-- a product of lengths that are no greater
pub product_le : (xs ys : List ℕ) (n : ℕ) → n ≤ length xs → n ≤ length ys → ((i : ℕ) → i < n → get_or xs i 0 ≤ get_or ys i 0) → product (take n xs) ≤ product (take n ys)
product_le xs ys zero in_xs in_ys each = omega arith
product_le [] ys (suc n) in_xs in_ys each = absurd (omega arith)
product_le (x ∷ xs) [] (suc n) in_xs in_ys each = absurd (omega arith)
product_le (x ∷ xs) (y ∷ ys) (suc n) in_xs in_ys each =
    mul-le x (product (take n xs)) y (product (take n ys)) (each zero (omega arith)) (product_le xs ys n (omega arith) (omega arith) (λ i h. each (suc i) (omega arith)))

-- a table has at least as many entries as are above 0
pub long_enough : (xs : List ℕ) (n : ℕ) → ((i : ℕ) → i < n → 1 ≤ get_or xs i 0) → n ≤ length xs
long_enough xs zero positive = omega arith
long_enough [] (suc n) positive = absurd (omega (arith, positive n (omega arith)))
long_enough (x ∷ xs) (suc n) positive = omega (arith, long_enough xs n (λ i h. positive (suc i) (omega arith)))

pub set_first : (xs : List ℕ) → 0 < length xs → get_or (set xs 0 1) 0 0 ≡ 1
set_first xs long = get_or-set_same xs 0 1 0 long

pub set_later : (xs : List ℕ) (i : ℕ) → 0 < i → get_or (set xs 0 1) i 0 ≡ get_or xs i 0
set_later xs i later = get_or-set_other xs 0 i 1 0 (omega arith)
