-- Tables of axes that are filled entry by entry, as lists.
use Rattle.std.proofs.Common.{◌≡◌, ℕ, suc, zero, ◌+◌, ◌*◌, ◌<◌, ◌≤◌, List, [], ◌∷◌, length, get_or, take, refl, ap, ◌∙◌, arith}
use Rattle.fz_grid.specs.Sieve.{pick_count, pick_counts, stepped}
use Rattle.fz_grid.specs.Visits.{all_visited, visited, visited_count, visited_counts}

-- the numbers of picks
pub counts_list : (xs os hs ss : List ℕ) (n : ℕ) → n ≤ length xs → n ≤ length os → n ≤ length hs → n ≤ length ss → ((i : ℕ) → i < n → get_or xs i 0 ≡ pick_count (get_or os i 0) (get_or hs i 0) (get_or ss i 0)) → take n xs ≡ pick_counts (take n os) (take n hs) (take n ss)
counts_list xs os hs ss zero in_xs in_os in_hs in_ss each = refl
counts_list [] os hs ss (suc n) in_xs in_os in_hs in_ss each = absurd (omega arith)
counts_list (x ∷ xs) [] hs ss (suc n) in_xs in_os in_hs in_ss each = absurd (omega arith)
counts_list (x ∷ xs) (o ∷ os) [] ss (suc n) in_xs in_os in_hs in_ss each = absurd (omega arith)
counts_list (x ∷ xs) (o ∷ os) (h ∷ hs) [] (suc n) in_xs in_os in_hs in_ss each = absurd (omega arith)
counts_list (x ∷ xs) (o ∷ os) (h ∷ hs) (s ∷ ss) (suc n) in_xs in_os in_hs in_ss each =
    ap (λ y. y ∷ take n xs) (each zero (omega arith)) ∙ ap (λ l. pick_count o h s ∷ l) (counts_list xs os hs ss n (omega arith) (omega arith) (omega arith) (omega arith) (λ i h'. each (suc i) (omega arith)))

-- the coordinates of a pick
pub stepped_list : (xs os ss ks : List ℕ) (n : ℕ) → n ≤ length xs → n ≤ length os → n ≤ length ss → n ≤ length ks → ((i : ℕ) → i < n → get_or xs i 0 ≡ get_or os i 0 + get_or ks i 0 * get_or ss i 0) → take n xs ≡ stepped (take n os) (take n ss) (take n ks)
stepped_list xs os ss ks zero in_xs in_os in_ss in_ks each = refl
stepped_list [] os ss ks (suc n) in_xs in_os in_ss in_ks each = absurd (omega arith)
stepped_list (x ∷ xs) [] ss ks (suc n) in_xs in_os in_ss in_ks each = absurd (omega arith)
stepped_list (x ∷ xs) (o ∷ os) [] ks (suc n) in_xs in_os in_ss in_ks each = absurd (omega arith)
stepped_list (x ∷ xs) (o ∷ os) (s ∷ ss) [] (suc n) in_xs in_os in_ss in_ks each = absurd (omega arith)
stepped_list (x ∷ xs) (o ∷ os) (s ∷ ss) (k ∷ ks) (suc n) in_xs in_os in_ss in_ks each =
    ap (λ y. y ∷ take n xs) (each zero (omega arith)) ∙ ap (λ l. (o + k * s) ∷ l) (stepped_list xs os ss ks n (omega arith) (omega arith) (omega arith) (omega arith) (λ i h'. each (suc i) (omega arith)))

-- the numbers of tiles with a pick
pub visited_counts_list : (xs os hs ss ts : List ℕ) (n : ℕ) → n ≤ length xs → n ≤ length os → n ≤ length hs → n ≤ length ss → n ≤ length ts → ((i : ℕ) → i < n → get_or xs i 0 ≡ visited_count (get_or os i 0) (get_or hs i 0) (get_or ss i 0) (get_or ts i 0)) → take n xs ≡ visited_counts (take n os) (take n hs) (take n ss) (take n ts)
visited_counts_list xs os hs ss ts zero in_xs in_os in_hs in_ss in_ts each = refl
visited_counts_list [] os hs ss ts (suc n) in_xs in_os in_hs in_ss in_ts each = absurd (omega arith)
visited_counts_list (x ∷ xs) [] hs ss ts (suc n) in_xs in_os in_hs in_ss in_ts each = absurd (omega arith)
visited_counts_list (x ∷ xs) (o ∷ os) [] ss ts (suc n) in_xs in_os in_hs in_ss in_ts each = absurd (omega arith)
visited_counts_list (x ∷ xs) (o ∷ os) (h ∷ hs) [] ts (suc n) in_xs in_os in_hs in_ss in_ts each = absurd (omega arith)
visited_counts_list (x ∷ xs) (o ∷ os) (h ∷ hs) (s ∷ ss) [] (suc n) in_xs in_os in_hs in_ss in_ts each = absurd (omega arith)
visited_counts_list (x ∷ xs) (o ∷ os) (h ∷ hs) (s ∷ ss) (t ∷ ts) (suc n) in_xs in_os in_hs in_ss in_ts each =
    ap (λ y. y ∷ take n xs) (each zero (omega arith)) ∙ ap (λ l. visited_count o h s t ∷ l) (visited_counts_list xs os hs ss ts n (omega arith) (omega arith) (omega arith) (omega arith) (omega arith) (λ i h'. each (suc i) (omega arith)))

-- the places of a tile with a pick
pub visited_list : (xs os ss ts ks : List ℕ) (n : ℕ) → n ≤ length xs → n ≤ length os → n ≤ length ss → n ≤ length ts → n ≤ length ks → ((i : ℕ) → i < n → get_or xs i 0 ≡ visited (get_or os i 0) (get_or ss i 0) (get_or ts i 0) (get_or ks i 0)) → take n xs ≡ all_visited (take n os) (take n ss) (take n ts) (take n ks)
visited_list xs os ss ts ks zero in_xs in_os in_ss in_ts in_ks each = refl
visited_list [] os ss ts ks (suc n) in_xs in_os in_ss in_ts in_ks each = absurd (omega arith)
visited_list (x ∷ xs) [] ss ts ks (suc n) in_xs in_os in_ss in_ts in_ks each = absurd (omega arith)
visited_list (x ∷ xs) (o ∷ os) [] ts ks (suc n) in_xs in_os in_ss in_ts in_ks each = absurd (omega arith)
visited_list (x ∷ xs) (o ∷ os) (s ∷ ss) [] ks (suc n) in_xs in_os in_ss in_ts in_ks each = absurd (omega arith)
visited_list (x ∷ xs) (o ∷ os) (s ∷ ss) (t ∷ ts) [] (suc n) in_xs in_os in_ss in_ts in_ks each = absurd (omega arith)
visited_list (x ∷ xs) (o ∷ os) (s ∷ ss) (t ∷ ts) (k ∷ ks) (suc n) in_xs in_os in_ss in_ts in_ks each =
    ap (λ y. y ∷ take n xs) (each zero (omega arith)) ∙ ap (λ l. visited o s t k ∷ l) (visited_list xs os ss ts ks n (omega arith) (omega arith) (omega arith) (omega arith) (omega arith) (λ i h'. each (suc i) (omega arith)))
