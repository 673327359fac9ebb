-- The plain bytes of the HDU at hand: those of one that is copied, the header of an image, its pixels and its fill (FITS 4.0, sections 3.1, 3.3.2
-- and 4.4.1).
use Rattle.std.proofs.Common.{◌≡◌, ℕ, ◌+◌, ◌-◌, ◌≤◌, List, ◌++◌, take, drop, sym, ap, ◌∙◌, arith}
use Rattle.std.proofs.lemmas.List.{drop-take, take-append-drop, take-take}

-- ---- slices

-- so many items are some and then more
pub split_take : (a b : ℕ) (l : List ℕ) → take (a + b) l ≡ take a l ++ take b (drop a l)
split_take a b l =
    sym (take-append-drop a (take (a + b) l))
    ∙ (λ i. take-take a (a + b) l (omega arith) i ++ drop-take a b l i)

pub slice_take : (n m most : ℕ) (l : List ℕ) → m + n ≤ most → take n (drop m (take most l)) ≡ take n (drop m l)
slice_take n m most l within =
    let long : most ≡ m + (most - m) = omega (arith, within) in
    ap (λ k. take n (drop m (take k l))) long ∙ ap (take n) (drop-take m (most - m) l) ∙ take-take n (most - m) (drop m l) (omega (arith, within))
