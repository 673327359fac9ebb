-- Buffers that were lent.
use Rattle.std.proofs.Common.{◌≡◌, ℕ, ◌+◌, List, [], ◌∷◌, ◌++◌, drop, take, length, sum, ap, ◌∙◌, arith}
use Rattle.std.proofs.lemmas.List.{append-nil, drop_all, length-append, length-drop, length-take, take_all}
use Rattle.std.proofs.lemmas.List.Sums.{sum_by-cons}
use Rattle.fz_base.specs.Buffer.{refilled}

-- the sum of one
pub sum_one : (n : ℕ) → sum (n ∷ []) ≡ n
sum_one n = let first : sum (n ∷ []) ≡ n + 0 = sum_by-cons (λ x. x) n [] in omega (arith, first)

-- a buffer that was lent is as long as before
pub refilled_len : (old lent : List ℕ) → length (refilled old lent) ≡ length old
refilled_len old lent =
    omega (arith, length-take (length old) (lent ++ drop (length lent) old), length-append lent (drop (length lent) old), length-drop (length lent) old)

-- and it is what was left, if that is as long
pub refilled_is : (old lent : List ℕ) → length lent ≡ length old → refilled old lent ≡ lent
refilled_is old lent same =
    ap (λ l. take (length old) (lent ++ l)) (drop_all (length lent) old (omega (arith, same)))
    ∙ ap (take (length old)) (append-nil lent) ∙ take_all (length old) lent (omega (arith, same))
