-- Buffers that were lent.
use Rattle.std.proofs.Common.{◌≡◌, ℕ, ◌+◌, ◌*◌, List, [], ◌∷◌, ◌++◌, drop, length, replicate, sum, sym, ap, ◌∙◌, arith}
use Rattle.std.specs.Prelude.{Some}
use Rattle.std.proofs.lemmas.List.{length-append, length-drop, length-take}
use Rattle.std.proofs.lemmas.List.Sums.{sum_by-cons}
use Rattle.fz_base.specs.Buffer.{refilled}
use Rattle.fz_pool.specs.Laws.{AreFresh}
use Rattle.fz_pool.specs.Window.{Pool, slot_sizes}
use Rattle.fz_job.specs.Workspace.{window_for}

-- the sum of one
pub sum_one : (n : ℕ) → sum (n ∷ []) ≡ n
sum_one n = let first : sum (n ∷ []) ≡ n + 0 = sum_by-cons (λ x. x) n [] in omega (arith, first)

-- a buffer that was lent is as long as before
pub refilled_len : (old lent : List ℕ) → length (refilled old lent) ≡ length old
refilled_len old lent =
    omega (arith, length-take (length old) (lent ++ drop (length lent) old), length-append lent (drop (length lent) old), length-drop (length lent) old)

-- how long the slots are of a window that was filled
pub filled_sizes : AreFresh → (W n : ℕ) (pool : Pool) → pool ≡ window_for W (Some n) → slot_sizes pool.slots ≡ replicate (2 * pool.workers) (2 * n, 8 * n + 64)
filled_sizes fresh W n pool is =
    ap (λ (p : Pool). slot_sizes p.slots) is ∙ fresh (2 * W) n ∙ ap (λ (p : Pool). replicate (2 * p.workers) (2 * n, 8 * n + 64)) (sym is)
