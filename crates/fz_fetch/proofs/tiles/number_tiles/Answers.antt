-- Neighbouring numbers, one after another.
use Rattle.std.proofs.Common.{◌≡◌, ℕ, suc, ◌+◌, ◌<◌, List, [], ◌∷◌, length, slice_index, refl, ap, ◌∙◌, arith}
use Rattle.std.specs.List.{range_with_len}
use Rattle.fz_fetch.proofs.tiles.number_tiles.Goals as goal

from_first : (first : ℕ) (ts : List ℕ) → ((k : ℕ) → k < length ts → slice_index ts k ≡ first + k) → ts ≡ range_with_len first (length ts)
from_first first [] numbers = refl
from_first first (t ∷ ts) numbers =
    let head : t ≡ first = numbers 0 (omega arith) ∙ omega arith in
    let rest : ts ≡ range_with_len (first + 1) (length ts) = from_first (first + 1) ts (λ k near. numbers (suc k) (omega (arith, near)) ∙ omega arith) in
    λ i. head i ∷ rest i

pub returns : goal.returns
returns c =
    let same : length c.loop-i.tiles ≡ length c.args.tiles.now = c.loop-i.invariant.size in
    from_first c.args.first c.loop-i.tiles (λ k near. c.loop-i.invariant.numbers k (omega (arith, near, same))) ∙ ap (range_with_len c.args.first) same
