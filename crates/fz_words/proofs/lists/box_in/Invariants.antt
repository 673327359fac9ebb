use Rattle.std.proofs.Common.{ℕ, ◌+◌, ◌^◌, ◌<◌, ◌≤◌}
use Rattle.std.specs.Prelude.{IfNone, slice_index}
use Rattle.std.specs.Option.{option_copied}
use Rattle.fz_words.proofs.ListLemmas.{RangesRead, left_of}
use Rattle.fz_words.proofs.lists.box_in.Given as goal

-- the ranges so far, each with a pick and a step, and the rest of the list
abbrev pub invariant-loop-rest : goal.invariant-loop-rest
invariant-loop-rest l =
    RangesRead l.text l.sieve.n l.sieve.lo l.sieve.hi l.sieve.step (option_copied l.rest)
    × ((i : ℕ) → i < l.sieve.n → slice_index l.sieve.lo i ≤ slice_index l.sieve.hi i)
    × ((i : ℕ) → i < l.sieve.n → slice_index l.sieve.hi i + 1 < 2 ^ 31)
    × ((i : ℕ) → i < l.sieve.n → 1 ≤ slice_index l.sieve.step i)
    × IfNone (option_copied l.rest) (1 ≤ l.sieve.n)

abbrev pub decreases-loop-rest : goal.decreases-loop-rest
decreases-loop-rest l = left_of (option_copied l.rest)
