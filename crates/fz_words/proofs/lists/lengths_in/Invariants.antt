use Rattle.std.proofs.Common.{ℕ, ◌<◌, ◌≤◌}
use Rattle.std.specs.Prelude.{IfNone, slice_index}
use Rattle.std.specs.Option.{option_copied}
use Rattle.fz_words.proofs.ListLemmas.{LengthsRead, left_of}
use Rattle.fz_words.proofs.lists.lengths_in.Given as goal

-- the lengths so far, each at least 1, and the rest of the list
abbrev pub invariant-loop-rest : goal.invariant-loop-rest
invariant-loop-rest l =
    LengthsRead l.text l.axes.n l.axes.len (option_copied l.rest)
    × ((i : ℕ) → i < l.axes.n → 1 ≤ slice_index l.axes.len i)
    × IfNone (option_copied l.rest) (1 ≤ l.axes.n)

abbrev pub decreases-loop-rest : goal.decreases-loop-rest
decreases-loop-rest l = left_of (option_copied l.rest)
