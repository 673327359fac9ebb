-- The numbers so far are neighbours.
use Rattle.std.proofs.Common.{ℕ, ◌≡◌, ◌+◌, ◌<◌, slice_index}
use Rattle.fz_fetch.proofs.rows.are_from.Given as goal

abbrev pub invariant-loop-i : goal.invariant-loop-i
invariant-loop-i l = (k : ℕ) → k < l.i → slice_index l.tiles k ≡ l.first + k
