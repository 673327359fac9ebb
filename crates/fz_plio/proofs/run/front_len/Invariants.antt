-- All numbers so far are the given one.
use Rattle.std.proofs.Common.{◌≡◌, ◌-◌, ◌≤◌, length, take, replicate}
use Rattle.fz_plio.proofs.run.front_len.Given as goal

abbrev pub invariant-loop-at : goal.invariant-loop-at
invariant-loop-at l = (l.at ≤ length l.numbers) × (take l.at l.numbers ≡ replicate l.at l.number)

abbrev pub decreases-loop-at : goal.decreases-loop-at
decreases-loop-at l = length l.numbers - l.at
