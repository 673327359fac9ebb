-- Where all numbers so far were the given one, they are a list of it.
use Rattle.std.proofs.Common.{◌≡◌, true, take, replicate}
use Rattle.fz_rice.proofs.full_block.all_are.Given as goal

abbrev pub invariant-loop-i : goal.invariant-loop-i
invariant-loop-i l = l.same ≡ true → take l.i l.numbers ≡ replicate l.i l.number
