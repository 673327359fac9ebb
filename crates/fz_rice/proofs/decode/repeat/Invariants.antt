use Rattle.std.proofs.Common.{◌≡◌, take, replicate}
use Rattle.fz_rice.proofs.decode.repeat.Given as goal

abbrev pub invariant-loop-i : goal.invariant-loop-i
invariant-loop-i g l = take l.i l.numbers ≡ replicate l.i l.same
