-- Each blank is one byte less.
use Rattle.std.proofs.Common.{length}
use Rattle.fz_hints.proofs.place.without_last_blanks.Given as goal

abbrev pub decreases-loop-left : goal.decreases-loop-left
decreases-loop-left l = length l.left
