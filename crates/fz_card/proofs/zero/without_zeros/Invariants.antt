use Rattle.std.proofs.Common.{◌≡◌, length}
use Rattle.fz_card.specs.Zeros.{skip_zeros}
use Rattle.fz_card.proofs.zero.without_zeros.Given as goal

abbrev pub invariant-loop-text : goal.invariant-loop-text
invariant-loop-text l = skip_zeros l.text ≡ skip_zeros l.fn.text

abbrev pub decreases-loop-text : goal.decreases-loop-text
decreases-loop-text l = length l.text
