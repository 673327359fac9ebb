-- The source stays attached.
use Rattle.std.proofs.Common.{◌≡◌, Some}
use Rattle.fz_hints.proofs.card_again.header_start.Given as goal

abbrev pub invariant-loop-at : goal.invariant-loop-at
invariant-loop-at g l = g.S.Source.attached l.source ≡ Some l.length
