-- The rows so far are counted.
use Rattle.std.proofs.Common.{◌≡◌, IfSome}
use Rattle.fz_target.specs.Measures.{counted_rows}
use Rattle.fz_patch.proofs.column.with_neighbours.Given as goal

abbrev pub invariant-loop-i : goal.invariant-loop-i
invariant-loop-i g l = IfSome (g.D.Source.held l.fn.store) (λ f. l.greatest ≡ counted_rows l.found f l.table l.first l.i)
