-- The rows so far are counted; the store and the buffer are as at the start.
use Rattle.std.proofs.Common.{◌≡◌, ◌-◌, ◌≤◌, length, IfSome}
use Rattle.fz_base.specs.Told.{StaysTold}
use Rattle.fz_target.specs.Measures.{counted_rows}
use Rattle.fz_patch.proofs.column.with_rows.Given as goal

abbrev pub invariant-loop-done : goal.invariant-loop-done
invariant-loop-done g l = record {
  held : g.D.Source.held l.store ≡ g.D.Source.held l.fn.store;
  attached : g.D.Source.attached l.store ≡ g.D.Source.attached l.fn.store;
  told : StaysTold (g.D.Source.ranges l.fn.store) (g.D.Source.ranges l.store);
  reads : g.D.Source.tally l.store ≡ g.D.Source.tally l.fn.store;
  copy : length l.copy ≡ length l.fn.copy;
  few : l.done ≤ l.end - l.first;
  counted : IfSome (g.D.Source.held l.fn.store) (λ f. l.greatest ≡ counted_rows l.found f l.table l.first l.done);
}

abbrev pub decreases-loop-done : goal.decreases-loop-done
decreases-loop-done g l = l.end - l.first - l.done
