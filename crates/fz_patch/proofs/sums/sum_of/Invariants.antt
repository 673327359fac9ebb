-- The first bytes were added; the store is as at the start.
use Rattle.std.proofs.Common.{◌≡◌, ◌-◌, ◌≤◌, length}
use Rattle.fz_base.specs.Told.{StaysTold}
use Rattle.fz_patch.proofs.Summed.{AreAdded}
use Rattle.fz_patch.proofs.sums.sum_of.Given as goal

abbrev pub invariant-loop-at : goal.invariant-loop-at
invariant-loop-at g l = record {
  held : g.D.Source.held l.store ≡ g.D.Source.held l.fn.store;
  attached : g.D.Source.attached l.store ≡ g.D.Source.attached l.fn.store;
  told : StaysTold (g.D.Source.ranges l.fn.store) (g.D.Source.ranges l.store);
  tally : g.D.Source.tally l.store ≡ g.D.Source.tally l.fn.store;
  copy : length l.copy ≡ length l.fn.copy;
  low : l.start ≤ l.at;
  high : l.at ≤ l.end;
  count : l.sum.count ≡ l.at - l.start;
  added : AreAdded (g.D.Source.held l.fn.store) l.start (l.at - l.start) l.sum;
}

abbrev pub decreases-loop-at : goal.decreases-loop-at
decreases-loop-at g l = l.end - l.at
