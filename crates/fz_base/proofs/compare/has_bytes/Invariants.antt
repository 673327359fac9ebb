-- The pieces so far are the same; the source and its counts are as at the start, and what was read lies in the range.
use Rattle.std.proofs.Common.{◌≡◌, ◌+◌, ◌-◌, ◌≤◌, length}
use Rattle.fz_base.specs.Source.{LogsWithin}
use Rattle.fz_base.specs.Told.{StaysTold}
use Rattle.fz_base.proofs.Compared.{IsSame}
use Rattle.fz_base.proofs.compare.has_bytes.Given as goal

abbrev pub invariant-loop-done : goal.invariant-loop-done
invariant-loop-done g l = record {
  held : g.S.Source.held l.source ≡ g.S.Source.held l.fn.source;
  attached : g.S.Source.attached l.source ≡ g.S.Source.attached l.fn.source;
  reads : g.S.Source.tally l.source ≡ g.S.Source.tally l.fn.source;
  told : StaysTold (g.S.Source.ranges l.fn.source) (g.S.Source.ranges l.source);
  read : LogsWithin l.at (l.at + length l.bytes) (g.S.Source.ranges l.fn.source) (g.S.Source.ranges l.source);
  piece : length l.piece ≡ length l.fn.piece;
  within : l.done ≤ length l.bytes;
  same : IsSame (g.S.Source.held l.fn.source) l.at l.bytes l.done;
}

abbrev pub decreases-loop-done : goal.decreases-loop-done
decreases-loop-done g l = length l.bytes - l.done
