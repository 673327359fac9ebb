-- The first pixels of the line are put; the source and the buffers are as at the start.
use Rattle.std.proofs.Common.{◌≡◌, ◌-◌, ◌≤◌, length}
use Rattle.fz_base.specs.Source.{LogsWithin}
use Rattle.fz_base.specs.Told.{StaysTold}
use Rattle.fz_target.specs.Reads.{pixels_end}
use Rattle.fz_target.specs.Tiles.{HasPiece}
use Rattle.fz_target.proofs.merge.put_line.Given as goal

abbrev pub invariant-loop-done : goal.invariant-loop-done
invariant-loop-done g l = record {
  held : g.S.Source.held l.patch ≡ g.S.Source.held l.fn.patch;
  attached : g.S.Source.attached l.patch ≡ g.S.Source.attached l.fn.patch;
  told : StaysTold (g.S.Source.ranges l.fn.patch) (g.S.Source.ranges l.patch);
  reads : g.S.Source.tally l.patch ≡ g.S.Source.tally l.fn.patch;
  pixels_read : LogsWithin l.target.pixels_at (pixels_end l.target) (g.S.Source.ranges l.fn.patch) (g.S.Source.ranges l.patch);
  copy : length l.copy ≡ length l.fn.copy;
  numbers : length l.numbers ≡ length l.fn.numbers;
  few : l.done ≤ l.count;
  put : HasPiece l.target l.line.in_tile l.line.in_cutout l.done (g.S.Source.held l.fn.patch) l.fn.numbers l.numbers;
}

abbrev pub decreases-loop-done : goal.decreases-loop-done
decreases-loop-done g l = l.count - l.done
