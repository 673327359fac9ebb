-- What is left to be written makes the contents that are wanted: the run that was found last, and the lines after it, which lie within the
-- cutout and take the rest of the bytes.
use Rattle.std.proofs.Common.{◌≡◌, ℕ, ◌+◌, ◌*◌, ◌≤◌, drop, length}
use Rattle.std.specs.List.{AllByRecursion}
use Rattle.fz_base.specs.FirstByte.{StaysShut}
use Rattle.fz_base.specs.Told.{StaysTold}
use Rattle.fz_grid.specs.Line.{IsLineWithin, lines_in_cutout}
use Rattle.fz_grid.specs.LineWalks.{lines_left}
use Rattle.fz_pixels.specs.Pieces.{pieces_written}
use Rattle.fz_pixels.proofs.LineWrites.{run_and}
use Rattle.fz_pixels.proofs.runs.write_lines.Given as goal

abbrev pub invariant-loop-line : goal.invariant-loop-line
invariant-loop-line g l = record {
  created : g.K.Sink.created l.sink ≡ g.K.Sink.created l.fn.sink;
  counts : g.K.Sink.tally l.sink ≡ g.K.Sink.tally l.fn.sink;
  shut : StaysShut (g.K.Sink.contents l.fn.sink) (g.K.Sink.contents l.sink);
  told : StaysTold (g.K.Sink.contents l.fn.sink) (g.K.Sink.contents l.sink);
  within : (tile cutout : ℕ) → AllByRecursion (IsLineWithin tile cutout) (lines_left l.fn.lines) → AllByRecursion (IsLineWithin tile cutout) (lines_left l.line-iterator);
  near : (tile cutout : ℕ) → AllByRecursion (IsLineWithin tile cutout) (lines_left l.fn.lines) → l.first + l.count ≤ cutout;
  left : l.done + l.pixel_len * (l.count + length (lines_in_cutout (lines_left l.line-iterator))) ≡ length l.bytes;
  rest : pieces_written l.pixel_len l.data_at (run_and l.first l.count (lines_left l.line-iterator)) (drop l.done l.bytes) (g.K.Sink.contents l.sink)
      ≡ pieces_written l.pixel_len l.data_at (lines_in_cutout (lines_left l.fn.lines)) l.bytes (g.K.Sink.contents l.fn.sink);
}
