-- What is left to be written makes the contents that are wanted; the runs that are left end within the image and take the rest of the bytes.
use Rattle.std.proofs.Common.{◌≡◌, ◌+◌, ◌*◌, drop, length}
use Rattle.fz_base.specs.FirstByte.{StaysShut}
use Rattle.fz_base.specs.Told.{StaysTold}
use Rattle.fz_job.specs.Held.{IsHeld, settled}
use Rattle.fz_grid.specs.Arrays.{product}
use Rattle.fz_grid.specs.Region.{lengths_of, places_of, region_corner, region_lengths}
use Rattle.fz_grid.specs.Runs.{EndWithin, total_length}
use Rattle.fz_grid.specs.Walks.{runs_left}
use Rattle.fz_pixels.specs.Pieces.{pieces_written}
use Rattle.fz_pixels.proofs.Running.{run_places}
use Rattle.fz_pixels.proofs.runs.write_region.Given as goal

abbrev pub invariant-loop-first : goal.invariant-loop-first
invariant-loop-first g l = record {
  created : g.K.Sink.created l.sink ≡ g.K.Sink.created l.fn.sink;
  counts : g.K.Sink.tally l.sink ≡ g.K.Sink.tally l.fn.sink;
  shut : StaysShut (g.K.Sink.contents l.fn.sink) (g.K.Sink.contents l.sink);
  told : StaysTold (g.K.Sink.contents l.fn.sink) (g.K.Sink.contents l.sink);
  inside : EndWithin (product (lengths_of l.fn.places.shape)) (runs_left l.first-iterator);
  left : l.done + l.fn.places.pixel_len * total_length (runs_left l.first-iterator) ≡ length l.bytes;
  kept : IsHeld l.back l.held;
  room : length l.held ≡ length l.fn.held;
  rest : pieces_written l.fn.places.pixel_len l.fn.places.data_at (run_places (runs_left l.first-iterator)) (drop l.done l.bytes) (settled l.back l.held (g.K.Sink.contents l.sink))
      ≡ pieces_written l.fn.places.pixel_len l.fn.places.data_at (places_of (lengths_of l.fn.places.shape) (region_corner l.region) (region_lengths l.region)) l.bytes (settled l.fn.back l.fn.held (g.K.Sink.contents l.fn.sink));
}
