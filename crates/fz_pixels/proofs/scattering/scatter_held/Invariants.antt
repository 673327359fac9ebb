-- The first tiles are written, once what is held back is; the slots of the others are as they were.
use Rattle.std.proofs.Common.{◌≡◌, ℕ, ℤ, ◌≤◌, List, length, take, slice_index_or}
use Rattle.fz_base.specs.FirstByte.{StaysShut}
use Rattle.fz_base.specs.Told.{StaysTold}
use Rattle.fz_pool.specs.Window.{slot_sizes}
use Rattle.fz_pool.specs.declared.slot.Slot.{Slot}
use Rattle.fz_job.specs.Held.{IsHeld, settled}
use Rattle.fz_fetch.specs.Fetched.{HaveTiles}
use Rattle.fz_pixels.specs.Scattered.{tiles_written}
use Rattle.fz_pixels.proofs.scattering.scatter_held.Given as goal

abbrev pub invariant-loop-i : goal.invariant-loop-i
invariant-loop-i g l = record {
  created : g.K.Sink.created l.sink ≡ g.K.Sink.created l.fn.sink;
  counts : g.K.Sink.tally l.sink ≡ g.K.Sink.tally l.fn.sink;
  shut : StaysShut (g.K.Sink.contents l.fn.sink) (g.K.Sink.contents l.sink);
  told : StaysTold (g.K.Sink.contents l.fn.sink) (g.K.Sink.contents l.sink);
  workers : l.window.workers ≡ l.fn.window.workers;
  sizes : slot_sizes l.window.slots ≡ slot_sizes l.fn.window.slots;
  left : (k : ℕ) (d : Slot) → l.i ≤ k → slice_index_or l.window.slots k d ≡ slice_index_or l.fn.window.slots k d;
  kept : IsHeld l.back l.held;
  room : length l.held ≡ length l.fn.held;
  done : (pixels : List (List ℤ)) → HaveTiles l.plan l.tiles l.fn.window.slots pixels
      → settled l.back l.held (g.K.Sink.contents l.sink) ≡ tiles_written l.plan l.data_at (take l.i l.tiles) (take l.i pixels) (settled l.fn.back l.fn.held (g.K.Sink.contents l.fn.sink));
}
