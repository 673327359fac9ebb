-- The picks of the first tiles are written; the slots of the others are as they were.
use Rattle.std.proofs.Common.{◌≡◌, ℕ, ℤ, ◌≤◌, List, take, slice_index_or}
use Rattle.fz_base.specs.FirstByte.{StaysShut}
use Rattle.fz_base.specs.Told.{StaysTold}
use Rattle.fz_pool.specs.Window.{slot_sizes}
use Rattle.fz_pool.specs.declared.slot.Slot.{Slot}
use Rattle.fz_fetch.specs.Fetched.{HaveTiles}
use Rattle.fz_pixels.specs.Scattered.{parts_written}
use Rattle.fz_pixels.proofs.picking.scatter_picks.Given as goal

abbrev pub invariant-loop-i : goal.invariant-loop-i
invariant-loop-i g l = record {
  created : g.K.Sink.created l.sink ≡ g.K.Sink.created l.fn.sink;
  counts : g.K.Sink.tally l.sink ≡ g.K.Sink.tally l.fn.sink;
  shut : StaysShut (g.K.Sink.contents l.fn.sink) (g.K.Sink.contents l.sink);
  told : StaysTold (g.K.Sink.contents l.fn.sink) (g.K.Sink.contents l.sink);
  workers : l.window.workers ≡ l.fn.window.workers;
  sizes : slot_sizes l.window.slots ≡ slot_sizes l.fn.window.slots;
  left : (k : ℕ) (d : Slot) → l.i ≤ k → slice_index_or l.window.slots k d ≡ slice_index_or l.fn.window.slots k d;
  done : (pixels : List (List ℤ)) → HaveTiles l.plan l.tiles l.fn.window.slots pixels
      → g.K.Sink.contents l.sink ≡ parts_written l.plan l.sieve l.data_at (take l.i l.tiles) (take l.i pixels) (g.K.Sink.contents l.fn.sink);
}
