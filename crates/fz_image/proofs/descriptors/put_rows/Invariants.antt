-- The rows of the first i tiles stand at the front.
use Rattle.std.proofs.Common.{◌≡◌, ◌+◌, ◌*◌, length, take}
use Rattle.fz_files.specs.Packed.{heap_of, rows_from}
use Rattle.fz_pool.specs.Round.{coded_tiles}
use Rattle.fz_image.proofs.descriptors.put_rows.Given as goal

abbrev pub invariant-loop-i : goal.invariant-loop-i
invariant-loop-i l = record {
  long : length l.into ≡ length l.fn.into;
  from_is : l.from ≡ l.offset + length (heap_of (coded_tiles l.i l.window.slots));
  rows : take (l.layout.row_len * l.i) l.into ≡ rows_from l.layout.plan l.offset (coded_tiles l.i l.window.slots);
}
