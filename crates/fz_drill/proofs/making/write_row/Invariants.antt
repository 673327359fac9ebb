-- The pixels so far.
use Rattle.std.proofs.Common.{◌≡◌, ◌*◌, take}
use Rattle.fz_tile.specs.Plain.{plain_bytes}
use Rattle.fz_drill.specs.Files.{row_pixels}
use Rattle.fz_drill.proofs.making.write_row.Given as goal

abbrev pub invariant-loop-i : goal.invariant-loop-i
invariant-loop-i l = take (2 * l.i) l.row ≡ plain_bytes 16 (row_pixels l.fn.first l.i l.fn.y)
