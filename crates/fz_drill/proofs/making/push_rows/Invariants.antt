-- The rows so far.
use Rattle.std.proofs.Common.{◌≡◌, ◌*◌, ◌++◌, length}
use Rattle.std.specs.List.{flat_map, range_with_len}
use Rattle.fz_tile.specs.Plain.{plain_bytes}
use Rattle.fz_drill.specs.Files.{row_pixels}
use Rattle.fz_drill.proofs.making.push_rows.Given as goal

abbrev pub invariant-loop-y : goal.invariant-loop-y
invariant-loop-y l =
    (length l.row ≡ 2 * l.fn.columns)
    × (l.file.items ≡ l.fn.file.items ++ plain_bytes 16 (flat_map (row_pixels l.fn.first l.fn.columns) (range_with_len 0 l.y)))
