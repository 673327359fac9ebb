-- One more row.
use Rattle.std.proofs.Common.{◌≡◌, ◌*◌, length, rules}
use Rattle.fz_tile.specs.Plain.{plain_bytes}
use Rattle.fz_drill.specs.Files.{row_pixels}
use Rattle.fz_drill.proofs.MadeFiles.{next_row}
use Rattle.fz_drill.proofs.making.push_rows.Goals as goal

pub loop-y-preserved : goal.loop-y-preserved
loop-y-preserved c =
    let row : c.write_row.new.row ≡ plain_bytes 16 (row_pixels c.args.first c.args.columns c.loop-y.y) = c.write_row.ensures c.args.columns c.loop-y.invariant.0 in
    let long : length c.write_row.new.row ≡ 2 * c.args.columns = search rules in (
      long,
      next_row c.args.first c.args.columns c.loop-y.y c.args.file.now.items c.loop-y.file.items c.write_row.new.row c.extend_from_slice.new.self.items c.loop-y.invariant.1 row (search rules),
    )
