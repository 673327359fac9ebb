-- One more pixel.
use Rattle.std.proofs.Common.{◌≡◌, ◌+◌, ◌*◌, ◌<◌, [], ◌∷◌, length, slice_index_or, rules}
use Rattle.fz_tile.specs.Plain.{pixel_bytes}
use Rattle.fz_files.specs.Drill.{drill_pixel}
use Rattle.fz_drill.proofs.MadeFiles.{next_pixel}
use Rattle.fz_drill.proofs.making.write_row.Goals as goal

pub loop-i-preserved : goal.loop-i-preserved
loop-i-preserved c =
    let bytes = c.to_be_bytes.result in
    let within : 2 * c.loop-i.i + 1 < length c.loop-i.row = search rules in
    let these : slice_index_or bytes 0 0 ∷ slice_index_or bytes 1 0 ∷ [] ≡ pixel_bytes 16 (drill_pixel (c.args.first + c.loop-i.i) c.args.y) = search rules in
    next_pixel c.loop-i.row c.args.first c.loop-i.i c.args.y (slice_index_or bytes 0 0) (slice_index_or bytes 1 0) c.loop-i.invariant within these
