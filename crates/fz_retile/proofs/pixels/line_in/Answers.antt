-- The line ends within the box.
use Rattle.std.proofs.Common.{◌≡◌, ◌+◌, ◌-◌, arith}
use Rattle.std.specs.Prelude.{slice_index}
use Rattle.fz_grid.specs.Arrays.{product}
use Rattle.fz_grid.specs.Region.{region_lengths}
use Rattle.fz_retile.proofs.BoxLines.{room_bytes}
use Rattle.fz_retile.proofs.pixels.line_in.Goals as goal

pub returns-clause-room : goal.returns-clause-room
returns-clause-room c =
    let r = c.args.region.now in
    let at = c.args.at.now in
    let shape = c.requires.region in
    let pixel = c.requires.has 0 (omega (arith, shape.some)) in
    let left : c.from.result ≡ slice_index r.lo 0 + slice_index r.len 0 - slice_index at 0 = omega (arith, c.from.ensures, pixel.0, pixel.1) in
    let room = c.line_law.ensures.room r at shape.some shape.axes (omega arith) (omega arith) (omega arith) c.requires.has in
    room_bytes c.args.size c.place_in.result c.from.result (product (region_lengths r)) (omega (arith, room, left, c.place_in.ensures.place))
