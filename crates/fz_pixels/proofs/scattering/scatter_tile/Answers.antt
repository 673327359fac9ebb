-- A slot has room for its tile, since no tile has more pixels than tile 0.
use Rattle.std.proofs.Common.{◌≡◌, ℕ, ◌*◌, ◌+◌, ◌≤◌, length, ap, arith}
use Rattle.fz_grid.specs.Region.{lengths_of}
use Rattle.fz_files.specs.Restored.{pixels_of}
use Rattle.fz_pixels.proofs.scattering.scatter_tile.Goals as goal

pub write_tile-requires-clause-numbers : goal.write_tile-requires-clause-numbers
write_tile-requires-clause-numbers g c =
    let room = c.requires.room in
    let long : length c.args.slot.now.numbers ≡ 2 * room.0 = ap (λ (s : ℕ × ℕ). s.0) room.1 in
    let tiles = c.shape_law.ensures.tiles c.args.image.plan.now.shape c.args.image.plan.now.tile c.requires.tile.divided in
    let most : pixels_of c.args.image.plan.now c.args.tile ≤ pixels_of c.args.image.plan.now 0 = c.tile_pixels_law.ensures.most (lengths_of c.args.image.plan.now.shape) (lengths_of c.args.image.plan.now.tile) c.args.tile tiles in
    let same : length c.as_slice-numbers.result.now ≡ length c.args.slot.now.numbers = ap length c.as_slice-numbers.ensures in
    omega (arith, same, long, most, room.2)

pub write_tile-requires-clause-code : goal.write_tile-requires-clause-code
write_tile-requires-clause-code g c =
    let room = c.requires.room in
    let long : length c.args.slot.now.code ≡ 8 * room.0 + 64 = ap (λ (s : ℕ × ℕ). s.1) room.1 in
    let tiles = c.shape_law.ensures.tiles c.args.image.plan.now.shape c.args.image.plan.now.tile c.requires.tile.divided in
    let most : pixels_of c.args.image.plan.now c.args.tile ≤ pixels_of c.args.image.plan.now 0 = c.tile_pixels_law.ensures.most (lengths_of c.args.image.plan.now.shape) (lengths_of c.args.image.plan.now.tile) c.args.tile tiles in
    let same : length c.as_mut_slice.result.now ≡ length c.args.slot.now.code = ap length c.as_mut_slice.ensures.value in
    omega (arith, same, long, most, room.2)
