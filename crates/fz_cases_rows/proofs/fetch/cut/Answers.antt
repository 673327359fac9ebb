-- The bytes of a cutout end below 2^64.
use Rattle.std.proofs.Common.{◌≡◌, ℕ, ◌*◌, ◌/◌, ◌^◌, ◌≤◌, unsigned_abs, sym, ap, subst, arith}
use Rattle.fz_grid.specs.Arrays.{product}
use Rattle.fz_grid.specs.Region.{lengths_of}
use Rattle.fz_grid.specs.Sieve.{sieve_lengths}
use Rattle.fz_pool.specs.Window.{HasSlotsFor}
use Rattle.fz_cases_rows.proofs.RoomLemmas.{pixel_room}
use Rattle.fz_cases_rows.proofs.fetch.cut.Goals as goal

pub scatter_picks-requires-clause-near : goal.scatter_picks-requires-clause-near
scatter_picks-requires-clause-near c =
    let p = c.args.image.now.plan in
    let pixels : ℕ = product (sieve_lengths c.args.sieve.now) in
    let same : product (lengths_of c.cutout_axes-cutout.result) ≡ pixels = ap product c.cutout_axes-cutout.ensures.lengths in
    let most : pixels ≤ 2 ^ 40 = omega (arith, same, c.cutout_axes-cutout.ensures.shape.pixels) in
    let few : unsigned_abs p.bitpix / 8 * pixels ≤ 2 ^ 43 = pixel_room p.bitpix pixels (2 ^ 40) (2 ^ 43) c.requires.image.codec.size most (omega arith) in
    omega (arith, few)

pub scatter_picks-requires-clause-window : goal.scatter_picks-requires-clause-window
scatter_picks-requires-clause-window c = subst (λ n. HasSlotsFor n c.args.window.now) (sym c.requires.small) c.requires.window
