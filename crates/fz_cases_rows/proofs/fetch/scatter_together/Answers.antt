-- The bytes of an image end below 2^64, and nothing is held back at first.
use Rattle.std.proofs.Common.{ℕ, ◌*◌, ◌/◌, ◌^◌, ◌≤◌, unsigned_abs, sym, subst, arith}
use Rattle.fz_grid.specs.Arrays.{product}
use Rattle.fz_grid.specs.Region.{lengths_of}
use Rattle.fz_pool.specs.Window.{HasSlotsFor}
use Rattle.fz_cases_rows.proofs.RoomLemmas.{pixel_room}
use Rattle.fz_cases_rows.proofs.fetch.scatter_together.Goals as goal

pub scatter_held-requires-clause-near : goal.scatter_held-requires-clause-near
scatter_held-requires-clause-near c =
    let p = c.args.image.now.plan in
    let pixels : ℕ = product (lengths_of p.shape) in
    let few : unsigned_abs p.bitpix / 8 * pixels ≤ 2 ^ 43 = pixel_room p.bitpix pixels (2 ^ 40)
    (2 ^ 43) c.requires.image.codec.size c.requires.image.divided.pixels (omega arith) in
    omega (arith, few)

pub scatter_held-requires-clause-window : goal.scatter_held-requires-clause-window
scatter_held-requires-clause-window c = subst (λ n. HasSlotsFor n c.args.window.now) (sym c.requires.small) c.requires.window

pub scatter_held-requires-clause-held : goal.scatter_held-requires-clause-held
scatter_held-requires-clause-held c = c.none-back.ensures.held _

pub write_pieces-requires-clause-held : goal.write_pieces-requires-clause-held
write_pieces-requires-clause-held c = c.in_ok-scatter_held.ensures.kept
