-- The tile is fetched, filled and encoded.
use Rattle.std.proofs.Common.{◌≡◌, ℕ, ◌+◌, ◌*◌, ◌≤◌, ℤ, List, [], ◌∷◌, length, Option, Result, Err, IfSome, refl, sym, ap, ◌∙◌, subst, arith, rules}
use Rattle.fz_base.specs.Stop.{IfRefused}
use Rattle.fz_base.specs.declared.failure.Stop.{Stop}
use Rattle.fz_fetch.specs.Fetched.{AreFetched}
use Rattle.fz_job.specs.Images.{HaveRoom}
use Rattle.fz_pool.specs.Window.{IsFilled, IsPut, Pool}
use Rattle.fz_pool.specs.declared.slot.Slot.{Slot}
use Rattle.fz_table.specs.Records.{IsOfRow}
use Rattle.fz_target.specs.Ends.{ReadsTiles}
use Rattle.fz_target.specs.Tiles.{IsFilledSlot}
use Rattle.fz_target.proofs.EndsJoined.{refused_weaker}
use Rattle.fz_target.proofs.NewTile.{fetch_stopped, first_fetched, first_ready, new_first, of_one_row, put_stopped, refused_row, room_still, row_sound, said_of, some_code}
use Rattle.fz_target.proofs.tile.prepare_tile.Goals as goal

pub fetch_tiles-requires-clause-said : goal.fetch_tiles-requires-clause-said
fetch_tiles-requires-clause-said g c κs within = said_of c.args.target.now (g.D.Source.held c.args.store.now) c.requires.said

pub fill_first-requires-clause-window : goal.fill_first-requires-clause-window
fill_first-requires-clause-window g c = (
  room_still c.args.target.now.image c.args.window.now c.fetch_tiles.new.window c.fetch_tiles.ensures.stays.1.sizes c.fetch_tiles.ensures.stays.1.workers c.requires.window,
  omega (arith, c.workers.ensures.value, c.workers.ensures.some.0, c.fetch_tiles.ensures.stays.1.workers),
)

pub fill_first-requires-clause-pixels : goal.fill_first-requires-clause-pixels
fill_first-requires-clause-pixels g c =
    first_fetched (g.D.Source.held c.args.store.now) c.args.target.now.header c.args.target.now.image.plan c.args.tile c.fetch_tiles.new.window c.in_ok-fetch_tiles.ensures.fetched

pub encode_window-requires-clause-filled : goal.encode_window-requires-clause-filled
encode_window-requires-clause-filled g c κs within =
    let image = c.args.target.now.image in
    let first = room_still image c.args.window.now c.fetch_tiles.new.window c.fetch_tiles.ensures.stays.1.sizes c.fetch_tiles.ensures.stays.1.workers c.requires.window in
    let room : HaveRoom image c.fill_first.new.window = room_still image c.fetch_tiles.new.window c.fill_first.new.window c.in_ok-fill_first.ensures.stays.1.sizes c.in_ok-fill_first.ensures.stays.1.workers first in
    c.sizes_law.ensures.many c.fill_first.new.window.slots (2 * c.fill_first.new.window.workers) _ room.1

pub encode_window-requires-clause-ready : goal.encode_window-requires-clause-ready
encode_window-requires-clause-ready g c κs within =
    let put = c.in_ok-fill_first.ensures.put in
    first_ready c.args.target.now c.args.tile (g.S.Source.held c.args.patch.now) put.0 put.1 c.fetch_tiles.new.window c.fill_first.new.window c.fill_first.new.window put.3 put.4 c.requires.target.writable

pub returns-in-Ok-clause-new : goal.returns-in-Ok-clause-new
returns-in-Ok-clause-new g c =
    let put = c.in_ok-fill_first.ensures.put in
    new_first c.args.target.now c.args.tile (g.S.Source.held c.args.patch.now) put.0 put.1 c.fetch_tiles.new.window c.fill_first.new.window c.encode_window.new.window put.3 put.4 c.one_record_law.ensures
    (g.D.Source.held c.args.store.now) put.2 c.in-Ok.ensures.encoded c.requires.target c.requires.said c.in_ok-fetch_tiles.ensures.fetched

pub returns-in-Ok-clause-code : goal.returns-in-Ok-clause-code
returns-in-Ok-clause-code g c =
    let put = c.in_ok-fill_first.ensures.put in
    let image = c.args.target.now.image in
    let first = room_still image c.args.window.now c.fetch_tiles.new.window c.fetch_tiles.ensures.stays.1.sizes c.fetch_tiles.ensures.stays.1.workers c.requires.window in
    let room : HaveRoom image c.fill_first.new.window = room_still image c.fetch_tiles.new.window c.fill_first.new.window c.in_ok-fill_first.ensures.stays.1.sizes c.in_ok-fill_first.ensures.stays.1.workers first in
    let full : IsFilled c.fill_first.new.window = c.sizes_law.ensures.many c.fill_first.new.window.slots (2 * c.fill_first.new.window.workers) _ room.1 in
    some_code c.args.target.now c.args.tile (g.S.Source.held c.args.patch.now) put.0 put.1 c.fetch_tiles.new.window c.fill_first.new.window c.encode_window.new.window put.3 put.4 c.in-Ok.ensures.encoded
    (c.encode_window.ensures.kept.slots ∙ (full ∙ ap (λ n. 2 * n) (sym c.encode_window.ensures.kept.workers)))
    (omega (arith, c.workers.ensures.value, c.workers.ensures.some.0, c.fetch_tiles.ensures.stays.1.workers, c.in_ok-fill_first.ensures.stays.1.workers, c.encode_window.ensures.kept.workers))

pub returns-in-Ok-clause-sound : goal.returns-in-Ok-clause-sound
returns-in-Ok-clause-sound g c =
    row_sound (g.D.Source.held c.args.store.now) c.args.target.now.header c.args.target.now.image.plan c.args.tile c.fetch_tiles.new.window.slots c.in_ok-fetch_tiles.ensures.fetched

pub returns-in_err-fetch_tiles-clause-row : goal.returns-in_err-fetch_tiles-clause-row
returns-in_err-fetch_tiles-clause-row g c =
    let stop : Stop = c.in_err-fetch_tiles.field-0.0 in
    let stopped : c.from_residual.result ≡ Err stop = search rules in
    subst (λ (r : Result (Unit {0}) Stop). IfRefused r (IsOfRow c.args.target.now.header.hdu c.args.tile)) (sym stopped)
    (refused_weaker {X = Unit {0}} (Err stop) (of_one_row c.args.target.now.header.hdu c.args.tile) c.in_err-fetch_tiles.ensures.row)
