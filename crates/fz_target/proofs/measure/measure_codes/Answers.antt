-- One tile after another is decoded, encoded anew, and measured.
use Rattle.std.proofs.Common.{◌≡◌, ℕ, List, [], ◌∷◌, ◌++◌, length, Option, Some, IfSome, Result, Err, refl, sym, ap, ◌∙◌, subst, arith, rules}
use Rattle.fz_base.specs.Stop.{IfRefused}
use Rattle.fz_base.specs.declared.failure.Stop.{Stop}
use Rattle.fz_files.specs.FirstFault.{IsFirstRowFault, image_row, picked_tiles_of}
use Rattle.fz_grid.specs.SieveWalks.{sieve_tiles_left}
use Rattle.fz_pool.specs.Round.{coded_tile}
use Rattle.fz_pool.specs.Window.{Pool}
use Rattle.fz_tile.specs.TileCode.{TileCode}
use Rattle.fz_laws.specs.FirstPatchFault.{IsBoxFault}
use Rattle.fz_target.specs.Reads.{pixels_end}
use Rattle.fz_target.specs.Targets.{IsGivenTo, given_at}
use Rattle.fz_target.specs.Tiles.{HasNewCode}
use Rattle.fz_target.specs.Told.{IfBoth}
use Rattle.fz_target.specs.declared.measure.Measure.{Measure}
use Rattle.fz_target.proofs.CodeSlots.{first_has}
use Rattle.fz_target.proofs.CodedCounts.{coded_low, slot_long, stored_low}
use Rattle.fz_target.proofs.EndsJoined.{refused_as, refused_weaker}
use Rattle.fz_target.proofs.Measuring.{AreSound, MeasureState, all_measured, all_sound, bytes_few, fault_found, measure_begin, measure_go_on, tiles_few}
use Rattle.fz_target.proofs.Room.{no_room}
use Rattle.fz_target.proofs.TileReads.{none_fetched, one_fetched}
use Rattle.fz_target.proofs.TilesLeft.{all_taken, given_boxes, given_tiles, later_boxes, next_box}
use Rattle.fz_target.proofs.measure.measure_codes.Goals as goal

pub loop-tile-init : goal.loop-tile-init
loop-tile-init g c =
    let t = c.args.target.now in
    let same = c.into_iter-tile-iterator.ensures.into_iter_gives in
    record {
      held = refl;
      attached = refl;
      told = λ told. told;
      tally = refl;
      given = refl;
      given_len = refl;
      given_told = λ told. told;
      given_tally = refl;
      window = record { sizes = refl; workers = refl };
      copy = refl;
      boxes = given_boxes t c.into_iter-tile-iterator.result c.tiles_in_box-tile-items.result same c.tiles_in_box-tile-items.ensures.each;
      read = none_fetched (g.D.Source.held c.args.store.now) t.header (picked_tiles_of t.image.plan t.sieve) (g.D.Source.ranges c.args.store.now);
      pixels_read = c.log_law.ensures.none t.pixels_at (pixels_end t) (g.S.Source.ranges c.args.patch.now);
      state = measure_begin t (g.S.Source.held c.args.patch.now) (g.D.Source.held c.args.store.now) (sieve_tiles_left c.into_iter-tile-iterator.result) (record { bytes = 0; coded = 0; stored = 0 })
          (given_tiles c.into_iter-tile-iterator.result c.tiles_in_box-tile-items.result _ same c.tiles_in_box-tile-items.ensures.tiles) refl;
    }

pub prepare_tile-requires-clause-tile : goal.prepare_tile-requires-clause-tile
prepare_tile-requires-clause-tile g c = λ lifetimes lives.
    next_box c.args.target.now c.in-Some.tile (sieve_tiles_left c.loop-tile.tile-iterator) (sieve_tiles_left c.next.new.self) c.in-Some.ensures.steps c.loop-tile.invariant.boxes

pub with_tile-found-requires-clause-few : goal.with_tile-found-requires-clause-few
with_tile-found-requires-clause-few g c =
    let t = c.args.target.now in
    omega (arith, bytes_few t (g.S.Source.held c.args.patch.now) (g.D.Source.held c.args.store.now) (sieve_tiles_left c.loop-tile.tile-iterator) c.loop-tile.found (tiles_few t c.requires.target) c.loop-tile.invariant.state)

pub has_room-requires-clause-more : goal.has_room-requires-clause-more
has_room-requires-clause-more g c =
    let t = c.args.target.now in
    omega (arith, bytes_few t (g.S.Source.held c.args.patch.now) (g.D.Source.held c.args.store.now) (sieve_tiles_left c.loop-tile.tile-iterator) c.loop-tile.found (tiles_few t c.requires.target) c.loop-tile.invariant.state)

pub loop-tile-preserved : goal.loop-tile-preserved
loop-tile-preserved g c =
    let t = c.args.target.now in
    let held : Option (List ℕ) = g.D.Source.held c.args.store.now in
    let given : Option (List ℕ) = g.S.Source.held c.args.patch.now in
    let old = c.loop-tile.invariant in
    let tile : ℕ = c.in-Some.tile in
    let left : List ℕ = sieve_tiles_left c.loop-tile.tile-iterator in
    let after : List ℕ = sieve_tiles_left c.next.new.self in
    let next : left ≡ tile ∷ after = c.in-Some.ensures.steps in
    let w : Pool = c.prepare_tile.new.window in
    let slot = c.code_slot-slot.result.now in
    let code : TileCode = coded_tile slot in
    let done = c.in_ok-prepare_tile.ensures in
    let new : IfBoth held given (λ f p. (corner : List ℕ) → IsGivenTo corner p t → HasNewCode f t.header t.image.plan (given_at corner p) tile w) =
    subst (λ (h : Option (List ℕ)). IfBoth h given (λ f p. (corner : List ℕ) → IsGivenTo corner p t → HasNewCode f t.header t.image.plan (given_at corner p) tile w)) old.held
    (subst (λ (s : Option (List ℕ)). IfBoth (g.D.Source.held c.loop-tile.store) s (λ f p. (corner : List ℕ) → IsGivenTo corner p t → HasNewCode f t.header t.image.plan (given_at corner p) tile w)) old.given done.new) in
    let sound : AreSound t (tile ∷ []) held = subst (λ (h : Option (List ℕ)). AreSound t (tile ∷ []) h) old.held done.sound in
    let count : length code.bytes ≡ slot.job.len = slot_long slot c.code_slot-slot.ensures.within in
    record {
      held = search rules;
      attached = search rules;
      told = λ told. done.stays.0.told (old.told told);
      tally = search rules;
      given = search rules;
      given_len = search rules;
      given_told = λ told. done.stays.1.told (old.given_told told);
      given_tally = search rules;
      window = record { sizes = done.stays.2.sizes ∙ old.window.sizes; workers = done.stays.2.workers ∙ old.window.workers };
      copy = done.stays.3 ∙ old.copy;
      boxes = later_boxes t tile left after next old.boxes;
      read = one_fetched c.ranges_law.ensures.join held (g.D.Source.held c.loop-tile.store) t.header (picked_tiles_of t.image.plan t.sieve) old.state.front tile after (g.D.Source.ranges c.args.store.now) (g.D.Source.ranges c.loop-tile.store)
          (g.D.Source.ranges c.prepare_tile.new.store) (old.state.parts ∙ ap (λ l. old.state.front ++ l) next) old.held old.read done.read;
      pixels_read = c.log_law.ensures.both t.pixels_at (pixels_end t) (g.S.Source.ranges c.args.patch.now) (g.S.Source.ranges c.loop-tile.patch) (g.S.Source.ranges c.prepare_tile.new.patch) old.pixels_read done.pixels_read;
      state = measure_go_on t given held tile after c.loop-tile.found c.with_tile-found.result code w c.requires.said new sound (λ e has. (first_has w slot e c.code_slot-slot.ensures.first has).0)
          c.with_tile-found.ensures (omega (arith, count, c.code_slot-slot.ensures.most)) (coded_low t.image.plan code) (stored_low t.image.plan code) (subst (λ (l : List ℕ). MeasureState t given held l c.loop-tile.found) next old.state);
    }

pub returns-in_err-prepare_tile-clause-fault : goal.returns-in_err-prepare_tile-clause-fault
returns-in_err-prepare_tile-clause-fault g c =
    let t = c.args.target.now in
    let held : Option (List ℕ) = g.D.Source.held c.args.store.now in
    let given : Option (List ℕ) = g.S.Source.held c.args.patch.now in
    let old = c.loop-tile.invariant in
    let tile : ℕ = c.in-Some.tile in
    let left : List ℕ = sieve_tiles_left c.loop-tile.tile-iterator in
    let after : List ℕ = sieve_tiles_left c.next.new.self in
    let next : left ≡ tile ∷ after = c.in-Some.ensures.steps in
    let stop : Stop = c.in_err-prepare_tile.field-0.0 in
    let stopped : c.from_residual.result ≡ Err stop = search rules in
    let state = old.state in
    let fault : IfRefused {X = Measure} (Err stop) (λ x. IfSome held (λ f. IsFirstRowFault f (image_row t.header tile ∷ []) (Some x))) =
    subst (λ (h : Option (List ℕ)). IfRefused {X = Measure} (Err stop) (λ x. IfSome h (λ f. IsFirstRowFault f (image_row t.header tile ∷ []) (Some x)))) old.held
    (refused_as (Unit {0}) Measure (λ x. IfSome (g.D.Source.held c.loop-tile.store) (λ f. IsFirstRowFault f (image_row t.header tile ∷ []) (Some x))) stop c.in_err-prepare_tile.ensures.fault) in
    subst (λ (r : Result Measure Stop). IfRefused r (λ x. IfBoth held given (λ f p. (corner : List ℕ) → IsGivenTo corner p t → IsBoxFault f t.header (given_at corner p) (Some x)))) (sym stopped)
    (refused_weaker {X = Measure} (Err stop) (λ x is. fault_found t given held state.front tile after x (state.parts ∙ ap (λ l. state.front ++ l) next) c.requires.said state.sound is) fault)

pub returns-then-not-has_room-clause-fault : goal.returns-then-not-has_room-clause-fault
returns-then-not-has_room-clause-fault g c =
    let t = c.args.target.now in
    let held : Option (List ℕ) = g.D.Source.held c.args.store.now in
    let given : Option (List ℕ) = g.S.Source.held c.args.patch.now in
    let state = c.loop-tile.invariant.state in
    no_room t given held state.front c.loop-tile.found (all_taken _ state.front (sieve_tiles_left c.loop-tile.tile-iterator) c.in-None.ensures.steps.0 state.parts) c.requires.said state.measured state.sound (sym c.has_room.ensures ∙ c.if-not-has_room.true)

pub returns-clause-measured : goal.returns-clause-measured
returns-clause-measured g c =
    let t = c.args.target.now in
    let held : Option (List ℕ) = g.D.Source.held c.args.store.now in
    let given : Option (List ℕ) = g.S.Source.held c.args.patch.now in
    let state = c.loop-tile.invariant.state in
    all_measured t given held state.front c.loop-tile.found (all_taken _ state.front (sieve_tiles_left c.loop-tile.tile-iterator) c.in-None.ensures.steps.0 state.parts) state.measured

pub returns-clause-sound : goal.returns-clause-sound
returns-clause-sound g c =
    let t = c.args.target.now in
    let held : Option (List ℕ) = g.D.Source.held c.args.store.now in
    let state = c.loop-tile.invariant.state in
    all_sound t held state.front (all_taken _ state.front (sieve_tiles_left c.loop-tile.tile-iterator) c.in-None.ensures.steps.0 state.parts) c.requires.said state.sound

pub returns-clause-room : goal.returns-clause-room
returns-clause-room g c =
    let t = c.args.target.now in
    let held : Option (List ℕ) = g.D.Source.held c.args.store.now in
    let given : Option (List ℕ) = g.S.Source.held c.args.patch.now in
    let state = c.loop-tile.invariant.state in
    record {
      room = sym c.has_room.ensures ∙ c.if-not-has_room.false;
      few = omega (arith, bytes_few t given held (sieve_tiles_left c.loop-tile.tile-iterator) c.loop-tile.found (tiles_few t c.requires.target) state);
      coded = state.coded;
      stored = state.stored;
    }

-- ---- what is read

pub returns-in_err-prepare_tile-clause-read : goal.returns-in_err-prepare_tile-clause-read
returns-in_err-prepare_tile-clause-read g c =
    let t = c.args.target.now in
    let old = c.loop-tile.invariant in
    one_fetched c.ranges_law.ensures.join (g.D.Source.held c.args.store.now) (g.D.Source.held c.loop-tile.store) t.header (picked_tiles_of t.image.plan t.sieve) old.state.front c.in-Some.tile (sieve_tiles_left c.next.new.self)
    (g.D.Source.ranges c.args.store.now) (g.D.Source.ranges c.loop-tile.store) (g.D.Source.ranges c.prepare_tile.new.store) (old.state.parts ∙ ap (λ l. old.state.front ++ l) c.in-Some.ensures.steps) old.held old.read
    c.in_err-prepare_tile.ensures.read

pub returns-in_err-prepare_tile-clause-pixels_read : goal.returns-in_err-prepare_tile-clause-pixels_read
returns-in_err-prepare_tile-clause-pixels_read g c =
    let t = c.args.target.now in
    c.log_law.ensures.both t.pixels_at (pixels_end t) (g.S.Source.ranges c.args.patch.now) (g.S.Source.ranges c.loop-tile.patch) (g.S.Source.ranges c.prepare_tile.new.patch) c.loop-tile.invariant.pixels_read
    c.in_err-prepare_tile.ensures.pixels_read

pub returns-then-not-has_room-clause-read : goal.returns-then-not-has_room-clause-read
returns-then-not-has_room-clause-read g c = c.loop-tile.invariant.read

pub returns-then-not-has_room-clause-pixels_read : goal.returns-then-not-has_room-clause-pixels_read
returns-then-not-has_room-clause-pixels_read g c = c.loop-tile.invariant.pixels_read

pub returns-clause-read : goal.returns-clause-read
returns-clause-read g c = c.loop-tile.invariant.read

pub returns-clause-pixels_read : goal.returns-clause-pixels_read
returns-clause-pixels_read g c = c.loop-tile.invariant.pixels_read
