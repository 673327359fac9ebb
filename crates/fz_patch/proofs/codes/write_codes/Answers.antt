-- One code after another, and then zeros.
use Rattle.std.proofs.Common.{◌≡◌, ◌≢◌, ℕ, ◌+◌, ◌<◌, List, ◌∷◌, ◌++◌, length, Option, Result, Err, inl, refl, sym, ap, ◌∙◌, subst, arith, rules, inr}
use Rattle.std.proofs.lemmas.Result.{on_ok_weaker}
use Rattle.fz_base.specs.Counts.{Amend, Tally}
use Rattle.fz_base.specs.Stop.{IfRefused}
use Rattle.fz_base.specs.Sink.{written}
use Rattle.fz_base.specs.Store.{HasAtLeast, MayAmend, amend_of, with_write}
use Rattle.fz_base.specs.declared.failure.Stop.{Stop}
use Rattle.fz_grid.specs.SieveWalks.{sieve_tiles_left}
use Rattle.fz_pool.specs.Window.{Pool}
use Rattle.fz_tile.specs.TileCode.{TileCode}
use Rattle.fz_laws.specs.Writes.{grown_end, zero_writes}
use Rattle.fz_target.specs.Ends.{Patches}
use Rattle.fz_target.specs.Reads.{pixels_end}
use Rattle.fz_target.specs.Steps.{ComesInWork, Wrote, WroteSome}
use Rattle.fz_target.specs.Targets.{IsGivenTo, given_at}
use Rattle.fz_target.specs.Tiles.{HasNewCode}
use Rattle.fz_target.specs.Told.{IfBoth}
use Rattle.fz_patch.proofs.Amended.{at-least, kept-then, one-amends, reach-is, reach-of, reach-then, same-amended, same-counts, same-is, same-then, kept-read, kept-same, settled-amends}
use Rattle.fz_patch.proofs.Beside.{keeps_failed, keeps_one, keeps_same, keeps_some, keeps_still, keeps_then}
use Rattle.fz_patch.proofs.CodeSlots.{first_has}
use Rattle.fz_patch.proofs.CodedEnds.{end_near, ends_of, row_of_tile, zeros_near}
use Rattle.fz_patch.proofs.CodedRefusals.{Unrefused, by_fit, by_numbers, by_stop, code_too_long, codes_too_short, row_refused, some_codes_same, wrote_same}
use Rattle.fz_patch.proofs.KeptCards.{zeros_outside}
use Rattle.fz_patch.proofs.NewCodes.{HeaderIsStill, codes_begin, codes_failed, codes_go_on, codes_stop, header_zeros, heap_end_of, zeros_done, zeros_failed, CodesState}
use Rattle.fz_patch.proofs.EndsJoined.{amend_patches, amends_unrefused, none_refused, reach_end, reach_table, read_writes, refused_patches, refused_weaker, settled_writes, start_reach, tile_patches, told_long}
use Rattle.fz_patch.proofs.EndsTold.{told-is, told-then, told-written, told-amended, told-some}
use Rattle.fz_patch.proofs.TilesLeft.{all_taken, given_boxes, given_tiles, later_boxes, next_box}
use Rattle.fz_patch.proofs.Wrotes.{wrote-all}
use Rattle.fz_patch.proofs.Errors.{never_ok}
use Rattle.fz_patch.proofs.SettledSteps.{all_settled}
use Rattle.fz_patch.proofs.codes.write_codes.Goals as goal

pub loop-tile-init : goal.loop-tile-init
loop-tile-init g c =
    let t = c.args.target.now in
    let store = c.args.store.now in
    let same = c.into_iter-tile-iterator.ensures.into_iter_gives in
    let tiles = given_tiles c.into_iter-tile-iterator.result c.tiles_in_box-tile-items.result _ same c.tiles_in_box-tile-items.ensures.tiles in
    record {
      given = refl;
      given_len = refl;
      given_told = λ told. told;
      given_tally = refl;
      window = record { sizes = refl; workers = refl };
      copy = refl;
      low = omega (arith, c.heap_end-at.ensures);
      high = omega arith;
      reach = subst (HasAtLeast (g.D.Source.attached store)) (sym c.heap_end-at.ensures) (start_reach (g.D.Source.attached store) t.image.table c.requires.within);
      grows = λ n has. has;
      told = λ some. some;
      kept = kept-same (g.D.Source.tally store);
      counts = same-counts (g.D.Source.tally store);
      boxes = given_boxes t c.into_iter-tile-iterator.result c.tiles_in_box-tile-items.result same c.tiles_in_box-tile-items.ensures.each;
      pixels_read = c.log_law.ensures.none t.pixels_at (pixels_end t) (g.S.Source.ranges c.args.patch.now);
      bytes_kept = keeps_same (λ i. i < heap_end_of t) (g.D.Source.held store) (g.D.Source.held store) (g.D.Source.tally store).amended.writes (g.D.Source.tally store).amended.writes refl refl;
      state = codes_begin t (g.S.Source.held c.args.patch.now) (g.D.Source.held store) (g.D.Source.tally store).amended.writes (sieve_tiles_left c.into_iter-tile-iterator.result) c.heap_end-at.result
          tiles c.heap_end-at.ensures c.requires.said;
    }

pub overflow_add-end : goal.overflow_add-end
overflow_add-end g c = record { fits = omega (arith, end_near c.args.target.now c.args.found.now c.requires.target c.requires.room, c.heap_end-at.ensures) }

pub prepare_tile-requires-clause-within : goal.prepare_tile-requires-clause-within
prepare_tile-requires-clause-within g c κs within =
    let t = c.args.target.now in
    let attached = g.D.Source.attached c.loop-tile.store in
    reach_table attached t.image.table (λ n is. g.met.D.Source.near c.loop-tile.store n is) (at-least attached c.loop-tile.at (heap_end_of t) c.loop-tile.invariant.reach c.loop-tile.invariant.low)

pub prepare_tile-requires-clause-tile : goal.prepare_tile-requires-clause-tile
prepare_tile-requires-clause-tile g c κs within =
    next_box c.args.target.now c.in-Some.tile (sieve_tiles_left c.loop-tile.tile-iterator) (sieve_tiles_left c.next.new.self) c.in-Some.ensures.steps c.loop-tile.invariant.boxes

pub code_slot-slot-requires-clause-code : goal.code_slot-slot-requires-clause-code
code_slot-slot-requires-clause-code g c = (c.in-Some.tile, c.in_ok-prepare_tile.ensures.code)

pub amend_at-requires-clause-within : goal.amend_at-requires-clause-within
amend_at-requires-clause-within g c =
    subst (λ (a : Option ℕ). HasAtLeast a c.loop-tile.at) (sym c.in_ok-prepare_tile.ensures.stays.0.attached_is) c.loop-tile.invariant.reach

pub amend_at-requires-clause-near : goal.amend_at-requires-clause-near
amend_at-requires-clause-near g c =
    omega (arith, end_near c.args.target.now c.args.found.now c.requires.target c.requires.room, c.heap_end-at.ensures, c.code_in.ensures.count, c.loop-tile.invariant.high)

pub loop-tile-preserved : goal.loop-tile-preserved
loop-tile-preserved g c =
    let t = c.args.target.now in
    let held : Option (List ℕ) = g.D.Source.held c.args.store.now in
    let given : Option (List ℕ) = g.S.Source.held c.args.patch.now in
    let log : Option (List Amend) = (g.D.Source.tally c.args.store.now).amended.writes in
    let old = c.loop-tile.invariant in
    let at : ℕ = c.loop-tile.at in
    let tile : ℕ = c.in-Some.tile in
    let left : List ℕ = sieve_tiles_left c.loop-tile.tile-iterator in
    let after : List ℕ = sieve_tiles_left c.next.new.self in
    let next : left ≡ tile ∷ after = c.in-Some.ensures.steps in
    let w : Pool = c.prepare_tile.new.window in
    let slot = c.code_slot-slot.result.now in
    let bytes : List ℕ = c.code_in.result.now in
    let done = c.in_ok-prepare_tile.ensures in
    let put = c.in_ok-amend_at.ensures in
    let start = c.loop-tile.store in
    let read = c.prepare_tile.new.store in
    let now = c.amend_at.new.store in
    let box = next_box t tile left after next old.boxes in
    let new : IfBoth (g.D.Source.held start) given (λ f p. (corner : List ℕ) → IsGivenTo corner p t → HasNewCode f t.header t.image.plan (given_at corner p) tile w) =
    subst (λ (s : Option (List ℕ)). IfBoth (g.D.Source.held start) s (λ f p. (corner : List ℕ) → IsGivenTo corner p t → HasNewCode f t.header t.image.plan (given_at corner p) tile w)) old.given done.new in
    let same_counts = same-is (g.D.Source.tally start) (g.D.Source.tally read) done.cause.ok.0 in
    let count : length bytes ≡ c.from-count.result = c.code_in.ensures.count ∙ sym c.from-count.ensures in
    let made : g.D.Source.held now ≡ written at bytes (g.D.Source.held start) = put.amended ∙ ap (written at bytes) done.stays.0.held_is in
    let reach : HasAtLeast (g.D.Source.attached now) (at + length bytes) = reach_end at (length bytes) (g.D.Source.attached read) (g.D.Source.attached now) _ put.reach in
    record {
      given = done.stays.1.held_is ∙ old.given;
      given_len = done.stays.1.attached_is ∙ old.given_len;
      given_told = λ told. done.stays.1.told (old.given_told told);
      given_tally = done.cause.ok.1 ∙ old.given_tally;
      window = record { sizes = done.stays.2.sizes ∙ old.window.sizes; workers = done.stays.2.workers ∙ old.window.workers };
      copy = done.stays.3 ∙ old.copy;
      low = omega (arith, old.low);
      high = omega (arith, old.high);
      reach = subst (λ k. HasAtLeast (g.D.Source.attached now) (at + k)) count reach;
      grows = reach-then _ _ _ old.grows (reach-then _ _ _ (reach-is _ _ done.stays.0.attached_is) (reach-of at (length bytes) _ _ _ put.reach));
      told = told-then _ _ _ old.told (told-then _ _ _ (told-is _ _ done.stays.0.held_is) (told-written at bytes _ _ put.amended));
      kept = kept-then _ _ _ old.kept (kept-then _ _ _ (kept-read _ _ done.cause.store_kept) put.cause.kept);
      counts = same-then _ _ _ old.counts (same-then _ _ _ same_counts (same-amended _ _ _ put.cause.ok));
      boxes = later_boxes t tile left after next old.boxes;
      pixels_read = c.log_law.ensures.both t.pixels_at (pixels_end t) (g.S.Source.ranges c.args.patch.now) (g.S.Source.ranges c.loop-tile.patch) (g.S.Source.ranges c.prepare_tile.new.patch) old.pixels_read done.pixels_read;
      bytes_kept = keeps_then (λ i. i < heap_end_of t) held (g.D.Source.held start) (g.D.Source.held now) log (g.D.Source.tally start).amended.writes (g.D.Source.tally now).amended.writes old.bytes_kept
          (keeps_one c.places_law.ensures.outside c.places_law.ensures.long (λ i. i < heap_end_of t) (amend_of at bytes) (g.D.Source.held start) (g.D.Source.held now) (g.D.Source.tally start).amended.writes (g.D.Source.tally now).amended.writes
          (λ i less. inl (omega (arith, less, old.low))) made (ap (λ (k : Tally). k.amended.writes) put.cause.ok ∙ ap (with_write (amend_of at bytes)) (read_writes (g.D.Source.tally start) (g.D.Source.tally read) done.cause.store_kept)));
      state = subst (λ k. CodesState t given held (g.D.Source.held now) log (g.D.Source.tally now).amended.writes after (at + k)) count
          (codes_go_on t given held (g.D.Source.held start) (g.D.Source.held now) log (g.D.Source.tally start).amended.writes (g.D.Source.tally now).amended.writes tile after at bytes w c.requires.target
          (row_of_tile t tile c.requires.target box) old.low (omega (arith, count, c.code_slot-slot.ensures.some))
          (told_long (g.D.Source.held start) (g.D.Source.attached start) at (λ n is. g.met.D.Source.agrees start n is) old.reach) c.requires.said new
          (λ code has. c.code_in.ensures.bytes ∙ ap (λ (e : TileCode). e.bytes) (first_has w slot code c.code_slot-slot.ensures.first has).0)
          made (ap (λ (k : Tally). k.amended.writes) put.cause.ok ∙ ap (with_write (amend_of at bytes)) (read_writes (g.D.Source.tally start) (g.D.Source.tally read) done.cause.store_kept))
          (subst (λ (l : List ℕ). CodesState t given held (g.D.Source.held start) log (g.D.Source.tally start).amended.writes l at) next old.state));
    }

-- ---- a tile is not decoded

pub returns-in_err-prepare_tile-clause-some : goal.returns-in_err-prepare_tile-clause-some
returns-in_err-prepare_tile-clause-some g c =
    let t = c.args.target.now in
    let held : Option (List ℕ) = g.D.Source.held c.args.store.now in
    let given : Option (List ℕ) = g.S.Source.held c.args.patch.now in
    let log : Option (List Amend) = (g.D.Source.tally c.args.store.now).amended.writes in
    let state = c.loop-tile.invariant.state in
    let stopped = c.in_err-prepare_tile.ensures in
    some_codes_same t given held (g.D.Source.held c.loop-tile.store) (g.D.Source.held c.prepare_tile.new.store) log (g.D.Source.tally c.loop-tile.store).amended.writes (g.D.Source.tally c.prepare_tile.new.store).amended.writes
    stopped.stays.0.held_is (read_writes (g.D.Source.tally c.loop-tile.store) (g.D.Source.tally c.prepare_tile.new.store) stopped.cause.store_kept)
    (codes_stop t held given (g.D.Source.held c.loop-tile.store) log (g.D.Source.tally c.loop-tile.store).amended.writes state.front (sieve_tiles_left c.loop-tile.tile-iterator) c.loop-tile.at state.parts c.requires.said state.have)

pub returns-in_err-prepare_tile-clause-unrefused : goal.returns-in_err-prepare_tile-clause-unrefused
returns-in_err-prepare_tile-clause-unrefused g c =
    let t = c.args.target.now in
    let held : Option (List ℕ) = g.D.Source.held c.args.store.now in
    let given : Option (List ℕ) = g.S.Source.held c.args.patch.now in
    let log : Option (List Amend) = (g.D.Source.tally c.args.store.now).amended.writes in
    let old = c.loop-tile.invariant in
    let state = old.state in
    let tile : ℕ = c.in-Some.tile in
    let left : List ℕ = sieve_tiles_left c.loop-tile.tile-iterator in
    let after : List ℕ = sieve_tiles_left c.next.new.self in
    let next : left ≡ tile ∷ after = c.in-Some.ensures.steps in
    let stop : Stop = c.in_err-prepare_tile.field-0.0 in
    let stopped : c.from_residual.result ≡ Err stop = search rules in
    subst (λ (r : Result (Unit {0}) Stop). Unrefused t c.args.found.now.bytes held given r) (sym stopped)
    (by_numbers t c.args.found.now.bytes held given (Err stop)
    (λ refused. row_refused t held given (g.D.Source.held c.loop-tile.store) log (g.D.Source.tally c.loop-tile.store).amended.writes state.front tile after c.loop-tile.at c.requires.target
    (state.parts ∙ ap (λ l. state.front ++ l) next) (row_of_tile t tile c.requires.target (next_box t tile left after next old.boxes)) c.requires.said state.still state.have
    (c.in_err-prepare_tile.ensures.unrefused refused)))

pub returns-in_err-prepare_tile-clause-late : goal.returns-in_err-prepare_tile-clause-late
returns-in_err-prepare_tile-clause-late g c =
    let stop : Stop = c.in_err-prepare_tile.field-0.0 in
    let stopped : c.from_residual.result ≡ Err stop = search rules in
    subst (λ (r : Result (Unit {0}) Stop). IfRefused r (ComesInWork c.args.target.now.header.hdu)) (sym stopped)
    (refused_weaker {X = Unit {0}} (Err stop) (λ x row. inl (_, row)) c.in_err-prepare_tile.ensures.row)

pub returns-in_err-prepare_tile-clause-cause : goal.returns-in_err-prepare_tile-clause-cause
returns-in_err-prepare_tile-clause-cause g c =
    let old = c.loop-tile.invariant in
    let stop : Stop = c.in_err-prepare_tile.field-0.0 in
    let stopped : c.from_residual.result ≡ Err stop = search rules in
    let s = g.D.Source.tally c.args.store.now in
    let p = g.S.Source.tally c.args.patch.now in
    subst (λ (r : Result (Unit {0}) Stop). Patches s (g.D.Source.tally c.prepare_tile.new.store) p (g.S.Source.tally c.prepare_tile.new.patch) r) (sym stopped)
    (tile_patches s (g.D.Source.tally c.loop-tile.store) (g.D.Source.tally c.prepare_tile.new.store) p (g.S.Source.tally c.loop-tile.patch) (g.S.Source.tally c.prepare_tile.new.patch) (Err stop)
    old.kept old.counts old.given_tally c.in_err-prepare_tile.ensures.cause)

-- ---- a code is longer than what is left for it

pub returns-then-count-room-clause-some : goal.returns-then-count-room-clause-some
returns-then-count-room-clause-some g c =
    let t = c.args.target.now in
    let held : Option (List ℕ) = g.D.Source.held c.args.store.now in
    let given : Option (List ℕ) = g.S.Source.held c.args.patch.now in
    let log : Option (List Amend) = (g.D.Source.tally c.args.store.now).amended.writes in
    let state = c.loop-tile.invariant.state in
    let done = c.in_ok-prepare_tile.ensures in
    some_codes_same t given held (g.D.Source.held c.loop-tile.store) (g.D.Source.held c.prepare_tile.new.store) log (g.D.Source.tally c.loop-tile.store).amended.writes (g.D.Source.tally c.prepare_tile.new.store).amended.writes
    done.stays.0.held_is (read_writes (g.D.Source.tally c.loop-tile.store) (g.D.Source.tally c.prepare_tile.new.store) done.cause.store_kept)
    (codes_stop t held given (g.D.Source.held c.loop-tile.store) log (g.D.Source.tally c.loop-tile.store).amended.writes state.front (sieve_tiles_left c.loop-tile.tile-iterator) c.loop-tile.at state.parts c.requires.said state.have)

pub returns-then-count-room-clause-unrefused : goal.returns-then-count-room-clause-unrefused
returns-then-count-room-clause-unrefused g c =
    let t = c.args.target.now in
    let held : Option (List ℕ) = g.D.Source.held c.args.store.now in
    let given : Option (List ℕ) = g.S.Source.held c.args.patch.now in
    let log : Option (List Amend) = (g.D.Source.tally c.args.store.now).amended.writes in
    let old = c.loop-tile.invariant in
    let state = old.state in
    let tile : ℕ = c.in-Some.tile in
    let left : List ℕ = sieve_tiles_left c.loop-tile.tile-iterator in
    let after : List ℕ = sieve_tiles_left c.next.new.self in
    let next : left ≡ tile ∷ after = c.in-Some.ensures.steps in
    let w : Pool = c.prepare_tile.new.window in
    let slot = c.code_slot-slot.result.now in
    let new : IfBoth (g.D.Source.held c.loop-tile.store) given (λ f p. (corner : List ℕ) → IsGivenTo corner p t → HasNewCode f t.header t.image.plan (given_at corner p) tile w) =
    subst (λ (s : Option (List ℕ)). IfBoth (g.D.Source.held c.loop-tile.store) s (λ f p. (corner : List ℕ) → IsGivenTo corner p t → HasNewCode f t.header t.image.plan (given_at corner p) tile w)) old.given
    c.in_ok-prepare_tile.ensures.new in
    by_fit {X = Unit {0}} t c.args.found.now.bytes held given (Err c.changed.result)
    (code_too_long t c.args.found.now.bytes held given (g.D.Source.held c.loop-tile.store) log (g.D.Source.tally c.loop-tile.store).amended.writes state.front tile after c.loop-tile.at slot.job.len w c.requires.target
    (state.parts ∙ ap (λ l. state.front ++ l) next) (row_of_tile t tile c.requires.target (next_box t tile left after next old.boxes)) c.requires.said state.still state.have new
    (λ code has. (first_has w slot code c.code_slot-slot.ensures.first has).1) (omega (arith, c.heap_end-at.ensures, old.high)))

pub returns-then-count-room-clause-cause : goal.returns-then-count-room-clause-cause
returns-then-count-room-clause-cause g c =
    let old = c.loop-tile.invariant in
    let done = c.in_ok-prepare_tile.ensures in
    let s = g.D.Source.tally c.args.store.now in
    let s' = g.D.Source.tally c.loop-tile.store in
    let s'' = g.D.Source.tally c.prepare_tile.new.store in
    subst (λ (stop : Stop). Patches {X = Unit {0}} s s'' (g.S.Source.tally c.args.patch.now) (g.S.Source.tally c.prepare_tile.new.patch) (Err stop)) (sym c.changed.ensures)
    (refused_patches s s'' (g.S.Source.tally c.args.patch.now) (g.S.Source.tally c.prepare_tile.new.patch) _ (kept-then s s' s'' old.kept (kept-read s' s'' done.cause.store_kept))
    (same-then s s' s'' old.counts (same-is s' s'' done.cause.ok.0)) (done.cause.ok.1 ∙ old.given_tally))

pub returns-then-count-room-clause-reach : goal.returns-then-count-room-clause-reach
returns-then-count-room-clause-reach g c = reach-then _ _ _ c.loop-tile.invariant.grows (reach-is _ _ c.in_ok-prepare_tile.ensures.stays.0.attached_is)

pub returns-in_err-prepare_tile-clause-reach : goal.returns-in_err-prepare_tile-clause-reach
returns-in_err-prepare_tile-clause-reach g c = reach-then _ _ _ c.loop-tile.invariant.grows (reach-is _ _ c.in_err-prepare_tile.ensures.stays.0.attached_is)

-- ---- a code is not written

pub returns-in_err-amend_at-clause-some : goal.returns-in_err-amend_at-clause-some
returns-in_err-amend_at-clause-some g c =
    let t = c.args.target.now in
    let held : Option (List ℕ) = g.D.Source.held c.args.store.now in
    let given : Option (List ℕ) = g.S.Source.held c.args.patch.now in
    let log : Option (List Amend) = (g.D.Source.tally c.args.store.now).amended.writes in
    let old = c.loop-tile.invariant in
    let state = old.state in
    let tile : ℕ = c.in-Some.tile in
    let left : List ℕ = sieve_tiles_left c.loop-tile.tile-iterator in
    let after : List ℕ = sieve_tiles_left c.next.new.self in
    let next : left ≡ tile ∷ after = c.in-Some.ensures.steps in
    let w : Pool = c.prepare_tile.new.window in
    let slot = c.code_slot-slot.result.now in
    let bytes : List ℕ = c.code_in.result.now in
    let done = c.in_ok-prepare_tile.ensures in
    let put = c.in_err-amend_at.ensures in
    let start = c.loop-tile.store in
    let read = c.prepare_tile.new.store in
    let now = c.amend_at.new.store in
    let new : IfBoth (g.D.Source.held start) given (λ f p. (corner : List ℕ) → IsGivenTo corner p t → HasNewCode f t.header t.image.plan (given_at corner p) tile w) =
    subst (λ (s : Option (List ℕ)). IfBoth (g.D.Source.held start) s (λ f p. (corner : List ℕ) → IsGivenTo corner p t → HasNewCode f t.header t.image.plan (given_at corner p) tile w)) old.given done.new in
    codes_failed t held given (g.D.Source.held start) (g.D.Source.held now) log (g.D.Source.tally start).amended.writes (g.D.Source.tally now).amended.writes state.front tile after c.loop-tile.at bytes w c.requires.target
    (state.parts ∙ ap (λ l. state.front ++ l) next) (row_of_tile t tile c.requires.target (next_box t tile left after next old.boxes)) c.requires.said state.still new
    (λ code has. c.code_in.ensures.bytes ∙ ap (λ (e : TileCode). e.bytes) (first_has w slot code c.code_slot-slot.ensures.first has).0)
    (subst (λ (h : Option (List ℕ)). MayAmend c.loop-tile.at (length bytes) h (g.D.Source.held now)) done.stays.0.held_is put.partly)
    (put.cause.unlogged ∙ read_writes (g.D.Source.tally start) (g.D.Source.tally read) done.cause.store_kept) state.have

pub returns-in_err-amend_at-clause-unrefused : goal.returns-in_err-amend_at-clause-unrefused
returns-in_err-amend_at-clause-unrefused g c =
    let t = c.args.target.now in
    let held : Option (List ℕ) = g.D.Source.held c.args.store.now in
    let given : Option (List ℕ) = g.S.Source.held c.args.patch.now in
    let stop : Stop = c.in_err-amend_at.field-0.0 in
    let stopped : c.from_residual-in_err-amend_at.result ≡ Err stop = search rules in
    let read = g.D.Source.tally c.prepare_tile.new.store in
    let now = g.D.Source.tally c.amend_at.new.store in
    subst (λ (r : Result (Unit {0}) Stop). Unrefused t c.args.found.now.bytes held given r) (sym stopped)
    (by_stop t c.args.found.now.bytes held given (Err stop) (amends_unrefused read now (Err stop) (one-amends _ read now (Err stop) c.in_err-amend_at.ensures.cause)))

pub returns-in_err-amend_at-clause-cause : goal.returns-in_err-amend_at-clause-cause
returns-in_err-amend_at-clause-cause g c =
    let old = c.loop-tile.invariant in
    let done = c.in_ok-prepare_tile.ensures in
    let stop : Stop = c.in_err-amend_at.field-0.0 in
    let stopped : c.from_residual-in_err-amend_at.result ≡ Err stop = search rules in
    let s = g.D.Source.tally c.args.store.now in
    let s' = g.D.Source.tally c.loop-tile.store in
    let s'' = g.D.Source.tally c.prepare_tile.new.store in
    let now = g.D.Source.tally c.amend_at.new.store in
    let p = g.S.Source.tally c.args.patch.now in
    let p' = g.S.Source.tally c.prepare_tile.new.patch in
    subst (λ (r : Result (Unit {0}) Stop). Patches s now p p' r) (sym stopped)
    (amend_patches s s'' now p p' (Err stop) (kept-then s s' s'' old.kept (kept-read s' s'' done.cause.store_kept)) (same-then s s' s'' old.counts (same-is s' s'' done.cause.ok.0)) (done.cause.ok.1 ∙ old.given_tally)
    (one-amends _ s'' now (Err stop) c.in_err-amend_at.ensures.cause))

pub returns-in_err-amend_at-clause-reach : goal.returns-in_err-amend_at-clause-reach
returns-in_err-amend_at-clause-reach g c =
    reach-then _ _ _ c.loop-tile.invariant.grows (reach-then _ _ _ (reach-is _ _ c.in_ok-prepare_tile.ensures.stays.0.attached_is) (reach-of c.loop-tile.at (length c.code_in.result.now) _ _ _ c.in_err-amend_at.ensures.reach))

-- ---- all codes are shorter than was measured

pub returns-then-at-end-clause-some : goal.returns-then-at-end-clause-some
returns-then-at-end-clause-some g c =
    let t = c.args.target.now in
    let state = c.loop-tile.invariant.state in
    codes_stop t (g.D.Source.held c.args.store.now) (g.S.Source.held c.args.patch.now) (g.D.Source.held c.loop-tile.store) (g.D.Source.tally c.args.store.now).amended.writes (g.D.Source.tally c.loop-tile.store).amended.writes
    state.front (sieve_tiles_left c.loop-tile.tile-iterator) c.loop-tile.at state.parts c.requires.said state.have

pub returns-then-at-end-clause-unrefused : goal.returns-then-at-end-clause-unrefused
returns-then-at-end-clause-unrefused g c =
    let t = c.args.target.now in
    let held : Option (List ℕ) = g.D.Source.held c.args.store.now in
    let given : Option (List ℕ) = g.S.Source.held c.args.patch.now in
    let state = c.loop-tile.invariant.state in
    let other : c.loop-tile.at ≢ heap_end_of t + c.args.found.now.bytes = λ e. omega (arith, e, c.if-at-end.true, c.heap_end-at.ensures) in
    by_fit {X = Unit {0}} t c.args.found.now.bytes held given (Err c.changed-then-at-end.result)
    (codes_too_short t c.args.found.now.bytes held given (g.D.Source.held c.loop-tile.store) (g.D.Source.tally c.args.store.now).amended.writes (g.D.Source.tally c.loop-tile.store).amended.writes state.front c.loop-tile.at
    (all_taken _ state.front (sieve_tiles_left c.loop-tile.tile-iterator) c.in-None.ensures.steps.0 state.parts) state.have other)

pub returns-then-at-end-clause-cause : goal.returns-then-at-end-clause-cause
returns-then-at-end-clause-cause g c =
    let old = c.loop-tile.invariant in
    let s = g.D.Source.tally c.args.store.now in
    let s' = g.D.Source.tally c.loop-tile.store in
    let p = g.S.Source.tally c.args.patch.now in
    let p' = g.S.Source.tally c.loop-tile.patch in
    subst (λ (stop : Stop). Patches {X = Unit {0}} s s' p p' (Err stop)) (sym c.changed-then-at-end.ensures) (refused_patches s s' p p' _ old.kept old.counts old.given_tally)

-- ---- zeros

pub write_zeros-requires-clause-near : goal.write_zeros-requires-clause-near
write_zeros-requires-clause-near g c =
    let t = c.args.target.now in
    let end : c.loop-tile.at ≡ heap_end_of t + c.args.found.now.bytes = omega (arith, c.if-at-end.false, c.heap_end-at.ensures, c.loop-tile.invariant.high) in
    let near = zeros_near t c.args.found.now.bytes c.loop-tile.at c.requires.target end in
    let most = (ends_of t c.args.found.now c.requires.room).near in
    (omega (arith, near.0, c.grown_end.ensures), omega (arith, near.1, c.grown_end.ensures), omega (arith, most, c.grown_end.ensures))

pub returns-in_err-write_zeros-clause-some : goal.returns-in_err-write_zeros-clause-some
returns-in_err-write_zeros-clause-some g c =
    let t = c.args.target.now in
    let state = c.loop-tile.invariant.state in
    let at : ℕ = c.loop-tile.at in
    let more : ℕ = c.args.found.now.bytes in
    let now = c.loop-tile.store in
    let new = c.write_zeros.new.store in
    let end : at ≡ heap_end_of t + more = omega (arith, c.if-at-end.false, c.heap_end-at.ensures, c.loop-tile.invariant.high) in
    zeros_failed t (g.D.Source.held c.args.store.now) (g.S.Source.held c.args.patch.now) (g.D.Source.held now) (g.D.Source.held new) (g.D.Source.tally c.args.store.now).amended.writes (g.D.Source.tally now).amended.writes
    (g.D.Source.tally new).amended.writes state.front at more (all_taken _ state.front (sieve_tiles_left c.loop-tile.tile-iterator) c.in-None.ensures.steps.0 state.parts) c.requires.said end
    (subst (λ k. WroteSome (zero_writes at k) (g.D.Source.held now) (g.D.Source.held new) (g.D.Source.tally now).amended.writes (g.D.Source.tally new).amended.writes) c.grown_end.ensures c.in_err-write_zeros.ensures.some) state.have

pub returns-in_err-write_zeros-clause-unrefused : goal.returns-in_err-write_zeros-clause-unrefused
returns-in_err-write_zeros-clause-unrefused g c =
    let stop : Stop = c.in_err-write_zeros.field-0.0 in
    let stopped : c.from_residual-in_err-write_zeros.result ≡ Err stop = search rules in
    subst (λ (r : Result (Unit {0}) Stop). Unrefused c.args.target.now c.args.found.now.bytes (g.D.Source.held c.args.store.now) (g.S.Source.held c.args.patch.now) r) (sym stopped)
    (by_stop c.args.target.now c.args.found.now.bytes (g.D.Source.held c.args.store.now) (g.S.Source.held c.args.patch.now) (Err stop)
    (amends_unrefused (g.D.Source.tally c.loop-tile.store) (g.D.Source.tally c.write_zeros.new.store) (Err stop) c.in_err-write_zeros.ensures.cause))

pub returns-in_err-write_zeros-clause-cause : goal.returns-in_err-write_zeros-clause-cause
returns-in_err-write_zeros-clause-cause g c =
    let old = c.loop-tile.invariant in
    let stop : Stop = c.in_err-write_zeros.field-0.0 in
    let stopped : c.from_residual-in_err-write_zeros.result ≡ Err stop = search rules in
    let s = g.D.Source.tally c.args.store.now in
    let s' = g.D.Source.tally c.loop-tile.store in
    let now = g.D.Source.tally c.write_zeros.new.store in
    let p = g.S.Source.tally c.args.patch.now in
    let p' = g.S.Source.tally c.loop-tile.patch in
    subst (λ (r : Result (Unit {0}) Stop). Patches s now p p' r) (sym stopped) (amend_patches s s' now p p' (Err stop) old.kept old.counts old.given_tally c.in_err-write_zeros.ensures.cause)

pub returns-in_err-write_zeros-clause-reach : goal.returns-in_err-write_zeros-clause-reach
returns-in_err-write_zeros-clause-reach g c = reach-then _ _ _ c.loop-tile.invariant.grows c.in_err-write_zeros.ensures.reach

-- ---- the end

pub returns-clause-wrote : goal.returns-clause-wrote
returns-clause-wrote g c =
    let t = c.args.target.now in
    let state = c.loop-tile.invariant.state in
    let at : ℕ = c.loop-tile.at in
    let more : ℕ = c.args.found.now.bytes in
    let now = c.loop-tile.store in
    let zeros = c.write_zeros.new.store in
    let new = c.settle.new.store in
    let end : at ≡ heap_end_of t + more = omega (arith, c.if-at-end.false, c.heap_end-at.ensures, c.loop-tile.invariant.high) in
    let wrote : Wrote (zero_writes at (grown_end t.header more)) (g.D.Source.held now) (g.D.Source.held new) (g.D.Source.tally now).amended.writes (g.D.Source.tally new).amended.writes =
    wrote_same _ (g.D.Source.held now) (g.D.Source.held zeros) (g.D.Source.held new) (g.D.Source.tally now).amended.writes (g.D.Source.tally zeros).amended.writes (g.D.Source.tally new).amended.writes c.settle.ensures.store.held_is
    (settled_writes (g.D.Source.tally zeros) (g.D.Source.tally new) c.settle.result c.settle.ensures.cause)
    (subst (λ k. Wrote (zero_writes at k) (g.D.Source.held now) (g.D.Source.held zeros) (g.D.Source.tally now).amended.writes (g.D.Source.tally zeros).amended.writes) c.grown_end.ensures c.in_ok-write_zeros.ensures.wrote) in
    on_ok_weaker c.settle.result
    (λ same. zeros_done t (g.D.Source.held c.args.store.now) (g.S.Source.held c.args.patch.now) (g.D.Source.held now) (g.D.Source.held new) (g.D.Source.tally c.args.store.now).amended.writes (g.D.Source.tally now).amended.writes
    (g.D.Source.tally new).amended.writes state.front at more (all_taken _ state.front (sieve_tiles_left c.loop-tile.tile-iterator) c.in-None.ensures.steps.0 state.parts) c.requires.said end wrote state.have) c.settle.ensures.cause.ok

pub returns-clause-some : goal.returns-clause-some
returns-clause-some g c =
    let t = c.args.target.now in
    let state = c.loop-tile.invariant.state in
    let at : ℕ = c.loop-tile.at in
    let more : ℕ = c.args.found.now.bytes in
    let now = c.loop-tile.store in
    let zeros = c.write_zeros.new.store in
    let new = c.settle.new.store in
    let end : at ≡ heap_end_of t + more = omega (arith, c.if-at-end.false, c.heap_end-at.ensures, c.loop-tile.invariant.high) in
    let wrote : Wrote (zero_writes at (grown_end t.header more)) (g.D.Source.held now) (g.D.Source.held new) (g.D.Source.tally now).amended.writes (g.D.Source.tally new).amended.writes =
    wrote_same _ (g.D.Source.held now) (g.D.Source.held zeros) (g.D.Source.held new) (g.D.Source.tally now).amended.writes (g.D.Source.tally zeros).amended.writes (g.D.Source.tally new).amended.writes c.settle.ensures.store.held_is
    (settled_writes (g.D.Source.tally zeros) (g.D.Source.tally new) c.settle.result c.settle.ensures.cause)
    (subst (λ k. Wrote (zero_writes at k) (g.D.Source.held now) (g.D.Source.held zeros) (g.D.Source.tally now).amended.writes (g.D.Source.tally zeros).amended.writes) c.grown_end.ensures c.in_ok-write_zeros.ensures.wrote) in
    zeros_failed t (g.D.Source.held c.args.store.now) (g.S.Source.held c.args.patch.now) (g.D.Source.held now) (g.D.Source.held new) (g.D.Source.tally c.args.store.now).amended.writes (g.D.Source.tally now).amended.writes
    (g.D.Source.tally new).amended.writes state.front at more (all_taken _ state.front (sieve_tiles_left c.loop-tile.tile-iterator) c.in-None.ensures.steps.0 state.parts) c.requires.said end (wrote-all _ _ _ _ _ wrote) state.have

pub returns-clause-unrefused : goal.returns-clause-unrefused
returns-clause-unrefused g c =
    by_stop c.args.target.now c.args.found.now.bytes (g.D.Source.held c.args.store.now) (g.S.Source.held c.args.patch.now) c.settle.result
    (amends_unrefused (g.D.Source.tally c.write_zeros.new.store) (g.D.Source.tally c.settle.new.store) c.settle.result (settled-amends _ _ c.settle.result c.settle.ensures.cause))

pub returns-clause-grown : goal.returns-clause-grown
returns-clause-grown g c =
    let t = c.args.target.now in
    let reach : HasAtLeast (g.D.Source.attached c.write_zeros.new.store) (grown_end t.header c.args.found.now.bytes) =
    subst (λ k. HasAtLeast (g.D.Source.attached c.write_zeros.new.store) k) c.grown_end.ensures c.in_ok-write_zeros.ensures.grown in
    on_ok_weaker c.settle.result (λ same. subst (λ (a : Option ℕ). HasAtLeast a (grown_end t.header c.args.found.now.bytes)) (sym c.settle.ensures.store.attached_is) reach) c.settle.ensures.cause.ok

pub returns-clause-late : goal.returns-clause-late
returns-clause-late g c =
    none_refused _ (g.D.Source.tally c.write_zeros.new.store) (g.D.Source.tally c.settle.new.store) c.settle.result (settled-amends _ _ c.settle.result c.settle.ensures.cause)

pub returns-clause-header : goal.returns-clause-header
returns-clause-header g c =
    let t = c.args.target.now in
    let old = c.loop-tile.invariant in
    let at : ℕ = c.loop-tile.at in
    let more : ℕ = c.args.found.now.bytes in
    let now = c.loop-tile.store in
    let zeros = c.write_zeros.new.store in
    let held : Option (List ℕ) = g.D.Source.held c.args.store.now in
    let end : at ≡ heap_end_of t + more = omega (arith, c.if-at-end.false, c.heap_end-at.ensures, c.loop-tile.invariant.high) in
    let near = zeros_near t more at c.requires.target end in
    let after : HeaderIsStill t held (g.D.Source.held zeros) =
    header_zeros t held (g.D.Source.held now) (g.D.Source.held zeros) (g.D.Source.tally now).amended.writes (g.D.Source.tally zeros).amended.writes at c.grown_end.result c.requires.target old.low (omega (arith, near.0, c.grown_end.ensures))
    (told_long (g.D.Source.held now) (g.D.Source.attached now) at (λ n is. g.met.D.Source.agrees now n is) old.reach) c.in_ok-write_zeros.ensures.wrote old.state.header in
    on_ok_weaker c.settle.result (λ same. subst (λ (h : Option (List ℕ)). HeaderIsStill t held h) (sym c.settle.ensures.store.held_is) after) c.settle.ensures.cause.ok

pub returns-clause-reach : goal.returns-clause-reach
returns-clause-reach g c = reach-then _ _ _ c.loop-tile.invariant.grows (reach-then _ _ _ c.in_ok-write_zeros.ensures.reach (reach-is _ _ c.settle.ensures.store.attached_is))

pub returns-clause-cause : goal.returns-clause-cause
returns-clause-cause g c =
    let old = c.loop-tile.invariant in
    let s = g.D.Source.tally c.args.store.now in
    let s' = g.D.Source.tally c.loop-tile.store in
    let zeros = g.D.Source.tally c.write_zeros.new.store in
    let now = g.D.Source.tally c.settle.new.store in
    let p = g.S.Source.tally c.args.patch.now in
    let p' = g.S.Source.tally c.loop-tile.patch in
    let put = c.in_ok-write_zeros.ensures.cause in
    amend_patches s zeros now p p' c.settle.result (kept-then s s' zeros old.kept put.kept) (same-then s s' zeros old.counts put.ok) old.given_tally (settled-amends zeros now c.settle.result c.settle.ensures.cause)

pub returns-in_err-prepare_tile-clause-stays : goal.returns-in_err-prepare_tile-clause-stays
returns-in_err-prepare_tile-clause-stays g c =
    let old = c.loop-tile.invariant in
    let read = c.in_err-prepare_tile.ensures.stays in (
      record { held_is = read.1.held_is ∙ old.given; attached_is = read.1.attached_is ∙ old.given_len; told = λ told. read.1.told (old.given_told told) },
      record { sizes = read.2.sizes ∙ old.window.sizes; workers = read.2.workers ∙ old.window.workers },
      told-then _ _ _ old.told (told-is _ _ read.0.held_is),
      read.3 ∙ old.copy,
    )

pub returns-then-count-room-clause-stays : goal.returns-then-count-room-clause-stays
returns-then-count-room-clause-stays g c =
    let old = c.loop-tile.invariant in
    let read = c.in_ok-prepare_tile.ensures.stays in (
      record { held_is = read.1.held_is ∙ old.given; attached_is = read.1.attached_is ∙ old.given_len; told = λ told. read.1.told (old.given_told told) },
      record { sizes = read.2.sizes ∙ old.window.sizes; workers = read.2.workers ∙ old.window.workers },
      told-then _ _ _ old.told (told-is _ _ read.0.held_is),
      read.3 ∙ old.copy,
    )

pub returns-in_err-amend_at-clause-stays : goal.returns-in_err-amend_at-clause-stays
returns-in_err-amend_at-clause-stays g c =
    let old = c.loop-tile.invariant in
    let read = c.in_ok-prepare_tile.ensures.stays in (
      record { held_is = read.1.held_is ∙ old.given; attached_is = read.1.attached_is ∙ old.given_len; told = λ told. read.1.told (old.given_told told) },
      record { sizes = read.2.sizes ∙ old.window.sizes; workers = read.2.workers ∙ old.window.workers },
      told-then _ _ _ old.told (told-then _ _ _ (told-is _ _ read.0.held_is) (told-amended _ _ _ _ c.in_err-amend_at.ensures.partly)),
      read.3 ∙ old.copy,
    )

pub returns-then-at-end-clause-stays : goal.returns-then-at-end-clause-stays
returns-then-at-end-clause-stays g c =
    let old = c.loop-tile.invariant in
    (record { held_is = old.given; attached_is = old.given_len; told = old.given_told }, old.window, old.told, old.copy)

pub returns-in_err-write_zeros-clause-stays : goal.returns-in_err-write_zeros-clause-stays
returns-in_err-write_zeros-clause-stays g c =
    let old = c.loop-tile.invariant in
    (record { held_is = old.given; attached_is = old.given_len; told = old.given_told }, old.window, told-then _ _ _ old.told (told-some _ _ _ _ _ c.in_err-write_zeros.ensures.some), old.copy)

pub returns-clause-stays : goal.returns-clause-stays
returns-clause-stays g c =
    let old = c.loop-tile.invariant in
    (record { held_is = old.given; attached_is = old.given_len; told = old.given_told }, old.window, told-then _ _ _ old.told (told-then _ _ _ (told-some _ _ _ _ _ c.in_ok-write_zeros.ensures.some) (told-is _ _ c.settle.ensures.store.held_is)), old.copy)

pub returns-then-count-room-clause-late : goal.returns-then-count-room-clause-late
returns-then-count-room-clause-late g c =
    subst (λ (stop : Stop). IfRefused {X = Unit {0}} (Err stop) (ComesInWork c.args.target.now.header.hdu)) (sym c.changed.ensures) (inr refl)

pub returns-then-at-end-clause-late : goal.returns-then-at-end-clause-late
returns-then-at-end-clause-late g c =
    subst (λ (stop : Stop). IfRefused {X = Unit {0}} (Err stop) (ComesInWork c.args.target.now.header.hdu)) (sym c.changed-then-at-end.ensures) (inr refl)

pub returns-then-at-end-clause-reach : goal.returns-then-at-end-clause-reach
returns-then-at-end-clause-reach g c =
    c.loop-tile.invariant.grows

pub returns-in_err-prepare_tile-clause-wrote : goal.returns-in_err-prepare_tile-clause-wrote
returns-in_err-prepare_tile-clause-wrote g c =
    let stopped : c.from_residual.result ≡ Err c.in_err-prepare_tile.field-0.0 = search rules in
    never_ok _ c.from_residual.result c.in_err-prepare_tile.field-0.0 stopped

pub returns-in_err-prepare_tile-clause-header : goal.returns-in_err-prepare_tile-clause-header
returns-in_err-prepare_tile-clause-header g c =
    let stopped : c.from_residual.result ≡ Err c.in_err-prepare_tile.field-0.0 = search rules in
    never_ok _ c.from_residual.result c.in_err-prepare_tile.field-0.0 stopped

pub returns-in_err-prepare_tile-clause-grown : goal.returns-in_err-prepare_tile-clause-grown
returns-in_err-prepare_tile-clause-grown g c =
    let stopped : c.from_residual.result ≡ Err c.in_err-prepare_tile.field-0.0 = search rules in
    never_ok _ c.from_residual.result c.in_err-prepare_tile.field-0.0 stopped

pub returns-in_err-amend_at-clause-wrote : goal.returns-in_err-amend_at-clause-wrote
returns-in_err-amend_at-clause-wrote g c =
    let stopped : c.from_residual-in_err-amend_at.result ≡ Err c.in_err-amend_at.field-0.0 = search rules in
    never_ok _ c.from_residual-in_err-amend_at.result c.in_err-amend_at.field-0.0 stopped

pub returns-in_err-amend_at-clause-header : goal.returns-in_err-amend_at-clause-header
returns-in_err-amend_at-clause-header g c =
    let stopped : c.from_residual-in_err-amend_at.result ≡ Err c.in_err-amend_at.field-0.0 = search rules in
    never_ok _ c.from_residual-in_err-amend_at.result c.in_err-amend_at.field-0.0 stopped

pub returns-in_err-amend_at-clause-grown : goal.returns-in_err-amend_at-clause-grown
returns-in_err-amend_at-clause-grown g c =
    let stopped : c.from_residual-in_err-amend_at.result ≡ Err c.in_err-amend_at.field-0.0 = search rules in
    never_ok _ c.from_residual-in_err-amend_at.result c.in_err-amend_at.field-0.0 stopped

pub returns-in_err-write_zeros-clause-wrote : goal.returns-in_err-write_zeros-clause-wrote
returns-in_err-write_zeros-clause-wrote g c =
    let stopped : c.from_residual-in_err-write_zeros.result ≡ Err c.in_err-write_zeros.field-0.0 = search rules in
    never_ok _ c.from_residual-in_err-write_zeros.result c.in_err-write_zeros.field-0.0 stopped

pub returns-in_err-write_zeros-clause-header : goal.returns-in_err-write_zeros-clause-header
returns-in_err-write_zeros-clause-header g c =
    let stopped : c.from_residual-in_err-write_zeros.result ≡ Err c.in_err-write_zeros.field-0.0 = search rules in
    never_ok _ c.from_residual-in_err-write_zeros.result c.in_err-write_zeros.field-0.0 stopped

pub returns-in_err-write_zeros-clause-grown : goal.returns-in_err-write_zeros-clause-grown
returns-in_err-write_zeros-clause-grown g c =
    let stopped : c.from_residual-in_err-write_zeros.result ≡ Err c.in_err-write_zeros.field-0.0 = search rules in
    never_ok _ c.from_residual-in_err-write_zeros.result c.in_err-write_zeros.field-0.0 stopped

pub returns-in_err-amend_at-clause-late : goal.returns-in_err-amend_at-clause-late
returns-in_err-amend_at-clause-late g c =
    let stop : Stop = c.in_err-amend_at.field-0.0 in
    let stopped : c.from_residual-in_err-amend_at.result ≡ Err stop = search rules in
    let before = g.D.Source.tally c.prepare_tile.new.store in
    let now = g.D.Source.tally c.amend_at.new.store in
    subst (λ (r : Result (Unit {0}) Stop). IfRefused r (ComesInWork c.args.target.now.header.hdu)) (sym stopped)
    (none_refused {X = Unit {0}} _ before now (Err stop) (one-amends _ before now (Err stop) c.in_err-amend_at.ensures.cause))

pub returns-in_err-write_zeros-clause-late : goal.returns-in_err-write_zeros-clause-late
returns-in_err-write_zeros-clause-late g c =
    let stop : Stop = c.in_err-write_zeros.field-0.0 in
    let stopped : c.from_residual-in_err-write_zeros.result ≡ Err stop = search rules in
    let before = g.D.Source.tally c.loop-tile.store in
    let now = g.D.Source.tally c.write_zeros.new.store in
    subst (λ (r : Result (Unit {0}) Stop). IfRefused r (ComesInWork c.args.target.now.header.hdu)) (sym stopped)
    (none_refused {X = Unit {0}} _ before now (Err stop) c.in_err-write_zeros.ensures.cause)

pub prepare_tile-requires-clause-copy : goal.prepare_tile-requires-clause-copy
prepare_tile-requires-clause-copy g c =
    omega (arith, c.loop-tile.invariant.copy, c.requires.copy)

pub returns-clause-settled : goal.returns-clause-settled
returns-clause-settled g c = all_settled _ _ c.settle.result c.settle.ensures.cause

-- ---- what is kept, and what is read of PATCH

pub returns-in_err-prepare_tile-clause-kept : goal.returns-in_err-prepare_tile-clause-kept
returns-in_err-prepare_tile-clause-kept g c =
    let start = c.loop-tile.store in
    let read = c.prepare_tile.new.store in
    let done = c.in_err-prepare_tile.ensures in
    keeps_still (λ i. i < heap_end_of c.args.target.now) (g.D.Source.held c.args.store.now) (g.D.Source.held start) (g.D.Source.held read) (g.D.Source.tally c.args.store.now).amended.writes (g.D.Source.tally start).amended.writes
    (g.D.Source.tally read).amended.writes done.stays.0.held_is (read_writes (g.D.Source.tally start) (g.D.Source.tally read) done.cause.store_kept) c.loop-tile.invariant.bytes_kept

pub returns-in_err-prepare_tile-clause-pixels_read : goal.returns-in_err-prepare_tile-clause-pixels_read
returns-in_err-prepare_tile-clause-pixels_read g c =
    let t = c.args.target.now in
    c.log_law.ensures.both t.pixels_at (pixels_end t) (g.S.Source.ranges c.args.patch.now) (g.S.Source.ranges c.loop-tile.patch) (g.S.Source.ranges c.prepare_tile.new.patch) c.loop-tile.invariant.pixels_read c.in_err-prepare_tile.ensures.pixels_read

pub returns-then-count-room-clause-kept : goal.returns-then-count-room-clause-kept
returns-then-count-room-clause-kept g c =
    let start = c.loop-tile.store in
    let read = c.prepare_tile.new.store in
    let done = c.in_ok-prepare_tile.ensures in
    keeps_still (λ i. i < heap_end_of c.args.target.now) (g.D.Source.held c.args.store.now) (g.D.Source.held start) (g.D.Source.held read) (g.D.Source.tally c.args.store.now).amended.writes (g.D.Source.tally start).amended.writes
    (g.D.Source.tally read).amended.writes done.stays.0.held_is (read_writes (g.D.Source.tally start) (g.D.Source.tally read) done.cause.store_kept) c.loop-tile.invariant.bytes_kept

pub returns-then-count-room-clause-pixels_read : goal.returns-then-count-room-clause-pixels_read
returns-then-count-room-clause-pixels_read g c =
    let t = c.args.target.now in
    c.log_law.ensures.both t.pixels_at (pixels_end t) (g.S.Source.ranges c.args.patch.now) (g.S.Source.ranges c.loop-tile.patch) (g.S.Source.ranges c.prepare_tile.new.patch) c.loop-tile.invariant.pixels_read c.in_ok-prepare_tile.ensures.pixels_read

pub returns-in_err-amend_at-clause-kept : goal.returns-in_err-amend_at-clause-kept
returns-in_err-amend_at-clause-kept g c =
    let t = c.args.target.now in
    let bytes : List ℕ = c.code_in.result.now in
    let start = c.loop-tile.store in
    let read = c.prepare_tile.new.store in
    let now = c.amend_at.new.store in
    let done = c.in_ok-prepare_tile.ensures in
    let put = c.in_err-amend_at.ensures in
    let old = c.loop-tile.invariant in
    keeps_then (λ i. i < heap_end_of t) (g.D.Source.held c.args.store.now) (g.D.Source.held start) (g.D.Source.held now) (g.D.Source.tally c.args.store.now).amended.writes (g.D.Source.tally start).amended.writes
    (g.D.Source.tally now).amended.writes old.bytes_kept
    (keeps_failed c.places_law.ensures.outside c.places_law.ensures.long (λ i. i < heap_end_of t) (amend_of c.loop-tile.at bytes) (g.D.Source.held start) (g.D.Source.held now) (g.D.Source.tally start).amended.writes
    (g.D.Source.tally now).amended.writes (λ i less. inl (omega (arith, less, old.low)))
    (subst (λ (h : Option (List ℕ)). MayAmend c.loop-tile.at (length bytes) h (g.D.Source.held now)) done.stays.0.held_is put.partly)
    (put.cause.unlogged ∙ read_writes (g.D.Source.tally start) (g.D.Source.tally read) done.cause.store_kept))

pub returns-in_err-amend_at-clause-pixels_read : goal.returns-in_err-amend_at-clause-pixels_read
returns-in_err-amend_at-clause-pixels_read g c =
    let t = c.args.target.now in
    c.log_law.ensures.both t.pixels_at (pixels_end t) (g.S.Source.ranges c.args.patch.now) (g.S.Source.ranges c.loop-tile.patch) (g.S.Source.ranges c.prepare_tile.new.patch) c.loop-tile.invariant.pixels_read c.in_ok-prepare_tile.ensures.pixels_read

pub returns-in_err-write_zeros-clause-kept : goal.returns-in_err-write_zeros-clause-kept
returns-in_err-write_zeros-clause-kept g c =
    let t = c.args.target.now in
    let start = c.loop-tile.store in
    let now = c.write_zeros.new.store in
    let old = c.loop-tile.invariant in
    keeps_then (λ i. i < heap_end_of t) (g.D.Source.held c.args.store.now) (g.D.Source.held start) (g.D.Source.held now) (g.D.Source.tally c.args.store.now).amended.writes (g.D.Source.tally start).amended.writes
    (g.D.Source.tally now).amended.writes old.bytes_kept
    (keeps_some c.places_law.ensures.outside c.places_law.ensures.long (λ i. i < heap_end_of t) (zero_writes c.loop-tile.at c.grown_end.result) (g.D.Source.held start) (g.D.Source.held now) (g.D.Source.tally start).amended.writes
    (g.D.Source.tally now).amended.writes (λ i less. zeros_outside c.loop-tile.at c.grown_end.result (heap_end_of t) i old.low less) c.in_err-write_zeros.ensures.some)

pub returns-clause-kept : goal.returns-clause-kept
returns-clause-kept g c =
    let t = c.args.target.now in
    let start = c.loop-tile.store in
    let zeros = c.write_zeros.new.store in
    let now = c.settle.new.store in
    let old = c.loop-tile.invariant in
    keeps_still (λ i. i < heap_end_of t) (g.D.Source.held c.args.store.now) (g.D.Source.held zeros) (g.D.Source.held now) (g.D.Source.tally c.args.store.now).amended.writes (g.D.Source.tally zeros).amended.writes
    (g.D.Source.tally now).amended.writes c.settle.ensures.store.held_is (settled_writes (g.D.Source.tally zeros) (g.D.Source.tally now) c.settle.result c.settle.ensures.cause)
    (keeps_then (λ i. i < heap_end_of t) (g.D.Source.held c.args.store.now) (g.D.Source.held start) (g.D.Source.held zeros) (g.D.Source.tally c.args.store.now).amended.writes (g.D.Source.tally start).amended.writes
    (g.D.Source.tally zeros).amended.writes old.bytes_kept
    (keeps_some c.places_law.ensures.outside c.places_law.ensures.long (λ i. i < heap_end_of t) (zero_writes c.loop-tile.at c.grown_end.result) (g.D.Source.held start) (g.D.Source.held zeros) (g.D.Source.tally start).amended.writes
    (g.D.Source.tally zeros).amended.writes (λ i less. zeros_outside c.loop-tile.at c.grown_end.result (heap_end_of t) i old.low less) c.in_ok-write_zeros.ensures.some))
