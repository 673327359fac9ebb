-- One row after another.
use Rattle.std.proofs.Common.{◌≡◌, ◌≢◌, ℕ, ◌+◌, ◌-◌, ◌≤◌, true, false, List, ◌∷◌, ◌++◌, length, Option, Result, Err, inl, refl, sym, ap, ◌∙◌, subst, arith, rules, inr}
use Rattle.std.specs.Prelude.{IfSome}
use Rattle.std.proofs.lemmas.Result.{on_ok_weaker}
use Rattle.fz_base.specs.Counts.{Amend, Tally}
use Rattle.fz_base.specs.Sink.{written}
use Rattle.fz_base.specs.Source.{has_bytes}
use Rattle.fz_base.specs.Stop.{IfRefused}
use Rattle.fz_base.specs.Store.{HasAtLeast, MayAmend, amend_of, with_write}
use Rattle.fz_base.specs.declared.failure.Stop.{Stop}
use Rattle.fz_files.specs.Packed.{row_of}
use Rattle.fz_grid.specs.SieveWalks.{sieve_tiles_left}
use Rattle.fz_pool.specs.Round.{coded_tile}
use Rattle.fz_pool.specs.Window.{Pool}
use Rattle.fz_table.specs.Rows.{row_start}
use Rattle.fz_tile.specs.TileCode.{TileCode}
use Rattle.fz_target.specs.Ends.{Patches}
use Rattle.fz_target.specs.Measures.{is_measured}
use Rattle.fz_target.specs.Reads.{pixels_end}
use Rattle.fz_target.specs.Steps.{ComesInWork}
use Rattle.fz_target.specs.Targets.{IsGivenTo, given_at, plan_to_write}
use Rattle.fz_target.specs.Tiles.{HasNewCode}
use Rattle.fz_target.specs.Told.{IfBoth}
use Rattle.fz_patch.proofs.Amended.{at-least, kept-read, kept-same, kept-then, one-amends, reach-is, reach-then, read-amends, same-amended, same-counts, same-is, same-then, settled-amends}
use Rattle.fz_patch.proofs.Beside.{keeps_failed, keeps_one, keeps_same, keeps_still, keeps_then}
use Rattle.fz_patch.proofs.Boxes.{AreAbove}
use Rattle.fz_patch.proofs.CodeSlots.{first_has}
use Rattle.fz_patch.proofs.CodedEnds.{row_of_tile}
use Rattle.fz_patch.proofs.CodedRefusals.{by_fit, by_numbers, by_stop, later_row_refused, row_too_long, rows_done, some_rows_same}
use Rattle.fz_patch.proofs.CodedRows.{not_below, picked_above, row_in_file, row_some}
use Rattle.fz_patch.proofs.Described.{AreDescribed, described_failed, described_more, described_none, described_stop}
use Rattle.fz_patch.proofs.HeapCodes.{UnrefusedRows, also_rows, by_heap, row_other, row_unmeasured, rows_too_short}
use Rattle.fz_patch.proofs.KeptCards.{IsNoBoxRow, row_outside}
use Rattle.fz_patch.proofs.NewCodes.{HeaderIsStill, heap_end_of}
use Rattle.fz_patch.proofs.EndsJoined.{amend_patches, amends_unrefused, none_refused, reach_table, read_writes, refused_patches, refused_weaker, settled_writes, start_reach, tile_patches, told_long}
use Rattle.fz_patch.proofs.EndsTold.{told-is, told-then, told-written, told-amended}
use Rattle.fz_patch.proofs.RowCodes.{RowsState, rows_begin, rows_failed, rows_go_on, rows_stop}
use Rattle.fz_patch.proofs.TilesLeft.{all_taken, given_boxes, given_tiles, later_boxes, next_box}
use Rattle.fz_patch.proofs.Errors.{never_ok}
use Rattle.fz_patch.proofs.SettledSteps.{all_settled}
use Rattle.fz_patch.proofs.rows.write_rows.Goals as goal

pub loop-tile-init : goal.loop-tile-init
loop-tile-init g c =
    let t = c.args.target.now in
    let store = c.args.store.now in
    let same = c.into_iter-tile-iterator.ensures.into_iter_gives in
    let tiles = given_tiles c.into_iter-tile-iterator.result c.tiles_in_box-tile-items.result _ same c.tiles_in_box-tile-items.ensures.tiles in
    record {
      given = refl;
      given_len = refl;
      given_told = λ told. told;
      given_tally = refl;
      window = record { sizes = refl; workers = refl };
      copy = refl;
      high = omega arith;
      reach = start_reach (g.D.Source.attached store) t.image.table c.requires.within;
      grows = λ n has. has;
      told = λ some. some;
      kept = kept-same (g.D.Source.tally store);
      counts = same-counts (g.D.Source.tally store);
      boxes = given_boxes t c.into_iter-tile-iterator.result c.tiles_in_box-tile-items.result same c.tiles_in_box-tile-items.ensures.each;
      pixels_read = c.log_law.ensures.none t.pixels_at (pixels_end t) (g.S.Source.ranges c.args.patch.now);
      bytes_kept = keeps_same (IsNoBoxRow t) (g.D.Source.held store) (g.D.Source.held store) (g.D.Source.tally store).amended.writes (g.D.Source.tally store).amended.writes refl refl;
      state = rows_begin t (t.image.table.heap_len - c.args.found.now.bytes) (g.S.Source.held c.args.patch.now) (g.D.Source.held store) (g.D.Source.tally store).amended.writes (sieve_tiles_left c.into_iter-tile-iterator.result)
          tiles (subst (AreAbove 0) tiles (picked_above t.image.plan t.sieve)) c.requires.said;
      described = described_none t c.args.found.now (t.image.table.heap_len - c.args.found.now.bytes) (g.D.Source.held store) (g.D.Source.tally store).amended.writes;
    }

pub prepare_tile-requires-clause-within : goal.prepare_tile-requires-clause-within
prepare_tile-requires-clause-within g c κs within =
    reach_table (g.D.Source.attached c.loop-tile.store) c.args.target.now.image.table (λ n is. g.met.D.Source.near c.loop-tile.store n is) c.loop-tile.invariant.reach

pub prepare_tile-requires-clause-tile : goal.prepare_tile-requires-clause-tile
prepare_tile-requires-clause-tile g c κs within =
    next_box c.args.target.now c.in-Some.tile (sieve_tiles_left c.loop-tile.tile-iterator) (sieve_tiles_left c.next.new.self) c.in-Some.ensures.steps c.loop-tile.invariant.boxes

pub code_slot-slot-requires-clause-code : goal.code_slot-slot-requires-clause-code
code_slot-slot-requires-clause-code g c =
    (c.in-Some.tile, c.in_ok-prepare_tile.ensures.code)

pub write_tile-requires-clause-tile : goal.write_tile-requires-clause-tile
write_tile-requires-clause-tile g c =
    row_of_tile c.args.target.now c.in-Some.tile c.requires.target
    (next_box c.args.target.now c.in-Some.tile (sieve_tiles_left c.loop-tile.tile-iterator) (sieve_tiles_left c.next.new.self) c.in-Some.ensures.steps c.loop-tile.invariant.boxes)

pub write_tile-requires-clause-heap : goal.write_tile-requires-clause-heap
write_tile-requires-clause-heap g c =
    omega (arith, c.requires.room, c.loop-tile.invariant.high)

pub write_tile-requires-clause-reach : goal.write_tile-requires-clause-reach
write_tile-requires-clause-reach g c =
    let t = c.args.target.now in
    let held : Option (List ℕ) = g.D.Source.held c.args.store.now in
    let given : Option (List ℕ) = g.S.Source.held c.args.patch.now in
    let log : Option (List Amend) = (g.D.Source.tally c.args.store.now).amended.writes in
    let old = c.loop-tile.invariant in
    let state = old.state in
    let offset : ℕ = c.loop-tile.offset in
    let start : ℕ = t.image.table.heap_len - c.args.found.now.bytes in
    let left : List ℕ = sieve_tiles_left c.loop-tile.tile-iterator in
    let now = c.loop-tile.store in
    let tile : ℕ = c.in-Some.tile in
    let after : List ℕ = sieve_tiles_left c.next.new.self in
    let next : left ≡ tile ∷ after = c.in-Some.ensures.steps in
    let box = next_box t tile left after next old.boxes in
    let low = not_below state.next tile left after next state.above in
    let parts = state.parts ∙ ap (λ l. state.front ++ l) next in
    let less = row_of_tile t tile c.requires.target box in
    let read = c.prepare_tile.new.store in
    let back = c.has_bytes.new.source in
    at-least (g.D.Source.attached back) (heap_end_of t) (row_start t.image.table tile)
    (subst (λ (a : Option ℕ). HasAtLeast a (heap_end_of t)) (sym (c.in_ok-is_there.ensures.source.attached_is ∙ c.in_ok-prepare_tile.ensures.stays.0.attached_is)) old.reach)
    (row_in_file t tile c.requires.target less)

-- ---- what is compared lies in the file

pub has_bytes-requires-clause-within : goal.has_bytes-requires-clause-within
has_bytes-requires-clause-within g c =
    let t = c.args.target.now in
    let reach = c.loop-tile.invariant.reach in
    at-least (g.D.Source.attached c.prepare_tile.new.store) (heap_end_of t) _ (subst (λ (a : Option ℕ). HasAtLeast a (heap_end_of t)) (sym c.in_ok-prepare_tile.ensures.stays.0.attached_is) reach)
    (omega (arith, c.code_in.ensures.count, c.if-count-room.false, c.loop-tile.invariant.high, c.from-count.ensures))

pub has_bytes-requires-clause-near : goal.has_bytes-requires-clause-near
has_bytes-requires-clause-near g c =
    let t = c.args.target.now in
    let reach = c.loop-tile.invariant.reach in
    let near = g.met.D.Source.near c.loop-tile.store reach.0 reach.1 in
    omega (arith, near, reach.2, c.code_in.ensures.count, c.if-count-room.false, c.loop-tile.invariant.high, c.from-count.ensures)

pub has_bytes-requires-clause-piece : goal.has_bytes-requires-clause-piece
has_bytes-requires-clause-piece g c = omega (arith, c.requires.copy, c.loop-tile.invariant.copy, c.in_ok-prepare_tile.ensures.stays.3)

pub loop-tile-preserved : goal.loop-tile-preserved
loop-tile-preserved g c =
    let t = c.args.target.now in
    let held : Option (List ℕ) = g.D.Source.held c.args.store.now in
    let given : Option (List ℕ) = g.S.Source.held c.args.patch.now in
    let log : Option (List Amend) = (g.D.Source.tally c.args.store.now).amended.writes in
    let old = c.loop-tile.invariant in
    let state = old.state in
    let offset : ℕ = c.loop-tile.offset in
    let start : ℕ = t.image.table.heap_len - c.args.found.now.bytes in
    let left : List ℕ = sieve_tiles_left c.loop-tile.tile-iterator in
    let now = c.loop-tile.store in
    let tile : ℕ = c.in-Some.tile in
    let after : List ℕ = sieve_tiles_left c.next.new.self in
    let next : left ≡ tile ∷ after = c.in-Some.ensures.steps in
    let box = next_box t tile left after next old.boxes in
    let low = not_below state.next tile left after next state.above in
    let parts = state.parts ∙ ap (λ l. state.front ++ l) next in
    let less = row_of_tile t tile c.requires.target box in
    let read = c.prepare_tile.new.store in
    let w : Pool = c.prepare_tile.new.window in
    let slot = c.code_slot-slot.result.now in
    let done = c.in_ok-prepare_tile.ensures in
    let new : IfBoth (g.D.Source.held now) given (λ f p. (corner : List ℕ) → IsGivenTo corner p t → HasNewCode f t.header t.image.plan (given_at corner p) tile w) =
    subst (λ (s : Option (List ℕ)). IfBoth (g.D.Source.held now) s (λ f p. (corner : List ℕ) → IsGivenTo corner p t → HasNewCode f t.header t.image.plan (given_at corner p) tile w)) old.given done.new in
    let bytes : List ℕ = row_of (plan_to_write t) offset (coded_tile slot) in
    let put = c.in_ok-write_tile.ensures in
    let new_store = c.write_tile.new.store in
    let seen = c.in_ok-is_there.ensures in
    let back = c.has_bytes.new.source in
    let same_counts = same-is (g.D.Source.tally now) (g.D.Source.tally back) (seen.cause.ok ∙ done.cause.ok.0) in
    let held_is : g.D.Source.held back ≡ g.D.Source.held now = seen.source.held_is ∙ done.stays.0.held_is in
    let attached_is : g.D.Source.attached back ≡ g.D.Source.attached now = seen.source.attached_is ∙ done.stays.0.attached_is in
    let logged : (g.D.Source.tally back).amended.writes ≡ (g.D.Source.tally now).amended.writes =
    read_writes (g.D.Source.tally read) (g.D.Source.tally back) seen.cause.kept ∙ read_writes (g.D.Source.tally now) (g.D.Source.tally read) done.cause.store_kept in
    let made : g.D.Source.held new_store ≡ written (row_start t.image.table tile) bytes (g.D.Source.held now) = put.amended ∙ ap (written (row_start t.image.table tile) bytes) held_is in
    let code : TileCode = coded_tile slot in
    let size : length code.bytes ≡ slot.job.len = ap length (sym c.code_in.ensures.bytes) ∙ c.code_in.ensures.count in
    let is_there : c.in_ok-is_there.is_there ≡ true = search rules in
    let found : IfSome (g.D.Source.held now) (λ f. true ≡ has_bytes f (t.image.table.heap_at + offset) code.bytes) =
    subst (λ (h : Option (List ℕ)). IfSome h (λ f. true ≡ has_bytes f (t.image.table.heap_at + offset) code.bytes)) done.stays.0.held_is
    (subst (λ b. IfSome (g.D.Source.held read) (λ f. b ≡ has_bytes f (t.image.table.heap_at + offset) code.bytes)) is_there
    (subst (λ l. IfSome (g.D.Source.held read) (λ f. c.in_ok-is_there.is_there ≡ has_bytes f (t.image.table.heap_at + offset) l)) c.code_in.ensures.bytes c.in_ok-is_there.ensures.same)) in
    let few : is_measured t.image.plan c.args.found.now code ≡ true = search rules in
    let within : offset + length code.bytes ≤ t.image.table.heap_len = omega (arith, size, c.if-count-room.false, old.high, c.from-count.ensures) in
    record {
      given = done.stays.1.held_is ∙ old.given;
      given_len = done.stays.1.attached_is ∙ old.given_len;
      given_told = λ told. done.stays.1.told (old.given_told told);
      given_tally = done.cause.ok.1 ∙ old.given_tally;
      window = record { sizes = done.stays.2.sizes ∙ old.window.sizes; workers = done.stays.2.workers ∙ old.window.workers };
      copy = seen.piece ∙ done.stays.3 ∙ old.copy;
      high = omega (arith, old.high);
      reach = put.reach (heap_end_of t) (subst (λ (a : Option ℕ). HasAtLeast a (heap_end_of t)) (sym attached_is) old.reach);
      grows = reach-then _ _ _ old.grows (reach-then _ _ _ (reach-is _ _ attached_is) put.reach);
      told = told-then _ _ _ old.told (told-then _ _ _ (told-is _ _ held_is) (told-written _ _ _ _ put.amended));
      kept = kept-then _ _ _ old.kept (kept-then _ _ _ (kept-read _ _ done.cause.store_kept) (kept-then _ _ _ (kept-read _ _ seen.cause.kept) put.cause.kept));
      counts = same-then _ _ _ old.counts (same-then _ _ _ same_counts (same-amended _ _ _ put.cause.ok));
      boxes = later_boxes t tile left after next old.boxes;
      pixels_read = c.log_law.ensures.both t.pixels_at (pixels_end t) (g.S.Source.ranges c.args.patch.now) (g.S.Source.ranges c.loop-tile.patch) (g.S.Source.ranges c.prepare_tile.new.patch) old.pixels_read done.pixels_read;
      bytes_kept = keeps_then (IsNoBoxRow t) held (g.D.Source.held now) (g.D.Source.held new_store) log (g.D.Source.tally now).amended.writes (g.D.Source.tally new_store).amended.writes old.bytes_kept
          (keeps_one c.places_law.ensures.outside c.places_law.ensures.long (IsNoBoxRow t) (amend_of (row_start t.image.table tile) bytes) (g.D.Source.held now) (g.D.Source.held new_store) (g.D.Source.tally now).amended.writes
          (g.D.Source.tally new_store).amended.writes (λ i not. row_outside t.image.table _ state.front after tile bytes i parts put.count not) made (ap (λ (k : Tally). k.amended.writes) put.cause.ok ∙ ap (with_write (amend_of (row_start t.image.table tile) bytes)) logged));
      state = subst (λ k. RowsState t start given held (g.D.Source.held new_store) log (g.D.Source.tally new_store).amended.writes after (offset + k)) (sym c.from-count.ensures)
          (rows_go_on t start given held (g.D.Source.held now) (g.D.Source.held new_store) log (g.D.Source.tally now).amended.writes (g.D.Source.tally new_store).amended.writes tile after offset bytes slot.job.len w
          c.requires.target less (omega (arith, put.count, row_some t c.requires.target)) put.count
          (told_long (g.D.Source.held now) (g.D.Source.attached now) (row_start t.image.table tile) (λ n is. g.met.D.Source.agrees now n is)
          (at-least (g.D.Source.attached now) (heap_end_of t) (row_start t.image.table tile) old.reach (row_in_file t tile c.requires.target less))) c.requires.said new
          (λ code has. (ap (row_of (plan_to_write t) offset) (first_has w slot code c.code_slot-slot.ensures.first has).0, (first_has w slot code c.code_slot-slot.ensures.first has).1))
          made (ap (λ (k : Tally). k.amended.writes) put.cause.ok ∙ ap (with_write (amend_of (row_start t.image.table tile) bytes)) logged)
          (subst (λ (l : List ℕ). RowsState t start given held (g.D.Source.held now) log (g.D.Source.tally now).amended.writes l offset) next state));
      described = subst (λ k. AreDescribed t c.args.found.now start held (g.D.Source.held new_store) log (g.D.Source.tally new_store).amended.writes (offset + k)) (size ∙ sym c.from-count.ensures)
          (described_more t c.args.found.now start state.next log (g.D.Source.tally now).amended.writes (g.D.Source.tally new_store).amended.writes tile offset code few held (g.D.Source.held now) (g.D.Source.held new_store) c.requires.said state.still low less within
          found made (ap (λ (k : Tally). k.amended.writes) put.cause.ok ∙ ap (with_write (amend_of (row_start t.image.table tile) bytes)) logged) old.described);
    }

-- ---- a tile is not decoded

pub returns-in_err-prepare_tile-clause-some : goal.returns-in_err-prepare_tile-clause-some
returns-in_err-prepare_tile-clause-some g c =
    let t = c.args.target.now in
    let held : Option (List ℕ) = g.D.Source.held c.args.store.now in
    let given : Option (List ℕ) = g.S.Source.held c.args.patch.now in
    let log : Option (List Amend) = (g.D.Source.tally c.args.store.now).amended.writes in
    let old = c.loop-tile.invariant in
    let state = old.state in
    let offset : ℕ = c.loop-tile.offset in
    let start : ℕ = t.image.table.heap_len - c.args.found.now.bytes in
    let left : List ℕ = sieve_tiles_left c.loop-tile.tile-iterator in
    let now = c.loop-tile.store in
    let read = c.prepare_tile.new.store in
    let stopped = c.in_err-prepare_tile.ensures in
    some_rows_same t start given held (g.D.Source.held now) (g.D.Source.held read) log (g.D.Source.tally now).amended.writes (g.D.Source.tally read).amended.writes
    stopped.stays.0.held_is (read_writes (g.D.Source.tally now) (g.D.Source.tally read) stopped.cause.store_kept)
    (rows_stop t start held given (g.D.Source.held now) log (g.D.Source.tally now).amended.writes state.front left offset state.parts c.requires.said state.have)

pub returns-in_err-prepare_tile-clause-unrefused : goal.returns-in_err-prepare_tile-clause-unrefused
returns-in_err-prepare_tile-clause-unrefused g c =
    let t = c.args.target.now in
    let held : Option (List ℕ) = g.D.Source.held c.args.store.now in
    let given : Option (List ℕ) = g.S.Source.held c.args.patch.now in
    let log : Option (List Amend) = (g.D.Source.tally c.args.store.now).amended.writes in
    let old = c.loop-tile.invariant in
    let state = old.state in
    let offset : ℕ = c.loop-tile.offset in
    let start : ℕ = t.image.table.heap_len - c.args.found.now.bytes in
    let left : List ℕ = sieve_tiles_left c.loop-tile.tile-iterator in
    let now = c.loop-tile.store in
    let tile : ℕ = c.in-Some.tile in
    let after : List ℕ = sieve_tiles_left c.next.new.self in
    let next : left ≡ tile ∷ after = c.in-Some.ensures.steps in
    let box = next_box t tile left after next old.boxes in
    let low = not_below state.next tile left after next state.above in
    let parts = state.parts ∙ ap (λ l. state.front ++ l) next in
    let less = row_of_tile t tile c.requires.target box in
    let read = c.prepare_tile.new.store in
    let stop : Stop = c.in_err-prepare_tile.field-0.0 in
    let stopped : c.from_residual.result ≡ Err stop = search rules in
    subst (λ (r : Result (Unit {0}) Stop). UnrefusedRows t c.args.found.now held given r) (sym stopped)
    (also_rows t c.args.found.now held given (Err stop) (by_numbers t c.args.found.now.bytes held given (Err stop)
    (λ refused. later_row_refused t start state.next held given (g.D.Source.held now) log (g.D.Source.tally now).amended.writes state.front tile after offset c.requires.target parts low less c.requires.said state.still state.have
    (c.in_err-prepare_tile.ensures.unrefused refused))))

pub returns-in_err-prepare_tile-clause-late : goal.returns-in_err-prepare_tile-clause-late
returns-in_err-prepare_tile-clause-late g c =
    let stop : Stop = c.in_err-prepare_tile.field-0.0 in
    let stopped : c.from_residual.result ≡ Err stop = search rules in
    subst (λ (r : Result (Unit {0}) Stop). IfRefused r (ComesInWork c.args.target.now.header.hdu)) (sym stopped)
    (refused_weaker {X = Unit {0}} (Err stop) (λ x row. inl (_, row)) c.in_err-prepare_tile.ensures.row)

pub returns-in_err-prepare_tile-clause-reach : goal.returns-in_err-prepare_tile-clause-reach
returns-in_err-prepare_tile-clause-reach g c =
    reach-then _ _ _ c.loop-tile.invariant.grows (reach-is _ _ c.in_err-prepare_tile.ensures.stays.0.attached_is)

pub returns-in_err-prepare_tile-clause-cause : goal.returns-in_err-prepare_tile-clause-cause
returns-in_err-prepare_tile-clause-cause g c =
    let old = c.loop-tile.invariant in
    let stop : Stop = c.in_err-prepare_tile.field-0.0 in
    let stopped : c.from_residual.result ≡ Err stop = search rules in
    let s = g.D.Source.tally c.args.store.now in
    let p = g.S.Source.tally c.args.patch.now in
    subst (λ (r : Result (Unit {0}) Stop). Patches s (g.D.Source.tally c.prepare_tile.new.store) p (g.S.Source.tally c.prepare_tile.new.patch) r) (sym stopped)
    (tile_patches s (g.D.Source.tally c.loop-tile.store) (g.D.Source.tally c.prepare_tile.new.store) p (g.S.Source.tally c.loop-tile.patch) (g.S.Source.tally c.prepare_tile.new.patch) (Err stop)
    old.kept old.counts old.given_tally c.in_err-prepare_tile.ensures.cause)

pub returns-in_err-prepare_tile-clause-described : goal.returns-in_err-prepare_tile-clause-described
returns-in_err-prepare_tile-clause-described g c =
    let t = c.args.target.now in
    let held : Option (List ℕ) = g.D.Source.held c.args.store.now in
    let log : Option (List Amend) = (g.D.Source.tally c.args.store.now).amended.writes in
    let old = c.loop-tile.invariant in
    let offset : ℕ = c.loop-tile.offset in
    let start : ℕ = t.image.table.heap_len - c.args.found.now.bytes in
    let now = c.loop-tile.store in
    let read = c.prepare_tile.new.store in
    let stopped = c.in_err-prepare_tile.ensures in
    described_stop t c.args.found.now start held (g.D.Source.held now) (g.D.Source.held read) log (g.D.Source.tally now).amended.writes (g.D.Source.tally read).amended.writes offset (stopped.stays.0.held_is) (read_writes (g.D.Source.tally now) (g.D.Source.tally read) stopped.cause.store_kept) old.described

-- ---- a code is longer than what is left for it

pub returns-then-count-room-clause-some : goal.returns-then-count-room-clause-some
returns-then-count-room-clause-some g c =
    let t = c.args.target.now in
    let held : Option (List ℕ) = g.D.Source.held c.args.store.now in
    let given : Option (List ℕ) = g.S.Source.held c.args.patch.now in
    let log : Option (List Amend) = (g.D.Source.tally c.args.store.now).amended.writes in
    let old = c.loop-tile.invariant in
    let state = old.state in
    let offset : ℕ = c.loop-tile.offset in
    let start : ℕ = t.image.table.heap_len - c.args.found.now.bytes in
    let left : List ℕ = sieve_tiles_left c.loop-tile.tile-iterator in
    let now = c.loop-tile.store in
    let read = c.prepare_tile.new.store in
    let stopped = c.in_ok-prepare_tile.ensures in
    some_rows_same t start given held (g.D.Source.held now) (g.D.Source.held read) log (g.D.Source.tally now).amended.writes (g.D.Source.tally read).amended.writes
    stopped.stays.0.held_is (read_writes (g.D.Source.tally now) (g.D.Source.tally read) stopped.cause.store_kept)
    (rows_stop t start held given (g.D.Source.held now) log (g.D.Source.tally now).amended.writes state.front left offset state.parts c.requires.said state.have)

pub returns-then-count-room-clause-unrefused : goal.returns-then-count-room-clause-unrefused
returns-then-count-room-clause-unrefused g c =
    let t = c.args.target.now in
    let held : Option (List ℕ) = g.D.Source.held c.args.store.now in
    let given : Option (List ℕ) = g.S.Source.held c.args.patch.now in
    let log : Option (List Amend) = (g.D.Source.tally c.args.store.now).amended.writes in
    let old = c.loop-tile.invariant in
    let state = old.state in
    let offset : ℕ = c.loop-tile.offset in
    let start : ℕ = t.image.table.heap_len - c.args.found.now.bytes in
    let left : List ℕ = sieve_tiles_left c.loop-tile.tile-iterator in
    let now = c.loop-tile.store in
    let tile : ℕ = c.in-Some.tile in
    let after : List ℕ = sieve_tiles_left c.next.new.self in
    let next : left ≡ tile ∷ after = c.in-Some.ensures.steps in
    let box = next_box t tile left after next old.boxes in
    let low = not_below state.next tile left after next state.above in
    let parts = state.parts ∙ ap (λ l. state.front ++ l) next in
    let less = row_of_tile t tile c.requires.target box in
    let read = c.prepare_tile.new.store in
    let w : Pool = c.prepare_tile.new.window in
    let slot = c.code_slot-slot.result.now in
    let done = c.in_ok-prepare_tile.ensures in
    let new : IfBoth (g.D.Source.held now) given (λ f p. (corner : List ℕ) → IsGivenTo corner p t → HasNewCode f t.header t.image.plan (given_at corner p) tile w) =
    subst (λ (s : Option (List ℕ)). IfBoth (g.D.Source.held now) s (λ f p. (corner : List ℕ) → IsGivenTo corner p t → HasNewCode f t.header t.image.plan (given_at corner p) tile w)) old.given done.new in
    also_rows {X = Unit {0}} t c.args.found.now held given (Err c.changed.result) (by_fit {X = Unit {0}} t c.args.found.now.bytes held given (Err c.changed.result)
    (row_too_long t start c.args.found.now.bytes state.next held given (g.D.Source.held now) log (g.D.Source.tally now).amended.writes state.front tile after offset slot.job.len w c.requires.target parts low less c.requires.said
    state.still state.have new (λ code has. (first_has w slot code c.code_slot-slot.ensures.first has).1) (omega (arith, c.requires.heap, old.high))))

pub returns-then-count-room-clause-reach : goal.returns-then-count-room-clause-reach
returns-then-count-room-clause-reach g c =
    reach-then _ _ _ c.loop-tile.invariant.grows (reach-is _ _ c.in_ok-prepare_tile.ensures.stays.0.attached_is)

pub returns-then-count-room-clause-cause : goal.returns-then-count-room-clause-cause
returns-then-count-room-clause-cause g c =
    let old = c.loop-tile.invariant in
    let done = c.in_ok-prepare_tile.ensures in
    let s = g.D.Source.tally c.args.store.now in
    let s' = g.D.Source.tally c.loop-tile.store in
    let s'' = g.D.Source.tally c.prepare_tile.new.store in
    let p = g.S.Source.tally c.args.patch.now in
    let p' = g.S.Source.tally c.prepare_tile.new.patch in
    subst (λ (stop : Stop). Patches {X = Unit {0}} s s'' p p' (Err stop)) (sym c.changed.ensures)
    (refused_patches s s'' p p' _ (kept-then s s' s'' old.kept (kept-read s' s'' done.cause.store_kept)) (same-then s s' s'' old.counts (same-is s' s'' done.cause.ok.0)) (done.cause.ok.1 ∙ old.given_tally))

pub returns-then-count-room-clause-described : goal.returns-then-count-room-clause-described
returns-then-count-room-clause-described g c =
    let t = c.args.target.now in
    let held : Option (List ℕ) = g.D.Source.held c.args.store.now in
    let log : Option (List Amend) = (g.D.Source.tally c.args.store.now).amended.writes in
    let old = c.loop-tile.invariant in
    let offset : ℕ = c.loop-tile.offset in
    let start : ℕ = t.image.table.heap_len - c.args.found.now.bytes in
    let now = c.loop-tile.store in
    let read = c.prepare_tile.new.store in
    let done = c.in_ok-prepare_tile.ensures in
    described_stop t c.args.found.now start held (g.D.Source.held now) (g.D.Source.held read) log (g.D.Source.tally now).amended.writes (g.D.Source.tally read).amended.writes offset (done.stays.0.held_is) (read_writes (g.D.Source.tally now) (g.D.Source.tally read) done.cause.store_kept) old.described

-- ---- a code has more elements than was measured

pub returns-then-not-is_measured-clause-some : goal.returns-then-not-is_measured-clause-some
returns-then-not-is_measured-clause-some g c =
    let t = c.args.target.now in
    let held : Option (List ℕ) = g.D.Source.held c.args.store.now in
    let given : Option (List ℕ) = g.S.Source.held c.args.patch.now in
    let log : Option (List Amend) = (g.D.Source.tally c.args.store.now).amended.writes in
    let old = c.loop-tile.invariant in
    let state = old.state in
    let offset : ℕ = c.loop-tile.offset in
    let start : ℕ = t.image.table.heap_len - c.args.found.now.bytes in
    let left : List ℕ = sieve_tiles_left c.loop-tile.tile-iterator in
    let now = c.loop-tile.store in
    let read = c.prepare_tile.new.store in
    let stopped = c.in_ok-prepare_tile.ensures in
    some_rows_same t start given held (g.D.Source.held now) (g.D.Source.held read) log (g.D.Source.tally now).amended.writes (g.D.Source.tally read).amended.writes
    stopped.stays.0.held_is (read_writes (g.D.Source.tally now) (g.D.Source.tally read) stopped.cause.store_kept)
    (rows_stop t start held given (g.D.Source.held now) log (g.D.Source.tally now).amended.writes state.front left offset state.parts c.requires.said state.have)

pub returns-then-not-is_measured-clause-unrefused : goal.returns-then-not-is_measured-clause-unrefused
returns-then-not-is_measured-clause-unrefused g c =
    let t = c.args.target.now in
    let held : Option (List ℕ) = g.D.Source.held c.args.store.now in
    let given : Option (List ℕ) = g.S.Source.held c.args.patch.now in
    let log : Option (List Amend) = (g.D.Source.tally c.args.store.now).amended.writes in
    let old = c.loop-tile.invariant in
    let state = old.state in
    let offset : ℕ = c.loop-tile.offset in
    let start : ℕ = t.image.table.heap_len - c.args.found.now.bytes in
    let left : List ℕ = sieve_tiles_left c.loop-tile.tile-iterator in
    let now = c.loop-tile.store in
    let tile : ℕ = c.in-Some.tile in
    let after : List ℕ = sieve_tiles_left c.next.new.self in
    let next : left ≡ tile ∷ after = c.in-Some.ensures.steps in
    let box = next_box t tile left after next old.boxes in
    let low = not_below state.next tile left after next state.above in
    let parts = state.parts ∙ ap (λ l. state.front ++ l) next in
    let less = row_of_tile t tile c.requires.target box in
    let read = c.prepare_tile.new.store in
    let w : Pool = c.prepare_tile.new.window in
    let slot = c.code_slot-slot.result.now in
    let done = c.in_ok-prepare_tile.ensures in
    let new : IfBoth (g.D.Source.held now) given (λ f p. (corner : List ℕ) → IsGivenTo corner p t → HasNewCode f t.header t.image.plan (given_at corner p) tile w) =
    subst (λ (s : Option (List ℕ)). IfBoth (g.D.Source.held now) s (λ f p. (corner : List ℕ) → IsGivenTo corner p t → HasNewCode f t.header t.image.plan (given_at corner p) tile w)) old.given done.new in
    let other : is_measured t.image.plan c.args.found.now (coded_tile slot) ≡ false = search rules in
    by_heap {X = Unit {0}} t c.args.found.now held given (Err c.changed-then-not-is_measured.result)
    (row_unmeasured t start state.next c.args.found.now held given (g.D.Source.held now) log (g.D.Source.tally now).amended.writes state.front tile after offset (coded_tile slot) w c.requires.target parts low less c.requires.said
    state.still state.have new (λ code has. (first_has w slot code c.code_slot-slot.ensures.first has).0) other)

pub returns-then-not-is_measured-clause-reach : goal.returns-then-not-is_measured-clause-reach
returns-then-not-is_measured-clause-reach g c =
    reach-then _ _ _ c.loop-tile.invariant.grows (reach-is _ _ c.in_ok-prepare_tile.ensures.stays.0.attached_is)

pub returns-then-not-is_measured-clause-cause : goal.returns-then-not-is_measured-clause-cause
returns-then-not-is_measured-clause-cause g c =
    let old = c.loop-tile.invariant in
    let done = c.in_ok-prepare_tile.ensures in
    let s = g.D.Source.tally c.args.store.now in
    let s' = g.D.Source.tally c.loop-tile.store in
    let s'' = g.D.Source.tally c.prepare_tile.new.store in
    let p = g.S.Source.tally c.args.patch.now in
    let p' = g.S.Source.tally c.prepare_tile.new.patch in
    subst (λ (stop : Stop). Patches {X = Unit {0}} s s'' p p' (Err stop)) (sym c.changed-then-not-is_measured.ensures)
    (refused_patches s s'' p p' _ (kept-then s s' s'' old.kept (kept-read s' s'' done.cause.store_kept)) (same-then s s' s'' old.counts (same-is s' s'' done.cause.ok.0)) (done.cause.ok.1 ∙ old.given_tally))

pub returns-then-not-is_measured-clause-described : goal.returns-then-not-is_measured-clause-described
returns-then-not-is_measured-clause-described g c =
    let t = c.args.target.now in
    let held : Option (List ℕ) = g.D.Source.held c.args.store.now in
    let log : Option (List Amend) = (g.D.Source.tally c.args.store.now).amended.writes in
    let old = c.loop-tile.invariant in
    let offset : ℕ = c.loop-tile.offset in
    let start : ℕ = t.image.table.heap_len - c.args.found.now.bytes in
    let now = c.loop-tile.store in
    let read = c.prepare_tile.new.store in
    let done = c.in_ok-prepare_tile.ensures in
    described_stop t c.args.found.now start held (g.D.Source.held now) (g.D.Source.held read) log (g.D.Source.tally now).amended.writes (g.D.Source.tally read).amended.writes offset (done.stays.0.held_is) (read_writes (g.D.Source.tally now) (g.D.Source.tally read) done.cause.store_kept) old.described

-- ---- a code is not read back

pub returns-in_err-is_there-clause-some : goal.returns-in_err-is_there-clause-some
returns-in_err-is_there-clause-some g c =
    let t = c.args.target.now in
    let held : Option (List ℕ) = g.D.Source.held c.args.store.now in
    let given : Option (List ℕ) = g.S.Source.held c.args.patch.now in
    let log : Option (List Amend) = (g.D.Source.tally c.args.store.now).amended.writes in
    let old = c.loop-tile.invariant in
    let state = old.state in
    let offset : ℕ = c.loop-tile.offset in
    let start : ℕ = t.image.table.heap_len - c.args.found.now.bytes in
    let left : List ℕ = sieve_tiles_left c.loop-tile.tile-iterator in
    let now = c.loop-tile.store in
    let read = c.prepare_tile.new.store in
    let back = c.has_bytes.new.source in
    let done = c.in_ok-prepare_tile.ensures in
    let seen = c.in_err-is_there.ensures in
    some_rows_same t start given held (g.D.Source.held now) (g.D.Source.held back) log (g.D.Source.tally now).amended.writes (g.D.Source.tally back).amended.writes
    (seen.source.held_is ∙ done.stays.0.held_is) (read_writes (g.D.Source.tally read) (g.D.Source.tally back) seen.cause.kept ∙ read_writes (g.D.Source.tally now) (g.D.Source.tally read) done.cause.store_kept)
    (rows_stop t start held given (g.D.Source.held now) log (g.D.Source.tally now).amended.writes state.front left offset state.parts c.requires.said state.have)

pub returns-in_err-is_there-clause-unrefused : goal.returns-in_err-is_there-clause-unrefused
returns-in_err-is_there-clause-unrefused g c =
    let t = c.args.target.now in
    let held : Option (List ℕ) = g.D.Source.held c.args.store.now in
    let given : Option (List ℕ) = g.S.Source.held c.args.patch.now in
    let stop : Stop = c.in_err-is_there.field-0.0 in
    let stopped : c.from_residual-in_err-is_there.result ≡ Err stop = search rules in
    let read = g.D.Source.tally c.prepare_tile.new.store in
    let back = g.D.Source.tally c.has_bytes.new.source in
    let never = amends_unrefused {X = Unit {0}} read back (Err stop) (read-amends read back (Err stop) (record { kept = c.in_err-is_there.ensures.cause.kept; ok = tt; stop = c.in_err-is_there.ensures.cause.stop })) in
    subst (λ (r : Result (Unit {0}) Stop). UnrefusedRows t c.args.found.now held given r) (sym stopped)
    (also_rows t c.args.found.now held given (Err stop) (by_stop t c.args.found.now.bytes held given (Err stop) never))

pub returns-in_err-is_there-clause-late : goal.returns-in_err-is_there-clause-late
returns-in_err-is_there-clause-late g c =
    let stop : Stop = c.in_err-is_there.field-0.0 in
    let stopped : c.from_residual-in_err-is_there.result ≡ Err stop = search rules in
    let read = g.D.Source.tally c.prepare_tile.new.store in
    let back = g.D.Source.tally c.has_bytes.new.source in
    subst (λ (r : Result (Unit {0}) Stop). IfRefused r (ComesInWork c.args.target.now.header.hdu)) (sym stopped)
    (none_refused {X = Unit {0}} _ read back (Err stop) (read-amends read back (Err stop) (record { kept = c.in_err-is_there.ensures.cause.kept; ok = tt; stop = c.in_err-is_there.ensures.cause.stop })))

pub returns-in_err-is_there-clause-reach : goal.returns-in_err-is_there-clause-reach
returns-in_err-is_there-clause-reach g c =
    reach-then _ _ _ c.loop-tile.invariant.grows (reach-is _ _ (c.in_err-is_there.ensures.source.attached_is ∙ c.in_ok-prepare_tile.ensures.stays.0.attached_is))

pub returns-in_err-is_there-clause-cause : goal.returns-in_err-is_there-clause-cause
returns-in_err-is_there-clause-cause g c =
    let old = c.loop-tile.invariant in
    let done = c.in_ok-prepare_tile.ensures in
    let stop : Stop = c.in_err-is_there.field-0.0 in
    let stopped : c.from_residual-in_err-is_there.result ≡ Err stop = search rules in
    let s = g.D.Source.tally c.args.store.now in
    let s' = g.D.Source.tally c.loop-tile.store in
    let s'' = g.D.Source.tally c.prepare_tile.new.store in
    let back = g.D.Source.tally c.has_bytes.new.source in
    let p = g.S.Source.tally c.args.patch.now in
    let p' = g.S.Source.tally c.prepare_tile.new.patch in
    subst (λ (r : Result (Unit {0}) Stop). Patches s back p p' r) (sym stopped)
    (amend_patches s s'' back p p' (Err stop) (kept-then s s' s'' old.kept (kept-read s' s'' done.cause.store_kept)) (same-then s s' s'' old.counts (same-is s' s'' done.cause.ok.0)) (done.cause.ok.1 ∙ old.given_tally)
    (read-amends s'' back (Err stop) (record { kept = c.in_err-is_there.ensures.cause.kept; ok = tt; stop = c.in_err-is_there.ensures.cause.stop })))

pub returns-in_err-is_there-clause-described : goal.returns-in_err-is_there-clause-described
returns-in_err-is_there-clause-described g c =
    let t = c.args.target.now in
    let held : Option (List ℕ) = g.D.Source.held c.args.store.now in
    let log : Option (List Amend) = (g.D.Source.tally c.args.store.now).amended.writes in
    let old = c.loop-tile.invariant in
    let offset : ℕ = c.loop-tile.offset in
    let start : ℕ = t.image.table.heap_len - c.args.found.now.bytes in
    let now = c.loop-tile.store in
    let read = c.prepare_tile.new.store in
    let back = c.has_bytes.new.source in
    let done = c.in_ok-prepare_tile.ensures in
    let seen = c.in_err-is_there.ensures in
    described_stop t c.args.found.now start held (g.D.Source.held now) (g.D.Source.held back) log (g.D.Source.tally now).amended.writes (g.D.Source.tally back).amended.writes offset (seen.source.held_is ∙ done.stays.0.held_is) (read_writes (g.D.Source.tally read) (g.D.Source.tally back) seen.cause.kept ∙ read_writes (g.D.Source.tally now) (g.D.Source.tally read) done.cause.store_kept) old.described

-- ---- another code lies there

pub returns-then-not-is_there-clause-some : goal.returns-then-not-is_there-clause-some
returns-then-not-is_there-clause-some g c =
    let t = c.args.target.now in
    let held : Option (List ℕ) = g.D.Source.held c.args.store.now in
    let given : Option (List ℕ) = g.S.Source.held c.args.patch.now in
    let log : Option (List Amend) = (g.D.Source.tally c.args.store.now).amended.writes in
    let old = c.loop-tile.invariant in
    let state = old.state in
    let offset : ℕ = c.loop-tile.offset in
    let start : ℕ = t.image.table.heap_len - c.args.found.now.bytes in
    let left : List ℕ = sieve_tiles_left c.loop-tile.tile-iterator in
    let now = c.loop-tile.store in
    let read = c.prepare_tile.new.store in
    let back = c.has_bytes.new.source in
    let done = c.in_ok-prepare_tile.ensures in
    let seen = c.in_ok-is_there.ensures in
    some_rows_same t start given held (g.D.Source.held now) (g.D.Source.held back) log (g.D.Source.tally now).amended.writes (g.D.Source.tally back).amended.writes
    (seen.source.held_is ∙ done.stays.0.held_is) (read_writes (g.D.Source.tally read) (g.D.Source.tally back) seen.cause.kept ∙ read_writes (g.D.Source.tally now) (g.D.Source.tally read) done.cause.store_kept)
    (rows_stop t start held given (g.D.Source.held now) log (g.D.Source.tally now).amended.writes state.front left offset state.parts c.requires.said state.have)

pub returns-then-not-is_there-clause-unrefused : goal.returns-then-not-is_there-clause-unrefused
returns-then-not-is_there-clause-unrefused g c =
    let t = c.args.target.now in
    let held : Option (List ℕ) = g.D.Source.held c.args.store.now in
    let given : Option (List ℕ) = g.S.Source.held c.args.patch.now in
    let log : Option (List Amend) = (g.D.Source.tally c.args.store.now).amended.writes in
    let old = c.loop-tile.invariant in
    let state = old.state in
    let offset : ℕ = c.loop-tile.offset in
    let start : ℕ = t.image.table.heap_len - c.args.found.now.bytes in
    let left : List ℕ = sieve_tiles_left c.loop-tile.tile-iterator in
    let now = c.loop-tile.store in
    let tile : ℕ = c.in-Some.tile in
    let after : List ℕ = sieve_tiles_left c.next.new.self in
    let next : left ≡ tile ∷ after = c.in-Some.ensures.steps in
    let box = next_box t tile left after next old.boxes in
    let low = not_below state.next tile left after next state.above in
    let parts = state.parts ∙ ap (λ l. state.front ++ l) next in
    let less = row_of_tile t tile c.requires.target box in
    let read = c.prepare_tile.new.store in
    let w : Pool = c.prepare_tile.new.window in
    let slot = c.code_slot-slot.result.now in
    let bytes : List ℕ = c.code_in.result.now in
    let done = c.in_ok-prepare_tile.ensures in
    let new : IfBoth (g.D.Source.held now) given (λ f p. (corner : List ℕ) → IsGivenTo corner p t → HasNewCode f t.header t.image.plan (given_at corner p) tile w) =
    subst (λ (s : Option (List ℕ)). IfBoth (g.D.Source.held now) s (λ f p. (corner : List ℕ) → IsGivenTo corner p t → HasNewCode f t.header t.image.plan (given_at corner p) tile w)) old.given done.new in
    let not_there : c.in_ok-is_there.is_there ≡ false = search rules in
    let end : start + c.args.found.now.bytes ≡ t.image.table.heap_len = omega (arith, c.requires.heap) in
    let other : IfSome (g.D.Source.held now) (λ f. false ≡ has_bytes f (t.image.table.heap_at + offset) bytes) =
    subst (λ (h : Option (List ℕ)). IfSome h (λ f. false ≡ has_bytes f (t.image.table.heap_at + offset) bytes)) done.stays.0.held_is
    (subst (λ b. IfSome (g.D.Source.held read) (λ f. b ≡ has_bytes f (t.image.table.heap_at + offset) bytes)) not_there c.in_ok-is_there.ensures.same) in
    by_heap {X = Unit {0}} t c.args.found.now held given (Err c.changed-then-not-is_there.result)
    (row_other t start state.next c.args.found.now held given (g.D.Source.held now) log (g.D.Source.tally now).amended.writes state.front tile after offset bytes w c.requires.target parts low less c.requires.said
    state.still state.have new (λ code has. c.code_in.ensures.bytes ∙ ap (λ (e : TileCode). e.bytes) (first_has w slot code c.code_slot-slot.ensures.first has).0) end other)

pub returns-then-not-is_there-clause-reach : goal.returns-then-not-is_there-clause-reach
returns-then-not-is_there-clause-reach g c =
    reach-then _ _ _ c.loop-tile.invariant.grows (reach-is _ _ (c.in_ok-is_there.ensures.source.attached_is ∙ c.in_ok-prepare_tile.ensures.stays.0.attached_is))

pub returns-then-not-is_there-clause-cause : goal.returns-then-not-is_there-clause-cause
returns-then-not-is_there-clause-cause g c =
    let old = c.loop-tile.invariant in
    let done = c.in_ok-prepare_tile.ensures in
    let seen = c.in_ok-is_there.ensures in
    let s = g.D.Source.tally c.args.store.now in
    let s' = g.D.Source.tally c.loop-tile.store in
    let s'' = g.D.Source.tally c.prepare_tile.new.store in
    let back = g.D.Source.tally c.has_bytes.new.source in
    let p = g.S.Source.tally c.args.patch.now in
    let p' = g.S.Source.tally c.prepare_tile.new.patch in
    subst (λ (stop : Stop). Patches {X = Unit {0}} s back p p' (Err stop)) (sym c.changed-then-not-is_there.ensures)
    (refused_patches s back p p' _ (kept-then s s' back old.kept (kept-then s' s'' back (kept-read s' s'' done.cause.store_kept) (kept-read s'' back seen.cause.kept)))
    (same-then s s' back old.counts (same-is s' back (seen.cause.ok ∙ done.cause.ok.0))) (done.cause.ok.1 ∙ old.given_tally))

pub returns-then-not-is_there-clause-described : goal.returns-then-not-is_there-clause-described
returns-then-not-is_there-clause-described g c =
    let t = c.args.target.now in
    let held : Option (List ℕ) = g.D.Source.held c.args.store.now in
    let log : Option (List Amend) = (g.D.Source.tally c.args.store.now).amended.writes in
    let old = c.loop-tile.invariant in
    let offset : ℕ = c.loop-tile.offset in
    let start : ℕ = t.image.table.heap_len - c.args.found.now.bytes in
    let now = c.loop-tile.store in
    let read = c.prepare_tile.new.store in
    let back = c.has_bytes.new.source in
    let done = c.in_ok-prepare_tile.ensures in
    let seen = c.in_ok-is_there.ensures in
    described_stop t c.args.found.now start held (g.D.Source.held now) (g.D.Source.held back) log (g.D.Source.tally now).amended.writes (g.D.Source.tally back).amended.writes offset (seen.source.held_is ∙ done.stays.0.held_is) (read_writes (g.D.Source.tally read) (g.D.Source.tally back) seen.cause.kept ∙ read_writes (g.D.Source.tally now) (g.D.Source.tally read) done.cause.store_kept) old.described

-- ---- a row is not written

pub returns-in_err-write_tile-clause-some : goal.returns-in_err-write_tile-clause-some
returns-in_err-write_tile-clause-some g c =
    let t = c.args.target.now in
    let held : Option (List ℕ) = g.D.Source.held c.args.store.now in
    let given : Option (List ℕ) = g.S.Source.held c.args.patch.now in
    let log : Option (List Amend) = (g.D.Source.tally c.args.store.now).amended.writes in
    let old = c.loop-tile.invariant in
    let state = old.state in
    let offset : ℕ = c.loop-tile.offset in
    let start : ℕ = t.image.table.heap_len - c.args.found.now.bytes in
    let left : List ℕ = sieve_tiles_left c.loop-tile.tile-iterator in
    let now = c.loop-tile.store in
    let tile : ℕ = c.in-Some.tile in
    let after : List ℕ = sieve_tiles_left c.next.new.self in
    let next : left ≡ tile ∷ after = c.in-Some.ensures.steps in
    let box = next_box t tile left after next old.boxes in
    let low = not_below state.next tile left after next state.above in
    let parts = state.parts ∙ ap (λ l. state.front ++ l) next in
    let less = row_of_tile t tile c.requires.target box in
    let read = c.prepare_tile.new.store in
    let w : Pool = c.prepare_tile.new.window in
    let slot = c.code_slot-slot.result.now in
    let done = c.in_ok-prepare_tile.ensures in
    let new : IfBoth (g.D.Source.held now) given (λ f p. (corner : List ℕ) → IsGivenTo corner p t → HasNewCode f t.header t.image.plan (given_at corner p) tile w) =
    subst (λ (s : Option (List ℕ)). IfBoth (g.D.Source.held now) s (λ f p. (corner : List ℕ) → IsGivenTo corner p t → HasNewCode f t.header t.image.plan (given_at corner p) tile w)) old.given done.new in
    let bytes : List ℕ = row_of (plan_to_write t) offset (coded_tile slot) in
    let put = c.in_err-write_tile.ensures in
    let new_store = c.write_tile.new.store in
    let seen = c.in_ok-is_there.ensures in
    let back = c.has_bytes.new.source in
    rows_failed t start held given (g.D.Source.held now) (g.D.Source.held new_store) log (g.D.Source.tally now).amended.writes (g.D.Source.tally new_store).amended.writes state.front tile after state.next offset bytes slot.job.len w
    c.requires.target parts low less c.requires.said state.still new
    (λ code has. (ap (row_of (plan_to_write t) offset) (first_has w slot code c.code_slot-slot.ensures.first has).0, (first_has w slot code c.code_slot-slot.ensures.first has).1))
    (subst (λ (h : Option (List ℕ)). MayAmend (row_start t.image.table tile) (length bytes) h (g.D.Source.held new_store)) (seen.source.held_is ∙ done.stays.0.held_is) put.partly)
    (put.cause.unlogged ∙ read_writes (g.D.Source.tally read) (g.D.Source.tally back) seen.cause.kept ∙ read_writes (g.D.Source.tally now) (g.D.Source.tally read) done.cause.store_kept) state.have

pub returns-in_err-write_tile-clause-unrefused : goal.returns-in_err-write_tile-clause-unrefused
returns-in_err-write_tile-clause-unrefused g c =
    let stop : Stop = c.in_err-write_tile.field-0.0 in
    let stopped : c.from_residual-in_err-write_tile.result ≡ Err stop = search rules in
    let t = c.args.target.now in
    let held : Option (List ℕ) = g.D.Source.held c.args.store.now in
    let given : Option (List ℕ) = g.S.Source.held c.args.patch.now in
    let back = g.D.Source.tally c.has_bytes.new.source in
    let now = g.D.Source.tally c.write_tile.new.store in
    subst (λ (r : Result (Unit {0}) Stop). UnrefusedRows t c.args.found.now held given r) (sym stopped)
    (also_rows t c.args.found.now held given (Err stop)
    (by_stop t c.args.found.now.bytes held given (Err stop) (amends_unrefused back now (Err stop) (one-amends _ back now (Err stop) c.in_err-write_tile.ensures.cause))))

pub returns-in_err-write_tile-clause-reach : goal.returns-in_err-write_tile-clause-reach
returns-in_err-write_tile-clause-reach g c =
    reach-then _ _ _ c.loop-tile.invariant.grows
    (reach-then _ _ _ (reach-is _ _ (c.in_ok-is_there.ensures.source.attached_is ∙ c.in_ok-prepare_tile.ensures.stays.0.attached_is)) c.in_err-write_tile.ensures.reach)

pub returns-in_err-write_tile-clause-cause : goal.returns-in_err-write_tile-clause-cause
returns-in_err-write_tile-clause-cause g c =
    let old = c.loop-tile.invariant in
    let done = c.in_ok-prepare_tile.ensures in
    let seen = c.in_ok-is_there.ensures in
    let stop : Stop = c.in_err-write_tile.field-0.0 in
    let stopped : c.from_residual-in_err-write_tile.result ≡ Err stop = search rules in
    let s = g.D.Source.tally c.args.store.now in
    let s' = g.D.Source.tally c.loop-tile.store in
    let s'' = g.D.Source.tally c.prepare_tile.new.store in
    let back = g.D.Source.tally c.has_bytes.new.source in
    let now = g.D.Source.tally c.write_tile.new.store in
    let p = g.S.Source.tally c.args.patch.now in
    let p' = g.S.Source.tally c.prepare_tile.new.patch in
    subst (λ (r : Result (Unit {0}) Stop). Patches s now p p' r) (sym stopped)
    (amend_patches s back now p p' (Err stop) (kept-then s s' back old.kept (kept-then s' s'' back (kept-read s' s'' done.cause.store_kept) (kept-read s'' back seen.cause.kept)))
    (same-then s s' back old.counts (same-is s' back (seen.cause.ok ∙ done.cause.ok.0))) (done.cause.ok.1 ∙ old.given_tally) (one-amends _ back now (Err stop) c.in_err-write_tile.ensures.cause))

pub returns-in_err-write_tile-clause-described : goal.returns-in_err-write_tile-clause-described
returns-in_err-write_tile-clause-described g c =
    let t = c.args.target.now in
    let held : Option (List ℕ) = g.D.Source.held c.args.store.now in
    let log : Option (List Amend) = (g.D.Source.tally c.args.store.now).amended.writes in
    let old = c.loop-tile.invariant in
    let offset : ℕ = c.loop-tile.offset in
    let start : ℕ = t.image.table.heap_len - c.args.found.now.bytes in
    let now = c.loop-tile.store in
    let state = old.state in
    let left : List ℕ = sieve_tiles_left c.loop-tile.tile-iterator in
    let tile : ℕ = c.in-Some.tile in
    let after : List ℕ = sieve_tiles_left c.next.new.self in
    let next : left ≡ tile ∷ after = c.in-Some.ensures.steps in
    let low = not_below state.next tile left after next state.above in
    let less = row_of_tile t tile c.requires.target (next_box t tile left after next old.boxes) in
    let read = c.prepare_tile.new.store in
    let back = c.has_bytes.new.source in
    let new_store = c.write_tile.new.store in
    let slot = c.code_slot-slot.result.now in
    let done = c.in_ok-prepare_tile.ensures in
    let seen = c.in_ok-is_there.ensures in
    let put = c.in_err-write_tile.ensures in
    let code : TileCode = coded_tile slot in
    let size : length code.bytes ≡ slot.job.len = ap length (sym c.code_in.ensures.bytes) ∙ c.code_in.ensures.count in
    let is_there : c.in_ok-is_there.is_there ≡ true = search rules in
    let found : IfSome (g.D.Source.held now) (λ f. true ≡ has_bytes f (t.image.table.heap_at + offset) code.bytes) =
    subst (λ (h : Option (List ℕ)). IfSome h (λ f. true ≡ has_bytes f (t.image.table.heap_at + offset) code.bytes)) done.stays.0.held_is
    (subst (λ b. IfSome (g.D.Source.held read) (λ f. b ≡ has_bytes f (t.image.table.heap_at + offset) code.bytes)) is_there
    (subst (λ l. IfSome (g.D.Source.held read) (λ f. c.in_ok-is_there.is_there ≡ has_bytes f (t.image.table.heap_at + offset) l)) c.code_in.ensures.bytes c.in_ok-is_there.ensures.same)) in
    let few : is_measured t.image.plan c.args.found.now code ≡ true = search rules in
    let within : offset + length code.bytes ≤ t.image.table.heap_len = omega (arith, size, c.if-count-room.false, old.high, c.from-count.ensures) in
    let bytes : List ℕ = row_of (plan_to_write t) offset code in
    described_failed t c.args.found.now start state.next log (g.D.Source.tally now).amended.writes (g.D.Source.tally new_store).amended.writes tile offset code few held (g.D.Source.held now) (g.D.Source.held new_store) c.requires.said state.still low less within found
    (subst (λ (h : Option (List ℕ)). MayAmend (row_start t.image.table tile) (length bytes) h (g.D.Source.held new_store)) (seen.source.held_is ∙ done.stays.0.held_is) put.partly)
    (put.cause.unlogged ∙ read_writes (g.D.Source.tally read) (g.D.Source.tally back) seen.cause.kept ∙ read_writes (g.D.Source.tally now) (g.D.Source.tally read) done.cause.store_kept) old.described

-- ---- all codes are shorter than was measured

pub returns-then-offset-end-clause-some : goal.returns-then-offset-end-clause-some
returns-then-offset-end-clause-some g c =
    let t = c.args.target.now in
    let held : Option (List ℕ) = g.D.Source.held c.args.store.now in
    let given : Option (List ℕ) = g.S.Source.held c.args.patch.now in
    let log : Option (List Amend) = (g.D.Source.tally c.args.store.now).amended.writes in
    let old = c.loop-tile.invariant in
    let state = old.state in
    let offset : ℕ = c.loop-tile.offset in
    let start : ℕ = t.image.table.heap_len - c.args.found.now.bytes in
    let left : List ℕ = sieve_tiles_left c.loop-tile.tile-iterator in
    let now = c.loop-tile.store in
    rows_stop t start held given (g.D.Source.held now) log (g.D.Source.tally now).amended.writes state.front left offset state.parts c.requires.said state.have

pub returns-then-offset-end-clause-unrefused : goal.returns-then-offset-end-clause-unrefused
returns-then-offset-end-clause-unrefused g c =
    let t = c.args.target.now in
    let held : Option (List ℕ) = g.D.Source.held c.args.store.now in
    let given : Option (List ℕ) = g.S.Source.held c.args.patch.now in
    let log : Option (List Amend) = (g.D.Source.tally c.args.store.now).amended.writes in
    let old = c.loop-tile.invariant in
    let state = old.state in
    let offset : ℕ = c.loop-tile.offset in
    let start : ℕ = t.image.table.heap_len - c.args.found.now.bytes in
    let left : List ℕ = sieve_tiles_left c.loop-tile.tile-iterator in
    let now = c.loop-tile.store in
    let other : offset ≢ start + c.args.found.now.bytes = λ e. omega (arith, e, c.if-offset-end.true, c.requires.heap) in
    also_rows {X = Unit {0}} t c.args.found.now held given (Err c.changed-then-offset-end.result) (by_fit {X = Unit {0}} t c.args.found.now.bytes held given (Err c.changed-then-offset-end.result)
    (rows_too_short t start c.args.found.now.bytes held given (g.D.Source.held now) log (g.D.Source.tally now).amended.writes state.front offset (all_taken _ state.front left c.in-None.ensures.steps.0 state.parts) state.have other))

pub returns-then-offset-end-clause-cause : goal.returns-then-offset-end-clause-cause
returns-then-offset-end-clause-cause g c =
    let old = c.loop-tile.invariant in
    let s = g.D.Source.tally c.args.store.now in
    let s' = g.D.Source.tally c.loop-tile.store in
    let p = g.S.Source.tally c.args.patch.now in
    let p' = g.S.Source.tally c.loop-tile.patch in
    subst (λ (stop : Stop). Patches {X = Unit {0}} s s' p p' (Err stop)) (sym c.changed-then-offset-end.ensures) (refused_patches s s' p p' _ old.kept old.counts old.given_tally)

pub returns-then-offset-end-clause-described : goal.returns-then-offset-end-clause-described
returns-then-offset-end-clause-described g c =
    let t = c.args.target.now in
    let held : Option (List ℕ) = g.D.Source.held c.args.store.now in
    let log : Option (List Amend) = (g.D.Source.tally c.args.store.now).amended.writes in
    let old = c.loop-tile.invariant in
    let offset : ℕ = c.loop-tile.offset in
    let start : ℕ = t.image.table.heap_len - c.args.found.now.bytes in
    let now = c.loop-tile.store in
    described_stop t c.args.found.now start held (g.D.Source.held now) (g.D.Source.held now) log (g.D.Source.tally now).amended.writes (g.D.Source.tally now).amended.writes offset refl refl old.described

-- ---- the end

pub returns-clause-wrote : goal.returns-clause-wrote
returns-clause-wrote g c =
    let t = c.args.target.now in
    let held : Option (List ℕ) = g.D.Source.held c.args.store.now in
    let given : Option (List ℕ) = g.S.Source.held c.args.patch.now in
    let log : Option (List Amend) = (g.D.Source.tally c.args.store.now).amended.writes in
    let old = c.loop-tile.invariant in
    let state = old.state in
    let offset : ℕ = c.loop-tile.offset in
    let start : ℕ = t.image.table.heap_len - c.args.found.now.bytes in
    let left : List ℕ = sieve_tiles_left c.loop-tile.tile-iterator in
    let now = c.loop-tile.store in
    let new = c.settle.new.store in
    on_ok_weaker c.settle.result
    (λ same. rows_done t start held given (g.D.Source.held now) (g.D.Source.held new) log (g.D.Source.tally now).amended.writes (g.D.Source.tally new).amended.writes state.front offset
    (all_taken _ state.front left c.in-None.ensures.steps.0 state.parts) c.settle.ensures.store.held_is (settled_writes (g.D.Source.tally now) (g.D.Source.tally new) c.settle.result c.settle.ensures.cause) state.have)
    c.settle.ensures.cause.ok

pub returns-clause-some : goal.returns-clause-some
returns-clause-some g c =
    let t = c.args.target.now in
    let held : Option (List ℕ) = g.D.Source.held c.args.store.now in
    let given : Option (List ℕ) = g.S.Source.held c.args.patch.now in
    let log : Option (List Amend) = (g.D.Source.tally c.args.store.now).amended.writes in
    let old = c.loop-tile.invariant in
    let state = old.state in
    let offset : ℕ = c.loop-tile.offset in
    let start : ℕ = t.image.table.heap_len - c.args.found.now.bytes in
    let left : List ℕ = sieve_tiles_left c.loop-tile.tile-iterator in
    let now = c.loop-tile.store in
    let new = c.settle.new.store in
    some_rows_same t start given held (g.D.Source.held now) (g.D.Source.held new) log (g.D.Source.tally now).amended.writes (g.D.Source.tally new).amended.writes
    c.settle.ensures.store.held_is (settled_writes (g.D.Source.tally now) (g.D.Source.tally new) c.settle.result c.settle.ensures.cause)
    (rows_stop t start held given (g.D.Source.held now) log (g.D.Source.tally now).amended.writes state.front left offset state.parts c.requires.said state.have)

pub returns-clause-unrefused : goal.returns-clause-unrefused
returns-clause-unrefused g c =
    let held : Option (List ℕ) = g.D.Source.held c.args.store.now in
    let given : Option (List ℕ) = g.S.Source.held c.args.patch.now in
    also_rows c.args.target.now c.args.found.now held given c.settle.result
    (by_stop c.args.target.now c.args.found.now.bytes held given c.settle.result
    (amends_unrefused (g.D.Source.tally c.loop-tile.store) (g.D.Source.tally c.settle.new.store) c.settle.result (settled-amends _ _ c.settle.result c.settle.ensures.cause)))

pub returns-clause-late : goal.returns-clause-late
returns-clause-late g c =
    none_refused _ (g.D.Source.tally c.loop-tile.store) (g.D.Source.tally c.settle.new.store) c.settle.result (settled-amends _ _ c.settle.result c.settle.ensures.cause)

pub returns-clause-header : goal.returns-clause-header
returns-clause-header g c =
    let t = c.args.target.now in
    let held : Option (List ℕ) = g.D.Source.held c.args.store.now in
    on_ok_weaker c.settle.result (λ same. subst (λ (h : Option (List ℕ)). HeaderIsStill t held h) (sym c.settle.ensures.store.held_is) c.loop-tile.invariant.state.header) c.settle.ensures.cause.ok

pub returns-clause-reach : goal.returns-clause-reach
returns-clause-reach g c =
    reach-then _ _ _ c.loop-tile.invariant.grows (reach-is _ _ c.settle.ensures.store.attached_is)

pub returns-clause-cause : goal.returns-clause-cause
returns-clause-cause g c =
    let old = c.loop-tile.invariant in
    let s = g.D.Source.tally c.args.store.now in
    let s' = g.D.Source.tally c.loop-tile.store in
    let now = g.D.Source.tally c.settle.new.store in
    amend_patches s s' now (g.S.Source.tally c.args.patch.now) (g.S.Source.tally c.loop-tile.patch) c.settle.result old.kept old.counts old.given_tally (settled-amends s' now c.settle.result c.settle.ensures.cause)

pub returns-clause-described : goal.returns-clause-described
returns-clause-described g c =
    let t = c.args.target.now in
    let held : Option (List ℕ) = g.D.Source.held c.args.store.now in
    let log : Option (List Amend) = (g.D.Source.tally c.args.store.now).amended.writes in
    let old = c.loop-tile.invariant in
    let offset : ℕ = c.loop-tile.offset in
    let start : ℕ = t.image.table.heap_len - c.args.found.now.bytes in
    let now = c.loop-tile.store in
    let new = c.settle.new.store in
    described_stop t c.args.found.now start held (g.D.Source.held now) (g.D.Source.held new) log (g.D.Source.tally now).amended.writes (g.D.Source.tally new).amended.writes offset (c.settle.ensures.store.held_is) (settled_writes (g.D.Source.tally now) (g.D.Source.tally new) c.settle.result c.settle.ensures.cause) old.described

pub returns-in_err-prepare_tile-clause-stays : goal.returns-in_err-prepare_tile-clause-stays
returns-in_err-prepare_tile-clause-stays g c =
    let old = c.loop-tile.invariant in
    let read = c.in_err-prepare_tile.ensures.stays in (
      record { held_is = read.1.held_is ∙ old.given; attached_is = read.1.attached_is ∙ old.given_len; told = λ told. read.1.told (old.given_told told) },
      record { sizes = read.2.sizes ∙ old.window.sizes; workers = read.2.workers ∙ old.window.workers },
      told-then _ _ _ old.told (told-is _ _ read.0.held_is),
      read.3 ∙ old.copy,
    )

pub returns-then-count-room-clause-stays : goal.returns-then-count-room-clause-stays
returns-then-count-room-clause-stays g c =
    let old = c.loop-tile.invariant in
    let read = c.in_ok-prepare_tile.ensures.stays in (
      record { held_is = read.1.held_is ∙ old.given; attached_is = read.1.attached_is ∙ old.given_len; told = λ told. read.1.told (old.given_told told) },
      record { sizes = read.2.sizes ∙ old.window.sizes; workers = read.2.workers ∙ old.window.workers },
      told-then _ _ _ old.told (told-is _ _ read.0.held_is),
      read.3 ∙ old.copy,
    )

pub returns-then-not-is_measured-clause-stays : goal.returns-then-not-is_measured-clause-stays
returns-then-not-is_measured-clause-stays g c =
    let old = c.loop-tile.invariant in
    let read = c.in_ok-prepare_tile.ensures.stays in (
      record { held_is = read.1.held_is ∙ old.given; attached_is = read.1.attached_is ∙ old.given_len; told = λ told. read.1.told (old.given_told told) },
      record { sizes = read.2.sizes ∙ old.window.sizes; workers = read.2.workers ∙ old.window.workers },
      told-then _ _ _ old.told (told-is _ _ read.0.held_is),
      read.3 ∙ old.copy,
    )

pub returns-in_err-is_there-clause-stays : goal.returns-in_err-is_there-clause-stays
returns-in_err-is_there-clause-stays g c =
    let old = c.loop-tile.invariant in
    let read = c.in_ok-prepare_tile.ensures.stays in (
      record { held_is = read.1.held_is ∙ old.given; attached_is = read.1.attached_is ∙ old.given_len; told = λ told. read.1.told (old.given_told told) },
      record { sizes = read.2.sizes ∙ old.window.sizes; workers = read.2.workers ∙ old.window.workers },
      told-then _ _ _ old.told (told-is _ _ (c.in_err-is_there.ensures.source.held_is ∙ read.0.held_is)),
      c.in_err-is_there.ensures.piece ∙ read.3 ∙ old.copy,
    )

pub returns-then-not-is_there-clause-stays : goal.returns-then-not-is_there-clause-stays
returns-then-not-is_there-clause-stays g c =
    let old = c.loop-tile.invariant in
    let read = c.in_ok-prepare_tile.ensures.stays in (
      record { held_is = read.1.held_is ∙ old.given; attached_is = read.1.attached_is ∙ old.given_len; told = λ told. read.1.told (old.given_told told) },
      record { sizes = read.2.sizes ∙ old.window.sizes; workers = read.2.workers ∙ old.window.workers },
      told-then _ _ _ old.told (told-is _ _ (c.in_ok-is_there.ensures.source.held_is ∙ read.0.held_is)),
      c.in_ok-is_there.ensures.piece ∙ read.3 ∙ old.copy,
    )

pub returns-in_err-write_tile-clause-stays : goal.returns-in_err-write_tile-clause-stays
returns-in_err-write_tile-clause-stays g c =
    let old = c.loop-tile.invariant in
    let read = c.in_ok-prepare_tile.ensures.stays in (
      record { held_is = read.1.held_is ∙ old.given; attached_is = read.1.attached_is ∙ old.given_len; told = λ told. read.1.told (old.given_told told) },
      record { sizes = read.2.sizes ∙ old.window.sizes; workers = read.2.workers ∙ old.window.workers },
      told-then _ _ _ old.told (told-then _ _ _ (told-is _ _ (c.in_ok-is_there.ensures.source.held_is ∙ read.0.held_is)) (told-amended _ _ _ _ c.in_err-write_tile.ensures.partly)),
      c.in_ok-is_there.ensures.piece ∙ read.3 ∙ old.copy,
    )

pub returns-then-offset-end-clause-stays : goal.returns-then-offset-end-clause-stays
returns-then-offset-end-clause-stays g c =
    let old = c.loop-tile.invariant in
    (record { held_is = old.given; attached_is = old.given_len; told = old.given_told }, old.window, old.told, old.copy)

pub returns-clause-stays : goal.returns-clause-stays
returns-clause-stays g c =
    let old = c.loop-tile.invariant in
    (record { held_is = old.given; attached_is = old.given_len; told = old.given_told }, old.window, told-then _ _ _ old.told (told-is _ _ c.settle.ensures.store.held_is), old.copy)

pub returns-then-count-room-clause-late : goal.returns-then-count-room-clause-late
returns-then-count-room-clause-late g c =
    subst (λ (stop : Stop). IfRefused {X = Unit {0}} (Err stop) (ComesInWork c.args.target.now.header.hdu)) (sym c.changed.ensures) (inr refl)

pub returns-then-not-is_measured-clause-late : goal.returns-then-not-is_measured-clause-late
returns-then-not-is_measured-clause-late g c =
    subst (λ (stop : Stop). IfRefused {X = Unit {0}} (Err stop) (ComesInWork c.args.target.now.header.hdu)) (sym c.changed-then-not-is_measured.ensures) (inr refl)

pub returns-then-not-is_there-clause-late : goal.returns-then-not-is_there-clause-late
returns-then-not-is_there-clause-late g c =
    subst (λ (stop : Stop). IfRefused {X = Unit {0}} (Err stop) (ComesInWork c.args.target.now.header.hdu)) (sym c.changed-then-not-is_there.ensures) (inr refl)

pub returns-then-offset-end-clause-late : goal.returns-then-offset-end-clause-late
returns-then-offset-end-clause-late g c =
    subst (λ (stop : Stop). IfRefused {X = Unit {0}} (Err stop) (ComesInWork c.args.target.now.header.hdu)) (sym c.changed-then-offset-end.ensures) (inr refl)

pub returns-then-offset-end-clause-reach : goal.returns-then-offset-end-clause-reach
returns-then-offset-end-clause-reach g c =
    c.loop-tile.invariant.grows

pub returns-in_err-prepare_tile-clause-wrote : goal.returns-in_err-prepare_tile-clause-wrote
returns-in_err-prepare_tile-clause-wrote g c =
    let stopped : c.from_residual.result ≡ Err c.in_err-prepare_tile.field-0.0 = search rules in
    never_ok _ c.from_residual.result c.in_err-prepare_tile.field-0.0 stopped

pub returns-in_err-prepare_tile-clause-header : goal.returns-in_err-prepare_tile-clause-header
returns-in_err-prepare_tile-clause-header g c =
    let stopped : c.from_residual.result ≡ Err c.in_err-prepare_tile.field-0.0 = search rules in
    never_ok _ c.from_residual.result c.in_err-prepare_tile.field-0.0 stopped

pub returns-in_err-is_there-clause-wrote : goal.returns-in_err-is_there-clause-wrote
returns-in_err-is_there-clause-wrote g c =
    let stopped : c.from_residual-in_err-is_there.result ≡ Err c.in_err-is_there.field-0.0 = search rules in
    never_ok _ c.from_residual-in_err-is_there.result c.in_err-is_there.field-0.0 stopped

pub returns-in_err-is_there-clause-header : goal.returns-in_err-is_there-clause-header
returns-in_err-is_there-clause-header g c =
    let stopped : c.from_residual-in_err-is_there.result ≡ Err c.in_err-is_there.field-0.0 = search rules in
    never_ok _ c.from_residual-in_err-is_there.result c.in_err-is_there.field-0.0 stopped

pub returns-in_err-write_tile-clause-wrote : goal.returns-in_err-write_tile-clause-wrote
returns-in_err-write_tile-clause-wrote g c =
    let stopped : c.from_residual-in_err-write_tile.result ≡ Err c.in_err-write_tile.field-0.0 = search rules in
    never_ok _ c.from_residual-in_err-write_tile.result c.in_err-write_tile.field-0.0 stopped

pub returns-in_err-write_tile-clause-header : goal.returns-in_err-write_tile-clause-header
returns-in_err-write_tile-clause-header g c =
    let stopped : c.from_residual-in_err-write_tile.result ≡ Err c.in_err-write_tile.field-0.0 = search rules in
    never_ok _ c.from_residual-in_err-write_tile.result c.in_err-write_tile.field-0.0 stopped

pub returns-in_err-write_tile-clause-late : goal.returns-in_err-write_tile-clause-late
returns-in_err-write_tile-clause-late g c =
    let stop : Stop = c.in_err-write_tile.field-0.0 in
    let stopped : c.from_residual-in_err-write_tile.result ≡ Err stop = search rules in
    let back = g.D.Source.tally c.has_bytes.new.source in
    let now = g.D.Source.tally c.write_tile.new.store in
    subst (λ (r : Result (Unit {0}) Stop). IfRefused r (ComesInWork c.args.target.now.header.hdu)) (sym stopped)
    (none_refused {X = Unit {0}} _ back now (Err stop) (one-amends _ back now (Err stop) c.in_err-write_tile.ensures.cause))

pub prepare_tile-requires-clause-copy : goal.prepare_tile-requires-clause-copy
prepare_tile-requires-clause-copy g c =
    omega (arith, c.loop-tile.invariant.copy, c.requires.copy)

pub returns-clause-settled : goal.returns-clause-settled
returns-clause-settled g c = all_settled _ _ c.settle.result c.settle.ensures.cause

-- ---- what is kept, and what is read of PATCH

pub returns-in_err-prepare_tile-clause-kept : goal.returns-in_err-prepare_tile-clause-kept
returns-in_err-prepare_tile-clause-kept g c =
    let start = c.loop-tile.store in
    let read = c.prepare_tile.new.store in
    let now = c.prepare_tile.new.store in
    keeps_still (IsNoBoxRow c.args.target.now) (g.D.Source.held c.args.store.now) (g.D.Source.held start) (g.D.Source.held now) (g.D.Source.tally c.args.store.now).amended.writes (g.D.Source.tally start).amended.writes
    (g.D.Source.tally now).amended.writes (c.in_err-prepare_tile.ensures.stays.0.held_is) (read_writes (g.D.Source.tally start) (g.D.Source.tally read) c.in_err-prepare_tile.ensures.cause.store_kept) c.loop-tile.invariant.bytes_kept

pub returns-in_err-prepare_tile-clause-pixels_read : goal.returns-in_err-prepare_tile-clause-pixels_read
returns-in_err-prepare_tile-clause-pixels_read g c =
    let t = c.args.target.now in
    c.log_law.ensures.both t.pixels_at (pixels_end t) (g.S.Source.ranges c.args.patch.now) (g.S.Source.ranges c.loop-tile.patch) (g.S.Source.ranges c.prepare_tile.new.patch) c.loop-tile.invariant.pixels_read c.in_err-prepare_tile.ensures.pixels_read

pub returns-then-count-room-clause-kept : goal.returns-then-count-room-clause-kept
returns-then-count-room-clause-kept g c =
    let start = c.loop-tile.store in
    let read = c.prepare_tile.new.store in
    let now = c.prepare_tile.new.store in
    keeps_still (IsNoBoxRow c.args.target.now) (g.D.Source.held c.args.store.now) (g.D.Source.held start) (g.D.Source.held now) (g.D.Source.tally c.args.store.now).amended.writes (g.D.Source.tally start).amended.writes
    (g.D.Source.tally now).amended.writes (c.in_ok-prepare_tile.ensures.stays.0.held_is) (read_writes (g.D.Source.tally start) (g.D.Source.tally read) c.in_ok-prepare_tile.ensures.cause.store_kept) c.loop-tile.invariant.bytes_kept

pub returns-then-count-room-clause-pixels_read : goal.returns-then-count-room-clause-pixels_read
returns-then-count-room-clause-pixels_read g c =
    let t = c.args.target.now in
    c.log_law.ensures.both t.pixels_at (pixels_end t) (g.S.Source.ranges c.args.patch.now) (g.S.Source.ranges c.loop-tile.patch) (g.S.Source.ranges c.prepare_tile.new.patch) c.loop-tile.invariant.pixels_read c.in_ok-prepare_tile.ensures.pixels_read

pub returns-then-not-is_measured-clause-kept : goal.returns-then-not-is_measured-clause-kept
returns-then-not-is_measured-clause-kept g c =
    let start = c.loop-tile.store in
    let read = c.prepare_tile.new.store in
    let now = c.prepare_tile.new.store in
    keeps_still (IsNoBoxRow c.args.target.now) (g.D.Source.held c.args.store.now) (g.D.Source.held start) (g.D.Source.held now) (g.D.Source.tally c.args.store.now).amended.writes (g.D.Source.tally start).amended.writes
    (g.D.Source.tally now).amended.writes (c.in_ok-prepare_tile.ensures.stays.0.held_is) (read_writes (g.D.Source.tally start) (g.D.Source.tally read) c.in_ok-prepare_tile.ensures.cause.store_kept) c.loop-tile.invariant.bytes_kept

pub returns-then-not-is_measured-clause-pixels_read : goal.returns-then-not-is_measured-clause-pixels_read
returns-then-not-is_measured-clause-pixels_read g c =
    let t = c.args.target.now in
    c.log_law.ensures.both t.pixels_at (pixels_end t) (g.S.Source.ranges c.args.patch.now) (g.S.Source.ranges c.loop-tile.patch) (g.S.Source.ranges c.prepare_tile.new.patch) c.loop-tile.invariant.pixels_read c.in_ok-prepare_tile.ensures.pixels_read

pub returns-in_err-is_there-clause-kept : goal.returns-in_err-is_there-clause-kept
returns-in_err-is_there-clause-kept g c =
    let start = c.loop-tile.store in
    let read = c.prepare_tile.new.store in
    let now = c.has_bytes.new.source in
    keeps_still (IsNoBoxRow c.args.target.now) (g.D.Source.held c.args.store.now) (g.D.Source.held start) (g.D.Source.held now) (g.D.Source.tally c.args.store.now).amended.writes (g.D.Source.tally start).amended.writes
    (g.D.Source.tally now).amended.writes (c.in_err-is_there.ensures.source.held_is ∙ c.in_ok-prepare_tile.ensures.stays.0.held_is) (read_writes (g.D.Source.tally read) (g.D.Source.tally now) c.in_err-is_there.ensures.cause.kept ∙ read_writes (g.D.Source.tally start) (g.D.Source.tally read) c.in_ok-prepare_tile.ensures.cause.store_kept) c.loop-tile.invariant.bytes_kept

pub returns-in_err-is_there-clause-pixels_read : goal.returns-in_err-is_there-clause-pixels_read
returns-in_err-is_there-clause-pixels_read g c =
    let t = c.args.target.now in
    c.log_law.ensures.both t.pixels_at (pixels_end t) (g.S.Source.ranges c.args.patch.now) (g.S.Source.ranges c.loop-tile.patch) (g.S.Source.ranges c.prepare_tile.new.patch) c.loop-tile.invariant.pixels_read c.in_ok-prepare_tile.ensures.pixels_read

pub returns-then-not-is_there-clause-kept : goal.returns-then-not-is_there-clause-kept
returns-then-not-is_there-clause-kept g c =
    let start = c.loop-tile.store in
    let read = c.prepare_tile.new.store in
    let now = c.has_bytes.new.source in
    keeps_still (IsNoBoxRow c.args.target.now) (g.D.Source.held c.args.store.now) (g.D.Source.held start) (g.D.Source.held now) (g.D.Source.tally c.args.store.now).amended.writes (g.D.Source.tally start).amended.writes
    (g.D.Source.tally now).amended.writes (c.in_ok-is_there.ensures.source.held_is ∙ c.in_ok-prepare_tile.ensures.stays.0.held_is) (read_writes (g.D.Source.tally read) (g.D.Source.tally now) c.in_ok-is_there.ensures.cause.kept ∙ read_writes (g.D.Source.tally start) (g.D.Source.tally read) c.in_ok-prepare_tile.ensures.cause.store_kept) c.loop-tile.invariant.bytes_kept

pub returns-then-not-is_there-clause-pixels_read : goal.returns-then-not-is_there-clause-pixels_read
returns-then-not-is_there-clause-pixels_read g c =
    let t = c.args.target.now in
    c.log_law.ensures.both t.pixels_at (pixels_end t) (g.S.Source.ranges c.args.patch.now) (g.S.Source.ranges c.loop-tile.patch) (g.S.Source.ranges c.prepare_tile.new.patch) c.loop-tile.invariant.pixels_read c.in_ok-prepare_tile.ensures.pixels_read

pub returns-in_err-write_tile-clause-kept : goal.returns-in_err-write_tile-clause-kept
returns-in_err-write_tile-clause-kept g c =
    let t = c.args.target.now in
    let start = c.loop-tile.store in
    let read = c.prepare_tile.new.store in
    let back = c.has_bytes.new.source in
    let now = c.write_tile.new.store in
    let done = c.in_ok-prepare_tile.ensures in
    let seen = c.in_ok-is_there.ensures in
    let put = c.in_err-write_tile.ensures in
    let old = c.loop-tile.invariant in
    let tile : ℕ = c.in-Some.tile in
    let after : List ℕ = sieve_tiles_left c.next.new.self in
    let bytes : List ℕ = row_of (plan_to_write t) c.loop-tile.offset (coded_tile c.code_slot-slot.result.now) in
    let held_is : g.D.Source.held back ≡ g.D.Source.held start = seen.source.held_is ∙ done.stays.0.held_is in
    let parts = old.state.parts ∙ ap (λ l. old.state.front ++ l) c.in-Some.ensures.steps in
    keeps_then (IsNoBoxRow t) (g.D.Source.held c.args.store.now) (g.D.Source.held start) (g.D.Source.held now) (g.D.Source.tally c.args.store.now).amended.writes (g.D.Source.tally start).amended.writes
    (g.D.Source.tally now).amended.writes old.bytes_kept
    (keeps_failed c.places_law.ensures.outside c.places_law.ensures.long (IsNoBoxRow t) (amend_of (row_start t.image.table tile) bytes) (g.D.Source.held start) (g.D.Source.held now) (g.D.Source.tally start).amended.writes
    (g.D.Source.tally now).amended.writes (λ i not. row_outside t.image.table _ old.state.front after tile bytes i parts put.count not)
    (subst (λ (h : Option (List ℕ)). MayAmend (row_start t.image.table tile) (length bytes) h (g.D.Source.held now)) held_is put.partly)
    (put.cause.unlogged ∙ (read_writes (g.D.Source.tally read) (g.D.Source.tally back) seen.cause.kept ∙ read_writes (g.D.Source.tally start) (g.D.Source.tally read) done.cause.store_kept)))

pub returns-in_err-write_tile-clause-pixels_read : goal.returns-in_err-write_tile-clause-pixels_read
returns-in_err-write_tile-clause-pixels_read g c =
    let t = c.args.target.now in
    c.log_law.ensures.both t.pixels_at (pixels_end t) (g.S.Source.ranges c.args.patch.now) (g.S.Source.ranges c.loop-tile.patch) (g.S.Source.ranges c.prepare_tile.new.patch) c.loop-tile.invariant.pixels_read c.in_ok-prepare_tile.ensures.pixels_read

pub returns-clause-kept : goal.returns-clause-kept
returns-clause-kept g c =
    let start = c.loop-tile.store in
    let now = c.settle.new.store in
    keeps_still (IsNoBoxRow c.args.target.now) (g.D.Source.held c.args.store.now) (g.D.Source.held start) (g.D.Source.held now) (g.D.Source.tally c.args.store.now).amended.writes (g.D.Source.tally start).amended.writes
    (g.D.Source.tally now).amended.writes c.settle.ensures.store.held_is (settled_writes (g.D.Source.tally start) (g.D.Source.tally now) c.settle.result c.settle.ensures.cause) c.loop-tile.invariant.bytes_kept
