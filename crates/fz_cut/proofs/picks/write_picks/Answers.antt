-- One round after another, of the tiles that hold a pick.
use Rattle.std.proofs.Common.{◌≡◌, ℕ, ◌+◌, ◌*◌, ◌<◌, ◌≤◌, List, [], ◌∷◌, length, map, take, Option, Some, IfSome, Result, Err, refl, sym, ap, ◌∙◌, subst, arith, rules}
use Rattle.std.proofs.lemmas.List.{length-set}
use Rattle.std.proofs.lemmas.Result.{on_ok_weaker}
use Rattle.fz_base.specs.FirstByte.{StaysShut}
use Rattle.fz_base.specs.Ranges.{LogsIn}
use Rattle.fz_base.specs.Stop.{IfRefused}
use Rattle.fz_base.specs.Told.{StaysTold}
use Rattle.fz_base.specs.declared.failure.Stop.{Stop}
use Rattle.fz_grid.specs.SieveWalks.{sieve_tiles_left}
use Rattle.fz_grid.specs.declared.sieving.SieveTiles.{SieveTiles}
use Rattle.fz_files.specs.FirstFault.{IsFirstRowFault, image_row}
use Rattle.fz_job.specs.Images.{fetched_ranges}
use Rattle.fz_cut.specs.Part.{IsPickFault}
use Rattle.fz_cut.specs.Picks.{AreWrittenParts, picked_ranges}
use Rattle.fz_cut.proofs.Outcomes.{refused_weaker}
use Rattle.fz_cut.proofs.Rounds.{AreDone, last_done, none_done, none_read, one_pending, pending_kept, pending_picked, pending_written, round_fault, round_reads, tiles_of_grid, tiles_with_pick}
use Rattle.fz_cut.proofs.Spread.{all_picked}
use Rattle.fz_cut.proofs.picks.write_picks.Goals as goal
use Rattle.fz_cut.proofs.picks.write_picks.Goals.{then-count-most+in_ok-write_round, else-count-most}
use Rattle.fz_pool.specs.Window.{WindowStays}

pub loop-tile-init : goal.loop-tile-init
loop-tile-init g c =
    let p = c.args.picking.now.image.plan in
    let sieve = c.args.picking.now.sieve in
    let left : List ℕ = sieve_tiles_left c.into_iter-tile-iterator.result in
    let given : left ≡ sieve_tiles_left c.sieve_tiles-tile-items.result = ap (λ (s : SieveTiles). sieve_tiles_left s) c.into_iter-tile-iterator.ensures.into_iter_gives in
    record {
      held = refl;
      attached = refl;
      reads = refl;
      writes = refl;
      created = refl;
      shut = λ shut. shut;
      told_ranges = λ told. told;
      told_contents = λ told. told;
      window = record { sizes = refl; workers = refl };
      rows = refl;
      table = search rules;
      few = omega arith;
      picked = tiles_with_pick p sieve c.new-grid.result.shape c.new-grid.result.tile (sieve_tiles_left c.sieve_tiles-tile-items.result) c.new-grid.ensures.shape c.new-grid.ensures.tile c.sieve_tiles-tile-items.ensures.tiles c.sieve_tiles-tile-items.ensures.picked c.sieve_tiles-tile-items.ensures.inside;
      logs = none_read (g.S.Source.held c.args.source.now) c.args.picking.now.header sieve (g.S.Source.ranges c.args.source.now);
      done = none_done (g.S.Source.held c.args.source.now) c.args.picking.now.header p sieve c.args.picking.now.data_at left (g.K.Sink.contents c.args.sink.now)
          (given ∙ tiles_of_grid p sieve c.new-grid.result.shape c.new-grid.result.tile (sieve_tiles_left c.sieve_tiles-tile-items.result) c.new-grid.ensures.shape c.new-grid.ensures.tile c.sieve_tiles-tile-items.ensures.tiles);
    }

pub write_round-requires-clause-tiles : goal.write_round-requires-clause-tiles
write_round-requires-clause-tiles g c κs within i low =
    (pending_picked (g.S.Source.held c.args.source.now) c.args.picking.now.header c.args.picking.now.image.plan c.args.picking.now.sieve c.args.picking.now.data_at (take c.loop-tile.count c.loop-tile.tiles) (sieve_tiles_left c.loop-tile.tile-iterator)
    (g.K.Sink.contents c.args.sink.now) (g.K.Sink.contents c.loop-tile.sink) c.loop-tile.invariant.picked c.loop-tile.invariant.done i low).0

pub write_round-requires-clause-picked : goal.write_round-requires-clause-picked
write_round-requires-clause-picked g c κs within i low =
    (pending_picked (g.S.Source.held c.args.source.now) c.args.picking.now.header c.args.picking.now.image.plan c.args.picking.now.sieve c.args.picking.now.data_at (take c.loop-tile.count c.loop-tile.tiles) (sieve_tiles_left c.loop-tile.tile-iterator)
    (g.K.Sink.contents c.args.sink.now) (g.K.Sink.contents c.loop-tile.sink) c.loop-tile.invariant.picked c.loop-tile.invariant.done i low).1

pub write_round-requires-2-clause-tiles : goal.write_round-requires-2-clause-tiles
write_round-requires-2-clause-tiles g c κs within i low =
    (pending_picked (g.S.Source.held c.args.source.now) c.args.picking.now.header c.args.picking.now.image.plan c.args.picking.now.sieve c.args.picking.now.data_at (take c.loop-tile.count c.loop-tile.tiles) (sieve_tiles_left c.loop-tile.tile-iterator)
    (g.K.Sink.contents c.args.sink.now) (g.K.Sink.contents c.loop-tile.sink) c.loop-tile.invariant.picked c.loop-tile.invariant.done i low).0

pub write_round-requires-2-clause-picked : goal.write_round-requires-2-clause-picked
write_round-requires-2-clause-picked g c κs within i low =
    (pending_picked (g.S.Source.held c.args.source.now) c.args.picking.now.header c.args.picking.now.image.plan c.args.picking.now.sieve c.args.picking.now.data_at (take c.loop-tile.count c.loop-tile.tiles) (sieve_tiles_left c.loop-tile.tile-iterator)
    (g.K.Sink.contents c.args.sink.now) (g.K.Sink.contents c.loop-tile.sink) c.loop-tile.invariant.picked c.loop-tile.invariant.done i low).1

pub returns-in_err-write_round-clause-fault : goal.returns-in_err-write_round-clause-fault
returns-in_err-write_round-clause-fault g c =
    let held : Option (List ℕ) = g.S.Source.held c.args.source.now in
    let h = c.args.picking.now.header in
    let image = c.args.picking.now.image in
    let sieve = c.args.picking.now.sieve in
    let old = c.loop-tile.invariant in
    let pending : List ℕ = take c.loop-tile.count c.loop-tile.tiles in
    let left : List ℕ = sieve_tiles_left c.loop-tile.tile-iterator in
    let before : Option (List ℕ) = g.K.Sink.contents c.args.sink.now in
    let mid : Option (List ℕ) = g.K.Sink.contents c.loop-tile.sink in
    let stop : Stop = c.in_err-write_round.field-0.0 in
    let stopped : c.from_residual.result ≡ Err stop = search rules in
    let fault : IfRefused {X = Unit {0}} (Err stop) (λ x. IfSome held (λ file. IsFirstRowFault file (map (image_row h) pending) (Some x))) =
    subst (λ (l : Option (List ℕ)). IfRefused {X = Unit {0}} (Err stop) (λ x. IfSome l (λ file. IsFirstRowFault file (map (image_row h) pending) (Some x)))) old.held c.in_err-write_round.ensures.fault in
    subst (λ (r : Result (Unit {0}) Stop). IfRefused r (λ x. IfSome held (λ file. IsPickFault file h sieve x))) (sym stopped)
    (refused_weaker {X = Unit {0}} (Err stop) (λ x is. round_fault held h image sieve c.args.picking.now.data_at pending left before mid x c.requires.said old.done is) fault)

pub returns-in_err-write_round-clause-touched : goal.returns-in_err-write_round-clause-touched
returns-in_err-write_round-clause-touched g c =
    let held : Option (List ℕ) = g.S.Source.held c.args.source.now in
    let h = c.args.picking.now.header in
    let image = c.args.picking.now.image in
    let sieve = c.args.picking.now.sieve in
    let old = c.loop-tile.invariant in
    let pending : List ℕ = take c.loop-tile.count c.loop-tile.tiles in
    let left : List ℕ = sieve_tiles_left c.loop-tile.tile-iterator in
    let before : Option (List ℕ) = g.K.Sink.contents c.args.sink.now in
    let mid : Option (List ℕ) = g.K.Sink.contents c.loop-tile.sink in
    let between : Option (List (ℕ × ℕ)) = g.S.Source.ranges c.loop-tile.source in
    let new : Option (List (ℕ × ℕ)) = g.S.Source.ranges c.write_round.new.source in
    let read : IfSome held (λ file. LogsIn (fetched_ranges file h pending) between new) =
    subst (λ (l : Option (List ℕ)). IfSome l (λ file. LogsIn (fetched_ranges file h pending) between new)) old.held c.in_err-write_round.ensures.touched in
    round_reads c.ranges_law.ensures.join held h image sieve c.args.picking.now.data_at pending left before mid (g.S.Source.ranges c.args.source.now) between new c.requires.said old.done old.logs read

pub returns-clause-fault : goal.returns-clause-fault
returns-clause-fault g c =
    let held : Option (List ℕ) = g.S.Source.held c.args.source.now in
    let h = c.args.picking.now.header in
    let image = c.args.picking.now.image in
    let sieve = c.args.picking.now.sieve in
    let old = c.loop-tile.invariant in
    let pending : List ℕ = take c.loop-tile.count c.loop-tile.tiles in
    let left : List ℕ = sieve_tiles_left c.loop-tile.tile-iterator in
    let before : Option (List ℕ) = g.K.Sink.contents c.args.sink.now in
    let mid : Option (List ℕ) = g.K.Sink.contents c.loop-tile.sink in
    let fault : IfRefused c.write_round-2.result (λ x. IfSome held (λ file. IsFirstRowFault file (map (image_row h) pending) (Some x))) =
    subst (λ (l : Option (List ℕ)). IfRefused c.write_round-2.result (λ x. IfSome l (λ file. IsFirstRowFault file (map (image_row h) pending) (Some x)))) old.held c.write_round-2.ensures.fault in
    refused_weaker c.write_round-2.result (λ x is. round_fault held h image sieve c.args.picking.now.data_at pending left before mid x c.requires.said old.done is) fault

pub returns-clause-touched : goal.returns-clause-touched
returns-clause-touched g c =
    let held : Option (List ℕ) = g.S.Source.held c.args.source.now in
    let h = c.args.picking.now.header in
    let image = c.args.picking.now.image in
    let sieve = c.args.picking.now.sieve in
    let old = c.loop-tile.invariant in
    let pending : List ℕ = take c.loop-tile.count c.loop-tile.tiles in
    let left : List ℕ = sieve_tiles_left c.loop-tile.tile-iterator in
    let before : Option (List ℕ) = g.K.Sink.contents c.args.sink.now in
    let mid : Option (List ℕ) = g.K.Sink.contents c.loop-tile.sink in
    let between : Option (List (ℕ × ℕ)) = g.S.Source.ranges c.loop-tile.source in
    let new : Option (List (ℕ × ℕ)) = g.S.Source.ranges c.write_round-2.new.source in
    let read : IfSome held (λ file. LogsIn (fetched_ranges file h pending) between new) =
    subst (λ (l : Option (List ℕ)). IfSome l (λ file. LogsIn (fetched_ranges file h pending) between new)) old.held c.write_round-2.ensures.touched in
    round_reads c.ranges_law.ensures.join held h image sieve c.args.picking.now.data_at pending left before mid (g.S.Source.ranges c.args.source.now) between new c.requires.said old.done old.logs read

pub returns-clause-pixels : goal.returns-clause-pixels
returns-clause-pixels g c =
    let held : Option (List ℕ) = g.S.Source.held c.args.source.now in
    let h = c.args.picking.now.header in
    let image = c.args.picking.now.image in
    let p = c.args.picking.now.image.plan in
    let sieve = c.args.picking.now.sieve in
    let at : ℕ = c.args.picking.now.data_at in
    let old = c.loop-tile.invariant in
    let pending : List ℕ = take c.loop-tile.count c.loop-tile.tiles in
    let left : List ℕ = sieve_tiles_left c.loop-tile.tile-iterator in
    let before : Option (List ℕ) = g.K.Sink.contents c.args.sink.now in
    let mid : Option (List ℕ) = g.K.Sink.contents c.loop-tile.sink in
    let now : Option (List ℕ) = g.K.Sink.contents c.write_round-2.new.sink in
    let none : left ≡ [] = c.in-None.ensures.steps.0 in
    on_ok_weaker c.write_round-2.result
    (λ round. all_picked c.tiles_law.ensures.whole c.tiles_law.ensures.joined c.scattered_law.ensures.cutout held h image sieve at before now c.requires.said c.requires.picking.image.divided c.requires.picking.image.codec.size
    (c.shape_law.ensures.tiles p.shape p.tile c.requires.picking.image.divided) c.cutout_axes-part.ensures.sifts old.picked
    (last_done c.scattered_law.ensures.parts held h p sieve at pending left before mid now none old.done (subst (λ (l : Option (List ℕ)). AreWrittenParts l h p sieve at pending mid now) old.held round)))
    c.write_round-2.ensures.pixels

pub loop-tile-preserved : goal.loop-tile-preserved
loop-tile-preserved g c =
    let held : Option (List ℕ) = g.S.Source.held c.args.source.now in
    let h = c.args.picking.now.header in
    let image = c.args.picking.now.image in
    let p = c.args.picking.now.image.plan in
    let sieve = c.args.picking.now.sieve in
    let at : ℕ = c.args.picking.now.data_at in
    let old = c.loop-tile.invariant in
    let tiles : List ℕ = c.loop-tile.tiles in
    let pending : List ℕ = take c.loop-tile.count tiles in
    let left : List ℕ = sieve_tiles_left c.loop-tile.tile-iterator in
    let tile : ℕ = c.in-Some.tile in
    let behind : List ℕ = sieve_tiles_left c.next.new.self in
    let next : left ≡ tile ∷ behind = c.in-Some.ensures.steps in
    let before : Option (List ℕ) = g.K.Sink.contents c.args.sink.now in
    let mid : Option (List ℕ) = g.K.Sink.contents c.loop-tile.sink in
    let now : Option (List ℕ) = g.K.Sink.contents c.if-count-most.sink in
    let start : Option (List (ℕ × ℕ)) = g.S.Source.ranges c.args.source.now in
    let between : Option (List (ℕ × ℕ)) = g.S.Source.ranges c.loop-tile.source in
    let new : Option (List (ℕ × ℕ)) = g.S.Source.ranges c.if-count-most.source in
    let done : AreDone held h p sieve at (take c.if-count-most.count tiles) left before now =
    elim c.if-count-most.branch [
      | then-count-most+in_ok-write_round w ↦ pending_written c.scattered_law.ensures.parts held (g.S.Source.held c.loop-tile.source) h p sieve at tiles c.loop-tile.count c.if-count-most.count left before mid
          (g.K.Sink.contents w.write_round.new.sink) now old.held (ap g.K.Sink.contents w.sink-is) w.count-is old.done w.in_ok-write_round.ensures.pixels
      | else-count-most w ↦ pending_kept held h p sieve at tiles c.loop-tile.count c.if-count-most.count left before mid now (ap g.K.Sink.contents w.sink-is) w.count-is old.done
    ] in
    let logs : IfSome held (λ file. LogsIn (picked_ranges file h sieve) start new) =
    elim c.if-count-most.branch [
      | then-count-most+in_ok-write_round w ↦ subst (λ (r : Option (List (ℕ × ℕ))). IfSome held (λ file. LogsIn (picked_ranges file h sieve) start r)) (sym (ap g.S.Source.ranges w.source-is))
          (round_reads c.ranges_law.ensures.join held h image sieve at pending left before mid start between (g.S.Source.ranges w.write_round.new.source) c.requires.said old.done old.logs
          (subst (λ (l : Option (List ℕ)). IfSome l (λ file. LogsIn (fetched_ranges file h pending) between (g.S.Source.ranges w.write_round.new.source))) old.held w.in_ok-write_round.ensures.touched))
      | else-count-most w ↦ subst (λ (r : Option (List (ℕ × ℕ))). IfSome held (λ file. LogsIn (picked_ranges file h sieve) start r)) (sym (ap g.S.Source.ranges w.source-is)) old.logs
    ] in
    let few : c.if-count-most.count + 1 ≤ 2 * c.workers.result =
    elim c.if-count-most.branch [
      | then-count-most+in_ok-write_round w ↦ omega (arith, w.count-is, c.workers.ensures.some)
      | else-count-most w ↦ omega (arith, w.count-is, w.if-count-most.false, old.few)
    ] in
    let room : c.if-count-most.count < length tiles = omega (arith, few, c.workers.ensures.some, old.table) in
    record {
      held = elim c.if-count-most.branch [
        | then-count-most+in_ok-write_round w ↦ ap g.S.Source.held w.source-is ∙ w.in_ok-write_round.ensures.stays.0.held_is ∙ old.held
        | else-count-most w ↦ ap g.S.Source.held w.source-is ∙ old.held
      ];
      attached = elim c.if-count-most.branch [
        | then-count-most+in_ok-write_round w ↦ ap g.S.Source.attached w.source-is ∙ w.in_ok-write_round.ensures.stays.0.attached_is ∙ old.attached
        | else-count-most w ↦ ap g.S.Source.attached w.source-is ∙ old.attached
      ];
      reads = elim c.if-count-most.branch [
        | then-count-most+in_ok-write_round w ↦ ap g.S.Source.tally w.source-is ∙ w.in_ok-write_round.ensures.cause.ok.0 ∙ old.reads
        | else-count-most w ↦ ap g.S.Source.tally w.source-is ∙ old.reads
      ];
      writes = elim c.if-count-most.branch [
        | then-count-most+in_ok-write_round w ↦ ap g.K.Sink.tally w.sink-is ∙ w.in_ok-write_round.ensures.cause.ok.1 ∙ old.writes
        | else-count-most w ↦ ap g.K.Sink.tally w.sink-is ∙ old.writes
      ];
      created = elim c.if-count-most.branch [
        | then-count-most+in_ok-write_round w ↦ ap g.K.Sink.created w.sink-is ∙ w.in_ok-write_round.ensures.stays.1.created_is ∙ old.created
        | else-count-most w ↦ ap g.K.Sink.created w.sink-is ∙ old.created
      ];
      shut = elim c.if-count-most.branch [
        | then-count-most+in_ok-write_round w ↦ subst (StaysShut before) (sym (ap g.K.Sink.contents w.sink-is)) (λ shut. w.in_ok-write_round.ensures.stays.1.shut (old.shut shut))
        | else-count-most w ↦ subst (StaysShut before) (sym (ap g.K.Sink.contents w.sink-is)) old.shut
      ];
      told_ranges = elim c.if-count-most.branch [
        | then-count-most+in_ok-write_round w ↦ subst (λ (r : Option (List (ℕ × ℕ))). StaysTold start r) (sym (ap g.S.Source.ranges w.source-is)) (λ told. w.in_ok-write_round.ensures.stays.0.told (old.told_ranges told))
        | else-count-most w ↦ subst (λ (r : Option (List (ℕ × ℕ))). StaysTold start r) (sym (ap g.S.Source.ranges w.source-is)) old.told_ranges
      ];
      told_contents = elim c.if-count-most.branch [
        | then-count-most+in_ok-write_round w ↦ subst (λ (r : Option (List ℕ)). StaysTold before r) (sym (ap g.K.Sink.contents w.sink-is)) (λ told. w.in_ok-write_round.ensures.stays.1.told (old.told_contents told))
        | else-count-most w ↦ subst (λ (r : Option (List ℕ)). StaysTold before r) (sym (ap g.K.Sink.contents w.sink-is)) old.told_contents
      ];
      window = elim c.if-count-most.branch [
        | then-count-most+in_ok-write_round w ↦ subst (WindowStays c.args.window.now) (sym w.window-is) (record {
          sizes = w.in_ok-write_round.ensures.stays.2.sizes ∙ old.window.sizes;
          workers = w.in_ok-write_round.ensures.stays.2.workers ∙ old.window.workers;
        })
        | else-count-most w ↦ subst (WindowStays c.args.window.now) (sym w.window-is) old.window
      ];
      rows = c.if-count-most.auto.rows ∙ old.rows;
      table = length-set tiles c.if-count-most.count tile ∙ old.table;
      few = few;
      picked = old.picked;
      logs = logs;
      done = one_pending held h p sieve at tiles c.if-count-most.count tile left behind before now room next done;
    }
