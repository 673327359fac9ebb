-- The records are listed, or a row stops, or there is no such box.
use Rattle.std.proofs.Common.{rules, ◌≡◌, ◌≤◌, length, pos, to_z, of_z, w32, refl}
use Rattle.fz_c.specs.Boxes.{ListsReads}
use Rattle.fz_c.specs.Boxes.ListsReads.{done, none, stopped}
use Rattle.fz_c.proofs.BoxLemmas.{are_listed, room_for_tiles, rows_stop}
use Rattle.fz_c.proofs.boxes.fz_box_reads.Goals as goal

pub returns-in-Err : goal.returns-in-Err
returns-in-Err c =
    let answer : ListsReads c.args.plan.now c.args.part.now c.args.from c.args.rows.now c.args.reads.now c.args.reads.now c.args.tile.now c.args.tile.now (to_z w32 (of_z w32 c.answer.result)) =
    none c.in-Err.why (search rules) refl c.in-Err.ensures in
    record { answer = answer }

pub returns-in-Err-list_reads : goal.returns-in-Err-list_reads
returns-in-Err-list_reads c =
    let plan = c.args.plan.now in
    let part = c.args.part.now in
    let found = c.in-Ok.found in
    let is = c.in-Ok.ensures in
    let stop = c.in-Err-list_reads.stopped in
    let there : c.box_needs.result.tiles ≤ length c.args.reads.now = search rules in
    let answer : ListsReads plan part c.args.from c.args.rows.now c.args.reads.now c.list_reads.new.reads c.args.tile.now c.stop.new.tile (to_z w32 (of_z w32 c.stop.result)) =
    stopped stop (search rules) c.stop.ensures.tile is.of (room_for_tiles plan part found is c.box_needs.result (length c.args.reads.now) c.box_needs.ensures there)
    (rows_stop plan part found is c.args.from c.args.rows.now stop c.in-Err-list_reads.ensures.stopped) in
    record { answer = answer }

pub returns-in-Ok-list_reads : goal.returns-in-Ok-list_reads
returns-in-Ok-list_reads c =
    let plan = c.args.plan.now in
    let part = c.args.part.now in
    let found = c.in-Ok.found in
    let is = c.in-Ok.ensures in
    let there : c.box_needs.result.tiles ≤ length c.args.reads.now = search rules in
    let answer : ListsReads plan part c.args.from c.args.rows.now c.args.reads.now c.list_reads.new.reads c.args.tile.now c.args.tile.now (pos 0) =
    done refl refl is.of (room_for_tiles plan part found is c.box_needs.result (length c.args.reads.now) c.box_needs.ensures there)
    (are_listed plan part found is c.args.from c.args.rows.now c.args.reads.now c.list_reads.new.reads c.in-Ok-list_reads.ensures.listed) in
    record { answer = answer }
