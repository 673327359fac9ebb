-- The pixels are there, or a tile stops, or there is no such box.
use Rattle.std.proofs.Common.{rules, ◌≡◌, ◌≤◌, length, pos, to_z, of_z, w32, refl}
use Rattle.fz_c.specs.Boxes.{CutsBox}
use Rattle.fz_c.specs.Boxes.CutsBox.{done, none, stopped}
use Rattle.fz_c.proofs.BoxLemmas.{has_box, room_for_box, tiles_stop}
use Rattle.fz_c.proofs.boxes.fz_box.Goals as goal

pub returns-in-Err : goal.returns-in-Err
returns-in-Err c =
    let answer : CutsBox c.args.plan.now c.args.part.now c.args.from c.args.rows.now c.args.at c.args.codes.now (length c.args.numbers.now) c.args.out.now c.args.out.now c.args.tile.now c.args.tile.now (to_z w32 (of_z w32 c.answer.result)) =
    none c.in-Err.why (search rules) refl c.in-Err.ensures in
    record { answer = answer }

pub returns-in-Err-cut_box : goal.returns-in-Err-cut_box
returns-in-Err-cut_box c =
    let plan = c.args.plan.now in
    let part = c.args.part.now in
    let found = c.in-Ok.found in
    let is = c.in-Ok.ensures in
    let stop = c.in-Err-cut_box.stopped in
    let needs = c.box_needs-needs.result in
    let places : needs.places ≤ length c.args.numbers.now = search rules in
    let room : needs.numbers ≤ length c.args.out.now = search rules in
    let answer : CutsBox plan part c.args.from c.args.rows.now c.args.at c.args.codes.now (length c.args.numbers.now) c.args.out.now c.cut_box.new.out c.args.tile.now c.stop.new.tile (to_z w32 (of_z w32 c.stop.result)) =
    stopped stop (search rules) c.stop.ensures.tile is.of (room_for_box plan part found is needs (length c.args.numbers.now) (length c.args.out.now) c.box_needs-needs.ensures places room)
    (tiles_stop plan part found is c.args.from c.args.rows.now c.args.at c.args.codes.now stop c.in-Err-cut_box.ensures.stopped) in
    record { answer = answer }

pub returns-in-Ok-cut_box : goal.returns-in-Ok-cut_box
returns-in-Ok-cut_box c =
    let plan = c.args.plan.now in
    let part = c.args.part.now in
    let found = c.in-Ok.found in
    let is = c.in-Ok.ensures in
    let needs = c.box_needs-needs.result in
    let places : needs.places ≤ length c.args.numbers.now = search rules in
    let room : needs.numbers ≤ length c.args.out.now = search rules in
    let answer : CutsBox plan part c.args.from c.args.rows.now c.args.at c.args.codes.now (length c.args.numbers.now) c.args.out.now c.cut_box.new.out c.args.tile.now c.args.tile.now (pos 0) =
    done refl refl is.of (room_for_box plan part found is needs (length c.args.numbers.now) (length c.args.out.now) c.box_needs-needs.ensures places room)
    (has_box plan part found is c.args.from c.args.rows.now c.args.at c.args.codes.now c.args.out.now c.cut_box.new.out c.in-Ok-cut_box.ensures.slice) in
    record { answer = answer }
