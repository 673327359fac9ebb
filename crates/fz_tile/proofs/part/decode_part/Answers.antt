use Rattle.std.proofs.Common.{◌*◌, ◌≤◌, All, IfSome, length, Option, Some, None, sym, subst, unsigned_abs, arith}
use Rattle.std.specs.Int.{w32}
use Rattle.std.proofs.lemmas.Int.{to_z-of_z}
use Rattle.fz_bits.specs.Numbers.{IsNumber}
use Rattle.fz_rice.specs.declared.marks.Mark.{Mark}
use Rattle.fz_tile.specs.Parts.{ReadsPart}
use Rattle.fz_tile.proofs.PartLemmas.{Laws, rice_can, reads_part, outside_part}
use Rattle.fz_tile.proofs.part.decode_part.Goals as goal

pub returns-in_err-next-in-Rice-clause-part : goal.returns-in_err-next-in-Rice-clause-part
returns-in_err-next-in-Rice-clause-part c =
    let l = c.marks_law.ensures in
    let laws : Laws = record { eight = c.bytes_law.ensures.eight; last = l.last; on = l.on; next = l.next; never = l.never; moved = l.moved; moved_stop = l.moved_stop } in
    let can = rice_can c.args.codec c.args.bitpix c.in-Rice.block c.in-Rice.bytepix c.in-Rice.is c.requires.codec in
    let n = length c.args.numbers.now in
    let b = unsigned_abs c.args.bitpix in
    subst (λ (r : Option Mark). ReadsPart c.args.codec b c.args.code.now c.args.mark n c.read_part.new.numbers r) (sym c.from_residual.ensures)
    (reads_part laws c.args.codec c.in-Rice.block c.in-Rice.bytepix b c.args.code.now c.args.mark n None c.read_part.new.numbers c.in-Rice.is can.1 can.0.0 c.read_part.auto.numbers c.in_err-next-in-Rice.ensures)

pub returns-in-Ok-clause-part : goal.returns-in-Ok-clause-part
returns-in-Ok-clause-part c =
    let l = c.marks_law.ensures in
    let laws : Laws = record { eight = c.bytes_law.ensures.eight; last = l.last; on = l.on; next = l.next; never = l.never; moved = l.moved; moved_stop = l.moved_stop } in
    let can = rice_can c.args.codec c.args.bitpix c.in-Rice.block c.in-Rice.bytepix c.in-Rice.is c.requires.codec in
    reads_part laws c.args.codec c.in-Rice.block c.in-Rice.bytepix (unsigned_abs c.args.bitpix) c.args.code.now c.args.mark (length c.args.numbers.now) (Some c.in_ok-next-in-Rice.next) c.read_part.new.numbers c.in-Rice.is can.1 can.0.0 c.read_part.auto.numbers c.in_ok-next-in-Rice.ensures

pub returns-in-Err-clause-part : goal.returns-in-Err-clause-part
returns-in-Err-clause-part c =
    let l = c.marks_law.ensures in
    let laws : Laws = record { eight = c.bytes_law.ensures.eight; last = l.last; on = l.on; next = l.next; never = l.never; moved = l.moved; moved_stop = l.moved_stop } in
    let can = rice_can c.args.codec c.args.bitpix c.in-Rice.block c.in-Rice.bytepix c.in-Rice.is c.requires.codec in
    let out = rw (to_z-of_z w32 c.args.bitpix c.ranges.bitpix) at c.in-Err.ensures in
    outside_part laws c.args.codec c.in-Rice.block c.in-Rice.bytepix (unsigned_abs c.args.bitpix) c.args.code.now c.args.mark c.in_ok-next-in-Rice.next (length c.args.numbers.now) c.read_part.new.numbers c.in-Rice.is can.1 can.0.0 c.read_part.auto.numbers c.in_ok-next-in-Rice.ensures out.1

pub returns-in-Ok-clause-place : goal.returns-in-Ok-clause-place
returns-in-Ok-clause-place c =
    let eight = c.bytes_law.ensures.eight c.args.code.now in
    omega (arith, eight, c.in_ok-next-in-Rice.ensures.within)

pub read_part-requires-clause-block : goal.read_part-requires-clause-block
read_part-requires-clause-block c = (rice_can c.args.codec c.args.bitpix c.in-Rice.block c.in-Rice.bytepix c.in-Rice.is c.requires.codec).0

pub read_part-requires-clause-bytepix : goal.read_part-requires-clause-bytepix
read_part-requires-clause-bytepix c = (rice_can c.args.codec c.args.bitpix c.in-Rice.block c.in-Rice.bytepix c.in-Rice.is c.requires.codec).1

pub check_width-requires-clause-size : goal.check_width-requires-clause-size
check_width-requires-clause-size c = rw (to_z-of_z w32 c.args.bitpix c.ranges.bitpix) c.requires.codec.size

pub check_width-requires-clause-width : goal.check_width-requires-clause-width
check_width-requires-clause-width c = (rice_can c.args.codec c.args.bitpix c.in-Rice.block c.in-Rice.bytepix c.in-Rice.is c.requires.codec).1

pub returns-in_err-next-in-Rice-clause-range : goal.returns-in_err-next-in-Rice-clause-range
returns-in_err-next-in-Rice-clause-range c =
    subst (λ (r : Option Mark). IfSome r (λ next. All (IsNumber (unsigned_abs c.args.bitpix)) c.read_part.new.numbers)) (sym c.from_residual.ensures) tt

pub returns-in_err-next-in-Rice-clause-place : goal.returns-in_err-next-in-Rice-clause-place
returns-in_err-next-in-Rice-clause-place c =
    subst (λ (r : Option Mark). IfSome r (λ next. next.bit ≤ 8 * length c.args.code.now)) (sym c.from_residual.ensures) tt

pub returns-in-Ok-clause-range : goal.returns-in-Ok-clause-range
returns-in-Ok-clause-range c = rw (to_z-of_z w32 c.args.bitpix c.ranges.bitpix) at c.in-Ok.ensures
