-- One row after another.
use Rattle.std.proofs.Common.{◌≡◌, ◌+◌, ◌*◌, ◌≤◌, length, length-take-le, arith, rules}
use Rattle.fz_base.specs.Source.{Reads}
use Rattle.fz_table.specs.Rows.{row_start}
use Rattle.std.proofs.Math.Nat.{mul-le-mul_left}
use Rattle.fz_patch.proofs.OtherRows.{row_counted}
use Rattle.fz_patch.proofs.column.with_neighbours.Goals as goal

pub loop-i-preserved : goal.loop-i-preserved
loop-i-preserved g c =
    let t = c.args.table.now in
    let held = g.D.Source.held c.args.store.now in
    let rows = c.read_at.new.into in
    let read : Reads held (row_start t c.args.first) rows = search rules in
    let most : t.row_bytes * (c.loop-i.i + 1) ≤ t.row_bytes * c.args.count = mul-le-mul_left t.row_bytes (omega (arith, c.loop-i-test.true)) in
    row_counted c.row_in_law.ensures held c.args.found.now c.loop-i.greatest c.with_row-greatest.result t c.args.first c.loop-i.i rows c.row_in.result c.requires.table read
    (omega (arith, most, c.read_at.auto.into, length-take-le (t.row_bytes * c.args.count) c.args.copy.now c.requires.copy)) c.loop-i.invariant c.row_in.ensures.exact c.with_row-greatest.ensures
