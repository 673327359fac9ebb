use Rattle.std.proofs.Common.{ℕ, ◌+◌, ◌-◌, ◌*◌, ◌%◌, ◌<◌, ◌^◌, sym, ap, arith}
use Rattle.fz_sum.proofs.Totals.{total_at-nil, total_at-next_byte, shifted}
use Rattle.fz_sum.proofs.words.part_total.Goals as goal

pub loop-i-init : goal.loop-i-init
loop-i-init c = record { total = sym (total_at-nil c.args.at); within = omega arith }

pub loop-i-preserved : goal.loop-i-preserved
loop-i-preserved c =
    let next = total_at-next_byte c.args.at c.args.part.now c.loop-i.i c.loop-i-test.true in
    let small : c.from.result < 256 = omega (arith, c.type_inv.part c.loop-i.i) in
    let place : (c.args.at + c.loop-i.i) % 4 < 4 = omega arith in
    let moved = shifted c.from.result ((c.args.at + c.loop-i.i) % 4) small place in
    let e = ap (λ (b : ℕ). 256 ^ (3 - (c.args.at + c.loop-i.i) % 4) * b) c.from.ensures in
    record { total = omega (arith, next, moved.0, e); within = omega (arith, moved.0, moved.1) }
