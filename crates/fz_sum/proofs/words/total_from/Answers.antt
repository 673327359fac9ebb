use Rattle.std.proofs.Common.{◌-◌, ◌%◌, length, ap, arith}
use Rattle.fz_sum.proofs.Totals.{total_at-parts}
use Rattle.fz_sum.specs.Pieces.{total_at}
use Rattle.fz_sum.proofs.words.total_from.Goals as goal

pub returns-clause-total : goal.returns-clause-total
returns-clause-total c =
    let rest = c.split_at.result.1.now in
    let parts = total_at-parts c.args.at c.front_len.result (length rest - length rest % 4) c.args.bytes.now rest c.front_len.ensures.within c.front_len.ensures.whole c.split_at.ensures.back (omega arith) (omega arith) in
    let front = ap (total_at (c.args.at % 4)) c.split_at.ensures.front in
    let words = ap (total_at 0) c.split_at-2.ensures.front in
    let tail = ap (total_at 0) c.split_at-2.ensures.back in
    omega (arith, parts, front, words, tail)
