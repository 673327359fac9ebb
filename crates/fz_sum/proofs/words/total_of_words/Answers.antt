use Rattle.std.proofs.Common.{ap, arith}
use Rattle.fz_sum.proofs.Totals.{total_at-cut_words}
use Rattle.fz_sum.specs.Pieces.{total_at}
use Rattle.fz_sum.proofs.words.total_of_words.Goals as goal

pub loop-words-preserved : goal.loop-words-preserved
loop-words-preserved c =
    let cut = total_at-cut_words 0 16777216 c.loop-words.words.now (omega arith) (omega arith) in
    let front = ap (total_at 0) c.split_at.ensures.front in
    let back = ap (total_at 0) c.split_at.ensures.back in
    record { total = omega (arith, cut, front, back); within = omega arith; whole = omega arith }
