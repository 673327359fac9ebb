-- The zeros at the front, and then the numbers that are equal, are the first run.
use Rattle.std.proofs.Common.{refl, arith}
use Rattle.fz_plio.proofs.NumberLemmas.{runs-zeros_only, runs-next_run}
use Rattle.fz_plio.proofs.run.next_run.Goals as goal

pub returns-then-zeros-numbers-clause-none : goal.returns-then-zeros-numbers-clause-none
returns-then-zeros-numbers-clause-none c = runs-zeros_only c.args.numbers.now c.front_len-zeros.result (omega arith) c.front_len-zeros.ensures.front

pub returns-clause-first : goal.returns-clause-first
returns-clause-first c =
    runs-next_run c.args.numbers.now c.split_at.result.1.now c.split_at-2.result.1.now c.front_len-zeros.result c.front_len-count.result _
    c.requires (omega arith) c.front_len-zeros.ensures.front (c.front_len-zeros.ensures.end (omega arith)) c.split_at.ensures.back refl
    c.front_len-count.ensures.front c.front_len-count.ensures.end c.front_len-count.ensures.within c.split_at-2.ensures.back
