use Rattle.std.proofs.Common.{take, ap, ◌∙◌, arith}
use Rattle.fz_grid.proofs.SieveLists.{counts_list}
use Rattle.fz_grid.proofs.sieve.Sieve.lengths.Goals as goal

pub returns-clause-lengths : goal.returns-clause-lengths
returns-clause-lengths c =
    let sieve = c.args.self.now in
    let lengths = c.loop-i.lengths in
    ap (λ n. take n lengths.len) c.loop-i.invariant.0
    ∙ counts_list lengths.len sieve.lo sieve.hi sieve.step sieve.n (omega arith) (omega arith) (omega arith) (omega arith) (λ i h. c.loop-i.invariant.1 i (omega arith))
