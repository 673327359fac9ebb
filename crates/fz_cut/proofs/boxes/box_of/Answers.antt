-- Axis by axis.
use Rattle.std.proofs.Common.{◌≡◌, ℕ, ◌-◌, ◌++◌, take, replicate, arith}
use Rattle.fz_files.specs.Walks.{lengths_between}
use Rattle.fz_cut.proofs.Tables.{between_is, front_and_zeros}
use Rattle.fz_cut.proofs.boxes.box_of.Goals as goal

pub returns-clause-exact : goal.returns-clause-exact
returns-clause-exact c =
    let sieve = c.args.sieve.now in
    let n : ℕ = sieve.n in
    let few = c.requires.axes in
    let front : take n c.loop-i.len ≡ lengths_between (take n sieve.lo) (take n sieve.hi) =
    between_is c.loop-i.len sieve.lo sieve.hi n (omega (arith, few, c.loop-i.invariant.0)) (omega (arith, few)) (omega (arith, few)) (λ k within. c.loop-i.invariant.1 k (omega (arith, within))) in
    let all : c.loop-i.len ≡ lengths_between (take n sieve.lo) (take n sieve.hi) ++ replicate (9 - n) 0 =
    front_and_zeros c.loop-i.len (lengths_between (take n sieve.lo) (take n sieve.hi)) n c.loop-i.invariant.0 front (λ k from. c.loop-i.invariant.2 k (omega (arith, from))) in
    λ i. record { n = n; lo = sieve.lo; len = all i }

pub returns-clause-some : goal.returns-clause-some
returns-clause-some c = record {
  some = c.requires.some;
  few = c.requires.axes;
  positive = λ k within. let one = c.loop-i.invariant.1 k (omega (arith, within)) in omega (arith, one);
}
