-- The lengths of the part, and zeros after them.
use Rattle.std.proofs.Common.{◌≡◌, ℕ, ◌-◌, ◌++◌, take, replicate, sym, ap, ◌∙◌, arith}
use Rattle.fz_grid.specs.Sieve.{sieve_lengths}
use Rattle.fz_cut.proofs.Tables.{front_and_zeros}
use Rattle.fz_cut.proofs.boxes.picked_region.Goals as goal

pub returns : goal.returns
returns c =
    let sieve = c.args.sieve.now in
    let n : ℕ = sieve.n in
    let lengths = c.lengths-lengths.result in
    let same : lengths.n ≡ n = c.lengths-lengths.ensures.axes in
    let front : take n lengths.len ≡ sieve_lengths sieve = ap (λ m. take m lengths.len) (sym same) ∙ c.lengths-lengths.ensures.lengths in
    let all : lengths.len ≡ sieve_lengths sieve ++ replicate (9 - n) 0 =
    front_and_zeros lengths.len (sieve_lengths sieve) n (omega arith) front (λ k from. c.lengths-lengths.ensures.zero k (omega (arith, from, same))) in
    λ i. record { n = n; lo = sieve.lo; len = all i }
