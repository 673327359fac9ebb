-- Axis by axis.
use Rattle.std.proofs.Common.{ℕ, arith}
use Rattle.fz_target.proofs.NineTables.{lasts_are, steps_are}
use Rattle.fz_target.proofs.find.sieve_of.Goals as goal

pub returns : goal.returns
returns c =
    let r = c.args.region.now in
    let n : ℕ = r.n in
    let same = c.requires.region.same_axes in
    let few = c.requires.few in
    let over = c.loop-i.auto.i-end in
    let all = c.loop-i-test.false in
    let hi = lasts_are c.loop-i.hi r.lo r.len n (omega (arith, same, few)) c.loop-i.invariant.his (omega (arith, same, few)) (omega (arith, same, few))
    (λ k low. c.loop-i.invariant.last k (omega (arith, low, same, over, all))) (λ k low. c.requires.region.positive k (omega (arith, low, same))) (λ k from. c.loop-i.invariant.no_last k (omega (arith, from, same, over, all))) in
    let step = steps_are c.loop-i.step n (omega (arith, same, few)) c.loop-i.invariant.steps (λ k low. c.loop-i.invariant.one k (omega (arith, low, same, over, all))) (λ k from. c.loop-i.invariant.no_step k (omega (arith, from, same, over, all))) in
    λ i. record { n = n; lo = r.lo; hi = hi i; step = step i }
