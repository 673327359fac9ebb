-- The greatest common divisor is no greater than a length.
use Rattle.std.proofs.Common.{◌≡◌, ℕ, ◌/◌, ◌≤◌, subst, arith}
use Rattle.std.specs.Int.{IsGcd}
use Rattle.std.proofs.lemmas.Nat.{le-div}
use Rattle.std.proofs.lemmas.Nat.Gcd.{IsGcd-from_mod, IsGcd-from_zero, le_of_dvd}
use Rattle.std.proofs.Math.Nat.{mul-pos}
use Rattle.fz_look.proofs.boxes.common_multiple.Goals as goal

pub loop-small-init : goal.loop-small-init
loop-small-init c = record {
  some = omega (arith, c.from-great.ensures, c.requires.0);
  same = λ g is. subst (λ x. IsGcd x c.args.b g) c.from-great.ensures (subst (λ y. IsGcd c.from-great.result y g) c.from-small.ensures is);
}

pub loop-small-preserved : goal.loop-small-preserved
loop-small-preserved c = record {
  some = c.loop-small-test.true;
  same = λ g is. c.loop-small.invariant.same g (IsGcd-from_mod c.loop-small.great c.loop-small.small g is);
}

pub returns : goal.returns
returns c =
    let great : ℕ = c.loop-small.great in
    let end : c.loop-small.small ≡ 0 = omega (arith, c.loop-small-test.false) in
    let is : IsGcd c.args.a c.args.b great = c.loop-small.invariant.same great (IsGcd-from_zero great c.loop-small.small end) in
    let less : great ≤ c.args.a = le_of_dvd (omega (arith, c.requires.0)) is.0 in
    let one : 1 ≤ c.from.result / great = le-div 1 c.from.result great c.loop-small.invariant.some (omega (arith, less, c.from.ensures)) in
    record { some = mul-pos one (omega (arith, c.from-2.ensures, c.requires.1)) }
