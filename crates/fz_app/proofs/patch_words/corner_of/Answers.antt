-- Axis by axis.
use Rattle.std.proofs.Common.{ℕ, ◌≤◌, arith}
use Rattle.fz_app.proofs.Corners.{lessened}
use Rattle.fz_app.proofs.patch_words.corner_of.Goals as goal

pub returns : goal.returns
returns c =
    let n : ℕ = c.args.at.now.n in
    let few : n ≤ 9 = c.requires.1 in
    lessened c.loop-i.corner c.args.at.now.len n (omega (arith, few, c.loop-i.invariant.0)) (omega (arith, few)) (λ k within. c.loop-i.invariant.1 k (omega (arith, within)))
