use Rattle.std.proofs.Common.{◌≡◌, ℕ, ◌+◌, ◌/◌, ◌%◌, ◌^◌, sym, ap, ◌∙◌, arith}
use Rattle.std.proofs.lemmas.Nat.{and_mask}
use Rattle.std.specs.Prelude.{bit_and}
use Rattle.fz_sum.specs.Sums.{carried}
use Rattle.fz_sum.proofs.Carries.{carried-small, carried-fold}
use Rattle.fz_sum.proofs.sum.folded.Goals as goal

pub loop-total-smaller : goal.loop-total-smaller
loop-total-smaller c =
    let low : bit_and c.loop-total.total 4294967295 ≡ c.loop-total.total % 2 ^ 32 = and_mask c.loop-total.total 32 in
    omega arith

pub loop-total-preserved : goal.loop-total-preserved
loop-total-preserved c =
    let low : bit_and c.loop-total.total 4294967295 ≡ c.loop-total.total % 2 ^ 32 = and_mask c.loop-total.total 32 in
    ap (λ (n : ℕ). carried (c.loop-total.total / 2 ^ 32 + n)) low ∙ (carried-fold c.loop-total.total (omega arith) ∙ c.loop-total.invariant)

pub returns : goal.returns
returns c = sym (carried-small c.loop-total.total (omega arith)) ∙ c.loop-total.invariant
