use Rattle.std.proofs.Common.{arith, sym, ◌∙◌}
use Rattle.fz_card.specs.DecimalScans.{is_point}
use Rattle.fz_card.proofs.DecimalScans.{parts-at}
use Rattle.fz_card.proofs.decimal_reading.front_len.Goals as goal

pub returns-else-not-is_point-clause-before : goal.returns-else-not-is_point-clause-before
returns-else-not-is_point-clause-before c = (parts-at is_point c.args.text.now c.loop-len.len c.loop-len.invariant.within c.loop-len.invariant.none (λ more. sym c.is_point.ensures ∙ c.if-not-is_point.false)).0

pub returns-else-not-is_point-clause-behind : goal.returns-else-not-is_point-clause-behind
returns-else-not-is_point-clause-behind c = (parts-at is_point c.args.text.now c.loop-len.len c.loop-len.invariant.within c.loop-len.invariant.none (λ more. sym c.is_point.ensures ∙ c.if-not-is_point.false)).1

pub returns-after-loop-len-clause-before : goal.returns-after-loop-len-clause-before
returns-after-loop-len-clause-before c = (parts-at is_point c.args.text.now c.loop-len.len c.loop-len.invariant.within c.loop-len.invariant.none (λ more. absurd (omega arith))).0

pub returns-after-loop-len-clause-behind : goal.returns-after-loop-len-clause-behind
returns-after-loop-len-clause-behind c = (parts-at is_point c.args.text.now c.loop-len.len c.loop-len.invariant.within c.loop-len.invariant.none (λ more. absurd (omega arith))).1
