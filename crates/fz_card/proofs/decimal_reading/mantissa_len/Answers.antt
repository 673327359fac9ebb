use Rattle.std.proofs.Common.{arith, sym, ◌∙◌}
use Rattle.fz_card.specs.DecimalScans.{is_letter}
use Rattle.fz_card.proofs.DecimalScans.{parts-at}
use Rattle.fz_card.proofs.decimal_reading.mantissa_len.Goals as goal

pub returns-else-not-is_letter-clause-before : goal.returns-else-not-is_letter-clause-before
returns-else-not-is_letter-clause-before c = (parts-at is_letter c.args.text.now c.loop-len.len c.loop-len.invariant.within c.loop-len.invariant.none (λ more. sym c.is_letter.ensures ∙ c.if-not-is_letter.false)).0

pub returns-else-not-is_letter-clause-behind : goal.returns-else-not-is_letter-clause-behind
returns-else-not-is_letter-clause-behind c = (parts-at is_letter c.args.text.now c.loop-len.len c.loop-len.invariant.within c.loop-len.invariant.none (λ more. sym c.is_letter.ensures ∙ c.if-not-is_letter.false)).1

pub returns-after-loop-len-clause-before : goal.returns-after-loop-len-clause-before
returns-after-loop-len-clause-before c = (parts-at is_letter c.args.text.now c.loop-len.len c.loop-len.invariant.within c.loop-len.invariant.none (λ more. absurd (omega arith))).0

pub returns-after-loop-len-clause-behind : goal.returns-after-loop-len-clause-behind
returns-after-loop-len-clause-behind c = (parts-at is_letter c.args.text.now c.loop-len.len c.loop-len.invariant.within c.loop-len.invariant.none (λ more. absurd (omega arith))).1
