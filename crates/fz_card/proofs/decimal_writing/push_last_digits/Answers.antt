use Rattle.std.proofs.Common.{arith, ap, ◌∙◌, List, ℕ, ◌++◌, ◌-◌, length, length-append}
use Rattle.fz_card.specs.Decimals.{last_digits}
use Rattle.fz_card.proofs.DecimalNumbers.{power-positive, digit-more}
use Rattle.fz_card.proofs.decimal_writing.push_last_digits.Goals as goal

pub nonzero_div-number : goal.nonzero_div-number
nonzero_div-number c = omega (arith, c.power_of_ten.ensures.value, power-positive (c.loop-left.left - 1))

pub loop-left-preserved : goal.loop-left-preserved
loop-left-preserved c =
    let line = c.loop-left.line in
    let pushed = rw c.power_of_ten.ensures.value at c.push.ensures in
    record {
      few = omega arith;
      room = omega (arith, ap length c.push.ensures, length-append {A = ℕ});
      text = ap (λ (l : List ℕ). l ++ last_digits (c.loop-left.left - 1) c.args.number) pushed ∙ (digit-more line c.loop-left.left c.args.number (omega arith) ∙ c.loop-left.invariant.text);
    }
