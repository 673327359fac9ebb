use Rattle.std.proofs.Common.{◌≡◌, sym, ap, ◌∙◌, subst, arith}
use Rattle.fz_head.specs.Along.{smaller_of}
use Rattle.fz_head.specs.PackedPlan.{parameter_in, parameter_number}
use Rattle.fz_head.specs.Written.{first_cards}
use Rattle.fz_checks.proofs.LeastNumbers.{IsFew, number-more, parameter-few, smaller-few}
use Rattle.fz_checks.proofs.packed_rice.least_number.Goals as goal

pub loop-i-preserved : goal.loop-i-preserved
loop-i-preserved c =
    let text = c.args.text.now in
    let buf = c.args.buf.now in
    let i = c.loop-i.i in
    let next = c.parameter_in.result in
    record {
      number = c.smaller-best.ensures
          ∙ (ap (λ o. smaller_of o next) c.loop-i.invariant.number
          ∙ (ap (smaller_of (parameter_number text (first_cards buf i))) (c.parameter_in.ensures ∙ ap (parameter_in text) c.card.ensures) ∙ sym (number-more text buf i)));
      few = subst IsFew (sym c.smaller-best.ensures) (smaller-few c.loop-i.best next c.loop-i.invariant.few (subst IsFew (sym c.parameter_in.ensures) (parameter-few text c.card.result.bytes)));
    }

pub returns-clause-number : goal.returns-clause-number
returns-clause-number c =
    let at_end : c.loop-i.i ≡ c.args.cards = omega arith in
    c.loop-i.invariant.number ∙ ap (λ n. parameter_number c.args.text.now (first_cards c.args.buf.now n)) at_end
