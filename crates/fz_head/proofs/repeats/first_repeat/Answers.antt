use Rattle.std.proofs.Common.{sym, ◌∙◌, arith}
use Rattle.fz_head.specs.Once.{once_names, name_in}
use Rattle.fz_head.proofs.Repeated.{repeat-here, repeat-nowhere, none-repeated}
use Rattle.fz_head.proofs.repeats.first_repeat.Goals as goal

pub returns-then-repeats : goal.returns-then-repeats
returns-then-repeats c =
    repeat-here (once_names c.args.of) (name_in c.args.of) c.args.buf.now c.args.cards c.loop-i.i (omega arith) (sym c.repeats.ensures ∙ c.if-repeats.true) c.loop-i.invariant

pub loop-i-preserved : goal.loop-i-preserved
loop-i-preserved c = none-repeated (once_names c.args.of) (name_in c.args.of) c.args.buf.now c.loop-i.i c.loop-i.invariant (sym c.repeats.ensures ∙ c.if-repeats.false)

pub returns : goal.returns
returns c = repeat-nowhere (once_names c.args.of) (name_in c.args.of) c.args.buf.now c.args.cards (λ k below. c.loop-i.invariant k (omega arith))
