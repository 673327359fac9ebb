use Rattle.std.proofs.Common.{sym, ap, ◌∙◌}
use Rattle.std.specs.Option.{option_copied}
use Rattle.fz_words.proofs.PartLemmas.{get-past, get-there, operands-end}
use Rattle.fz_words.proofs.line.Line.operand.Goals as goal

pub returns-in_err-get : goal.returns-in_err-get
returns-in_err-get c =
    let line = c.args.self.now in
    let left = c.loop-word.left in
    let behind = operands-end _ _ left line.command c.loop-word.before.now line.words.now c.loop-word.word-index c.loop-word-test.false c.loop-word.invariant.1 in
    ap option_copied c.from_residual.ensures ∙ sym (behind ∙ get-past line.others.now left c.in_err-get.ensures.lookup.0)

pub returns : goal.returns
returns c =
    let line = c.args.self.now in
    let left = c.loop-word.left in
    let behind = operands-end _ _ left line.command c.loop-word.before.now line.words.now c.loop-word.word-index c.loop-word-test.false c.loop-word.invariant.1 in
    let found = c.in_ok-get.ensures.lookup in
    sym (behind ∙ get-there line.others.now left c.in_ok-get.field-0.now c.as_str.result.now found.0 found.1 c.as_str.ensures.value)
