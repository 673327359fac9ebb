use Rattle.std.proofs.Common.{ap, ◌∙◌}
use Rattle.fz_card.specs.Quoted.{quoted}
use Rattle.fz_card.proofs.QuotedTexts.{quoted-nil, quoted-byte, quoted-quote, quoted-closed, if-none}
use Rattle.fz_card.proofs.quoted.first_character.Goals as goal

pub returns-in_err-byte-clause-none : goal.returns-in_err-byte-clause-none
returns-in_err-byte-clause-none c = if-none _ (quoted-nil c.args.text.now c.in_err-byte.ensures.cases)

pub returns-then-byte-ne39-clause-some : goal.returns-then-byte-ne39-clause-some
returns-then-byte-ne39-clause-some c =
    ap quoted c.in_ok-byte.ensures.cases.0 ∙ quoted-byte c.in_ok-byte.byte.now c.in_ok-byte.behind.now c.if-byte-ne39.true

pub returns-in_err-strip_prefix-clause-none : goal.returns-in_err-strip_prefix-clause-none
returns-in_err-strip_prefix-clause-none c =
    if-none _ (quoted-closed c.args.text.now c.in_ok-byte.byte.now c.in_ok-byte.behind.now c.in_ok-byte.ensures.cases.0 c.if-byte-ne39.false c.in_err-strip_prefix.ensures.cases)

pub returns-clause-some : goal.returns-clause-some
returns-clause-some c =
    quoted-quote c.args.text.now c.in_ok-byte.byte.now c.in_ok-byte.behind.now c.in_ok-strip_prefix.field-0.now c.in_ok-byte.ensures.cases.0 c.if-byte-ne39.false c.in_ok-strip_prefix.ensures.cases.0 c.in_ok-strip_prefix.ensures.cases.1
