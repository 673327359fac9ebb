use Rattle.std.proofs.Common.{length, ap, arith}
use Rattle.fz_card.proofs.QuotedTexts.{length-skip_blanks}
use Rattle.fz_card.proofs.quoted.quoted_text.Goals as goal

pub closed_text-requires : goal.closed_text-requires
closed_text-requires c =
    omega (arith, c.in_ok-strip_prefix.ensures.cases.2, ap length c.without_first_blanks.ensures, length-skip_blanks c.args.field.now, c.requires)
