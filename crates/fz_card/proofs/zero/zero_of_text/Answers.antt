use Rattle.std.proofs.Common.{sym, ap, ◌∙◌}
use Rattle.std.specs.Prelude.{Some}
use Rattle.fz_card.proofs.ZeroValues.{zero_in-some}
use Rattle.fz_card.proofs.zero.zero_of_text.Goals as goal

pub returns-else-is_empty : goal.returns-else-is_empty
returns-else-is_empty c =
    ap Some c.is_zero_number.ensures ∙ zero_in-some c.args.text.now c.without_sign.result.now (sym c.is_empty.ensures ∙ c.if-is_empty.false) c.without_sign.ensures
