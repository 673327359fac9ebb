use Rattle.std.proofs.Common.{sym, ◌∙◌}
use Rattle.fz_words.proofs.DigitLemmas.{digits-read}
use Rattle.fz_words.proofs.number.digits_in.Goals as goal

pub returns : goal.returns
returns c = digits-read c.args.text.now c.ok.result c.parse.result c.ok.ensures.value c.parse.ensures.value.0 (sym c.is_short_numeral.ensures ∙ c.if-not-is_short_numeral.false)
