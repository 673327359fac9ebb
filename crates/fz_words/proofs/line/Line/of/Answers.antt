use Rattle.std.proofs.Common.{sym, ◌∙◌}
use Rattle.fz_words.proofs.WordLemmas.{line-marked, line-unmarked}
use Rattle.fz_words.proofs.line.Line.of.Goals as goal

pub returns-in-Some : goal.returns-in-Some
returns-in-Some c = line-marked c.args.command c.args.words.now c.in-Some.mark (sym c.mark_in.ensures ∙ c.in-Some.is)

pub returns-in-None : goal.returns-in-None
returns-in-None c = line-unmarked c.args.command c.args.words.now (sym c.mark_in.ensures ∙ c.in-None.is)
