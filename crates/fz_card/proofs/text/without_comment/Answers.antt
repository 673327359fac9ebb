use Rattle.std.proofs.Common.{sym}
use Rattle.fz_card.proofs.PlainText.{before_comment-found, before_comment-none}
use Rattle.fz_card.proofs.text.without_comment.Goals as goal

pub returns-in-Some : goal.returns-in-Some
returns-in-Some c = before_comment-found c.args.field.now c.in-Some.start (sym c.in-Some.ensures)

pub returns-in-None : goal.returns-in-None
returns-in-None c = before_comment-none c.args.field.now (sym c.in-None.ensures)
