use Rattle.std.proofs.Common.{sym, ap, Some, ◌∙◌, rules}
use Rattle.fz_checks.proofs.JobAnswers.{no-table-to-cut, cards-stop-cut, other-to-cut, packed-to-cut}
use Rattle.fz_checks.proofs.boxes.check_packed.Goals as goal

pub returns-then-not-is_table-clause-exact : goal.returns-then-not-is_table-clause-exact
returns-then-not-is_table-clause-exact c = no-table-to-cut c.args.header.now c.args.buf.now (sym c.is_table.ensures ∙ c.if-not-is_table.true) ∙ ap Some (sym c.refused.ensures)

pub returns-in_err-table_check-clause-exact : goal.returns-in_err-table_check-clause-exact
returns-in_err-table_check-clause-exact c =
    let refused = cards-stop-cut c.args.header.now c.args.buf.now _ (sym c.is_table.ensures ∙ c.if-not-is_table.false) c.in_err-table_check.ensures in
    search (rules, refused)

pub returns-then-not-is_packed-clause-exact : goal.returns-then-not-is_packed-clause-exact
returns-then-not-is_packed-clause-exact c =
    other-to-cut c.args.header.now c.args.buf.now (sym c.is_table.ensures ∙ c.if-not-is_table.false) c.in_ok-table_check.ensures (sym c.is_packed.ensures ∙ c.if-not-is_packed.true) ∙ ap Some (sym c.refused-then-not-is_packed.ensures)

pub returns-clause-exact : goal.returns-clause-exact
returns-clause-exact c = packed-to-cut c.args.header.now c.args.buf.now (sym c.is_table.ensures ∙ c.if-not-is_table.false) c.in_ok-table_check.ensures (sym c.is_packed.ensures ∙ c.if-not-is_packed.false)
