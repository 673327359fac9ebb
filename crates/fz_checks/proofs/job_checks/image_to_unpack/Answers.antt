use Rattle.std.proofs.Common.{sym, ◌∙◌, rules}
use Rattle.fz_checks.proofs.JobAnswers.{cards-refused, no-image, other-table, packed-refused, packed-there}
use Rattle.fz_checks.proofs.job_checks.image_to_unpack.Goals as goal

pub returns-then-not-is_table-clause-exact : goal.returns-then-not-is_table-clause-exact
returns-then-not-is_table-clause-exact c = sym (no-image c.args.header.now c.args.buf.now c.args.after_empty (sym c.is_table.ensures ∙ c.if-not-is_table.true))

pub returns-in_err-table_check-clause-exact : goal.returns-in_err-table_check-clause-exact
returns-in_err-table_check-clause-exact c =
    let refused = cards-refused c.args.header.now c.args.buf.now c.args.after_empty _ (sym c.is_table.ensures ∙ c.if-not-is_table.false) c.in_err-table_check.ensures in
    search (rules, refused)

pub returns-then-not-is_packed-clause-exact : goal.returns-then-not-is_packed-clause-exact
returns-then-not-is_packed-clause-exact c =
    sym (other-table c.args.header.now c.args.buf.now c.args.after_empty (sym c.is_table.ensures ∙ c.if-not-is_table.false) c.in_ok-table_check.ensures (sym c.is_packed.ensures ∙ c.if-not-is_packed.true))

pub returns-in_err-image-clause-exact : goal.returns-in_err-image-clause-exact
returns-in_err-image-clause-exact c =
    let refused = packed-refused c.args.header.now c.args.buf.now c.args.after_empty _ (sym c.is_table.ensures ∙ c.if-not-is_table.false) c.in_ok-table_check.ensures (sym c.is_packed.ensures ∙ c.if-not-is_packed.false) c.in_err-image.ensures.exact in
    search (rules, refused)

pub returns-clause-exact : goal.returns-clause-exact
returns-clause-exact c =
    sym (packed-there c.args.header.now c.args.buf.now c.args.after_empty _ (sym c.is_table.ensures ∙ c.if-not-is_table.false) c.in_ok-table_check.ensures (sym c.is_packed.ensures ∙ c.if-not-is_packed.false) c.in_ok-image.ensures.exact c.in_ok-image.ensures.said)
