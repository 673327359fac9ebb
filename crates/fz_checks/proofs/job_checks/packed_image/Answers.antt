use Rattle.std.proofs.Common.{sym, ◌∙◌, rules}
use Rattle.fz_checks.proofs.JobAnswers.{table-refused, image-refused, image-there}
use Rattle.fz_checks.proofs.job_checks.packed_image.Goals as goal

pub returns-in_err-table-clause-exact : goal.returns-in_err-table-clause-exact
returns-in_err-table-clause-exact c =
    let refused = table-refused c.args.header.now c.args.buf.now c.args.after_empty _ (sym c.of.ensures.exact ∙ c.in_err-table.was) in
    search (rules, refused)

pub returns-in_err-plan-clause-exact : goal.returns-in_err-plan-clause-exact
returns-in_err-plan-clause-exact c =
    let refused = image-refused c.args.header.now c.args.buf.now c.args.after_empty _ _ (sym c.of.ensures.exact ∙ c.in_ok-table.was) (sym c.plan_of.ensures.exact ∙ c.in_err-plan.was) in
    search (rules, refused)

pub returns-clause-exact : goal.returns-clause-exact
returns-clause-exact c = (image-there c.args.header.now c.args.buf.now c.args.after_empty _ _ (sym c.of.ensures.exact ∙ c.in_ok-table.was) (sym c.plan_of.ensures.exact ∙ c.in_ok-plan.was)).0

pub returns-clause-said : goal.returns-clause-said
returns-clause-said c = (image-there c.args.header.now c.args.buf.now c.args.after_empty _ _ (sym c.of.ensures.exact ∙ c.in_ok-table.was) (sym c.plan_of.ensures.exact ∙ c.in_ok-plan.was)).1

pub returns-clause-image : goal.returns-clause-image
returns-clause-image c = record {
  planned = record { after_empty = c.args.after_empty; answer = sym c.plan_of.ensures.exact ∙ c.in_ok-plan.was };
  table = sym c.of.ensures.exact ∙ c.in_ok-table.was;
  divided = c.in_ok-plan.ensures.divided;
  readable = c.in_ok-plan.ensures.readable;
  rows = c.in_ok-plan.ensures.rows;
}
