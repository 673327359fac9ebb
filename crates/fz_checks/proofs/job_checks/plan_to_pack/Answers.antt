use Rattle.std.proofs.Common.{refl, sym, ◌∙◌, rules}
use Rattle.fz_checks.proofs.JobAnswers.{was-packed, copied, plan-refused, planned}
use Rattle.fz_checks.proofs.job_checks.plan_to_pack.Goals as goal

pub returns-in_err-check_unpacked-clause-exact : goal.returns-in_err-check_unpacked-clause-exact
returns-in_err-check_unpacked-clause-exact c =
    let refused = was-packed c.args.options.now c.args.header.now c.args.buf.now _ c.in_err-check_unpacked.ensures in
    search (rules, refused)

pub returns-then-not-is_packable-clause-exact : goal.returns-then-not-is_packable-clause-exact
returns-then-not-is_packable-clause-exact c =
    sym (copied c.args.options.now c.args.header.now c.args.buf.now c.in_ok-check_unpacked.ensures (sym c.is_packable.ensures ∙ c.if-not-is_packable.true))

pub returns-in_err-plan-clause-exact : goal.returns-in_err-plan-clause-exact
returns-in_err-plan-clause-exact c =
    let refused = plan-refused c.args.options.now c.args.header.now c.args.buf.now _ c.in_ok-check_unpacked.ensures (sym c.is_packable.ensures ∙ c.if-not-is_packable.false) (sym c.pack_plan.ensures.exact ∙ c.in_err-plan.was) in
    search (rules, refused)

pub returns-clause-exact : goal.returns-clause-exact
returns-clause-exact c =
    sym (planned c.args.options.now c.args.header.now c.args.buf.now _ c.in_ok-check_unpacked.ensures (sym c.is_packable.ensures ∙ c.if-not-is_packable.false) (sym c.pack_plan.ensures.exact ∙ c.in_ok-plan.was))

pub returns-clause-planned : goal.returns-clause-planned
returns-clause-planned c = record {
  options = c.args.options.now;
  allowed = c.requires.options;
  with_sums = refl;
  packable = sym c.is_packable.ensures ∙ c.if-not-is_packable.false;
  answer = sym c.pack_plan.ensures.exact ∙ c.in_ok-plan.was;
}
