-- The plan by which `pack` packs the restored image is that of the table.
use Rattle.std.proofs.Common.{◌≡◌, ◌^◌, Ok, Some, sym, ◌∙◌, subst, arith, rules}
use Rattle.fz_block.specs.Checks.{header_of}
use Rattle.fz_head.specs.Conditions.{IsPackPlan}
use Rattle.fz_checks.specs.JobChecks.{plan_to_pack}
use Rattle.fz_head.specs.declared.plan.Plan.{Plan}
use Rattle.fz_strict.proofs.Pieces.{not_both}
use Rattle.fz_strict.proofs.PlansMade.{no_plan}
use Rattle.fz_strict.proofs.headers.image_header.Goals as goal

pub returns-in-Ok-Some-clause-packs : goal.returns-in-Ok-Some-clause-packs
returns-in-Ok-Some-clause-packs c =
    let same : c.in-Ok-Some.made ≡ c.args.plan.now = c.is_plan.ensures.same c.if-is_plan.true in
    let made : plan_to_pack c.args.options.now c.in-Ok.header c.args.buf.now ≡ Ok (Some c.in-Ok-Some.made) = search rules in
    subst (λ (p : Plan). plan_to_pack c.args.options.now c.in-Ok.header c.args.buf.now ≡ Ok (Some p)) same made

pub returns-in-Ok-Some-clause-plan : goal.returns-in-Ok-Some-clause-plan
returns-in-Ok-Some-clause-plan c =
    let same : c.in-Ok-Some.made ≡ c.args.plan.now = c.is_plan.ensures.same c.if-is_plan.true in
    let made : IsPackPlan c.args.buf.now c.in-Ok.header c.args.options.now.sums c.in-Ok-Some.made = search rules in
    subst (IsPackPlan c.args.buf.now c.in-Ok.header c.args.options.now.sums) same made

pub returns-in_default-plan_to_pack-clause-none : goal.returns-in_default-plan_to_pack-clause-none
returns-in_default-plan_to_pack-clause-none c = λ _ within simple h found planned.
    let made : plan_to_pack c.args.options.now c.in-Ok.header c.args.buf.now ≡ Ok (Some c.in-Ok-Some.made) = search rules in
    let there : header_of c.args.origin.now.hdus c.args.origin.now.end (2 ^ 62) c.args.buf.now ≡ Ok c.in-Ok.header = search rules in
    no_plan c.args.options.now c.args.origin.now.hdus c.args.origin.now.end (2 ^ 62) c.args.buf.now c.in-Ok.header h c.in-Ok-Some.made c.args.plan.now there made
    (λ same. not_both (sym (c.is_plan.ensures.other same) ∙ c.if-is_plan.false)) found planned

pub lacks_simple-requires : goal.lacks_simple-requires
lacks_simple-requires c = let b = c.requires.blocks in omega (arith, b.1, b.3)

pub returns-then-lacks_simple-clause-none : goal.returns-then-lacks_simple-clause-none
returns-then-lacks_simple-clause-none c = λ _ within simple h found planned.
    let so = c.lacks_simple.ensures.so c.if-lacks_simple.true in
    not_both (sym (simple so.0) ∙ so.1)
