-- The plan of the image, or why nothing is said of it.
use Rattle.std.proofs.Common.{rules, ◌≡◌, refl, sym, to_z, of_z}
use Rattle.std.specs.Int.{w32}
use Rattle.fz_c.specs.Faults.{answer_of}
use Rattle.fz_c.specs.Fronts.{fault_for}
use Rattle.fz_c.specs.Fronts.SaysPlan.{done}
use Rattle.fz_c.proofs.FrontLemmas.{says_no_plan}
use Rattle.fz_c.proofs.front.fz_plan.Goals as goal

pub returns-in-Ok-clause-answer : goal.returns-in-Ok-clause-answer
returns-in-Ok-clause-answer c = done refl c.in-Ok.image (sym c.in-Ok.ensures.exact) c.plan_of.ensures refl

pub returns-in-Err-clause-answer : goal.returns-in-Err-clause-answer
returns-in-Err-clause-answer c =
    let said : to_z w32 (of_z w32 c.told.result) ≡ answer_of (fault_for c.in-Err.why) = search rules in
    says_no_plan c.args.front.now c.args.at.now c.args.plan.now c.args.fault.now c.told.new.fault c.in-Err.why (to_z w32 (of_z w32 c.told.result)) (sym c.in-Err.ensures.exact) said c.told.ensures.fault
