-- Why nothing is said of the front.
use Rattle.std.proofs.Common.{rules, ◌≡◌, sym, to_z, of_z}
use Rattle.std.specs.Int.{w32}
use Rattle.fz_c.specs.Faults.{answer_of}
use Rattle.fz_c.specs.Fronts.{fault_for}
use Rattle.fz_c.proofs.FrontLemmas.{wants_none}
use Rattle.fz_c.proofs.front.fz_front_len.Goals as goal

pub returns-in-Err-clause-answer : goal.returns-in-Err-clause-answer
returns-in-Err-clause-answer c =
    let said : to_z w32 (of_z w32 c.answer.result) ≡ answer_of (fault_for c.in-Err.why) = search rules in
    wants_none c.args.front.now c.args.at.now c.args.more.now c.in-Err.why (to_z w32 (of_z w32 c.answer.result)) (sym c.in-Err.ensures.exact) said
