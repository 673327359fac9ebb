-- Why nothing is said of the HDU.
use Rattle.std.proofs.Common.{rules, ◌≡◌, sym, to_z, of_z}
use Rattle.std.specs.Int.{w32}
use Rattle.fz_c.specs.Faults.{answer_of}
use Rattle.fz_c.specs.Fronts.{fault_for}
use Rattle.fz_c.proofs.FrontLemmas.{says_no_hdu}
use Rattle.fz_c.proofs.front.fz_hdu.Goals as goal

pub returns-in-Err-clause-answer : goal.returns-in-Err-clause-answer
returns-in-Err-clause-answer c =
    let said : to_z w32 (of_z w32 c.told.result) ≡ answer_of (fault_for c.in-Err.why) = search rules in
    says_no_hdu c.args.front.now c.args.at.now c.args.hdu.now c.args.fault.now c.told.new.fault c.in-Err.why (to_z w32 (of_z w32 c.told.result)) (sym c.in-Err.ensures) said c.told.ensures.fault
