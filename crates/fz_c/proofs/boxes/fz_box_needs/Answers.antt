-- There is no such box.
use Rattle.std.proofs.Common.{rules}
use Rattle.fz_c.specs.Boxes.SaysNeeds.{none}
use Rattle.fz_c.proofs.boxes.fz_box_needs.Goals as goal

pub returns-in-Err-clause-answer : goal.returns-in-Err-clause-answer
returns-in-Err-clause-answer c = none c.in-Err.why (search rules) c.in-Err.ensures
