use Rattle.std.proofs.Common.{length, sym, ◌∙◌, arith, refl}
use Rattle.fz_block.specs.Checks.{unjudged}
use Rattle.fz_block.proofs.Going.{stops_there}
use Rattle.fz_block.proofs.OneList.{one_list}
use Rattle.fz_block.proofs.Passing.{walk_passes, are_hdus, passes_moved, passes_numbered}
use Rattle.fz_block.proofs.Stops.{other_walk, passes_too, whole_parts}
use Rattle.fz_block.proofs.Walks.{walked}
use Rattle.fz_block.proofs.laws.passing_law.Goals as goal

pub returns-clause-parts : goal.returns-clause-parts
returns-clause-parts c = λ start len hs pass. record { parts = refl; each = are_hdus 0 start len hs pass }

pub returns-clause-walk : goal.returns-clause-walk
returns-clause-walk c = λ most file hs parts some few pass.
    let found = walk_passes 0 0 most file hs (sym parts) (omega arith) some few pass in
    let w = walked unjudged most 0 0 file _ (omega arith) found in
    (found, one_list 0 _ hs w.each (are_hdus 0 0 (length file) hs pass) (whole_parts 0 most file _ w ∙ sym parts))

pub returns-clause-judged : goal.returns-clause-judged
returns-clause-judged c = λ judge most file hs is pass never. other_walk unjudged judge most 0 0 file hs is (passes_too judge hs pass never)

pub returns-clause-stopped : goal.returns-clause-stopped
returns-clause-stopped c = λ judge most file hs later h is pass never stop. stops_there judge most 0 0 file hs later h is pass never stop

pub returns-clause-moved : goal.returns-clause-moved
returns-clause-moved c = passes_moved

pub returns-clause-numbered : goal.returns-clause-numbered
returns-clause-numbered c = passes_numbered
