-- The run is between what stays.
use Rattle.fz_flat.proofs.PlacedLemmas.{run_inside, run_outside}
use Rattle.fz_flat.proofs.placing.place_run.Goals as goal

pub returns-clause-inside : goal.returns-clause-inside
returns-clause-inside c k low =
    run_inside c.args.width c.args.from c.args.to c.args.count k c.args.numbers.now c.args.out.now c.copy_from_slice.new.self c.copy_from_slice.ensures.after c.requires.inside c.requires.room _ low

pub returns-clause-outside : goal.returns-clause-outside
returns-clause-outside c i apart =
    run_outside c.args.width c.args.from c.args.to c.args.count 0 c.args.numbers.now c.args.out.now c.copy_from_slice.new.self c.copy_from_slice.ensures.after c.requires.inside c.requires.room i apart
