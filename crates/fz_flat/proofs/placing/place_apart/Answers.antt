-- One pixel more.
use Rattle.std.proofs.Common.{◌∙◌}
use Rattle.fz_flat.proofs.PlacedLemmas.{apart_inside, apart_outside}
use Rattle.fz_flat.proofs.placing.place_apart.Goals as goal

pub loop-k-preserved : goal.loop-k-preserved
loop-k-preserved c =
    let old = c.loop-k.invariant in
    let new = c.place_run.ensures in
    record {
      inside = apart_inside c.args.width c.args.from c.args.step c.args.to c.loop-k.k c.args.numbers.now c.args.out.now c.loop-k.out c.place_run.new.out old.inside new.inside new.outside;
      outside = apart_outside c.args.width c.args.from c.args.step c.args.to c.loop-k.k c.args.numbers.now c.args.out.now c.loop-k.out c.place_run.new.out old.outside new.outside;
      size = new.len ∙ old.size;
    }
