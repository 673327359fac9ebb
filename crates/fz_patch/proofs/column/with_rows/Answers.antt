-- One piece after another.
use Rattle.std.proofs.Common.{rules}
use Rattle.fz_patch.proofs.OtherRows.{piece_counted}
use Rattle.fz_patch.proofs.column.with_rows.Goals as goal

pub loop-done-preserved : goal.loop-done-preserved
loop-done-preserved g c = record {
  held = search rules;
  attached = search rules;
  told = λ told. c.in_ok-greatest.ensures.stays.0.told (c.loop-done.invariant.told told);
  reads = search rules;
  copy = search rules;
  few = search rules;
  counted = piece_counted (g.D.Source.held c.args.store.now) (g.D.Source.held c.loop-done.store) c.args.found.now c.loop-done.greatest c.in_ok-greatest.greatest c.args.table.now c.args.first c.loop-done.done c.min-count.result
      c.loop-done.invariant.held c.loop-done.invariant.counted c.in_ok-greatest.ensures.counted;
}
