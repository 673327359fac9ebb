-- One record more that begins where the run ends.
use Rattle.std.proofs.Common.{◌<◌, inl, inr, refl, arith, rules}
use Rattle.fz_fetch.proofs.ReadAhead.{first_of_run, run_longer}
use Rattle.fz_fetch.proofs.heap.run_len.Goals as goal

pub loop-next-init : goal.loop-next-init
loop-next-init c = record {
  least = omega arith;
  stop = omega (arith, c.requires.found.first, c.requires.found.stop);
  room = inl refl;
  told = λ held is chosen. first_of_run held c.args.hdu c.args.image.now c.args.tile c.args.found.now
      (omega (arith, c.requires.image.rows, c.requires.tile)) chosen;
}

pub following-requires-clause-tile : goal.following-requires-clause-tile
following-requires-clause-tile c =
    let near : c.loop-next.next < c.args.image.now.table.rows = search rules in
    omega (arith, near, c.requires.image.rows)

pub loop-next-preserved : goal.loop-next-preserved
loop-next-preserved c =
    let near : c.loop-next.next < c.args.image.now.table.rows = search rules in
    record {
      least = omega (arith, c.loop-next.invariant.least);
      stop = omega (arith, c.in-Some.ensures.stop);
      room = inr (search rules);
      told = λ held is chosen.
          run_longer held c.args.hdu c.args.image.now c.loop-next.next c.args.found.now.start c.loop-next.run c.in-Some.read near
          (c.loop-next.invariant.told held is chosen) (c.in-Some.ensures.told held is);
    }
