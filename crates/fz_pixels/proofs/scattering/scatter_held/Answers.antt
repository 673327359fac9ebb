-- One tile after another.
use Rattle.std.proofs.Common.{◌≡◌, ℕ, ℤ, ◌<◌, List, [], length, slice_index, slice_index_or, Option, sym, ap, ◌∙◌, subst, ◌≢◌, arith, rules}
use Rattle.std.specs.Prelude.{IsTrue}
use Rattle.fz_pool.specs.declared.slot.Slot.{Slot as SlotOf}
use Rattle.fz_job.specs.Held.{settled}
use Rattle.fz_fetch.specs.Fetched.{HasTile}
use Rattle.fz_pixels.specs.Scattered.{tile_written}
use Rattle.fz_pixels.proofs.ScatteredRounds.{tiles_next}
use Rattle.fz_pixels.proofs.scattering.scatter_held.Goals as goal

pub scatter_next-requires-clause-tile : goal.scatter_next-requires-clause-tile
scatter_next-requires-clause-tile g c = record {
  created = subst IsTrue (sym c.loop-i.invariant.created) c.requires.created;
  behind = c.requires.behind;
  near = c.requires.near;
  divided = c.requires.divided;
  size = c.requires.size;
  known = c.requires.tiles c.loop-i.i (omega (arith, c.loop-i-test.true));
}

pub scatter_next-requires-clause-pixels : goal.scatter_next-requires-clause-pixels
scatter_next-requires-clause-pixels g c =
    let i : ℕ = c.loop-i.i in
    let have = c.requires.pixels in
    let xs : List ℤ = slice_index_or have.0 i [] in
    let near : i < length c.args.tiles.now = omega (arith, c.loop-i-test.true) in (
      xs,
      λ d. subst (λ (x : SlotOf). HasTile c.args.plan.now (slice_index c.args.tiles.now i) x xs) (sym (c.loop-i.invariant.left i d (omega arith)))
          (have.1.each i d [] near),
    )

pub loop-i-preserved : goal.loop-i-preserved
loop-i-preserved g c =
    let i : ℕ = c.loop-i.i in
    let near : i < length c.args.tiles.now = omega (arith, c.loop-i-test.true) in
    record {
      created = search rules;
      counts = search rules;
      shut = search rules;
      told = search rules;
      workers = search rules;
      sizes = search rules;
      kept = c.in_ok-scatter_next.ensures.kept;
      room = c.in_ok-scatter_next.ensures.stays.2 ∙ c.loop-i.invariant.room;
      left = λ k d from.
          let apart : k ≢ i = λ same. omega (arith, from, same) in
          c.in_ok-scatter_next.ensures.others k d apart ∙ c.loop-i.invariant.left k d (omega (arith, from));
      done = λ pixels have.
          let xs : List ℤ = slice_index_or pixels i [] in
          let now : settled c.scatter_next.new.back c.scatter_next.new.held (g.K.Sink.contents c.scatter_next.new.sink)
          ≡ tile_written c.args.plan.now c.args.data_at (slice_index c.args.tiles.now i) xs
          (settled c.loop-i.back c.loop-i.held (g.K.Sink.contents c.loop-i.sink)) =
          c.in_ok-scatter_next.ensures.written xs (λ d. subst (λ (x : SlotOf). HasTile c.args.plan.now (slice_index c.args.tiles.now i) x xs)
          (sym (c.loop-i.invariant.left i d (omega arith))) (have.each i d [] near)) in
          now ∙ ap (λ (x : Option (List ℕ)). tile_written c.args.plan.now c.args.data_at (slice_index c.args.tiles.now i) xs x)
          (c.loop-i.invariant.done pixels have)
          ∙ sym (tiles_next c.args.plan.now c.args.data_at i c.args.tiles.now pixels []
          (settled c.args.back.now c.args.held.now (g.K.Sink.contents c.args.sink.now)) near have.count);
    }
