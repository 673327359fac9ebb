-- The rows before each tile with a pixel in the box, and those after the last.
use Rattle.std.proofs.Common.{◌≡◌, ◌+◌, ◌-◌, ◌^◌, ◌<◌, IfSome, refl, sym, subst, arith, rules}
use Rattle.fz_grid.specs.SieveWalks.{sieve_tiles_left}
use Rattle.fz_target.specs.Measures.{counted_rows}
use Rattle.fz_patch.proofs.OtherRows.{next_row, others_begin, others_result, others_step}
use Rattle.fz_patch.proofs.TilesLeft.{given_tiles}
use Rattle.fz_patch.proofs.column.with_other_rows.Goals as goal

pub loop-tile-init : goal.loop-tile-init
loop-tile-init g c =
    let t = c.args.target.now in
    let tiles = given_tiles c.into_iter-tile-iterator.result c.tiles_in_box-tile-items.result _ c.into_iter-tile-iterator.ensures.into_iter_gives c.tiles_in_box-tile-items.ensures.tiles in
    record {
      held = refl;
      attached = refl;
      told = λ told. told;
      reads = refl;
      copy = refl;
      others = others_begin t.image.plan t.sieve t.image.table c.args.found.now (g.D.Source.held c.args.store.now) (sieve_tiles_left c.into_iter-tile-iterator.result) c.requires.target.readable.rows (sym tiles);
    }

pub with_rows-requires-clause-rows : goal.with_rows-requires-clause-rows
with_rows-requires-clause-rows g c =
    let t = c.args.target.now in
    let next = next_row t.image.plan t.sieve t.image.table c.args.found.now (g.D.Source.held c.args.store.now) c.loop-tile.greatest c.loop-tile.first c.in-Some.tile (sieve_tiles_left c.loop-tile.tile-iterator) (sieve_tiles_left c.next.new.self)
    c.in-Some.ensures.steps c.loop-tile.invariant.others in
    (next.0, omega (arith, next.1))

pub overflow_add-first : goal.overflow_add-first
overflow_add-first g c =
    let t = c.args.target.now in
    let next = next_row t.image.plan t.sieve t.image.table c.args.found.now (g.D.Source.held c.args.store.now) c.loop-tile.greatest c.loop-tile.first c.in-Some.tile (sieve_tiles_left c.loop-tile.tile-iterator) (sieve_tiles_left c.next.new.self)
    c.in-Some.ensures.steps c.loop-tile.invariant.others in
    let few : t.image.table.rows < 2 ^ 31 = subst (λ n. n < 2 ^ 31) (sym c.requires.target.readable.rows) c.requires.target.readable.divided.tiles in
    omega (arith, next.1, few)

pub loop-tile-preserved : goal.loop-tile-preserved
loop-tile-preserved g c =
    let t = c.args.target.now in
    record {
      held = search rules;
      attached = search rules;
      told = λ told. c.in_ok-greatest.ensures.stays.0.told (c.loop-tile.invariant.told told);
      reads = search rules;
      copy = search rules;
      others = others_step t.image.plan t.sieve t.image.table c.args.found.now (g.D.Source.held c.args.store.now) c.loop-tile.greatest c.in_ok-greatest.greatest c.loop-tile.first c.in-Some.tile (sieve_tiles_left c.loop-tile.tile-iterator) (sieve_tiles_left c.next.new.self)
          c.in-Some.ensures.steps (subst (λ h. IfSome h (λ f. c.in_ok-greatest.greatest ≡ counted_rows c.loop-tile.greatest f t.image.table c.loop-tile.first (c.in-Some.tile - c.loop-tile.first))) c.loop-tile.invariant.held c.in_ok-greatest.ensures.counted) c.loop-tile.invariant.others;
    }

pub returns-clause-all : goal.returns-clause-all
returns-clause-all g c =
    let t = c.args.target.now in
    others_result t.image.plan t.sieve t.image.table c.args.found.now (g.D.Source.held c.args.store.now) (g.D.Source.held c.loop-tile.store) c.loop-tile.greatest c.loop-tile.first (sieve_tiles_left c.loop-tile.tile-iterator) c.with_rows-2.result
    c.requires.target.readable.rows c.in-None.ensures.steps.0 c.loop-tile.invariant.held c.with_rows-2.ensures.counted c.loop-tile.invariant.others
