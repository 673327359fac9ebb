use Rattle.std.proofs.Common.{Some, sym, subst}
use Rattle.fz_block.specs.declared.axes.Axes.{Axes}
use Rattle.fz_head.specs.Planned.{IsTile}
use Rattle.fz_strict.proofs.Greatest.{greater_is_tile}
use Rattle.fz_strict.proofs.options.greatest_tile.Goals as goal

pub returns-in-Some-clause-tile : goal.returns-in-Some-clause-tile
returns-in-Some-clause-tile c =
    let first : IsTile (Some c.in-Some.found) = subst IsTile c.in-Some.is c.requires.found in
    subst (λ (a : Axes). IsTile (Some a)) (sym c.greater_tile.ensures) (greater_is_tile c.in-Some.found c.args.tile.now first c.requires.tile)
