-- What is read for the rows is read for their tiles.
use Rattle.std.proofs.Common.{ℕ, Option, sym, subst}
use Rattle.fz_fetch.specs.Loaded.{CanLoad}
use Rattle.fz_fetch.proofs.LoadedTiles.{rows_alone, rows_then_tiles}
use Rattle.fz_fetch.proofs.loading.load_round.Goals as goal

pub returns-in_err-read_rows-clause-read : goal.returns-in_err-read_rows-clause-read
returns-in_err-read_rows-clause-read g c =
    rows_alone (g.S.Source.held c.args.source.now) c.args.hdu c.args.image.now c.args.tiles.now (g.S.Source.ranges c.args.source.now) (g.S.Source.ranges c.read_rows.new.source) c.read_rows.ensures.read

pub load_tiles-requires-2-clause-round : goal.load_tiles-requires-2-clause-round
load_tiles-requires-2-clause-round g c =
    subst (λ (n : Option ℕ). CanLoad n c.args.image.now c.args.tiles.now c.args.window.now) (sym c.read_rows.ensures.stays.0.attached_is) c.requires.round

pub returns-clause-read : goal.returns-clause-read
returns-clause-read g c =
    rows_then_tiles c.ranges_law.ensures.join (g.S.Source.held c.args.source.now) (g.S.Source.held c.read_rows.new.source) c.args.hdu c.args.image.now c.args.tiles.now
    (g.S.Source.ranges c.args.source.now) (g.S.Source.ranges c.read_rows.new.source) (g.S.Source.ranges c.load_tiles-2.new.source)
    c.read_rows.ensures.stays.0.held_is c.read_rows.ensures.read c.load_tiles-2.ensures.read
