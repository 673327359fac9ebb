-- The record of the tile is the one that its row says.
use Rattle.std.proofs.Common.{◌≡◌, IfOk, Result, Ok, sym, ap, subst, ◌∙◌, arith, rules}
use Rattle.fz_base.specs.declared.fault.Fault.{Fault}
use Rattle.fz_files.specs.Restored.{pixels_of, tile_of}
use Rattle.fz_table.specs.Records.{StandsInHeap}
use Rattle.fz_table.specs.declared.record.Record.{Record}
use Rattle.fz_table.specs.declared.record.Tile.{Tile}
use Rattle.fz_pixels.proofs.Records.{told_found}
use Rattle.fz_pixels.proofs.one.find_tile.Goals as goal

pub returns-clause-found : goal.returns-clause-found
returns-clause-found g c =
    let found = c.in_ok-found.found in
    let came : c.record_of.result ≡ Ok found = search rules in
    told_found (g.S.Source.held c.args.source.now) c.args.hdu c.args.tile c.args.image.now.table c.in_ok-says.says c.known_tile-known.result (tile_of c.args.image.now.plan c.args.tile) found
    c.known_tile-known.ensures.known c.in_ok-says.ensures.exact (sym c.record_of.ensures.exact ∙ came)

pub returns-clause-within : goal.returns-clause-within
returns-clause-within g c =
    let found = c.in_ok-found.found in
    let t = c.args.image.now.table in
    let came : c.record_of.result ≡ Ok found = search rules in
    let stands : StandsInHeap t c.known_tile-known.result found = subst (λ (r : Result Record Fault). IfOk r (StandsInHeap t c.known_tile-known.result)) came c.record_of.ensures.within in
    subst (λ (k : Tile). StandsInHeap t k found) c.known_tile-known.ensures.known stands

pub returns-clause-most : goal.returns-clause-most
returns-clause-most g c =
    let found = c.in_ok-found.found in
    let t = c.args.image.now.table in
    let p = c.args.image.now.plan in
    let came : c.record_of.result ≡ Ok found = search rules in
    let stands : StandsInHeap t c.known_tile-known.result found = subst (λ (r : Result Record Fault). IfOk r (StandsInHeap t c.known_tile-known.result)) came c.record_of.ensures.within in
    let same : c.known_tile-known.result.pixels ≡ pixels_of p c.args.tile = ap (λ (k : Tile). k.pixels) c.known_tile-known.ensures.known in
    omega (arith, stands.most, same, c.known_tile-known.ensures.no_larger)
