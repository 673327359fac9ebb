-- The record is the one that the row says, if that was read.
use Rattle.std.proofs.Common.{◌≡◌, IfOk, Result, Ok, sym, ◌∙◌, subst, arith, rules}
use Rattle.fz_base.specs.declared.fault.Fault.{Fault}
use Rattle.fz_files.specs.Restored.{tile_of}
use Rattle.fz_table.specs.Records.{StandsInHeap}
use Rattle.fz_table.specs.declared.record.Record.{Record}
use Rattle.fz_fetch.proofs.ReadAhead.{follows_in}
use Rattle.fz_fetch.proofs.heap.following.Goals as goal

pub returns-clause-stop : goal.returns-clause-stop
returns-clause-stop c =
    let t = c.args.image.now.table in
    let found : Record = c.in-Ok.record in
    let came : c.record_of.result ≡ Ok found = search rules in
    let stands : StandsInHeap t c.known_tile-known.result found = subst (λ (r : Result Record Fault). IfOk r (StandsInHeap t c.known_tile-known.result)) came
    c.record_of.ensures.within in
    let place : found.start ≡ c.args.at = search rules in
    omega (arith, stands.stop, stands.first, place)

pub returns-clause-told : goal.returns-clause-told
returns-clause-told c = λ held is.
    let t = c.args.image.now.table in
    let found : Record = c.in-Ok.record in
    let came : c.record_of.result ≡ Ok found = search rules in
    let place : found.start ≡ c.args.at = search rules in
    follows_in held c.args.hdu c.args.tile c.args.at t c.row_here-says.result c.known_tile-known.result (tile_of c.args.image.now.plan c.args.tile) found
    c.known_tile-known.ensures.known (c.row_here-says.ensures.told held is) (sym c.record_of.ensures.exact ∙ came) place
