-- One record more.
use Rattle.std.proofs.Common.{rules, ◌≡◌, ◌+◌, List, ℕ, ◌∷◌, set, sym, ◌∙◌, subst, refl, Err, IfErr, length-set}
use Rattle.std.specs.List.{AllByRecursion}
use Rattle.fz_grid.specs.SieveWalks.{sieve_tiles_left}
use Rattle.fz_flat.specs.Boxes.{RowsStop, picked_in}
use Rattle.fz_flat.specs.Cutting.{HasPick}
use Rattle.fz_flat.specs.declared.record.FzRecord.{FzRecord}
use Rattle.fz_flat.proofs.BoxLemmas.{IsListing, all_listed, more_listed, row_stops}
use Rattle.fz_flat.proofs.reads.list_reads.Goals as goal

pub returns-in_err-found-clause-stopped : goal.returns-in_err-found-clause-stopped
returns-in_err-found-clause-stopped c =
    let image = c.args.image.now in
    let picked : List ℕ = picked_in image.plan c.args.sieve.now in
    let stop = c.in_err-found.field-0.0 in
    let stopped : c.from_residual.result ≡ Err stop = search rules in
    let here = c.in_err-found.ensures.stops in
    subst (λ r. IfErr r (RowsStop image c.args.from c.args.rows.now picked)) (sym stopped)
    (row_stops image c.args.from c.args.rows.now picked c.args.reads.now (sieve_tiles_left c.loop-tile.tile-iterator) (sieve_tiles_left c.next.new.self) c.in-Some.tile c.loop-tile.count c.loop-tile.reads stop
    c.loop-tile.invariant.listing c.in-Some.ensures.steps here)

pub loop-tile-preserved : goal.loop-tile-preserved
loop-tile-preserved c =
    let image = c.args.image.now in
    let picked : List ℕ = picked_in image.plan c.args.sieve.now in
    let old = c.loop-tile.invariant in
    let next : sieve_tiles_left c.loop-tile.tile-iterator ≡ c.in-Some.tile ∷ sieve_tiles_left c.next.new.self = c.in-Some.ensures.steps in
    let more = more_listed image c.args.from c.args.rows.now picked c.args.reads.now (sieve_tiles_left c.loop-tile.tile-iterator) (sieve_tiles_left c.next.new.self) c.in-Some.tile c.loop-tile.count c.loop-tile.reads
    c.in_ok-found.found old.listing next c.in_ok-found.ensures.said (c.loop-tile.count + 1) refl in
    record {
      picked = (subst (AllByRecursion (HasPick image.plan c.args.sieve.now)) next old.picked).1;
      size = length-set c.loop-tile.reads c.loop-tile.count c.flat_record.result ∙ old.size;
      listing = subst (λ (y : FzRecord). IsListing image c.args.from c.args.rows.now picked c.args.reads.now (sieve_tiles_left c.next.new.self) (c.loop-tile.count + 1) (set c.loop-tile.reads c.loop-tile.count y)) (sym c.flat_record.ensures) more;
    }

pub returns-clause-listed : goal.returns-clause-listed
returns-clause-listed c =
    let image = c.args.image.now in
    all_listed image c.args.from c.args.rows.now (picked_in image.plan c.args.sieve.now) c.args.reads.now (sieve_tiles_left c.loop-tile.tile-iterator) c.loop-tile.count c.loop-tile.reads c.loop-tile.invariant.listing c.in-None.ensures.steps.0
