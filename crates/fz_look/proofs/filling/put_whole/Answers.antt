-- A tile is decoded, and its part goes to its place.
use Rattle.std.proofs.Common.{◌≡◌, ℕ, ◌≤◌, List, length, Option, IfSome, Result, Err, sym, subst, rules}
use Rattle.fz_base.specs.Stop.{IfRefused}
use Rattle.fz_base.specs.declared.failure.Stop.{Stop}
use Rattle.fz_grid.specs.Region.{lengths_of}
use Rattle.fz_tile.specs.Pixels.{place_count}
use Rattle.fz_files.specs.Packed.{pixel_bits}
use Rattle.fz_files.specs.Restored.{pixels_of}
use Rattle.fz_job.specs.Clauses.{IsOfSomeRow}
use Rattle.fz_look.proofs.Filled.{never_of, never_ok, said_of, some_row, touched_of, whole_put}
use Rattle.fz_look.proofs.Stretches.{fewer_fit}
use Rattle.fz_look.proofs.filling.put_whole.Goals as goal

pub fetch_tile-requires-clause-said : goal.fetch_tile-requires-clause-said
fetch_tile-requires-clause-said g c = said_of c.args.tile.now.header.now c.args.tile.now.image.now (g.S.Source.held c.args.source.now) c.requires.tile.known

pub place_part-requires-clause-numbers : goal.place_part-requires-clause-numbers
place_part-requires-clause-numbers g c =
    let p = c.args.tile.now.image.now.plan in
    let divided = c.requires.tile.readable.divided in
    let few : pixels_of p c.args.tile.now.number ≤ pixels_of p 0 = c.tile_pixels_law.ensures.most (lengths_of p.shape) (lengths_of p.tile) c.args.tile.now.number (c.shape_law.ensures.tiles p.shape p.tile divided) in
    subst (λ n. place_count (pixel_bits p) (pixels_of p c.args.tile.now.number) ≤ n) (sym c.in_ok-fetch_tile.ensures.stays.1)
    (fewer_fit (pixel_bits p) (pixels_of p c.args.tile.now.number) (pixels_of p 0) (length c.args.numbers.now) few c.requires.rooms.numbers_fit)

pub returns-clause-placed : goal.returns-clause-placed
returns-clause-placed g c =
    whole_put (g.S.Source.held c.args.source.now) c.args.tile.now.header.now c.args.tile.now.image.now c.args.sieve.now c.args.tile.now.number c.fetch_tile.new.numbers c.args.band.now c.place_part.new.out c.requires.tile.number c.requires.tile.known
    c.in_ok-fetch_tile.ensures.fetched c.place_part.ensures.placed

pub returns-clause-stays : goal.returns-clause-stays
returns-clause-stays g c =
    let held : Option (List ℕ) = g.S.Source.held c.args.source.now in
    let h = c.args.tile.now.header.now in
    let i = c.args.tile.now.image.now in (
      record {
        source = c.in_ok-fetch_tile.ensures.stays.0;
        row = tt;
        never = never_ok (Unit {0}) _ held;
        read = touched_of h i held c.args.tile.now.number (g.S.Source.ranges c.args.source.now) (g.S.Source.ranges c.fetch_tile.new.source) c.requires.tile.number c.requires.tile.known
            c.in_ok-fetch_tile.ensures.read;
        cause = search rules;
      },
      search rules,
      search rules,
      search rules,
    )

pub returns-in_err-fetch_tile-clause-stays : goal.returns-in_err-fetch_tile-clause-stays
returns-in_err-fetch_tile-clause-stays g c =
    let held : Option (List ℕ) = g.S.Source.held c.args.source.now in
    let h = c.args.tile.now.header.now in
    let i = c.args.tile.now.image.now in
    let t : ℕ = c.args.tile.now.number in
    let stop : Stop = c.in_err-fetch_tile.field-0.0 in
    let stopped : c.from_residual.result ≡ Err stop = search rules in (
      record {
        source = c.in_err-fetch_tile.ensures.stays.0;
        row = subst (λ (r : Result (Unit {0}) Stop). IfRefused r IsOfSomeRow) (sym stopped) (some_row (Unit {0}) (Unit {0}) stop h.hdu t c.in_err-fetch_tile.ensures.row);
        never = subst (λ (r : Result (Unit {0}) Stop). IfSome held (λ f. IfRefused r (λ x. ⊥))) (sym stopped)
            (never_of h i (Unit {0}) (Unit {0}) held stop t c.requires.tile.number c.requires.tile.known c.in_err-fetch_tile.ensures.fault);
        read = touched_of h i held t (g.S.Source.ranges c.args.source.now) (g.S.Source.ranges c.fetch_tile.new.source) c.requires.tile.number c.requires.tile.known
            c.in_err-fetch_tile.ensures.read;
        cause = search rules;
      },
      search rules,
      search rules,
      search rules,
    )
