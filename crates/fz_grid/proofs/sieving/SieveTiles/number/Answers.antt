use Rattle.std.proofs.Common.{◌≡◌, take, ap, sym, ◌∙◌, arith}
use Rattle.fz_grid.specs.Arrays.{place_of}
use Rattle.fz_grid.specs.Region.{lengths_of}
use Rattle.fz_grid.specs.Sieve.{sieve_lo, sieve_step}
use Rattle.fz_grid.specs.Visits.{all_visited}
use Rattle.fz_grid.proofs.Lists.{long_enough}
use Rattle.fz_grid.proofs.SieveLists.{visited_list}
use Rattle.fz_grid.proofs.sieving.SieveTiles.number.Goals as goal

pub returns : goal.returns
returns c =
    let tiles = c.args.self.now in
    let sieve = tiles.sieve in
    let numbers = c.coordinates-numbers.result in
    let at = c.place.result in
    let n = tiles.shape.n in
    let of_sieve = tiles.visits.within.same_axes in
    let of_tile = tiles.visits.divided.same_axes in
    let tile_long = long_enough tiles.tile.len tiles.tile.n (λ i h. tiles.visits.divided.positive i (omega (arith, of_tile))) in
    let list = visited_list at sieve.lo sieve.step tiles.tile.len numbers n (omega arith) (omega arith) (omega arith) (omega arith) (omega arith) c.place.ensures.place in
    let named = ap (λ m. take m numbers) (sym tiles.visits.counts_axes) ∙ c.coordinates-numbers.ensures.coordinates in
    let lo : take n sieve.lo ≡ sieve_lo sieve = ap (λ m. take m sieve.lo) (sym of_sieve) in
    let step : take n sieve.step ≡ sieve_step sieve = ap (λ m. take m sieve.step) (sym of_sieve) in
    let tile : take n tiles.tile.len ≡ lengths_of tiles.tile = ap (λ m. take m tiles.tile.len) (sym of_tile) in
    let whole =
    ap (λ m. take m at) tiles.visits.grid_axes
    ∙ (list
    ∙ (ap (λ l. all_visited l (take n sieve.step) (take n tiles.tile.len) (take n numbers)) lo
    ∙ (ap (λ l. all_visited (sieve_lo sieve) l (take n tiles.tile.len) (take n numbers)) step
    ∙ (ap (λ l. all_visited (sieve_lo sieve) (sieve_step sieve) l (take n numbers)) tile ∙ ap (all_visited (sieve_lo sieve) (sieve_step sieve) (lengths_of tiles.tile)) named)))) in
    c.index.ensures.place ∙ ap (place_of (lengths_of tiles.grid)) whole
