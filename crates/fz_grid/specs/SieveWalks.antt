-- What the iterators over picks and over tiles with a pick still have to give.
use Rattle.std.specs.Prelude.{ℕ, ◌-◌, List, map}
use Rattle.std.specs.List.{range_with_len}
use Rattle.fz_grid.specs.declared.pick.Picks.{Picks}
use Rattle.fz_grid.specs.declared.sieving.SieveTiles.{SieveTiles}
use Rattle.fz_grid.specs.Region.{lengths_of}
use Rattle.fz_grid.specs.Sieve.{sieve_lo, sieve_step}
use Rattle.fz_grid.specs.Visits.{nth_pick, nth_visited}

-- the numbers of the picks that are left
abbrev pub picks_left : Picks → List ℕ
picks_left picks =
    map
    (nth_pick (lengths_of picks.shape) (sieve_lo picks.sieve) (sieve_step picks.sieve) (lengths_of picks.lengths))
    (range_with_len picks.next (picks.end - picks.next))

-- the tiles that are left
abbrev pub sieve_tiles_left : SieveTiles → List ℕ
sieve_tiles_left tiles =
    map
    (nth_visited (lengths_of tiles.grid) (sieve_lo tiles.sieve) (sieve_step tiles.sieve) (lengths_of tiles.tile) (lengths_of tiles.counts))
    (range_with_len tiles.next (tiles.end - tiles.next))
