-- What the iterators of this crate still have to give.
use Rattle.std.specs.Prelude.{ℕ, ◌-◌, List, map}
use Rattle.std.specs.List.{range_with_len}
use Rattle.fz_grid.specs.declared.places.Places.{Places}
use Rattle.fz_grid.specs.declared.overlaps.Overlaps.{Overlaps}
use Rattle.fz_grid.specs.declared.run.Runs.{Runs}
use Rattle.fz_grid.specs.Region.{lengths_of, region_corner, region_lengths}
use Rattle.fz_grid.specs.Nth.{nth_place}

-- the numbers of the places that are left
abbrev pub places_left : Places → List ℕ
places_left places =
    map
    (nth_place (lengths_of places.shape) (region_corner places.region) (region_lengths places.region))
    (range_with_len places.next (places.end - places.next))

-- the tiles that are left
abbrev pub tiles_left : Overlaps → List ℕ
tiles_left overlaps = places_left overlaps.places

-- the runs that are left
abbrev pub runs_left : Runs → List (ℕ × ℕ)
runs_left runs = map (λ start. (start, runs.length)) (places_left runs.starts)
