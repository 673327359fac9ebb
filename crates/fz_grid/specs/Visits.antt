-- A sieve's picks by their number, and the tiles with a pick in their order (FITS 4.0, section 10.1).
use Rattle.std.specs.Prelude.{◌≡◌, ℕ, ◌+◌, ◌-◌, ◌*◌, ◌/◌, ◌<◌, max, if◌then◌else◌, nat_lt, List, [], ◌∷◌, slice_index}
use Rattle.fz_block.specs.declared.axes.Axes.{Axes}
use Rattle.fz_grid.specs.declared.sieve.Sieve.{Sieve}
use Rattle.fz_grid.specs.Arrays.{coordinates_of, place_of}
use Rattle.fz_grid.specs.Grid.{tile_counts}
use Rattle.fz_grid.specs.Region.{IsDivided, IsShape, lengths_of}
use Rattle.fz_grid.specs.Sieve.{IsSieveOf, pick_count, stepped}

-- the number of a sieve's k-th pick
abbrev pub nth_pick : List ℕ → List ℕ → List ℕ → List ℕ → ℕ → ℕ
nth_pick array lo step counts k = place_of array (stepped lo step (coordinates_of counts k))

-- the k-th tile with a pick along an axis: with a step above the tile's length each pick has a tile of its own,
-- otherwise no tile is left out between the first and the last
abbrev pub visited : ℕ → ℕ → ℕ → ℕ → ℕ
visited lo step tile k = (lo + k * max step tile) / tile

-- how many they are
abbrev pub visited_count : ℕ → ℕ → ℕ → ℕ → ℕ
visited_count lo hi step tile =
    if nat_lt step tile then (lo + (hi - lo) / step * step) / tile - lo / tile + 1 else pick_count lo hi step

abbrev pub all_visited : List ℕ → List ℕ → List ℕ → List ℕ → List ℕ
all_visited [] steps tile ks = []
all_visited (o ∷ os) [] tile ks = []
all_visited (o ∷ os) (s ∷ ss) [] ks = []
all_visited (o ∷ os) (s ∷ ss) (t ∷ ts) [] = []
all_visited (o ∷ os) (s ∷ ss) (t ∷ ts) (k ∷ ks) = visited o s t k ∷ all_visited os ss ts ks

abbrev pub visited_counts : List ℕ → List ℕ → List ℕ → List ℕ → List ℕ
visited_counts [] his steps tile = []
visited_counts (o ∷ os) [] steps tile = []
visited_counts (o ∷ os) (h ∷ hs) [] tile = []
visited_counts (o ∷ os) (h ∷ hs) (s ∷ ss) [] = []
visited_counts (o ∷ os) (h ∷ hs) (s ∷ ss) (t ∷ ts) = visited_count o h s t ∷ visited_counts os hs ss ts

-- the number of the k-th tile with a pick
abbrev pub nth_visited : List ℕ → List ℕ → List ℕ → List ℕ → List ℕ → ℕ → ℕ
nth_visited grid lo step tile counts k = place_of grid (all_visited lo step tile (coordinates_of counts k))

-- a sieve of an array in tiles, with how many tiles and how many with a pick there are along each axis
pub record AreVisits (shape tile grid : Axes) (sieve : Sieve) (counts : Axes) : Type 0 where
  pub divided : IsDivided shape tile
  pub within : IsSieveOf shape sieve
  pub grid_is : IsShape grid
  pub grid_axes : grid.n ≡ shape.n
  pub gridded : lengths_of grid ≡ tile_counts (lengths_of shape) (lengths_of tile)
  pub counts_are : IsShape counts
  pub counts_axes : counts.n ≡ shape.n
  pub counted :
      (i : ℕ)
      → i < shape.n
      → slice_index counts.len i ≡ visited_count (slice_index sieve.lo i) (slice_index sieve.hi i) (slice_index sieve.step i) (slice_index tile.len i)
