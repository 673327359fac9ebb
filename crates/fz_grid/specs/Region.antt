-- Arrays and boxes of an array as the calls are given them (FITS 4.0, section 4.4.1.1).
use Rattle.std.specs.Prelude.{◌≡◌, ℕ, ◌+◌, ◌^◌, ◌<◌, ◌≤◌, List, map, take, slice_index}
use Rattle.fz_block.specs.declared.axes.Axes.{Axes}
use Rattle.fz_grid.specs.declared.region.Region.{Region}
use Rattle.fz_grid.specs.Arrays.{product, place_of}
use Rattle.fz_grid.specs.Grid.{box_coordinates, moved, tile_count}

-- the lengths of the axes
abbrev pub lengths_of : Axes → List ℕ
lengths_of axes = take axes.n axes.len

-- the least coordinates of a region
abbrev pub region_corner : Region → List ℕ
region_corner region = take region.n region.lo

-- how long a region is along each axis
abbrev pub region_lengths : Region → List ℕ
region_lengths region = take region.n region.len

-- a region's lengths, as those of an array of its own
abbrev pub axes_of : Region → Axes
axes_of region = record { n = region.n; len = region.len }

-- the numbers of the places of a box, axis 1 fastest, in an array of these lengths
abbrev pub places_of : List ℕ → List ℕ → List ℕ → List ℕ
places_of array corner lengths = map (λ c. place_of array (moved corner c)) (box_coordinates lengths)

-- the entries of a table of axes from n on are 0
abbrev pub IsZeroFrom : ℕ → List ℕ → Type 0
IsZeroFrom n entries = (i : ℕ) → n ≤ i → slice_index entries i ≡ 0

-- the entries of two tables of axes from n on are the same
abbrev pub AreSameFrom : ℕ → List ℕ → List ℕ → Type 0
AreSameFrom n entries others = (i : ℕ) → n ≤ i → slice_index entries i ≡ slice_index others i

-- an array that a call takes: 1 to 9 axes, each with a place, and at most 2^40 pixels
pub record IsShape (shape : Axes) : Type 0 where
  pub some : 1 ≤ shape.n
  pub axes : shape.n ≤ 9
  pub positive : (i : ℕ) → i < shape.n → 1 ≤ slice_index shape.len i
  pub pixels : product (lengths_of shape) ≤ 2 ^ 40

-- an array that is divided into tiles: a tile has a place along each axis and is no longer than the array
pub record IsDivided (shape tile : Axes) : Type 0 where
  pub some : 1 ≤ shape.n
  pub axes : shape.n ≤ 9
  pub same_axes : tile.n ≡ shape.n
  pub positive : (i : ℕ) → i < shape.n → 1 ≤ slice_index tile.len i
  pub inside : (i : ℕ) → i < shape.n → slice_index tile.len i ≤ slice_index shape.len i
  pub pixels : product (lengths_of shape) ≤ 2 ^ 40
  pub tile_pixels : product (lengths_of tile) ≤ 2 ^ 26
  pub tiles : tile_count (lengths_of shape) (lengths_of tile) < 2 ^ 31

-- the region has a pixel along each axis of the array, and lies within the array
pub record IsWithin (shape : Axes) (region : Region) : Type 0 where
  pub same_axes : region.n ≡ shape.n
  pub positive : (i : ℕ) → i < shape.n → 1 ≤ slice_index region.len i
  pub inside :
      (i : ℕ) → i < shape.n → slice_index region.lo i + slice_index region.len i ≤ slice_index shape.len i

-- these are coordinates of a place of the array
abbrev pub IsPlaceOf : Axes → List ℕ → Type 0
IsPlaceOf shape coordinates = (i : ℕ) → i < shape.n → slice_index coordinates i < slice_index shape.len i
