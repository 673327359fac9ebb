-- A box with a step along each axis, and its picks (FITS 4.0, section 4.4.1.1). All is counted from 0, and both ends
-- belong to the box.
use Rattle.std.specs.Prelude.{◌≡◌, ℕ, ◌+◌, ◌-◌, ◌*◌, ◌/◌, ◌^◌, ◌<◌, ◌≤◌, min, List, [], ◌∷◌, length, map, take, slice_index}
use Rattle.std.specs.List.{filter, range_with_len}
use Rattle.fz_block.specs.declared.axes.Axes.{Axes}
use Rattle.fz_grid.specs.declared.sieve.Sieve.{Sieve}
use Rattle.fz_grid.specs.Arrays.{place_of}
use Rattle.fz_grid.specs.Grid.{box_coordinates, tile_corner, tile_count, tile_lengths}
use Rattle.fz_grid.specs.Overlap.{has_pixel}

-- the picks of an axis are lo, lo + step and so on up to hi
abbrev pub IsPickOn : ℕ → ℕ → ℕ → ℕ → Type 0
IsPickOn lo hi step x = (k : ℕ) × (x ≡ lo + k * step) × (x ≤ hi)

-- these are coordinates of a pick: a pick of each axis
pub record IsPick (lo hi step coordinates : List ℕ) : Type 0 where
  pub axes : length coordinates ≡ length lo
  pub on : (i : ℕ) → i < length lo → IsPickOn (slice_index lo i) (slice_index hi i) (slice_index step i) (slice_index coordinates i)

-- how many picks an axis has
abbrev pub pick_count : ℕ → ℕ → ℕ → ℕ
pick_count lo hi step = (hi - lo) / step + 1

-- how many picks there are along each axis
abbrev pub pick_counts : List ℕ → List ℕ → List ℕ → List ℕ
pick_counts [] his steps = []
pick_counts (o ∷ os) [] steps = []
pick_counts (o ∷ os) (h ∷ hs) [] = []
pick_counts (o ∷ os) (h ∷ hs) (s ∷ ss) = pick_count o h s ∷ pick_counts os hs ss

-- the coordinates of the pick with these numbers along the axes
abbrev pub stepped : List ℕ → List ℕ → List ℕ → List ℕ
stepped [] steps numbers = []
stepped (o ∷ os) [] numbers = []
stepped (o ∷ os) (s ∷ ss) [] = []
stepped (o ∷ os) (s ∷ ss) (k ∷ ks) = (o + k * s) ∷ stepped os ss ks

-- the numbers that picks have in an array, from lo on by these steps, so many along each axis; axis 1 fastest
abbrev pub stepped_places : List ℕ → List ℕ → List ℕ → List ℕ → List ℕ
stepped_places array lo step counts = map (λ k. place_of array (stepped lo step k)) (box_coordinates counts)

abbrev pub sieve_lo : Sieve → List ℕ
sieve_lo sieve = take sieve.n sieve.lo

abbrev pub sieve_hi : Sieve → List ℕ
sieve_hi sieve = take sieve.n sieve.hi

abbrev pub sieve_step : Sieve → List ℕ
sieve_step sieve = take sieve.n sieve.step

-- how many picks a sieve has along each axis: the lengths of the cutout
abbrev pub sieve_lengths : Sieve → List ℕ
sieve_lengths sieve = pick_counts (sieve_lo sieve) (sieve_hi sieve) (sieve_step sieve)

-- the numbers that a sieve's picks have in an array, axis 1 fastest
abbrev pub picked_places : List ℕ → Sieve → List ℕ
picked_places array sieve = stepped_places array (sieve_lo sieve) (sieve_step sieve) (sieve_lengths sieve)

-- how many picks of an axis are before a coordinate
abbrev pub picks_before : ℕ → ℕ → ℕ → ℕ → ℕ
picks_before lo hi step x = min ((x - lo + (step - 1)) / step) (pick_count lo hi step)

-- how many picks are before these coordinates, along each axis
abbrev pub all_before : List ℕ → List ℕ → List ℕ → List ℕ → List ℕ
all_before [] his steps xs = []
all_before (o ∷ os) [] steps xs = []
all_before (o ∷ os) (h ∷ hs) [] xs = []
all_before (o ∷ os) (h ∷ hs) (s ∷ ss) [] = []
all_before (o ∷ os) (h ∷ hs) (s ∷ ss) (x ∷ xs) = picks_before o h s x ∷ all_before os hs ss xs

-- how many picks a box of this corner and these lengths has along each axis
abbrev pub picks_in : List ℕ → List ℕ → List ℕ → List ℕ → List ℕ → List ℕ
picks_in [] his steps corner lengths = []
picks_in (o ∷ os) [] steps corner lengths = []
picks_in (o ∷ os) (h ∷ hs) [] corner lengths = []
picks_in (o ∷ os) (h ∷ hs) (s ∷ ss) [] lengths = []
picks_in (o ∷ os) (h ∷ hs) (s ∷ ss) (c ∷ cs) [] = []
picks_in (o ∷ os) (h ∷ hs) (s ∷ ss) (c ∷ cs) (n ∷ ns) =
    (picks_before o h s (c + n) - picks_before o h s c) ∷ picks_in os hs ss cs ns

-- how many picks of a sieve tile t has along each axis
abbrev pub tile_picks : List ℕ → List ℕ → List ℕ → List ℕ → List ℕ → ℕ → List ℕ
tile_picks array tile lo hi step t = picks_in lo hi step (tile_corner array tile t) (tile_lengths array tile t)

-- the tiles with a pick, ascending
abbrev pub picked_tiles : List ℕ → List ℕ → List ℕ → List ℕ → List ℕ → List ℕ
picked_tiles array tile lo hi step =
    filter (λ t. has_pixel (tile_picks array tile lo hi step t)) (range_with_len 0 (tile_count array tile))

-- a sieve whose picks can be counted
pub record IsSieve (sieve : Sieve) : Type 0 where
  pub axes : sieve.n ≤ 9
  pub ordered : (i : ℕ) → i < sieve.n → slice_index sieve.lo i ≤ slice_index sieve.hi i
  pub inside : (i : ℕ) → i < sieve.n → slice_index sieve.hi i + 1 < 2 ^ 32
  pub positive : (i : ℕ) → i < sieve.n → 1 ≤ slice_index sieve.step i

-- a sieve of an array: a pick along each axis, and none after the array
pub record IsSieveOf (shape : Axes) (sieve : Sieve) : Type 0 where
  pub same_axes : sieve.n ≡ shape.n
  pub ordered : (i : ℕ) → i < shape.n → slice_index sieve.lo i ≤ slice_index sieve.hi i
  pub inside : (i : ℕ) → i < shape.n → slice_index sieve.hi i < slice_index shape.len i
  pub positive : (i : ℕ) → i < shape.n → 1 ≤ slice_index sieve.step i
