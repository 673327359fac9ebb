-- The numbers that a sieve cuts out of an array, and the part of each tile in them (FITS 4.0, sections 4.4.1.1 and 10.1).
use Rattle.std.specs.Prelude.{◌≡◌, ℕ, ◌+◌, ◌-◌, ◌*◌, ◌<◌, ◌≤◌, IsTrue, ℤ, pos, List, [], ◌∷◌, length, map, slice_index, slice_index_or}
use Rattle.fz_grid.specs.declared.sieve.Sieve.{Sieve}
use Rattle.fz_grid.specs.Arrays.{NumberArray, at, product}
use Rattle.fz_grid.specs.Division.{tile_places}
use Rattle.fz_grid.specs.Grid.{box_coordinates, tile, tile_corner, tile_count, tile_lengths}
use Rattle.fz_grid.specs.Overlap.{has_pixel}
use Rattle.fz_grid.specs.Region.{places_of}
use Rattle.fz_grid.specs.Sieve.{
  all_before,
  picks_before,
  sieve_hi,
  sieve_lengths,
  sieve_lo,
  sieve_step,
  stepped,
  stepped_places,
  tile_picks,
}

-- a box with a step of an array of these lengths: it has a pick along each axis, and none after the array
pub record IsSteppedBoxOf (array lo hi step : List ℕ) : Type 0 where
  pub los : length lo ≡ length array
  pub his : length hi ≡ length array
  pub steps : length step ≡ length array
  pub ordered : (i : ℕ) → i < length array → slice_index lo i ≤ slice_index hi i
  pub inside : (i : ℕ) → i < length array → slice_index hi i < slice_index array i
  pub positive : (i : ℕ) → i < length array → 1 ≤ slice_index step i

-- a sieve of an array of these lengths
abbrev pub Sifts : List ℕ → Sieve → Type 0
Sifts array sieve = IsSteppedBoxOf array (sieve_lo sieve) (sieve_hi sieve) (sieve_step sieve)

-- the numbers at a sieve's picks, axis 1 fastest: those of the cutout
abbrev pub picked_numbers : NumberArray → Sieve → List ℤ
picked_numbers a sieve = map (λ k. at a (stepped (sieve_lo sieve) (sieve_step sieve) k)) (box_coordinates (sieve_lengths sieve))

-- the first pick from a corner on, counted from the corner
abbrev pub first_from : List ℕ → List ℕ → List ℕ → List ℕ → List ℕ
first_from [] his steps corner = []
first_from (o ∷ os) [] steps corner = []
first_from (o ∷ os) (h ∷ hs) [] corner = []
first_from (o ∷ os) (h ∷ hs) (s ∷ ss) [] = []
first_from (o ∷ os) (h ∷ hs) (s ∷ ss) (c ∷ cs) = (o + picks_before o h s c * s - c) ∷ first_from os hs ss cs

-- how many picks tile t has along each axis
abbrev pub part_lengths : List ℕ → List ℕ → Sieve → ℕ → List ℕ
part_lengths array tile sieve t = tile_picks array tile (sieve_lo sieve) (sieve_hi sieve) (sieve_step sieve) t

-- the numbers that the picks in tile t have in the tile, axis 1 fastest
abbrev pub picks_in_tile : List ℕ → List ℕ → Sieve → ℕ → List ℕ
picks_in_tile array tile sieve t =
    stepped_places
    (tile_lengths array tile t)
    (first_from (sieve_lo sieve) (sieve_hi sieve) (sieve_step sieve) (tile_corner array tile t))
    (sieve_step sieve)
    (part_lengths array tile sieve t)

-- and those that they have in the cutout, in the same order
abbrev pub picks_in_cutout : List ℕ → List ℕ → Sieve → ℕ → List ℕ
picks_in_cutout array tile sieve t =
    places_of
    (sieve_lengths sieve)
    (all_before (sieve_lo sieve) (sieve_hi sieve) (sieve_step sieve) (tile_corner array tile t))
    (part_lengths array tile sieve t)

-- the numbers at these places of a list
abbrev pub numbers_at : List ℤ → List ℕ → List ℤ
numbers_at numbers places = map (λ place. slice_index_or numbers place (pos 0)) places

-- the k-th pick of tile t has this place in the cutout
pub record IsPickAt (array tile : List ℕ) (sieve : Sieve) (place t k : ℕ) : Type 0 where
  pub tile_in : t < tile_count array tile
  pub pick_in : k < length (picks_in_cutout array tile sieve t)
  pub here : slice_index (picks_in_cutout array tile sieve t) k ≡ place

-- exactly one pick of exactly one tile has this place in the cutout
pub record IsPickedOnce (array tile : List ℕ) (sieve : Sieve) (place : ℕ) : Type 0 where
  pub tile_number : ℕ
  pub pick_number : ℕ
  pub found : IsPickAt array tile sieve place tile_number pick_number
  pub only : (t k : ℕ) → IsPickAt array tile sieve place t k → (t ≡ tile_number) × (k ≡ pick_number)

-- the list has as many numbers as the cutout, and at the places of each part the numbers of the part's tile
pub record HoldsParts (a : NumberArray) (tile_is : List ℕ) (sieve : Sieve) (cutout : List ℤ) : Type 0 where
  pub count : length cutout ≡ product (sieve_lengths sieve)
  pub numbers :
      (t : ℕ)
      → t < tile_count a.lengths tile_is
      → IsTrue (has_pixel (part_lengths a.lengths tile_is sieve t))
      → numbers_at cutout (picks_in_cutout a.lengths tile_is sieve t) ≡ numbers_at (tile a tile_is t) (picks_in_tile a.lengths tile_is sieve t)

-- the list has as many numbers as the array, and at the places of each tile the tile's numbers
pub record HoldsTiles (a : NumberArray) (tile_is : List ℕ) (image : List ℤ) : Type 0 where
  pub count : length image ≡ product a.lengths
  pub numbers : (t : ℕ) → t < tile_count a.lengths tile_is → numbers_at image (tile_places a.lengths tile_is t) ≡ tile a tile_is t
