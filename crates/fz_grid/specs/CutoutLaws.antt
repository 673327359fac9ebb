-- What the definitions of cutouts promise (FITS 4.0, section 10.1).
use Rattle.std.specs.Prelude.{◌≡◌, ◌↔◌, ℕ, ◌<◌, ◌≤◌, IsTrue, ℤ, List, length, slice_index, Contains}
use Rattle.fz_grid.specs.declared.sieve.Sieve.{Sieve}
use Rattle.fz_grid.specs.Arrays.{IsArray, NumberArray, product}
use Rattle.fz_grid.specs.Division.{AreTileLengths}
use Rattle.fz_grid.specs.Grid.{tile, tile_corner, tile_lengths}
use Rattle.fz_grid.specs.Overlap.{IsInBox, has_pixel}
use Rattle.fz_grid.specs.Sieve.{IsPick, picked_tiles, sieve_hi, sieve_lengths, sieve_lo, sieve_step}
use Rattle.fz_grid.specs.Cutout.{
  HoldsParts,
  HoldsTiles,
  IsPickedOnce,
  Sifts,
  numbers_at,
  part_lengths,
  picked_numbers,
  picks_in_cutout,
  picks_in_tile,
}

-- a cutout has as many numbers as places
abbrev pub CutoutsAreWhole : Type 0
CutoutsAreWhole = (a : NumberArray) (sieve : Sieve) → length (picked_numbers a sieve) ≡ product (sieve_lengths sieve)

-- the numbers of a tile at its picks are in the cutout at the places of its part
abbrev pub TilesGiveTheirPicks : Type 0
TilesGiveTheirPicks =
    (a : NumberArray) (lengths : List ℕ) (sieve : Sieve) (t : ℕ)
    → AreTileLengths a.lengths lengths
    → Sifts a.lengths sieve
    → numbers_at (picked_numbers a sieve) (picks_in_cutout a.lengths lengths sieve t)
    ≡ numbers_at (tile a lengths t) (picks_in_tile a.lengths lengths sieve t)

-- each place of the cutout is that of exactly one pick of exactly one tile
abbrev pub PlacesArePickedOnce : Type 0
PlacesArePickedOnce =
    (array tile : List ℕ) (sieve : Sieve) (place : ℕ)
    → AreTileLengths array tile
    → Sifts array sieve
    → place < product (sieve_lengths sieve)
    → IsPickedOnce array tile sieve place

-- each place of a part lies in the cutout
abbrev pub PartsLieInTheCutout : Type 0
PartsLieInTheCutout =
    (array tile : List ℕ) (sieve : Sieve) (t k : ℕ)
    → AreTileLengths array tile
    → Sifts array sieve
    → k < length (picks_in_cutout array tile sieve t)
    → slice_index (picks_in_cutout array tile sieve t) k < product (sieve_lengths sieve)

-- a tile has no more picks than pixels
abbrev pub PicksArePixels : Type 0
PicksArePixels =
    (array tile : List ℕ) (sieve : Sieve) (t : ℕ)
    → AreTileLengths array tile
    → Sifts array sieve
    → length (picks_in_tile array tile sieve t) ≤ product (tile_lengths array tile t)

-- a list that holds the parts of all tiles with a pick is the cutout
abbrev pub PartsMakeTheCutout : Type 0
PartsMakeTheCutout =
    (a : NumberArray) (lengths : List ℕ) (sieve : Sieve) (cutout : List ℤ)
    → AreTileLengths a.lengths lengths
    → Sifts a.lengths sieve
    → HoldsParts a lengths sieve cutout
    → cutout ≡ picked_numbers a sieve

-- a list that holds all tiles is the array
abbrev pub TilesMakeTheImage : Type 0
TilesMakeTheImage =
    (a : NumberArray) (lengths : List ℕ) (image : List ℤ)
    → AreTileLengths a.lengths lengths
    → IsArray a
    → HoldsTiles a lengths image
    → image ≡ a.numbers

-- a tile has a part if and only if a pick lies in it
abbrev pub PartsAreOfTilesWithAPick : Type 0
PartsAreOfTilesWithAPick =
    (array tile : List ℕ) (sieve : Sieve) (t : ℕ)
    → AreTileLengths array tile
    → Sifts array sieve
    → (IsTrue (has_pixel (part_lengths array tile sieve t))
    ↔ ((coordinates : List ℕ)
    × IsPick (sieve_lo sieve) (sieve_hi sieve) (sieve_step sieve) coordinates
    × IsInBox (tile_corner array tile t) (tile_lengths array tile t) coordinates))

-- each pick lies in one of the tiles with a pick
abbrev pub PicksLieInPickedTiles : Type 0
PicksLieInPickedTiles =
    (array tile : List ℕ) (sieve : Sieve) (coordinates : List ℕ)
    → AreTileLengths array tile
    → Sifts array sieve
    → IsPick (sieve_lo sieve) (sieve_hi sieve) (sieve_step sieve) coordinates
    → (t : ℕ)
    × Contains (picked_tiles array tile (sieve_lo sieve) (sieve_hi sieve) (sieve_step sieve)) t
    × IsInBox (tile_corner array tile t) (tile_lengths array tile t) coordinates

-- arrays that have the same tiles with a pick have the same cutout
abbrev pub PickedTilesMakeOneCutout : Type 0
PickedTilesMakeOneCutout =
    (a b : NumberArray) (lengths : List ℕ) (sieve : Sieve)
    → AreTileLengths a.lengths lengths
    → Sifts a.lengths sieve
    → a.lengths ≡ b.lengths
    → ((t : ℕ)
    → Contains (picked_tiles a.lengths lengths (sieve_lo sieve) (sieve_hi sieve) (sieve_step sieve)) t
    → tile a lengths t ≡ tile b lengths t)
    → picked_numbers a sieve ≡ picked_numbers b sieve
