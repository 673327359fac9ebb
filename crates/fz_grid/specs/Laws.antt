-- What the definitions of arrays and of tiles promise (FITS 4.0, sections 3.3.2 and 10.1).
use Rattle.std.specs.Prelude.{◌≡◌, ℕ, ◌<◌, ◌≤◌, ℤ, pos, List, [], length, map, slice_index, slice_index_or}
use Rattle.std.specs.List.{range_with_len, sum_by}
use Rattle.fz_block.specs.declared.axes.Axes.{Axes}
use Rattle.fz_grid.specs.declared.region.Region.{Region}
use Rattle.fz_grid.specs.Arrays.{AreCoordinatesOf, IsArray, NumberArray, coordinates_of, place_of, product}
use Rattle.fz_grid.specs.Division.{AreTileLengths, IsInOneTile, IsPlacedOnce, tile_places}
use Rattle.fz_grid.specs.Grid.{box_coordinates, tile, tile_count, tile_lengths}
use Rattle.fz_grid.specs.Region.{IsDivided, IsShape, IsWithin, axes_of, lengths_of, places_of}
use Rattle.fz_grid.specs.Whole.{AreTiles, HaveSameTiles, joined}

-- coordinates below the lengths have a number below how many places there are
abbrev pub PlacesAreInside : Type 0
PlacesAreInside = (lengths coordinates : List ℕ) → AreCoordinatesOf lengths coordinates → place_of lengths coordinates < product lengths

-- and are those of their number
abbrev pub PlacesHaveCoordinates : Type 0
PlacesHaveCoordinates =
    (lengths coordinates : List ℕ)
    → AreCoordinatesOf lengths coordinates
    → coordinates_of lengths (place_of lengths coordinates) ≡ coordinates

-- each number below how many places there are is that of its coordinates
abbrev pub NumbersHavePlaces : Type 0
NumbersHavePlaces =
    (lengths : List ℕ) (place : ℕ)
    → place < product lengths
    → AreCoordinatesOf lengths (coordinates_of lengths place) × (place_of lengths (coordinates_of lengths place) ≡ place)

-- the coordinates of a box are listed in the order of their numbers
abbrev pub BoxesAreInOrder : Type 0
BoxesAreInOrder =
    (lengths : List ℕ) → box_coordinates lengths ≡ map (coordinates_of lengths) (range_with_len 0 (product lengths))

-- a box has so many pixels
abbrev pub BoxesHaveTheirPixels : Type 0
BoxesHaveTheirPixels = (array corner lengths : List ℕ) → length (places_of array corner lengths) ≡ product lengths

-- each place lies in one tile, once, by its coordinates
abbrev pub CoordinatesAreInOneTile : Type 0
CoordinatesAreInOneTile =
    (array tile coordinates : List ℕ)
    → AreTileLengths array tile
    → AreCoordinatesOf array coordinates
    → IsInOneTile array tile coordinates

-- and by its number
abbrev pub NumbersAreInOneTile : Type 0
NumbersAreInOneTile =
    (array tile : List ℕ) (place : ℕ) → AreTileLengths array tile → place < product array → IsPlacedOnce array tile place

-- a tile has the numbers at its places in the array
abbrev pub TilesAreAtTheirPlaces : Type 0
TilesAreAtTheirPlaces =
    (a : NumberArray) (lengths : List ℕ) (t : ℕ)
    → tile a lengths t ≡ map (λ place. slice_index_or a.numbers place (pos 0)) (tile_places a.lengths lengths t)

-- each of these places lies in the array
abbrev pub TilesLieInTheArray : Type 0
TilesLieInTheArray =
    (array tile : List ℕ) (t k : ℕ)
    → AreTileLengths array tile
    → k < length (tile_places array tile t)
    → slice_index (tile_places array tile t) k < product array

-- as many as the tile has pixels
abbrev pub TilesHaveTheirPixels : Type 0
TilesHaveTheirPixels =
    (a : NumberArray) (lengths : List ℕ) (t : ℕ) → length (tile a lengths t) ≡ product (tile_lengths a.lengths lengths t)

-- two arrays of the same lengths with the same tiles are the same
abbrev pub TilesMakeOneArray : Type 0
TilesMakeOneArray =
    (a b : NumberArray) (lengths : List ℕ)
    → AreTileLengths a.lengths lengths
    → IsArray a
    → IsArray b
    → a.lengths ≡ b.lengths
    → HaveSameTiles lengths a b
    → a ≡ b

-- tiles that are joined are an array
abbrev pub JoinedIsArray : Type 0
JoinedIsArray = (array lengths : List ℕ) (tiles : List (List ℤ)) → IsArray (joined array lengths tiles)

-- which has these tiles
abbrev pub JoinedHasTheTiles : Type 0
JoinedHasTheTiles =
    (array lengths : List ℕ) (tiles : List (List ℤ)) (t : ℕ)
    → AreTileLengths array lengths
    → AreTiles array lengths tiles
    → t < tile_count array lengths
    → tile (joined array lengths tiles) lengths t ≡ slice_index_or tiles t []

-- an array that is divided into tiles, and its tile, are arrays that a call takes
abbrev pub DividedArraysAreShapes : Type 0
DividedArraysAreShapes = (shape tile : Axes) → IsDivided shape tile → IsShape shape × IsShape tile

-- and its tile has a length above 0 along each axis
abbrev pub DividedArraysHaveTiles : Type 0
DividedArraysHaveTiles = (shape tile : Axes) → IsDivided shape tile → AreTileLengths (lengths_of shape) (lengths_of tile)

-- each tile has a pixel
abbrev pub TilesHaveAPixel : Type 0
TilesHaveAPixel =
    (array tile : List ℕ) (t : ℕ) → AreTileLengths array tile → t < tile_count array tile → 1 ≤ product (tile_lengths array tile t)

-- and none has more than tile 0
abbrev pub FirstTilesAreLargest : Type 0
FirstTilesAreLargest =
    (array tile : List ℕ) (t : ℕ) → AreTileLengths array tile → product (tile_lengths array tile t) ≤ product (tile_lengths array tile 0)

-- nor more than the product of the lengths of a tile, which one at the upper end of an axis is cut short of
abbrev pub TilesHaveAtMostTheirLengths : Type 0
TilesHaveAtMostTheirLengths =
    (array tile : List ℕ) (t : ℕ) → length tile ≡ length array → product (tile_lengths array tile t) ≤ product tile

-- together they have as many pixels as the array
abbrev pub TilesHaveAllPixels : Type 0
TilesHaveAllPixels =
    (array tile : List ℕ)
    → AreTileLengths array tile
    → sum_by (λ t. product (tile_lengths array tile t)) (range_with_len 0 (tile_count array tile)) ≡ product array

-- a region within an array is an array that a call takes
abbrev pub RegionsAreShapes : Type 0
RegionsAreShapes = (shape : Axes) (region : Region) → IsShape shape → IsWithin shape region → IsShape (axes_of region)
