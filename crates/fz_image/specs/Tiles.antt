-- The tiles of an image, from the bytes of its pixels to what is written for them (FITS 4.0, sections 3.3.2, 5.2 and 10.1.3).
use Rattle.std.specs.Prelude.{ℕ, suc, ◌≡◌, ◌+◌, ◌*◌, ◌^◌, ◌<◌, ◌≤◌, ℤ, List, [], ◌∷◌, length, take, drop, map, slice_index_or, Option, IfSome, ⊤}
use Rattle.std.specs.List.{flat_map, range_with_len}
use Rattle.fz_grid.specs.Arrays.{NumberArray, product}
use Rattle.fz_grid.specs.Grid.{tile, tile_lengths}
use Rattle.fz_grid.specs.Region.{lengths_of}
use Rattle.fz_tile.specs.Pixels.{HoldPixels, place_count}
use Rattle.fz_tile.specs.TileCode.{TileCode, tile_code, AreElements}
use Rattle.fz_files.specs.Packed.{array_of, pixel_bits}
use Rattle.fz_pool.specs.declared.slot.Slot.{Slot}
use Rattle.fz_pool.specs.Calls.{AreForEncoding}
use Rattle.fz_pool.specs.Round.{HoldsTile, HoldTiles, coded_tiles}
use Rattle.fz_pool.specs.Slots.{IsForEncoding}
use Rattle.fz_pool.specs.Window.{HasSlotsFor, IsFilled, Pool}
use Rattle.fz_image.specs.declared.layout.Layout.{Layout}

-- the bytes of the pixels at these places, of so many bytes each, one after another
abbrev pub pixels_at_places : ℕ → List ℕ → List ℕ → List ℕ
pixels_at_places width bytes places = flat_map (λ place. take width (drop (width * place) bytes)) places

-- these places are below so many
abbrev pub AreBelow : ℕ → List ℕ → Type 0
AreBelow most [] = ⊤
AreBelow most (place ∷ places) = (place < most) × AreBelow most places

-- the array that the image in a file stores
abbrev pub image_in : Layout → List ℕ → NumberArray
image_in l file = array_of l.plan (drop l.pixels_at file)

-- the numbers of tile t
abbrev pub tile_in : Layout → List ℕ → ℕ → List ℤ
tile_in l file t = tile (image_in l file) (lengths_of l.plan.tile) t

-- how many pixels tile t has
abbrev pub pixels_of : Layout → ℕ → ℕ
pixels_of l t = product (tile_lengths (lengths_of l.plan.shape) (lengths_of l.plan.tile) t)

-- so many tiles from tile t on
abbrev pub tiles_from : Layout → List ℕ → ℕ → ℕ → List (List ℤ)
tiles_from l file t count = map (tile_in l file) (range_with_len t count)

-- what is written for so many tiles from tile t on
abbrev pub codes_from : Layout → List ℕ → ℕ → ℕ → List TileCode
codes_from l file t count = map (tile_code l.plan.codec (pixel_bits l.plan)) (tiles_from l file t count)

-- what is written for tiles from tile t on, whatever their pixels are
abbrev pub AreCodesFrom : Layout → ℕ → List TileCode → Type 0
AreCodesFrom l t [] = ⊤
AreCodesFrom l t (e ∷ es) = AreElements l.plan.codec (pixel_bits l.plan) (pixels_of l t) e × AreCodesFrom l (suc t) es

-- the buffers of slots for tiles of n pixels have room for a tile of the layout
abbrev pub HasRoom : Layout → ℕ × ℕ → Type 0
HasRoom l size = (n : ℕ) × (size ≡ (2 * n, 8 * n + 64)) × (pixels_of l 0 ≤ n)

abbrev pub HaveRoom : Layout → Pool → Type 0
HaveRoom l w = HasSlotsFor (pixels_of l 0) w

-- numbers hold the pixels of tile t
pub record HoldTile (l : Layout) (held : Option (List ℕ)) (t : ℕ) (numbers : List ℤ) : Type 0 where
  pub pixels : List ℤ
  pub count : length pixels ≡ pixels_of l t
  pub some : 1 ≤ length pixels
  pub most : length pixels ≤ 2 ^ 26
  pub hold : HoldPixels (pixel_bits l.plan) (take (place_count (pixel_bits l.plan) (pixels_of l t)) numbers) pixels
  pub told : IfSome held (λ file. pixels ≡ tile_in l file t)

-- a slot has tile t, to be encoded
pub record IsLoaded (l : Layout) (held : Option (List ℕ)) (t : ℕ) (x : Slot) : Type 0 where
  pub ready : IsForEncoding x
  pub pixels : List ℤ
  pub count : length pixels ≡ pixels_of l t
  pub some : 1 ≤ length pixels
  pub most : length pixels ≤ 2 ^ 26
  pub holds : HoldsTile l.plan.codec (pixel_bits l.plan) x pixels
  pub told : IfSome held (λ file. pixels ≡ tile_in l file t)

-- lists of numbers have as many as the tiles from tile t on
abbrev pub HaveTheirPixels : Layout → ℕ → List (List ℤ) → Type 0
HaveTheirPixels l t [] = ⊤
HaveTheirPixels l t (xs ∷ tiles) = (length xs ≡ pixels_of l t) × (1 ≤ length xs) × (length xs ≤ 2 ^ 26) × HaveTheirPixels l (suc t) tiles

-- the first slots have so many tiles from tile t on, to be encoded
pub record AreLoaded (l : Layout) (held : Option (List ℕ)) (t count : ℕ) (w : Pool) : Type 0 where
  pub ready : AreForEncoding count w.slots
  pub tiles : List (List ℤ)
  pub count_is : length tiles ≡ count
  pub pixels : HaveTheirPixels l t tiles
  pub hold : HoldTiles l.plan.codec (pixel_bits l.plan) w.slots tiles
  pub told : IfSome held (λ file. tiles ≡ tiles_from l file t count)

-- the first slots have what is written for so many tiles from tile t on
pub record AreEncodedTiles (l : Layout) (held : Option (List ℕ)) (t count : ℕ) (w : Pool) : Type 0 where
  pub filled : IsFilled w
  pub lens : (i : ℕ) (d : Slot) → i < count → (slice_index_or w.slots i d).job.len ≤ length (slice_index_or w.slots i d).code
  pub number : length (coded_tiles count w.slots) ≡ count
  pub each : AreCodesFrom l t (coded_tiles count w.slots)
  pub told : IfSome held (λ file. coded_tiles count w.slots ≡ codes_from l file t count)
