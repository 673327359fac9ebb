-- The tiles of a packed image: how many there are, and how many pixels, places and bytes one has (FITS 4.0, section 10.1).
use Rattle.std.specs.Prelude.{ℕ, ◌*◌, ◌/◌, Bool, true, false, unsigned_abs}
use Rattle.fz_grid.specs.Arrays.{product}
use Rattle.fz_grid.specs.Grid.{tile_count, tile_lengths}
use Rattle.fz_grid.specs.Region.{lengths_of}
use Rattle.fz_table.specs.declared.record.Tile.{Tile}
use Rattle.fz_table.specs.declared.record.TileColumn.{TileColumn}
use Rattle.fz_table.specs.declared.record.TileColumn.TheVariants as column
use Rattle.fz_tile.specs.Pixels.{place_count}
use Rattle.fz_tile.specs.declared.codec.Codec.{Codec}
use Rattle.fz_tile.specs.declared.codec.Codec.TheVariants.{Rice, Plio, Plain}
use Rattle.fz_tile.specs.declared.coded.Place2.{Place2}
use Rattle.fz_tile.specs.declared.coded.Place2.TheVariants as place
use Rattle.fz_head.specs.declared.plan.Plan.{Plan}

-- the bits of a pixel
abbrev pub pixel_bits : Plan → ℕ
pixel_bits p = unsigned_abs p.bitpix

-- how many tiles an image is divided into
abbrev pub tiles_in : Plan → ℕ
tiles_in p = tile_count (lengths_of p.shape) (lengths_of p.tile)

-- how many pixels tile t has
abbrev pub pixels_of : Plan → ℕ → ℕ
pixels_of p t = product (tile_lengths (lengths_of p.shape) (lengths_of p.tile) t)

-- how many places these take
abbrev pub places_of : Plan → ℕ → ℕ
places_of p t = place_count (pixel_bits p) (pixels_of p t)

-- tiles are stored only as plain bytes
abbrev pub is_plain_codec : Codec → Bool
is_plain_codec (Rice block bytepix) = false
is_plain_codec Plio = false
is_plain_codec Plain = true

-- what is known of tile t before its row is read
abbrev pub tile_of : Plan → ℕ → Tile
tile_of p t = record { pixels = pixels_of p t; plain_len = pixel_bits p / 8 * pixels_of p t; plain = is_plain_codec p.codec }

-- the place of a tile whose record was found in this column
abbrev pub place_in : TileColumn → Place2
place_in column.Coded = place.Coded
place_in column.Stored = place.Stored
