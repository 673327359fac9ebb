-- What a packed file stands for: the image of each packed table, and every other HDU as it is (FITS 4.0, sections 10.1.1 to 10.1.3).
use Rattle.std.specs.Prelude.{ℕ, ◌≡◌, ◌*◌, ◌/◌, ◌<◌, ◌&&◌, Bool, true, false, ℤ, List, [], ◌∷◌, ◌++◌, length, Ok, if◌then◌else◌}
use Rattle.fz_block.specs.Hdus.{hdu_bytes, cards_of, header_bytes}
use Rattle.fz_block.specs.Walk.{hdu_of}
use Rattle.fz_block.specs.declared.header.Header.{Header}
use Rattle.fz_grid.specs.Arrays.{NumberArray, IsArray, product}
use Rattle.fz_grid.specs.Grid.{tile, tile_lengths}
use Rattle.fz_grid.specs.Region.{lengths_of}
use Rattle.fz_table.specs.Records.{record_at, record_bytes}
use Rattle.fz_table.specs.Tables.{table_in}
use Rattle.fz_table.specs.declared.record.Record.{Record}
use Rattle.fz_table.specs.declared.record.Tile.{Tile}
use Rattle.fz_table.specs.declared.record.TileColumn.{TileColumn}
use Rattle.fz_table.specs.declared.record.TileColumn.TheVariants as column
use Rattle.fz_table.specs.declared.table.Table.{Table}
use Rattle.fz_tile.specs.Plain.{plain_bytes}
use Rattle.fz_tile.specs.Record.{IsRecord}
use Rattle.fz_tile.specs.declared.codec.Codec.{Codec}
use Rattle.fz_tile.specs.declared.codec.Codec.TheVariants.{Rice, Plio, Plain}
use Rattle.fz_tile.specs.declared.coded.Place2.{Place2}
use Rattle.fz_tile.specs.declared.coded.Place2.TheVariants as place
use Rattle.fz_head.specs.Packable.{is_packed}
use Rattle.fz_head.specs.PackedPlan.{plan_of_cards}
use Rattle.fz_head.specs.PlainHeader.{plain_header, was_primary}
use Rattle.fz_head.specs.declared.plan.Plan.{Plan}
use Rattle.fz_files.specs.Packed.{pixel_bits, tiles_in, zero_filled}

-- the bytes of an HDU's header in the file
abbrev pub header_in : List ℕ → Header → List ℕ
header_in file h = (hdu_of file h).header

-- whether the HDU with this header is the table of a packed image
abbrev pub is_image : List ℕ → Header → Bool
is_image file h = is_packed (header_in file h) h

-- the plan that a packed header stands for, and its table
abbrev pub plan_in : List ℕ → Header → Plan
plan_in file h = plan_of_cards (cards_of (header_in file h))

abbrev pub image_table : List ℕ → Header → Table
image_table file h = table_in (header_in file h) h

-- tiles are stored only as plain bytes
abbrev pub is_plain_codec : Codec → Bool
is_plain_codec (Rice block bytepix) = false
is_plain_codec Plio = false
is_plain_codec Plain = true

-- how many pixels tile t has
abbrev pub pixels_of : Plan → ℕ → ℕ
pixels_of p t = product (tile_lengths (lengths_of p.shape) (lengths_of p.tile) t)

-- what is known of tile t before its row is read
abbrev pub tile_of : Plan → ℕ → Tile
tile_of p t = record { pixels = pixels_of p t; plain_len = pixel_bits p / 8 * pixels_of p t; plain = is_plain_codec p.codec }

-- the place of a tile whose record was found in this column
abbrev pub place_in : TileColumn → Place2
place_in column.Coded = place.Coded
place_in column.Stored = place.Stored

-- the record means these pixels
abbrev pub RecordMeans : List ℕ → Plan → Record → List ℤ → Type 0
RecordMeans file p found xs =
    IsRecord p.codec (pixel_bits p) (place_in found.column) found.total (record_bytes file found) xs

-- row t of a packed image stands for these pixels: no check refuses it, and its record means them
pub record RowStandsFor (file : List ℕ) (h : Header) (t : ℕ) (xs : List ℤ) : Type 0 where
  pub found : Record
  pub chosen : record_at file h.hdu (image_table file h) t (tile_of (plan_in file h) t) ≡ Ok found
  pub count : length xs ≡ pixels_of (plan_in file h) t
  pub means : RecordMeans file (plan_in file h) found xs

-- The rows of a packed image stand for the tiles of an array, which has as many numbers as places.
pub record RowsStandFor (file : List ℕ) (h : Header) (a : NumberArray) : Type 0 where
  pub lengths : a.lengths ≡ lengths_of (plan_in file h).shape
  pub whole : IsArray a
  pub tiles : (t : ℕ) → t < tiles_in (plan_in file h) → RowStandsFor file h t (tile a (lengths_of (plan_in file h).tile) t)

-- the image of a packed header with these cards: its own header, the plain bytes of its array, and fill
abbrev pub image_bytes : Plan → List (List ℕ) → NumberArray → List ℕ
image_bytes p cards a = header_bytes (plain_header cards) ++ zero_filled (plain_bytes (pixel_bits p) a.numbers)

-- these bytes are the image that a packed HDU stands for
pub record IsImageOf (file : List ℕ) (h : Header) (bytes : List ℕ) : Type 0 where
  pub array : NumberArray
  pub rows : RowsStandFor file h array
  pub image : bytes ≡ image_bytes (plan_in file h) (cards_of (header_in file h)) array

-- what an HDU stands for that is packed, or is not: its image, or itself
abbrev pub StandsForAs : Bool → List ℕ → Header → List ℕ → Type 0
StandsForAs true file h bytes = IsImageOf file h bytes
StandsForAs false file h bytes = bytes ≡ hdu_bytes (hdu_of file h)

abbrev pub HduStandsFor : List ℕ → Header → List ℕ → Type 0
HduStandsFor file h bytes = StandsForAs (is_image file h) file h bytes

-- what HDUs stand for, one after another
abbrev pub HdusStandFor : List ℕ → List Header → List ℕ → Type 0
HdusStandFor file [] bytes = bytes ≡ []
HdusStandFor file (h ∷ hs) bytes = (front : List ℕ) × (back : List ℕ) × (bytes ≡ front ++ back) × HduStandsFor file h front × HdusStandFor file hs back

-- the HDU is packed and was a primary, so that the empty primary before it stands for nothing
abbrev pub is_packed_primary : List ℕ → Header → Bool
is_packed_primary file h = is_image file h && was_primary (cards_of (header_in file h))

-- the HDUs that stand for something: all, but for a primary before a packed primary
abbrev pub standing : List ℕ → List Header → List Header
standing file [] = []
standing file (h ∷ []) = h ∷ []
standing file (h ∷ k ∷ hs) = if is_packed_primary file k then k ∷ hs else h ∷ k ∷ hs
