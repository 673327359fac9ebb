-- Tiles that are read in parts: where the code of a tile is read on, and which of its pixels are there (FITS 4.0, sections 10.1.3 and 10.4.1).
use Rattle.std.specs.Prelude.{ℕ, ◌≡◌, ◌-◌, ◌<◌, ◌≤◌, ℤ, List, length, take, drop, All, Contains, Option, Some, None, IfSome, Ok}
use Rattle.fz_block.specs.declared.header.Header.{Header}
use Rattle.fz_grid.specs.Region.{lengths_of}
use Rattle.fz_grid.specs.declared.sieve.Sieve.{Sieve}
use Rattle.fz_grid.specs.Cutout.{picks_in_tile}
use Rattle.fz_table.specs.Records.{record_at, record_bytes}
use Rattle.fz_table.specs.declared.record.Record.{Record}
use Rattle.fz_table.specs.declared.record.TileColumn.TheVariants.{Coded}
use Rattle.fz_tile.specs.Parts.{IsMarkAfter}
use Rattle.fz_tile.specs.Pixels.{HoldPixels, place_count}
use Rattle.fz_tile.specs.declared.codec.Codec.{Codec}
use Rattle.fz_tile.specs.declared.codec.Codec.TheVariants.{Rice}
use Rattle.fz_head.specs.declared.plan.Plan.{Plan}
use Rattle.fz_files.specs.FirstFault.{IsRowSound, image_row}
use Rattle.fz_files.specs.Packed.{pixel_bits}
use Rattle.fz_files.specs.Restored.{RowStandsFor, image_table, pixels_of, plan_in, tile_of}
use Rattle.fz_pixels.specs.declared.marks.TileMark.{TileMark}

-- the pixel after a mark, or pixel 0 if there is none
abbrev pub part_start : Option TileMark → ℕ
part_start None = 0
part_start (Some m) = m.pixel

-- the record of tile t is a Rice code, which is read on from this mark
pub record IsReadOnFrom (file : List ℕ) (h : Header) (t : ℕ) (m : TileMark) : Type 0 where
  pub found : Record
  pub chosen : record_at file h.hdu (image_table file h) t (tile_of (plan_in file h) t) ≡ Ok found
  pub column : found.column ≡ Coded
  pub mark : IsMarkAfter (plan_in file h).codec (record_bytes file found) m.pixel m.mark

-- if row t stands for pixels, and some of them are after this mark, they are read on from it
abbrev pub IsMarkIn : List ℕ → Header → ℕ → TileMark → Type 0
IsMarkIn file h t m = IsRowSound file (image_row h t) → m.pixel < pixels_of (plan_in file h) t → IsReadOnFrom file h t m

-- tiles that are coded by this codec are read in parts
abbrev pub HasBlocks : Codec → Type 0
HasBlocks codec = (block : ℕ) × (bytepix : ℕ) × (codec ≡ Rice block bytepix)

-- row t stands for pixels by a code that is read in parts
pub record IsReadInParts (file : List ℕ) (h : Header) (t : ℕ) : Type 0 where
  pub pixels : List ℤ
  pub stands : RowStandsFor file h t pixels
  pub column : stands.found.column ≡ Coded
  pub codec : HasBlocks (plan_in file h).codec

-- of the pixels of tile t, which are `pixels`, these numbers hold those from pixel i on and before pixel j, each at its place
pub record HoldsBetween (p : Plan) (t i j : ℕ) (numbers pixels : List ℤ) : Type 0 where
  pub count : length pixels ≡ pixels_of p t
  pub hold :
      HoldPixels (pixel_bits p) (take (place_count (pixel_bits p) (j - i)) (drop (place_count (pixel_bits p) i) numbers)) (take (j - i) (drop i pixels))

-- some pixels are held so; if row t stands for pixels, it is these
pub record IsPartFetched (held : Option (List ℕ)) (h : Header) (p : Plan) (t i j : ℕ) (numbers : List ℤ) : Type 0 where
  pub pixels : List ℤ
  pub hold : HoldsBetween p t i j numbers pixels
  pub told : IfSome held (λ file. (xs : List ℤ) → RowStandsFor file h t xs → HoldsBetween p t i j numbers xs)

-- the numbers before place i, and from place j on, are as before
abbrev pub AreOthersKept : ℕ → ℕ → List ℤ → List ℤ → Type 0
AreOthersKept i j old new = (take i new ≡ take i old) × (drop j new ≡ drop j old)

-- the picks of tile t are from pixel i on, and before pixel j
abbrev pub PicksLieBetween : Plan → Sieve → ℕ → ℕ → ℕ → Type 0
PicksLieBetween p sieve t i j = All (λ place. (i ≤ place) × (place < j)) (picks_in_tile (lengths_of p.shape) (lengths_of p.tile) sieve t)

-- pixel i is the first of them, and the last one is before pixel j
pub record SpansPicks (p : Plan) (sieve : Sieve) (t i j : ℕ) : Type 0 where
  pub within : PicksLieBetween p sieve t i j
  pub first : Contains (picks_in_tile (lengths_of p.shape) (lengths_of p.tile) sieve t) i
  pub last : Contains (picks_in_tile (lengths_of p.shape) (lengths_of p.tile) sieve t) (j - 1)
