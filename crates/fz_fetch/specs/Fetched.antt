-- Tiles that were fetched: the first slots have their pixels, or one of them is refused (FITS 4.0, section 10.1.3).
use Rattle.std.specs.Prelude.{ℕ, ◌≡◌, ◌<◌, ℤ, List, length, map, take, slice_index, slice_index_or, Option, Some, IfSome, Result}
use Rattle.fz_base.specs.Stop.{IfRefused}
use Rattle.fz_base.specs.declared.failure.Stop.{Stop}
use Rattle.fz_base.specs.declared.fault.Fault.{Fault}
use Rattle.fz_block.specs.declared.header.Header.{Header}
use Rattle.fz_table.specs.Records.{IsOfRow}
use Rattle.fz_tile.specs.Pixels.{HoldPixels, place_count}
use Rattle.fz_head.specs.declared.plan.Plan.{Plan}
use Rattle.fz_files.specs.FirstFault.{IsFirstRowFault, image_row}
use Rattle.fz_files.specs.Packed.{pixel_bits}
use Rattle.fz_files.specs.Restored.{RowStandsFor, pixels_of}
use Rattle.fz_pool.specs.declared.slot.Slot.{Slot}

-- the first of these numbers hold these pixels of tile t
pub record HoldsPixels (p : Plan) (t : ℕ) (numbers pixels : List ℤ) : Type 0 where
  pub count : length pixels ≡ pixels_of p t
  pub hold : HoldPixels (pixel_bits p) (take (place_count (pixel_bits p) (pixels_of p t)) numbers) pixels

-- those of the slot do
abbrev pub HasTile : Plan → ℕ → Slot → List ℤ → Type 0
HasTile p t x pixels = HoldsPixels p t x.numbers pixels

-- the first slots have these pixels of tiles, in order
pub record HaveTiles (p : Plan) (tiles : List ℕ) (slots : List Slot) (pixels : List (List ℤ)) : Type 0 where
  pub count : length pixels ≡ length tiles
  pub each : (i : ℕ) (d : Slot) (e : List ℤ) → i < length tiles → HasTile p (slice_index tiles i) (slice_index_or slots i d) (slice_index_or pixels i e)

-- the rows of tiles stand for these pixels, in order
abbrev pub RowsGive : List ℕ → Header → List ℕ → List (List ℤ) → Type 0
RowsGive file h tiles pixels = (i : ℕ) (e : List ℤ) → i < length tiles → RowStandsFor file h (slice_index tiles i) (slice_index_or pixels i e)

-- the first slots have the pixels that the rows of tiles stand for
pub record AreFetched (held : Option (List ℕ)) (h : Header) (p : Plan) (tiles : List ℕ) (slots : List Slot) : Type 0 where
  pub pixels : List (List ℤ)
  pub have : HaveTiles p tiles slots pixels
  pub told : IfSome held (λ file. RowsGive file h tiles pixels)

-- these numbers have the pixels that the row of tile t stands for
pub record IsFetched (held : Option (List ℕ)) (h : Header) (p : Plan) (t : ℕ) (numbers : List ℤ) : Type 0 where
  pub pixels : List ℤ
  pub hold : HoldsPixels p t numbers pixels
  pub told : IfSome held (λ file. RowStandsFor file h t pixels)

-- a fault of the row of one of these tiles
abbrev pub IsOfRowAmong : ℕ → List ℕ → Fault → Type 0
IsOfRowAmong hdu tiles x = (i : ℕ) × (i < length tiles) × IsOfRow hdu (slice_index tiles i) x

-- the first fault of the rows of these tiles is that of the answer Refused
abbrev pub TellsRowFault : {X : Type 0} → Option (List ℕ) → Header → List ℕ → Result X Stop → Type 0
TellsRowFault held h tiles result = IfRefused result (λ x. IfSome held (λ file. IsFirstRowFault file (map (image_row h) tiles) (Some x)))
