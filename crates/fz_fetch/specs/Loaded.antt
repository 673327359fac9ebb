-- Tiles whose records were read into the slots of a window (FITS 4.0, sections 7.3.5 and 10.1.3).
use Rattle.std.specs.Prelude.{ℕ, ◌≡◌, ◌*◌, ◌<◌, ◌≤◌, List, length, slice_index, slice_index_or, Option, Some, None, IfSome, Ok, Err}
use Rattle.std.specs.List.{flat_map}
use Rattle.fz_base.specs.declared.fault.Fault.{Fault}
use Rattle.fz_table.specs.Reads.{tile_ranges}
use Rattle.fz_table.specs.Records.{IsOfRow, record_at, record_bytes}
use Rattle.fz_table.specs.declared.record.Record.{Record}
use Rattle.fz_checks.specs.declared.job_checks.PackedImage.{PackedImage}
use Rattle.fz_files.specs.Restored.{tile_of}
use Rattle.fz_pool.specs.Slots.{IsForDecoding, record_of}
use Rattle.fz_pool.specs.Window.{Pool}
use Rattle.fz_pool.specs.declared.slot.Slot.{Slot}
use Rattle.fz_job.specs.Images.{AreTilesOf, HaveRoom, IsReadable}
use Rattle.fz_fetch.specs.Rows.{StandsWithin}
use Rattle.fz_fetch.specs.Tiles.{decoding_job}
use Rattle.fz_fetch.specs.declared.loading.Loaded.{Loaded}

-- the records of these tiles of an image can be read into the first slots of a window: what is attached holds its table, and each of them
-- has a slot with room for it
pub record CanLoad (attached : Option ℕ) (image : PackedImage) (tiles : List ℕ) (w : Pool) : Type 0 where
  pub readable : IsReadable image
  pub within : StandsWithin attached image.table
  pub known : AreTilesOf image tiles
  pub few : length tiles ≤ 128
  pub room : HaveRoom image w
  pub near : length tiles ≤ 2 * w.workers

-- no check refuses the row of tile t, and this is its record
abbrev pub IsRecordIn : List ℕ → ℕ → PackedImage → ℕ → Record → Type 0
IsRecordIn file hdu image t found = record_at file hdu image.table t (tile_of image.plan t) ≡ Ok found

-- a check of the row of tile t refuses it with this fault
abbrev pub IsRefusedIn : List ℕ → ℕ → PackedImage → ℕ → Fault → Type 0
IsRefusedIn file hdu image t fault = record_at file hdu image.table t (tile_of image.plan t) ≡ Err fault

-- the slot has the record of tile t, to be decoded
pub record IsLoaded (held : Option (List ℕ)) (hdu : ℕ) (image : PackedImage) (t : ℕ) (x : Slot) : Type 0 where
  pub found : Record
  pub ready : IsForDecoding x
  pub job : x.job ≡ decoding_job image.plan t found
  pub told : IfSome held (λ file. IsRecordIn file hdu image t found × (record_of x ≡ record_bytes file found))

-- the first slots have the records of the first of these tiles
abbrev pub AreLoaded : Option (List ℕ) → ℕ → PackedImage → List ℕ → ℕ → List Slot → Type 0
AreLoaded held hdu image tiles count slots = (i : ℕ) (d : Slot) → i < count → IsLoaded held hdu image (slice_index tiles i) (slice_index_or slots i d)

-- all tiles were loaded, or the row of the next one is refused with this fault
abbrev pub StopsAt : Option (List ℕ) → ℕ → PackedImage → List ℕ → ℕ → Option Fault → Type 0
StopsAt held hdu image tiles count None = count ≡ length tiles
StopsAt held hdu image tiles count (Some fault) =
    (count < length tiles) × IsOfRow hdu (slice_index tiles count) fault × IfSome held (λ file. IsRefusedIn file hdu image (slice_index tiles count) fault)

-- the first of these tiles are loaded, up to the first whose row is refused
pub record LoadsTiles (held : Option (List ℕ)) (hdu : ℕ) (image : PackedImage) (tiles : List ℕ) (slots : List Slot) (l : Loaded) : Type 0 where
  pub few : l.count ≤ length tiles
  pub loaded : AreLoaded held hdu image tiles l.count slots
  pub stops : StopsAt held hdu image tiles l.count l.refused

-- the ranges of the descriptors of tiles, and of what is read of their records
abbrev pub tiles_ranges : List ℕ → ℕ → PackedImage → List ℕ → List (ℕ × ℕ)
tiles_ranges file hdu image tiles = flat_map (λ t. tile_ranges file hdu image.table t (tile_of image.plan t)) tiles
