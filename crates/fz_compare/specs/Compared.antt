-- Bytes of a packed file, compared with those that `pack` writes (FITS 4.0, sections 3.3.2, 7.3.5 and 10.1).
use Rattle.std.specs.Prelude.{false, ℕ, ◌≡◌, ◌+◌, ◌-◌, ◌*◌, ◌^◌, ◌<◌, ◌≤◌, ℤ, Bool, true, bytes_eq, nat_le}
use Rattle.std.specs.Prelude.{◌==◌, ◌&&◌, List, length, replicate, take, drop, Option, Some, None, IfSome}
use Rattle.std.specs.List.{range_with_len}
use Rattle.fz_block.specs.Hdus.{header_bytes}
use Rattle.fz_block.specs.Header.{data_start_of, next_start_of, whole_blocks_of}
use Rattle.fz_block.specs.declared.header.Header.{Header}
use Rattle.fz_fetch.specs.Fetched.{HaveTiles}
use Rattle.fz_files.specs.Packed.{heap_of, packed_data, rows_from, table_header, with_sums}
use Rattle.fz_files.specs.Restored.{RowStandsFor}
use Rattle.fz_head.specs.EmptyPrimary.{empty_primary}
use Rattle.fz_image.specs.Layout.{IsLayout, heap_at_of, rows_len_of}
use Rattle.fz_image.specs.Progress.{no_progress, with_heap, with_tiles}
use Rattle.fz_image.specs.Tiles.{AreCodesFrom, HaveRoom, codes_from, pixels_of, tile_in, tiles_from}
use Rattle.fz_image.specs.declared.layout.Layout.{Layout}
use Rattle.fz_image.specs.declared.progress.Progress.{Progress}
use Rattle.fz_pool.specs.declared.slot.Job.{Job}
use Rattle.fz_pool.specs.declared.slot.Slot.{Slot}
use Rattle.fz_pool.specs.Window.{Pool}
use Rattle.fz_tile.specs.TileCode.{TileCode}
use Rattle.fz_tile.specs.declared.coded.Place2.TheVariants.{Stored}

-- the file has these bytes at a place, before another
abbrev pub has_bytes : List ℕ → ℕ → ℕ → List ℕ → Bool
has_bytes file at end bytes = nat_le (at + length bytes) end && bytes_eq (take (length bytes) (drop at file)) bytes

-- a table whose heap has so many bytes ends at this byte, and zeros fill its data
abbrev pub has_fill : List ℕ → ℕ → Layout → ℕ → Bool
has_fill file end l heap =
    let len = rows_len_of l + heap in
    (end == l.rows_at + whole_blocks_of len) && has_bytes file (heap_at_of l + heap) end (replicate (whole_blocks_of len - len) 0)

-- the table has this header
abbrev pub has_header : List ℕ → Header → List ℕ → Bool
has_header file h bytes = (h.start + length bytes == data_start_of h) && has_bytes file h.start (data_start_of h) bytes

-- the primary without data that `pack` writes is before the HDU, and nothing else
abbrev pub has_empty_primary : List ℕ → Header → Bool
has_empty_primary file h = (h.start == 2880) && has_bytes file 0 h.start (header_bytes empty_primary)

-- what is before the table of an image is what `pack` writes, if the image was a primary
abbrev pub begins_right : Bool → List ℕ → Header → Bool
begins_right false file h = true
begins_right true file h = has_empty_primary file h

-- All but the rows and the heap is what `pack` writes for tiles with these codes: the table ends after the heap and zeros, what is before
-- the table of a primary is the primary without data, and the header is that of the table of an image with these cards.
abbrev pub has_frame : List ℕ → Header → Layout → Bool → List (List ℕ) → List TileCode → Bool
has_frame file h l sums cards codes =
    has_fill file (next_start_of h) l (length (heap_of codes)) && (begins_right l.plan.primary file h
    && has_header file h (header_bytes (with_sums sums (table_header l.plan cards codes) (packed_data l.plan codes))))

-- the job of a slot whose tile is to be encoded
abbrev pub coding_job : Layout → ℕ → Job
coding_job l t = record { tile = t; pixels = pixels_of l t; codec = l.plan.codec; bitpix = l.plan.bitpix; place = Stored; len = 0; total = 0 }

-- the slot whose tile is to be encoded
abbrev pub with_job : Layout → ℕ → Slot → Slot
with_job l t x = record x { job = coding_job l t }

-- a tile has some pixels, at most 2^26, and no more than tile 0
pub record HasFewPixels (l : Layout) (t : ℕ) : Type 0 where
  pub some : 1 ≤ pixels_of l t
  pub most : pixels_of l t ≤ 2 ^ 26
  pub no_larger : pixels_of l t ≤ pixels_of l 0

-- what was written of a table is that of its first tiles, whatever their pixels are
pub record IsSoFar (l : Layout) (w : Progress) : Type 0 where
  pub codes : List TileCode
  pub each : AreCodesFrom l 0 codes
  pub some : length codes ≤ l.tiles
  pub progress : w ≡ with_tiles l no_progress codes

-- the next bytes of the heap are these codes, and this is then written
pub record HasHeap (file : List ℕ) (end : ℕ) (l : Layout) (w : Progress) (codes : List TileCode) : Type 0 where
  pub heap : has_bytes file (heap_at_of l + w.heap) end (heap_of codes) ≡ true

-- the next rows and the next bytes of the heap are those of tiles with these codes
pub record HasCodes (file : List ℕ) (end : ℕ) (l : Layout) (w : Progress) (codes : List TileCode) : Type 0 where
  pub rows : has_bytes file (l.rows_at + l.row_len * w.tiles) end (rows_from l.plan w.heap codes) ≡ true
  pub heap : has_bytes file (heap_at_of l + w.heap) end (heap_of codes) ≡ true

-- the answer of a comparison: what is then written, or that the file has other bytes
abbrev pub ComparesHeap : List ℕ → ℕ → Layout → Progress → List TileCode → Option Progress → Type 0
ComparesHeap file end l w codes None = ¬ HasHeap file end l w codes
ComparesHeap file end l w codes (Some now) = HasHeap file end l w codes × (now ≡ with_heap l w codes)

abbrev pub ComparesCodes : List ℕ → ℕ → Layout → Progress → List TileCode → Option Progress → Type 0
ComparesCodes file end l w codes None = ¬ HasCodes file end l w codes
ComparesCodes file end l w codes (Some now) = HasCodes file end l w codes × (now ≡ with_tiles l w codes)

-- The next tiles, whose pixels are in the first slots, are compared so with what `pack` writes for them: of each plain file u that has these
-- pixels there. What is then written is that of so many tiles more.
pub record ComparesRound (held : Option (List ℕ)) (end : ℕ) (l : Layout) (w : Progress) (count : ℕ) (slots : List Slot) (now : Option Progress) : Type 0 where
  pub compared :
      (u : List ℕ) (pixels : List (List ℤ)) → HaveTiles l.plan (range_with_len w.tiles count) slots pixels → pixels ≡ tiles_from l u w.tiles count →
      IfSome held (λ file. ComparesCodes file end l w (codes_from l u w.tiles count) now)
  pub progress : IfSome now (λ w'. IsSoFar l w' × (w'.tiles ≡ w.tiles + count))

-- there is nothing more to compare if there is no layout, or if tiles before these differ
abbrev pub ComparesNext : Option (List ℕ) → ℕ → Option Layout → Option Progress → ℕ → List Slot → Option Progress → Type 0
ComparesNext held end None w count slots now = now ≡ None
ComparesNext held end (Some l) None count slots now = now ≡ None
ComparesNext held end (Some l) (Some w) count slots now = ComparesRound held end l w count slots now

-- nothing was written of the table of a layout, if there is one
abbrev pub begun : Option Layout → Option Progress
begun None = None
begun (Some l) = Some no_progress

-- the first slots have the pixels of the next tiles, and room for each tile
pub record AreReady (l : Layout) (w : Progress) (count : ℕ) (window : Pool) : Type 0 where
  pub layout : IsLayout l
  pub so_far : IsSoFar l w
  pub tiles : w.tiles + count ≤ l.tiles
  pub room : HaveRoom l window
  pub pixels : List (List ℤ)
  pub have : HaveTiles l.plan (range_with_len w.tiles count) window.slots pixels

-- The same of all tiles of a packed image: of the plain file u, if each row stands for the tile of its image.
abbrev pub RowsStandForTiles : List ℕ → Header → Layout → List ℕ → Type 0
RowsStandForTiles file h l u = (t : ℕ) → t < l.tiles → RowStandsFor file h t (tile_in l u t)

abbrev pub ComparesTable : List ℕ → Header → Layout → Option Progress → Type 0
ComparesTable file h l now = (u : List ℕ) → RowsStandForTiles file h l u → ComparesCodes file (next_start_of h) l no_progress (codes_from l u 0 l.tiles) now
