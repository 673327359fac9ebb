-- Where the parts of an image and of its table are (FITS 4.0, sections 3.3.2, 7.3 and 10.1).
use Rattle.std.specs.Prelude.{ℕ, ◌≡◌, ◌+◌, ◌*◌, ◌^◌, ◌<◌, ◌≤◌, List, Option, Some}
use Rattle.fz_base.specs.Source.{LogsWithin}
use Rattle.fz_block.specs.Header.{data_start_of}
use Rattle.fz_block.specs.declared.header.Header.{Header}
use Rattle.fz_grid.specs.Arrays.{product}
use Rattle.fz_grid.specs.Region.{IsDivided, lengths_of}
use Rattle.fz_tile.specs.Codecs.{CanWrite}
use Rattle.fz_head.specs.PackedTable.{planned_row}
use Rattle.fz_head.specs.Planned.{is_wide, pixel_len}
use Rattle.fz_head.specs.declared.plan.Plan.{Plan}
use Rattle.fz_files.specs.Packed.{tiles_in}
use Rattle.fz_image.specs.declared.layout.Layout.{Layout}

-- the layout of an image with this plan, whose table has its rows from this byte on
abbrev pub layout_of : Header → Plan → ℕ → Layout
layout_of h p rows_at = record {
  plan = p;
  tiles = tiles_in p;
  pixel_len = pixel_len p.bitpix;
  pixels_at = data_start_of h;
  row_len = planned_row p;
  rows_at = rows_at;
}

-- the bytes of all rows, and the byte at which the heap begins
abbrev pub rows_len_of : Layout → ℕ
rows_len_of l = l.row_len * l.tiles

abbrev pub heap_at_of : Layout → ℕ
heap_at_of l = l.rows_at + rows_len_of l

-- the bytes of the image
abbrev pub pixel_bytes_of : Layout → ℕ
pixel_bytes_of l = l.pixel_len * product (lengths_of l.plan.shape)

-- a plan that an image can be packed by: it divides the image into tiles that its codec can write, and its descriptors are as wide as
-- the plain bytes of the image ask
pub record IsPlan (p : Plan) : Type 0 where
  pub divided : IsDivided p.shape p.tile
  pub writable : CanWrite p.codec p.bitpix
  pub wide : p.wide ≡ is_wide p.bitpix (lengths_of p.shape)

-- a layout by such a plan, after byte 0
pub record IsLayout (l : Layout) : Type 0 where
  pub plan : IsPlan l.plan
  pub tiles : l.tiles ≡ tiles_in l.plan
  pub pixel_len : l.pixel_len ≡ pixel_len l.plan.bitpix
  pub row_len : l.row_len ≡ planned_row l.plan
  pub behind : 0 < l.rows_at
  pub near : l.rows_at ≤ 2 ^ 63
  pub pixels : l.pixels_at ≤ 2 ^ 62

-- the pixels are within what is attached
abbrev pub HasPixels : Option ℕ → Layout → Type 0
HasPixels attached l = (n : ℕ) × (attached ≡ Some n) × (l.pixels_at + pixel_bytes_of l ≤ n)

-- bytes of the pixels were read, and no others
abbrev pub ReadsPixels : Layout → Option (List (ℕ × ℕ)) → Option (List (ℕ × ℕ)) → Type 0
ReadsPixels l old new = LogsWithin l.pixels_at (l.pixels_at + pixel_bytes_of l) old new
