-- What was read of an image before it was wanted: rows that are neighbours, and bytes of the heap (FITS 4.0, section 7.3.5).
use Rattle.std.specs.Prelude.{ℕ, ◌≡◌, ◌+◌, ◌*◌, ◌^◌, ◌<◌, ◌≤◌, List, length, take, drop, Option, IfSome}
use Rattle.std.specs.List.{range_with_len}
use Rattle.fz_base.specs.Ranges.{LiesIn}
use Rattle.fz_table.specs.declared.table.Table.{Table}
use Rattle.fz_checks.specs.declared.job_checks.PackedImage.{PackedImage}
use Rattle.fz_fetch.specs.Loaded.{tiles_ranges}
use Rattle.fz_fetch.specs.Rows.{HasRowsOf}
use Rattle.fz_fetch.specs.declared.ahead.Ahead.{Ahead}

-- nothing was read
abbrev pub nothing_ahead : Ahead
nothing_ahead = record { first = 0; count = 0; at = 0; len = 0 }

-- These bytes begin with so many rows of a table, from one on; and after the first 4096 there are so many bytes of the file, from one on.
pub record IsAhead (held : Option (List ℕ)) (table : Table) (bytes : List ℕ) (a : Ahead) : Type 0 where
  pub few : a.count ≤ 128
  pub front : table.row_bytes * a.count ≤ 4096
  pub rows : HasRowsOf held table (take (table.row_bytes * a.count) bytes) (range_with_len a.first a.count)
  pub room : 4096 + a.len ≤ length bytes
  pub near : a.at + a.len ≤ 2 ^ 62
  pub told : IfSome held (λ file. take a.len (drop 4096 bytes) ≡ take a.len (drop a.at file))

-- the numbers of all tiles of an image: each has a row
abbrev pub image_tiles : PackedImage → List ℕ
image_tiles image = range_with_len 0 image.table.rows

-- the ranges of the descriptors of all its rows, and of what is read of their records
abbrev pub all_ranges : List ℕ → ℕ → PackedImage → List (ℕ × ℕ)
all_ranges file hdu image = tiles_ranges file hdu image (image_tiles image)

-- so many bytes of the file, from one on, lie in them
abbrev pub AreOfRows : List ℕ → ℕ → PackedImage → ℕ → ℕ → Type 0
AreOfRows file hdu image at len = (byte : ℕ) → at ≤ byte → byte < at + len → LiesIn (all_ranges file hdu image) byte
