-- The file that a packed file stands for, by its bytes only: the image of each packed table, and every other HDU as it is (FITS 4.0,
-- sections 10.1.1 to 10.1.3).
use Rattle.std.specs.Prelude.{ℕ, ℤ, List, [], map, Result, Ok, Err, if◌then◌else◌}
use Rattle.std.specs.List.{flat_map, range_with_len}
use Rattle.fz_base.specs.declared.fault.Fault.{Fault}
use Rattle.fz_block.specs.Hdus.{cards_of, hdu_bytes}
use Rattle.fz_block.specs.Walk.{hdu_of}
use Rattle.fz_block.specs.declared.header.Header.{Header}
use Rattle.fz_grid.specs.Arrays.{NumberArray}
use Rattle.fz_grid.specs.Region.{lengths_of}
use Rattle.fz_grid.specs.Whole.{joined}
use Rattle.fz_files.specs.declared.job.Job.TheVariants.{Unpack}
use Rattle.fz_files.specs.Packed.{tiles_in}
use Rattle.fz_files.specs.Restored.{header_in, image_bytes, is_image, plan_in, standing}
use Rattle.fz_files.specs.Walks.{headers_for}
use Rattle.fz_files.specs.RowPixels.{image_row, row_pixels}

-- the pixels of a row; none if it has a fault
abbrev pub pixels_or_none : Result (List ℤ) Fault → List ℤ
pixels_or_none (Ok xs) = xs
pixels_or_none (Err fault) = []

-- the pixels of tile t of a packed image
abbrev pub tile_pixels : List ℕ → Header → ℕ → List ℤ
tile_pixels file h t = pixels_or_none (row_pixels file (image_row h t))

-- the array that has these tiles
abbrev pub image_array : List ℕ → Header → NumberArray
image_array file h =
    let p = plan_in file h in
    joined (lengths_of p.shape) (lengths_of p.tile) (map (tile_pixels file h) (range_with_len 0 (tiles_in p)))

-- what an HDU stands for: the image of a packed table, or its own bytes
abbrev pub restored_hdu : List ℕ → Header → List ℕ
restored_hdu file h = if is_image file h then image_bytes (plan_in file h) (cards_of (header_in file h)) (image_array file h) else hdu_bytes (hdu_of file h)

-- what the HDUs of a packed file stand for, one after another
unfoldable pub restored : List ℕ → List ℕ
restored file = flat_map (restored_hdu file) (standing file (headers_for Unpack file))
