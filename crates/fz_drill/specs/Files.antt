-- The files of `drill`: images of some columns of its pixels, which are its file and the part that is cut from it (FITS 4.0, sections
-- 4.4.1.1 and 5.2).
use Rattle.std.specs.Prelude.{ℕ, ◌≤◌, ℤ, List, [], ◌∷◌, ◌++◌, map, codes}
use Rattle.std.specs.List.{flat_map, range_with_len}
use Rattle.fz_block.specs.Hdus.{header_bytes}
use Rattle.fz_tile.specs.Plain.{plain_bytes}
use Rattle.fz_head.specs.PackedHeader.{flag_card, number_card, numbered_number_card}
use Rattle.fz_files.specs.Drill.{drill_pixel}
use Rattle.fz_files.specs.Packed.{zero_filled}

-- the rows that `drill` takes
pub record IsRows (rows : ℕ) : Type 0 where
  pub some : 1 ≤ rows
  pub most : rows ≤ 16384

-- the pixels of some columns of row y, from the first column on
abbrev pub row_pixels : ℕ → ℕ → ℕ → List ℤ
row_pixels first columns y = map (λ x. drill_pixel x y) (range_with_len first columns)

-- those of so many rows
abbrev pub image_pixels : ℕ → ℕ → ℕ → List ℤ
image_pixels first columns rows = flat_map (row_pixels first columns) (range_with_len 0 rows)

-- the cards of an image of so many columns and rows
abbrev pub image_cards : ℕ → ℕ → List (List ℕ)
image_cards columns rows =
    flag_card (codes "SIMPLE")
    ∷ number_card (codes "BITPIX") 16
    ∷ number_card (codes "NAXIS") 2
    ∷ numbered_number_card (codes "NAXIS") 1 columns
    ∷ numbered_number_card (codes "NAXIS") 2 rows
    ∷ []

-- the file of such an image
unfoldable pub image_file : ℕ → ℕ → ℕ → List ℕ
image_file first columns rows = header_bytes (image_cards columns rows) ++ zero_filled (plain_bytes 16 (image_pixels first columns rows))

-- the file that should be cut from the packed one: columns 33 to 64, which are counted from 0 here, of all rows
abbrev pub part_file : ℕ → List ℕ
part_file rows = image_file 32 32 rows
