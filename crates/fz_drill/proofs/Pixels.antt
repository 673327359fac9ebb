-- How many pixels the images of `drill` have, and how long their files are.
use Rattle.std.specs.List.{flat_map, range_with_len}
use Rattle.std.proofs.Common.{◌≡◌, ℕ, zero, suc, ◌+◌, ◌-◌, ◌*◌, ◌≤◌, List, ◌++◌, length, replicate, ap, ◌∙◌, arith, rules}
use Rattle.std.proofs.lemmas.List.{length-append, length-map, length-replicate}
use Rattle.std.proofs.lemmas.List.FromFn.{length-range_with_len}
use Rattle.fz_block.specs.Header.{whole_blocks_of}
use Rattle.fz_tile.specs.Laws.{HasPlainLen}
use Rattle.fz_tile.specs.Plain.{plain_bytes}
use Rattle.fz_files.specs.Packed.{zero_filled}
use Rattle.fz_drill.specs.Files.{image_pixels, row_pixels}

pub row_count : (first columns y : ℕ) → length (row_pixels first columns y) ≡ columns
row_count first columns y = length-map (range_with_len first columns) _ ∙ length-range_with_len first columns

rows_count : (first columns start rows : ℕ) → length (flat_map (row_pixels first columns) (range_with_len start rows)) ≡ rows * columns
rows_count first columns start zero = let none : 0 ≡ 0 * columns = omega arith in none
rows_count first columns start (suc rows) =
    let both : length (row_pixels first columns start ++ flat_map (row_pixels first columns) (range_with_len (start + 1) rows)) ≡
    length (row_pixels first columns start) + length (flat_map (row_pixels first columns) (range_with_len (start + 1) rows)) =
    length-append (row_pixels first columns start) (flat_map (row_pixels first columns) (range_with_len (start + 1) rows)) in
    let all : columns + rows * columns ≡ suc rows * columns = grind arith in
    both ∙ ((λ i. row_count first columns start i + rows_count first columns (start + 1) rows i) ∙ all)

pub pixels_count : (first columns rows : ℕ) → length (image_pixels first columns rows) ≡ columns * rows
pixels_count first columns rows = rows_count first columns 0 rows ∙ grind arith

pub plain_count : HasPlainLen → (first columns rows : ℕ) → length (plain_bytes 16 (image_pixels first columns rows)) ≡ 2 * (columns * rows)
plain_count len first columns rows = len 16 (image_pixels first columns rows) (search rules) ∙ ap (λ n. 2 * n) (pixels_count first columns rows)

pub filled_count : (bytes : List ℕ) → length (zero_filled bytes) ≡ whole_blocks_of (length bytes)
filled_count bytes =
    let n : ℕ = length bytes in
    let more : n ≤ whole_blocks_of n = omega arith in
    let both : length (bytes ++ replicate (whole_blocks_of n - n) 0) ≡ n + length (replicate {A = ℕ} (whole_blocks_of n - n) 0) = length-append bytes (replicate (whole_blocks_of n - n) 0) in
    let fill : length (replicate {A = ℕ} (whole_blocks_of n - n) 0) ≡ whole_blocks_of n - n = length-replicate {A = ℕ} (whole_blocks_of n - n) 0 in
    omega (arith, both, fill, more)
