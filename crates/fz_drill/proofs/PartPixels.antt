-- The pixels of the part that is cut from the image of `drill`.
use Rattle.std.specs.Prelude.{slice_index_or}
use Rattle.std.specs.List.{flat_map, range_with_len}
use Rattle.std.proofs.Common.{◌≡◌, ℕ, zero, suc, ◌+◌, ◌*◌, ◌<◌, ◌≤◌, ℤ, pos, List, [], ◌∷◌, ◌++◌, append-nil, length, map, take, drop, refl, sym, ap, ◌∙◌, arith, rules}
use Rattle.std.proofs.Math.Nat.{mul-le-mul_left}
use Rattle.std.proofs.lemmas.Grind.{flat_map-append}
use Rattle.std.proofs.lemmas.List.{map-append}
use Rattle.fz_grid.specs.Arrays.{NumberArray, IsArray, at, place_of, product}
use Rattle.fz_grid.specs.Grid.{box_coordinates}
use Rattle.fz_grid.specs.Sieve.{stepped}
use Rattle.fz_tile.specs.Laws.{SlicesBytes}
use Rattle.fz_tile.specs.Plain.{pixel_bytes, plain_bytes}
use Rattle.fz_files.specs.Drill.{drill_pixel}
use Rattle.fz_drill.specs.Files.{image_pixels, row_pixels}
use Rattle.fz_drill.proofs.Pixels.{pixels_count, row_count}

-- ---- elements of lists

at_front : (xs ys : List ℤ) (k : ℕ) (d : ℤ) → k < length xs → slice_index_or (xs ++ ys) k d ≡ slice_index_or xs k d
at_front [] ys k d within = absurd omega (arith, within)
at_front (x ∷ xs) ys zero d within = refl
at_front (x ∷ xs) ys (suc k) d within = at_front xs ys k d (omega (arith, within))

at_back : (xs ys : List ℤ) (k : ℕ) (d : ℤ) → slice_index_or (xs ++ ys) (length xs + k) d ≡ slice_index_or ys k d
at_back [] ys k d = let none : 0 + k ≡ k = omega arith in ap (λ j. slice_index_or ys j d) none
at_back (x ∷ xs) ys k d = let more : suc (length xs) + k ≡ suc (length xs + k) = omega arith in ap (λ j. slice_index_or (x ∷ (xs ++ ys)) j d) more ∙ at_back xs ys k d

one_of : (xs : List ℤ) (k : ℕ) (d : ℤ) → k < length xs → take 1 (drop k xs) ≡ slice_index_or xs k d ∷ []
one_of [] k d within = absurd omega (arith, within)
one_of (x ∷ xs) zero d within = refl
one_of (x ∷ xs) (suc k) d within = one_of xs k d (omega (arith, within))

at_mapped : (f : ℕ → ℤ) (a n k : ℕ) (d : ℤ) → k < n → slice_index_or (map f (range_with_len a n)) k d ≡ f (a + k)
at_mapped f a zero k d within = absurd omega (arith, within)
at_mapped f a (suc n) zero d within = let same : a ≡ a + 0 = omega arith in ap f same
at_mapped f a (suc n) (suc k) d within =
    let same : a + 1 + k ≡ a + suc k = omega arith in
    at_mapped f (a + 1) n k d (omega (arith, within)) ∙ ap f same

-- ---- the pixels of the image, by column and row

pixel_at : (first columns start rows x y : ℕ) (d : ℤ) → x < columns → y < rows →
    slice_index_or (flat_map (row_pixels first columns) (range_with_len start rows)) (x + columns * y) d ≡ drill_pixel (first + x) (start + y)
pixel_at first columns start zero x y d in_row in_rows = absurd omega (arith, in_rows)
pixel_at first columns start (suc rows) x zero d in_row in_rows =
    let row : List ℤ = row_pixels first columns start in
    let rest : List ℤ = flat_map (row_pixels first columns) (range_with_len (start + 1) rows) in
    let place : x + columns * 0 ≡ x = grind arith in
    let here : start ≡ start + 0 = omega arith in
    ap (λ k. slice_index_or (row ++ rest) k d) place
    ∙ (at_front row rest x d (omega (arith, row_count first columns start, in_row))
    ∙ (at_mapped (λ c. drill_pixel c start) first columns x d in_row ∙ ap (drill_pixel (first + x)) here))
pixel_at first columns start (suc rows) x (suc y) d in_row in_rows =
    let row : List ℤ = row_pixels first columns start in
    let rest : List ℤ = flat_map (row_pixels first columns) (range_with_len (start + 1) rows) in
    let more : x + columns * suc y ≡ columns + (x + columns * y) = grind arith in
    let place : x + columns * suc y ≡ length row + (x + columns * y) = more ∙ ap (λ n. n + (x + columns * y)) (sym (row_count first columns start)) in
    let there : start + 1 + y ≡ start + suc y = omega arith in
    ap (λ k. slice_index_or (row ++ rest) k d) place
    ∙ (at_back row rest (x + columns * y) d ∙ (pixel_at first columns (start + 1) rows x y d in_row (omega (arith, in_rows)) ∙ ap (drill_pixel (first + x)) there))

-- ---- arrays of the same bytes

same_bytes : SlicesBytes → (xs ys : List ℤ) (k : ℕ) (d : ℤ) → plain_bytes 16 xs ≡ plain_bytes 16 ys → k < length xs → k < length ys →
    pixel_bytes 16 (slice_index_or xs k d) ≡ pixel_bytes 16 (slice_index_or ys k d)
same_bytes slices xs ys k d same in_xs in_ys =
    one_by xs in_xs ∙ (ap (λ l. take 2 (drop (2 * k) l)) same ∙ sym (one_by ys in_ys))
  where
    one_by : (zs : List ℤ) → k < length zs → pixel_bytes 16 (slice_index_or zs k d) ≡ take 2 (drop (2 * k) (plain_bytes 16 zs))
    one_by zs within =
        sym (append-nil (pixel_bytes 16 (slice_index_or zs k d))) ∙ (ap (plain_bytes 16) (sym (one_of zs k d within)) ∙ slices 16 k 1 zs (search rules))

-- ---- the part

module _ (slices : SlicesBytes) (a : NumberArray) (n rows first columns : ℕ) (lengths : a.lengths ≡ n ∷ rows ∷ []) (whole : IsArray a) (inside : first + columns ≤ n) (same : plain_bytes 16 a.numbers ≡ plain_bytes 16 (image_pixels 0 n rows)) where
  abbrev picked : List ℕ → ℤ
  picked k = at a (stepped (first ∷ 0 ∷ []) (1 ∷ 1 ∷ []) k)

  count : length a.numbers ≡ n * (rows * 1)
  count = whole ∙ ap product lengths

  place_in : (x y : ℕ) → x < n → y < rows → x + n * y < n * rows
  place_in x y in_row in_rows =
      let up : n * suc y ≤ n * rows = mul-le-mul_left n in_rows in
      let more : n * suc y ≡ n + n * y = grind arith in
      omega (arith, up, more, in_row)

  from_zero : (k : ℕ) → 0 + k ≡ k
  from_zero k = omega arith

  one_pixel : (c y : ℕ) → c < columns → y < rows → pixel_bytes 16 (picked (c ∷ y ∷ [])) ≡ pixel_bytes 16 (drill_pixel (first + c) y)
  one_pixel c y in_row in_rows =
      let x : ℕ = first + c in
      let x_is : first + c * 1 ≡ x = omega arith in
      let y_is : 0 + y * 1 + rows * 0 ≡ y = grind arith in
      let place : place_of a.lengths ((first + c * 1) ∷ (0 + y * 1) ∷ []) ≡ x + n * y =
      ap (λ ls. place_of ls ((first + c * 1) ∷ (0 + y * 1) ∷ [])) lengths ∙ (λ i. x_is i + n * y_is i) in
      let low : x < n = omega (arith, inside, in_row) in
      let within : x + n * y < n * rows = place_in x y low in_rows in
      let one : rows * 1 ≡ rows = omega arith in
      let many : length a.numbers ≡ n * rows = count ∙ ap (λ m. n * m) one in
      ap (λ k. pixel_bytes 16 (slice_index_or a.numbers k (pos 0))) place
      ∙ (same_bytes slices a.numbers (image_pixels 0 n rows) (x + n * y) (pos 0) same (omega (arith, within, many)) (omega (arith, within, pixels_count 0 n rows))
      ∙ ap (pixel_bytes 16) (pixel_at 0 n 0 rows x y (pos 0) low in_rows ∙ (λ i. drill_pixel (from_zero x i) (from_zero y i))))

  row_same : (c w y : ℕ) → c + w ≤ columns → y < rows → plain_bytes 16 (map picked (map (λ x. x ∷ y ∷ []) (range_with_len c w))) ≡ plain_bytes 16 (map (λ x. drill_pixel x y) (range_with_len (first + c) w))
  row_same c zero y within in_rows = refl
  row_same c (suc w) y within in_rows =
      let next : first + (c + 1) ≡ first + c + 1 = omega arith in
      let rest = row_same (c + 1) w y (omega (arith, within)) in_rows ∙ ap (λ k. plain_bytes 16 (map (λ x. drill_pixel x y) (range_with_len k w))) next in
      λ i. one_pixel c y (omega (arith, within)) in_rows i ++ rest i

  rows_same : (start r : ℕ) → start + r ≤ rows →
      plain_bytes 16 (map picked (flat_map (λ rest. map (λ x. x ∷ rest) (range_with_len 0 columns)) (map (λ y. y ∷ []) (range_with_len start r))))
      ≡ plain_bytes 16 (flat_map (row_pixels first columns) (range_with_len start r))
  rows_same start zero within = refl
  rows_same start (suc r) within =
      let here : List (List ℕ) = map (λ x. x ∷ start ∷ []) (range_with_len 0 columns) in
      let behind : List (List ℕ) = flat_map (λ rest. map (λ x. x ∷ rest) (range_with_len 0 columns)) (map (λ y. y ∷ []) (range_with_len (start + 1) r)) in
      let zero_more : first + 0 ≡ first = omega arith in
      let row : plain_bytes 16 (map picked here) ≡ plain_bytes 16 (row_pixels first columns start) =
      row_same 0 columns start (omega arith) (omega (arith, within)) ∙ ap (λ k. plain_bytes 16 (map (λ x. drill_pixel x start) (range_with_len k columns))) zero_more in
      ap (plain_bytes 16) (map-append picked here behind)
      ∙ (flat_map-append (pixel_bytes 16) (map picked here) (map picked behind)
      ∙ ((λ i. row i ++ rows_same (start + 1) r (omega (arith, within)) i)
      ∙ sym (flat_map-append (pixel_bytes 16) (row_pixels first columns start) (flat_map (row_pixels first columns) (range_with_len (start + 1) r)))))

  pub part_same : plain_bytes 16 (map picked (box_coordinates (columns ∷ rows ∷ []))) ≡ plain_bytes 16 (image_pixels first columns rows)
  part_same =
      ap (λ ys. plain_bytes 16 (map picked (flat_map (λ rest. map (λ x. x ∷ rest) (range_with_len 0 columns)) ys))) (append-nil (map (λ y. y ∷ []) (range_with_len 0 rows)))
      ∙ rows_same 0 rows (omega arith)
