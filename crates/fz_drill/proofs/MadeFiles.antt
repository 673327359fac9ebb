-- How the files of `drill` are made.
use Rattle.std.specs.Prelude.{slice_index_or, slice_set}
use Rattle.std.specs.List.{flat_map, range_with_len}
use Rattle.std.proofs.Common.{◌≡◌, ℕ, zero, suc, ◌+◌, ◌-◌, ◌*◌, ◌/◌, ◌<◌, ℤ, List, [], ◌∷◌, ◌++◌, append_assoc, append-nil, codes, length, map, replicate, take, refl, sym, ap, ◌∙◌, arith}
use Rattle.std.proofs.lemmas.Grind.{flat_map-append}
use Rattle.std.proofs.lemmas.List.{length-append}
use Rattle.std.proofs.lemmas.List.FromFn.{map-range_with_len_more}
use Rattle.fz_card.specs.Layout.{filled}
use Rattle.fz_block.specs.Hdus.{header_bytes}
use Rattle.fz_head.specs.PackedHeader.{flag_card, number_card, numbered_number_card}
use Rattle.fz_tile.specs.Plain.{pixel_bytes, plain_bytes}
use Rattle.fz_files.specs.Drill.{drill_pixel}
use Rattle.fz_files.specs.Packed.{zero_filled}
use Rattle.fz_drill.specs.Files.{image_cards, image_file, image_pixels, row_pixels}

-- ---- the header

five_texts : (a b c d e : List ℕ) → ((((([] ++ a) ++ b) ++ c) ++ d) ++ e) ≡ a ++ (b ++ (c ++ (d ++ (e ++ []))))
five_texts a b c d e =
    append_assoc ((a ++ b) ++ c) d e ∙ (append_assoc (a ++ b) c (d ++ e) ∙ (append_assoc a b (c ++ (d ++ e)) ∙ ap (λ l. a ++ (b ++ (c ++ (d ++ l)))) (sym (append-nil e))))

pub made_header : (columns rows : ℕ) {r0 r1 r2 r3 r4 r5 r6 a b c d e : List ℕ} → r0 ≡ [] → r1 ≡ r0 ++ a → r2 ≡ r1 ++ b → r3 ≡ r2 ++ c → r4 ≡ r3 ++ d → r5 ≡ r4 ++ e → r6 ≡ r5 ++ codes "END" →
    a ≡ flag_card (codes "SIMPLE") → b ≡ number_card (codes "BITPIX") 16 → c ≡ number_card (codes "NAXIS") 2 → d ≡ numbered_number_card (codes "NAXIS") 1 columns → e ≡ numbered_number_card (codes "NAXIS") 2 rows →
    filled 2880 r6 ≡ header_bytes (image_cards columns rows)
made_header columns rows e0 e1 e2 e3 e4 e5 e6 sa sb sc sd se =
    let first = e1 ∙ (λ i. e0 i ++ sa i) in
    let second = e2 ∙ (λ i. first i ++ sb i) in
    let third = e3 ∙ (λ i. second i ++ sc i) in
    let fourth = e4 ∙ (λ i. third i ++ sd i) in
    let fifth = e5 ∙ ((λ i. fourth i ++ se i) ∙ five_texts (flag_card (codes "SIMPLE")) (number_card (codes "BITPIX") 16) (number_card (codes "NAXIS") 2) (numbered_number_card (codes "NAXIS") 1 columns) (numbered_number_card (codes "NAXIS") 2 rows)) in
    ap (filled 2880) (e6 ∙ ap (λ l. l ++ codes "END") fifth)

-- ---- a row

two_set : (row : List ℕ) (k a b : ℕ) → suc k < length row → take (suc (suc k)) (slice_set (slice_set row k a) (suc k) b) ≡ take k row ++ (a ∷ b ∷ [])
two_set [] k a b within = absurd omega (arith, within)
two_set (x ∷ []) zero a b within = absurd omega (arith, within)
two_set (x ∷ y ∷ row) zero a b within = refl
two_set (x ∷ row) (suc k) a b within = ap (λ l. x ∷ l) (two_set row k a b (omega (arith, within)))

more_pixels : (first i y : ℕ) → plain_bytes 16 (row_pixels first (i + 1) y) ≡ plain_bytes 16 (row_pixels first i y) ++ pixel_bytes 16 (drill_pixel (first + i) y)
more_pixels first i y =
    let f : ℕ → ℤ = λ x. drill_pixel x y in
    ap (plain_bytes 16) (map-range_with_len_more f first i (first + i) refl)
    ∙ (flat_map-append (pixel_bytes 16) (map f (range_with_len first i)) (f (first + i) ∷ [])
    ∙ ap (λ l. plain_bytes 16 (row_pixels first i y) ++ l) (append-nil (pixel_bytes 16 (f (first + i)))))

pub next_pixel : (row : List ℕ) (first i y a b : ℕ) → take (2 * i) row ≡ plain_bytes 16 (row_pixels first i y) → 2 * i + 1 < length row → a ∷ b ∷ [] ≡ pixel_bytes 16 (drill_pixel (first + i) y) →
    take (2 * (i + 1)) (slice_set (slice_set row (2 * i) a) (2 * i + 1) b) ≡ plain_bytes 16 (row_pixels first (i + 1) y)
next_pixel row first i y a b so_far within these =
    let two_more : 2 * (i + 1) ≡ suc (suc (2 * i)) = omega arith in
    let one_more : 2 * i + 1 ≡ suc (2 * i) = omega arith in
    (λ j. take (two_more j) (slice_set (slice_set row (2 * i) a) (one_more j) b))
    ∙ (two_set row (2 * i) a b (omega (arith, within)) ∙ ((λ j. so_far j ++ these j) ∙ sym (more_pixels first i y)))

-- ---- the rows

more_range : (a n : ℕ) → range_with_len a (suc n) ≡ range_with_len a n ++ (a + n) ∷ []
more_range a zero = let same : a ≡ a + 0 = omega arith in ap (λ k. k ∷ []) same
more_range a (suc n) = let same : a + 1 + n ≡ a + suc n = omega arith in ap (λ l. a ∷ l) (more_range (a + 1) n ∙ ap (λ k. range_with_len (a + 1) n ++ k ∷ []) same)

pub next_row : (first columns y : ℕ) (old now row new : List ℕ) → now ≡ old ++ plain_bytes 16 (flat_map (row_pixels first columns) (range_with_len 0 y)) → row ≡ plain_bytes 16 (row_pixels first columns y) → new ≡ now ++ row →
    new ≡ old ++ plain_bytes 16 (flat_map (row_pixels first columns) (range_with_len 0 (y + 1)))
next_row first columns y old now row new so_far these is =
    let next : y + 1 ≡ suc y = omega arith in
    let same : 0 + y ≡ y = omega arith in
    let before : List ℤ = flat_map (row_pixels first columns) (range_with_len 0 y) in
    let all : flat_map (row_pixels first columns) (range_with_len 0 (y + 1)) ≡ before ++ row_pixels first columns y =
    ap (λ n. flat_map (row_pixels first columns) (range_with_len 0 n)) next ∙ (ap (flat_map (row_pixels first columns)) (more_range 0 y ∙ ap (λ k. range_with_len 0 y ++ k ∷ []) same) ∙ (flat_map-append (row_pixels first columns) (range_with_len 0 y) (y ∷ []) ∙ ap (λ l. before ++ l) (append-nil (row_pixels first columns y)))) in
    is
    ∙ ((λ j. so_far j ++ these j)
    ∙ (append_assoc old (plain_bytes 16 before) (plain_bytes 16 (row_pixels first columns y))
    ∙ ap (λ l. old ++ l) (sym (ap (plain_bytes 16) all ∙ flat_map-append (pixel_bytes 16) before (row_pixels first columns y)))))

-- ---- the file

pub whole_file : (first columns rows : ℕ) (header made filled_is : List ℕ) → header ≡ header_bytes (image_cards columns rows) → length header ≡ 2880 → made ≡ header ++ plain_bytes 16 (image_pixels first columns rows) →
    filled_is ≡ made ++ replicate ((length made + 2879) / 2880 * 2880 - length made) 0 → filled_is ≡ image_file first columns rows
unfolding image_file
whole_file first columns rows header made filled_is head long is fill =
    let pixels : List ℕ = plain_bytes 16 (image_pixels first columns rows) in
    let n : ℕ = length pixels in
    let count : length made ≡ 2880 + n = ap length is ∙ (length-append header pixels ∙ ap (λ k. k + n) long) in
    let more : (length made + 2879) / 2880 * 2880 - length made ≡ (n + 2879) / 2880 * 2880 - n = omega (arith, count) in
    fill
    ∙ ((λ i. is i ++ replicate (more i) 0)
    ∙ (append_assoc header pixels (replicate ((n + 2879) / 2880 * 2880 - n) 0) ∙ ap (λ l. l ++ zero_filled pixels) head))

-- each is a byte, whatever is after the end
pub same_at : (xs : List ℕ) (k d e : ℕ) → k < length xs → slice_index_or xs k d ≡ slice_index_or xs k e
same_at [] k d e within = absurd omega (arith, within)
same_at (x ∷ xs) zero d e within = refl
same_at (x ∷ xs) (suc k) d e within = same_at xs k d e (omega (arith, within))
