-- The places that hold pixels, and the bytes of some pixels put one after the other.
use Rattle.std.proofs.Common.{◌≡◌, ℕ, zero, suc, ◌+◌, ◌-◌, ◌*◌, ◌/◌, ◌^◌, ◌<◌, ◌≤◌, ◌==◌, min, Bool, true, false, if◌then◌else◌, ℤ, pos, List, [], ◌∷◌, ◌++◌, length, map, take, drop, get_or, refl, sym, ap, subst, ◌∙◌, arith}
use Rattle.std.specs.List.{AllByRecursion, flat_map, range_with_len}
use Rattle.std.proofs.lemmas.Grind.{flat_map-append}
use Rattle.std.proofs.lemmas.List.{append_assoc, drop-drop, get_or-drop, get_or-map, get_or-take, length-append, length-drop, length-take, length-take-le, map-append, same_lists, take-append-drop, take_all}
use Rattle.std.proofs.lemmas.List.FromFn.{get_or-map-range_with_len, length-map-range_with_len}
use Rattle.std.proofs.Math.Nat.{mul-add, mul-le-mul_right, mul-one}
use Rattle.std.proofs.Math.Seq.{drop-append-add, drop-append_seam, take-add, take-append_seam}
use Rattle.fz_tile.specs.Laws.{HasPlainLen, SlicesBytes, SlicesPlaces}
use Rattle.fz_tile.specs.Pixels.{HoldPixels, IsBitpix, halves, pixel_count, place_count}
use Rattle.fz_tile.specs.Plain.{pixel_bytes, plain_bytes}
use Rattle.fz_grid.specs.Cutout.{numbers_at}
use Rattle.fz_grid.specs.Line.{IsLineWithin, line_in_tile, lines_in_tile}
use Rattle.fz_grid.specs.declared.line.Line.{Line}

-- ---- how many places

between_by : (b : Bool) (m n : ℕ) → (if b then 2 * (m + n) else m + n) - (if b then 2 * m else m) ≡ (if b then 2 * n else n)
between_by true m n = omega arith
between_by false m n = omega arith

pub count_between : (bits m n : ℕ) → place_count bits (m + n) - place_count bits m ≡ place_count bits n
count_between bits m n = between_by (bits == 64) m n

most_by : (b : Bool) (m n : ℕ) → m ≤ n → (if b then 2 * m else m) ≤ (if b then 2 * n else n)
most_by true m n most = omega (arith, most)
most_by false m n most = omega (arith, most)

pub count_most : (bits m n : ℕ) → m ≤ n → place_count bits m ≤ place_count bits n
count_most bits m n most = most_by (bits == 64) m n most

pixels_by : (b : Bool) (n : ℕ) → (if b then (if b then 2 * n else n) / 2 else (if b then 2 * n else n)) ≡ n
pixels_by true n = omega arith
pixels_by false n = refl

pub count_pixels : (bits n : ℕ) → pixel_count bits (place_count bits n) ≡ n
count_pixels bits n = pixels_by (bits == 64) n

halves_len : (xs : List ℤ) → length (flat_map halves xs) ≡ 2 * length xs
halves_len [] = refl
halves_len (x ∷ xs) = omega (arith, halves_len xs)

places_by : (b : Bool) (xs : List ℤ) → length (if b then flat_map halves xs else xs) ≡ (if b then 2 * length xs else length xs)
places_by true xs = halves_len xs
places_by false xs = refl

pub held_len : (bits : ℕ) (numbers xs : List ℤ) → HoldPixels bits numbers xs → length numbers ≡ place_count bits (length xs)
held_len bits numbers xs held = ap length held.are ∙ places_by (bits == 64) xs

-- ---- a slice of the places

pub slice_held : SlicesPlaces → (bits i n first end : ℕ) (numbers xs : List ℤ) → HoldPixels bits numbers xs → first ≡ place_count bits i → end ≡ place_count bits (i + n)
    → HoldPixels bits (take (end - first) (drop first numbers)) (take n (drop i xs))
slice_held slices bits i n first end numbers xs held of_first of_end =
    let count : end - first ≡ place_count bits n = omega (arith, of_first, of_end, count_between bits i n) in
    let same : take (place_count bits n) (drop (place_count bits i) numbers) ≡ take (end - first) (drop first numbers) =
    sym (ap (λ k. take k (drop (place_count bits i) numbers)) count) ∙ sym (ap (λ k. take (end - first) (drop k numbers)) of_first) in
    subst (λ l. HoldPixels bits l (take n (drop i xs))) same (slices bits i n numbers xs held)

pub slice_end : (bits i n end : ℕ) (numbers xs : List ℤ) → HoldPixels bits numbers xs → i + n ≤ length xs → end ≡ place_count bits (i + n) → end ≤ length numbers
slice_end bits i n end numbers xs held within of_end = omega (arith, of_end, held_len bits numbers xs held, count_most bits (i + n) (length xs) within)

pub slice_len : (bits i n first end : ℕ) (numbers xs : List ℤ) → HoldPixels bits numbers xs → i + n ≤ length xs → first ≡ place_count bits i → end ≡ place_count bits (i + n)
    → length (take (end - first) (drop first numbers)) ≡ place_count bits n
slice_len bits i n first end numbers xs held within of_first of_end =
    let fits : end ≤ length numbers = slice_end bits i n end numbers xs held within of_end in
    let count : end - first ≡ place_count bits n = omega (arith, of_first, of_end, count_between bits i n) in
    let long : length (take (end - first) (drop first numbers)) ≡ min (end - first) (length (drop first numbers)) = length-take (end - first) (drop first numbers) in
    omega (arith, long, length-drop first numbers, fits, count)

-- a slice holds as many pixels
pub slice_pixels : (bits i n first end : ℕ) (numbers xs : List ℤ) → HoldPixels bits numbers xs → i + n ≤ length xs → first ≡ place_count bits i → end ≡ place_count bits (i + n)
    → pixel_count bits (length (take (end - first) (drop first numbers))) ≡ n
slice_pixels bits i n first end numbers xs held within of_first of_end = ap (pixel_count bits) (slice_len bits i n first end numbers xs held within of_first of_end) ∙ count_pixels bits n

-- ---- picks

numbers_len : (xs : List ℤ) (ps : List ℕ) → length (numbers_at xs ps) ≡ length ps
numbers_len xs [] = refl
numbers_len xs (p ∷ ps) = ap suc (numbers_len xs ps)

-- the k-th of the pixels so far apart
picked_at : (xs : List ℤ) (from step n k : ℕ) (d : ℤ) → k < n → get_or (numbers_at xs (map (λ j. from + j * step) (range_with_len 0 n))) k d ≡ get_or xs (from + k * step) (pos 0)
picked_at xs from step n k d low =
    let long : length (map (λ j. from + j * step) (range_with_len 0 n)) ≡ n = length-map-range_with_len (λ j. from + j * step) 0 n in
    get_or-map (λ p. get_or xs p (pos 0)) (map (λ j. from + j * step) (range_with_len 0 n)) k 0 d (omega (arith, low, long))
    ∙ ap (λ p. get_or xs p (pos 0)) (get_or-map-range_with_len (λ j. from + j * step) 0 n k k 0 low (omega arith))

picked_len : (xs : List ℤ) (from step n : ℕ) → length (numbers_at xs (map (λ j. from + j * step) (range_with_len 0 n))) ≡ n
picked_len xs from step n = numbers_len xs (map (λ j. from + j * step) (range_with_len 0 n)) ∙ length-map-range_with_len (λ j. from + j * step) 0 n

-- a part of the code that was written is put back
pub put_back_at : (at size : ℕ) (code part : List ℕ) → take at code ++ (part ++ drop (at + size - at) (drop at code)) ≡ take at code ++ (part ++ drop (at + size) code)
put_back_at at size code part =
    ap (λ l. take at code ++ (part ++ l)) (drop-drop (at + size - at) at code ∙ ap (λ n. drop n code) (omega arith))

-- ---- a whole of bytes, put to the front of the code piece by piece

-- one piece more
pub front_more : (done len : ℕ) (whole piece code code' code'' : List ℕ) → piece ≡ take len (drop done whole) → done ≤ length whole
    → code' ≡ take done whole ++ drop done code → code'' ≡ take done code' ++ (piece ++ drop (done + len) code')
    → code'' ≡ take (done + len) whole ++ drop (done + len) code
front_more done len whole piece code code' code'' is fits first second =
    second ∙ ap (λ l. l ++ (piece ++ drop (done + len) code')) front ∙ ap (λ l. take done whole ++ (piece ++ l)) back
    ∙ sym (append_assoc (take done whole) piece (drop (done + len) code))
    ∙ ap (λ l. (take done whole ++ l) ++ drop (done + len) code) is
    ∙ ap (λ l. l ++ drop (done + len) code) (sym (take-add done len whole))
  where
    start : length (take done whole) ≡ done
    start = length-take-le done whole fits

    front : take done code' ≡ take done whole
    front = ap (take done) first ∙ ap (λ n. take n (take done whole ++ drop done code)) (sym start) ∙ take-append_seam (take done whole) (drop done code)

    back : drop (done + len) code' ≡ drop (done + len) code
    back =
        ap (drop (done + len)) first ∙ ap (λ n. drop (n + len) (take done whole ++ drop done code)) (sym start) ∙ drop-append-add (take done whole) (drop done code) len
        ∙ drop-drop len done code ∙ ap (λ n. drop n code) (omega arith)

-- the front of what is left is a piece of the whole, and the rest is left after it
pub next_piece : (done : ℕ) (whole piece rest : List ℕ) → piece ++ rest ≡ drop done whole → (piece ≡ take (length piece) (drop done whole)) × (rest ≡ drop (done + length piece) whole)
next_piece done whole piece rest left = (
  sym (take-append_seam piece rest) ∙ ap (take (length piece)) left,
  sym (drop-append_seam piece rest) ∙ ap (drop (length piece)) left ∙ drop-drop (length piece) done whole ∙ ap (λ n. drop n whole) (omega arith),
)

-- ---- the picks of a line

-- two lists of pixels that hold the same places are as long
same_by : (b : Bool) (m n : ℕ) → (if b then 2 * m else m) ≡ (if b then 2 * n else n) → m ≡ n
same_by true m n same = omega (arith, same)
same_by false m n same = same

pub same_len : (bits : ℕ) (numbers xs ys : List ℤ) → HoldPixels bits numbers xs → HoldPixels bits numbers ys → length xs ≡ length ys
same_len bits numbers xs ys of_xs of_ys =
    let same : place_count bits (length xs) ≡ place_count bits (length ys) = sym (held_len bits numbers xs of_xs) ∙ held_len bits numbers ys of_ys in
    same_by (bits == 64) (length xs) (length ys) same

-- each pick of a line lies within the pixels
pub pick_near : (from count step n k : ℕ) → k < count → from + (count - 1) * step < n → from + k * step < n
pick_near from count step n k low near = let most : k * step ≤ (count - 1) * step = mul-le-mul_right step (omega (arith, low)) in omega (arith, most, near)

one_number : (p : ℕ) (numbers : List ℤ) → p < length numbers → take 1 (drop p numbers) ≡ get_or numbers p (pos 0) ∷ []
one_number p [] low = absurd (omega (arith, low))
one_number zero (x ∷ xs) low = refl
one_number (suc p) (x ∷ xs) low = one_number p xs (omega (arith, low))

-- the bytes of one pick are a piece of those of its line
pub one_pick : SlicesBytes → (bits from step count k : ℕ) (xs : List ℤ) → IsBitpix (pos bits) → k < count → from + k * step < length xs
    → plain_bytes bits (take 1 (drop (from + k * step) xs)) ≡ take (bits / 8 * 1) (drop (bits / 8 * k) (plain_bytes bits (numbers_at xs (map (λ j. from + j * step) (range_with_len 0 count)))))
one_pick slices bits from step count k xs size low near =
    let ys : List ℤ = numbers_at xs (map (λ j. from + j * step) (range_with_len 0 count)) in
    let here : k < length ys = omega (arith, low, picked_len xs from step count) in
    let same : take 1 (drop (from + k * step) xs) ≡ take 1 (drop k ys) =
    one_number (from + k * step) xs near ∙ ap (λ x. x ∷ []) (sym (picked_at xs from step count k (pos 0) low)) ∙ sym (one_number k ys here) in
    ap (plain_bytes bits) same ∙ slices bits k 1 ys size

known_default : (l : List ℤ) (k : ℕ) (d e : ℤ) → k < length l → get_or l k d ≡ get_or l k e
known_default [] k d e low = absurd (omega (arith, low))
known_default (x ∷ l) zero d e low = refl
known_default (x ∷ l) (suc k) d e low = known_default l k d e (omega (arith, low))

-- the picks of a line whose picks are neighbours
pub line_whole : (from step count : ℕ) (xs : List ℤ) → step ≡ 1 → from + count ≤ length xs → take count (drop from xs) ≡ numbers_at xs (map (λ j. from + j * step) (range_with_len 0 count))
line_whole from step count xs one within =
    same_lists (take count (drop from xs)) ys (omega (arith, long, picked_len xs from step count)) (λ k d low.
    let near : k < count = omega (arith, low, long) in
    get_or-take count (drop from xs) k d near ∙ get_or-drop from xs k d ∙ known_default xs (from + k) d (pos 0) (omega (arith, near, within))
    ∙ ap (λ n. get_or xs n (pos 0)) (place k) ∙ sym (picked_at xs from step count k d near))
  where
    ys : List ℤ
    ys = numbers_at xs (map (λ j. from + j * step) (range_with_len 0 count))

    long : length (take count (drop from xs)) ≡ count
    long = length-take-le count (drop from xs) (omega (arith, length-drop from xs, within))

    place : (k : ℕ) → from + k ≡ from + k * step
    place k = let unit : k * step ≡ k = ap (λ s. k * s) one ∙ mul-one k in omega (arith, unit)

-- ---- a line after what stands before it

-- what stands before a place, and then the bytes of a line
abbrev pub behind : ℕ → List ℕ → List ℕ → List ℕ
behind at code bytes = take at code ++ bytes

pub behind_none : (at : ℕ) (code bytes : List ℕ) → at ≤ length code → code ≡ take at (behind at code bytes) ++ drop at code
behind_none at code bytes room =
    let start : length (take at code) ≡ at = length-take-le at code room in
    let front : take at (behind at code bytes) ≡ take at code = ap (λ n. take n (behind at code bytes)) (sym start) ∙ take-append_seam (take at code) bytes in
    sym (take-append-drop at code) ∙ ap (λ l. l ++ drop at code) (sym front)

pub behind_piece : (at from len : ℕ) (code bytes : List ℕ) → at ≤ length code → take len (drop from bytes) ≡ take len (drop (at + from) (behind at code bytes))
behind_piece at from len code bytes room =
    let start : length (take at code) ≡ at = length-take-le at code room in
    sym (ap (take len) (ap (λ n. drop (n + from) (behind at code bytes)) (sym start) ∙ drop-append-add (take at code) bytes from))

pub behind_len : (at : ℕ) (code bytes : List ℕ) → at ≤ length code → length (behind at code bytes) ≡ at + length bytes
behind_len at code bytes room = length-append (take at code) bytes ∙ ap (λ n. n + length bytes) (length-take-le at code room)

pub behind_all : (at end : ℕ) (code bytes code' : List ℕ) → at ≤ length code → end ≡ at + length bytes → code' ≡ take end (behind at code bytes) ++ drop end code
    → code' ≡ take at code ++ (bytes ++ drop end code)
behind_all at end code bytes code' room is done =
    done ∙ ap (λ l. l ++ drop end code) (take_all end (behind at code bytes) (omega (arith, is, behind_len at code bytes room))) ∙ append_assoc (take at code) bytes (drop end code)

-- the bytes of numbers
pub bytes_len : HasPlainLen → (bits from step count : ℕ) (xs : List ℤ) → IsBitpix (pos bits) → length (plain_bytes bits (numbers_at xs (map (λ j. from + j * step) (range_with_len 0 count)))) ≡ bits / 8 * count
bytes_len len bits from step count xs size = len bits (numbers_at xs (map (λ j. from + j * step) (range_with_len 0 count))) size ∙ ap (λ n. bits / 8 * n) (picked_len xs from step count)

-- ---- what is known of lines

pub line_fits : (bits : ℕ) (numbers : List ℤ) (line : Line) → (xs : List ℤ) × HoldPixels bits numbers xs × (length xs ≤ 2 ^ 26) × ((cutout : ℕ) × IsLineWithin (length xs) cutout line)
    → (ys : List ℤ) → HoldPixels bits numbers ys → (1 ≤ line.count) × (line.in_tile + (line.count - 1) * line.step < length ys)
line_fits bits numbers line (xs, held, small, (cutout, within)) ys of_ys =
    let same : length xs ≡ length ys = same_len bits numbers xs ys held of_ys in
    let near : line.in_tile + (line.count - 1) * line.step < length xs = within.tile in
    (within.some, omega (arith, near, same))

-- the end of a line of neighbours
pub line_ends : (from count step n : ℕ) → step ≡ 1 → 1 ≤ count → from + (count - 1) * step < n → from + count ≤ n
line_ends from count step n one some near =
    let unit : (count - 1) * step ≡ count - 1 = ap (λ s. (count - 1) * s) one ∙ mul-one (count - 1) in
    omega (arith, near, unit, some)

pub line_first : (P : Line → Type 0) (line : Line) (left left' : List Line) → left ≡ line ∷ left' → AllByRecursion P left → P line × AllByRecursion P left'
line_first P line left left' next all = subst (AllByRecursion P) next all

pub lines_next : (bits bits' : ℕ) (numbers : List ℤ) (all left left' : List Line) (line : Line) → bits ≡ bits'
    → (xs : List ℤ) × HoldPixels bits numbers xs × (length xs ≤ 2 ^ 26) × ((cutout : ℕ) × AllByRecursion (IsLineWithin (length xs) cutout) all)
    → ((n cutout : ℕ) → AllByRecursion (IsLineWithin n cutout) all → AllByRecursion (IsLineWithin n cutout) left) → left ≡ line ∷ left'
    → (xs : List ℤ) × HoldPixels bits' numbers xs × (length xs ≤ 2 ^ 26) × ((cutout : ℕ) × IsLineWithin (length xs) cutout line)
lines_next bits bits' numbers all left left' line same (xs, held, small, (cutout, lines)) keep next =
    (xs, subst (λ n. HoldPixels n numbers xs) same held, small, (cutout, (line_first (IsLineWithin (length xs) cutout) line left left' next (keep (length xs) cutout lines)).0))

pub line_len : (line : Line) → length (line_in_tile line) ≡ line.count
line_len line = length-map-range_with_len (λ k. line.in_tile + k * line.step) 0 line.count

pub tile_count : (line : Line) (left left' : List Line) → left ≡ line ∷ left' → length (lines_in_tile left) ≡ line.count + length (lines_in_tile left')
tile_count line left left' next =
    ap (λ l. length (lines_in_tile l)) next ∙ length-append (line_in_tile line) (lines_in_tile left') ∙ ap (λ n. n + length (lines_in_tile left')) (line_len line)

pub lines_room : (w done left total one rest : ℕ) → done + w * left ≡ w * total → left ≡ one + rest → (done + w * one ≤ w * total) × (done + w * one + w * rest ≡ w * total)
lines_room w done left total one rest whole next =
    let parts : w * left ≡ w * one + w * rest = ap (λ n. w * n) next ∙ mul-add w one rest in
    (omega (arith, whole, parts), omega (arith, whole, parts))

pub numbers_split : (bits : ℕ) (xs : List ℤ) (line : Line) (left left' : List Line) → left ≡ line ∷ left'
    → plain_bytes bits (numbers_at xs (line_in_tile line)) ++ plain_bytes bits (numbers_at xs (lines_in_tile left')) ≡ plain_bytes bits (numbers_at xs (lines_in_tile left))
numbers_split bits xs line left left' next =
    sym (flat_map-append (pixel_bytes bits) (numbers_at xs (line_in_tile line)) (numbers_at xs (lines_in_tile left')))
    ∙ sym (ap (plain_bytes bits) (map-append (λ p. get_or xs p (pos 0)) (line_in_tile line) (lines_in_tile left')))
    ∙ sym (ap (λ l. plain_bytes bits (numbers_at xs (lines_in_tile l))) next)

pub all_len : HasPlainLen → (bits : ℕ) (xs : List ℤ) (ps : List ℕ) → IsBitpix (pos bits) → length (plain_bytes bits (numbers_at xs ps)) ≡ bits / 8 * length ps
all_len len bits xs ps size = len bits (numbers_at xs ps) size ∙ ap (λ n. bits / 8 * n) (numbers_len xs ps)
