-- Pixels of PATCH that are put over some of a tile, piece by piece (FITS 4.0, sections 3.3.2 and 5.2).
use Rattle.std.proofs.Common.{◌≡◌, ℕ, zero, suc, ◌+◌, ◌-◌, ◌*◌, ◌/◌, ◌≤◌, ◌==◌, Bool, true, false, if◌then◌else◌, ℤ, List, [], ◌∷◌, ◌++◌, length, map, take, drop, refl, sym, ap, ◌∙◌, arith}
use Rattle.std.specs.List.{flat_map, range_with_len}
use Rattle.std.proofs.lemmas.Grind.{flat_map-append}
use Rattle.std.proofs.lemmas.List.{append_assoc, drop-drop, drop-take, length-append, length-drop, length-take-le, map-append, take-append-drop, take-take, take_all}
use Rattle.std.proofs.lemmas.List.Elements.{All-append, All-drop, All-take}
use Rattle.std.proofs.lemmas.List.FromFn.{length-map-range_with_len}
use Rattle.std.proofs.Math.Seq.{drop-append-add, drop-append_seam, take-append-add, take-append_seam}
use Rattle.fz_bits.specs.Numbers.{IsNumber}
use Rattle.fz_tile.specs.Laws.{SlicesPixels}
use Rattle.fz_tile.specs.Pixels.{HoldPixels, halves, pixel_count, place_count, places}
use Rattle.fz_tile.specs.Plain.{pixel_of, stored_pixels}
use Rattle.fz_target.specs.Tiles.{with_piece}

-- ---- places

between_by : (b : Bool) (m n : ℕ) → (if b then 2 * (m + n) else m + n) ≡ (if b then 2 * m else m) + (if b then 2 * n else n)
between_by true m n = omega arith
between_by false m n = refl

pub count_both : (bits m n : ℕ) → place_count bits (m + n) ≡ place_count bits m + place_count bits n
count_both bits m n = between_by (bits == 64) m n

most_by : (b : Bool) (m n : ℕ) → m ≤ n → (if b then 2 * m else m) ≤ (if b then 2 * n else n)
most_by true m n most = omega (arith, most)
most_by false m n most = omega (arith, most)

pub count_most : (bits m n : ℕ) → m ≤ n → place_count bits m ≤ place_count bits n
count_most bits m n most = most_by (bits == 64) m n most

twice_by : (b : Bool) (n : ℕ) → (if b then 2 * n else n) ≤ 2 * n
twice_by true n = omega arith
twice_by false n = omega arith

pub count_twice : (bits n : ℕ) → place_count bits n ≤ 2 * n
count_twice bits n = twice_by (bits == 64) n

pixels_by : (b : Bool) (n : ℕ) → (if b then (if b then 2 * n else n) / 2 else (if b then 2 * n else n)) ≡ n
pixels_by true n = omega arith
pixels_by false n = refl

pub count_pixels : (bits n : ℕ) → pixel_count bits (place_count bits n) ≡ n
count_pixels bits n = pixels_by (bits == 64) n

halves_len : (xs : List ℤ) → length (flat_map halves xs) ≡ 2 * length xs
halves_len [] = refl
halves_len (x ∷ xs) = omega (arith, halves_len xs)

places_by : (b : Bool) (xs : List ℤ) → length (if b then flat_map halves xs else xs) ≡ (if b then 2 * length xs else length xs)
places_by true xs = halves_len xs
places_by false xs = refl

place_len : (bits : ℕ) (xs : List ℤ) → length (places bits xs) ≡ place_count bits (length xs)
place_len bits xs = places_by (bits == 64) xs

join_by : (b : Bool) (xs ys : List ℤ) → (if b then flat_map halves (xs ++ ys) else xs ++ ys) ≡ (if b then flat_map halves xs else xs) ++ (if b then flat_map halves ys else ys)
join_by true xs ys = flat_map-append halves xs ys
join_by false xs ys = refl

places_join : (bits : ℕ) (xs ys : List ℤ) → places bits (xs ++ ys) ≡ places bits xs ++ places bits ys
places_join bits xs ys = join_by (bits == 64) xs ys

-- ---- a list with a piece in the place of its own

pub with_len : {A : Type 0} (at : ℕ) (piece xs : List A) → at + length piece ≤ length xs → length (with_piece at piece xs) ≡ length xs
with_len at piece xs within =
    let first : length (take at xs) ≡ at = length-take-le at xs (omega (arith, within)) in
    let all = length-append (take at xs) (piece ++ drop (at + length piece) xs) in
    let two = length-append piece (drop (at + length piece) xs) in
    let last = length-drop (at + length piece) xs in
    omega (arith, first, all, two, last, within)

-- two pieces, one directly after the other
pub with_both : {A : Type 0} (at : ℕ) (zs ys xs : List A) → at + length zs ≤ length xs →
    with_piece (at + length zs) ys (with_piece at zs xs) ≡ with_piece at (zs ++ ys) xs
with_both at zs ys xs within =
    let front : List _ = take at xs ++ zs in
    let rest : List _ = drop (at + length zs) xs in
    let first : length (take at xs) ≡ at = length-take-le at xs (omega (arith, within)) in
    let long : length front ≡ at + length zs = omega (arith, first, length-append (take at xs) zs) in
    let joined : with_piece at zs xs ≡ front ++ rest = sym (append_assoc (take at xs) zs rest) in
    let taken : take (at + length zs) (with_piece at zs xs) ≡ front = ap (take (at + length zs)) joined ∙ (ap (λ n. take n (front ++ rest)) (sym long) ∙ take-append_seam front rest) in
    let left : drop (at + length zs + length ys) (with_piece at zs xs) ≡ drop (at + length (zs ++ ys)) xs =
    ap (drop (at + length zs + length ys)) joined
    ∙ (ap (λ n. drop (n + length ys) (front ++ rest)) (sym long)
    ∙ (drop-append-add front rest (length ys)
    ∙ (drop-drop (length ys) (at + length zs) xs
    ∙ ap (λ n. drop n xs) (omega (arith, length-append zs ys)))))
    in
    (λ j. taken j ++ (ys ++ left j))
    ∙ (append_assoc (take at xs) zs (ys ++ drop (at + length (zs ++ ys)) xs)
    ∙ ap (λ l. take at xs ++ l) (sym (append_assoc zs ys (drop (at + length (zs ++ ys)) xs))))

-- ---- the numbers that hold it

-- the places of a list before a place of it, and from one on
held_front : (bits n i : ℕ) (ns xs : List ℤ) → length xs ≡ n → i ≤ n → take (place_count bits n) ns ≡ places bits xs → take (place_count bits i) ns ≡ places bits (take i xs)
held_front bits n i ns xs count within held =
    let low : place_count bits i ≤ place_count bits n = count_most bits i n within in
    let parts : places bits xs ≡ places bits (take i xs) ++ places bits (drop i xs) = ap (places bits) (sym (take-append-drop i xs)) ∙ places_join bits (take i xs) (drop i xs) in
    let first : length (take i xs) ≡ i = length-take-le i xs (omega (arith, count, within)) in
    let long : length (places bits (take i xs)) ≡ place_count bits i = place_len bits (take i xs) ∙ ap (place_count bits) first in
    sym (take-take (place_count bits i) (place_count bits n) ns low)
    ∙ (ap (take (place_count bits i)) (held ∙ parts)
    ∙ (ap (λ k. take k (places bits (take i xs) ++ places bits (drop i xs))) (sym long)
    ∙ take-append_seam (places bits (take i xs)) (places bits (drop i xs))))

held_back : (bits n i rest : ℕ) (ns xs : List ℤ) → length xs ≡ n → i ≤ n → place_count bits n ≡ place_count bits i + rest → take (place_count bits n) ns ≡ places bits xs →
    take rest (drop (place_count bits i) ns) ≡ places bits (drop i xs)
held_back bits n i rest ns xs count within last held =
    let parts : places bits xs ≡ places bits (take i xs) ++ places bits (drop i xs) = ap (places bits) (sym (take-append-drop i xs)) ∙ places_join bits (take i xs) (drop i xs) in
    let first : length (take i xs) ≡ i = length-take-le i xs (omega (arith, count, within)) in
    let long : length (places bits (take i xs)) ≡ place_count bits i = place_len bits (take i xs) ∙ ap (place_count bits) first in
    sym (drop-take (place_count bits i) rest ns)
    ∙ (ap (λ k. drop (place_count bits i) (take k ns)) (sym last)
    ∙ (ap (drop (place_count bits i)) (held ∙ parts)
    ∙ (ap (λ k. drop k (places bits (take i xs) ++ places bits (drop i xs))) (sym long)
    ∙ drop-append_seam (places bits (take i xs)) (places bits (drop i xs)))))

-- these numbers after the pixels of a piece were written over some of them
pub held_piece : (bits i : ℕ) (ns ms now xs zs : List ℤ) → i + length zs ≤ length xs → HoldPixels bits (take (place_count bits (length xs)) ns) xs → HoldPixels bits ms zs →
    place_count bits (length xs) ≤ length ns →
    now ≡ take (place_count bits i) ns ++ (ms ++ drop (place_count bits (i + length zs)) ns) →
    HoldPixels bits (take (place_count bits (length xs)) now) (with_piece i zs xs)
held_piece bits i ns ms now xs zs within held piece room is =
    let n : ℕ = length xs in
    let m : ℕ = length zs in
    let all : ℕ = place_count bits n in
    let low : ℕ = place_count bits i in
    let high : ℕ = place_count bits (i + m) in
    let rest : ℕ = all - high in
    let tail : List ℤ = drop high ns in
    let most : high ≤ all = count_most bits (i + m) n within in
    let last : all ≡ high + rest = omega (arith, most) in
    let both : high ≡ low + place_count bits m = count_both bits i m in
    let front : take low ns ≡ places bits (take i xs) = held_front bits n i ns xs refl (omega (arith, within)) held.are in
    let back : take rest tail ≡ places bits (drop (i + m) xs) = held_back bits n (i + m) rest ns xs refl within last held.are in
    let front_len : length (take low ns) ≡ low = length-take-le low ns (omega (arith, room, most, both)) in
    let piece_len : length ms ≡ place_count bits m = ap length piece.are ∙ place_len bits zs in
    let head : List ℤ = take low ns ++ ms in
    let head_len : length head ≡ high = omega (arith, length-append (take low ns) ms, front_len, piece_len, both) in
    let joined : now ≡ head ++ tail = is ∙ sym (append_assoc (take low ns) ms tail) in
    let count : all ≡ length head + rest = omega (arith, head_len, last) in
    let taken : take all now ≡ head ++ take rest tail =
    (λ j. take (count j) (joined j)) ∙ take-append-add head tail rest
    in
    record {
      pixels = All-append (IsNumber bits) (take i xs) (zs ++ drop (i + m) xs) (All-take (IsNumber bits) i xs held.pixels)
          (All-append (IsNumber bits) zs (drop (i + m) xs) piece.pixels (All-drop (IsNumber bits) (i + m) xs held.pixels));
      are =
          taken
          ∙ ((λ j. (front j ++ piece.are j) ++ back j)
          ∙ (append_assoc (places bits (take i xs)) (places bits zs) (places bits (drop (i + m) xs))
          ∙ (ap (λ l. places bits (take i xs) ++ l) (sym (places_join bits zs (drop (i + m) xs)))
          ∙ sym (places_join bits (take i xs) (zs ++ drop (i + m) xs)))));
    }

-- ---- the pixels that bytes store

shifted : {Y : Type 0} (f g : ℕ → Y) (m a n : ℕ) → ((i : ℕ) → f (m + i) ≡ g i) → map f (range_with_len (m + a) n) ≡ map g (range_with_len a n)
shifted f g m a zero each = refl
shifted f g m a (suc n) each =
    let next : m + a + 1 ≡ m + (a + 1) = omega arith in
    let rest = ap (λ k. map f (range_with_len k n)) next ∙ shifted f g m (a + 1) n each in
    λ j. each a j ∷ rest j

split_range : (a m n : ℕ) → range_with_len a (m + n) ≡ range_with_len a m ++ range_with_len (a + m) n
split_range a zero n =
    let none : 0 + n ≡ n = omega arith in
    let same : a ≡ a + 0 = omega arith in
    ap (range_with_len a) none ∙ ap (λ k. range_with_len k n) same
split_range a (suc m) n =
    let same : suc m + n ≡ suc (m + n) = omega arith in
    let start : a + 1 + m ≡ a + suc m = omega arith in
    ap (range_with_len a) same
    ∙ ap (λ l. a ∷ l) (split_range (a + 1) m n ∙ ap (λ k. range_with_len (a + 1) m ++ range_with_len k n) start)

pub stored_len : (bits n : ℕ) (bytes : List ℕ) → length (stored_pixels bits n bytes) ≡ n
stored_len bits n bytes = length-map-range_with_len (λ i. pixel_of bits (take (bits / 8) (drop (bits / 8 * i) bytes))) 0 n

-- those after the first m
pub stored_more : (bits m n at : ℕ) (file : List ℕ) →
    stored_pixels bits (m + n) (drop at file) ≡ stored_pixels bits m (drop at file) ++ stored_pixels bits n (drop (at + bits / 8 * m) file)
stored_more bits m n at file =
    let w : ℕ = bits / 8 in
    let f : ℕ → ℤ = λ i. pixel_of bits (take w (drop (w * i) (drop at file))) in
    let g : ℕ → ℤ = λ i. pixel_of bits (take w (drop (w * i) (drop (at + w * m) file))) in
    let each : (i : ℕ) → f (m + i) ≡ g i = λ i.
    ap (λ l. pixel_of bits (take w l)) (drop-drop (w * (m + i)) at file ∙ (ap (λ k. drop k file) (further w m i at) ∙ sym (drop-drop (w * i) (at + w * m) file)))
    in
    let last : map f (range_with_len (0 + m) n) ≡ map g (range_with_len 0 n) = ap (λ k. map f (range_with_len k n)) (omega arith) ∙ shifted f g m 0 n each in
    ap (map f) (split_range 0 m n)
    ∙ (map-append f (range_with_len 0 m) (range_with_len (0 + m) n)
    ∙ ap (λ l. map f (range_with_len 0 m) ++ l) last)
  where
    further : (w m i at : ℕ) → at + w * (m + i) ≡ at + w * m + w * i
    further w m i at = grind arith

-- so many bytes store them all
pub stored_front : SlicesPixels → (bits n : ℕ) (bytes : List ℕ) → stored_pixels bits n (take (bits / 8 * n) bytes) ≡ stored_pixels bits n bytes
stored_front slices bits n bytes =
    let w : ℕ = bits / 8 in
    let none : w * 0 ≡ 0 = grind arith in
    let all : take n (stored_pixels bits n bytes) ≡ stored_pixels bits n bytes = take_all n (stored_pixels bits n bytes) (omega (arith, stored_len bits n bytes)) in
    sym (ap (λ k. stored_pixels bits n (take (w * n) (drop k bytes))) none)
    ∙ (sym (slices bits 0 n n bytes (omega arith)) ∙ all)
