-- Pixels that are put to their places, one run, line and tile after another.
use Rattle.std.proofs.Common.{◌≡◌, ◌⊎◌, ◌==◌, if◌then◌else◌, Bool, true, false, inl, inr, ℕ, zero, suc, ◌+◌, ◌-◌, ◌*◌, ◌<◌, ◌≤◌, ℤ, List, [], ◌∷◌, ◌++◌, length, take, drop, refl, sym, ap, ◌∙◌, subst, arith}
use Rattle.std.specs.List.{AllByRecursion}
use Rattle.std.specs.Prelude.{Contains, slice_index, slice_index_or}
use Rattle.std.proofs.lemmas.Bool.{cases_lt}
use Rattle.std.proofs.lemmas.List.{drop-append-le, drop-drop, drop-take, drop_at, get_or-append-add, get_or_append_left, length-append, length-drop, length-take-le, take-append-le, take-take}
use Rattle.std.proofs.lemmas.List.FromFn.{get_or-map-range_with_len, get_or-range_with_len, length-map-range_with_len, length-range_with_len}
use Rattle.std.proofs.lemmas.Slice.{drop-put_mid}
use borrow.Rule.Slice.PartMut.{post_of, put_mid}
use Rattle.std.proofs.Math.Nat.{mul-add, mul-le-mul_left, mul-le-mul_right}
use Rattle.fz_grid.specs.Line.{IsLineWithin, line_in_cutout, line_in_tile, lines_in_cutout, lines_in_tile}
use Rattle.fz_grid.specs.declared.line.Line.{Line}
use Rattle.fz_tile.specs.Pixels.{place_count}
use Rattle.fz_flat.specs.Placed.{HasPixelsOf, IsNearer, pixel_in}

-- ---- a run in a list

-- what is before the run stays
early : (w a i : ℕ) (old rest : List ℤ) → i + w ≤ a → a ≤ length old → take w (drop i (take a old ++ rest)) ≡ take w (drop i old)
early w a i old rest low fits =
    let many : length (take a old) ≡ a = length-take-le a old fits in
    let split : drop i (take a old ++ rest) ≡ drop i (take a old) ++ rest = drop-append-le i (take a old) rest (omega (arith, low, many)) in
    let left : length (drop i (take a old)) ≡ a - i = length-drop i (take a old) ∙ ap (λ n. n - i) many in
    let parts : a ≡ i + (a - i) = omega (arith, low) in
    let same : drop i (take a old) ≡ take (a - i) (drop i old) = ap (λ n. drop i (take n old)) parts ∙ drop-take i (a - i) old in
    ap (take w) split
    ∙ take-append-le w (drop i (take a old)) rest (omega (arith, low, left))
    ∙ ap (take w) same
    ∙ take-take w (a - i) (drop i old) (omega (arith, low))

-- the run is there
middle : (w a j n f : ℕ) (numbers old rest : List ℤ) → j + w ≤ n → f + n ≤ length numbers → a ≤ length old
    → take w (drop (a + j) (take a old ++ (take n (drop f numbers) ++ rest))) ≡ take w (drop (f + j) numbers)
middle w a j n f numbers old rest low room fits =
    let front : length (take a old) ≡ a = length-take-le a old fits in
    let run : List ℤ = take n (drop f numbers) in
    let back : drop (a + j) (take a old ++ (run ++ rest)) ≡ drop j (run ++ rest) =
    sym (drop-drop j a (take a old ++ (run ++ rest))) ∙ ap (drop j) (drop_at (take a old) (run ++ rest) a front) in
    let shorter : length (drop f numbers) ≡ length numbers - f = length-drop f numbers in
    let many : length run ≡ n = length-take-le n (drop f numbers) (omega (arith, shorter, room)) in
    let split : drop j (run ++ rest) ≡ drop j run ++ rest = drop-append-le j run rest (omega (arith, low, many)) in
    let left : length (drop j run) ≡ n - j = length-drop j run ∙ ap (λ m. m - j) many in
    let parts : n ≡ j + (n - j) = omega (arith, low) in
    let same : drop j run ≡ take (n - j) (drop j (drop f numbers)) = ap (λ m. drop j (take m (drop f numbers))) parts ∙ drop-take j (n - j) (drop f numbers) in
    ap (take w) (back ∙ split)
    ∙ take-append-le w (drop j run) rest (omega (arith, low, left))
    ∙ ap (take w) same
    ∙ take-take w (n - j) (drop j (drop f numbers)) (omega (arith, low))
    ∙ ap (take w) (drop-drop j f numbers)

-- ---- a run of pixels

module _ (w from to count k : ℕ) (numbers old run : List ℤ) (is : run ≡ take (w * (from + count) - w * from) (drop (w * from) numbers)) (room : w * (from + count) ≤ length numbers) (fits : w * (to + count) ≤ length old) where
  ends : w * (from + count) ≡ w * from + w * count
  ends = mul-add w from count

  ends_there : w * (to + count) ≡ w * to + w * count
  ends_there = mul-add w to count

  many : w * (from + count) - w * from ≡ w * count
  many = omega (arith, ends)

  run_is : run ≡ take (w * count) (drop (w * from) numbers)
  run_is = is ∙ ap (λ n. take n (drop (w * from) numbers)) many

  run_long : length run ≡ w * count
  run_long =
      let shorter : length (drop (w * from) numbers) ≡ length numbers - w * from = length-drop (w * from) numbers in
      ap length run_is ∙ length-take-le (w * count) (drop (w * from) numbers) (omega (arith, shorter, room, ends))

  -- the pixels of a run are put to their places
  pub run_inside : (m : ℕ) → k < count → pixel_in w (put_mid (w * to) m old run) (to + k) ≡ pixel_in w numbers (from + k)
  run_inside m low =
      let here : w * (to + k) ≡ w * to + w * k = mul-add w to k in
      let there : w * (from + k) ≡ w * from + w * k = mul-add w from k in
      let next : w * (k + 1) ≤ w * count = mul-le-mul_left w (omega (arith, low)) in
      let step : w * (k + 1) ≡ w * k + w * 1 = mul-add w k 1 in
      ap (λ n. take w (drop n (put_mid (w * to) m old run))) here
      ∙ ap (λ (l : List ℤ). take w (drop (w * to + w * k) (put_mid (w * to) m old l))) run_is
      ∙ middle w (w * to) (w * k) (w * count) (w * from) numbers old (post_of (w * to) m old) (omega (arith, next, step)) (omega (arith, room, ends)) (omega (arith, fits, ends_there))
      ∙ ap (λ n. take w (drop n numbers)) (sym there)

  -- and the others stay
  pub run_outside : (i : ℕ) → (i < to) ⊎ (to + count ≤ i) → pixel_in w (put_mid (w * to) (w * (to + count) - w * to) old run) i ≡ pixel_in w old i
  run_outside i (inl low) =
      let next : w * (i + 1) ≤ w * to = mul-le-mul_left w (omega (arith, low)) in
      let step : w * (i + 1) ≡ w * i + w * 1 = mul-add w i 1 in
      early w (w * to) (w * i) old (run ++ post_of (w * to) (w * (to + count) - w * to) old) (omega (arith, next, step)) (omega (arith, fits, ends_there))
  run_outside i (inr high) =
      let last : w * (to + count) ≤ w * i = mul-le-mul_left w high in
      ap (take w) (drop-put_mid (w * to) (w * (to + count) - w * to) old run (w * i) (omega (arith, last, ends_there)) (omega (arith, fits, ends_there)) (run_long ∙ omega (arith, ends_there)))

-- ---- elements of lists

pub split_first : (t : ℕ) (ts : List ℕ) (x : ℕ) → Contains (t ∷ ts) x → (t ≡ x) ⊎ Contains ts x
split_first t ts x (zero, low, is) = inl is
split_first t ts x (suc k, low, is) = inr (k, omega (arith, low), is)

pub is_first : (t : ℕ) (ts : List ℕ) → Contains (t ∷ ts) t
is_first t ts = (0, omega arith, refl)

pub is_later : (t : ℕ) (ts : List ℕ) (x : ℕ) → Contains ts x → Contains (t ∷ ts) x
is_later t ts x (k, low, is) = (suc k, omega (arith, low), is)

pub split_both : (xs ys : List ℕ) (x : ℕ) → Contains (xs ++ ys) x → Contains xs x ⊎ Contains ys x
split_both [] ys x has = inr has
split_both (t ∷ ts) ys x has = elim (split_first t (ts ++ ys) x has) as (λ _. Contains (t ∷ ts) x ⊎ Contains ys x) [
  | inl is ↦ inl (subst (λ (y : ℕ). Contains (t ∷ ts) y) is (is_first t ts))
  | inr more ↦ elim (split_both ts ys x more) as (λ _. Contains (t ∷ ts) x ⊎ Contains ys x) [
    | inl left ↦ inl (is_later t ts x left)
    | inr right ↦ inr right
  ]
]

pub none_in : (x : ℕ) → Contains [] x → ⊥
none_in x (k, low, is) = omega (arith, low)

-- ---- nearer to the whole

module _ (w : ℕ) (whole : List ℤ) where
  pub nearer_none : (now : List ℤ) → IsNearer w whole now now []
  nearer_none now = record { each = λ i. inl refl; there = λ i has. absurd (none_in i has) }

  pub kept_by : (before mid now : List ℤ) (i : ℕ) → (pixel_in w now i ≡ pixel_in w mid i) ⊎ (pixel_in w now i ≡ pixel_in w whole i)
      → (pixel_in w mid i ≡ pixel_in w before i) ⊎ (pixel_in w mid i ≡ pixel_in w whole i) → (pixel_in w now i ≡ pixel_in w before i) ⊎ (pixel_in w now i ≡ pixel_in w whole i)
  kept_by before mid now i (inr done) early = inr done
  kept_by before mid now i (inl same) (inl kept) = inl (same ∙ kept)
  kept_by before mid now i (inl same) (inr done) = inr (same ∙ done)

  pub done_by : (mid now : List ℤ) (i : ℕ) → (pixel_in w now i ≡ pixel_in w mid i) ⊎ (pixel_in w now i ≡ pixel_in w whole i) → pixel_in w mid i ≡ pixel_in w whole i → pixel_in w now i ≡ pixel_in w whole i
  done_by mid now i (inl same) done = same ∙ done
  done_by mid now i (inr late) done = late

  pub nearer_both : (before mid now : List ℤ) (ps qs : List ℕ) → IsNearer w whole before mid ps → IsNearer w whole mid now qs → IsNearer w whole before now (ps ++ qs)
  nearer_both before mid now ps qs one other = record {
    each = λ i. kept_by before mid now i (other.each i) (one.each i);
    there = λ i has. elim (split_both ps qs i has) as (λ _. pixel_in w now i ≡ pixel_in w whole i) [
      | inl left ↦ done_by mid now i (other.each i) (one.there i left)
      | inr right ↦ other.there i right
    ];
  }

  -- pixels of two parts, one after the other
  pub first_pixels : (numbers : List ℤ) (ps qs rs ss : List ℕ) → length rs ≡ length ps → HasPixelsOf w whole (ps ++ qs) numbers (rs ++ ss) → HasPixelsOf w whole ps numbers rs
  first_pixels numbers ps qs rs ss same has k low =
      let here : slice_index (ps ++ qs) k ≡ slice_index ps k = get_or_append_left ps qs 0 k low in
      let there : slice_index (rs ++ ss) k ≡ slice_index rs k = get_or_append_left rs ss 0 k (omega (arith, low, same)) in
      let both : length (ps ++ qs) ≡ length ps + length qs = length-append ps qs in
      ap (pixel_in w whole) (sym here) ∙ has k (omega (arith, low, both)) ∙ ap (pixel_in w numbers) there

  pub later_pixels : (numbers : List ℤ) (ps qs rs ss : List ℕ) → length rs ≡ length ps → HasPixelsOf w whole (ps ++ qs) numbers (rs ++ ss) → HasPixelsOf w whole qs numbers ss
  later_pixels numbers ps qs rs ss same has k low =
      let here : slice_index (ps ++ qs) (length ps + k) ≡ slice_index qs k = get_or-append-add ps qs k 0 in
      let there : slice_index (rs ++ ss) (length rs + k) ≡ slice_index ss k = get_or-append-add rs ss k 0 in
      let both : length (ps ++ qs) ≡ length ps + length qs = length-append ps qs in
      ap (pixel_in w whole) (sym here) ∙ has (length ps + k) (omega (arith, low, both)) ∙ ap (λ n. pixel_in w numbers (slice_index (rs ++ ss) (n + k))) (sym same) ∙ ap (pixel_in w numbers) there

  -- ---- a line

  lines_same : (line : Line) → length (line_in_tile line) ≡ length (line_in_cutout line)
  lines_same line = length-map-range_with_len (λ k. line.in_tile + k * line.step) 0 line.count ∙ sym (length-range_with_len line.in_cutout line.count)

  -- a line whose pixels are put to their places
  pub line_nearer : (line : Line) (numbers before now : List ℤ) → HasPixelsOf w whole (line_in_cutout line) numbers (line_in_tile line)
      → ((k : ℕ) → k < line.count → pixel_in w now (line.in_cutout + k) ≡ pixel_in w numbers (line.in_tile + k * line.step))
      → ((i : ℕ) → (i < line.in_cutout) ⊎ (line.in_cutout + line.count ≤ i) → pixel_in w now i ≡ pixel_in w before i) → IsNearer w whole before now (line_in_cutout line)
  line_nearer line numbers before now has inside outside = record {
    each = by;
    there = λ i (k, low, is).
        let near : k < line.count = omega (arith, low, length-range_with_len line.in_cutout line.count) in
        let here : slice_index_or (line_in_cutout line) k i ≡ line.in_cutout + k = get_or-range_with_len line.in_cutout line.count k i near in
        subst (λ (j : ℕ). pixel_in w now j ≡ pixel_in w whole j) (sym here ∙ is) (done k near);
  }
    where
      done : (k : ℕ) → k < line.count → pixel_in w now (line.in_cutout + k) ≡ pixel_in w whole (line.in_cutout + k)
      done k near =
          let low : k < length (line_in_cutout line) = omega (arith, near, length-range_with_len line.in_cutout line.count) in
          let here : slice_index (line_in_cutout line) k ≡ line.in_cutout + k = get_or-range_with_len line.in_cutout line.count k 0 near in
          let there : slice_index (line_in_tile line) k ≡ line.in_tile + k * line.step = get_or-map-range_with_len (λ j. line.in_tile + j * line.step) 0 line.count k k 0 near (omega arith) in
          inside k near ∙ ap (pixel_in w numbers) (sym there) ∙ sym (has k low) ∙ ap (pixel_in w whole) here

      within : (i : ℕ) → line.in_cutout ≤ i → (i < line.in_cutout + line.count) ⊎ (line.in_cutout + line.count ≤ i) → (pixel_in w now i ≡ pixel_in w before i) ⊎ (pixel_in w now i ≡ pixel_in w whole i)
      within i from (inl low) =
          let place : line.in_cutout + (i - line.in_cutout) ≡ i = omega (arith, from) in
          inr (subst (λ (j : ℕ). pixel_in w now j ≡ pixel_in w whole j) place (done (i - line.in_cutout) (omega (arith, from, low))))
      within i from (inr high) = inl (outside i (inr high))

      by : (i : ℕ) → (pixel_in w now i ≡ pixel_in w before i) ⊎ (pixel_in w now i ≡ pixel_in w whole i)
      by i = elim (cases_lt i line.in_cutout) as (λ _. (pixel_in w now i ≡ pixel_in w before i) ⊎ (pixel_in w now i ≡ pixel_in w whole i)) [
        | inl low ↦ inl (outside i (inl low))
        | inr from ↦ within i from (cases_lt i (line.in_cutout + line.count))
      ]

  -- one line more, and then those that are left
  pub line_more : (line : Line) (left left' : List Line) (numbers before mid : List ℤ) → left ≡ line ∷ left'
      → ((k : ℕ) → k < line.count → pixel_in w mid (line.in_cutout + k) ≡ pixel_in w numbers (line.in_tile + k * line.step))
      → ((i : ℕ) → (i < line.in_cutout) ⊎ (line.in_cutout + line.count ≤ i) → pixel_in w mid i ≡ pixel_in w before i)
      → HasPixelsOf w whole (lines_in_cutout left) numbers (lines_in_tile left)
      → HasPixelsOf w whole (lines_in_cutout left') numbers (lines_in_tile left') × ((now : List ℤ) → IsNearer w whole mid now (lines_in_cutout left') → IsNearer w whole before now (lines_in_cutout left))
  line_more line left left' numbers before mid next inside outside has =
      let both : HasPixelsOf w whole (line_in_cutout line ++ lines_in_cutout left') numbers (line_in_tile line ++ lines_in_tile left') =
      subst (λ (l : List Line). HasPixelsOf w whole (lines_in_cutout l) numbers (lines_in_tile l)) next has in (
        later_pixels numbers (line_in_cutout line) (lines_in_cutout left') (line_in_tile line) (lines_in_tile left') (lines_same line) both,
        λ now nearer.
            subst (λ (l : List Line). IsNearer w whole before now (lines_in_cutout l)) (sym next)
            (nearer_both before mid now (line_in_cutout line) (lines_in_cutout left')
            (line_nearer line numbers before mid (first_pixels numbers (line_in_cutout line) (lines_in_cutout left') (line_in_tile line) (lines_in_tile left') (lines_same line) both) inside outside) nearer),
      )

-- ---- the places of lines in a tile

-- the places of a line are before so many
line_inside : (line : Line) (pixels cutout k : ℕ) → IsLineWithin pixels cutout line → k < line.count → line.in_tile + k * line.step < pixels
line_inside line pixels cutout k within low =
    let more : k * line.step ≤ (line.count - 1) * line.step = mul-le-mul_right line.step (omega (arith, low)) in
    omega (arith, more, within.tile)

pub lines_inside : (lines : List Line) (pixels cutout k : ℕ) → AllByRecursion (IsLineWithin pixels cutout) lines → k < length (lines_in_tile lines) → slice_index (lines_in_tile lines) k < pixels
lines_inside [] pixels cutout k all low = absurd (omega (arith, low))
lines_inside (line ∷ lines) pixels cutout k all low = by (λ more. lines_inside lines pixels cutout (k - line.count) all.1 more) (cases_lt k line.count)
  where
    many : length (line_in_tile line) ≡ line.count
    many = length-map-range_with_len (λ j. line.in_tile + j * line.step) 0 line.count

    by : (k - line.count < length (lines_in_tile lines) → slice_index (lines_in_tile lines) (k - line.count) < pixels) → (k < line.count) ⊎ (line.count ≤ k) → slice_index (line_in_tile line ++ lines_in_tile lines) k < pixels
    by rest (inl here) =
        let place : slice_index (line_in_tile line ++ lines_in_tile lines) k ≡ slice_index (line_in_tile line) k = get_or_append_left (line_in_tile line) (lines_in_tile lines) 0 k (omega (arith, here, many)) in
        let is : slice_index (line_in_tile line) k ≡ line.in_tile + k * line.step = get_or-map-range_with_len (λ j. line.in_tile + j * line.step) 0 line.count k k 0 here (omega arith) in
        let near = line_inside line pixels cutout k all.0 here in
        omega (arith, place, is, near)
    by rest (inr later) =
        let both : length (line_in_tile line ++ lines_in_tile lines) ≡ length (line_in_tile line) + length (lines_in_tile lines) = length-append (line_in_tile line) (lines_in_tile lines) in
        let place : slice_index (line_in_tile line ++ lines_in_tile lines) (length (line_in_tile line) + (k - line.count)) ≡ slice_index (lines_in_tile lines) (k - line.count) = get_or-append-add (line_in_tile line) (lines_in_tile lines) (k - line.count) 0 in
        let index : length (line_in_tile line) + (k - line.count) ≡ k = omega (arith, many, later) in
        subst (λ n. n < pixels) (sym (ap (λ n. slice_index (line_in_tile line ++ lines_in_tile lines) n) (sym index) ∙ place)) (rest (omega (arith, later, low, both, many)))

-- ---- pixels that are apart, one at a time

module _ (w from step to k : ℕ) (numbers before mid now : List ℤ) where
  -- one pixel more is at its place
  pub apart_inside : ((j : ℕ) → j < k → pixel_in w mid (to + j) ≡ pixel_in w numbers (from + j * step))
      → ((j : ℕ) → j < 1 → pixel_in w now (to + k + j) ≡ pixel_in w numbers (from + k * step + j))
      → ((i : ℕ) → (i < to + k) ⊎ (to + k + 1 ≤ i) → pixel_in w now i ≡ pixel_in w mid i)
      → (j : ℕ) → j < k + 1 → pixel_in w now (to + j) ≡ pixel_in w numbers (from + j * step)
  apart_inside old new others j low = elim (cases_lt j k) as (λ _. pixel_in w now (to + j) ≡ pixel_in w numbers (from + j * step)) [
    | inl early ↦ others (to + j) (inl (omega (arith, early))) ∙ old j early
    | inr late ↦
        let same : j ≡ k = omega (arith, late, low) in
        let place : to + k ≡ to + k + 0 = omega arith in
        let there : from + k * step + 0 ≡ from + k * step = omega arith in
        ap (λ n. pixel_in w now (to + n)) same ∙ ap (pixel_in w now) place ∙ new 0 (omega arith) ∙ ap (pixel_in w numbers) there ∙ ap (λ n. pixel_in w numbers (from + n * step)) (sym same)
  ]

  pub apart_outside : ((i : ℕ) → (i < to) ⊎ (to + k ≤ i) → pixel_in w mid i ≡ pixel_in w before i)
      → ((i : ℕ) → (i < to + k) ⊎ (to + k + 1 ≤ i) → pixel_in w now i ≡ pixel_in w mid i)
      → (i : ℕ) → (i < to) ⊎ (to + (k + 1) ≤ i) → pixel_in w now i ≡ pixel_in w before i
  apart_outside old others i (inl low) = others i (inl (omega (arith, low))) ∙ old i (inl low)
  apart_outside old others i (inr high) = others i (inr (omega (arith, high))) ∙ old i (inr (omega (arith, high)))

-- ---- places of pixels

width_if : (b : Bool) (n : ℕ) → (if b then 2 * n else n) ≡ (if b then 2 * 1 else 1) * n
width_if true n = omega arith
width_if false n = omega arith

-- so many pixels have as many times the places of one
pub width_times : (bits n : ℕ) → place_count bits n ≡ place_count bits 1 * n
width_times bits n = width_if (bits == 64) n

-- no tile has more places than one with as many pixels or more
most_if : (b : Bool) (n m : ℕ) → n ≤ m → (if b then 2 * n else n) ≤ (if b then 2 * m else m)
most_if true n m below = omega (arith, below)
most_if false n m below = below

pub places_below : (bits n m : ℕ) → n ≤ m → place_count bits n ≤ place_count bits m
places_below bits n m below = most_if (bits == 64) n m below
