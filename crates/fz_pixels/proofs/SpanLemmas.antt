-- The picks of lines between two pixels of a tile, and what is held of the tile between them.
use Rattle.std.proofs.Common.{◌≡◌, ℕ, ◌+◌, ◌-◌, ◌*◌, ◌/◌, ◌^◌, ◌<◌, ◌≤◌, ◌⊎◌, ◌&&◌, min, max, nat_lt, Bool, true, false, ℤ, pos, List, [], ◌∷◌, ◌++◌, length, map, take, drop, get_or, All, Contains, Some, unsigned_abs, inl, inr, refl, sym, ap, subst, ◌∙◌, arith}
use Rattle.std.specs.List.{AllByRecursion, range_with_len}
use Rattle.std.proofs.lemmas.Bool.{cases_lt}
use Rattle.std.proofs.lemmas.Bool.Decides.{nat_tests}
use Rattle.std.proofs.lemmas.Grind.{flat_map-append}
use Rattle.std.proofs.lemmas.List.{get_or-drop, get_or-take, length-map, map-append}
use Rattle.std.proofs.lemmas.List.Elements.{All-contains, All-head, All-tail, Contains-append_left, Contains-get_or}
use Rattle.std.proofs.lemmas.List.FromFn.{get_or-map-range_with_len}
use Rattle.std.proofs.lemmas.Nat.{mul-le}
use Rattle.std.proofs.Math.Nat.{mul-add, mul-le-mul_left, mul-le-mul_right}
use Rattle.fz_grid.specs.Arrays.{product}
use Rattle.fz_grid.specs.Laws.{BoxesHaveTheirPixels}
use Rattle.fz_grid.specs.Overlap.{has_pixel}
use Rattle.fz_grid.specs.Region.{lengths_of}
use Rattle.fz_grid.specs.Sieve.{all_before, sieve_hi, sieve_lengths, sieve_lo, sieve_step}
use Rattle.fz_grid.specs.Grid.{tile_corner}
use Rattle.fz_grid.specs.declared.sieve.Sieve.{Sieve}
use Rattle.fz_grid.specs.Cutout.{numbers_at, part_lengths, picks_in_cutout, picks_in_tile}
use Rattle.fz_grid.specs.Line.{IsLineWithin, line_in_tile, lines_in_tile}
use Rattle.fz_grid.specs.declared.line.Line.{Line}
use Rattle.fz_tile.specs.Laws.{HasPlainLen}
use Rattle.fz_tile.specs.Pixels.{HoldPixels, IsBitpix, place_count}
use Rattle.fz_tile.specs.Plain.{pixel_bytes, plain_bytes}
use Rattle.fz_head.specs.declared.plan.Plan.{Plan}
use Rattle.fz_files.specs.Packed.{pixel_bits}
use Rattle.fz_pixels.specs.Marks.{HoldsBetween, PicksLieBetween}
use Rattle.fz_pixels.specs.Parts.{IsLineBetween, IsPlaceBetween, pixels_from}
use Rattle.fz_pixels.specs.Pieces.{pieces_written}
use Rattle.fz_pixels.specs.Scattered.{part_written}
use Rattle.fz_pixels.proofs.PartWrites.{picks_same}
use Rattle.fz_pixels.proofs.PixelBytes.{all_len, count_between, line_first, line_len}

-- ---- the picks of a line

line_pick : (line : Line) (k : ℕ) → k < line.count → Contains (line_in_tile line) (line.in_tile + k * line.step)
line_pick line k low =
    let is : get_or (line_in_tile line) k 0 ≡ line.in_tile + k * line.step = get_or-map-range_with_len (λ j. line.in_tile + j * line.step) 0 line.count k k 0 low (omega arith) in
    subst (Contains (line_in_tile line)) is (Contains-get_or (line_in_tile line) k 0 (omega (arith, low, line_len line)))

pub first_pick : (line : Line) → 1 ≤ line.count → Contains (line_in_tile line) line.in_tile
first_pick line some =
    let at : line.in_tile + 0 * line.step ≡ line.in_tile = omega arith in
    subst (Contains (line_in_tile line)) at (line_pick line 0 (omega (arith, some)))

pub last_pick : (line : Line) → 1 ≤ line.count → Contains (line_in_tile line) (line.in_tile + (line.count - 1) * line.step)
last_pick line some = line_pick line (line.count - 1) (omega (arith, some))

-- they are between its ends
pub line_within : (line : Line) (i j : ℕ) → i ≤ line.in_tile → line.in_tile + (line.count - 1) * line.step < j → All (IsPlaceBetween i j) (line_in_tile line)
line_within line i j from to k d low =
    let near : k < line.count = omega (arith, low, line_len line) in
    let is : get_or (line_in_tile line) k d ≡ line.in_tile + k * line.step = get_or-map-range_with_len (λ m. line.in_tile + m * line.step) 0 line.count k k d near (omega arith) in
    let most : k * line.step ≤ (line.count - 1) * line.step = mul-le-mul_right line.step (omega (arith, near)) in
    subst (IsPlaceBetween i j) (sym is) (omega (arith, from), omega (arith, most, to))

-- ---- lines

all_after : (P : ℕ → Type 0) (xs ys : List ℕ) → All P (xs ++ ys) → All P ys
all_after P [] ys all = all
all_after P (x ∷ xs) ys all = all_after P xs ys (All-tail P x (xs ++ ys) all)

-- lines whose picks are between two pixels
pub lines_between : (i j n cutout : ℕ) (lines : List Line) → AllByRecursion (IsLineWithin n cutout) lines → All (IsPlaceBetween i j) (lines_in_tile lines) → AllByRecursion (IsLineBetween i j cutout) lines
lines_between i j n cutout [] within all = tt
lines_between i j n cutout (line ∷ rest) (here, more) all =
    let low = All-contains (IsPlaceBetween i j) (lines_in_tile (line ∷ rest)) line.in_tile all (Contains-append_left (line_in_tile line) (lines_in_tile rest) line.in_tile (first_pick line here.some)) in
    let high = All-contains (IsPlaceBetween i j) (lines_in_tile (line ∷ rest)) (line.in_tile + (line.count - 1) * line.step) all
    (Contains-append_left (line_in_tile line) (lines_in_tile rest) (line.in_tile + (line.count - 1) * line.step) (last_pick line here.some)) in (
      record { some = here.some; step = here.step; first = low.0; last = high.1; cutout = here.cutout },
      lines_between i j n cutout rest more (all_after (IsPlaceBetween i j) (line_in_tile line) (lines_in_tile rest) all),
    )

-- lines within a tile are between its first pixel and its end
pub lines_whole : (n cutout : ℕ) (lines : List Line) → AllByRecursion (IsLineWithin n cutout) lines → AllByRecursion (IsLineBetween 0 (0 + n) cutout) lines
lines_whole n cutout [] within = tt
lines_whole n cutout (line ∷ rest) (here, more) =
    (record { some = here.some; step = here.step; first = omega arith; last = omega (arith, here.tile); cutout = here.cutout }, lines_whole n cutout rest more)

-- ---- places that are counted from a pixel on

-- a line, counted from a pixel on
abbrev pub line_after : ℕ → Line → Line
line_after i line = record { in_tile = line.in_tile - i; step = line.step; in_cutout = line.in_cutout; count = line.count }

pub after_within : (i n cutout : ℕ) (line : Line) → IsLineBetween i (i + n) cutout line → IsLineWithin n cutout (line_after i line)
after_within i n cutout line b = record { some = b.some; step = b.step; tile = omega (arith, b.first, b.last); cutout = b.cutout }

moved_places : (i from step : ℕ) (ks : List ℕ) → i ≤ from → map (λ k. from - i + k * step) ks ≡ map (λ p. p - i) (map (λ k. from + k * step) ks)
moved_places i from step [] less = refl
moved_places i from step (k ∷ ks) less =
    let here : from - i + k * step ≡ from + k * step - i = omega (arith, less) in
    ap (λ p. p ∷ map (λ m. from - i + m * step) ks) here ∙ ap (λ l. (from + k * step - i) ∷ l) (moved_places i from step ks less)

-- its pixels are those of the line
pub pixels_of_line : (i : ℕ) (xs : List ℤ) (line : Line) → i ≤ line.in_tile → numbers_at xs (line_in_tile (line_after i line)) ≡ pixels_from i xs (line_in_tile line)
pixels_of_line i xs line less = ap (numbers_at xs) (moved_places i line.in_tile line.step (range_with_len 0 line.count) less)

pub after_len : HasPlainLen → (bits i : ℕ) (xs : List ℤ) (line : Line) → IsBitpix (pos bits) → length (plain_bytes bits (pixels_from i xs (line_in_tile line))) ≡ bits / 8 * line.count
after_len len bits i xs line size =
    all_len len bits xs (map (λ p. p - i) (line_in_tile line)) size ∙ ap (λ n. bits / 8 * n) (length-map (line_in_tile line) (λ p. p - i) ∙ line_len line)

pub after_split : (bits i : ℕ) (xs : List ℤ) (line : Line) (left left' : List Line) → left ≡ line ∷ left'
    → plain_bytes bits (pixels_from i xs (line_in_tile line)) ++ plain_bytes bits (pixels_from i xs (lines_in_tile left')) ≡ plain_bytes bits (pixels_from i xs (lines_in_tile left))
after_split bits i xs line left left' next =
    sym (flat_map-append (pixel_bytes bits) (pixels_from i xs (line_in_tile line)) (pixels_from i xs (lines_in_tile left')))
    ∙ sym (ap (plain_bytes bits) (map-append (λ p. get_or xs p (pos 0)) (map (λ p. p - i) (line_in_tile line)) (map (λ p. p - i) (lines_in_tile left'))))
    ∙ sym (ap (λ l. plain_bytes bits (numbers_at xs l)) (map-append (λ p. p - i) (line_in_tile line) (lines_in_tile left')))
    ∙ sym (ap (λ l. plain_bytes bits (pixels_from i xs (lines_in_tile l))) next)

-- of places between two pixels only the pixels between them count
pixels_within : (i j : ℕ) (xs : List ℤ) (ps : List ℕ) → All (IsPlaceBetween i j) ps → pixels_from i (take (j - i) (drop i xs)) ps ≡ numbers_at xs ps
pixels_within i j xs [] all = refl
pixels_within i j xs (p ∷ ps) all =
    let here = All-head (IsPlaceBetween i j) p ps all in
    let low : p - i < j - i = omega (arith, here.0, here.1) in
    let at : i + (p - i) ≡ p = omega (arith, here.0) in
    let same : get_or (take (j - i) (drop i xs)) (p - i) (pos 0) ≡ get_or xs p (pos 0) =
    get_or-take (j - i) (drop i xs) (p - i) (pos 0) low ∙ get_or-drop i xs (p - i) (pos 0) ∙ ap (λ k. get_or xs k (pos 0)) at in
    ap (λ x. x ∷ pixels_from i (take (j - i) (drop i xs)) ps) same ∙ ap (λ l. get_or xs p (pos 0) ∷ l) (pixels_within i j xs ps (All-tail (IsPlaceBetween i j) p ps all))

-- and from pixel 0 on all do
pixels_all : (xs : List ℤ) (ps : List ℕ) → pixels_from 0 xs ps ≡ numbers_at xs ps
pixels_all xs [] = refl
pixels_all xs (p ∷ ps) =
    let at : p - 0 ≡ p = omega arith in
    ap (λ k. get_or xs k (pos 0) ∷ pixels_from 0 xs ps) at ∙ ap (λ l. get_or xs p (pos 0) ∷ l) (pixels_all xs ps)

-- ---- what is held

-- the slice of the numbers that holds the pixels between two
pub between_held : (p : Plan) (t i j start stop : ℕ) (numbers xs : List ℤ) → HoldsBetween p t i j numbers xs → i ≤ j → start ≡ place_count (pixel_bits p) i → stop ≡ place_count (pixel_bits p) j
    → HoldPixels (pixel_bits p) (take (stop - start) (drop start numbers)) (take (j - i) (drop i xs))
between_held p t i j start stop numbers xs held less first last =
    let bits : ℕ = pixel_bits p in
    let ys : List ℤ = take (j - i) (drop i xs) in
    let sum : i + (j - i) ≡ j = omega (arith, less) in
    let count : stop - start ≡ place_count bits (j - i) =
    ap (λ n. n - start) last ∙ ap (λ n. place_count bits j - n) first ∙ ap (λ n. place_count bits n - place_count bits i) (sym sum) ∙ count_between bits i (j - i) in
    subst (λ n. HoldPixels bits (take n (drop start numbers)) ys) (sym count) (subst (λ n. HoldPixels bits (take (place_count bits (j - i)) (drop n numbers)) ys) (sym first) held.hold)

-- ---- a part at its places

-- the picks of a tile are written, whose pixels between two are held
pub part_between : (p : Plan) (sieve : Sieve) (t i j : ℕ) (z : ℤ) (xs : List ℤ) (in_tile in_cutout out out' : List ℕ) → z ≡ p.bitpix → in_tile ≡ picks_in_tile (lengths_of p.shape) (lengths_of p.tile) sieve t
    → in_cutout ≡ picks_in_cutout (lengths_of p.shape) (lengths_of p.tile) sieve t → PicksLieBetween p sieve t i j
    → Some out' ≡ pieces_written (unsigned_abs z / 8) 0 in_cutout (plain_bytes (unsigned_abs z) (pixels_from i (take (j - i) (drop i xs)) in_tile)) (Some out)
    → Some out' ≡ part_written p sieve 0 t xs (Some out)
part_between p sieve t i j z xs in_tile in_cutout out out' back tile cut within is =
    let w : ℕ = pixel_bits p / 8 in
    let ys : List ℤ = take (j - i) (drop i xs) in
    let picks : List ℕ = picks_in_tile (lengths_of p.shape) (lengths_of p.tile) sieve t in
    let places : List ℕ = picks_in_cutout (lengths_of p.shape) (lengths_of p.tile) sieve t in
    is
    ∙ ap (λ (y : ℤ). pieces_written (unsigned_abs y / 8) 0 in_cutout (plain_bytes (unsigned_abs y) (pixels_from i ys in_tile)) (Some out)) back
    ∙ ap (λ l. pieces_written w 0 in_cutout (plain_bytes (pixel_bits p) (pixels_from i ys l)) (Some out)) tile
    ∙ ap (λ l. pieces_written w 0 l (plain_bytes (pixel_bits p) (pixels_from i ys picks)) (Some out)) cut
    ∙ ap (λ l. pieces_written w 0 places (plain_bytes (pixel_bits p) l) (Some out)) (pixels_within i j xs picks within)

-- the same if all of them are
pub part_whole : (p : Plan) (sieve : Sieve) (t : ℕ) (z : ℤ) (xs : List ℤ) (in_tile in_cutout out out' : List ℕ) → z ≡ p.bitpix → in_tile ≡ picks_in_tile (lengths_of p.shape) (lengths_of p.tile) sieve t
    → in_cutout ≡ picks_in_cutout (lengths_of p.shape) (lengths_of p.tile) sieve t
    → Some out' ≡ pieces_written (unsigned_abs z / 8) 0 in_cutout (plain_bytes (unsigned_abs z) (pixels_from 0 xs in_tile)) (Some out) → Some out' ≡ part_written p sieve 0 t xs (Some out)
part_whole p sieve t z xs in_tile in_cutout out out' back tile cut is =
    let w : ℕ = pixel_bits p / 8 in
    let picks : List ℕ = picks_in_tile (lengths_of p.shape) (lengths_of p.tile) sieve t in
    let places : List ℕ = picks_in_cutout (lengths_of p.shape) (lengths_of p.tile) sieve t in
    is
    ∙ ap (λ (y : ℤ). pieces_written (unsigned_abs y / 8) 0 in_cutout (plain_bytes (unsigned_abs y) (pixels_from 0 xs in_tile)) (Some out)) back
    ∙ ap (λ l. pieces_written w 0 in_cutout (plain_bytes (pixel_bits p) (pixels_from 0 xs l)) (Some out)) tile
    ∙ ap (λ l. pieces_written w 0 l (plain_bytes (pixel_bits p) (pixels_from 0 xs picks)) (Some out)) cut
    ∙ ap (λ l. pieces_written w 0 places (plain_bytes (pixel_bits p) l) (Some out)) (pixels_all xs picks)

-- ---- a line of a loop over lines

-- pixels that are held from one on, and lines between them and within the buffer
abbrev pub AreHeldFrom : ℕ → ℕ → ℕ → ℕ → List ℤ → List Line → Type 0
AreHeldFrom bits w room i numbers all =
    (xs : List ℤ) × HoldPixels bits numbers xs × (length xs ≤ 2 ^ 26) × ((cutout : ℕ) × AllByRecursion (IsLineBetween i (i + length xs) cutout) all × (w * cutout ≤ room))

module _ (bits w room i : ℕ) (numbers : List ℤ) (line : Line) (all left left' : List Line) (held : AreHeldFrom bits w room i numbers all)
    (keep : (j k cutout : ℕ) → AllByRecursion (IsLineBetween j k cutout) all → AllByRecursion (IsLineBetween j k cutout) left) (next : left ≡ line ∷ left') where
  -- the next line is between the pixels
  pub line_between : IsLineBetween i (i + length held.0) held.3.0 line
  line_between = (line_first (IsLineBetween i (i + length held.0) held.3.0) line left left' next (keep i (i + length held.0) held.3.0 held.3.1)).0

  -- so it may be put to its place
  pub line_held : (bits' : ℕ) → bits ≡ bits' → (xs : List ℤ) × HoldPixels bits' numbers xs × (length xs ≤ 2 ^ 26) × ((cutout : ℕ) × IsLineWithin (length xs) cutout (line_after i line))
  line_held bits' same =
      (held.0, subst (λ n. HoldPixels n numbers held.0) same held.1, held.2, (held.3.0, after_within i (length held.0) held.3.0 line line_between))

  -- and there is room for it
  pub line_fits_in : w * line.in_cutout + w * line.count ≤ room
  line_fits_in =
      let times : w * (line.in_cutout + line.count) ≤ w * held.3.0 = mul-le-mul_left w line_between.cutout in
      omega (arith, times, mul-add w line.in_cutout line.count, held.3.2)

-- ---- the span of lines

either_end : (P : ℕ → Type 0) (a b : ℕ) → P a → P b → P (min a b)
either_end P a b x y = elim (cases_lt a b) as (λ e. P (min a b)) [
  | inl less ↦ let is : a ≡ min a b = omega (arith, less) in subst P is x
  | inr more ↦ let is : b ≡ min a b = omega (arith, more) in subst P is y
]

last_end : (P : ℕ → Type 0) (a b : ℕ) → P (a - 1) → P b → P (max a (b + 1) - 1)
last_end P a b x y = elim (cases_lt a (b + 1)) as (λ e. P (max a (b + 1) - 1)) [
  | inl less ↦ let is : b ≡ max a (b + 1) - 1 = omega (arith, less) in subst P is y
  | inr more ↦ let is : a - 1 ≡ max a (b + 1) - 1 = omega (arith, more) in subst P is x
]

-- the ends of a span are picks, after the first line
pub span_ends : (all : List ℕ) (pixels first end in_tile last first' end' : ℕ) → first' ≡ min first in_tile → end' ≡ max end (last + 1) → in_tile < pixels → Contains all in_tile → Contains all last
    → ((first ≡ pixels) × (end ≡ 0)) ⊎ (Contains all first × Contains all (end - 1)) → Contains all first' × Contains all (end' - 1)
span_ends all pixels first end in_tile last first' end' low high near a b (inl none) =
    let one : in_tile ≡ first' = omega (arith, low, near, none.0) in
    let other : last ≡ end' - 1 = omega (arith, high, none.1) in
    (subst (Contains all) one a, subst (Contains all) other b)
span_ends all pixels first end in_tile last first' end' low high near a b (inr some) = (
  subst (Contains all) (sym low) (either_end (Contains all) first in_tile some.0 a),
  subst (λ n. Contains all (n - 1)) (sym high) (last_end (Contains all) end last some.1 b),
)

-- ---- a tile with a pick has one

both : (a b : Bool) → (a && b) ≡ true → (a ≡ true) × (b ≡ true)
both true true is = (refl, refl)
both true false is = absurd cc
both false b is = absurd cc

above : (n : ℕ) → nat_lt 0 n ≡ true → 0 < n
above n is = grind (arith, nat_tests)

some_product : (rs : List ℕ) → has_pixel rs ≡ true → 1 ≤ product rs
some_product [] is = omega arith
some_product (n ∷ ns) is =
    let parts = both (nat_lt 0 n) (has_pixel ns) is in
    let some : 1 ≤ n = above n parts.0 in
    let all : 1 * 1 ≤ n * product ns = mul-le 1 1 n (product ns) some (some_product ns parts.1) in
    omega (arith, all)

pub some_picks : BoxesHaveTheirPixels → (array tile : List ℕ) (sieve : Sieve) (t : ℕ) → has_pixel (part_lengths array tile sieve t) ≡ true → 0 < length (picks_in_tile array tile sieve t)
some_picks pixels array tile sieve t has =
    let long : length (picks_in_cutout array tile sieve t) ≡ product (part_lengths array tile sieve t) =
    pixels (sieve_lengths sieve) (all_before (sieve_lo sieve) (sieve_hi sieve) (sieve_step sieve) (tile_corner array tile t)) (part_lengths array tile sieve t) in
    omega (arith, picks_same array tile sieve t, long, some_product (part_lengths array tile sieve t) has)
