-- The picks that lie in a box, as lists.
use Rattle.std.proofs.Common.{◌≡◌, ℕ, suc, zero, ◌+◌, ◌-◌, ◌*◌, ◌/◌, ◌<◌, ◌≤◌, List, [], ◌∷◌, length, get_or, refl, ap, sym, ◌∙◌, arith}
use Rattle.fz_grid.specs.Arrays.{AreCoordinatesOf, coordinates_of}
use Rattle.fz_grid.specs.Grid.{corner_of, lengths_from, moved, tile_corner, tile_counts, tile_lengths}
use Rattle.fz_grid.specs.Overlap.{IsInBox}
use Rattle.fz_grid.specs.Sieve.{IsPick, IsPickOn, all_before, pick_count, pick_counts, picks_before, picks_in, stepped}
use Rattle.fz_grid.specs.Cutout.{first_from}
use Rattle.fz_grid.proofs.AxisLemmas.{before_end, counted_before, counted_within, from_corner, moved_pick, pick_le, pick_lt}
use Rattle.fz_grid.proofs.BoxLists.{both_below, front_below, rest_below}

-- lists of the axes of a box with a step, and of a box of pixels
pub record AreAxes (os hs ss cs ns : List ℕ) : Type 0 where
  pub his : length hs ≡ length os
  pub steps : length ss ≡ length os
  pub corner : length cs ≡ length os
  pub lengths : length ns ≡ length os
  pub positive : (i : ℕ) → i < length os → 1 ≤ get_or ss i 0

pub axes_tail : (o h s c n : ℕ) (os hs ss cs ns : List ℕ) → AreAxes (o ∷ os) (h ∷ hs) (s ∷ ss) (c ∷ cs) (n ∷ ns) → AreAxes os hs ss cs ns
axes_tail o h s c n os hs ss cs ns are =
    record {
      his = omega (arith, are.his);
      steps = omega (arith, are.steps);
      corner = omega (arith, are.corner);
      lengths = omega (arith, are.lengths);
      positive = λ i b. are.positive (suc i) (omega arith);
    }

-- the pick with these numbers in a part: in the box, and among all picks
pub record IsPlaced (os hs ss cs ns ks : List ℕ) : Type 0 where
  pub same : moved cs (stepped (first_from os hs ss cs) ss ks) ≡ stepped os ss (moved (all_before os hs ss cs) ks)
  pub inside : AreCoordinatesOf ns (stepped (first_from os hs ss cs) ss ks)
  pub among : AreCoordinatesOf (pick_counts os hs ss) (moved (all_before os hs ss cs) ks)

pub placed : (os hs ss cs ns ks : List ℕ) → AreAxes os hs ss cs ns → AreCoordinatesOf (picks_in os hs ss cs ns) ks → IsPlaced os hs ss cs ns ks
placed [] hs ss [] ns ks axes are =
    record {
      same = refl;
      inside = record { axes = sym axes.lengths; below = λ i h. absurd (omega (arith, axes.lengths)) };
      among = record { axes = refl; below = λ i h. absurd (omega arith) };
    }
placed [] hs ss (c ∷ cs) ns ks axes are = absurd (omega (arith, axes.corner))
placed (o ∷ os) [] ss cs ns ks axes are = absurd (omega (arith, axes.his))
placed (o ∷ os) (h ∷ hs) [] cs ns ks axes are = absurd (omega (arith, axes.steps))
placed (o ∷ os) (h ∷ hs) (s ∷ ss) [] ns ks axes are = absurd (omega (arith, axes.corner))
placed (o ∷ os) (h ∷ hs) (s ∷ ss) (c ∷ cs) [] ks axes are = absurd (omega (arith, axes.lengths))
placed (o ∷ os) (h ∷ hs) (s ∷ ss) (c ∷ cs) (n ∷ ns) [] axes are = absurd (omega (arith, are.axes))
placed (o ∷ os) (h ∷ hs) (s ∷ ss) (c ∷ cs) (n ∷ ns) (k ∷ ks) axes are =
    by (placed os hs ss cs ns ks (axes_tail o h s c n os hs ss cs ns axes) (rest_below _ k _ ks are)) (picks_before o h s c) refl (front_below _ k _ ks are)
  where
    some : 0 < s
    some = axes.positive zero (omega arith)

    by : IsPlaced os hs ss cs ns ks → (f : ℕ) → f ≡ picks_before o h s c → k < picks_before o h s (c + n) - picks_before o h s c → IsPlaced (o ∷ os) (h ∷ hs) (s ∷ ss) (c ∷ cs) (n ∷ ns) (k ∷ ks)
    by rest f is below =
        let counted = before_end o h s (c + n) (f + k) some (omega (arith, is)) in
        let from = from_corner o h s c f some is (omega (arith, counted.0)) in
        let here = moved_pick o s c n f k from counted.1 in
        record {
          same =
              ap (λ g. (c + (o + g * s - c + k * s)) ∷ moved cs (stepped (first_from os hs ss cs) ss ks)) (sym is)
              ∙ (ap (λ x. x ∷ moved cs (stepped (first_from os hs ss cs) ss ks)) here.1
              ∙ (ap (λ g. (o + (g + k) * s) ∷ moved cs (stepped (first_from os hs ss cs) ss ks)) is
              ∙ ap (λ l. (o + (picks_before o h s c + k) * s) ∷ l) rest.same));
          inside = both_below n _ ns _ (rw (sym is) here.0) rest.inside;
          among = both_below _ _ _ _ (rw (sym is) counted.0) rest.among;
        }

-- the numbers in a part of a pick that lies in the box
pub unplaced : (os hs ss cs ns ks : List ℕ) → AreAxes os hs ss cs ns → AreCoordinatesOf (pick_counts os hs ss) ks → IsInBox cs ns (stepped os ss ks) → (js : List ℕ) × AreCoordinatesOf (picks_in os hs ss cs ns) js × (moved (all_before os hs ss cs) js ≡ ks)
unplaced [] hs ss cs ns [] axes are within = ([], record { axes = refl; below = λ i h. absurd (omega arith) }, refl)
unplaced [] hs ss cs ns (k ∷ ks) axes are within = absurd (omega (arith, are.axes))
unplaced (o ∷ os) [] ss cs ns ks axes are within = absurd (omega (arith, axes.his))
unplaced (o ∷ os) (h ∷ hs) [] cs ns ks axes are within = absurd (omega (arith, axes.steps))
unplaced (o ∷ os) (h ∷ hs) (s ∷ ss) [] ns ks axes are within = absurd (omega (arith, axes.corner))
unplaced (o ∷ os) (h ∷ hs) (s ∷ ss) (c ∷ cs) [] ks axes are within = absurd (omega (arith, axes.lengths))
unplaced (o ∷ os) (h ∷ hs) (s ∷ ss) (c ∷ cs) (n ∷ ns) [] axes are within = absurd (omega (arith, are.axes))
unplaced (o ∷ os) (h ∷ hs) (s ∷ ss) (c ∷ cs) (n ∷ ns) (k ∷ ks) axes are within =
    let rest = unplaced os hs ss cs ns ks (axes_tail o h s c n os hs ss cs ns axes) (rest_below _ k _ ks are) (record {
      axes = omega (arith, within.axes);
      from = λ i b. within.from (suc i) (omega arith);
      before = λ i b. within.before (suc i) (omega arith);
    }) in
    let some : 0 < s = axes.positive zero (omega arith) in
    let low = counted_before o h s c k some (within.from zero (omega arith)) in
    let high = counted_within o h s (c + n) k some (front_below _ k _ ks are) (within.before zero (omega arith)) in
    let back : picks_before o h s c + (k - picks_before o h s c) ≡ k = omega (arith, low) in (
      (k - picks_before o h s c) ∷ rest.0,
      both_below _ _ _ _ (omega (arith, low, high)) rest.1,
      ap (λ x. x ∷ moved (all_before os hs ss cs) rest.0) back ∙ ap (λ l. k ∷ l) rest.2,
    )

-- the coordinates of a pick, and its numbers
pub stepped_at : (os ss ks : List ℕ) (i : ℕ) → length ss ≡ length os → length ks ≡ length os → i < length os → get_or (stepped os ss ks) i 0 ≡ get_or os i 0 + get_or ks i 0 * get_or ss i 0
stepped_at [] ss ks i of_ss of_ks h = absurd (omega arith)
stepped_at (o ∷ os) [] ks i of_ss of_ks h = absurd (omega arith)
stepped_at (o ∷ os) (s ∷ ss) [] i of_ss of_ks h = absurd (omega arith)
stepped_at (o ∷ os) (s ∷ ss) (k ∷ ks) zero of_ss of_ks h = refl
stepped_at (o ∷ os) (s ∷ ss) (k ∷ ks) (suc i) of_ss of_ks h = stepped_at os ss ks i (omega arith) (omega arith) (omega arith)

pub stepped_length : (os ss ks : List ℕ) → length ss ≡ length os → length ks ≡ length os → length (stepped os ss ks) ≡ length os
stepped_length [] ss ks of_ss of_ks = refl
stepped_length (o ∷ os) [] ks of_ss of_ks = absurd (omega arith)
stepped_length (o ∷ os) (s ∷ ss) [] of_ss of_ks = absurd (omega arith)
stepped_length (o ∷ os) (s ∷ ss) (k ∷ ks) of_ss of_ks = ap suc (stepped_length os ss ks (omega arith) (omega arith))

pub counts_length : (os hs ss : List ℕ) → length hs ≡ length os → length ss ≡ length os → length (pick_counts os hs ss) ≡ length os
counts_length [] hs ss of_hs of_ss = refl
counts_length (o ∷ os) [] ss of_hs of_ss = absurd (omega arith)
counts_length (o ∷ os) (h ∷ hs) [] of_hs of_ss = absurd (omega arith)
counts_length (o ∷ os) (h ∷ hs) (s ∷ ss) of_hs of_ss = ap suc (counts_length os hs ss (omega arith) (omega arith))

pub counts_at : (os hs ss : List ℕ) (i : ℕ) → length hs ≡ length os → length ss ≡ length os → i < length os → get_or (pick_counts os hs ss) i 0 ≡ pick_count (get_or os i 0) (get_or hs i 0) (get_or ss i 0)
counts_at [] hs ss i of_hs of_ss h' = absurd (omega arith)
counts_at (o ∷ os) [] ss i of_hs of_ss h' = absurd (omega arith)
counts_at (o ∷ os) (h ∷ hs) [] i of_hs of_ss h' = absurd (omega arith)
counts_at (o ∷ os) (h ∷ hs) (s ∷ ss) zero of_hs of_ss h' = refl
counts_at (o ∷ os) (h ∷ hs) (s ∷ ss) (suc i) of_hs of_ss h' = counts_at os hs ss i (omega arith) (omega arith) (omega arith)

-- a pick of numbers below the counts is a pick
pub is_pick : (os hs ss ms : List ℕ) → length hs ≡ length os → length ss ≡ length os → ((i : ℕ) → i < length os → get_or os i 0 ≤ get_or hs i 0) → AreCoordinatesOf (pick_counts os hs ss) ms → IsPick os hs ss (stepped os ss ms)
is_pick os hs ss ms of_hs of_ss ordered are =
    let long = counts_length os hs ss of_hs of_ss in
    let of_ms : length ms ≡ length os = omega (arith, are.axes, long) in
    record {
      axes = stepped_length os ss ms of_ss of_ms;
      on = λ i h.
          let below : get_or ms i 0 < pick_count (get_or os i 0) (get_or hs i 0) (get_or ss i 0) = omega (arith, are.below i (omega (arith, long)), counts_at os hs ss i of_hs of_ss h) in
          let here = stepped_at os ss ms i of_ss of_ms h in
          (get_or ms i 0, here, omega (arith, here, pick_le (get_or os i 0) (get_or hs i 0) (get_or ss i 0) (get_or ms i 0) (ordered i h) below));
    }

-- and a pick has numbers
pub pick_numbers : (os hs ss xs : List ℕ) → length hs ≡ length os → length ss ≡ length os → ((i : ℕ) → i < length os → 1 ≤ get_or ss i 0) → IsPick os hs ss xs → (ms : List ℕ) × AreCoordinatesOf (pick_counts os hs ss) ms × (stepped os ss ms ≡ xs)
pick_numbers [] hs ss [] of_hs of_ss positive is = ([], record { axes = refl; below = λ i h. absurd (omega arith) }, refl)
pick_numbers [] hs ss (x ∷ xs) of_hs of_ss positive is = absurd (omega (arith, is.axes))
pick_numbers (o ∷ os) [] ss xs of_hs of_ss positive is = absurd (omega arith)
pick_numbers (o ∷ os) (h ∷ hs) [] xs of_hs of_ss positive is = absurd (omega arith)
pick_numbers (o ∷ os) (h ∷ hs) (s ∷ ss) [] of_hs of_ss positive is = absurd (omega (arith, is.axes))
pick_numbers (o ∷ os) (h ∷ hs) (s ∷ ss) (x ∷ xs) of_hs of_ss positive is =
    let rest = pick_numbers os hs ss xs (omega arith) (omega arith) (λ i b. positive (suc i) (omega arith)) (record { axes = omega (arith, is.axes); on = λ i b. is.on (suc i) (omega arith) }) in
    let first : IsPickOn o h s x = is.on zero (omega arith) in
    let below = pick_lt o h s first.0 (positive zero (omega arith)) (omega (arith, first.1, first.2)) in (
      first.0 ∷ rest.0,
      both_below _ _ _ _ below rest.1,
      ap (λ y. y ∷ stepped os ss rest.0) (sym first.1) ∙ ap (λ l. x ∷ l) rest.2,
    )

-- the box of a tile has the array's axes
grid_length : (ns ts : List ℕ) → length ts ≡ length ns → length (tile_counts ns ts) ≡ length ns
grid_length [] ts same = refl
grid_length (n ∷ ns) [] same = absurd (omega arith)
grid_length (n ∷ ns) (t ∷ ts) same = ap suc (grid_length ns ts (omega arith))

corners_length : (ds ts : List ℕ) → length ts ≡ length ds → length (corner_of ds ts) ≡ length ds
corners_length [] ts same = refl
corners_length (d ∷ ds) [] same = absurd (omega arith)
corners_length (d ∷ ds) (t ∷ ts) same = ap suc (corners_length ds ts (omega arith))

from_length : (ns ts cs : List ℕ) → length ts ≡ length ns → length cs ≡ length ns → length (lengths_from ns ts cs) ≡ length ns
from_length [] ts cs of_ts of_cs = refl
from_length (n ∷ ns) [] cs of_ts of_cs = absurd (omega arith)
from_length (n ∷ ns) (t ∷ ts) [] of_ts of_cs = absurd (omega arith)
from_length (n ∷ ns) (t ∷ ts) (c ∷ cs) of_ts of_cs = ap suc (from_length ns ts cs (omega arith) (omega arith))

digits_length : (gs : List ℕ) (k : ℕ) → length (coordinates_of gs k) ≡ length gs
digits_length [] k = refl
digits_length (g ∷ gs) k = ap suc (digits_length gs (k / g))

pub tile_axes : (ns ts : List ℕ) (t : ℕ) → length ts ≡ length ns → (length (tile_corner ns ts t) ≡ length ns) × (length (tile_lengths ns ts t) ≡ length ns)
tile_axes ns ts t same =
    let grid = tile_counts ns ts in
    let digits : length (coordinates_of grid t) ≡ length ns = digits_length grid t ∙ grid_length ns ts same in
    let corner : length (tile_corner ns ts t) ≡ length ns = corners_length (coordinates_of grid t) ts (omega (arith, digits)) ∙ digits in
    (corner, from_length ns ts (tile_corner ns ts t) same corner)

-- a part has the axes of its box
pub parts_length : (os hs ss cs ns : List ℕ) → AreAxes os hs ss cs ns → length (picks_in os hs ss cs ns) ≡ length os
parts_length [] hs ss cs ns axes = refl
parts_length (o ∷ os) [] ss cs ns axes = absurd (omega (arith, axes.his))
parts_length (o ∷ os) (h ∷ hs) [] cs ns axes = absurd (omega (arith, axes.steps))
parts_length (o ∷ os) (h ∷ hs) (s ∷ ss) [] ns axes = absurd (omega (arith, axes.corner))
parts_length (o ∷ os) (h ∷ hs) (s ∷ ss) (c ∷ cs) [] axes = absurd (omega (arith, axes.lengths))
parts_length (o ∷ os) (h ∷ hs) (s ∷ ss) (c ∷ cs) (n ∷ ns) axes = ap suc (parts_length os hs ss cs ns (axes_tail o h s c n os hs ss cs ns axes))

pub befores_length : (os hs ss cs ns : List ℕ) → AreAxes os hs ss cs ns → length (all_before os hs ss cs) ≡ length os
befores_length [] hs ss cs ns axes = refl
befores_length (o ∷ os) [] ss cs ns axes = absurd (omega (arith, axes.his))
befores_length (o ∷ os) (h ∷ hs) [] cs ns axes = absurd (omega (arith, axes.steps))
befores_length (o ∷ os) (h ∷ hs) (s ∷ ss) [] ns axes = absurd (omega (arith, axes.corner))
befores_length (o ∷ os) (h ∷ hs) (s ∷ ss) (c ∷ cs) [] axes = absurd (omega (arith, axes.lengths))
befores_length (o ∷ os) (h ∷ hs) (s ∷ ss) (c ∷ cs) (n ∷ ns) axes = ap suc (befores_length os hs ss cs ns (axes_tail o h s c n os hs ss cs ns axes))
