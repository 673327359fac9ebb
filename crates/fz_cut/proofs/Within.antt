-- The part of a sieve lies within its box (FITS 4.0, section 4.4.1.1).
use Rattle.std.proofs.Common.{◌≡◌, ℕ, zero, suc, ◌+◌, ◌-◌, ◌^◌, ◌<◌, ◌≤◌, List, [], ◌∷◌, length, replicate, slice_index, refl, ◌∙◌, arith}
use Rattle.std.proofs.Math.Nat.{div-le_self}
use Rattle.std.proofs.lemmas.List.{get_or-take, get_or_append_left, length-take-le}
use Rattle.fz_block.specs.declared.axes.Axes.{Axes}
use Rattle.fz_grid.specs.Region.{IsWithin}
use Rattle.fz_grid.specs.Sieve.{IsSieveOf, pick_count, pick_counts, sieve_hi, sieve_lengths, sieve_lo, sieve_step}
use Rattle.fz_grid.specs.declared.sieve.Sieve.{Sieve}
use Rattle.fz_files.specs.CutoutBytes.{picked_region}
use Rattle.fz_files.specs.Walks.{box_of, lengths_between}
use Rattle.fz_files.specs.Picks.{HasPicks}

counts_at : (los his steps : List ℕ) (i : ℕ) → i < length los → i < length his → i < length steps → slice_index (pick_counts los his steps) i ≡ pick_count (slice_index los i) (slice_index his i) (slice_index steps i)
counts_at [] his steps i a b c = absurd (omega (arith, a))
counts_at (o ∷ os) [] steps i a b c = absurd (omega (arith, b))
counts_at (o ∷ os) (h ∷ hs) [] i a b c = absurd (omega (arith, c))
counts_at (o ∷ os) (h ∷ hs) (s ∷ ss) zero a b c = refl
counts_at (o ∷ os) (h ∷ hs) (s ∷ ss) (suc i) a b c = counts_at os hs ss i (omega (arith, a)) (omega (arith, b)) (omega (arith, c))

counts_long : (los his steps : List ℕ) (n : ℕ) → length los ≡ n → length his ≡ n → length steps ≡ n → length (pick_counts los his steps) ≡ n
counts_long [] his steps n a b c = a
counts_long (o ∷ os) [] steps n a b c = absurd (omega (arith, a, b))
counts_long (o ∷ os) (h ∷ hs) [] n a b c = absurd (omega (arith, a, c))
counts_long (o ∷ os) (h ∷ hs) (s ∷ ss) zero a b c = absurd (omega (arith, a))
counts_long (o ∷ os) (h ∷ hs) (s ∷ ss) (suc n) a b c =
    let rest = counts_long os hs ss n (omega (arith, a)) (omega (arith, b)) (omega (arith, c)) in
    omega (arith, rest)

between_at : (los his : List ℕ) (i : ℕ) → i < length los → i < length his → slice_index (lengths_between los his) i ≡ slice_index his i - slice_index los i + 1
between_at [] his i a b = absurd (omega (arith, a))
between_at (o ∷ os) [] i a b = absurd (omega (arith, b))
between_at (o ∷ os) (h ∷ hs) zero a b = refl
between_at (o ∷ os) (h ∷ hs) (suc i) a b = between_at os hs i (omega (arith, a)) (omega (arith, b))

between_long : (los his : List ℕ) (n : ℕ) → length los ≡ n → length his ≡ n → length (lengths_between los his) ≡ n
between_long [] his n a b = a
between_long (o ∷ os) [] n a b = absurd (omega (arith, a, b))
between_long (o ∷ os) (h ∷ hs) zero a b = absurd (omega (arith, a))
between_long (o ∷ os) (h ∷ hs) (suc n) a b =
    let rest = between_long os hs n (omega (arith, a)) (omega (arith, b)) in
    omega (arith, rest)

module _ (sieve : Sieve) (los : sieve.n ≤ length sieve.lo) (his : sieve.n ≤ length sieve.hi) (steps : sieve.n ≤ length sieve.step) where
  abbrev n : ℕ
  n = sieve.n

  lo_long : length (sieve_lo sieve) ≡ n
  lo_long = length-take-le n sieve.lo los

  hi_long : length (sieve_hi sieve) ≡ n
  hi_long = length-take-le n sieve.hi his

  step_long : length (sieve_step sieve) ≡ n
  step_long = length-take-le n sieve.step steps

  -- how long the part is along an axis
  pub part_length : (i : ℕ) → i < n → slice_index (picked_region sieve).len i ≡ pick_count (slice_index sieve.lo i) (slice_index sieve.hi i) (slice_index sieve.step i)
  part_length i near =
      get_or_append_left (sieve_lengths sieve) (replicate (9 - n) 0) 0 i (omega (arith, near, counts_long (sieve_lo sieve) (sieve_hi sieve) (sieve_step sieve) n lo_long hi_long step_long))
      ∙ counts_at (sieve_lo sieve) (sieve_hi sieve) (sieve_step sieve) i (omega (arith, near, lo_long)) (omega (arith, near, hi_long)) (omega (arith, near, step_long))
      ∙ (λ j. pick_count (get_or-take n sieve.lo i 0 near j) (get_or-take n sieve.hi i 0 near j) (get_or-take n sieve.step i 0 near j))

  -- and the box
  pub box_length : (i : ℕ) → i < n → slice_index (box_of sieve).len i ≡ slice_index sieve.hi i - slice_index sieve.lo i + 1
  box_length i near =
      get_or_append_left (lengths_between (sieve_lo sieve) (sieve_hi sieve)) (replicate (9 - n) 0) 0 i (omega (arith, near, between_long (sieve_lo sieve) (sieve_hi sieve) n lo_long hi_long))
      ∙ between_at (sieve_lo sieve) (sieve_hi sieve) i (omega (arith, near, lo_long)) (omega (arith, near, hi_long))
      ∙ (λ j. get_or-take n sieve.hi i 0 near j - get_or-take n sieve.lo i 0 near j + 1)

  -- the part lies within an array in which its box ends
  pub part_within : (shape : Axes) → IsWithin shape (box_of sieve) → IsWithin shape (picked_region sieve)
  part_within shape within = record {
    same_axes = within.same_axes;
    positive = λ i near. omega (arith, part_length i (omega (arith, near, within.same_axes)));
    inside = λ i near.
        let axis : i < n = omega (arith, near, within.same_axes) in
        omega (arith, part_length i axis, box_length i axis, within.inside i near, div-le_self (slice_index sieve.hi i - slice_index sieve.lo i) (slice_index sieve.step i));
  }

  -- the sieve is one of that array
  pub sieve_within : (shape : Axes) → HasPicks sieve → IsWithin shape (box_of sieve) → IsSieveOf shape sieve
  sieve_within shape has within = record {
    same_axes = within.same_axes;
    ordered = λ i near. has.ordered i (omega (arith, near, within.same_axes));
    inside = λ i near.
        let axis : i < n = omega (arith, near, within.same_axes) in
        omega (arith, box_length i axis, within.inside i near, has.ordered i axis);
    positive = λ i near. has.positive i (omega (arith, near, within.same_axes));
  }

  -- the part has lengths that fit into cards
  pub part_short : HasPicks sieve → (i : ℕ) → i < n → slice_index (picked_region sieve).len i < 10 ^ 18
  part_short has i near =
      omega (arith, part_length i near, has.inside i near, div-le_self (slice_index sieve.hi i - slice_index sieve.lo i) (slice_index sieve.step i))
