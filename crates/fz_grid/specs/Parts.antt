-- The part of a sieve that lies in a box: in the box's own coordinates, and as a box of what is cut out
-- (FITS 4.0, section 10.1).
use Rattle.std.specs.Prelude.{◌≡◌, ℕ, ◌+◌, ◌-◌, ◌*◌, ◌<◌, ◌≤◌, slice_index}
use Rattle.fz_grid.specs.declared.region.Region.{Region}
use Rattle.fz_grid.specs.declared.sieve.Sieve.{Sieve}
use Rattle.fz_grid.specs.declared.part.Part.{Part}
use Rattle.fz_grid.specs.declared.part.AxisPart.{AxisPart}
use Rattle.fz_grid.specs.Region.{axes_of}
use Rattle.fz_grid.specs.Sieve.{IsSieveOf, pick_count, picks_before}

-- the picks of an axis that lie in `length` coordinates from `corner` on
pub record IsPartAlong (lo hi step corner length : ℕ) (axis : AxisPart) : Type 0 where
  pub first : axis.first ≡ picks_before lo hi step corner
  pub count : axis.count ≡ picks_before lo hi step (corner + length) - picks_before lo hi step corner
  pub some : 1 ≤ axis.count
  pub fits : axis.first + axis.count ≤ pick_count lo hi step
  pub from : axis.lo + corner ≡ lo + axis.first * step
  pub to : axis.hi ≡ axis.lo + (axis.count - 1) * step
  pub inside : axis.hi < length

-- the picks of a sieve that lie in a region: `inside` has them counted from the region's corner, and they are those
-- of the box `at` among all picks
pub record IsPartOf (sieve : Sieve) (region : Region) (part : Part) : Type 0 where
  pub axes : part.at.n ≡ region.n
  pub within : IsSieveOf (axes_of region) part.inside
  pub first :
      (i : ℕ)
      → i < region.n
      → slice_index part.at.lo i ≡ picks_before (slice_index sieve.lo i) (slice_index sieve.hi i) (slice_index sieve.step i) (slice_index region.lo i)
  pub count :
      (i : ℕ)
      → i < region.n
      → slice_index part.at.len i
      ≡ picks_before (slice_index sieve.lo i) (slice_index sieve.hi i) (slice_index sieve.step i) (slice_index region.lo i + slice_index region.len i)
      - picks_before (slice_index sieve.lo i) (slice_index sieve.hi i) (slice_index sieve.step i) (slice_index region.lo i)
  pub some : (i : ℕ) → i < region.n → 1 ≤ slice_index part.at.len i
  pub fits :
      (i : ℕ)
      → i < region.n
      → slice_index part.at.lo i + slice_index part.at.len i
      ≤ pick_count (slice_index sieve.lo i) (slice_index sieve.hi i) (slice_index sieve.step i)
  pub from :
      (i : ℕ)
      → i < region.n
      → slice_index part.inside.lo i + slice_index region.lo i ≡ slice_index sieve.lo i + slice_index part.at.lo i * slice_index sieve.step i
  pub to :
      (i : ℕ)
      → i < region.n
      → slice_index part.inside.hi i ≡ slice_index part.inside.lo i + (slice_index part.at.len i - 1) * slice_index sieve.step i
  pub step : (i : ℕ) → i < region.n → slice_index part.inside.step i ≡ slice_index sieve.step i
