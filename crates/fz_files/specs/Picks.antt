-- What a cut is asked for (FITS 4.0, section 4.4.1.1).
use Rattle.std.specs.Prelude.{ℕ, ◌≡◌, ◌+◌, ◌^◌, ◌<◌, ◌≤◌, length, slice_index}
use Rattle.fz_grid.specs.declared.sieve.Sieve.{Sieve}

-- a sieve has numbers for nine axes
pub record HasNinePlaces (sieve : Sieve) : Type 0 where
  pub los : length sieve.lo ≡ 9
  pub his : length sieve.hi ≡ 9
  pub steps : length sieve.step ≡ 9

-- it has 1 to 9 axes, and a pick and a step along each, at places that an axis of a FITS image has
pub record HasPicks (sieve : Sieve) : Type 0 where
  pub some : 1 ≤ sieve.n
  pub axes : sieve.n ≤ 9
  pub ordered : (i : ℕ) → i < sieve.n → slice_index sieve.lo i ≤ slice_index sieve.hi i
  pub inside : (i : ℕ) → i < sieve.n → slice_index sieve.hi i + 1 < 2 ^ 31
  pub positive : (i : ℕ) → i < sieve.n → 1 ≤ slice_index sieve.step i
