-- What `patch` is asked for, the image that it puts into another, and the box that this fills (FITS 4.0, sections 3.3.2, 4.4.1.1 and 5.2).
use Rattle.std.specs.Prelude.{ℕ, ◌+◌, ◌-◌, List, [], ◌∷◌, ◌++◌, length, replicate, unsigned_abs, Option, Result, Ok, Err}
use Rattle.fz_base.specs.declared.fault.Fault.{Fault}
use Rattle.fz_block.specs.Checks.{hdu_at}
use Rattle.fz_block.specs.Walk.{hdu_of}
use Rattle.fz_block.specs.declared.header.Header.{Header}
use Rattle.fz_grid.specs.Arrays.{NumberArray, product}
use Rattle.fz_grid.specs.Region.{lengths_of}
use Rattle.fz_grid.specs.declared.region.Region.{Region}
use Rattle.fz_grid.specs.declared.sieve.Sieve.{Sieve}
use Rattle.fz_tile.specs.Plain.{stored_pixels}

-- the HDU of the packed image, or none for the first that is packed, and where the first pixel goes: its coordinates, counted from 0
pub record PatchJob : Type 0 where
  pub wanted : Option ℕ
  pub corner : List ℕ

-- the header of the first HDU of the file that is given, or its first fault; nothing after that HDU is looked at
abbrev pub given_header : List ℕ → Result Header Fault
given_header patch = hdu_at 0 0 patch

-- the array of an image whose header has these facts
abbrev pub array_in : List ℕ → Header → NumberArray
array_in file h = record {
  lengths = lengths_of h.axes;
  numbers = stored_pixels (unsigned_abs h.bitpix) (product (lengths_of h.axes)) (hdu_of file h).payload;
}

-- no axis and no number if a header is refused
abbrev pub array_if : List ℕ → Result Header Fault → NumberArray
array_if file (Ok h) = array_in file h
array_if file (Err fault) = record { lengths = []; numbers = [] }

-- what is put into an image: an array, and where its first number goes
pub record Given : Type 0 where
  pub corner : List ℕ
  pub array : NumberArray

abbrev pub given_by : List ℕ → PatchJob → Given
given_by patch job = record { corner = job.corner; array = array_if patch (given_header patch) }

-- ---- the box

-- a number for each of nine axes: zeros after those that there are
abbrev pub nine_numbers : List ℕ → List ℕ
nine_numbers numbers = numbers ++ replicate (9 - length numbers) 0

-- the last coordinates of a box
abbrev pub last_along : List ℕ → List ℕ → List ℕ
last_along [] lengths = []
last_along (o ∷ os) [] = []
last_along (o ∷ os) (n ∷ ns) = (o + n - 1) ∷ last_along os ns

-- the box as a sieve that picks every pixel of it
abbrev pub box_sieve : Given → Sieve
box_sieve g = record {
  n = length g.corner;
  lo = nine_numbers g.corner;
  hi = nine_numbers (last_along g.corner g.array.lengths);
  step = nine_numbers (replicate (length g.corner) 1);
}

-- and as a region
abbrev pub box_region : Given → Region
box_region g = record { n = length g.corner; lo = nine_numbers g.corner; len = nine_numbers g.array.lengths }
