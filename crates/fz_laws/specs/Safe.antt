-- What a patch leaves that stopped between two writes, or lost some of the writes of one step (FITS 4.0, sections 7.3.5 and 10.1.3): an image of
-- which every tile that had numbers has its old ones or its new ones.
use Rattle.std.specs.Prelude.{ℕ, ◌≡◌, ◌⊎◌, ◌<◌, ◌≤◌, ℤ, Bool, List, [], ◌∷◌, ◌++◌, length, take, All, Contains, slice_index, Option, None, Ok, if◌then◌else◌}
use Rattle.fz_base.specs.Counts.{Amend}
use Rattle.fz_block.specs.declared.header.Header.{Header}
use Rattle.fz_grid.specs.Sieve.{IsSieveOf}
use Rattle.fz_grid.specs.declared.sieve.Sieve.{Sieve}
use Rattle.fz_files.specs.Packed.{tiles_in}
use Rattle.fz_files.specs.Picks.{HasNinePlaces}
use Rattle.fz_files.specs.Restored.{RowStandsFor, plan_in}
use Rattle.fz_files.specs.Walks.{header_fault, headers_for, last_of}
use Rattle.fz_files.specs.declared.job.Job.TheVariants.{Cut}
use Rattle.fz_laws.specs.Amends.{IsOutside, applied}
use Rattle.fz_laws.specs.PatchChecks.{wanted_image}
use Rattle.fz_laws.specs.Given.{Given}
use Rattle.fz_laws.specs.NewNumbers.{box_tiles, new_numbers}
use Rattle.fz_laws.specs.Writes.{Steps, all_writes, before_rows, before_sums, header_now}

-- no header check of a cut that passed refuses now, of this HDU or of one before it, whatever the box
abbrev pub CutsStillPass : List ℕ → List ℕ → Type 0
CutsStillPass file new = (wanted : Option ℕ) (sieve : Sieve) → header_fault (Cut wanted sieve) file ≡ None → header_fault (Cut wanted sieve) new ≡ None

-- a cut that was to find this HDU passes them, if its box lies in the image, and finds the header that is there now
abbrev pub CutsFindIt : List ℕ → List ℕ → Header → Type 0
CutsFindIt file new h =
    (wanted : Option ℕ) (sieve : Sieve) → wanted_image wanted file ≡ Ok h → HasNinePlaces sieve → IsSieveOf (plan_in new h).shape sieve →
    (header_fault (Cut wanted sieve) new ≡ None) × (last_of (headers_for (Cut wanted sieve) new) ≡ header_now new h ∷ [])

-- a tile that had these numbers has them, or, if it has a pixel in the box, its new ones
abbrev pub HasOldOrNew : List ℕ → List ℕ → Header → Given → ℕ → List ℤ → Type 0
HasOldOrNew file new h g t xs =
    RowStandsFor new (header_now new h) t xs
    ⊎ (Contains (box_tiles (plan_in file h) g) t × RowStandsFor new (header_now new h) t (new_numbers (plan_in file h) g t xs))

-- What a file has after some of the writes: it is safe to read.
pub record IsSafeNow (file new : List ℕ) (h : Header) (g : Given) : Type 0 where
  pub cuts : CutsStillPass file new
  pub found : CutsFindIt file new h
  pub tiles : (t : ℕ) (xs : List ℤ) → t < tiles_in (plan_in file h) → RowStandsFor file h t xs → HasOldOrNew file new h g t xs

-- all tiles that had numbers have their old ones
abbrev pub AreAllOld : List ℕ → List ℕ → Header → Type 0
AreAllOld file new h = (t : ℕ) (xs : List ℤ) → t < tiles_in (plan_in file h) → RowStandsFor file h t xs → RowStandsFor new (header_now new h) t xs

-- the bytes of a file that no write has a place for are as they were
abbrev pub KeepsOthers : List Amend → List ℕ → List ℕ → Type 0
KeepsOthers ws file new = (i : ℕ) → i < length file → All (IsOutside i) ws → slice_index new i ≡ slice_index file i

-- After so many of the writes the file is safe; while no row is written all tiles have their old numbers; and bytes outside the writes stay.
pub record IsSafeAfter (file : List ℕ) (h : Header) (g : Given) (steps : Steps) (n : ℕ) : Type 0 where
  pub safe : IsSafeNow file (applied (take n (all_writes steps)) file) h g
  pub old : n ≤ length (before_rows steps) → AreAllOld file (applied (take n (all_writes steps)) file) h
  pub others : KeepsOthers (all_writes steps) file (applied (take n (all_writes steps)) file)

-- ---- what a loss of power leaves

-- The writes of one step, and those of all steps before it: each step is on the disk before the next one begins. In the first two, of the codes
-- and of the cards, no row is written; then come the rows, and then the checksums.
abbrev pub IsStepBeforeRows : Steps → List Amend → List Amend → Type 0
IsStepBeforeRows s before within = ((before ≡ []) × (within ≡ s.heap)) ⊎ ((before ≡ s.heap) × (within ≡ s.pcount ++ s.forms))

abbrev pub IsStepFromRows : Steps → List Amend → List Amend → Type 0
IsStepFromRows s before within = ((before ≡ before_rows s) × (within ≡ s.rows)) ⊎ ((before ≡ before_sums s) × (within ≡ s.sums))

abbrev pub IsStep : Steps → List Amend → List Amend → Type 0
IsStep s before within = IsStepBeforeRows s before within ⊎ IsStepFromRows s before within

-- those of some writes that are kept, by a flag for each; of writes without a flag none is
abbrev pub picked : List Bool → List Amend → List Amend
picked [] ws = []
picked (keeps ∷ flags) [] = []
picked (keeps ∷ flags) (w ∷ ws) = if keeps then w ∷ picked flags ws else picked flags ws

-- After all steps before one, and any of the writes of that, the file is safe; while no row is written all tiles have their old numbers; and
-- bytes outside the writes stay.
pub record IsSafeAmid (file : List ℕ) (h : Header) (g : Given) (steps : Steps) (before within : List Amend) (flags : List Bool) : Type 0 where
  pub safe : IsSafeNow file (applied (before ++ picked flags within) file) h g
  pub old : IsStepBeforeRows steps before within → AreAllOld file (applied (before ++ picked flags within) file) h
  pub others : KeepsOthers (all_writes steps) file (applied (before ++ picked flags within) file)
