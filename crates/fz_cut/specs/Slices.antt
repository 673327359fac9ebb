-- A cutout is a slice of what the packed file stands for (FITS 4.0, sections 3.3.2, 4.4.1.1 and 10.1).
use Rattle.std.specs.Prelude.{ℕ, ◌≡◌, List, [], ◌∷◌, ◌++◌, Option}
use Rattle.fz_block.specs.Hdus.{cards_of, header_bytes}
use Rattle.fz_block.specs.declared.header.Header.{Header}
use Rattle.fz_grid.specs.Arrays.{NumberArray}
use Rattle.fz_grid.specs.declared.sieve.Sieve.{Sieve}
use Rattle.fz_grid.specs.Cutout.{picked_numbers}
use Rattle.fz_tile.specs.Plain.{plain_bytes}
use Rattle.fz_files.specs.CutoutBytes.{IsCutout, cutout_cards}
use Rattle.fz_files.specs.Packed.{pixel_bits, zero_filled}
use Rattle.fz_files.specs.Restored.{HdusStandFor, RowsStandFor, header_in, image_bytes, plan_in, standing}
use Rattle.fz_files.specs.StandsFor.{StandsFor}
use Rattle.fz_files.specs.Walks.{headers_for, last_of}
use Rattle.fz_files.specs.declared.job.Job.TheVariants.{Cut, Unpack}
use Rattle.fz_job.specs.Clauses.{HoldsOutput}
use Rattle.fz_cut.specs.Output.{HoldsCutout}

-- The image of the packed HDU with this header has these numbers, axis 1 fastest, and is in the restored file after what the HDUs
-- before it stand for.
pub record HasImage (file restored : List ℕ) (h : Header) (a : NumberArray) : Type 0 where
  pub rows : RowsStandFor file h a
  pub earlier : List Header
  pub later : List Header
  pub hdus : standing file (headers_for Unpack file) ≡ earlier ++ h ∷ later
  pub before : List ℕ
  pub behind : List ℕ
  pub front : HdusStandFor file earlier before
  pub back : HdusStandFor file later behind
  pub parts : restored ≡ before ++ (image_bytes (plan_in file h) (cards_of (header_in file h)) a ++ behind)

-- The data of a part are the numbers of that image at the picks of a sieve, axis 1 fastest.
pub record IsSliceOf (wanted : Option ℕ) (sieve : Sieve) (file restored part : List ℕ) : Type 0 where
  pub header : Header
  pub last : last_of (headers_for (Cut wanted sieve) file) ≡ header ∷ []
  pub array : NumberArray
  pub image : HasImage file restored header array
  pub numbers :
      part ≡ header_bytes (cutout_cards sieve (cards_of (header_in file header)))
      ++ zero_filled (plain_bytes (pixel_bits (plan_in file header)) (picked_numbers array sieve))

-- for every file that a packed file stands for, a cutout is a slice of it
abbrev pub CutoutsAreSlices : Sieve → Type 0
CutoutsAreSlices sieve =
    (wanted : Option ℕ) (file restored part : List ℕ) → StandsFor file restored → IsCutout wanted sieve file part → IsSliceOf wanted sieve file restored part

-- the contents are a slice of every file that the bytes of the source stand for
abbrev pub HoldsSlice : Option ℕ → Sieve → Option (List ℕ) → Option (List ℕ) → Type 0
HoldsSlice wanted sieve held contents =
    HoldsOutput (λ file part. (restored : List ℕ) → StandsFor file restored → IsSliceOf wanted sieve file restored part) held contents

-- and so is what a cut leaves in its sink
abbrev pub SinksHoldSlices : Sieve → Type 0
SinksHoldSlices sieve = (wanted : Option ℕ) (held contents : Option (List ℕ)) → HoldsCutout wanted sieve held contents → HoldsSlice wanted sieve held contents
