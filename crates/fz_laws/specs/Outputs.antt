-- What comes out of a packed file is a file again: the file that it stands for, and a cutout (FITS 4.0, sections 3.1, 3.3 and 4.4.1).
use Rattle.std.specs.Prelude.{ℕ, ◌≡◌, ◌+◌, ◌-◌, ◌^◌, ◌≤◌, false, ℤ, List, [], ◌∷◌, ◌++◌, length, Option, None, Ok}
use Rattle.std.specs.List.{list_any}
use Rattle.fz_block.specs.Checks.{headers_of}
use Rattle.fz_block.specs.Facts.{nine_axes}
use Rattle.fz_block.specs.declared.header.Header.{Header}
use Rattle.fz_block.specs.declared.header.Sort.TheVariants.{Primary}
use Rattle.fz_grid.specs.Sieve.{sieve_lengths}
use Rattle.fz_grid.specs.declared.sieve.Sieve.{Sieve}
use Rattle.fz_files.specs.CutoutBytes.{IsCutout}
use Rattle.fz_files.specs.FirstFault.{IsFirstFault}
use Rattle.fz_files.specs.Picks.{HasNinePlaces, HasPicks}
use Rattle.fz_files.specs.Restored.{is_image, plan_in, standing}
use Rattle.fz_files.specs.StandsFor.{StandsFor}
use Rattle.fz_files.specs.Walks.{headers_for}
use Rattle.fz_files.specs.declared.job.Job.TheVariants.{Unpack, Verify, List as ListHdus}

-- the HDUs of a file pass the checks that all jobs have in common, one after another up to its end, and there are at most 65,536
abbrev pub IsFound : List ℕ → Type 0
IsFound bytes = (hs : List Header) × (headers_of 65536 bytes ≡ Ok hs)

-- A file without a packed image, in which `unpack`, `verify` and `list` find no fault.
pub record IsPlain (bytes : List ℕ) : Type 0 where
  pub images : list_any (is_image bytes) (headers_for Unpack bytes) ≡ false
  pub unpack : IsFirstFault Unpack bytes None
  pub verify : IsFirstFault Verify bytes None
  pub list : IsFirstFault ListHdus bytes None

-- the file that a packed file stands for is found, if it has at most 2^62 bytes
abbrev pub RestoredIsFound : Type 0
RestoredIsFound = (file bytes : List ℕ) → StandsFor file bytes → length bytes ≤ 2 ^ 62 → IsFound bytes

-- and it is a plain file
abbrev pub RestoredIsPlain : Type 0
RestoredIsPlain = (file bytes : List ℕ) → StandsFor file bytes → length bytes ≤ 2 ^ 62 → IsPlain bytes

-- how many HDUs of a packed file stand for nothing: the primary before a packed primary, if there is one
abbrev pub left_out : List ℕ → List Header → ℕ
left_out file hs = length hs - length (standing file hs)

-- it has as many HDUs as those of the packed file that stand for something
abbrev pub RestoredCount : Type 0
RestoredCount =
    (file bytes : List ℕ) → StandsFor file bytes → length bytes ≤ 2 ^ 62 → (hs : List Header) → headers_of 65536 bytes ≡ Ok hs
    → length hs ≡ length (standing file (headers_for Unpack file))

-- an HDU that stands for something has the number of those before it that do, and one more if a primary stands for nothing
abbrev pub PackedNumbers : Type 0
PackedNumbers =
    (file : List ℕ) → IsFirstFault Unpack file None → (earlier later : List Header) (h : Header) →
    standing file (headers_for Unpack file) ≡ earlier ++ h ∷ later →
    h.hdu ≡ length earlier + left_out file (headers_for Unpack file)

-- The only HDU of a file, a primary image: BITPIX, and the lengths of its axes.
pub record IsOnePrimary (bytes : List ℕ) (size : ℤ) (lengths : List ℕ) : Type 0 where
  pub header : Header
  pub found : headers_of 65536 bytes ≡ Ok (header ∷ [])
  pub sort : header.sort ≡ Primary
  pub bitpix : header.bitpix ≡ size
  pub axes : header.axes ≡ nine_axes lengths

-- a cutout is one primary image, with the BITPIX of the image that it is cut from, and along each axis as many pixels as picks
abbrev pub CutoutIsFound : Type 0
CutoutIsFound =
    (wanted : Option ℕ) (sieve : Sieve) (file bytes : List ℕ) → HasNinePlaces sieve → HasPicks sieve →
    (cut : IsCutout wanted sieve file bytes) → length bytes ≤ 2 ^ 62 →
    IsOnePrimary bytes (plan_in file cut.header).bitpix (sieve_lengths sieve)

-- and it is a plain file
abbrev pub CutoutIsPlain : Type 0
CutoutIsPlain =
    (wanted : Option ℕ) (sieve : Sieve) (file bytes : List ℕ) → HasNinePlaces sieve → HasPicks sieve → IsCutout wanted sieve file bytes
    → length bytes ≤ 2 ^ 62 → IsPlain bytes
