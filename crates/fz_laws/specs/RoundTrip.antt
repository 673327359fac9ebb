-- Packing and unpacking again (FITS 4.0, section 10.1).
use Rattle.std.specs.Prelude.{ℕ, suc, ◌≡◌, ◌^◌, ◌<◌, ◌≤◌, ◌↔◌, true, false, List, [], ◌∷◌, length, Option, None, Ok, All}
use Rattle.std.specs.List.{list_any}
use Rattle.fz_base.specs.declared.fault.Fault.{Fault}
use Rattle.fz_block.specs.Checks.{headers_of}
use Rattle.fz_block.specs.Facts.{facts_of}
use Rattle.fz_block.specs.Hdus.{AreHdusOf, Hdu, cards_of}
use Rattle.fz_block.specs.Walk.{hdu_of}
use Rattle.fz_block.specs.declared.header.Header.{Header}
use Rattle.fz_grid.specs.declared.sieve.Sieve.{Sieve}
use Rattle.fz_sum.specs.Verdicts.{checksum_verdict, datasum_verdict}
use Rattle.fz_sum.specs.declared.verdicts.Verdict.TheVariants.{Right}
use Rattle.fz_tile.specs.Plain.{AreBytes}
use Rattle.fz_head.specs.Packable.{is_packable}
use Rattle.fz_head.specs.declared.options.PackOptions.{PackOptions}
use Rattle.fz_files.specs.CutoutBytes.{IsCutout}
use Rattle.fz_files.specs.FirstFault.{IsFirstFault}
use Rattle.fz_files.specs.Packed.{IsPackedFile}
use Rattle.fz_files.specs.Restored.{RowsStandFor, is_image}
use Rattle.fz_files.specs.StandsFor.{IsProfileFile, StandsFor}
use Rattle.fz_files.specs.Walks.{headers_for}
use Rattle.fz_files.specs.declared.job.Job.{Job}
use Rattle.fz_files.specs.declared.job.Job.TheVariants.{Cut, Pack, Unpack, Verify}
use Rattle.fz_files.specs.Decided.{first_fault}
use Rattle.fz_files.specs.RestoredFile.{image_array, restored}

-- ---- first faults

-- every file of bytes has a first fault or none, which its bytes say
abbrev pub HasFirstFault : Type 0
HasFirstFault = (job : Job) (file : List ℕ) → AreBytes file → IsFirstFault job file (first_fault job file)

-- and no file has another
abbrev pub HasNoOtherFault : Type 0
HasNoOtherFault = (job : Job) (file : List ℕ) (found : Option Fault) → IsFirstFault job file found → found ≡ first_fault job file

-- ---- packed files

-- a file in which `pack` finds no fault has a packed file
abbrev pub HasPackedFile : Type 0
HasPackedFile = (o : PackOptions) (file : List ℕ) → IsFirstFault (Pack o) file None → (bytes : List ℕ) × IsPackedFile o file bytes

-- and every file has at most one
abbrev pub HasOnePackedFile : Type 0
HasOnePackedFile = (o : PackOptions) (file bytes other : List ℕ) → IsPackedFile o file bytes → IsPackedFile o file other → bytes ≡ other

-- the same options with this number of workers
abbrev pub with_workers : ℕ → PackOptions → PackOptions
with_workers n o = record o { workers = n }

-- it does not depend on the number of workers
abbrev pub WorkersDoNotMatter : Type 0
WorkersDoNotMatter = (o : PackOptions) (n : ℕ) (file bytes : List ℕ) → IsPackedFile o file bytes ↔ IsPackedFile (with_workers n o) file bytes

-- no HDU from number k on can be packed
abbrev pub NoneIsPackable : ℕ → List Hdu → Type 0
NoneIsPackable k [] = Unit {0}
NoneIsPackable k (h ∷ hs) = (is_packable (facts_of k 0 h.header) ≡ false) × NoneIsPackable (suc k) hs

-- a file of which no HDU can be packed is its own packed file
abbrev pub PackCopies : Type 0
PackCopies = (o : PackOptions) (file : List ℕ) (hdus : List Hdu) → AreHdusOf file hdus → NoneIsPackable 0 hdus → IsPackedFile o file file

-- these bytes, of which there are at most 2^62, are the packed file of a file that `pack` takes with these options
pub record IsPacked (o : PackOptions) (file bytes : List ℕ) : Type 0 where
  pub taken : IsProfileFile o file
  pub packed : IsPackedFile o file bytes
  pub few : length bytes ≤ 2 ^ 62

-- every HDU of a packed file passes the checks of every job, and there are at most 65,536
abbrev pub PackedIsFound : Type 0
PackedIsFound = (o : PackOptions) (file bytes : List ℕ) → IsPacked o file bytes → (hs : List Header) × (headers_of 65536 bytes ≡ Ok hs)

-- ---- the files that packed files stand for

-- a packed file in which `unpack` finds no fault stands for a file
abbrev pub HasRestoredFile : Type 0
HasRestoredFile = (file : List ℕ) → IsFirstFault Unpack file None → (other : List ℕ) × StandsFor file other

-- which is the one that its bytes say
abbrev pub StandsForRestored : Type 0
StandsForRestored = (file : List ℕ) → IsFirstFault Unpack file None → StandsFor file (restored file)

-- and no other
abbrev pub StandsForNoOther : Type 0
StandsForNoOther = (file other : List ℕ) → StandsFor file other → other ≡ restored file

-- a file of bytes stands for another exactly if `first_fault` gives none for `unpack`, and the other is `restored` of it
abbrev pub StandsForExactly : Type 0
StandsForExactly = (file other : List ℕ) → AreBytes file → StandsFor file other ↔ ((first_fault Unpack file ≡ None) × (other ≡ restored file))

-- the rows of each of its packed images stand for the array that its bytes say
abbrev pub ImageArraysStand : Type 0
ImageArraysStand = (file : List ℕ) → IsFirstFault Unpack file None →
    All (λ h. is_image file h ≡ true → RowsStandFor file h (image_array file h)) (headers_for Unpack file)

-- what a file of bytes stands for are bytes
abbrev pub RestoredAreBytes : Type 0
RestoredAreBytes = (file restored : List ℕ) → AreBytes file → StandsFor file restored → AreBytes restored

-- a file without a packed image stands for itself
abbrev pub UnpackCopies : Type 0
UnpackCopies = (file : List ℕ) → IsFirstFault Unpack file None → list_any (is_image file) (headers_for Unpack file) ≡ false → StandsFor file file

-- ---- the way there and back

-- the packed file of a file that `pack` takes stands for the file
abbrev pub ComesBack : Type 0
ComesBack = (o : PackOptions) (file bytes : List ℕ) → IsProfileFile o file → IsPackedFile o file bytes → length bytes ≤ 2 ^ 62 → StandsFor bytes file

-- so what the packed file stands for is the file only
abbrev pub OnlyTheFileComesBack : Type 0
OnlyTheFileComesBack =
    (o : PackOptions) (file bytes other : List ℕ) → IsProfileFile o file → IsPackedFile o file bytes → length bytes ≤ 2 ^ 62
    → StandsFor bytes other → other ≡ file

-- and two files with one packed file are one file, whatever options they were packed by
abbrev pub LosesNothing : Type 0
LosesNothing = (o p : PackOptions) (file other bytes : List ℕ) → IsPacked o file bytes → IsPacked p other bytes → file ≡ other

-- two packed files of one file stand for the same file, whatever options it was packed by
abbrev pub OptionsDoNotMatter : Type 0
OptionsDoNotMatter =
    (o p : PackOptions) (file bytes others back again : List ℕ) → IsPacked o file bytes → IsPacked p file others → StandsFor bytes back →
    StandsFor others again → back ≡ again

-- ---- cutouts

-- a packed file in which `cut` finds no fault has a cutout
abbrev pub HasCutout : Type 0
HasCutout =
    (wanted : Option ℕ) (sieve : Sieve) (file : List ℕ) → IsFirstFault (Cut wanted sieve) file None
    → (bytes : List ℕ) × IsCutout wanted sieve file bytes

-- ---- sums

-- DATASUM and CHECKSUM of an HDU of the file are right, if it is the table of a packed image
abbrev pub AreRightSums : List ℕ → Header → Type 0
AreRightSums file h =
    let hdu = hdu_of file h in
    is_image file h ≡ true
    → (datasum_verdict (cards_of hdu.header) hdu.payload ≡ Right) × (checksum_verdict (cards_of hdu.header) hdu.header hdu.payload ≡ Right)

-- both sums of each table of a packed file are right, if the options ask for sums
abbrev pub SumsAreRight : Type 0
SumsAreRight = (o : PackOptions) (file bytes : List ℕ) → IsPacked o file bytes → o.sums ≡ true → All (AreRightSums bytes) (headers_for Verify bytes)
