-- The packed file, written but for its byte 0, which comes last (FITS 4.0, section 4.4.1.1).
use Rattle.std.specs.Prelude.{ℕ, ◌≡◌, ◌+◌, ◌^◌, ◌≤◌, ◌<◌, Bool, true, false, List, [], ◌++◌, length, map, Option, Result, OnOk}
use Rattle.fz_base.specs.Stop.{IfRefused}
use Rattle.fz_base.specs.declared.failure.Stop.{Stop}
use Rattle.fz_block.specs.Hdus.{header_bytes}
use Rattle.fz_block.specs.Header.{next_start_of}
use Rattle.fz_block.specs.Walk.{hdu_of}
use Rattle.fz_block.specs.declared.header.Header.{Header}
use Rattle.fz_head.specs.EmptyPrimary.{empty_primary}
use Rattle.fz_head.specs.declared.options.PackOptions.{PackOptions}
use Rattle.fz_files.specs.Packed.{packed_hdu, packed_file}
use Rattle.fz_job.specs.Behind.{HoldsBytes, written_behind}
use Rattle.fz_pack.specs.Again.{WereSeen}

-- those that are before the table of an image, which was the primary or not
abbrev pub before_image : Bool → List ℕ
before_image true = header_bytes empty_primary
before_image false = []

-- the HDU of the packed file that an HDU of the file becomes was written
abbrev pub HoldsHdu : PackOptions → Header → List ℕ → ℕ → ℕ → Option (List ℕ) → Option (List ℕ) → Type 0
HoldsHdu o h file at end before now = HoldsBytes (packed_hdu o h.hdu (hdu_of file h)) at end before now

-- what an HDU becomes ends after byte 0, and is at most 2^46 bytes longer than the HDU
pub record EndsNear (h : Header) (at end : ℕ) : Type 0 where
  pub some : 0 < end
  pub near : end + h.start ≤ at + 2 ^ 46 + next_start_of h

-- The packed file of a file whose HDUs were seen was written, and no HDU was refused that was seen.
pub record RewritesSeen
    {X : Type 0} (o : PackOptions) (file : List ℕ) (header_len tile hdus : ℕ) (before now : Option (List ℕ))
    (result : Result X Stop) : Type 0 where
  pub packed : (hs : List Header) → WereSeen o file header_len tile 0 0 hs → length hs ≡ hdus
      → OnOk result (now ≡ written_behind 0 (packed_file o (map (hdu_of file) hs)) before)
  pub as_seen : (hs : List Header) → WereSeen o file header_len tile 0 0 hs → length hs ≡ hdus → IfRefused result (λ x. ⊥)

-- Of a file with these headers the HDUs before number k were written, and those from number k on begin at one byte.
pub record AreWritten (o : PackOptions) (file : List ℕ) (header_len tile : ℕ) (hs : List Header) (k start at : ℕ) (before now : Option (List ℕ)) : Type 0 where
  pub done : List Header
  pub rest : List Header
  pub parts : hs ≡ done ++ rest
  pub count : length done ≡ k
  pub seen : WereSeen o file header_len tile k start rest
  pub contents : now ≡ written_behind 0 (packed_file o (map (hdu_of file) done)) before
  pub place : at ≡ length (packed_file o (map (hdu_of file) done))

-- the same of a file with so many HDUs, if they were seen
abbrev pub IsUnderway : PackOptions → ℕ → ℕ → ℕ → ℕ → ℕ → ℕ → Option (List ℕ) → Option (List ℕ) → List ℕ → Type 0
IsUnderway o header_len tile hdus k start at before now file =
    (hs : List Header) → WereSeen o file header_len tile 0 0 hs → length hs ≡ hdus → AreWritten o file header_len tile hs k start at before now
