-- The part that is cut from a packed image, as a file (FITS 4.0, sections 3.3.2, 4.4.1.1 and 10.1).
use Rattle.std.specs.Prelude.{ℕ, ◌≡◌, ℤ, List, Option, Some}
use Rattle.fz_base.specs.declared.fault.Fault.{Fault}
use Rattle.fz_block.specs.Hdus.{cards_of}
use Rattle.fz_block.specs.declared.header.Header.{Header}
use Rattle.fz_grid.specs.declared.sieve.Sieve.{Sieve}
use Rattle.fz_files.specs.Cutout.{AreCutFrom}
use Rattle.fz_files.specs.CutoutBytes.{cutout_bytes}
use Rattle.fz_files.specs.FirstFault.{IsFirstRowFault, picked_rows}
use Rattle.fz_files.specs.Restored.{header_in, plan_in}
use Rattle.fz_job.specs.Behind.{written_behind}

-- these bytes are the part that a sieve picks from the packed image with this header
pub record IsPartOf (file : List ℕ) (h : Header) (sieve : Sieve) (bytes : List ℕ) : Type 0 where
  pub numbers : List ℤ
  pub cut : AreCutFrom file h sieve numbers
  pub made : bytes ≡ cutout_bytes (plan_in file h) (cards_of (header_in file h)) sieve numbers

-- the part was written, but for its byte 0, which comes last
pub record HoldsPart (file : List ℕ) (h : Header) (sieve : Sieve) (before now : Option (List ℕ)) : Type 0 where
  pub bytes : List ℕ
  pub is : IsPartOf file h sieve bytes
  pub contents : now ≡ written_behind 0 bytes before

-- the first fault of the rows of the tiles that hold a pick
abbrev pub IsPickFault : List ℕ → Header → Sieve → Fault → Type 0
IsPickFault file h sieve x = IsFirstRowFault file (picked_rows file sieve h) (Some x)
