-- The cutout, written whole, or cut short (FITS 4.0, section 4.4.1.1).
use Rattle.std.specs.Prelude.{ℕ, ◌⊎◌, List, ◌∷◌, Option, None, IfSome, Result, OnOk, OnErr, IsErrOf}
use Rattle.fz_base.specs.FirstByte.{IsShut}
use Rattle.fz_base.specs.Stop.{IfRefused}
use Rattle.fz_base.specs.declared.failure.Stop.{Stop}
use Rattle.fz_base.specs.declared.failure.Stop.TheVariants.{WriteFault, NoMemory}
use Rattle.fz_block.specs.declared.header.Header.{Header}
use Rattle.fz_grid.specs.declared.sieve.Sieve.{Sieve}
use Rattle.fz_files.specs.Cutout.{header_range}
use Rattle.fz_files.specs.FirstFault.{IsFirstRowFault, picked_rows}
use Rattle.fz_files.specs.Walks.{box_of}
use Rattle.fz_cut.specs.Again.{WasSeen}
use Rattle.fz_cut.specs.Part.{IsPartOf, IsPickFault}
use Rattle.fz_cut.specs.Picks.{picked_ranges}

-- shown contents are the part that a sieve picks from the HDU with this header
abbrev pub IsPart : List ℕ → Header → Sieve → Option (List ℕ) → Type 0
IsPart file h sieve contents = IfSome contents (IsPartOf file h sieve)

-- The part of an HDU that was seen was written, and no row of its tiles that hold a pick is refused; or the first faulty one is, and not
-- the HDU.
pub record FinishesSeen
    {X : Type 0} (file : List ℕ) (sieve : Sieve) (header_len tile : ℕ) (h : Header) (now : Option (List ℕ))
    (result : Result X Stop) : Type 0 where
  pub part : WasSeen file (box_of sieve) header_len tile h → OnOk result (IsPart file h sieve now)
  pub sound : WasSeen file (box_of sieve) header_len tile h → OnOk result (IsFirstRowFault file (picked_rows file sieve h) None)
  pub first_fault : WasSeen file (box_of sieve) header_len tile h → IfRefused result (IsPickFault file h sieve)

-- after an error the contents are shut, or they are the part, of which byte 0 came last
abbrev pub IsShutOrPart : {X : Type 0} → Option (List ℕ) → Sieve → ℕ → ℕ → Header → Option (List ℕ) → Result X Stop → Type 0
IsShutOrPart held sieve header_len tile h now result =
    OnErr result (IsShut now
    ⊎ (IfSome held (λ file. WasSeen file (box_of sieve) header_len tile h → IsPart file h sieve now) × (IsErrOf result WriteFault ⊎ IsErrOf result NoMemory)))

-- the ranges of the file that the work after the first look may read: the header once more, and the rows and records of the tiles that
-- hold a pick
abbrev pub work_ranges : List ℕ → Sieve → Header → List (ℕ × ℕ)
work_ranges file sieve h = header_range file (record { hdu = h.hdu; start = h.start }) ∷ picked_ranges file h sieve
