-- What is said of each job that a target is found for.
use Rattle.std.specs.Prelude.{ℕ, ◌≡◌, ◌⊎◌, ◌≤◌, ◌^◌, List, length, Option, Result, Ok}
use Rattle.fz_base.specs.Source.{Reads}
use Rattle.fz_base.specs.Stop.{IfRefused}
use Rattle.fz_base.specs.declared.failure.Stop.{Stop}
use Rattle.fz_block.specs.Checks.{headers_of}
use Rattle.fz_block.specs.Facts.{IsHeaderOf}
use Rattle.fz_block.specs.Header.{next_start_of}
use Rattle.fz_block.specs.declared.header.Header.{Header}
use Rattle.fz_block.specs.declared.next.ReadHeader.{ReadHeader}
use Rattle.fz_laws.specs.PatchChecks.{patch_target, wanted_image}
use Rattle.fz_laws.specs.Given.{PatchJob}
use Rattle.fz_target.specs.Steps.{ComesInWork}
use Rattle.fz_target.specs.Targets.{IsGivenTo, job_at}
use Rattle.fz_target.specs.Told.{IfBoth}
use Rattle.fz_target.specs.declared.target.Target.{Target}

-- If both files show their bytes: of each job that puts PATCH there, and for which no check before the rows refuses.
abbrev pub ForJobs : Option (List ℕ) → Option (List ℕ) → Target → (PatchJob → List ℕ → List ℕ → Type 0) → Type 0
ForJobs held given t P =
    IfBoth held given (λ file patch. (wanted : Option ℕ) (corner : List ℕ) → IsGivenTo corner patch t →
    patch_target file patch (job_at wanted corner) ≡ Ok t.header → P (job_at wanted corner) file patch)

-- No header of the file is refused, and this is that of the HDU that is wanted.
pub record IsWanted (wanted : Option ℕ) (h : Header) (file : List ℕ) : Type 0 where
  pub headers : List Header
  pub passes : headers_of 65536 file ≡ Ok headers
  pub found : wanted_image wanted file ≡ Ok h

-- A refusal that comes after some writes is that of a row of the image that is wanted, or of its HDU, of which other bytes came than before.
abbrev pub NamesWanted : {X : Type 0} → Option ℕ → Type 0 → List ℕ → Result X Stop → Type 0
NamesWanted wanted Same file result = IfRefused result (λ x. Same ⊎ ((h : Header) × IsWanted wanted h file × ComesInWork h.hdu x))

-- The header of the HDU that begins there, read once more.
pub record IsReadAgain (held : Option (List ℕ)) (len : ℕ) (found : Header) (r : ReadHeader) : Type 0 where
  pub is_header : IsHeaderOf r.bytes r.facts
  pub hdu : r.facts.hdu ≡ found.hdu
  pub start : r.facts.start ≡ found.start
  pub bytes : Reads held found.start r.bytes
  pub within : next_start_of r.facts ≤ len
  pub near : next_start_of r.facts ≤ 2 ^ 62
  pub short : length r.bytes ≤ 737280
