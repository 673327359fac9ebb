-- The rows of an HDU that may be packed, and what is found of HDUs that were seen (FITS 4.0, sections 7.3.5 and 10.1).
use Rattle.std.specs.Prelude.{ℕ, ◌≡◌, ◌↔◌, Bool, true, List, [], ◌∷◌, Some, None, Result, Ok, Err, ⊤}
use Rattle.fz_base.specs.declared.fault.Fault.{Fault}
use Rattle.fz_base.specs.declared.failure.Stop.{Stop}
use Rattle.fz_base.specs.declared.failure.Stop.TheVariants.{Refused, ReadFault, WriteFault, OverLimit, NoMemory}
use Rattle.fz_block.specs.declared.header.Header.{Header}
use Rattle.fz_job.specs.Known.{IsKnown}
use Rattle.fz_files.specs.FirstFault.{IsFirstRowFault, all_rows}
use Rattle.fz_files.specs.declared.job.Job.TheVariants.{Unpack}
use Rattle.fz_head.specs.declared.options.PackOptions.{PackOptions}
use Rattle.fz_job.specs.declared.survey.Survey.{Survey}
use Rattle.fz_strict.specs.FoundOptions.{found_options}
use Rattle.fz_strict.specs.SameHdus.{HasSameHdus}

-- no row of the HDU is refused
abbrev pub IsHduSound : List ℕ → Header → Type 0
IsHduSound file h = IsFirstRowFault file (all_rows file (h ∷ [])) None

-- this is the first fault of its rows
abbrev pub IsHduFault : List ℕ → Header → Fault → Type 0
IsHduFault file h x = IsFirstRowFault file (all_rows file (h ∷ [])) (Some x)

-- After Ok no row of these HDUs is refused, and the answer is true if and only if each HDU is what `pack` makes by these options of what it
-- stands for. A refusal gives the first faulty row.
abbrev pub IsCompared : PackOptions → List ℕ → List Header → Result Bool Stop → Type 0
IsCompared o file hs (Ok same) = IsFirstRowFault file (all_rows file hs) None × ((same ≡ true) ↔ HasSameHdus o file)
IsCompared o file hs (Err (Refused x)) = IsFirstRowFault file (all_rows file hs) (Some x)
IsCompared o file hs (Err ReadFault) = ⊤
IsCompared o file hs (Err WriteFault) = ⊤
IsCompared o file hs (Err (OverLimit live asked limit)) = ⊤
IsCompared o file hs (Err NoMemory) = ⊤

-- the same of a file that the first look knows, by some options, and by those that its headers say
abbrev pub ComparesSeen : PackOptions → List ℕ → Survey → Result Bool Stop → Type 0
ComparesSeen o file s result = (known : IsKnown Unpack file s) → IsCompared o file known.headers result

abbrev pub ComparesFound : List ℕ → Survey → Result Bool Stop → Type 0
ComparesFound file s result = (known : IsKnown Unpack file s) → IsCompared (found_options file) file known.headers result
