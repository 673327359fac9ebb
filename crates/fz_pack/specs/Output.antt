-- The output of `pack`.
use Rattle.std.specs.Prelude.{ℕ, List, Option}
use Rattle.fz_head.specs.declared.options.PackOptions.{PackOptions}
use Rattle.fz_files.specs.Packed.{IsPackedFile}
use Rattle.fz_job.specs.Clauses.{HoldsOutput}

-- the contents are the packed file of the bytes
abbrev pub HoldsPacked : PackOptions → Option (List ℕ) → Option (List ℕ) → Type 0
HoldsPacked o held contents = HoldsOutput (IsPackedFile o) held contents
