-- The output of `cut` (FITS 4.0, sections 4.4.1.1 and 10.1).
use Rattle.std.specs.Prelude.{ℕ, List, Option}
use Rattle.fz_grid.specs.declared.sieve.Sieve.{Sieve}
use Rattle.fz_files.specs.CutoutBytes.{IsCutout}
use Rattle.fz_job.specs.Clauses.{HoldsOutput}

-- the contents are the cutout of the HDU of the wanted number, or of the first packed one
abbrev pub HoldsCutout : Option ℕ → Sieve → Option (List ℕ) → Option (List ℕ) → Type 0
HoldsCutout wanted sieve held contents = HoldsOutput (IsCutout wanted sieve) held contents
