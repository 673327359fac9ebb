-- The output of `unpack`.
use Rattle.std.specs.Prelude.{ℕ, List, Option}
use Rattle.fz_files.specs.StandsFor.{StandsFor}
use Rattle.fz_job.specs.Clauses.{HoldsOutput}

-- the contents are a file that the bytes stand for
abbrev pub HoldsRestored : Option (List ℕ) → Option (List ℕ) → Type 0
HoldsRestored held contents = HoldsOutput StandsFor held contents
