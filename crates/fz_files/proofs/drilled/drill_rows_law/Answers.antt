-- The law, by computing.
use Rattle.fz_files.proofs.DrillLemmas.{codes_are, later_is, lines_are}
use Rattle.fz_files.proofs.drilled.drill_rows_law.Goals as goal

pub returns : goal.returns
returns c = record { tiles = codes_are; lines = lines_are; later = later_is }
