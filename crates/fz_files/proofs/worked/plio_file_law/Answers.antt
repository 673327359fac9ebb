-- The law, by computing.
use Rattle.fz_files.proofs.PlioFileLemmas.{tiles_are, rows_are, heap_is, is_planned, cards_are, is_packed}
use Rattle.fz_files.proofs.worked.plio_file_law.Goals as goal

pub returns-clause-plan : goal.returns-clause-plan
returns-clause-plan c = is_planned

pub returns-clause-tiles : goal.returns-clause-tiles
returns-clause-tiles c = tiles_are

pub returns-clause-rows : goal.returns-clause-rows
returns-clause-rows c = rows_are

pub returns-clause-heap : goal.returns-clause-heap
returns-clause-heap c = heap_is

pub returns-clause-cards : goal.returns-clause-cards
returns-clause-cards c = cards_are

pub returns-clause-file : goal.returns-clause-file
returns-clause-file c = is_packed
