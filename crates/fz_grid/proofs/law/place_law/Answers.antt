use Rattle.fz_grid.proofs.BoxLemmas.{box_digits, places_length}
use Rattle.fz_grid.proofs.WholeLemmas.{back_of, inside_of, there_of}
use Rattle.fz_grid.proofs.law.place_law.Goals as goal

pub returns-clause-inside : goal.returns-clause-inside
returns-clause-inside c = inside_of

pub returns-clause-coordinates : goal.returns-clause-coordinates
returns-clause-coordinates c = back_of

pub returns-clause-numbers : goal.returns-clause-numbers
returns-clause-numbers c = there_of

pub returns-clause-order : goal.returns-clause-order
returns-clause-order c = box_digits

pub returns-clause-pixels : goal.returns-clause-pixels
returns-clause-pixels c = places_length
