-- The first card is SIMPLE.
use Rattle.fz_cut.proofs.Beginnings.{part_begins}
use Rattle.fz_cut.proofs.law.parts_law.Goals as goal

pub returns : goal.returns
returns c = λ file h sieve bytes part. part_begins c.card_laws.ensures.numbers.other_stem c.first_of_name_law.ensures.found sieve file h bytes part
