-- Zeros from the table's place on.
use Rattle.fz_look.proofs.Marking.{no_marks}
use Rattle.fz_look.proofs.marked.clear_table.Goals as goal

pub returns-clause-none : goal.returns-clause-none
returns-clause-none c =
    no_marks c.args.numbers.now c.clear.new.places c.largest_table_at-at.result c.largest_table_at-at.ensures.place c.clear.ensures.len c.clear.ensures.zeros
