use Rattle.std.proofs.Common.{sym, ◌∙◌, arith, rules}
use Rattle.fz_table.proofs.Places.{other_name, this_name}
use Rattle.fz_table.proofs.columns.named_column.Goals as goal

pub returns-then-not-is_called-clause-found : goal.returns-then-not-is_called-clause-found
returns-then-not-is_called-clause-found c =
    other_name c.args.name.now c.args.buf.now c.args.i c.args.before (omega arith) (search rules) c.requires.before

pub returns-in-Some-clause-found : goal.returns-in-Some-clause-found
returns-in-Some-clause-found c =
    this_name c.args.name.now c.args.letters.now c.args.buf.now c.args.i c.args.at c.in-Some.form c.column_of.result c.requires.letters (omega arith) (search rules) c.requires.at (sym c.form_of.ensures.form ∙ c.in-Some.is) (search rules) c.column_of.ensures
