use Rattle.std.proofs.Common.{◌≡◌, ◌==◌, false, arith}
use Rattle.std.proofs.lemmas.Bool.Decides.{nat_tests}
use Rattle.fz_table.specs.Columns.{columns_len}
use Rattle.fz_table.specs.Tables.{row_len_of}
use Rattle.fz_table.proofs.Tables.{wrong_width}
use Rattle.fz_table.proofs.checks.row_len.Goals as goal

pub returns-else-branch-from-clause-exact : goal.returns-else-branch-from-clause-exact
returns-else-branch-from-clause-exact c =
    let header = c.args.buf.now in
    let h = c.args.header.now in
    let other : (columns_len header c.args.fields == row_len_of h) ≡ false = grind (arith, nat_tests, c.in_ok-columns_len.ensures.len) in
    wrong_width header h c.args.fields c.bad_table.result c.requires.count.0 c.in_ok-columns_len.ensures.exact other c.bad_table.ensures
