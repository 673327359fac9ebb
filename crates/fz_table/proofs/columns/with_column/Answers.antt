use Rattle.std.proofs.Common.{◌++◌, ◌∙◌, rules}
use Rattle.fz_table.proofs.Refusals.{stopped}
use Rattle.fz_table.specs.Tables.{name_checks, coded_name, stored_name, gzip_name, tile_letters, gzip_letters}
use Rattle.fz_table.proofs.Places.{tile_bytes, gzip_bytes}
use Rattle.fz_table.proofs.Tables.{in_second, after_two}
use Rattle.fz_table.proofs.columns.with_column.Goals as goal

pub returns-in_err-named_column-clause-exact : goal.returns-in_err-named_column-clause-exact
returns-in_err-named_column-clause-exact c =
    let coded = name_checks coded_name tile_letters c.args.buf.now c.args.header.now c.args.i in
    let stored = name_checks stored_name tile_letters c.args.buf.now c.args.header.now c.args.i in
    let gzip = name_checks gzip_name gzip_letters c.args.buf.now c.args.header.now c.args.i in
    let first = stopped coded (stored ++ gzip) _ c.in_err-named_column.ensures.exact in
    search (rules, first)

pub returns-in_err-named_column-2-clause-exact : goal.returns-in_err-named_column-2-clause-exact
returns-in_err-named_column-2-clause-exact c =
    let coded = name_checks coded_name tile_letters c.args.buf.now c.args.header.now c.args.i in
    let stored = name_checks stored_name tile_letters c.args.buf.now c.args.header.now c.args.i in
    let gzip = name_checks gzip_name gzip_letters c.args.buf.now c.args.header.now c.args.i in
    let second = in_second coded stored gzip _ c.in_ok-named_column.ensures.exact c.in_err-named_column-2.ensures.exact in
    search (rules, second)

pub returns-in_err-named_column-3-clause-exact : goal.returns-in_err-named_column-3-clause-exact
returns-in_err-named_column-3-clause-exact c =
    let coded = name_checks coded_name tile_letters c.args.buf.now c.args.header.now c.args.i in
    let stored = name_checks stored_name tile_letters c.args.buf.now c.args.header.now c.args.i in
    let gzip = name_checks gzip_name gzip_letters c.args.buf.now c.args.header.now c.args.i in
    let third = after_two coded stored gzip c.in_ok-named_column.ensures.exact c.in_ok-named_column-2.ensures.exact ∙ c.in_err-named_column-3.ensures.exact in
    search (rules, third)

pub returns-clause-exact : goal.returns-clause-exact
returns-clause-exact c =
    let coded = name_checks coded_name tile_letters c.args.buf.now c.args.header.now c.args.i in
    let stored = name_checks stored_name tile_letters c.args.buf.now c.args.header.now c.args.i in
    let gzip = name_checks gzip_name gzip_letters c.args.buf.now c.args.header.now c.args.i in
    after_two coded stored gzip c.in_ok-named_column.ensures.exact c.in_ok-named_column-2.ensures.exact ∙ c.in_ok-named_column-3.ensures.exact

pub named_column-requires-clause-letters : goal.named_column-requires-clause-letters
named_column-requires-clause-letters c = tile_bytes

pub named_column-requires-2-clause-letters : goal.named_column-requires-2-clause-letters
named_column-requires-2-clause-letters c = tile_bytes

pub named_column-requires-3-clause-letters : goal.named_column-requires-3-clause-letters
named_column-requires-3-clause-letters c = gzip_bytes
