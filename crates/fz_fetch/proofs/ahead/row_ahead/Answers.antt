-- A row that was read is at its place; one that is read by itself is read by its descriptors.
use Rattle.std.proofs.Common.{◌≡◌, ℕ, List, [], Option, IfSome, refl, sym, subst, arith}
use Rattle.std.specs.List.{range_with_len}
use Rattle.fz_table.specs.Reads.{row_reads}
use Rattle.fz_table.specs.Rows.{row_at}
use Rattle.fz_fetch.specs.Ahead.{IsAhead}
use Rattle.fz_fetch.specs.Rows.{rows_ranges}
use Rattle.fz_fetch.proofs.ReadAhead.{row_in_all}
use Rattle.fz_fetch.proofs.Reading.{logs_in}
use Rattle.fz_fetch.proofs.ahead.row_ahead.Goals as goal

-- ---- a row that the descriptors do not fill is read by itself

pub returns-then-not-is_filled-clause-ahead : goal.returns-then-not-is_filled-clause-ahead
returns-then-not-is_filled-clause-ahead g c =
    subst (λ (h : Option (List ℕ)). IsAhead h c.args.table.now c.args.buf.now c.args.ahead.now) (sym c.read_row.ensures.source.held_is) c.requires.ahead

pub returns-then-not-is_filled-clause-read : goal.returns-then-not-is_filled-clause-read
returns-then-not-is_filled-clause-read g c =
    let t = c.args.table.now in
    logs_in c.ranges_law.ensures.some c.ranges_law.ensures.all (row_reads t c.args.tile) (rows_ranges t (range_with_len 0 t.rows))
    (g.S.Source.ranges c.args.source.now) (g.S.Source.ranges c.read_row.new.source)
    c.read_row.result (λ byte lies. row_in_all t c.args.tile byte c.requires.tile (c.row_reads_law.ensures t c.args.tile byte lies)) c.read_row.ensures.read

-- ---- one that was read

pub row_here-requires-clause-ahead : goal.row_here-requires-clause-ahead
row_here-requires-clause-ahead g c = (g.S.Source.held c.args.source.now, c.requires.ahead)

pub returns-then-has_row-clause-exact : goal.returns-then-has_row-clause-exact
returns-then-has_row-clause-exact g c = c.row_here.ensures.told (g.S.Source.held c.args.source.now) c.requires.ahead

pub returns-then-has_row-clause-read : goal.returns-then-has_row-clause-read
returns-then-has_row-clause-read g c =
    let t = c.args.table.now in
    let old = g.S.Source.ranges c.args.source.now in
    c.ranges_law.ensures.all [] (rows_ranges t (range_with_len 0 t.rows)) old old (λ byte lies. elim lies [ ]) refl

-- ---- one that is read with those after it

pub row_here-requires-2-clause-ahead : goal.row_here-requires-2-clause-ahead
row_here-requires-2-clause-ahead g c = (g.S.Source.held c.read_rows_on.new.source, c.in_ok-read_rows_on.ensures.ahead)

pub row_here-requires-2-clause-here : goal.row_here-requires-2-clause-here
row_here-requires-2-clause-here g c = let here = c.in_ok-read_rows_on.ensures.here in (omega (arith, here.0), omega (arith, here.0, here.1))

pub returns-clause-exact : goal.returns-clause-exact
returns-clause-exact g c =
    subst (λ (h : Option (List ℕ)). IfSome h (λ file. c.row_here-2.result ≡ row_at file c.args.table.now c.args.tile)) c.in_ok-read_rows_on.ensures.stays.0.held_is
    (c.row_here-2.ensures.told (g.S.Source.held c.read_rows_on.new.source) c.in_ok-read_rows_on.ensures.ahead)
