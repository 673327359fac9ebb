-- What is read of a row are its descriptors.

use Rattle.fz_table.specs.Reads.{row_ranges, row_reads}
use Rattle.fz_fetch.proofs.Reading.{logs_in}
use Rattle.fz_fetch.proofs.rows.row_of.Goals as goal

pub returns-in-None-clause-read : goal.returns-in-None-clause-read
returns-in-None-clause-read g c =
    let t = c.args.table.now in
    logs_in c.ranges_law.ensures.some c.ranges_law.ensures.all (row_reads t c.args.tile) (row_ranges t c.args.tile) (g.S.Source.ranges c.args.source.now) (g.S.Source.ranges c.read_row.new.source)
    c.read_row.result (λ byte lies. c.row_reads_law.ensures t c.args.tile byte lies) c.read_row.ensures.read
