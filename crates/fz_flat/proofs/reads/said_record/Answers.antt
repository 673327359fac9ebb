-- The row is there, and is refused.
use Rattle.std.proofs.Common.{rules, ◌≡◌, ◌-◌, length, Err, refl, arith}
use Rattle.fz_table.specs.Rows.{row_start}
use Rattle.fz_flat.specs.Boxes.RowStops.{refused}
use Rattle.fz_flat.proofs.BoxLemmas.{said_from}
use Rattle.fz_flat.proofs.reads.said_record.Goals as goal

pub returns-in-Err-clause-stops : goal.returns-in-Err-clause-stops
returns-in-Err-clause-stops c =
    let at_is : c.in-Some.at ≡ row_start c.args.image.now.table c.args.tile - c.args.from = search rules in
    (refl, refused c.in-Err.fault (search rules) (said_from c.args.image.now c.args.from c.args.rows.now c.args.tile c.in-Some.at (length c.args.rows.now) (Err c.in-Err.fault) at_is (omega arith) c.in-Err.ensures.exact) refl)
