-- The first number that no list holds.
use Rattle.std.proofs.Common.{rules, ap, Err}
use Rattle.fz_c.specs.Codes.WritesLine.{out_of_range}
use Rattle.fz_c.proofs.plio.fz_plio_encode.Goals as goal

pub returns-in-Err-Range-clause-answer : goal.returns-in-Err-Range-clause-answer
returns-in-Err-Range-clause-answer c =
    let index = c.in-Err-Range.field-0-0 in
    let stops = ap Err c.in-Err-Range.field-0-is in
    out_of_range (search rules) (search rules) index ((c.in-Err-Range.ensures.range index).0 stops) (c.in-Err-Range.ensures.untouched index stops)
