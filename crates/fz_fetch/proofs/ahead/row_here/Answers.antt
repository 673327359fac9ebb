-- The row is at its place among those that were read.
use Rattle.std.proofs.Common.{ℕ, ◌-◌, ◌*◌, List, length, take, drop, ap, ◌∙◌, arith}
use Rattle.std.proofs.lemmas.List.{length-drop, length-take}
use Rattle.std.proofs.lemmas.Slice.{between_to_end}
use Rattle.fz_table.specs.Rows.{row_in}
use Rattle.fz_fetch.proofs.ReadAhead.{row_known, row_told}
use Rattle.fz_fetch.proofs.ahead.row_here.Goals as goal

pub row_in-requires-clause-row : goal.row_in-requires-clause-row
row_in-requires-clause-row c =
    let t = c.args.table.now in
    let a = c.args.ahead.now in
    let known = row_known c.requires.ahead.0 t c.args.buf.now a c.args.tile c.requires.ahead.1 c.requires.here.0 c.requires.here.1 in
    omega (arith, known.room, length-take {A = ℕ}, length-drop {A = ℕ})

pub returns-clause-told : goal.returns-clause-told
returns-clause-told c = λ held is.
    let t = c.args.table.now in
    let a = c.args.ahead.now in
    let rows : List ℕ = take (t.row_bytes * a.count) c.args.buf.now in
    let k : ℕ = t.row_bytes * (c.args.tile - a.first) in
    let known = row_known held t c.args.buf.now a c.args.tile is c.requires.here.0 c.requires.here.1 in
    row_told held t c.row_in.result (drop k rows) c.args.tile (c.row_in.ensures.exact ∙ ap (row_in t) (between_to_end rows k (length rows) (omega arith)))
    known.told
