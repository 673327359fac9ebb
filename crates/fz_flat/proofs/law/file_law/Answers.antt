-- The row is the first of rows that begin with it.
use Rattle.std.proofs.Common.{◌≡◌, ◌+◌, ◌*◌, ap, sym, ◌∙◌, arith, drop}
use Rattle.fz_table.specs.Records.{record_of}
use Rattle.fz_table.specs.Rows.{row_at, row_in}
use Rattle.fz_flat.specs.Tiles.{tile_of}
use Rattle.fz_flat.proofs.law.file_law.Goals as goal

pub returns : goal.returns
returns c = λ file row hdu t image table from long.
    let here : row_in image.table (drop (image.table.row_bytes * 0) row) ≡ row_at file image.table (t + 0) = c.row_in_law.ensures file row image.table t 0 table from (omega (arith, long)) in
    let none : image.table.row_bytes * 0 ≡ 0 = omega arith in
    let same : t + 0 ≡ t = omega arith in
    let says : row_in image.table row ≡ row_at file image.table t =
    sym (ap (λ n. row_in image.table (drop n row)) none) ∙ (here ∙ ap (row_at file image.table) same) in
    ap (λ r. record_of hdu t image.table r (tile_of image.plan t)) says
