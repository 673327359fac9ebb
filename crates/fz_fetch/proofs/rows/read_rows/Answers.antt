-- The rows are those of the tiles, and what was read are their descriptors.
use Rattle.std.proofs.Common.{ℕ, ◌≡◌, ◌*◌, List, [], ◌∷◌, length, slice_index, rules}
use Rattle.fz_base.specs.Source.{MayLog, Reads}
use Rattle.fz_table.specs.Rows.{row_start}
use Rattle.fz_fetch.specs.Rows.{rows_ranges}
use Rattle.fz_fetch.proofs.Reading.{rows_lie, rows_read}
use Rattle.fz_fetch.proofs.rows.read_rows.Goals as goal

pub returns-clause-rows : goal.returns-clause-rows
returns-clause-rows g c =
    let held = g.S.Source.held c.args.source.now in
    let t = c.args.table.now in
    let tiles : List ℕ = c.args.tiles.now in
    let rows : List ℕ = c.read_at.new.into in
    let read : Reads held (row_start t (slice_index tiles 0)) rows = search rules in
    let size : length rows ≡ t.row_bytes * length tiles = search rules in
    rows_read c.row_in_law.ensures held t rows tiles (slice_index tiles 0) c.requires.table c.requires.from size read

pub returns-clause-read : goal.returns-clause-read
returns-clause-read g c =
    let t = c.args.table.now in
    let tiles : List ℕ = c.args.tiles.now in
    let at : ℕ = c.row_at-at.result in
    let n : ℕ = length c.args.rows.now in
    let old = g.S.Source.ranges c.args.source.now in
    let new = g.S.Source.ranges c.read_at.new.self in
    let may : MayLog at n old new = search rules in
    c.ranges_law.ensures.some ((at, n) ∷ []) (rows_ranges t tiles) old new
    (λ byte lies. rows_lie c.filled_law.ensures t tiles (slice_index tiles 0) at n byte c.requires.table c.requires.filled c.requires.from c.row_at-at.ensures c.requires.room lies) may

pub returns-in_err-map_err-clause-read : goal.returns-in_err-map_err-clause-read
returns-in_err-map_err-clause-read g c =
    let t = c.args.table.now in
    let tiles : List ℕ = c.args.tiles.now in
    let at : ℕ = c.row_at-at.result in
    let n : ℕ = length c.args.rows.now in
    let old = g.S.Source.ranges c.args.source.now in
    let new = g.S.Source.ranges c.read_at.new.self in
    let may : MayLog at n old new = search rules in
    c.ranges_law.ensures.some ((at, n) ∷ []) (rows_ranges t tiles) old new
    (λ byte lies. rows_lie c.filled_law.ensures t tiles (slice_index tiles 0) at n byte c.requires.table c.requires.filled c.requires.from c.row_at-at.ensures c.requires.room lies) may
