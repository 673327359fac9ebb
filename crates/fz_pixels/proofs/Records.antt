-- How much of a record is read, and the ranges that are read for a tile.
use Rattle.std.proofs.Common.{◌≡◌, ℕ, List, [], ◌∷◌, inr, Option, Some, None, IfSome, Result, Ok, Err, OnOk, OnErr, sym, ap, ◌∙◌, subst}
use Rattle.fz_base.specs.Ranges.{LiesIn, LogsIn, LogsJoinLaw}
use Rattle.fz_base.specs.Source.{MayLog, logged}
use Rattle.fz_table.specs.Reads.{record_ranges, row_ranges, tile_ranges}
use Rattle.fz_table.specs.Records.{record_at, record_of}
use Rattle.fz_table.specs.Rows.{row_at}
use Rattle.fz_table.specs.declared.record.Record.{Record}
use Rattle.fz_table.specs.declared.record.Tile.{Tile}
use Rattle.fz_table.specs.declared.row.Row.{Row}
use Rattle.fz_table.specs.declared.table.Table.{Table}
use Rattle.fz_pixels.proofs.Reading.{in_first, in_second}

-- ---- ranges

-- a read that was made, or failed, may be logged
pub may_log : {X E : Type 0} (result : Result X E) (at count : ℕ) (old new : Option (List (ℕ × ℕ))) → OnOk result (new ≡ logged at count old) → OnErr result (MayLog at count old new) → MayLog at count old new
may_log (Ok x) at count old new done failed = inr done
may_log (Err e) at count old new done failed = failed

-- what is read in some ranges is read in more
pub wider : (ranges more : List (ℕ × ℕ)) (old new : Option (List (ℕ × ℕ))) → ((byte : ℕ) → LiesIn ranges byte → LiesIn more byte) → LogsIn ranges old new → LogsIn more old new
wider ranges more old new lie logs = (logs.0, (λ k d near byte from to. lie byte (logs.1 k d near byte from to)), logs.2)

-- the descriptors of a row are read for its tile, whatever the row says
pub row_alone : (held : Option (List ℕ)) (hdu row : ℕ) (t : Table) (tile : Tile) (old new : Option (List (ℕ × ℕ))) → LogsIn (row_ranges t row) old new
    → IfSome held (λ file. LogsIn (tile_ranges file hdu t row tile) old new)
row_alone None hdu row t tile old new logs = tt
row_alone (Some file) hdu row t tile old new logs =
    wider (row_ranges t row) (tile_ranges file hdu t row tile) old new (λ byte lies. in_first (row_ranges t row) (record_ranges (record_at file hdu t row tile)) byte lies) logs

-- where the bytes are told, the record is that of the row
pub told_found : (held : Option (List ℕ)) (hdu row : ℕ) (t : Table) (says : Row) (known tile : Tile) (found : Record) → known ≡ tile
    → IfSome held (λ file. says ≡ row_at file t row) → record_of hdu row t says known ≡ Ok found → IfSome held (λ file. record_at file hdu t row tile ≡ Ok found)
told_found None hdu row t says known tile found is exact said = tt
told_found (Some file) hdu row t says known tile found is exact said =
    sym (ap (λ (k : Tile). record_of hdu row t (row_at file t row) k) is) ∙ sym (ap (λ (s : Row). record_of hdu row t s known) exact) ∙ said

-- and then it is read
pub row_then_record : LogsJoinLaw → (held : Option (List ℕ)) (hdu row : ℕ) (t : Table) (tile : Tile) (found : Record) (old mid new : Option (List (ℕ × ℕ)))
    → IfSome held (λ file. record_at file hdu t row tile ≡ Ok found) → LogsIn (row_ranges t row) old mid → LogsIn ((found.start, found.read) ∷ []) mid new
    → IfSome held (λ file. LogsIn (tile_ranges file hdu t row tile) old new)
row_then_record join None hdu row t tile found old mid new is first second = tt
row_then_record join (Some file) hdu row t tile found old mid new is first second =
    let all : List (ℕ × ℕ) = tile_ranges file hdu t row tile in
    let one : record_ranges (record_at file hdu t row tile) ≡ (found.start, found.read) ∷ [] = ap record_ranges is in
    let front = wider (row_ranges t row) all old mid (λ byte lies. in_first (row_ranges t row) (record_ranges (record_at file hdu t row tile)) byte lies) first in
    let back = wider ((found.start, found.read) ∷ []) all mid new
    (λ byte lies. in_second (row_ranges t row) (record_ranges (record_at file hdu t row tile)) byte (subst (λ (rs : List (ℕ × ℕ)). LiesIn rs byte) (sym one) lies)) second in
    join all old mid new front back
