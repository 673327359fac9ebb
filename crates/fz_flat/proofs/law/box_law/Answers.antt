-- Bytes that are among those that were read are the same in the file.
use Rattle.std.proofs.Common.{◌≡◌, ◌==◌, ◌&&◌, not, nat_lt, ℕ, ◌+◌, ◌-◌, ◌*◌, ◌≤◌, Bool, true, false, Ok, List, [], ◌∷◌, ◌++◌, length, take, drop, sym, ap, ◌∙◌, arith}
use Rattle.std.proofs.lemmas.List.{drop-drop, drop-take, length-drop, take-take}
use Rattle.fz_base.specs.Refusal.{first_refusal, refusal}
use Rattle.fz_base.specs.declared.fault.Fault.{Fault}
use Rattle.fz_base.specs.declared.fault.Place.TheVariants.{Row as AtRow}
use Rattle.fz_base.specs.declared.kind.Kind.TheVariants.{DescriptorRange, TileSize}
use Rattle.fz_block.specs.Checks.{unless_refused}
use Rattle.fz_table.specs.Reads.{record_ranges, row_ranges}
use Rattle.fz_table.specs.Records.{chosen_column, chosen_record, described_in, has_none, is_plain, missing_kind, record_of, unit_in}
use Rattle.fz_table.specs.Rows.{row_at, row_start}
use Rattle.fz_table.specs.declared.record.Record.{Record}
use Rattle.fz_table.specs.declared.record.Tile.{Tile}
use Rattle.fz_table.specs.declared.row.Row.{Row}
use Rattle.fz_table.specs.declared.table.Table.{Table}
use Rattle.fz_flat.specs.Laws.{AreFrom, FoundLaw, RowLaw, SaidLaw}
use Rattle.fz_flat.specs.Tiles.{tile_of}
use Rattle.fz_flat.proofs.law.box_law.Goals as goal

-- bytes of the file from a byte on are also those from a later one on
later_bytes : (file bytes : List ℕ) (from start : ℕ) → from ≤ start → start - from ≤ length bytes → AreFrom file from bytes
    → drop (start - from) bytes ≡ take (length bytes - (start - from)) (drop start file)
later_bytes file bytes from start begin end are =
    let k : ℕ = start - from in
    let parts : length bytes ≡ k + (length bytes - k) = omega (arith, end) in
    let place : from + k ≡ start = omega (arith, begin) in
    ap (drop k) are ∙ ap (λ n. drop k (take n (drop from file))) parts ∙ drop-take k (length bytes - k) (drop from file)
    ∙ ap (take (length bytes - k)) (drop-drop k from file ∙ ap (λ n. drop n file) place)

-- a row that was read says what it says in the file
said_in : RowLaw → SaidLaw
said_in law = λ file rows from t image table are there.
    let start : ℕ = row_start image.table t in
    let k : ℕ = start - from in
    let left : length (drop k rows) ≡ length rows - k = length-drop k rows in
    let here : drop k rows ≡ take (length rows - k) (drop start file) = later_bytes file rows from start there.begin (omega (arith, there.begin, there.end)) are in
    law file (drop k rows) 0 t image table (here ∙ ap (λ n. take n (drop start file)) (sym left)) (omega (arith, left, there.begin, there.end))

-- checks that refuse nothing refuse nothing of another HDU
passed : (x : Record) (one two three : Bool) (a b c d e f : Fault) (found : Record) → unless_refused x (first_refusal ((one, a) ∷ (two, b) ∷ (three, c) ∷ [])) ≡ Ok found
    → unless_refused x (first_refusal ((one, d) ∷ (two, e) ∷ (three, f) ∷ [])) ≡ Ok found
passed x true two three a b c d e f found is = absurd (let h : ⊥ = cc in h)
passed x false true three a b c d e f found is = absurd (let h : ⊥ = cc in h)
passed x false false true a b c d e f found is = absurd (let h : ⊥ = cc in h)
passed x false false false a b c d e f found is = is

any_hdu : (hdu row : ℕ) (t : Table) (r : Row) (tile : Tile) (found : Record) → record_of 0 row t r tile ≡ Ok found → record_of hdu row t r tile ≡ Ok found
unfolding record_of
any_hdu hdu row t r tile found is =
    let d = described_in r (chosen_column r) in
    let len : ℕ = d.count * unit_in t (chosen_column r) in
    passed (chosen_record t r tile) (has_none r) (nat_lt t.heap_len (d.offset + len)) (is_plain tile (chosen_column r) && not (len == tile.plain_len))
    (refusal 0 (AtRow row) (missing_kind r)) (refusal 0 (AtRow row) DescriptorRange) (refusal 0 (AtRow row) TileSize)
    (refusal hdu (AtRow row) (missing_kind r)) (refusal hdu (AtRow row) DescriptorRange) (refusal hdu (AtRow row) TileSize) found is

found_in : RowLaw → FoundLaw
found_in law = λ file rows from hdu t image found table are says.
    any_hdu hdu t image.table (row_at file image.table t) (tile_of image.plan t) found (sym (said_in law file rows from t image table are says.row_there) ∙ says.says)

pub returns-clause-rows : goal.returns-clause-rows
returns-clause-rows c = said_in c.file_law.ensures

pub returns-clause-found : goal.returns-clause-found
returns-clause-found c = found_in c.file_law.ensures

pub returns-clause-ranges : goal.returns-clause-ranges
returns-clause-ranges c = λ file rows from hdu t image found table are says.
    ap (λ r. row_ranges image.table t ++ record_ranges r) (found_in c.file_law.ensures file rows from hdu t image found table are says)

pub returns-clause-records : goal.returns-clause-records
returns-clause-records c = λ file codes at found are there.
    let k : ℕ = found.start - at in
    ap (take found.read) (later_bytes file codes at found.start there.begin (omega (arith, there.begin, there.end)) are)
    ∙ take-take found.read (length codes - k) (drop found.start file) (omega (arith, there.begin, there.end))
