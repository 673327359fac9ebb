-- Rows and bytes of the heap that were read before they are wanted, and the ranges that are read for them.
use Rattle.std.proofs.Common.{◌≡◌, ℕ, zero, suc, ◌+◌, ◌-◌, ◌*◌, ◌^◌, ◌<◌, ◌≤◌, inl, inr, ⊎_elim, List, [], ◌∷◌, ◌++◌, length, take, drop, slice_index, Option}
use Rattle.std.proofs.Common.{Some, None, IfSome, Ok, refl, sym, ap, ◌∙◌, subst, arith}
use Rattle.std.specs.List.{flat_map, range_with_len}
use Rattle.std.specs.Option.{option_map}
use Rattle.std.proofs.Math.Nat.{mul-zero}
use Rattle.std.proofs.lemmas.Bool.{cases_lt}
use Rattle.std.proofs.lemmas.List.{drop-drop, drop-take, length-append, length-drop, take-take, take_at}
use Rattle.std.proofs.lemmas.List.FromFn.{get_or-range_with_len, length-range_with_len}
use Rattle.std.proofs.lemmas.Slice.{drop-append-drop}
use Rattle.fz_base.specs.Ranges.{LiesIn, LogsIn, LogsJoinLaw, LogsSomeLaw}
use Rattle.fz_base.specs.Source.{MayLog, Reads}
use Rattle.fz_base.specs.Told.{StaysTold}
use Rattle.fz_table.specs.Reads.{record_ranges, row_ranges, tile_ranges}
use Rattle.fz_table.specs.Records.{record_at, record_bytes, record_of}
use Rattle.fz_table.specs.Rows.{row_at, row_in}
use Rattle.fz_table.specs.declared.record.Record.{Record}
use Rattle.fz_table.specs.declared.record.Tile.{Tile}
use Rattle.fz_table.specs.declared.row.Row.{Row}
use Rattle.fz_table.specs.declared.table.Table.{Table}
use Rattle.fz_checks.specs.declared.job_checks.PackedImage.{PackedImage}
use Rattle.fz_files.specs.Restored.{tile_of}
use Rattle.fz_fetch.specs.Ahead.{AreOfRows, IsAhead, all_ranges, nothing_ahead}
use Rattle.fz_fetch.specs.Loaded.{IsRecordIn}
use Rattle.fz_fetch.specs.Rows.{HasRow, HasRowsOf, rows_ranges}
use Rattle.fz_fetch.specs.declared.ahead.Ahead.{Ahead}
use Rattle.fz_fetch.proofs.LoadedTiles.{lies_in_either}
use Rattle.fz_fetch.proofs.Reading.{in_second, lies_in_one}
use Rattle.fz_fetch.proofs.Records.{wider}

-- ---- bytes

-- if two lists begin alike, so do their parts there
pub part_same : (off count len : ℕ) (xs ys : List ℕ) → take len xs ≡ take len ys → off + count ≤ len → take count (drop off xs) ≡ take count (drop off ys)
part_same off count len xs ys same within =
    let front : take (off + count) xs ≡ take (off + count) ys =
    sym (take-take (off + count) len xs within) ∙ ap (take (off + count)) same ∙ take-take (off + count) len ys within in
    sym (drop-take off count xs) ∙ ap (drop off) front ∙ drop-take off count ys

-- nothing was read at first
nothing_told : (held : Option (List ℕ)) (bytes : List ℕ) → IfSome held (λ file. take 0 (drop 4096 bytes) ≡ take 0 (drop 0 file))
nothing_told None bytes = tt
nothing_told (Some file) bytes = refl

pub none_ahead : (held : Option (List ℕ)) (t : Table) (bytes : List ℕ) → 4096 ≤ length bytes → IsAhead held t bytes nothing_ahead
none_ahead held t bytes long = record {
  few = omega arith;
  front = omega (arith, mul-zero t.row_bytes);
  rows = λ i low. absurd (omega (arith, low));
  room = omega (arith, long);
  near = omega arith;
  told = nothing_told held bytes;
}

-- ---- rows

module _ (held : Option (List ℕ)) (t : Table) (old rows : List ℕ) (n : ℕ) (a : Ahead) where
  -- rows that are read over the front leave the bytes of the heap
  heap_told : (h : Option (List ℕ)) → n ≤ 4096 → length rows ≡ n → IfSome h (λ file. take a.len (drop 4096 old) ≡ take a.len (drop a.at file)) →
      IfSome h (λ file. take a.len (drop 4096 (rows ++ drop n old)) ≡ take a.len (drop a.at file))
  heap_told None near size told = tt
  heap_told (Some file) near size told = ap (take a.len) (drop-append-drop n old rows 4096 near size) ∙ told

  long_as : n ≤ 4096 → length rows ≡ n → 4096 + a.len ≤ length old → length (rows ++ drop n old) ≡ length old
  long_as near size room = omega (arith, length-append rows (drop n old), length-drop n old, size, near, room)

  -- the rows that were there are lost
  pub rows_lost : IsAhead held t old a → n ≤ 4096 → length rows ≡ n → IsAhead held t (rows ++ drop n old) (record a { count = 0 })
  rows_lost is near size = record {
    few = omega arith;
    front = omega (arith, mul-zero t.row_bytes);
    rows = λ i low. absurd (omega (arith, low));
    room = omega (arith, long_as near size is.room, is.room);
    near = is.near;
    told = heap_told held near size is.told;
  }

  -- and others are there if they were read
  pub rows_found : (tiles : List ℕ) (first count : ℕ) → IsAhead held t old a → n ≡ t.row_bytes * count → count ≤ 128 → n ≤ 4096 → length rows ≡ n
      → tiles ≡ range_with_len first count →
      HasRowsOf held t rows tiles → IsAhead held t (rows ++ drop n old) (record a { first = first; count = count })
  rows_found tiles first count is size few near long numbered read = record {
    few = few;
    front = omega (arith, size, near);
    rows = subst (λ (bytes : List ℕ). HasRowsOf held t bytes (range_with_len first count)) (sym (take_at rows (drop n old) (t.row_bytes * count) (long ∙ size)))
        (subst (HasRowsOf held t rows) numbered read);
    room = omega (arith, long_as near long is.room, is.room);
    near = is.near;
    told = heap_told held near long is.told;
  }

-- a row that was read is at its place
pub row_known : (held : Option (List ℕ)) (t : Table) (bytes : List ℕ) (a : Ahead) (tile : ℕ) → IsAhead held t bytes a → a.first ≤ tile
    → tile < a.first + a.count →
    HasRow held t (take (t.row_bytes * a.count) bytes) (tile - a.first) tile
row_known held t bytes a tile is low high =
    let i : ℕ = tile - a.first in
    let near : i < a.count = omega (arith, low, high) in
    let place : slice_index (range_with_len a.first a.count) i ≡ tile = get_or-range_with_len a.first a.count i 0 near ∙ omega (arith, low) in
    subst (HasRow held t (take (t.row_bytes * a.count) bytes) i) place (is.rows i (omega (arith, near, length-range_with_len a.first a.count)))

-- and says what it says in the file
pub row_told : (held : Option (List ℕ)) (t : Table) (says : Row) (rest : List ℕ) (tile : ℕ) → says ≡ row_in t rest
    → IfSome held (λ file. row_in t rest ≡ row_at file t tile) → IfSome held (λ file. says ≡ row_at file t tile)
row_told None t says rest tile is told = tt
row_told (Some file) t says rest tile is told = is ∙ told

-- ---- bytes of the heap

module _ (held : Option (List ℕ)) (t : Table) (old new : List ℕ) (a : Ahead) where
  rows_stay : IsAhead held t old a → take 4096 new ≡ take 4096 old → HasRowsOf held t (take (t.row_bytes * a.count) new) (range_with_len a.first a.count)
  rows_stay is same =
      let n : ℕ = t.row_bytes * a.count in
      let front : take n new ≡ take n old = sym (take-take n 4096 new is.front) ∙ ap (take n) same ∙ take-take n 4096 old is.front in
      subst (λ (bytes : List ℕ). HasRowsOf held t bytes (range_with_len a.first a.count)) (sym front) is.rows

  none_told : (h : Option (List ℕ)) → IfSome h (λ file. take 0 (drop 4096 new) ≡ take 0 (drop a.at file))
  none_told None = tt
  none_told (Some file) = refl

  -- those that were there are lost
  pub heap_lost : IsAhead held t old a → take 4096 new ≡ take 4096 old → length new ≡ length old → IsAhead held t new (record a { len = 0 })
  heap_lost is same long = record {
    few = is.few;
    front = is.front;
    rows = rows_stay is same;
    room = omega (arith, is.room, long);
    near = omega (arith, is.near);
    told = none_told held;
  }

  run_told : (h : Option (List ℕ)) (at count : ℕ) (ys : List ℕ) → Reads h at ys → length ys ≡ count → take count (drop 4096 new) ≡ ys
      → IfSome h (λ file. take count (drop 4096 new) ≡ take count (drop at file))
  run_told None at count ys read size put = tt
  run_told (Some file) at count ys read size put = put ∙ read ∙ ap (λ k. take k (drop at file)) size

  -- and others are there if they were read
  pub heap_found : (at count : ℕ) (ys : List ℕ) → IsAhead held t old a → take 4096 new ≡ take 4096 old → 4096 + count ≤ length new → at + count ≤ 2 ^ 62
      → Reads held at ys → length ys ≡ count →
      take count (drop 4096 new) ≡ ys → IsAhead held t new (record a { at = at; len = count })
  heap_found at count ys is same room near read size put = record {
    few = is.few;
    front = is.front;
    rows = rows_stay is same;
    room = room;
    near = near;
    told = run_told held at count ys read size put;
  }

-- a record that was read is there
pub record_taken : (held : Option (List ℕ)) (t : Table) (buf code : List ℕ) (a : Ahead) (found : Record) → IsAhead held t buf a → a.at ≤ found.start
    → found.start + found.read ≤ a.at + a.len →
    take found.read code ≡ take found.read (drop (4096 + (found.start - a.at)) buf) → IfSome held (λ file. take found.read code ≡ record_bytes file found)
record_taken None t buf code a found is low high same = tt
record_taken (Some file) t buf code a found is low high same =
    let off : ℕ = found.start - a.at in
    let there : drop (4096 + off) buf ≡ drop off (drop 4096 buf) = sym (drop-drop off 4096 buf) in
    let at : a.at + off ≡ found.start = omega (arith, low) in
    let place : drop off (drop a.at file) ≡ drop found.start file = drop-drop off a.at file ∙ ap (λ k. drop k file) at in
    same ∙ ap (take found.read) there ∙ part_same off found.read a.len (drop 4096 buf) (drop a.at file) is.told (omega (arith, low, high))
    ∙ ap (take found.read) place

-- ---- ranges

-- what lies in the ranges of one of the first n lies in those of all
in_all : (ranges : ℕ → List (ℕ × ℕ)) (n k byte : ℕ) → k < n → LiesIn (ranges k) byte → LiesIn (flat_map ranges (range_with_len 0 n)) byte
in_all ranges n k byte near lies =
    let place : slice_index (range_with_len 0 n) k ≡ k = get_or-range_with_len 0 n k 0 near ∙ omega arith in
    lies_in_one ranges (range_with_len 0 n) k byte (omega (arith, near, length-range_with_len 0 n)) (subst (λ m. LiesIn (ranges m) byte) (sym place) lies)

some_in_all : (ranges : ℕ → List (ℕ × ℕ)) (n first count byte : ℕ) → first + count ≤ n → LiesIn (flat_map ranges (range_with_len first count)) byte
    → LiesIn (flat_map ranges (range_with_len 0 n)) byte
some_in_all ranges n first zero byte few lies = elim lies [ ]
some_in_all ranges n first (suc count) byte few lies =
    let next : LiesIn (flat_map ranges (range_with_len (first + 1) count)) byte → LiesIn (flat_map ranges (range_with_len 0 n)) byte = some_in_all ranges n
    (first + 1) count byte (omega (arith, few)) in
    ⊎_elim
    (λ here. in_all ranges n first byte (omega (arith, few)) here)
    (λ later. next later)
    (lies_in_either (ranges first) (flat_map ranges (range_with_len (first + 1) count)) byte lies)

-- the descriptors of a row, and of some rows, are among those of all rows
pub row_in_all : (t : Table) (tile byte : ℕ) → tile < t.rows → LiesIn (row_ranges t tile) byte → LiesIn (rows_ranges t (range_with_len 0 t.rows)) byte
row_in_all t tile byte near lies = in_all (row_ranges t) t.rows tile byte near lies

pub rows_in_all : (t : Table) (tiles : List ℕ) (first count : ℕ) (old new : Option (List (ℕ × ℕ))) → tiles ≡ range_with_len first count → first + count ≤ t.rows
    → LogsIn (rows_ranges t tiles) old new →
    LogsIn (rows_ranges t (range_with_len 0 t.rows)) old new
rows_in_all t tiles first count old new numbered few logs =
    wider (rows_ranges t tiles) (rows_ranges t (range_with_len 0 t.rows)) old new
    (λ byte lies. some_in_all (row_ranges t) t.rows first count byte few (subst (λ (ts : List ℕ). LiesIn (rows_ranges t ts) byte) numbered lies)) logs

-- what is read of a record is read for its tile
pub in_record : (file : List ℕ) (hdu row : ℕ) (t : Table) (tile : Tile) (found : Record) (byte : ℕ) → record_at file hdu t row tile ≡ Ok found
    → found.start ≤ byte → byte < found.start + found.read →
    LiesIn (tile_ranges file hdu t row tile) byte
in_record file hdu row t tile found byte is low high =
    let one : record_ranges (record_at file hdu t row tile) ≡ (found.start, found.read) ∷ [] = ap record_ranges is in
    in_second (row_ranges t row) (record_ranges (record_at file hdu t row tile)) byte
    (subst (λ (rs : List (ℕ × ℕ)). LiesIn rs byte) (sym one) (inl (low, high)))

-- and among what is read for all tiles
tile_in_all : (file : List ℕ) (hdu : ℕ) (image : PackedImage) (tile byte : ℕ) → tile < image.table.rows
    → LiesIn (tile_ranges file hdu image.table tile (tile_of image.plan tile)) byte → LiesIn (all_ranges file hdu image) byte
tile_in_all file hdu image tile byte near lies = in_all (λ t. tile_ranges file hdu image.table t (tile_of image.plan t)) image.table.rows tile byte near lies

pub first_of_run : (held : Option (List ℕ)) (hdu : ℕ) (image : PackedImage) (tile : ℕ) (found : Record) → tile < image.table.rows
    → IfSome held (λ file. IsRecordIn file hdu image tile found) →
    IfSome held (λ file. AreOfRows file hdu image found.start found.read)
first_of_run None hdu image tile found near is = tt
first_of_run (Some file) hdu image tile found near is = λ byte low high.
    tile_in_all file hdu image tile byte near (in_record file hdu tile image.table (tile_of image.plan tile) found byte is low high)

-- a record that follows the run makes it longer
pub run_longer : (held : Option (List ℕ)) (hdu : ℕ) (image : PackedImage) (tile at run count : ℕ) → tile < image.table.rows
    → IfSome held (λ file. AreOfRows file hdu image at run) →
    IfSome held (λ file. (byte : ℕ) → at + run ≤ byte → byte < at + run + count → LiesIn (tile_ranges file hdu image.table tile (tile_of image.plan tile)) byte)
    → IfSome held (λ file. AreOfRows file hdu image at (run + count))
run_longer None hdu image tile at run count near so_far next = tt
run_longer (Some file) hdu image tile at run count near so_far next = λ byte low high.
    ⊎_elim
    (λ below. so_far byte low below)
    (λ above. tile_in_all file hdu image tile byte near (next byte above (omega (arith, high))))
    (cases_lt byte (at + run))

-- the record that a row says, if it was read, is the tile's
pub follows_in : (held : Option (List ℕ)) (hdu tile at : ℕ) (t : Table) (says : Row) (known kind : Tile) (found : Record) → known ≡ kind
    → IfSome held (λ file. says ≡ row_at file t tile) → record_of hdu tile t says known ≡ Ok found → found.start ≡ at →
    IfSome held (λ file. (byte : ℕ) → at ≤ byte → byte < at + found.read → LiesIn (tile_ranges file hdu t tile kind) byte)
follows_in None hdu tile at t says known kind found same exact is place = tt
follows_in (Some file) hdu tile at t says known kind found same exact is place = λ byte low high.
    let here : record_at file hdu t tile kind ≡ Ok found =
    sym (ap (λ (k : Tile). record_of hdu tile t (row_at file t tile) k) same) ∙ sym (ap (λ (s : Row). record_of hdu tile t s known) exact) ∙ is in
    in_record file hdu tile t kind found byte here (omega (arith, low, place)) (omega (arith, high, place))

pub record_known : (held held' : Option (List ℕ)) (hdu row : ℕ) (t : Table) (says : Row) (known tile : Tile) (found : Record) → held' ≡ held → known ≡ tile
    → IfSome held (λ file. says ≡ row_at file t row) → record_of hdu row t says known ≡ Ok found →
    IfSome held' (λ file. record_at file hdu t row tile ≡ Ok found)
record_known held held' hdu row t says known tile found same is exact said =
    subst (λ (h : Option (List ℕ)). IfSome h (λ file. record_at file hdu t row tile ≡ Ok found)) (sym same) (known_in held exact)
  where
    known_in : (h : Option (List ℕ)) → IfSome h (λ file. says ≡ row_at file t row) → IfSome h (λ file. record_at file hdu t row tile ≡ Ok found)
    known_in None exact = tt
    known_in (Some file) exact = sym (ap (λ (k : Tile). record_of hdu row t (row_at file t row) k) is)
        ∙ sym (ap (λ (s : Row). record_of hdu row t s known) exact) ∙ said

-- ---- what was read

-- one read of bytes of the rows
pub run_read : LogsSomeLaw → (held : Option (List ℕ)) (hdu : ℕ) (image : PackedImage) (at count : ℕ) (old new : Option (List (ℕ × ℕ)))
    → IfSome held (λ file. AreOfRows file hdu image at count) → MayLog at count old new →
    IfSome held (λ file. LogsIn (all_ranges file hdu image) old new)
run_read some None hdu image at count old new are may = tt
run_read some (Some file) hdu image at count old new are may = some ((at, count) ∷ []) (all_ranges file hdu image) old new lie may
  where
    lie : (byte : ℕ) → LiesIn ((at, count) ∷ []) byte → LiesIn (all_ranges file hdu image) byte
    lie byte (inl here) = are byte here.0 here.1
    lie byte (inr none) = elim none [ ]

-- reads one after another
pub join_all : LogsJoinLaw → (held held' : Option (List ℕ)) (hdu : ℕ) (image : PackedImage) (old mid new : Option (List (ℕ × ℕ))) → held' ≡ held
    → IfSome held (λ file. LogsIn (all_ranges file hdu image) old mid) →
    IfSome held' (λ file. LogsIn (all_ranges file hdu image) mid new) → IfSome held (λ file. LogsIn (all_ranges file hdu image) old new)
join_all join None held' hdu image old mid new same first second = tt
join_all join (Some file) held' hdu image old mid new same first second =
    join (all_ranges file hdu image) old mid new first (subst (λ (h : Option (List ℕ)). IfSome h (λ f. LogsIn (all_ranges f hdu image) mid new)) same second)

-- a read that was logged, or not, hides nothing
pub may_told : ((more : List (ℕ × ℕ)) (old new : Option (List (ℕ × ℕ))) → new ≡ option_map (λ rs. rs ++ more) old → StaysTold old new) → LogsSomeLaw
    → (at count : ℕ) (old new : Option (List (ℕ × ℕ))) → MayLog at count old new → StaysTold old new
may_told law some at count old new may =
    let logs : LogsIn ((at, count) ∷ []) old new = some ((at, count) ∷ []) ((at, count) ∷ []) old new (λ byte lies. lies) may in
    law logs.0 old new logs.2
