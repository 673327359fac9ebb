-- Where the rows and the bytes of the tiles of a packed table stand, and that reading a row finds the bytes of its tile.
use Rattle.std.proofs.Common.{◌≡◌, ℕ, zero, suc, ◌+◌, ◌*◌, ◌/◌, ◌%◌, ◌<◌, ◌≤◌, ◌==◌, nat_lt, min, Bool, true, false, List, [], ◌∷◌, ◌++◌, length, drop, slice_index_or, Ok, if◌then◌else◌, refl, sym, ◌∙◌, ap, arith}
use Rattle.std.proofs.Math.Seq.{drop-append_seam}
use Rattle.std.proofs.lemmas.Bool.Decides.{nat_tests}
use Rattle.std.proofs.lemmas.List.{append_assoc, drop-drop, length-append}
use Rattle.std.proofs.lemmas.Nat.{div-add-mod'}
use Rattle.fz_table.specs.Records.{record_of}
use Rattle.fz_table.specs.Rows.{FitsDescriptor, descriptor_bytes, descriptor_in, packed_row, row_at}
use Rattle.fz_table.specs.declared.array.Descriptor.{Descriptor}
use Rattle.fz_table.specs.declared.record.Record.{Record}
use Rattle.fz_table.specs.declared.record.Tile.{Tile}
use Rattle.fz_table.specs.declared.record.TileColumn.{TileColumn}
use Rattle.fz_table.specs.declared.record.TileColumn.TheVariants as column
use Rattle.fz_table.specs.declared.row.Row.{Row}
use Rattle.fz_tile.specs.TileCode.{TileCode}
use Rattle.fz_head.specs.PackedTable.{coded_unit, packed_table, planned_descriptor, planned_row, planned_rows}
use Rattle.fz_head.specs.Planned.{pixel_len}
use Rattle.fz_head.specs.declared.plan.Plan.{Plan}
use Rattle.fz_files.specs.Packed.{coded_count, described, heap_of, is_coded, row_of, rows_from, stored_count}

-- ---- rows and heap

row_bytes_len : (wide : Bool) (c s : Descriptor) → length (packed_row wide c s) ≡ (if wide then 32 else 16)
row_bytes_len true c s = refl
row_bytes_len false c s = refl

row_len : (p : Plan) (offset : ℕ) (e : TileCode) → length (row_of p offset e) ≡ planned_row p
row_len p offset e = by_place (is_coded e.place)
  where
    by_place : (coded : Bool) →
        length (if coded then packed_row p.wide (described (coded_count p e) offset) (described 0 0) else packed_row p.wide (described 0 0) (described (stored_count p e) offset)) ≡ planned_row p
    by_place true = row_bytes_len p.wide (described (coded_count p e) offset) (described 0 0)
    by_place false = row_bytes_len p.wide (described 0 0) (described (stored_count p e) offset)

pub rows_len : (p : Plan) (start : ℕ) (es : List TileCode) → length (rows_from p start es) ≡ planned_row p * length es
unfolding rows_from
rows_len p start [] = omega arith
rows_len p start (e ∷ es) =
    let more : planned_row p * suc (length es) ≡ planned_row p + planned_row p * length es = grind arith in
    let whole : length (row_of p start e ++ rows_from p (start + length e.bytes) es) ≡ length (row_of p start e) + length (rows_from p (start + length e.bytes) es) =
    length-append (row_of p start e) (rows_from p (start + length e.bytes) es) in
    let first : length (row_of p start e) ≡ planned_row p = row_len p start e in
    let rest : length (rows_from p (start + length e.bytes) es) ≡ planned_row p * length es = rows_len p (start + length e.bytes) es in
    omega arith

-- tile t among others: its row, and its bytes in the heap
pub record StandsAmong (p : Plan) (start : ℕ) (es : List TileCode) (t : ℕ) (e : TileCode) : Type 0 where
  pub offset : ℕ
  pub rows_before : List ℕ
  pub rows_behind : List ℕ
  pub rows : rows_from p start es ≡ rows_before ++ (row_of p (start + offset) e ++ rows_behind)
  pub rows_at : length rows_before ≡ planned_row p * t
  pub heap_before : List ℕ
  pub heap_behind : List ℕ
  pub heap : heap_of es ≡ heap_before ++ (e.bytes ++ heap_behind)
  pub heap_at : length heap_before ≡ offset

pub stands_among : (p : Plan) (start : ℕ) (es : List TileCode) (t : ℕ) (e : TileCode) → t < length es → slice_index_or es t e ≡ e → StandsAmong p start es t e
unfolding rows_from heap_of
stands_among p start [] t e less is = absurd omega (arith, less)
stands_among p start (x ∷ es) zero e less is =
    let same : x ≡ e = is in
    let here : start ≡ start + 0 = omega arith in
    record {
      offset = 0;
      rows_before = [];
      rows_behind = rows_from p (start + length x.bytes) es;
      rows = λ i. row_of p (here i) (same i) ++ rows_from p (start + length x.bytes) es;
      rows_at = omega arith;
      heap_before = [];
      heap_behind = heap_of es;
      heap = λ i. (same i).bytes ++ heap_of es;
      heap_at = refl;
    }
stands_among p start (x ∷ es) (suc t) e less is =
    let r = stands_among p (start + length x.bytes) es t e (omega (arith, less)) is in
    let place : start + length x.bytes + r.offset ≡ start + (length x.bytes + r.offset) = omega arith in
    let more : planned_row p * suc t ≡ planned_row p + planned_row p * t = grind arith in
    let first : length (row_of p start x) ≡ planned_row p = row_len p start x in
    let rows_both : length (row_of p start x ++ r.rows_before) ≡ length (row_of p start x) + length r.rows_before = length-append (row_of p start x) r.rows_before in
    let heap_both : length (x.bytes ++ r.heap_before) ≡ length x.bytes + length r.heap_before = length-append x.bytes r.heap_before in
    let rows_at : length r.rows_before ≡ planned_row p * t = r.rows_at in
    let heap_at : length r.heap_before ≡ r.offset = r.heap_at in
    record {
      offset = length x.bytes + r.offset;
      rows_before = row_of p start x ++ r.rows_before;
      rows_behind = r.rows_behind;
      rows =
          ap (λ l. row_of p start x ++ l) (r.rows ∙ ap (λ o. r.rows_before ++ (row_of p o e ++ r.rows_behind)) place)
          ∙ sym (append_assoc (row_of p start x) r.rows_before (row_of p (start + (length x.bytes + r.offset)) e ++ r.rows_behind));
      rows_at = omega arith;
      heap_before = x.bytes ++ r.heap_before;
      heap_behind = r.heap_behind;
      heap = ap (λ l. x.bytes ++ l) r.heap ∙ sym (append_assoc x.bytes r.heap_before (e.bytes ++ r.heap_behind));
      heap_at = omega arith;
    }

-- ---- a row of the file

-- the two descriptors of a row that begins here
abbrev pub DescriptorsAreRead : Type 0
DescriptorsAreRead = (wide : Bool) (d : Descriptor) (rest : List ℕ) → FitsDescriptor wide d → descriptor_in wide (descriptor_bytes wide d.count d.offset ++ rest) ≡ d

descriptor_bytes_len : (wide : Bool) (d : Descriptor) → length (descriptor_bytes wide d.count d.offset) ≡ (if wide then 16 else 8)
descriptor_bytes_len true d = refl
descriptor_bytes_len false d = refl

first_read : DescriptorsAreRead → (wide : Bool) (c s : Descriptor) (rest : List ℕ) → FitsDescriptor wide c → descriptor_in wide (packed_row wide c s ++ rest) ≡ c
first_read read wide c s rest fits =
    ap (descriptor_in wide) (append_assoc (descriptor_bytes wide c.count c.offset) (descriptor_bytes wide s.count s.offset) rest)
    ∙ read wide c (descriptor_bytes wide s.count s.offset ++ rest) fits

second_read : DescriptorsAreRead → (wide : Bool) (c s : Descriptor) (rest : List ℕ) → FitsDescriptor wide s → descriptor_in wide (drop (if wide then 16 else 8) (packed_row wide c s ++ rest)) ≡ s
second_read read wide c s rest fits =
    let split : packed_row wide c s ++ rest ≡ descriptor_bytes wide c.count c.offset ++ (descriptor_bytes wide s.count s.offset ++ rest) =
    append_assoc (descriptor_bytes wide c.count c.offset) (descriptor_bytes wide s.count s.offset) rest in
    let behind : drop (if wide then 16 else 8) (packed_row wide c s ++ rest) ≡ descriptor_bytes wide s.count s.offset ++ rest =
    (λ i. drop (sym (descriptor_bytes_len wide c) i) (split i)) ∙ drop-append_seam (descriptor_bytes wide c.count c.offset) (descriptor_bytes wide s.count s.offset ++ rest) in
    ap (descriptor_in wide) behind ∙ read wide s rest fits

-- a row that says this
abbrev pub row_saying : Descriptor → Descriptor → Row
row_saying c s = record { coded = c; stored = s; gzip = described 0 0 }

pub row_is : DescriptorsAreRead → (file : List ℕ) (p : Plan) (at heap row : ℕ) (c s : Descriptor) (rest : List ℕ) → FitsDescriptor p.wide c → FitsDescriptor p.wide s →
    drop (at + planned_row p * row) file ≡ packed_row p.wide c s ++ rest → row_at file (packed_table p at heap) row ≡ row_saying c s
row_is read file p at heap row c s rest fits fits' here =
    let front : at + planned_row p * row + 0 ≡ at + planned_row p * row = omega arith in
    let coded : descriptor_in p.wide (drop (at + planned_row p * row + 0) file) ≡ c =
    ap (λ k. descriptor_in p.wide (drop k file)) front ∙ (ap (descriptor_in p.wide) here ∙ first_read read p.wide c s rest fits) in
    let stored : descriptor_in p.wide (drop (at + planned_row p * row + planned_descriptor p) file) ≡ s =
    ap (descriptor_in p.wide) (sym (drop-drop (planned_descriptor p) (at + planned_row p * row) file) ∙ ap (drop (planned_descriptor p)) here) ∙ second_read read p.wide c s rest fits' in
    λ i. record { coded = coded i; stored = stored i; gzip = described 0 0 }

-- ---- the record of a row

-- the record of a tile whose bytes stand in this column, so many elements of this size
abbrev pub record_standing : Plan → ℕ → TileColumn → ℕ → ℕ → Tile → Record
record_standing p at column offset total tile =
    record { column = column; start = at + planned_row p * planned_rows p + offset; total = total; read = min total (8 * tile.pixels + 64) }

pub coded_found : (p : Plan) (at heap hdu row count offset : ℕ) (tile : Tile) → 0 < count → offset + count * coded_unit p.codec ≤ heap → tile.plain ≡ false →
    record_of hdu row (packed_table p at heap) (row_saying (described count offset) (described 0 0)) tile ≡ Ok (record_standing p at column.Coded offset (count * coded_unit p.codec) tile)
unfolding record_of
coded_found p at heap hdu row count offset tile some within coded =
    let chosen : nat_lt 0 count ≡ true = grind (arith, nat_tests, some) in
    let counted : (count == 0) ≡ false = grind (arith, nat_tests, some) in
    let inside : nat_lt heap (offset + count * coded_unit p.codec) ≡ false = grind (arith, nat_tests, within) in
    rw (chosen, counted, inside, coded) refl

pub stored_found : (p : Plan) (at heap hdu row count offset : ℕ) (tile : Tile) → 0 < count → offset + count * pixel_len p.bitpix ≤ heap → count * pixel_len p.bitpix ≡ tile.plain_len →
    record_of hdu row (packed_table p at heap) (row_saying (described 0 0) (described count offset)) tile ≡ Ok (record_standing p at column.Stored offset (count * pixel_len p.bitpix) tile)
unfolding record_of
stored_found p at heap hdu row count offset tile some within size =
    let counted : (count == 0) ≡ false = grind (arith, nat_tests, some) in
    let inside : nat_lt heap (offset + count * pixel_len p.bitpix) ≡ false = grind (arith, nat_tests, within) in
    let same : (count * pixel_len p.bitpix == tile.plain_len) ≡ true = grind (arith, nat_tests, size) in
    rw (counted, inside, same) refl

-- whole elements of a column have all bytes
pub whole_elements : (len unit : ℕ) → len % unit ≡ 0 → len / unit * unit ≡ len
whole_elements len unit whole = let parts : len / unit * unit + len % unit ≡ len = div-add-mod' len unit in omega arith

pub some_elements : (len unit : ℕ) → 1 ≤ len → len / unit * unit ≡ len → 0 < len / unit
some_elements len unit some whole = by_count (len / unit) whole
  where
    by_count : (count : ℕ) → count * unit ≡ len → 0 < count
    by_count zero e = absurd omega (arith, e, some)
    by_count (suc count) e = omega arith
