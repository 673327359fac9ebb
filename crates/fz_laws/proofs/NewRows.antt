-- A row that describes the code of the new numbers of a tile stands for these.
use Rattle.std.proofs.Common.{◌≡◌, ℕ, zero, suc, ◌+◌, ◌*◌, ◌/◌, ◌%◌, ◌^◌, ◌<◌, ◌≤◌, ◌==◌, nat_lt, min, Bool, true, false, ℤ, pos, List, [], ◌∷◌, ◌++◌, length, take, drop, Option, Some, None, Ok, if◌then◌else◌, refl, sym, subst, ◌∙◌, ap, arith}
use Rattle.std.proofs.Math.Nat.{div-le_self}
use Rattle.std.proofs.Math.Seq.{drop-append_seam, take-append_seam}
use Rattle.std.proofs.lemmas.Bool.Decides.{nat_tests}
use Rattle.std.proofs.lemmas.List.{append_assoc, drop-drop, take-append-drop}
use Rattle.std.proofs.lemmas.Nat.{div-add-mod'}
use Rattle.fz_table.specs.Records.{record_at, record_bytes, record_of}
use Rattle.fz_table.specs.Rows.{FitsDescriptor, descriptor_bytes, descriptor_in, descriptor_len, packed_row, row_at, row_start}
use Rattle.fz_table.specs.declared.array.Descriptor.{Descriptor}
use Rattle.fz_table.specs.declared.record.Record.{Record}
use Rattle.fz_table.specs.declared.record.Tile.{Tile}
use Rattle.fz_table.specs.declared.record.TileColumn.{TileColumn}
use Rattle.fz_table.specs.declared.record.TileColumn.TheVariants as column
use Rattle.fz_table.specs.declared.row.Row.{Row}
use Rattle.fz_table.specs.declared.table.Table.{Table}
use Rattle.fz_tile.specs.Record.{IsRecord}
use Rattle.fz_tile.specs.TileCode.{TileCode, element_len}
use Rattle.fz_tile.specs.declared.codec.Codec.{Codec}
use Rattle.fz_tile.specs.declared.codec.Codec.TheVariants.{Rice, Plio, Plain}
use Rattle.fz_tile.specs.declared.coded.Place2.{Place2}
use Rattle.fz_tile.specs.declared.coded.Place2.TheVariants as place
use Rattle.fz_head.specs.PackedTable.{coded_unit}
use Rattle.fz_head.specs.Planned.{pixel_len}
use Rattle.fz_head.specs.declared.plan.Plan.{Plan}
use Rattle.fz_files.specs.Packed.{described, is_coded, pixel_bits, row_of}
use Rattle.fz_files.specs.Restored.{pixels_of, tile_of}
use Rattle.fz_laws.proofs.NewCodes.{IsCodeOf}
use Rattle.fz_laws.proofs.Walked.{RowIsOf}

-- a table of which a patch could write the rows, with a heap of so many bytes
abbrev pub formed : Table → Plan → ℕ → Table
formed t p heap = record t {
  heap_len = heap;
  coded = Some (record { at = 0; wide = p.wide; unit = coded_unit p.codec });
  stored = Some (record { at = descriptor_len p.wide; wide = p.wide; unit = pixel_len p.bitpix });
  gzip = None;
}

-- ---- a row

-- a descriptor that was written is read again
abbrev pub DescriptorsAreRead : Type 0
DescriptorsAreRead = (wide : Bool) (d : Descriptor) (rest : List ℕ) → FitsDescriptor wide d → descriptor_in wide (descriptor_bytes wide d.count d.offset ++ rest) ≡ d

bytes_len : (wide : Bool) (d : Descriptor) → length (descriptor_bytes wide d.count d.offset) ≡ descriptor_len wide
bytes_len true d = refl
bytes_len false d = refl

first_read : DescriptorsAreRead → (wide : Bool) (c s : Descriptor) (rest : List ℕ) → FitsDescriptor wide c → descriptor_in wide (packed_row wide c s ++ rest) ≡ c
first_read read wide c s rest fits =
    ap (descriptor_in wide) (append_assoc (descriptor_bytes wide c.count c.offset) (descriptor_bytes wide s.count s.offset) rest)
    ∙ read wide c (descriptor_bytes wide s.count s.offset ++ rest) fits

second_read : DescriptorsAreRead → (wide : Bool) (c s : Descriptor) (rest : List ℕ) → FitsDescriptor wide s → descriptor_in wide (drop (descriptor_len wide) (packed_row wide c s ++ rest)) ≡ s
second_read read wide c s rest fits =
    let split : packed_row wide c s ++ rest ≡ descriptor_bytes wide c.count c.offset ++ (descriptor_bytes wide s.count s.offset ++ rest) =
    append_assoc (descriptor_bytes wide c.count c.offset) (descriptor_bytes wide s.count s.offset) rest in
    let behind : drop (descriptor_len wide) (packed_row wide c s ++ rest) ≡ descriptor_bytes wide s.count s.offset ++ rest =
    (λ i. drop (sym (bytes_len wide c) i) (split i)) ∙ drop-append_seam (descriptor_bytes wide c.count c.offset) (descriptor_bytes wide s.count s.offset ++ rest) in
    ap (descriptor_in wide) behind ∙ read wide s rest fits

-- a row that says this
abbrev row_saying : Descriptor → Descriptor → Row
row_saying c s = record { coded = c; stored = s; gzip = described 0 0 }

row_is : DescriptorsAreRead → (file : List ℕ) (t : Table) (p : Plan) (heap row : ℕ) (c s : Descriptor) (rest : List ℕ) → FitsDescriptor p.wide c → FitsDescriptor p.wide s →
    drop (row_start t row) file ≡ packed_row p.wide c s ++ rest → row_at file (formed t p heap) row ≡ row_saying c s
row_is read file t p heap row c s rest fits fits' here =
    let front : row_start t row + 0 ≡ row_start t row = omega arith in
    let coded : descriptor_in p.wide (drop (row_start t row + 0) file) ≡ c =
    ap (λ k. descriptor_in p.wide (drop k file)) front ∙ (ap (descriptor_in p.wide) here ∙ first_read read p.wide c s rest fits) in
    let stored : descriptor_in p.wide (drop (row_start t row + descriptor_len p.wide) file) ≡ s =
    ap (descriptor_in p.wide) (sym (drop-drop (descriptor_len p.wide) (row_start t row) file) ∙ ap (drop (descriptor_len p.wide)) here) ∙ second_read read p.wide c s rest fits' in
    λ i. record { coded = coded i; stored = stored i; gzip = described 0 0 }

-- ---- the record of a row

record_standing : Table → TileColumn → ℕ → ℕ → Tile → Record
record_standing t column offset total tile = record { column = column; start = t.heap_at + offset; total = total; read = min total (8 * tile.pixels + 64) }

coded_found : (t : Table) (p : Plan) (heap hdu row count offset : ℕ) (tile : Tile) → 0 < count → offset + count * coded_unit p.codec ≤ heap → tile.plain ≡ false →
    record_of hdu row (formed t p heap) (row_saying (described count offset) (described 0 0)) tile ≡ Ok (record_standing t column.Coded offset (count * coded_unit p.codec) tile)
unfolding record_of record_standing
coded_found t p heap hdu row count offset tile some within coded =
    let chosen : nat_lt 0 count ≡ true = grind (arith, nat_tests, some) in
    let counted : (count == 0) ≡ false = grind (arith, nat_tests, some) in
    let inside : nat_lt heap (offset + count * coded_unit p.codec) ≡ false = grind (arith, nat_tests, within) in
    rw (chosen, counted, inside, coded) refl

stored_found : (t : Table) (p : Plan) (heap hdu row count offset : ℕ) (tile : Tile) → 0 < count → offset + count * pixel_len p.bitpix ≤ heap → count * pixel_len p.bitpix ≡ tile.plain_len →
    record_of hdu row (formed t p heap) (row_saying (described 0 0) (described count offset)) tile ≡ Ok (record_standing t column.Stored offset (count * pixel_len p.bitpix) tile)
unfolding record_of record_standing
stored_found t p heap hdu row count offset tile some within size =
    let counted : (count == 0) ≡ false = grind (arith, nat_tests, some) in
    let inside : nat_lt heap (offset + count * pixel_len p.bitpix) ≡ false = grind (arith, nat_tests, within) in
    let same : (count * pixel_len p.bitpix == tile.plain_len) ≡ true = grind (arith, nat_tests, size) in
    rw (counted, inside, same) refl

-- whole elements of a column have all bytes
whole_elements : (len unit : ℕ) → len % unit ≡ 0 → len / unit * unit ≡ len
whole_elements len unit whole = let parts : len / unit * unit + len % unit ≡ len = div-add-mod' len unit in omega arith

some_elements : (len unit : ℕ) → 1 ≤ len → len / unit * unit ≡ len → 0 < len / unit
some_elements len unit some whole = by_count (len / unit) whole
  where
    by_count : (count : ℕ) → count * unit ≡ len → 0 < count
    by_count zero e = absurd omega (arith, e, some)
    by_count (suc count) e = omega arith

coded_units : (codec : Codec) (bitpix : ℕ) → element_len codec bitpix place.Coded ≡ coded_unit codec
coded_units (Rice block bytepix) bitpix = refl
coded_units Plio bitpix = refl
coded_units Plain bitpix = refl

stored_units : (codec : Codec) (bitpix : ℕ) → element_len codec bitpix place.Stored ≡ bitpix / 8
stored_units (Rice block bytepix) bitpix = refl
stored_units Plio bitpix = refl
stored_units Plain bitpix = refl

-- the bytes of a record that are read
read_is : (start total pixels len : ℕ) (file bytes rest : List ℕ) → total ≡ len → len ≡ length bytes → length bytes ≤ 8 * pixels → drop start file ≡ bytes ++ rest →
    take (min total (8 * pixels + 64)) (drop start file) ≡ bytes
read_is start total pixels len file bytes rest same whole few here =
    let all : min total (8 * pixels + 64) ≡ length bytes = omega (arith, same, whole, few) in
    (λ i. take (all i) (here i)) ∙ take-append_seam bytes rest

-- numbers of a descriptor that are no greater than this fit
abbrev pub FitWithin : Bool → ℕ → Type 0
FitWithin wide most = (count offset : ℕ) → count ≤ most → offset ≤ most → FitsDescriptor wide (described count offset)

-- What is known of a row that was written, and of its code.
pub record IsRowOfCode (file : List ℕ) (t : Table) (p : Plan) (heap row offset : ℕ) (xs : List ℤ) (e : TileCode) : Type 0 where
  pub is : IsCodeOf p xs e
  pub pixels : length xs ≡ pixels_of p row
  pub within : offset + length e.bytes ≤ heap
  pub fits : FitWithin p.wide (offset + length e.bytes)
  pub rest : List ℕ
  pub here : drop (row_start t row) file ≡ row_of p offset e ++ rest
  pub behind : List ℕ
  pub there : drop (t.heap_at + offset) file ≡ e.bytes ++ behind

module _ (read : DescriptorsAreRead) (file : List ℕ) (hdu : ℕ) (t : Table) (p : Plan) (heap row offset : ℕ) (xs : List ℤ) (e : TileCode) (w : IsRowOfCode file t p heap row offset xs e) where
  few : length e.bytes ≤ 8 * pixels_of p row
  few = subst (λ n. length e.bytes ≤ 8 * n) w.pixels w.is.few

  coded_stands : e.place ≡ place.Coded → RowIsOf file hdu p (formed t p heap) row xs
  unfolding record_standing
  coded_stands coded =
      let unit : ℕ = coded_unit p.codec in
      let count : ℕ = length e.bytes / unit in
      let within : offset + length e.bytes ≤ heap = w.within in
      let whole : count * unit ≡ length e.bytes =
      whole_elements (length e.bytes) unit
      (subst (λ u. length e.bytes % u ≡ 0) (coded_units p.codec (pixel_bits p)) (subst (λ pl. length e.bytes % element_len p.codec (pixel_bits p) pl ≡ 0) coded w.is.elements.whole)) in
      let some : 0 < count = some_elements (length e.bytes) unit w.is.elements.some whole in
      let most : count ≤ length e.bytes = div-le_self (length e.bytes) unit in
      let is_row : row_of p offset e ≡ packed_row p.wide (described count offset) (described 0 0) =
      ap (λ (pl : Place2). if is_coded pl then packed_row p.wide (described (if is_coded pl then count else 0) offset) (described 0 0)
      else packed_row p.wide (described 0 0) (described (if is_coded pl then 0 else length e.bytes / pixel_len p.bitpix) offset)) coded in
      let says : row_at file (formed t p heap) row ≡ row_saying (described count offset) (described 0 0) =
      row_is read file t p heap row (described count offset) (described 0 0) w.rest (w.fits count offset (omega arith) (omega arith)) (w.fits 0 0 (omega arith) (omega arith))
      (w.here ∙ ap (λ l. l ++ w.rest) is_row) in
      let inside : offset + count * unit ≤ heap = omega (arith, whole, within) in
      let bytes : record_bytes file (record_standing t column.Coded offset (count * unit) (tile_of p row)) ≡ e.bytes =
      read_is (t.heap_at + offset) (count * unit) (pixels_of p row) (length e.bytes) file e.bytes w.behind whole refl few w.there in
      record {
        found = record_standing t column.Coded offset (count * unit) (tile_of p row);
        chosen =
            ap (λ r. record_of hdu row (formed t p heap) r (tile_of p row)) says
            ∙ coded_found t p heap hdu row count offset (tile_of p row) some inside (w.is.coded coded);
        count = w.pixels;
        means =
            subst (λ r. IsRecord p.codec (pixel_bits p) place.Coded (count * unit) r xs) (sym bytes)
            (subst (λ n. IsRecord p.codec (pixel_bits p) place.Coded n e.bytes xs) (sym whole)
            (subst (λ pl. IsRecord p.codec (pixel_bits p) pl (length e.bytes) e.bytes xs) coded w.is.holds));
      }

  stored_stands : e.place ≡ place.Stored → RowIsOf file hdu p (formed t p heap) row xs
  unfolding record_standing
  stored_stands stored =
      let unit : ℕ = pixel_len p.bitpix in
      let count : ℕ = length e.bytes / unit in
      let within : offset + length e.bytes ≤ heap = w.within in
      let whole : count * unit ≡ length e.bytes =
      whole_elements (length e.bytes) unit
      (subst (λ u. length e.bytes % u ≡ 0) (stored_units p.codec (pixel_bits p)) (subst (λ pl. length e.bytes % element_len p.codec (pixel_bits p) pl ≡ 0) stored w.is.elements.whole)) in
      let some : 0 < count = some_elements (length e.bytes) unit w.is.elements.some whole in
      let most : count ≤ length e.bytes = div-le_self (length e.bytes) unit in
      let is_row : row_of p offset e ≡ packed_row p.wide (described 0 0) (described count offset) =
      ap (λ (pl : Place2). if is_coded pl then packed_row p.wide (described (if is_coded pl then length e.bytes / coded_unit p.codec else 0) offset) (described 0 0)
      else packed_row p.wide (described 0 0) (described (if is_coded pl then 0 else count) offset)) stored in
      let says : row_at file (formed t p heap) row ≡ row_saying (described 0 0) (described count offset) =
      row_is read file t p heap row (described 0 0) (described count offset) w.rest (w.fits 0 0 (omega arith) (omega arith)) (w.fits count offset (omega arith) (omega arith))
      (w.here ∙ ap (λ l. l ++ w.rest) is_row) in
      let inside : offset + count * unit ≤ heap = omega (arith, whole, within) in
      let size : count * unit ≡ pixel_bits p / 8 * pixels_of p row = whole ∙ (w.is.stored stored ∙ ap (λ n. pixel_bits p / 8 * n) w.pixels) in
      let bytes : record_bytes file (record_standing t column.Stored offset (count * unit) (tile_of p row)) ≡ e.bytes =
      read_is (t.heap_at + offset) (count * unit) (pixels_of p row) (length e.bytes) file e.bytes w.behind whole refl few w.there in
      record {
        found = record_standing t column.Stored offset (count * unit) (tile_of p row);
        chosen =
            ap (λ r. record_of hdu row (formed t p heap) r (tile_of p row)) says
            ∙ stored_found t p heap hdu row count offset (tile_of p row) some inside size;
        count = w.pixels;
        means =
            subst (λ r. IsRecord p.codec (pixel_bits p) place.Stored (count * unit) r xs) (sym bytes)
            (subst (λ n. IsRecord p.codec (pixel_bits p) place.Stored n e.bytes xs) (sym whole)
            (subst (λ pl. IsRecord p.codec (pixel_bits p) pl (length e.bytes) e.bytes xs) stored w.is.holds));
      }

  pub row_stands : RowIsOf file hdu p (formed t p heap) row xs
  row_stands = by_place e.place refl
    where
      by_place : (pl : Place2) → e.place ≡ pl → RowIsOf file hdu p (formed t p heap) row xs
      by_place place.Coded is = coded_stands is
      by_place place.Stored is = stored_stands is
