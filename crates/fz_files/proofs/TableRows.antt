-- The rows of the table of an image stand for the tiles of the image.
use Rattle.std.proofs.Common.{◌≡◌, ℕ, ◌+◌, ◌-◌, ◌*◌, ◌/◌, ◌%◌, ◌<◌, ◌≤◌, min, Bool, ℤ, List, ◌++◌, length, take, drop, map, replicate, Ok, if◌then◌else◌, refl, sym, subst, ◌∙◌, ap, arith}
use Rattle.std.proofs.Math.Nat.{div-le_self}
use Rattle.std.proofs.Math.Seq.{take-append_seam, drop-append_seam, drop-append-add}
use Rattle.std.proofs.lemmas.List.{append_assoc, drop-drop, length-append, take-append-drop}
use Rattle.std.proofs.lemmas.List.FromFn.{get_or-map-range_with_len, length-map-range_with_len}
use Rattle.std.specs.List.{range_with_len}
use Rattle.fz_block.specs.Header.{data_start_of, whole_blocks_of}
use Rattle.fz_block.specs.Walk.{hdu_of}
use Rattle.fz_block.specs.declared.header.Header.{Header}
use Rattle.fz_grid.specs.Arrays.{NumberArray}
use Rattle.fz_grid.specs.Grid.{tile}
use Rattle.fz_grid.specs.Region.{lengths_of}
use Rattle.fz_table.specs.Records.{record_at, record_bytes, record_of}
use Rattle.fz_table.specs.Rows.{FitsDescriptor, packed_row, row_at}
use Rattle.fz_table.specs.declared.record.Record.{Record}
use Rattle.fz_table.specs.declared.record.TileColumn.TheVariants as column
use Rattle.fz_table.specs.declared.table.Table.{Table}
use Rattle.fz_tile.specs.Record.{IsRecord}
use Rattle.fz_tile.specs.TileCode.{TileCode, element_len, tile_code}
use Rattle.fz_tile.specs.declared.codec.Codec.{Codec}
use Rattle.fz_tile.specs.declared.codec.Codec.TheVariants.{Rice, Plio, Plain}
use Rattle.fz_tile.specs.declared.coded.Place2.{Place2}
use Rattle.fz_tile.specs.declared.coded.Place2.TheVariants as place
use Rattle.fz_head.specs.PackedTable.{coded_unit, packed_table, planned_row, planned_rows}
use Rattle.fz_head.specs.Planned.{pixel_len}
use Rattle.fz_head.specs.declared.plan.Plan.{Plan}
use Rattle.fz_files.specs.Packed.{described, heap_of, is_coded, packed_data, pixel_bits, row_of, rows_from, tile_codes, tiles_in}
use Rattle.fz_files.specs.Restored.{RecordMeans, RowStandsFor, image_table, pixels_of, plan_in, tile_of}
use Rattle.fz_files.proofs.TableCodes.{IsCodeOf}
use Rattle.fz_files.proofs.TablePlaces.{DescriptorsAreRead, StandsAmong, coded_found, record_standing, row_is, row_saying, rows_len, some_elements, stands_among, stored_found, whole_elements}

-- a row stands for these pixels, by the plan and the table
pub record RowIsOf (file : List ℕ) (hdu : ℕ) (p : Plan) (table : Table) (row : ℕ) (xs : List ℤ) : Type 0 where
  pub found : Record
  pub chosen : record_at file hdu table row (tile_of p row) ≡ Ok found
  pub count : length xs ≡ pixels_of p row
  pub means : RecordMeans file p found xs

-- numbers of a descriptor that are no greater than this fit
abbrev pub FitWithin : Bool → ℕ → Type 0
FitWithin wide most = (count offset : ℕ) → count ≤ most → offset ≤ most → FitsDescriptor wide (described count offset)

coded_units : (codec : Codec) (bitpix : ℕ) → element_len codec bitpix place.Coded ≡ coded_unit codec
coded_units (Rice block bytepix) bitpix = refl
coded_units Plio bitpix = refl
coded_units Plain bitpix = refl

stored_units : (codec : Codec) (bitpix : ℕ) → element_len codec bitpix place.Stored ≡ bitpix / 8
stored_units (Rice block bytepix) bitpix = refl
stored_units Plio bitpix = refl
stored_units Plain bitpix = refl

-- the bytes of a record that are read
read_is : (start total pixels len : ℕ) (file bytes rest : List ℕ) → total ≡ len → len ≡ length bytes → length bytes ≤ 8 * pixels → drop start file ≡ bytes ++ rest →
    take (min total (8 * pixels + 64)) (drop start file) ≡ bytes
read_is start total pixels len file bytes rest same whole few here =
    let all : min total (8 * pixels + 64) ≡ length bytes = omega (arith, same, whole, few) in
    (λ i. take (all i) (here i)) ∙ take-append_seam bytes rest

coded_stands : DescriptorsAreRead → (file : List ℕ) (hdu : ℕ) (p : Plan) (at heap t offset : ℕ) (xs : List ℤ) (e : TileCode) (rest behind : List ℕ) → IsCodeOf p xs e →
    length xs ≡ pixels_of p t → offset + length e.bytes ≤ heap → FitWithin p.wide heap → drop (at + planned_row p * t) file ≡ row_of p offset e ++ rest →
    drop (at + planned_row p * planned_rows p + offset) file ≡ e.bytes ++ behind → e.place ≡ place.Coded → RowIsOf file hdu p (packed_table p at heap) t xs
coded_stands read file hdu p at heap t offset xs e rest behind is pixels within fits here there coded =
    let unit : ℕ = coded_unit p.codec in
    let count : ℕ = length e.bytes / unit in
    let whole : count * unit ≡ length e.bytes =
    whole_elements (length e.bytes) unit
    (subst (λ u. length e.bytes % u ≡ 0) (coded_units p.codec (pixel_bits p)) (subst (λ pl. length e.bytes % element_len p.codec (pixel_bits p) pl ≡ 0) coded is.elements.whole)) in
    let some : 0 < count = some_elements (length e.bytes) unit is.elements.some whole in
    let most : count ≤ length e.bytes = div-le_self (length e.bytes) unit in
    let row : row_of p offset e ≡ packed_row p.wide (described count offset) (described 0 0) =
    ap (λ (pl : Place2). if is_coded pl then packed_row p.wide (described (if is_coded pl then count else 0) offset) (described 0 0)
    else packed_row p.wide (described 0 0) (described (if is_coded pl then 0 else length e.bytes / pixel_len p.bitpix) offset)) coded in
    let says : row_at file (packed_table p at heap) t ≡ row_saying (described count offset) (described 0 0) =
    row_is read file p at heap t (described count offset) (described 0 0) rest (fits count offset (omega arith) (omega arith)) (fits 0 0 (omega arith) (omega arith))
    (here ∙ ap (λ l. l ++ rest) row) in
    let inside : offset + count * unit ≤ heap = omega (arith, whole, within) in
    let few : length e.bytes ≤ 8 * pixels_of p t = subst (λ n. length e.bytes ≤ 8 * n) pixels is.few in
    let bytes : record_bytes file (record_standing p at column.Coded offset (count * unit) (tile_of p t)) ≡ e.bytes =
    read_is (at + planned_row p * planned_rows p + offset) (count * unit) (pixels_of p t) (length e.bytes) file e.bytes behind whole refl few there in
    record {
      found = record_standing p at column.Coded offset (count * unit) (tile_of p t);
      chosen =
          ap (λ r. record_of hdu t (packed_table p at heap) r (tile_of p t)) says
          ∙ coded_found p at heap hdu t count offset (tile_of p t) some inside (is.coded coded);
      count = pixels;
      means =
          subst (λ r. IsRecord p.codec (pixel_bits p) place.Coded (count * unit) r xs) (sym bytes)
          (subst (λ n. IsRecord p.codec (pixel_bits p) place.Coded n e.bytes xs) (sym whole)
          (subst (λ pl. IsRecord p.codec (pixel_bits p) pl (length e.bytes) e.bytes xs) coded is.holds));
    }

stored_stands : DescriptorsAreRead → (file : List ℕ) (hdu : ℕ) (p : Plan) (at heap t offset : ℕ) (xs : List ℤ) (e : TileCode) (rest behind : List ℕ) → IsCodeOf p xs e →
    length xs ≡ pixels_of p t → offset + length e.bytes ≤ heap → FitWithin p.wide heap → drop (at + planned_row p * t) file ≡ row_of p offset e ++ rest →
    drop (at + planned_row p * planned_rows p + offset) file ≡ e.bytes ++ behind → e.place ≡ place.Stored → RowIsOf file hdu p (packed_table p at heap) t xs
stored_stands read file hdu p at heap t offset xs e rest behind is pixels within fits here there stored =
    let unit : ℕ = pixel_len p.bitpix in
    let count : ℕ = length e.bytes / unit in
    let whole : count * unit ≡ length e.bytes =
    whole_elements (length e.bytes) unit
    (subst (λ u. length e.bytes % u ≡ 0) (stored_units p.codec (pixel_bits p)) (subst (λ pl. length e.bytes % element_len p.codec (pixel_bits p) pl ≡ 0) stored is.elements.whole)) in
    let some : 0 < count = some_elements (length e.bytes) unit is.elements.some whole in
    let most : count ≤ length e.bytes = div-le_self (length e.bytes) unit in
    let row : row_of p offset e ≡ packed_row p.wide (described 0 0) (described count offset) =
    ap (λ (pl : Place2). if is_coded pl then packed_row p.wide (described (if is_coded pl then length e.bytes / coded_unit p.codec else 0) offset) (described 0 0)
    else packed_row p.wide (described 0 0) (described (if is_coded pl then 0 else count) offset)) stored in
    let says : row_at file (packed_table p at heap) t ≡ row_saying (described 0 0) (described count offset) =
    row_is read file p at heap t (described 0 0) (described count offset) rest (fits 0 0 (omega arith) (omega arith)) (fits count offset (omega arith) (omega arith))
    (here ∙ ap (λ l. l ++ rest) row) in
    let inside : offset + count * unit ≤ heap = omega (arith, whole, within) in
    let few : length e.bytes ≤ 8 * pixels_of p t = subst (λ n. length e.bytes ≤ 8 * n) pixels is.few in
    let size : count * unit ≡ pixel_bits p / 8 * pixels_of p t = whole ∙ (is.stored stored ∙ ap (λ n. pixel_bits p / 8 * n) pixels) in
    let bytes : record_bytes file (record_standing p at column.Stored offset (count * unit) (tile_of p t)) ≡ e.bytes =
    read_is (at + planned_row p * planned_rows p + offset) (count * unit) (pixels_of p t) (length e.bytes) file e.bytes behind whole refl few there in
    record {
      found = record_standing p at column.Stored offset (count * unit) (tile_of p t);
      chosen =
          ap (λ r. record_of hdu t (packed_table p at heap) r (tile_of p t)) says
          ∙ stored_found p at heap hdu t count offset (tile_of p t) some inside size;
      count = pixels;
      means =
          subst (λ r. IsRecord p.codec (pixel_bits p) place.Stored (count * unit) r xs) (sym bytes)
          (subst (λ n. IsRecord p.codec (pixel_bits p) place.Stored n e.bytes xs) (sym whole)
          (subst (λ pl. IsRecord p.codec (pixel_bits p) pl (length e.bytes) e.bytes xs) stored is.holds));
    }

row_stands : DescriptorsAreRead → (file : List ℕ) (hdu : ℕ) (p : Plan) (at heap t offset : ℕ) (xs : List ℤ) (e : TileCode) (rest behind : List ℕ) → IsCodeOf p xs e →
    length xs ≡ pixels_of p t → offset + length e.bytes ≤ heap → FitWithin p.wide heap → drop (at + planned_row p * t) file ≡ row_of p offset e ++ rest →
    drop (at + planned_row p * planned_rows p + offset) file ≡ e.bytes ++ behind → RowIsOf file hdu p (packed_table p at heap) t xs
row_stands read file hdu p at heap t offset xs e rest behind is pixels within fits here there = by_place e.place refl
  where
    by_place : (pl : Place2) → e.place ≡ pl → RowIsOf file hdu p (packed_table p at heap) t xs
    by_place place.Coded at_place = coded_stands read file hdu p at heap t offset xs e rest behind is pixels within fits here there at_place
    by_place place.Stored at_place = stored_stands read file hdu p at heap t offset xs e rest behind is pixels within fits here there at_place

-- ---- the data of the table

-- a part of some bytes, with others after them
part_of : (bytes front middle back rest : List ℕ) (n : ℕ) → bytes ≡ front ++ (middle ++ back) → length front ≡ n → drop n (bytes ++ rest) ≡ middle ++ (back ++ rest)
part_of bytes front middle back rest n same len =
    (λ i. drop (sym len i) (same i ++ rest))
    ∙ (ap (drop (length front)) (append_assoc front (middle ++ back) rest)
    ∙ (drop-append_seam front ((middle ++ back) ++ rest) ∙ append_assoc middle back rest))

-- the file from the data of an HDU on
data_here : (file : List ℕ) (h : Header) (content : List ℕ) → (hdu_of file h).payload ≡ content → drop (data_start_of h) file ≡ content ++ drop (whole_blocks_of h.data_len) (drop (data_start_of h) file)
data_here file h content is =
    sym (take-append-drop (whole_blocks_of h.data_len) (drop (data_start_of h) file)) ∙ ap (λ l. l ++ drop (whole_blocks_of h.data_len) (drop (data_start_of h) file)) is

-- where no number in the heap is too great for a descriptor, every row stands for its tile
pub rows_are : DescriptorsAreRead → (file : List ℕ) (h : Header) (p : Plan) (a : NumberArray) (t : ℕ) → (hdu_of file h).payload ≡ packed_data p (tile_codes p a) → t < tiles_in p →
    FitWithin p.wide (length (heap_of (tile_codes p a))) → length (tile a (lengths_of p.tile) t) ≡ pixels_of p t →
    IsCodeOf p (tile a (lengths_of p.tile) t) (tile_code p.codec (pixel_bits p) (tile a (lengths_of p.tile) t)) →
    RowIsOf file h.hdu p (packed_table p (data_start_of h) (length (heap_of (tile_codes p a)))) t (tile a (lengths_of p.tile) t)
unfolding tile_codes
rows_are read file h p a t is less fits pixels code =
    let f : ℕ → TileCode = λ k. tile_code p.codec (pixel_bits p) (tile a (lengths_of p.tile) k) in
    let es : List TileCode = map f (range_with_len 0 (tiles_in p)) in
    let many : length es ≡ tiles_in p = length-map-range_with_len f 0 (tiles_in p) in
    let s : StandsAmong p 0 es t (f t) =
    stands_among p 0 es t (f t) (subst (λ n. t < n) (sym many) less) (get_or-map-range_with_len f 0 (tiles_in p) t t (f t) less (omega arith)) in
    let rows : List ℕ = rows_from p 0 es in
    let heap : List ℕ = heap_of es in
    let fill : List ℕ = replicate (whole_blocks_of (length (rows ++ heap)) - length (rows ++ heap)) 0 in
    let rest : List ℕ = drop (whole_blocks_of h.data_len) (drop (data_start_of h) file) in
    let content : drop (data_start_of h) file ≡ rows ++ (heap ++ (fill ++ rest)) =
    data_here file h ((rows ++ heap) ++ fill) is ∙ (append_assoc (rows ++ heap) fill rest ∙ append_assoc rows heap (fill ++ rest)) in
    let start : 0 + s.offset ≡ s.offset = omega arith in
    let row : drop (data_start_of h + planned_row p * t) file ≡ row_of p s.offset (f t) ++ (s.rows_behind ++ (heap ++ (fill ++ rest))) =
    sym (drop-drop (planned_row p * t) (data_start_of h) file)
    ∙ (ap (drop (planned_row p * t)) content
    ∙ (part_of rows s.rows_before (row_of p (0 + s.offset) (f t)) s.rows_behind (heap ++ (fill ++ rest)) (planned_row p * t) s.rows s.rows_at
    ∙ ap (λ o. row_of p o (f t) ++ (s.rows_behind ++ (heap ++ (fill ++ rest)))) start)) in
    let rows_all : length rows ≡ planned_row p * planned_rows p = rows_len p 0 es ∙ ap (λ n. planned_row p * n) many in
    let order : data_start_of h + planned_row p * planned_rows p + s.offset ≡ data_start_of h + (planned_row p * planned_rows p + s.offset) = omega arith in
    let bytes : drop (data_start_of h + planned_row p * planned_rows p + s.offset) file ≡ (f t).bytes ++ (s.heap_behind ++ (fill ++ rest)) =
    ap (λ n. drop n file) order
    ∙ (sym (drop-drop (planned_row p * planned_rows p + s.offset) (data_start_of h) file)
    ∙ (ap (drop (planned_row p * planned_rows p + s.offset)) content
    ∙ (ap (λ n. drop (n + s.offset) (rows ++ (heap ++ (fill ++ rest)))) (sym rows_all)
    ∙ (drop-append-add rows (heap ++ (fill ++ rest)) s.offset
    ∙ part_of heap s.heap_before (f t).bytes s.heap_behind (fill ++ rest) s.offset s.heap s.heap_at)))) in
    let inside : s.offset + length (f t).bytes ≤ length heap =
    let whole : length heap ≡ length s.heap_before + length ((f t).bytes ++ s.heap_behind) = ap length s.heap ∙ length-append s.heap_before ((f t).bytes ++ s.heap_behind) in
    let parts : length ((f t).bytes ++ s.heap_behind) ≡ length (f t).bytes + length s.heap_behind = length-append (f t).bytes s.heap_behind in
    omega (arith, s.heap_at, whole, parts) in
    row_stands read file h.hdu p (data_start_of h) (length heap) t s.offset (tile a (lengths_of p.tile) t) (f t) (s.rows_behind ++ (heap ++ (fill ++ rest))) (s.heap_behind ++ (fill ++ rest))
    code pixels inside fits row bytes

-- as the rows of the HDU itself
pub stands_by : (file : List ℕ) (h : Header) (p : Plan) (table : Table) (t : ℕ) (xs : List ℤ) → plan_in file h ≡ p → image_table file h ≡ table → RowIsOf file h.hdu p table t xs → RowStandsFor file h t xs
stands_by file h p table t xs plan_is table_is r =
    let own : RowIsOf file h.hdu (plan_in file h) (image_table file h) t xs =
    subst (λ q. RowIsOf file h.hdu q (image_table file h) t xs) (sym plan_is) (subst (λ u. RowIsOf file h.hdu p u t xs) (sym table_is) r) in
    record { found = own.found; chosen = own.chosen; count = own.count; means = own.means }
