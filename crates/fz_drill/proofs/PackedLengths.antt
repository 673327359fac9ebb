-- How long the packed files of `drill` are, whatever the codes of their rows are.
use Rattle.std.specs.List.{range_with_len}
use Rattle.std.proofs.Common.{◌≡◌, ℕ, zero, suc, ◌+◌, ◌-◌, ◌*◌, ◌/◌, ◌%◌, ◌^◌, ◌<◌, ◌≤◌, nat_lt, min, Bool, true, false, pos, ℤ, List, [], ◌∷◌, ◌++◌, append-nil, length, map, if◌then◌else◌, refl, ap, ◌∙◌, arith, rules}
use Rattle.std.proofs.Math.Nat.{mod-eq_of_lt}
use Rattle.std.proofs.lemmas.Bool.Decides.{nat_tests}
use Rattle.std.proofs.lemmas.List.{length-append, length-map}
use Rattle.std.proofs.lemmas.List.FromFn.{length-range_with_len}
use Rattle.fz_block.specs.Hdus.{Hdu, hdu_bytes}
use Rattle.fz_block.specs.Header.{whole_blocks_of}
use Rattle.fz_block.specs.Walk.{hdu_of}
use Rattle.fz_block.specs.declared.header.Header.{Header}
use Rattle.fz_grid.specs.Arrays.{NumberArray, product}
use Rattle.fz_grid.specs.Division.{AreTileLengths}
use Rattle.fz_grid.specs.Grid.{tile, tile_count, tile_lengths}
use Rattle.fz_grid.specs.Laws.{DividedArraysHaveTiles, TilesHaveAPixel, TilesHaveAtMostTheirLengths, TilesHaveTheirPixels}
use Rattle.fz_grid.specs.Region.{IsDivided, lengths_of}
use Rattle.fz_table.specs.Rows.{packed_row}
use Rattle.fz_table.specs.declared.array.Descriptor.{Descriptor}
use Rattle.fz_tile.specs.Codecs.{CanWrite}
use Rattle.fz_tile.specs.Laws.{FillsColumn, HasPlainLen}
use Rattle.fz_tile.specs.Plain.{AreBytes}
use Rattle.fz_tile.specs.TileCode.{TileCode, tile_code}
use Rattle.fz_tile.specs.declared.codec.Codec.TheVariants as sort
use Rattle.fz_checks.specs.JobChecks.{IsImageToPack}
use Rattle.fz_head.specs.Planned.{pack_plan_of}
use Rattle.fz_head.specs.declared.options.CodecWord.{CodecWord}
use Rattle.fz_head.specs.declared.options.CodecWord.TheVariants as word
use Rattle.fz_head.specs.declared.options.PackOptions.{PackOptions}
use Rattle.fz_head.specs.declared.plan.Plan.{Plan}
use Rattle.fz_files.specs.Drill.{drill_file, drill_packed}
use Rattle.fz_files.specs.Packed.{array_of, coded_count, described, heap_of, is_coded, pixel_bits, row_of, rows_from, stored_count, tile_codes, tiles_in}
use Rattle.fz_drill.specs.Taken.{FileLaws, PackedLaws, TableLaws}
use Rattle.fz_drill.proofs.EmptyPrimary.{empty_hdu, empty_len}
use Rattle.fz_drill.proofs.PackedFile.{parts}
use Rattle.fz_drill.proofs.Pixels.{filled_count}
use Rattle.fz_drill.proofs.PlainFile.{data_count, drill_is, file_count}
use Rattle.fz_drill.proofs.Table.{es, from, o, plan, source, table, table_block, taken}

-- ---- rows and heap

narrow_row : (wide : Bool) (a b : Descriptor) → wide ≡ false → length (packed_row wide a b) ≡ 16
narrow_row wide a b narrow = ap (λ w. length (packed_row w a b)) narrow

row_len : (p : Plan) (offset : ℕ) (e : TileCode) → p.wide ≡ false → length (row_of p offset e) ≡ 16
row_len p offset e narrow = by_place (is_coded e.place)
  where
    by_place : (coded : Bool) →
        length (if coded then packed_row p.wide (described (coded_count p e) offset) (described 0 0) else packed_row p.wide (described 0 0) (described (stored_count p e) offset)) ≡ 16
    by_place true = narrow_row p.wide (described (coded_count p e) offset) (described 0 0) narrow
    by_place false = narrow_row p.wide (described 0 0) (described (stored_count p e) offset) narrow

rows_len : (p : Plan) (offset : ℕ) (codes : List TileCode) → p.wide ≡ false → length (rows_from p offset codes) ≡ 16 * length codes
unfolding rows_from
rows_len p offset [] narrow = refl
rows_len p offset (e ∷ codes) narrow =
    let both : length (row_of p offset e ++ rows_from p (offset + length e.bytes) codes) ≡ length (row_of p offset e) + length (rows_from p (offset + length e.bytes) codes) =
    length-append (row_of p offset e) (rows_from p (offset + length e.bytes) codes) in
    let here : length (row_of p offset e) ≡ 16 = row_len p offset e narrow in
    let rest : length (rows_from p (offset + length e.bytes) codes) ≡ 16 * length codes = rows_len p (offset + length e.bytes) codes narrow in
    omega (arith, both, here, rest)

heap_most : (most : ℕ) (f : ℕ → TileCode) (a n : ℕ) → ((t : ℕ) → t < a + n → length (f t).bytes ≤ most) → length (heap_of (map f (range_with_len a n))) ≤ n * most
unfolding heap_of
heap_most most f a zero each = let none : 0 ≡ 0 * most = omega arith in omega (arith, none)
heap_most most f a (suc n) each =
    let both : length ((f a).bytes ++ heap_of (map f (range_with_len (a + 1) n))) ≡ length (f a).bytes + length (heap_of (map f (range_with_len (a + 1) n))) =
    length-append (f a).bytes (heap_of (map f (range_with_len (a + 1) n))) in
    let here : length (f a).bytes ≤ most = each a (omega arith) in
    let rest : length (heap_of (map f (range_with_len (a + 1) n))) ≤ n * most = heap_most most f (a + 1) n (λ t near. each t (omega (arith, near))) in
    let all : suc n * most ≡ most + n * most = grind arith in
    omega (arith, both, here, rest, all)

heap_exact : (each_len : ℕ) (f : ℕ → TileCode) (a n : ℕ) → ((t : ℕ) → t < a + n → length (f t).bytes ≡ each_len) → length (heap_of (map f (range_with_len a n))) ≡ n * each_len
unfolding heap_of
heap_exact each_len f a zero each = let none : 0 ≡ 0 * each_len = omega arith in none
heap_exact each_len f a (suc n) each =
    let both : length ((f a).bytes ++ heap_of (map f (range_with_len (a + 1) n))) ≡ length (f a).bytes + length (heap_of (map f (range_with_len (a + 1) n))) =
    length-append (f a).bytes (heap_of (map f (range_with_len (a + 1) n))) in
    let here : length (f a).bytes ≡ each_len = each a (omega arith) in
    let rest : length (heap_of (map f (range_with_len (a + 1) n))) ≡ n * each_len = heap_exact each_len f (a + 1) n (λ t near. each t (omega (arith, near))) in
    let all : suc n * each_len ≡ each_len + n * each_len = grind arith in
    omega (arith, both, here, rest, all)

-- a row is a tile of 256 pixels
row_tile : (rows n : ℕ) → n < rows → product (tile_lengths (256 ∷ rows ∷ []) (256 ∷ 1 ∷ []) n) ≡ 256
row_tile rows n near =
    let counts : (rows + 0) / 1 ≡ rows = omega arith in
    let place : n / 1 % ((rows + 0) / 1) ≡ n = (λ i. n / 1 % counts i) ∙ (ap (λ k. k % rows) (over_one n) ∙ mod-eq_of_lt near) in
    let first : min 256 (256 - n % 1 * 256) ≡ 256 = omega arith in
    let second : min 1 (rows - n / 1 % ((rows + 0) / 1) * 1) ≡ 1 = omega (arith, place, near) in
    λ i. first i * (second i * 1)
  where
    over_one : (n : ℕ) → n / 1 ≡ n
    over_one n = omega arith

-- without a codec the pixels are stored
stored_bytes : HasPlainLen → (xs : List ℤ) → length (tile_code sort.Plain 16 xs).bytes ≡ 2 * length xs
stored_bytes len xs = len 16 xs (search rules)

-- ---- the rows of `drill`

-- what is taken of the laws of tiles
pub record LengthLaws : Type 0 where
  pub packed : PackedLaws
  pub fills : FillsColumn
  pub tiles : TilesHaveTheirPixels
  pub pixel : TilesHaveAPixel
  pub whole : TilesHaveAtMostTheirLengths
  pub divided : DividedArraysHaveTiles
  pub planned : (o : PackOptions) (file : List ℕ) (h : Header) → IsImageToPack o file h → IsDivided (pack_plan_of o h).shape (pack_plan_of o h).tile
  pub writable : (o : PackOptions) (file : List ℕ) (h : Header) → IsImageToPack o file h → CanWrite (pack_plan_of o h).codec (pack_plan_of o h).bitpix

not_wide : (rows : ℕ) → rows ≤ 16384 → nat_lt 2147483647 (2 * (256 * (rows * 1))) ≡ false
not_wide rows few = grind (arith, nat_tests, few)

module _ (l : LengthLaws) (rows : ℕ) (some : 1 ≤ rows) (few : rows ≤ 16384) (codec : CodecWord) (bytes : AreBytes (drill_file rows)) where
  abbrev t : TableLaws
  t = l.packed.tables

  abbrev p : Plan
  p = plan t rows some few codec bytes

  abbrev codes : List TileCode
  codes = es t rows some few codec bytes

  abbrev T : Hdu
  T = table t rows some few codec bytes

  narrow : p.wide ≡ false
  unfolding pack_plan_of
  narrow = not_wide rows few

  shape_is : lengths_of p.shape ≡ 256 ∷ rows ∷ []
  unfolding pack_plan_of
  shape_is = refl

  tile_is : lengths_of p.tile ≡ 256 ∷ 1 ∷ []
  unfolding pack_plan_of
  tile_is = refl

  bits_are : pixel_bits p ≡ 16
  unfolding pack_plan_of
  bits_are = refl

  writes : CanWrite p.codec (pos (pixel_bits p))
  unfolding pack_plan_of
  writes = l.writable (o t rows some few codec bytes) (source t rows some few codec bytes) (from t rows some few codec bytes) (taken t rows some few codec bytes).image

  are_tiles : AreTileLengths (lengths_of p.shape) (lengths_of p.tile)
  are_tiles = l.divided p.shape p.tile (l.planned (o t rows some few codec bytes) (source t rows some few codec bytes) (from t rows some few codec bytes) (taken t rows some few codec bytes).image)

  many : tiles_in p ≡ rows
  many = (λ i. tile_count (shape_is i) (tile_is i)) ∙ count
    where
      count : tile_count (256 ∷ rows ∷ []) (256 ∷ 1 ∷ []) ≡ rows
      count = omega arith

  abbrev a : NumberArray
  a = array_of p (hdu_of (source t rows some few codec bytes) (from t rows some few codec bytes)).payload

  abbrev code : ℕ → TileCode
  code n = tile_code p.codec (pixel_bits p) (tile a (lengths_of p.tile) n)

  codes_are : codes ≡ map code (range_with_len 0 (tiles_in p))
  unfolding tile_codes
  codes_are = refl

  code_most : (n : ℕ) → n < 0 + tiles_in p → length (code n).bytes ≤ 512
  code_most n near =
      let xs : List ℤ = tile a (lengths_of p.tile) n in
      let count : length xs ≡ product (tile_lengths (lengths_of p.shape) (lengths_of p.tile) n) = l.tiles a (lengths_of p.tile) n in
      let least : 1 ≤ product (tile_lengths (lengths_of p.shape) (lengths_of p.tile) n) = l.pixel (lengths_of p.shape) (lengths_of p.tile) n are_tiles (omega (arith, near)) in
      let most : product (tile_lengths (lengths_of p.shape) (lengths_of p.tile) n) ≤ product (lengths_of p.tile) = l.whole (lengths_of p.shape) (lengths_of p.tile) n are_tiles.axes in
      let whole : product (lengths_of p.tile) ≡ 256 = ap product tile_is in
      let long : length (code n).bytes ≤ pixel_bits p / 8 * length xs = (l.fills p.codec (pixel_bits p) xs writes (omega (arith, count, least)) (omega (arith, count, most, whole))).most in
      let two : pixel_bits p / 8 * length xs ≡ 2 * length xs = ap (λ b. b / 8 * length xs) bits_are in
      omega (arith, long, two, count, most, whole)

  pub heap_small : length (heap_of codes) ≤ 512 * rows
  heap_small =
      let small : length (heap_of (map code (range_with_len 0 (tiles_in p)))) ≤ tiles_in p * 512 = heap_most 512 code 0 (tiles_in p) code_most in
      let same : length (heap_of codes) ≡ length (heap_of (map code (range_with_len 0 (tiles_in p)))) = ap (λ es. length (heap_of es)) codes_are in
      omega (arith, small, same, many)

  rows_are : length (rows_from p 0 codes) ≡ 16 * rows
  rows_are =
      let count : length codes ≡ rows = ap length codes_are ∙ (length-map (range_with_len 0 (tiles_in p)) code ∙ (length-range_with_len 0 (tiles_in p) ∙ many)) in
      rows_len p 0 codes narrow ∙ ap (λ n. 16 * n) count

  -- the whole file
  pub packed_is : length (drill_packed rows codec) ≡ 5760 + whole_blocks_of (16 * rows + length (heap_of codes))
  packed_is =
      let block : length T.header ≡ 2880 = table_block t rows some few codec bytes (omega (arith, heap_small, few)) in
      let both : length (rows_from p 0 codes ++ heap_of codes) ≡ length (rows_from p 0 codes) + length (heap_of codes) = length-append (rows_from p 0 codes) (heap_of codes) in
      let payload : length T.payload ≡ whole_blocks_of (length (rows_from p 0 codes ++ heap_of codes)) = filled_count (rows_from p 0 codes ++ heap_of codes) in
      let inside : length (rows_from p 0 codes ++ heap_of codes) ≡ 16 * rows + length (heap_of codes) = omega (arith, both, rows_are) in
      let data_len : length T.payload ≡ whole_blocks_of (16 * rows + length (heap_of codes)) = payload ∙ ap whole_blocks_of inside in
      let tail : length (hdu_bytes T ++ []) ≡ length (hdu_bytes T) = ap length (append-nil (hdu_bytes T)) in
      let hdu : length (hdu_bytes T) ≡ length T.header + length T.payload = length-append T.header T.payload in
      let first : length (hdu_bytes empty_hdu ++ (hdu_bytes T ++ [])) ≡ length (hdu_bytes empty_hdu) + length (hdu_bytes T ++ []) = length-append (hdu_bytes empty_hdu) (hdu_bytes T ++ []) in
      let all : length (hdu_bytes empty_hdu ++ (hdu_bytes T ++ [])) ≡ length (drill_packed rows codec) = ap length (parts l.packed rows some few codec bytes) in
      omega (arith, all, first, tail, hdu, data_len, block, empty_len)

  pub packed_between : (8640 ≤ length (drill_packed rows codec)) × (length (drill_packed rows codec) ≤ 5760 + whole_blocks_of (528 * rows))
  packed_between = (omega (arith, packed_is, some), omega (arith, packed_is, heap_small))

  pub packed_held : length (drill_packed rows codec) ≤ 2 ^ 40
  packed_held = omega (arith, packed_between.1, few)

module _ (l : LengthLaws) (rows : ℕ) (some : 1 ≤ rows) (few : rows ≤ 16384) (bytes : AreBytes (drill_file rows)) where
  abbrev stored_plan : Plan
  stored_plan = p l rows some few word.None bytes

  codec_is : stored_plan.codec ≡ sort.Plain
  unfolding pack_plan_of
  codec_is = refl

  code_exact : (n : ℕ) → n < 0 + tiles_in stored_plan → length (code l rows some few word.None bytes n).bytes ≡ 512
  code_exact n near =
      let xs : List ℤ = tile (a l rows some few word.None bytes) (lengths_of stored_plan.tile) n in
      let count : length xs ≡ product (tile_lengths (lengths_of stored_plan.shape) (lengths_of stored_plan.tile) n) = l.tiles (a l rows some few word.None bytes) (lengths_of stored_plan.tile) n in
      let below : n < rows = omega (arith, near, many l rows some few word.None bytes) in
      let all : product (tile_lengths (lengths_of stored_plan.shape) (lengths_of stored_plan.tile) n) ≡ 256 =
      (λ i. product (tile_lengths (shape_is l rows some few word.None bytes i) (tile_is l rows some few word.None bytes i) n)) ∙ row_tile rows n below in
      let long : length (code l rows some few word.None bytes n).bytes ≡ 2 * length xs = (λ i. length (tile_code (codec_is i) (bits_are l rows some few word.None bytes i) xs).bytes) ∙ stored_bytes l.packed.tables.files.plain_len xs in
      omega (arith, long, count, all)

  heap_is : length (heap_of (codes l rows some few word.None bytes)) ≡ 512 * rows
  heap_is =
      let exact : length (heap_of (map (code l rows some few word.None bytes) (range_with_len 0 (tiles_in stored_plan)))) ≡ tiles_in stored_plan * 512 =
      heap_exact 512 (code l rows some few word.None bytes) 0 (tiles_in stored_plan) code_exact in
      let same : length (heap_of (codes l rows some few word.None bytes)) ≡ length (heap_of (map (code l rows some few word.None bytes) (range_with_len 0 (tiles_in stored_plan)))) =
      ap (λ es. length (heap_of es)) (codes_are l rows some few word.None bytes) in
      omega (arith, exact, same, many l rows some few word.None bytes)

  pub stored_is : length (drill_packed rows word.None) ≡ 5760 + whole_blocks_of (528 * rows)
  stored_is = omega (arith, packed_is l rows some few word.None bytes, heap_is)

-- the file itself
pub plain_is : FileLaws → (rows : ℕ) → rows ≤ 16384 → length (drill_file rows) ≡ 2880 + whole_blocks_of (512 * rows)
plain_is l rows few = omega (arith, file_count l rows few (drill_file rows) (drill_is rows), data_count l rows few)

-- a packed file of `drill` is one that is held
pub short_held : (rows len : ℕ) → rows ≤ 16384 → len ≤ 5760 + whole_blocks_of (528 * rows) → len ≤ 2 ^ 40
short_held rows len few short = omega (arith, few, short)
