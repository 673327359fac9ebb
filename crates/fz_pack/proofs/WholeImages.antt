-- The image of a file, and its table: what is written for the tiles of the payload, and the cards of the HDU.
use Rattle.std.proofs.Common.{◌≡◌, ℕ, ◌+◌, ◌*◌, ◌/◌, ◌^◌, ◌≤◌, Bool, List, length, map, take, drop, Option, Some, None, IfSome, refl, sym, ◌∙◌, ap, take-take, take_all, arith}
use Rattle.std.specs.List.{range_with_len}
use Rattle.std.proofs.Math.Nat.{mul-zero}
use Rattle.std.proofs.lemmas.List.FromFn.{length-map-range_with_len}
use Rattle.std.proofs.lemmas.Simd.{map-map}
use Rattle.fz_base.specs.Sink.{written}
use Rattle.fz_base.specs.Source.{Reads}
use Rattle.fz_block.specs.Facts.{IsHeaderOf}
use Rattle.fz_block.specs.Hdus.{cards_of}
use Rattle.fz_block.specs.Header.{data_start_of, next_start_of, whole_blocks_of}
use Rattle.fz_block.specs.Walk.{hdu_of}
use Rattle.fz_block.specs.declared.header.Header.{Header}
use Rattle.fz_grid.specs.Arrays.{NumberArray, product}
use Rattle.fz_grid.specs.Grid.{tile}
use Rattle.fz_grid.specs.Region.{lengths_of}
use Rattle.fz_tile.specs.Laws.{SlicesPixels}
use Rattle.fz_tile.specs.Plain.{pixel_of, stored_pixels}
use Rattle.fz_tile.specs.TileCode.{tile_code}
use Rattle.fz_head.specs.Planned.{pixel_len}
use Rattle.fz_head.specs.declared.plan.Plan.{Plan}
use Rattle.fz_files.specs.Packed.{array_of, packed_table, pixel_bits, tile_codes, tiles_in}
use Rattle.fz_image.specs.Image.{HoldsCodes, HoldsTable}
use Rattle.fz_image.specs.Layout.{HasPixels, IsLayout, IsPlan, layout_of}
use Rattle.fz_image.specs.Tiles.{codes_from}

-- ---- the layout

pub le_blocks : (n : ℕ) → n ≤ whole_blocks_of n
le_blocks n = omega arith

pub image_layout : (h : Header) (p : Plan) (rows_at : ℕ) → IsPlan p → 1 ≤ rows_at → rows_at ≤ 2 ^ 63 → next_start_of h ≤ 2 ^ 62 → IsLayout (layout_of h p rows_at)
image_layout h p rows_at is behind near end = record {
  plan = is;
  tiles = refl;
  pixel_len = refl;
  row_len = refl;
  behind = behind;
  near = near;
  pixels = omega (arith, end);
}

pub image_pixels : (h : Header) (p : Plan) (rows_at : ℕ) (attached : Option ℕ) → h.data_len ≡ pixel_len p.bitpix * product (lengths_of p.shape) → (n : ℕ) → attached ≡ Some n → next_start_of h ≤ n → HasPixels attached (layout_of h p rows_at)
image_pixels h p rows_at attached size n is end = (n, is, omega (arith, end, le_blocks h.data_len, size))

-- ---- the codes of the tiles

-- the first pixels of bytes are those of the bytes up to their end
stored_front : SlicesPixels → (bits n m : ℕ) (bytes : List ℕ) → bits / 8 * n ≤ m → stored_pixels bits n (take m bytes) ≡ stored_pixels bits n bytes
stored_front slices bits n m bytes within =
    at (take m bytes) ∙ ap (stored_pixels bits n) (take-take (bits / 8 * n) m bytes within) ∙ sym (at bytes)
  where
    counted : (all : List ℕ) → length (stored_pixels bits n all) ≡ n
    counted all = length-map-range_with_len (λ i. pixel_of bits (take (bits / 8) (drop (bits / 8 * i) all))) 0 n

    none : bits / 8 * 0 ≡ 0
    none = mul-zero (bits / 8)

    at : (all : List ℕ) → stored_pixels bits n all ≡ stored_pixels bits n (take (bits / 8 * n) all)
    at all =
        sym (take_all n (stored_pixels bits n all) (omega (arith, counted all)))
        ∙ slices bits 0 n n all (omega arith)
        ∙ ap (λ k. stored_pixels bits n (take (bits / 8 * n) (drop k all))) none

pub codes_same : SlicesPixels → (h : Header) (p : Plan) (rows_at : ℕ) (file : List ℕ) → h.data_len ≡ pixel_len p.bitpix * product (lengths_of p.shape) →
    codes_from (layout_of h p rows_at) file 0 (tiles_in p) ≡ tile_codes p (array_of p (hdu_of file h).payload)
unfolding tile_codes
codes_same slices h p rows_at file size =
    let rest : List ℕ = drop (data_start_of h) file in
    let within : pixel_bits p / 8 * product (lengths_of p.shape) ≤ whole_blocks_of h.data_len = omega (arith, size, le_blocks h.data_len) in
    let numbers : stored_pixels (pixel_bits p) (product (lengths_of p.shape)) rest ≡ stored_pixels (pixel_bits p) (product (lengths_of p.shape)) (take (whole_blocks_of h.data_len) rest) =
    sym (stored_front slices (pixel_bits p) (product (lengths_of p.shape)) (whole_blocks_of h.data_len) rest within) in
    let same : array_of p rest ≡ array_of p (hdu_of file h).payload = λ i. record { lengths = lengths_of p.shape; numbers = numbers i } in
    map-map (tile_code p.codec (pixel_bits p)) (tile (array_of p rest) (lengths_of p.tile)) (range_with_len 0 (tiles_in p))
    ∙ ap (λ (a : NumberArray). map (λ t. tile_code p.codec (pixel_bits p) (tile a (lengths_of p.tile) t)) (range_with_len 0 (tiles_in p))) same

-- ---- the cards

pub header_same : (file buf : List ℕ) (h : Header) → IsHeaderOf buf h → buf ≡ take (length buf) (drop h.start file) → (hdu_of file h).header ≡ buf
header_same file buf h is read =
    let blocks : h.blocks ≡ length buf / 2880 = ap (λ (f : Header). f.blocks) is.facts in
    let whole : 2880 * h.blocks ≡ length buf = omega (arith, blocks, is.whole.blocks) in
    ap (λ n. take n (drop h.start file)) whole ∙ sym read

-- ---- the table

pub holds_table : SlicesPixels → (sums : Bool) (h : Header) (p : Plan) (rows_at : ℕ) (buf : List ℕ) (held : Option (List ℕ)) (at end : ℕ) (before now : Option (List ℕ)) →
    IsHeaderOf buf h → Reads held h.start buf → h.data_len ≡ pixel_len p.bitpix * product (lengths_of p.shape) →
    IfSome held (λ file. HoldsCodes sums (layout_of h p rows_at) (cards_of buf) (codes_from (layout_of h p rows_at) file 0 (tiles_in p)) at end before now) →
    IfSome held (λ file. HoldsTable sums p h file at end before now)
holds_table slices sums h p rows_at buf None at end before now is read size holds = tt
holds_table slices sums h p rows_at buf (Some file) at end before now is read size holds =
    let cards : cards_of buf ≡ cards_of (hdu_of file h).header = ap cards_of (sym (header_same file buf h is read)) in
    let codes : codes_from (layout_of h p rows_at) file 0 (tiles_in p) ≡ tile_codes p (array_of p (hdu_of file h).payload) = codes_same slices h p rows_at file size in
    let table : packed_table sums p (cards_of buf) (codes_from (layout_of h p rows_at) file 0 (tiles_in p)) ≡ packed_table sums p (cards_of (hdu_of file h).header) (tile_codes p (array_of p (hdu_of file h).payload)) =
    λ i. packed_table sums p (cards i) (codes i) in
    record {
      contents = holds.contents ∙ ap (λ t. written at t before) table;
      behind = holds.behind ∙ ap (λ (t : List ℕ). at + length t) table;
    }
