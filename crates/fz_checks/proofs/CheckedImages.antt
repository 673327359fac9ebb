-- A packed HDU of which no check refuses anything: its plan divides the image into tiles that can be read, and its table has a row for
-- each.
use Rattle.std.proofs.Common.{◌≡◌, ℕ, ◌+◌, ◌<◌, ◌≤◌, ◌⊎◌, Bool, true, false, cond, List, [], ◌∷◌, ◌++◌, length, get_or, map, min, refl, ap, sym, ◌∙◌, subst, arith, inl, inr, codes}
use Rattle.std.specs.Prelude.{ℤ, pos, negsuc, ◌&&◌, not, ◌==◌, nat_le, Option, Some, None, Ok, is_some}
use Rattle.std.specs.List.{range_with_len}
use Rattle.std.specs.Ordering.{int_eq}
use Rattle.std.proofs.lemmas.Bool.{and_parts, eqb-true, leb-true, ltb-false, not-false, or_cases}
use Rattle.std.proofs.lemmas.Bool.Decides.{Decides-int_eq, nat_tests}
use Rattle.std.proofs.lemmas.List.FromFn.{get_or-map-range_with_len, length-map-range_with_len}
use Rattle.fz_base.specs.Refusal.{first_refusal}
use Rattle.fz_card.specs.Made.{numbered_name}
use Rattle.fz_card.specs.Reading.{integer_of}
use Rattle.fz_block.specs.Checks.{unless_refused}
use Rattle.fz_block.specs.Facts.{IsHeaderOf, nine_axes}
use Rattle.fz_block.specs.Hdus.{cards_of, size_at, size_in}
use Rattle.fz_block.specs.declared.header.Header.{Header}
use Rattle.fz_grid.specs.Grid.{tile_count}
use Rattle.fz_grid.specs.Region.{IsDivided, lengths_of}
use Rattle.fz_grid.specs.declared.region.Region.{Region}
use Rattle.fz_table.specs.Tables.{table_checks, table_in, table_of}
use Rattle.fz_tile.specs.Codecs.{CanRead, IsBlock, ReadsCodes}
use Rattle.fz_tile.specs.declared.codec.Codec.TheVariants.{Rice, Plio, Plain}
use Rattle.fz_head.specs.CardLists.{index_of}
use Rattle.fz_checks.specs.JobChecks.{IsImageOf, box_checks, cut_checks, image_checks, image_in, packed_card_checks, unpack_checks}
use Rattle.fz_head.specs.Packable.{is_packed, is_table}
use Rattle.fz_head.specs.PackedChecks.{axis_checks, axis_count_checks, bitpix_checks, block_checks, bytepix_checks, codec_checks, grid_check, is_block, is_bytepix, is_positive, line_list_check, packed_checks, parameter_checks, plan_answer, row_check, scaling_check, shape_checks, sort_checks, tile_check}
use Rattle.fz_head.specs.PackedPlan.{codec_named, default_tile, is_plio_name, is_rice_name, numbered_in, parameter, parameter_number, plan_of_cards, said_axes, said_bitpix, said_codec, said_tile, size_of, tile_along, value_of_number, word_in}
use Rattle.fz_head.specs.PlainHeader.{axis_count}
use Rattle.fz_head.specs.TableChecks.{table_card_checks}
use Rattle.fz_checks.proofs.FrontCards.{clear, clear-each, clear-front, clear-rest}
use Rattle.fz_checks.proofs.PlannedTiles.{lengths-nine_axes, nine-entry}
use Rattle.fz_checks.proofs.RiceChecks.{blocks, bytes, of-rice}
use Rattle.fz_checks.proofs.SaidPlans.{can-read, rows-said}
use Rattle.fz_checks.proofs.SaidShapes.{axes-checks, divided-of, is-large, tile-checks}

-- a number that is checked to be positive
positive-size : (v : Option ℤ) → is_positive v ≡ true → 1 ≤ size_in v
positive-size None e = cc
positive-size (Some (pos n)) e = grind (arith, nat_tests)
positive-size (Some (negsuc n)) e = cc

-- the length of a tile along an axis
default-within : (first : Bool) (axis : ℕ) → 1 ≤ axis → (1 ≤ cond first axis 1) × (cond first axis 1 ≤ axis)
default-within true axis some = (some, omega arith)
default-within false axis some = (omega arith, some)

tile-within : (said : Bool) (v : Option ℤ) (i axis : ℕ) → (said && not (is_positive v)) ≡ false → 1 ≤ axis → (1 ≤ cond said (min (size_in v) axis) (default_tile i axis)) × (cond said (min (size_in v) axis) (default_tile i axis) ≤ axis)
tile-within true v i axis e some = let one = positive-size v (not-false (is_positive v) e) in (omega (arith, one), omega arith)
tile-within false v i axis e some = default-within (i == 1) axis some

-- the parameters of a Rice code
block-of : (v : Option ℤ) → is_block v ≡ true → IsBlock (size_in v)
block-of v e = let parts = and_parts (is_positive v) (nat_le (size_in v) 32767) e in (positive-size v parts.0, leb-true (size_in v) 32767 parts.1)

block-said : (k : ℕ) (cards : List (List ℕ)) (number : Option ℕ) → first_refusal (block_checks k cards number) ≡ None → IsBlock (value_of_number cards 32 number)
block-said k cards None e = (omega arith, omega arith)
block-said k cards (Some i) e =
    let v = integer_of (numbered_in (codes "ZVAL") i cards) in
    block-of v (not-false (is_block v) (clear (block_checks k cards (Some i)) e).1.0)

abbrev IsBytes : ℕ → Type 0
IsBytes n = (n ≡ 1) ⊎ ((n ≡ 2) ⊎ (n ≡ 4))

bytes-of : (v : Option ℤ) → is_bytepix v ≡ true → IsBytes (size_in v)
bytes-of None e = cc
bytes-of (Some v) e = elim (or_cases (int_eq v (pos 1)) _ e) [
  | inl one ↦ inl (ap (λ z. size_in (Some z)) ((Decides-int_eq v (pos 1)).0 one))
  | inr more ↦ elim (or_cases (int_eq v (pos 2)) (int_eq v (pos 4)) more) [
    | inl two ↦ inr (inl (ap (λ z. size_in (Some z)) ((Decides-int_eq v (pos 2)).0 two)))
    | inr four ↦ inr (inr (ap (λ z. size_in (Some z)) ((Decides-int_eq v (pos 4)).0 four)))
  ]
]

bytes-said : (k : ℕ) (cards : List (List ℕ)) (number : Option ℕ) → first_refusal (bytepix_checks k cards number) ≡ None → IsBytes (value_of_number cards 4 number)
bytes-said k cards None e = inr (inr refl)
bytes-said k cards (Some i) e =
    let v = integer_of (numbered_in (codes "ZVAL") i cards) in
    bytes-of v (not-false (is_bytepix v) (clear (bytepix_checks k cards (Some i)) e).1.1.0)

codes-by : (rice plio : Bool) (block bytepix : ℕ) → (rice ≡ true → IsBlock block × IsBytes bytepix) → ReadsCodes (cond rice (Rice block bytepix) (cond plio Plio Plain))
codes-by true plio block bytepix is = is refl
codes-by false true block bytepix is = tt
codes-by false false block bytepix is = tt

codes-read : (k : ℕ) (cards : List (List ℕ)) → first_refusal (parameter_checks k cards) ≡ None → ReadsCodes (codec_named (said_codec cards) cards)
codes-read k cards none =
    codes-by (is_rice_name (said_codec cards)) (is_plio_name (said_codec cards)) (parameter (codes "BLOCKSIZE") 32 cards) (parameter (codes "BYTEPIX") 4 cards) (λ rice.
    let both : first_refusal (blocks k cards ++ bytes k cards) ≡ None = sym (of-rice k cards rice) ∙ none in (
      block-said k cards (parameter_number (codes "BLOCKSIZE") cards) (clear-front (blocks k cards) (bytes k cards) both),
      bytes-said k cards (parameter_number (codes "BYTEPIX") cards) (clear-rest (blocks k cards) (bytes k cards) both),
    ))

-- the checks of a packed header, list by list
record HasClearChecks (k : ℕ) (header : List ℕ) : Type 0 where
  bits : first_refusal (bitpix_checks k (cards_of header)) ≡ None
  count : first_refusal (axis_count_checks k (cards_of header)) ≡ None
  axes : first_refusal (axes-checks k (cards_of header) (axis_count (cards_of header))) ≡ None
  tiles : first_refusal (tile-checks k (cards_of header) (axis_count (cards_of header))) ≡ None
  grid : first_refusal (grid_check k (cards_of header) ∷ []) ≡ None
  parameters : first_refusal (parameter_checks k (cards_of header)) ≡ None
  row : first_refusal (row_check k header ∷ []) ≡ None

clear-checks : (k : ℕ) (header : List ℕ) (after_empty : Bool) → first_refusal (packed_checks k header after_empty) ≡ None → HasClearChecks k header
clear-checks k header after_empty e =
    let cards : List (List ℕ) = cards_of header in
    let n : ℕ = axis_count cards in
    let six = line_list_check k cards ∷ row_check k header ∷ [] in
    let five = sort_checks k cards after_empty ++ six in
    let four = parameter_checks k cards ++ five in
    let three = shape_checks k cards ++ four in
    let two = bitpix_checks k cards ++ three in
    let one = codec_checks k cards ++ two in
    let behind-codec = clear-rest (codec_checks k cards) two (clear-rest (scaling_check k cards ∷ []) one e) in
    let behind-bits = clear-rest (bitpix_checks k cards) three behind-codec in
    let behind-shape = clear-rest (shape_checks k cards) four behind-bits in
    let shape = clear-front (shape_checks k cards) four behind-bits in
    let tiles = tile-checks k cards n ++ grid_check k cards ∷ [] in
    let behind-count = clear-rest (axis_count_checks k cards) (axes-checks k cards n ++ tiles) shape in
    let behind-axes = clear-rest (axes-checks k cards n) tiles behind-count in
    let last = clear-rest (sort_checks k cards after_empty) six (clear-rest (parameter_checks k cards) five behind-shape) in
    record {
      bits = clear-front (bitpix_checks k cards) three behind-codec;
      count = clear-front (axis_count_checks k cards) (axes-checks k cards n ++ tiles) shape;
      axes = clear-front (axes-checks k cards n) tiles behind-count;
      tiles = clear-front (tile-checks k cards n) (grid_check k cards ∷ []) behind-axes;
      grid = clear-rest (tile-checks k cards n) (grid_check k cards ∷ []) behind-axes;
      parameters = clear-front (parameter_checks k cards) five behind-shape;
      row = clear-rest (line_list_check k cards ∷ []) (row_check k header ∷ []) last;
    }

module _ (k : ℕ) (header : List ℕ) (is : HasClearChecks k header) where
  abbrev cards : List (List ℕ)
  cards = cards_of header

  abbrev n : ℕ
  n = axis_count cards

  number : (1 ≤ n) × (n ≤ 9)
  number =
      let checks = clear (axis_count_checks k cards) is.count in
      let v = integer_of (word_in (codes "ZNAXIS") cards) in
      (positive-size v (not-false (is_positive v) checks.1.0), ltb-false 9 n checks.1.1.0)

  axis : (i : ℕ) → 1 ≤ i → i ≤ n → 1 ≤ size_of (numbered_in (codes "ZNAXIS") i cards)
  axis i low high =
      let v = integer_of (numbered_in (codes "ZNAXIS") i cards) in
      positive-size v (not-false (is_positive v) (clear (axis_checks k cards i) (clear-each (axis_checks k cards) 1 n is.axes i low (omega arith))).1.0)

  along : (i : ℕ) → 1 ≤ i → i ≤ n → (1 ≤ tile_along cards i) × (tile_along cards i ≤ size_of (numbered_in (codes "ZNAXIS") i cards))
  along i low high =
      let checks = clear (tile_check k cards i ∷ []) (clear-each (λ j. tile_check k cards j ∷ []) 1 n is.tiles i low (omega arith)) in
      tile-within (is_some (index_of (numbered_name (codes "ZTILE") i) cards)) (integer_of (numbered_in (codes "ZTILE") i cards)) i (size_of (numbered_in (codes "ZNAXIS") i cards)) checks.0 (axis i low high)

  -- an entry of the nine lengths of a list by the number of the axis
  entry : (f : ℕ → ℕ) (i : ℕ) → i < n → get_or (nine_axes (map f (range_with_len 1 n))).len i 0 ≡ f (1 + i)
  entry f i within =
      nine-entry (map f (range_with_len 1 n)) i (omega (arith, length-map-range_with_len f 1 n)) ∙ get_or-map-range_with_len f 1 n i (1 + i) 0 within refl

  small : is-large (lengths_of (nine_axes (said_axes cards))) (lengths_of (nine_axes (said_tile cards))) ≡ false
  small =
      ap (λ l. is-large l (lengths_of (nine_axes (said_tile cards)))) (lengths-nine_axes (said_axes cards))
      ∙ (ap (is-large (said_axes cards)) (lengths-nine_axes (said_tile cards)) ∙ (clear (grid_check k cards ∷ []) is.grid).0)

  abbrev axis-length : ℕ → ℕ
  axis-length i = size_of (numbered_in (codes "ZNAXIS") i cards)

  divided : IsDivided (nine_axes (said_axes cards)) (nine_axes (said_tile cards))
  divided =
      let many : length (said_axes cards) ≡ n = length-map-range_with_len axis-length 1 n in
      let same : length (said_tile cards) ≡ n = length-map-range_with_len (tile_along cards) 1 n in
      divided-of (nine_axes (said_axes cards)) (nine_axes (said_tile cards))
      (omega (arith, number.0), omega (arith, number.1)) (same ∙ sym many)
      (λ i within.
      let inside : i < n = omega arith in
      let here = along (1 + i) (omega arith) (omega arith) in (
        subst (λ m. 1 ≤ m) (sym (entry (tile_along cards) i inside)) here.0,
        subst (λ m. m ≤ get_or (nine_axes (said_axes cards)).len i 0) (sym (entry (tile_along cards) i inside)) (subst (λ m. tile_along cards (1 + i) ≤ m) (sym (entry axis-length i inside)) here.1),
      ))
      small

  readable : CanRead (codec_named (said_codec cards) cards) (said_bitpix cards)
  readable = can-read k cards is.bits (codes-read k cards is.parameters)

  rows : size_at header 4 ≡ tile_count (lengths_of (nine_axes (said_axes cards))) (lengths_of (nine_axes (said_tile cards)))
  rows =
      let count : ℕ = tile_count (said_axes cards) (said_tile cards) in
      eqb-true (size_at header 4) count (not-false (size_at header 4 == count) (clear (row_check k header ∷ []) is.row).0)
      ∙ sym (ap (λ l. tile_count l (lengths_of (nine_axes (said_tile cards)))) (lengths-nine_axes (said_axes cards)) ∙ ap (tile_count (said_axes cards)) (lengths-nine_axes (said_tile cards)))

-- the image is the one that the header says
pub image-said : (header : List ℕ) (h : Header) (after_empty : Bool) → IsHeaderOf header h → first_refusal (image_checks h header after_empty) ≡ None → IsImageOf header h (image_in h header)
unfolding table_of plan_answer plan_of_cards
image-said header h after_empty is none =
    let tables : first_refusal (table_checks header h) ≡ None = clear-front (table_checks header h) (packed_checks h.hdu header after_empty) none in
    let packed : first_refusal (packed_checks h.hdu header after_empty) ≡ None = clear-rest (table_checks header h) (packed_checks h.hdu header after_empty) none in
    let are : HasClearChecks h.hdu header = clear-checks h.hdu header after_empty packed in
    let table : table_of header h ≡ Ok (table_in header h) = ap (unless_refused (table_in header h)) tables in
    record {
      planned = record { after_empty = after_empty; answer = ap (unless_refused (plan_of_cards (cards_of header))) packed };
      table = table;
      divided = divided h.hdu header are;
      readable = readable h.hdu header are;
      rows = rows-said header h (table_in header h) is table ∙ rows h.hdu header are;
    }

-- the same where the checks of a job refuse nothing
pub unpacked-said : (header : List ℕ) (h : Header) (after_empty : Bool) → IsHeaderOf header h → is_packed header h ≡ true → first_refusal (unpack_checks h header after_empty) ≡ None → IsImageOf header h (image_in h header)
unpacked-said header h after_empty is packed none =
    let rest = clear-rest (cond (is_table h.sort) (table_card_checks h header) []) (cond (is_packed header h) (image_checks h header after_empty) []) none in
    image-said header h after_empty is (subst (λ b. first_refusal (cond b (image_checks h header after_empty) []) ≡ None) packed rest)

pub cut-said : (header : List ℕ) (h : Header) (after_empty : Bool) (region : Region) → IsHeaderOf header h → first_refusal (cut_checks h header after_empty region) ≡ None → IsImageOf header h (image_in h header)
cut-said header h after_empty region is none =
    let box = box_checks h.hdu (cards_of header) region in
    image-said header h after_empty is (clear-front (image_checks h header after_empty) box (clear-rest (packed_card_checks h header) (image_checks h header after_empty ++ box) none))
