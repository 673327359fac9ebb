-- What the table and the cards of a packed header say of each other, and that tiles of the plan can be read.
use Rattle.std.proofs.Common.{◌≡◌, ℕ, ◌<◌, ◌≤◌, ◌^◌, true, false, leb, List, [], ◌∷◌, length, refl, ap, sym, ◌∙◌, inl, inr, subst, arith, codes}
use Rattle.std.specs.Prelude.{ℤ, pos, negsuc, ◌&&◌, ◌==◌, not, Option, Some, None, Ok, slice_index, unwrap_or}
use Rattle.std.specs.Ordering.{int_eq}
use Rattle.std.proofs.lemmas.Bool.{and_cases, and_parts, both_ways, eqb-true, leb-true, not-false, or_cases}
use Rattle.std.proofs.lemmas.Bool.Decides.{Decides-int_eq}
use Rattle.std.proofs.lemmas.List.FromFn.{get_or-map-range_with_len, length-map-range_with_len}
use Rattle.std.proofs.lemmas.Slice.Eq.{bytes_eq-Decides}
use Rattle.fz_base.specs.Refusal.{first_refusal, refusal}
use Rattle.fz_base.specs.declared.fault.Fault.{Fault}
use Rattle.fz_base.specs.declared.fault.Place.TheVariants.{Card}
use Rattle.fz_base.specs.declared.kind.Kind.TheVariants.{RowCount}
use Rattle.fz_card.specs.Layout.{padded}
use Rattle.fz_card.specs.Reading.{integer_of}
use Rattle.fz_block.specs.Facts.{IsHeaderOf, nine_axes}
use Rattle.fz_block.specs.Hdus.{axes_of, cards_of, size_at, size_in}
use Rattle.fz_block.specs.declared.axes.Axes.{Axes}
use Rattle.fz_block.specs.declared.header.Header.{Header}
use Rattle.fz_grid.specs.Grid.{tile_count}
use Rattle.fz_grid.specs.Region.{IsDivided, lengths_of}
use Rattle.fz_table.specs.Columns.{first_named, integer_at, is_from, tfields_card}
use Rattle.fz_table.specs.Tables.{array_checks, field_checks, table_checks, table_in, table_of}
use Rattle.fz_table.specs.declared.table.Table.{Table}
use Rattle.fz_tile.specs.Codecs.{CanRead, ReadsCodes}
use Rattle.fz_tile.specs.Pixels.{IsBitpix}
use Rattle.fz_tile.specs.declared.codec.Codec.TheVariants.{Plain}
use Rattle.fz_head.specs.CardLists.{the_card}
use Rattle.fz_head.specs.PackedChecks.{bitpix_checks, column_count, is_integer, is_integer_size, row_check}
use Rattle.fz_head.specs.declared.plan.Plan.{Plan}
use Rattle.fz_head.specs.PlainHeader.{was_primary}
use Rattle.fz_head.specs.Planned.{is_wide}
use Rattle.fz_head.specs.PackedPlan.{codec_named, is_plain_name, plan_of_cards, said_axes, said_bitpix, said_codec, said_tile}
use Rattle.fz_checks.proofs.FrontCards.{clear, clear-front, clear-rest}
use Rattle.fz_checks.proofs.PlannedTiles.{axes-count, lengths-nine_axes, nine-entry, unless-ok}
use Rattle.fz_checks.proofs.SaidCards.{integer-nothing, said-card, said-none}

-- the integer that the first card of a name says
pub said-integer : (header name : List ℕ) (found : Option ℕ) → found ≡ first_named name header → integer_at header found ≡ integer_of (the_card name (cards_of header))
said-integer header name None e = sym (ap integer_of (said-none header name None e) ∙ integer-nothing)
said-integer header name (Some i) e = ap integer_of (sym (said-card header name (Some i) e))

few-from : (v : Option ℤ) → is_from 1 999 v ≡ true → size_in v ≤ 999
few-from None e = cc
few-from (Some (pos n)) e = leb-true n 999 (and_parts (leb 1 n) (leb n 999) e).1
few-from (Some (negsuc n)) e = cc

-- a table has at most 999 columns
pub few-columns : (header : List ℕ) (h : Header) (table : Table) → table_of header h ≡ Ok table → column_count (cards_of header) < 2 ^ 32
unfolding table_of
few-columns header h table e =
    let ok = unless-ok (table_in header h) table (first_refusal (table_checks header h)) e in
    let fields = clear (field_checks header h) (clear-front (field_checks header h) _ (clear-rest (array_checks h) _ ok.0)) in
    let few = few-from (integer_at header (tfields_card header)) (not-false (is_from 1 999 (integer_at header (tfields_card header))) fields.0) in
    let same : size_in (integer_at header (tfields_card header)) ≡ column_count (cards_of header) = ap size_in (said-integer header (padded (codes "TFIELDS")) (tfields_card header) refl) in
    omega arith

-- the rows of a table are NAXIS2
pub rows-said : (header : List ℕ) (h : Header) (table : Table) → IsHeaderOf header h → table_of header h ≡ Ok table → table.rows ≡ size_at header 4
unfolding table_of
rows-said header h table is e =
    let ok = unless-ok (table_in header h) table (first_refusal (table_checks header h)) e in
    let array = clear (array_checks h) (clear-front (array_checks h) _ ok.0) in
    let two : h.axes.n ≡ 2 = eqb-true h.axes.n 2 (not-false (h.axes.n == 2) array.1.0) in
    let count = axes-count header h is in
    let inside : 1 < size_at header 2 = omega arith in
    let long : length (axes_of header) ≡ size_at header 2 = length-map-range_with_len (size_at header) 3 (size_at header 2) in
    let rows : table.rows ≡ slice_index h.axes.len 1 = sym (ap (λ (t : Table). t.rows) ok.1) in
    let axes : slice_index h.axes.len 1 ≡ slice_index (nine_axes (axes_of header)).len 1 = ap (λ (f : Header). slice_index f.axes.len 1) is.facts in
    rows ∙ (axes ∙ (nine-entry (axes_of header) 1 (omega arith) ∙ get_or-map-range_with_len (size_at header) 3 (size_at header 2) 1 4 0 inside refl))

-- the check of the rows, as it was made
pub rows-checked : (k rows : ℕ) (shape tile : Axes) (header : List ℕ) (answer : Option Fault) → rows ≡ size_at header 4 → shape ≡ nine_axes (said_axes (cards_of header)) → tile ≡ nine_axes (said_tile (cards_of header)) →
    first_refusal ((not (rows == tile_count (lengths_of shape) (lengths_of tile)), refusal k (Card 4) RowCount) ∷ []) ≡ answer → first_refusal (row_check k header ∷ []) ≡ answer
rows-checked k rows shape tile header answer same axes lengths e =
    let shapes : lengths_of shape ≡ said_axes (cards_of header) = ap lengths_of axes ∙ lengths-nine_axes (said_axes (cards_of header)) in
    let tiles : lengths_of tile ≡ said_tile (cards_of header) = ap lengths_of lengths ∙ lengths-nine_axes (said_tile (cards_of header)) in
    let number : tile_count (lengths_of shape) (lengths_of tile) ≡ tile_count (said_axes (cards_of header)) (said_tile (cards_of header)) = ap (λ l. tile_count l (lengths_of tile)) shapes ∙ ap (tile_count (said_axes (cards_of header))) tiles in
    let one : first_refusal ((not (size_at header 4 == tile_count (lengths_of shape) (lengths_of tile)), refusal k (Card 4) RowCount) ∷ []) ≡ answer = subst (λ n. first_refusal ((not (n == tile_count (lengths_of shape) (lengths_of tile)), refusal k (Card 4) RowCount) ∷ []) ≡ answer) same e in
    subst (λ n. first_refusal ((not (size_at header 4 == n), refusal k (Card 4) RowCount) ∷ []) ≡ answer) number one

-- the bits of a pixel are those of an integer
pub is-bitpix : (v : Option ℤ) → is_integer_size v ≡ true → IsBitpix (unwrap_or v (pos 0))
is-bitpix None e = cc
is-bitpix (Some v) e = elim (or_cases (int_eq v (pos 8)) _ e) [
  | inl byte ↦ inl ((Decides-int_eq v (pos 8)).0 byte)
  | inr more ↦ elim (or_cases (int_eq v (pos 16)) _ more) [
    | inl short ↦ inr (inl ((Decides-int_eq v (pos 16)).0 short))
    | inr most ↦ elim (or_cases (int_eq v (pos 32)) (int_eq v (pos 64)) most) [
      | inl word ↦ inr (inr (inl ((Decides-int_eq v (pos 32)).0 word)))
      | inr long ↦ inr (inr (inr ((Decides-int_eq v (pos 64)).0 long)))
    ]
  ]
]

-- the codec that this name says is Plain
plain-named : (text : Option (List ℕ)) (cards : List (List ℕ)) → is_plain_name text ≡ true → codec_named text cards ≡ Plain
plain-named None cards e = cc
plain-named (Some text) cards e = let same : text ≡ codes "NOCOMPRESS" = (bytes_eq-Decides text (codes "NOCOMPRESS")).0 e in ap (λ t. codec_named (Some t) cards) same

zero-is-other : pos 0 ≡ pos 64 → ⊥
zero-is-other e = grind (arith, e)

long-plain : (v : Option ℤ) (text : Option (List ℕ)) (cards : List (List ℕ)) → (is_integer (pos 64) v && not (is_plain_name text)) ≡ false → unwrap_or v (pos 0) ≡ pos 64 → codec_named text cards ≡ Plain
long-plain None text cards e long = absurd (zero-is-other long)
long-plain (Some v) text cards e long = elim (and_cases (int_eq v (pos 64)) (not (is_plain_name text)) e) [
  | inl other ↦ absurd (both_ways (int_eq v (pos 64)) other ((Decides-int_eq v (pos 64)).1 long))
  | inr plain ↦ plain-named text cards (not-false (is_plain_name text) plain)
]

-- the tiles can be read
pub can-read : (k : ℕ) (cards : List (List ℕ)) → first_refusal (bitpix_checks k cards) ≡ None → ReadsCodes (codec_named (said_codec cards) cards) → CanRead (codec_named (said_codec cards) cards) (said_bitpix cards)
can-read k cards none reads =
    let passed = clear (bitpix_checks k cards) none in
    let bitpix = integer_of (the_card (padded (codes "ZBITPIX")) cards) in
    record {
      size = is-bitpix bitpix (not-false (is_integer_size bitpix) passed.1.1.0);
      plain = λ long. long-plain bitpix (said_codec cards) cards passed.1.1.1.0 long;
      codes = reads;
    }

-- the plan, part by part
pub same-plan : (cards : List (List ℕ)) (p : Plan) → p.codec ≡ codec_named (said_codec cards) cards → p.bitpix ≡ said_bitpix cards → p.shape ≡ nine_axes (said_axes cards) → p.tile ≡ nine_axes (said_tile cards) →
    p.primary ≡ was_primary cards → p.wide ≡ is_wide p.bitpix (lengths_of p.shape) → p ≡ plan_of_cards cards
unfolding plan_of_cards
same-plan cards p codec bitpix shape tile primary wide =
    let lengths : lengths_of p.shape ≡ said_axes cards = ap lengths_of shape ∙ lengths-nine_axes (said_axes cards) in
    let wider : p.wide ≡ is_wide (said_bitpix cards) (said_axes cards) = wide ∙ (ap (λ b. is_wide b (lengths_of p.shape)) bitpix ∙ ap (is_wide (said_bitpix cards)) lengths) in
    λ i. record { codec = codec i; bitpix = bitpix i; shape = shape i; tile = tile i; primary = primary i; wide = wider i }

-- what is said of the parts of a plan
pub same-divided : (shape tile shape' tile' : Axes) → shape ≡ shape' → tile ≡ tile' → IsDivided shape' tile' → IsDivided shape tile
same-divided shape tile shape' tile' axes lengths divided = subst (λ a. IsDivided a tile) (sym axes) (subst (IsDivided shape') (sym lengths) divided)

pub same-rows : (rows : ℕ) (shape tile shape' tile' : Axes) (x : Fault) → shape ≡ shape' → tile ≡ tile' →
    first_refusal ((not (rows == tile_count (lengths_of shape') (lengths_of tile')), x) ∷ []) ≡ None → rows ≡ tile_count (lengths_of shape) (lengths_of tile)
same-rows rows shape tile shape' tile' x axes lengths passed =
    eqb-true rows (tile_count (lengths_of shape') (lengths_of tile')) (not-false (rows == tile_count (lengths_of shape') (lengths_of tile')) (clear ((not (rows == tile_count (lengths_of shape') (lengths_of tile')), x) ∷ []) passed).0)
    ∙ (ap (λ a. tile_count (lengths_of a) (lengths_of tile')) (sym axes) ∙ ap (λ a. tile_count (lengths_of shape) (lengths_of a)) (sym lengths))

pub same-readable : (k : ℕ) (cards : List (List ℕ)) (p : Plan) → p ≡ plan_of_cards cards → first_refusal (bitpix_checks k cards) ≡ None → ReadsCodes (codec_named (said_codec cards) cards) → CanRead p.codec p.bitpix
unfolding plan_of_cards
same-readable k cards p same none reads = subst (λ (q : Plan). CanRead q.codec q.bitpix) (sym same) (can-read k cards none reads)
