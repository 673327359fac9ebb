-- A packed header that is made is accepted, and stands for its plan and its table.
use Rattle.std.proofs.Common.{◌≡◌, ℕ, zero, suc, ◌+◌, ◌-◌, ◌*◌, ◌<◌, ◌≤◌, ◌^◌, Bool, true, false, cond, IsTrue, List, [], ◌∷◌, ◌++◌, length, get_or, map, refl, ap, sym, ◌∙◌, subst, arith, rules, inl, inr}
use Rattle.std.specs.Prelude.{ℤ, pos, not, ◌==◌, ◌/◌, ◌||◌, ◌&&◌, ◌⊎◌, Option, Some, None, Ok, is_some, unwrap_or, unsigned_abs, codes, slice_index}
use Rattle.std.specs.Option.{option_and_then}
use Rattle.std.specs.List.{find, list_all, list_any, position, range_with_len}
use Rattle.std.proofs.lemmas.Bool.{and_from, and_left, and_parts, and_right, eq-eqb, eqb-true}
use Rattle.fz_base.specs.Refusal.{first_refusal}
use Rattle.std.proofs.lemmas.Slice.Eq.{bytes_eq-Decides}
use Rattle.fz_card.specs.Layout.{card_name, padded}
use Rattle.fz_card.specs.Made.{IsCardText, numbered_name}
use Rattle.fz_card.specs.Naming.{is_dropped, is_reserved, number_behind, plain_name}
use Rattle.fz_card.specs.Reading.{integer_of, logical_of, text_of}
use Rattle.fz_card.specs.Tables.{own_names, packed_names, renamings, foreign_names}
use Rattle.fz_card.specs.CardLists.{has_name}
use Rattle.fz_card.specs.Laws.{CardLaws}
use Rattle.fz_block.specs.Cards.{card_at, is_named}
use Rattle.fz_block.specs.Checks.{is_set, unless_refused}
use Rattle.fz_block.specs.Facts.{facts_of, nine_axes}
use Rattle.fz_block.specs.Header.{data_start_of}
use Rattle.fz_block.specs.Hdus.{axes_of, cards_of, size_at}
use Rattle.fz_block.specs.declared.axes.Axes.{Axes}
use Rattle.fz_block.specs.declared.header.Header.{Header}
use Rattle.fz_grid.specs.Grid.{tile_count}
use Rattle.fz_grid.specs.Region.{IsDivided, lengths_of}
use Rattle.fz_table.specs.Columns.{first_named, form_of, text_at, tform_card, tfields_card, title_of, ttype_card, unit_of}
use Rattle.fz_table.specs.Forms.{elements_len, form_in, is_any}
use Rattle.fz_table.specs.Tables.{row_len_of, row_count_of, rows_len_of, table_of, theap_card, tile_letters}
use Rattle.fz_tile.specs.Codecs.{CanWrite}
use Rattle.fz_tile.specs.Pixels.{IsBitpix}
use Rattle.fz_tile.specs.declared.codec.Codec.{Codec}
use Rattle.fz_tile.specs.declared.codec.Codec.TheVariants.{Rice, Plio, Plain}
use Rattle.fz_head.specs.declared.options.PackOptions.{PackOptions}
use Rattle.fz_head.specs.declared.plan.Plan.{Plan}
use Rattle.fz_head.specs.declared.totals.Totals.{Totals}
use Rattle.fz_head.specs.Accepted.{IsAccepted}
use Rattle.fz_head.specs.CardLists.{index_of, the_card}
use Rattle.fz_head.specs.Packable.{has_integers, is_image, is_packable, is_packed, is_primary, is_table}
use Rattle.fz_head.specs.PackChecks.{is_offset, is_plio, limit_checks, name_checks, offset_check, pack_answer, pack_checks}
use Rattle.fz_head.specs.PackedChecks.{bitpix_checks, codec_checks, is_integer_size, line_list_check, packed_checks, parameter_checks, block_checks, bytepix_checks, row_check, plan_answer, scaling_check, shape_checks, sort_checks}
use Rattle.fz_head.specs.PackedHeader.{coded_letter, codec_name, descriptor_form, flag_card, made_cards, numbered_word_card, packed_with, stored_letter}
use Rattle.fz_head.specs.PackedPlan.{codec_named, is_rice_name, parameter_number, plan_of_cards, said_axes, said_codec, said_tile}
use Rattle.fz_head.specs.PackedTable.{coded_unit, packed_table, planned_descriptor, planned_row, planned_rows}
use Rattle.fz_head.specs.Planned.{asked_tile, cut_tile, is_wide, pack_plan_of, pixel_len}
use Rattle.fz_head.specs.Repeats.{counted_name, first_repeat, table_names}
use Rattle.fz_head.specs.TableChecks.{table_card_checks}
use Rattle.fz_head.specs.ThereAndBack.{HasCards, IsPacking, MayBePacked}
use Rattle.fz_head.proofs.BackAgain.{IsPacked, primary-is, whole}
use Rattle.fz_head.proofs.Forms.{form_is_text}
use Rattle.fz_head.proofs.FrontCards.{clear, clear-front, clear-rest, header-cards, header-end, is_first_hdu}
use Rattle.fz_head.proofs.FrontValues.{HasValues, has_values, sized-as}
use Rattle.fz_head.proofs.ImageFinds.{image_cards, none-foreign, none-of-image}
use Rattle.fz_head.proofs.ImageOnce.{packed-once}
use Rattle.fz_head.proofs.MadeCards.{made-dropped, sums-dropped}
use Rattle.fz_head.proofs.MadeFinds.{NoneNamed, no-theap, none-dropped, none-of-sums, tfields-found, tform1-found, tform2-found, ttype1-found, ttype2-found}
use Rattle.fz_head.proofs.MadeTables.{AreClear, SaysTable, clear-append, form-read, none-refuses, table-said}
use Rattle.fz_head.proofs.MadeValues.{coded-text, flag-says, number-says, stored-text, text-says}
use Rattle.fz_head.proofs.PackedFacts.{axes-are, bitpix-is, gcount-is, header-is, pcount-is, size-4, sort-is}
use Rattle.fz_head.proofs.MadeImage.{packed_is, primary_is}
use Rattle.fz_head.proofs.PlannedCodecs.{planned-writable}
use Rattle.fz_head.proofs.PlannedTiles.{lengths-nine_axes, planned-divided, planned-shape, unless-ok}
use Rattle.fz_head.proofs.Ranges.{all-append, all-weaker}
use Rattle.fz_head.proofs.SaidBack.{axes-said, bitpix-clear, bitpix-said, codec-clear, codec-said, none-position, shape-clear, tile-said}
use Rattle.fz_head.proofs.SaidCards.{index-named, said-card, said-none, text-nothing}
use Rattle.fz_head.proofs.SaidPlans.{said-integer, same-plan}
use Rattle.fz_head.proofs.SaidRest.{rice-clear, rice-said}
use Rattle.fz_head.proofs.SaidSorts.{extension-clear, image-text, line-clear, primary-clear, scaling-clear}

-- the text that the first card of a name says
said-text : (header name : List ℕ) (found : Option ℕ) → found ≡ first_named name header → text_at header found ≡ text_of (the_card name (cards_of header))
said-text header name None e = sym (ap text_of (said-none header name None e) ∙ text-nothing)
said-text header name (Some i) e = ap text_of (sym (said-card header name (Some i) e))

-- some element has a property
any-at : {X : Type 0} (has : X → Bool) (xs : List X) (i : ℕ) (d : X) → i < length xs → has (get_or xs i d) ≡ true → list_any has xs ≡ true
any-at has [] i d within e = absurd (omega arith)
any-at has (x ∷ xs) zero d within e = ap (λ b. b || list_any has xs) e
any-at has (x ∷ xs) (suc i) d within e = or-later (has x) (list_any has xs) (any-at has xs i d (omega arith) e)
  where
    or-later : (a b : Bool) → b ≡ true → (a || b) ≡ true
    or-later true b h = refl
    or-later false b h = h

-- the letters of the two columns
pub record IsLetter (letter : List ℕ) (unit : ℕ) : Type 0 where
  pub byte : ℕ
  pub is : letter ≡ byte ∷ []
  pub allowed : is_any tile_letters byte ≡ true
  pub measure : unit_of (Some byte) ≡ unit
  pub plain : IsTrue (list_all (λ b. not (b == 39)) letter)

pub coded-letter : (c : Codec) → IsLetter (coded_letter c) (coded_unit c)
unfolding elements_len
coded-letter (Rice block bytepix) = record { byte = 66; is = refl; allowed = refl; measure = refl; plain = search rules }
coded-letter Plio = record { byte = 73; is = refl; allowed = refl; measure = refl; plain = search rules }
coded-letter Plain = record { byte = 66; is = refl; allowed = refl; measure = refl; plain = search rules }

byte-letter : IsLetter (stored_letter (pos 8)) (pixel_len (pos 8))
unfolding elements_len
byte-letter = record { byte = 66; is = refl; allowed = refl; measure = refl; plain = search rules }

short-letter : IsLetter (stored_letter (pos 16)) (pixel_len (pos 16))
unfolding elements_len
short-letter = record { byte = 73; is = refl; allowed = refl; measure = refl; plain = search rules }

word-letter : IsLetter (stored_letter (pos 32)) (pixel_len (pos 32))
unfolding elements_len
word-letter = record { byte = 74; is = refl; allowed = refl; measure = refl; plain = search rules }

long-letter : IsLetter (stored_letter (pos 64)) (pixel_len (pos 64))
unfolding elements_len
long-letter = record { byte = 75; is = refl; allowed = refl; measure = refl; plain = search rules }

pub stored-letter : (v : ℤ) → IsBitpix v → IsLetter (stored_letter v) (pixel_len v)
stored-letter v (inl e) = subst (λ b. IsLetter (stored_letter b) (pixel_len b)) (sym e) byte-letter
stored-letter v (inr (inl e)) = subst (λ b. IsLetter (stored_letter b) (pixel_len b)) (sym e) short-letter
stored-letter v (inr (inr (inl e))) = subst (λ b. IsLetter (stored_letter b) (pixel_len b)) (sym e) word-letter
stored-letter v (inr (inr (inr e))) = subst (λ b. IsLetter (stored_letter b) (pixel_len b)) (sym e) long-letter

letter-long : (letter : List ℕ) (unit : ℕ) → IsLetter letter unit → length letter ≡ 1
letter-long letter unit is = ap length is.is

pub form-fits : (wide : Bool) (letter : List ℕ) (most unit : ℕ) → IsLetter letter unit → most < 10 ^ 18 → length (descriptor_form wide letter most) ≤ 68
form-fits wide letter most unit is short = (form_is_text wide letter most (letter-long letter unit is) is.plain (omega (arith, short))).fits

-- the bytes of a number of a code
pub writes-bytes : (block bytepix : ℕ) (v : ℤ) → CanWrite (Rice block bytepix) v → (bytepix ≡ 1) ⊎ ((bytepix ≡ 2) ⊎ (bytepix ≡ 4))
writes-bytes block bytepix v can = by_size can.size
  where
    by_size : IsBitpix v → (bytepix ≡ 1) ⊎ ((bytepix ≡ 2) ⊎ (bytepix ≡ 4))
    by_size (inl e) = inl (can.codes.1 ∙ ap (λ b. unsigned_abs b / 8) e)
    by_size (inr (inl e)) = inr (inl (can.codes.1 ∙ ap (λ b. unsigned_abs b / 8) e))
    by_size (inr (inr (inl e))) = inr (inr (can.codes.1 ∙ ap (λ b. unsigned_abs b / 8) e))
    by_size (inr (inr (inr e))) = let none : Rice block bytepix ≡ Plain = can.plain e in cc

ztable-kept : is_dropped (padded (codes "ZTABLE")) ≡ false
unfolding is_dropped own_names packed_names number_behind
ztable-kept = refl

ztable-foreign : (plain_name (padded (codes "ZTABLE")) ≡ None) × (is_reserved (padded (codes "ZTABLE")) ≡ true)
unfolding plain_name is_reserved renamings packed_names foreign_names number_behind numbered_name
ztable-foreign = (refl, refl)

theap-dropped : is_dropped (padded (codes "THEAP")) ≡ true
unfolding is_dropped own_names packed_names number_behind
theap-dropped = refl

-- parameters of another codec are not looked at
no-parameters : (j : ℕ) (cards : List (List ℕ)) → is_rice_name (said_codec cards) ≡ false → AreClear (parameter_checks j cards)
no-parameters j cards other =
    subst (λ b. AreClear (cond b (block_checks j cards (parameter_number (codes "BLOCKSIZE") cards) ++ bytepix_checks j cards (parameter_number (codes "BYTEPIX") cards)) [])) (sym other) tt

-- no check of a packed header refuses
record AllClear (j : ℕ) (bytes : List ℕ) (after_empty : Bool) (cards : List (List ℕ)) : Type 0 where
  scaling : AreClear (scaling_check j cards ∷ [])
  codec : AreClear (codec_checks j cards)
  bits : AreClear (bitpix_checks j cards)
  shape : AreClear (shape_checks j cards)
  parameters : AreClear (parameter_checks j cards)
  sort : AreClear (sort_checks j cards after_empty)
  line : AreClear (line_list_check j cards ∷ [])
  row : not (size_at bytes 4 == tile_count (said_axes cards) (said_tile cards)) ≡ false

accepted-by : (j : ℕ) (bytes : List ℕ) (after_empty : Bool) (p : Plan) → plan_of_cards (cards_of bytes) ≡ p → AllClear j bytes after_empty (cards_of bytes) → plan_answer j bytes after_empty ≡ Ok p
unfolding plan_answer
accepted-by j bytes after_empty p plan clear =
    let cards : List (List ℕ) = cards_of bytes in
    let last = line_list_check j cards ∷ row_check j bytes ∷ [] in
    ap (unless_refused (plan_of_cards cards)) (none-refuses (packed_checks j bytes after_empty) (
      clear.scaling.0,
      clear-append (codec_checks j cards) (bitpix_checks j cards ++ (shape_checks j cards ++ (parameter_checks j cards ++ (sort_checks j cards after_empty ++ last)))) clear.codec
          (clear-append (bitpix_checks j cards) (shape_checks j cards ++ (parameter_checks j cards ++ (sort_checks j cards after_empty ++ last))) clear.bits
          (clear-append (shape_checks j cards) (parameter_checks j cards ++ (sort_checks j cards after_empty ++ last)) clear.shape
          (clear-append (parameter_checks j cards) (sort_checks j cards after_empty ++ last) clear.parameters
          (clear-append (sort_checks j cards after_empty) last clear.sort (clear.line.0, (clear.row, tt)))))),
    ))
    ∙ ap Ok plan

-- by the laws of cards
module _ (laws : CardLaws) where
  module _ (header : List ℕ) (h : Header) (p : Plan) (s : Totals) (sums : List (List ℕ)) (is : IsPacking header h p s sums) where
    abbrev o : PackOptions
    o = is.plan.options

    ok : (first_refusal (pack_checks o h header) ≡ None) × (pack_plan_of o h ≡ p)
    unfolding pack_answer
    ok = unless-ok (pack_plan_of o h) p (first_refusal (pack_checks o h header)) is.plan.answer

    may : MayBePacked header h
    may = record {
      is_header = is.is_header;
      simple = λ first. (and_parts (is_named (codes "SIMPLE") (card_at header 0)) (unwrap_or (logical_of (card_at header 0)) false) (is.simple first)).0;
      names = clear-front (name_checks h header) _ ok.0;
    }

    pub divided : IsDivided p.shape p.tile
    divided = planned-divided o header h p is.plan.allowed is.is_header is.plan.packable is.plan.answer

    pub writable : CanWrite p.codec p.bitpix
    writable = planned-writable o header h p is.plan.allowed is.plan.packable is.plan.answer

    shape : p.shape ≡ h.axes
    shape = planned-shape o header h p is.plan.answer

    pub axes : p.shape ≡ nine_axes (axes_of header)
    axes = shape ∙ ap (λ (f : Header). f.axes) is.is_header.facts

    pub packed : IsPacked header (is_first_hdu h.hdu) (size_at header 2) h.cards (made_cards p s) sums
    packed = packed_is laws header h p s sums h.cards may shape (sums-dropped sums is.sums_are) (header-end header h is.is_header)

    bits : p.bitpix ≡ unwrap_or (integer_of (card_at header 1)) (pos 0)
    unfolding pack_plan_of
    bits = sym (ap (λ (q : Plan). q.bitpix) ok.1) ∙ ap (λ (f : Header). f.bitpix) is.is_header.facts

    integers : has_integers h.bitpix ≡ true
    unfolding is_packable
    integers =
        let one = and_parts (is_image h.sort) _ is.plan.packable in
        let two = and_parts _ _ one.1 in
        let three = and_parts _ _ two.1 in
        (and_parts (has_integers h.bitpix) _ three.1).0

    size : is_integer_size (Some p.bitpix) ≡ true
    unfolding pack_plan_of
    size = ap has_integers (sym (ap (λ (q : Plan). q.bitpix) ok.1)) ∙ integers

    abbrev L : List ℕ
    L = cut_tile (lengths_of h.axes) (asked_tile o.tile (lengths_of h.axes))

    pub tile : p.tile ≡ nine_axes L
    unfolding pack_plan_of
    tile = sym (ap (λ (q : Plan). q.tile) ok.1)

    wide : p.wide ≡ is_wide p.bitpix (lengths_of p.shape)
    unfolding pack_plan_of
    wide = subst (λ (q : Plan). q.wide ≡ is_wide q.bitpix (lengths_of q.shape)) ok.1 refl

    primary : p.primary ≡ is_first_hdu h.hdu
    unfolding pack_plan_of
    primary = sym (ap (λ (q : Plan). q.primary) ok.1) ∙ (ap (λ (f : Header). is_primary f.sort) is.is_header.facts ∙ primary_is h.hdu header)

    pub values : HasValues header h.hdu (size_at header 2)
    values = has_values h.hdu header is.is_header.mandatory

    -- nothing beside the array of an extension
    counts : (h.pcount ≡ 0) × (h.gcount ≡ 1)
    unfolding is_packable
    counts =
        let one = and_parts (is_image h.sort) _ is.plan.packable in
        let two = and_parts _ _ one.1 in
        let three = and_parts _ _ two.1 in
        let four = and_parts (has_integers h.bitpix) _ three.1 in
        let five = and_parts (h.pcount == 0) (h.gcount == 1) four.1 in
        (eqb-true h.pcount 0 five.0, eqb-true h.gcount 1 five.1)

    image : is_image h.sort ≡ true
    unfolding is_packable
    image = (and_parts (is_image h.sort) _ is.plan.packable).0

    offset : (is_plio p.codec && is_some (position is_offset (map (card_at header) (range_with_len 0 h.cards)))) ≡ false
    offset =
        let rest = clear-rest (limit_checks h (pack_plan_of o h) o.sums (cards_of header)) (offset_check h (pack_plan_of o h).codec (cards_of header) ∷ []) (clear-rest (name_checks h header) _ ok.0) in
        let here = (clear (offset_check h (pack_plan_of o h).codec (cards_of header) ∷ []) rest).0 in
        subst (λ l. (is_plio p.codec && is_some (position is_offset l)) ≡ false) (header-cards header h is.is_header)
        (subst (λ (q : Plan). (is_plio q.codec && is_some (position is_offset (cards_of header))) ≡ false) ok.1 here)

    pub few : p.shape.n ≤ 9
    few = divided.axes

    abbrev C : List (List ℕ)
    C = whole header h.cards (made_cards p s) sums

    -- the checks of the plan
    sorts-by : (k j : ℕ) (after_empty : Bool) → h.hdu ≡ k → (p.primary ≡ true → after_empty ≡ true) → AreClear (sort_checks j C after_empty)
    sorts-by zero j after_empty e after =
        let first : is_first_hdu h.hdu ≡ true = ap is_first_hdu e in
        primary-clear laws header j (is_first_hdu h.hdu) (size_at header 2) h.cards p s sums packed few is.sums_are after_empty first (after (primary ∙ first))
        (and_parts (is_named (codes "SIMPLE") (card_at header 0)) (unwrap_or (logical_of (card_at header 0)) false) (is.simple e)).1
    sorts-by (suc k) j after_empty e after =
        let other : is_first_hdu h.hdu ≡ false = ap is_first_hdu e in
        let f : facts_of h.hdu h.start header ≡ facts_of (suc k) h.start header = ap (λ i. facts_of i h.start header) e in
        let facts : h ≡ facts_of (suc k) h.start header = is.is_header.facts ∙ f in
        let text : text_of (card_at header 0) ≡ Some (codes "IMAGE") = image-text (text_of (card_at header 0)) (ap (λ (g : Header). is_image g.sort) (sym facts) ∙ image) in
        let pcount : size_at header (3 + size_at header 2) ≡ 0 = sym (ap (λ (g : Header). g.pcount) facts) ∙ counts.0 in
        let gcount : size_at header (4 + size_at header 2) ≡ 1 = sym (ap (λ (g : Header). g.gcount) facts) ∙ counts.1 in
        extension-clear laws header j (is_first_hdu h.hdu) (size_at header 2) h.cards p s sums packed few is.sums_are after_empty other text
        (sized-as (integer_of (card_at header (3 + size_at header 2))) 0 (values.pcount other) pcount)
        (sized-as (integer_of (card_at header (4 + size_at header 2))) 1 (values.gcount other) gcount)

    parameters-by : (j : ℕ) (c : Codec) → p.codec ≡ c → AreClear (parameter_checks j C)
    parameters-by j (Rice block bytepix) e =
        let can : CanWrite (Rice block bytepix) p.bitpix = subst (λ c. CanWrite c p.bitpix) e writable in
        rice-clear laws header j (is_first_hdu h.hdu) (size_at header 2) h.cards p s sums packed few is.sums_are block bytepix e can.codes.0.0 can.codes.0.1 (writes-bytes block bytepix p.bitpix can)
    parameters-by j Plio e = no-parameters j C (ap is_rice_name (codec-said laws header j (is_first_hdu h.hdu) (size_at header 2) h.cards p s sums packed ∙ ap (λ c. Some (codec_name c)) e))
    parameters-by j Plain e = no-parameters j C (ap is_rice_name (codec-said laws header j (is_first_hdu h.hdu) (size_at header 2) h.cards p s sums packed ∙ ap (λ c. Some (codec_name c)) e))

    codec-by : (j : ℕ) (c : Codec) → p.codec ≡ c → p.codec ≡ codec_named (said_codec C) C
    codec-by j (Rice block bytepix) e =
        let can : CanWrite (Rice block bytepix) p.bitpix = subst (λ c. CanWrite c p.bitpix) e writable in
        e ∙ sym (rice-said laws header j (is_first_hdu h.hdu) (size_at header 2) h.cards p s sums packed few is.sums_are block bytepix e can.codes.0.0 can.codes.0.1 (writes-bytes block bytepix p.bitpix can))
    codec-by j Plio e = e ∙ sym (ap (λ t. codec_named t C) (codec-said laws header j (is_first_hdu h.hdu) (size_at header 2) h.cards p s sums packed ∙ ap (λ c. Some (codec_name c)) e))
    codec-by j Plain e = e ∙ sym (ap (λ t. codec_named t C) (codec-said laws header j (is_first_hdu h.hdu) (size_at header 2) h.cards p s sums packed ∙ ap (λ c. Some (codec_name c)) e))

    said-shape : (j : ℕ) → said_axes C ≡ lengths_of p.shape
    said-shape j = axes-said laws header j (is_first_hdu h.hdu) (size_at header 2) h.cards p s sums packed h.hdu values axes divided

    said-tiles : (j : ℕ) → said_tile C ≡ lengths_of p.tile
    said-tiles j = tile-said laws header j (is_first_hdu h.hdu) (size_at header 2) h.cards p s sums packed h.hdu values axes divided L tile

    plan-back : (j : ℕ) → plan_of_cards C ≡ p
    plan-back j =
        let shapes : p.shape ≡ nine_axes (said_axes C) = axes ∙ ap nine_axes (sym (said-shape j ∙ (ap lengths_of axes ∙ lengths-nine_axes (axes_of header)))) in
        let tiles : p.tile ≡ nine_axes (said_tile C) = tile ∙ ap nine_axes (sym (said-tiles j ∙ (ap lengths_of tile ∙ lengths-nine_axes L))) in
        sym (same-plan C p (codec-by j p.codec refl) (sym (bitpix-said laws header j (is_first_hdu h.hdu) (size_at header 2) h.cards p s sums packed bits size writable.plain)) shapes tiles
        (primary ∙ sym (primary-is laws header (is_first_hdu h.hdu) (size_at header 2) h.cards (made_cards p s) sums packed (is_first_hdu h.hdu) refl)) wide)

    -- the bytes that have these cards
    module _ (k start : ℕ) (bytes : List ℕ) (has : HasCards bytes (packed_with (cards_of header) p s sums)) where
      abbrev f : Header
      f = facts_of (suc k) start bytes

      abbrev behind : List (List ℕ)
      behind = image_cards header h.cards ++ sums

      same : cards_of bytes ≡ C
      same = has.are ∙ ap (λ l. packed_with l p s sums) (header-cards header h is.is_header)

      with_cards : HasCards bytes (made_cards p s ++ behind)
      with_cards = record { whole = has.whole; short = has.short; are = same }

      rows : planned_rows p ≤ 2147483647
      rows = omega (arith, divided.tiles)

      row-clear : (j : ℕ) → not (size_at bytes 4 == tile_count (said_axes C) (said_tile C)) ≡ false
      row-clear j =
          let count : tile_count (said_axes C) (said_tile C) ≡ planned_rows p = ap (λ l. tile_count l (said_tile C)) (said-shape j) ∙ ap (tile_count (lengths_of p.shape)) (said-tiles j) in
          ap not (eq-eqb (size_at bytes 4) (tile_count (said_axes C) (said_tile C)) (size-4 laws k start bytes p s behind with_cards rows is.totals.heap ∙ sym count))

      plan-accepted : (after_empty : Bool) → (p.primary ≡ true → after_empty ≡ true) → plan_answer (suc k) bytes after_empty ≡ Ok p
      plan-accepted after_empty after =
          accepted-by (suc k) bytes after_empty p (ap plan_of_cards same ∙ plan-back (suc k)) (record {
            scaling = subst (λ cs. AreClear (scaling_check (suc k) cs ∷ [])) (sym same) (scaling-clear laws header (suc k) (is_first_hdu h.hdu) (size_at header 2) h.cards p s sums packed few is.sums_are);
            codec = subst (λ cs. AreClear (codec_checks (suc k) cs)) (sym same) (codec-clear laws header (suc k) (is_first_hdu h.hdu) (size_at header 2) h.cards p s sums packed);
            bits = subst (λ cs. AreClear (bitpix_checks (suc k) cs)) (sym same) (bitpix-clear laws header (suc k) (is_first_hdu h.hdu) (size_at header 2) h.cards p s sums packed bits size writable.plain);
            shape = subst (λ cs. AreClear (shape_checks (suc k) cs)) (sym same) (shape-clear laws header (suc k) (is_first_hdu h.hdu) (size_at header 2) h.cards p s sums packed h.hdu values axes divided L tile);
            parameters = subst (λ cs. AreClear (parameter_checks (suc k) cs)) (sym same) (parameters-by (suc k) p.codec refl);
            sort = subst (λ cs. AreClear (sort_checks (suc k) cs after_empty)) (sym same) (sorts-by h.hdu (suc k) after_empty refl after);
            line = subst (λ cs. AreClear (line_list_check (suc k) cs ∷ [])) (sym same) (line-clear laws header (suc k) (is_first_hdu h.hdu) (size_at header 2) h.cards p s sums packed few is.sums_are offset);
            row = subst (λ cs. not (size_at bytes 4 == tile_count (said_axes cs) (said_tile cs)) ≡ false) (sym same) (row-clear (suc k));
          })

      -- the facts
      axes-of : f.axes ≡ nine_axes (planned_row p ∷ planned_rows p ∷ [])
      axes-of = ap nine_axes (axes-are laws k start bytes p s behind with_cards rows is.totals.heap)

      -- a card of a column
      said : (name card : List ℕ) → find (has_name name) C ≡ Some card → the_card name (cards_of bytes) ≡ card
      said name card e = ap (the_card name) same ∙ ap (λ o. unwrap_or o []) e

      numbered : (stem : List ℕ) (i : ℕ) → length stem ≡ 5 → i < 10 → length (numbered_name stem i) ≡ 8
      numbered stem i five small = laws.numbers.eight_bytes stem i (omega (arith, five), small-number stem five)
        where
          small-number : (stem : List ℕ) → length stem ≡ 5 → i < 10 ^ (8 - length stem)
          small-number stem five = subst (λ m. i < 10 ^ (8 - m)) (sym five) (omega arith)

      form-by : (i : ℕ) (letter : List ℕ) (most unit : ℕ) → i < 10 → most < 10 ^ 18 → (l : IsLetter letter unit) → find (has_name (numbered_name (codes "TFORM") i)) C ≡ Some (numbered_word_card (codes "TFORM") i (descriptor_form p.wide letter most)) →
          form_of bytes i ≡ form_in (descriptor_form p.wide (l.byte ∷ []) 0)
      form-by i letter most unit small short l e =
          ap (option_and_then form_in) (said-text bytes (numbered_name (codes "TFORM") i) (tform_card bytes i) refl ∙ (ap text_of (said (numbered_name (codes "TFORM") i) _ e)
          ∙ text-says laws (numbered_name (codes "TFORM") i) (descriptor_form p.wide letter most) (numbered (codes "TFORM") i refl small) (form_is_text p.wide letter most (letter-long letter unit l) l.plain (omega (arith, short)))))
          ∙ (ap (λ x. form_in (descriptor_form p.wide x most)) l.is ∙ form-read p.wide l.byte most)

      title-by : (i : ℕ) (text : List ℕ) → i < 10 → IsCardText text → find (has_name (numbered_name (codes "TTYPE") i)) C ≡ Some (numbered_word_card (codes "TTYPE") i text) → title_of bytes i ≡ Some text
      title-by i text small is_text e =
          said-text bytes (numbered_name (codes "TTYPE") i) (ttype_card bytes i) refl ∙ (ap text_of (said (numbered_name (codes "TTYPE") i) _ e) ∙ text-says laws (numbered_name (codes "TTYPE") i) text (numbered (codes "TTYPE") i refl small) is_text)

      everywhere : (name : List ℕ) → NoneNamed name (made_cards p s) → NoneNamed name (image_cards header h.cards) → NoneNamed name sums → NoneNamed name C
      everywhere name a b c = all-append (λ card. has_name name card ≡ false) (made_cards p s) behind a (all-append (λ card. has_name name card ≡ false) (image_cards header h.cards) sums b c)

      no-heap-card : theap_card bytes ≡ None
      no-heap-card =
          index-named bytes (padded (codes "THEAP")) (theap_card bytes) refl
          ∙ (ap (index_of (padded (codes "THEAP"))) same
          ∙ none-position (has_name (padded (codes "THEAP"))) C (everywhere (padded (codes "THEAP")) (no-theap laws p s few)
          (none-of-image laws header (is_first_hdu h.hdu) (size_at header 2) h.cards packed.image (padded (codes "THEAP")) theap-dropped) (none-of-sums (padded (codes "THEAP")) sums refl refl is.sums_are)))

      abbrev coded : IsLetter (coded_letter p.codec) (coded_unit p.codec)
      coded = coded-letter p.codec

      abbrev stored : IsLetter (stored_letter p.bitpix) (pixel_len p.bitpix)
      stored = stored-letter p.bitpix writable.size

      row-of : row_len_of f ≡ planned_row p
      row-of = ap (λ (a : Axes). slice_index a.len 0) axes-of

      rows-of : row_count_of f ≡ planned_rows p
      rows-of = ap (λ (a : Axes). slice_index a.len 1) axes-of

      says : SaysTable bytes f p.wide coded.byte stored.byte
      says = record {
        bitpix = bitpix-is laws k start bytes p s behind with_cards rows is.totals.heap;
        axes = ap (λ (a : Axes). a.n) axes-of;
        groups = gcount-is laws k start bytes p s behind with_cards rows is.totals.heap;
        row = row-of;
        fields = said-integer bytes (padded (codes "TFIELDS")) (tfields_card bytes) refl ∙ (ap integer_of (said (padded (codes "TFIELDS")) _ (tfields-found p s behind)) ∙ number-says laws (padded (codes "TFIELDS")) 2 refl (omega arith));
        form1 = form-by 1 (coded_letter p.codec) s.emax_coded (coded_unit p.codec) (omega arith) is.totals.coded coded (tform1-found p s behind);
        form2 = form-by 2 (stored_letter p.bitpix) s.emax_stored (pixel_len p.bitpix) (omega arith) is.totals.stored stored (tform2-found p s behind);
        title1 = title-by 1 (codes "COMPRESSED_DATA") (omega arith) coded-text (ttype1-found p s behind);
        title2 = title-by 2 (codes "UNCOMPRESSED_DATA") (omega arith) stored-text (ttype2-found p s behind);
        theap = no-heap-card;
        coded_letter = coded.allowed;
        stored_letter = stored.allowed;
      }

      heap-is : rows_len_of f + f.pcount - rows_len_of f ≡ s.heap
      heap-is = let heap : f.pcount ≡ s.heap = pcount-is laws k start bytes p s behind with_cards rows is.totals.heap in omega (arith, heap)

      table-accepted : table_of bytes f ≡ Ok (packed_table p (data_start_of f) s.heap)
      table-accepted =
          table-said bytes f p.wide coded.byte stored.byte says
          ∙ (λ i. Ok (record {
            row_bytes = row-of i;
            rows = rows-of i;
            rows_at = data_start_of f;
            heap_at = data_start_of f + row-of i * rows-of i;
            heap_len = heap-is i;
            coded = Some (record { at = 0; wide = p.wide; unit = coded.measure i });
            stored = Some (record { at = planned_descriptor p; wide = p.wide; unit = stored.measure i });
            gzip = None;
          }))

      -- the checks of the cards
      is-packed : is_packed bytes f ≡ true
      unfolding is_packed
      is-packed =
          and_from (is_table f.sort) (list_any (is_set (codes "ZIMAGE")) (cards_of bytes)) (ap is_table (sort-is laws k start bytes p s behind with_cards rows is.totals.heap))
          (ap (list_any (is_set (codes "ZIMAGE"))) same ∙ any-at (is_set (codes "ZIMAGE")) C 12 [] (omega arith) flag)
        where
          flag : is_set (codes "ZIMAGE") (flag_card (codes "ZIMAGE")) ≡ true
          flag =
              and_from (is_named (codes "ZIMAGE") (flag_card (codes "ZIMAGE"))) (unwrap_or (logical_of (flag_card (codes "ZIMAGE"))) false)
              ((bytes_eq-Decides (card_name (flag_card (codes "ZIMAGE"))) (padded (codes "ZIMAGE"))).1 (laws.made.logical_name (padded (codes "ZIMAGE")) true refl))
              (ap (λ o. unwrap_or o false) (flag-says laws (padded (codes "ZIMAGE")) true refl))

      cards-accepted : first_refusal (table_card_checks f bytes) ≡ None
      cards-accepted = none-refuses (table_card_checks f bytes) (
        ap (λ l. is_some (position (is_set (codes "ZTABLE")) l)) same
            ∙ ap is_some (none-position (is_set (codes "ZTABLE")) C (all-weaker (λ card. has_name (padded (codes "ZTABLE")) card ≡ false) (λ card. is_set (codes "ZTABLE") card ≡ false) C
            (λ card e. and_left (is_named (codes "ZTABLE") card) (unwrap_or (logical_of card) false) e)
            (everywhere (padded (codes "ZTABLE")) (none-dropped (padded (codes "ZTABLE")) (made_cards p s) ztable-kept (made-dropped laws p s few))
            (none-foreign laws header (is_first_hdu h.hdu) (size_at header 2) h.cards packed.image (padded (codes "ZTABLE")) ztable-foreign.0 ztable-foreign.1)
            (none-dropped (padded (codes "ZTABLE")) sums ztable-kept (sums-dropped sums is.sums_are))))),
        (
          and_right (is_packed bytes f) (is_some (first_repeat table_names counted_name (cards_of bytes)))
              (ap is_some (ap (first_repeat table_names counted_name) same ∙ packed-once laws header (is_first_hdu h.hdu) (size_at header 2) h.cards p s sums packed.image few is.sums_are)),
          tt,
        ),
      )

      pub accepted : IsAccepted p s bytes f
      accepted = record {
        header_is = header-is laws k start bytes p s behind with_cards rows is.totals.heap;
        sort = sort-is laws k start bytes p s behind with_cards rows is.totals.heap;
        bitpix = bitpix-is laws k start bytes p s behind with_cards rows is.totals.heap;
        axes = axes-of;
        pcount = pcount-is laws k start bytes p s behind with_cards rows is.totals.heap;
        gcount = gcount-is laws k start bytes p s behind with_cards rows is.totals.heap;
        packed = is-packed;
        cards = cards-accepted;
        table = table-accepted;
        plan = plan-accepted;
      }
