-- All writes of a patch: the codes after the heap, in order, and then writes in place.
use Rattle.std.specs.Prelude.{⊤}
use Rattle.std.proofs.Common.{◌≡◌, ◌⊎◌, inl, inr, ℕ, zero, suc, ◌+◌, ◌-◌, ◌*◌, ◌/◌, ◌^◌, ◌<◌, ◌≤◌, ◌==◌, ◌&&◌, ◌||◌, not, nat_lt, max, cond, Bool, true, false, ℤ, pos, List, [], ◌∷◌, ◌++◌, length, take, drop, map, zip, codes, Contains, Option, Some, None, Ok, is_some, decimal, min, unwrap_or, if◌then◌else◌, refl, sym, ap, ◌∙◌, subst, arith, append_assoc, ltb-false, length-take}
use Rattle.std.specs.List.{filter, list_any, range_with_len}
use Rattle.fz_base.specs.Counts.{Amend}
use Rattle.fz_base.specs.Refusal.{first_refusal}
use Rattle.fz_block.specs.Cards.{card_at}
use Rattle.fz_block.specs.Facts.{IsHeaderOf}
use Rattle.fz_block.specs.Hdus.{pcount_index}
use Rattle.fz_block.specs.Header.{data_start_of, next_start_of, whole_blocks_of}
use Rattle.fz_block.specs.declared.header.Header.{Header}
use Rattle.fz_card.specs.Laws.{CardLaws}
use Rattle.fz_card.specs.Layout.{card_name, padded}
use Rattle.fz_card.specs.Made.{IsCardText, numbered_name}
use Rattle.fz_sum.specs.Cards.{blank_checksum_card, checksum_card, checksum_name, datasum_card, datasum_name, with_card}
use Rattle.fz_sum.specs.Characters.{characters}
use Rattle.fz_sum.specs.Sums.{ones_sum}
use Rattle.fz_table.specs.Columns.{form_of, tform_card}
use Rattle.fz_table.specs.Forms.{form_in}
use Rattle.fz_table.specs.Rows.{row_at}
use Rattle.fz_table.specs.declared.row.Row.{Row}
use Rattle.fz_table.specs.declared.table.Table.{Table}
use Rattle.fz_tile.specs.Codecs.{CanRead}
use Rattle.fz_tile.specs.Plain.{AreBytes}
use Rattle.fz_tile.specs.TileCode.{TileCode}
use Rattle.fz_checks.specs.Greatest.{greatest}
use Rattle.fz_head.specs.PackedHeader.{coded_letter, descriptor_form, number_card, numbered_word_card, stored_letter}
use Rattle.fz_head.specs.PackedTable.{coded_unit}
use Rattle.fz_head.specs.Planned.{pixel_len}
use Rattle.fz_head.specs.SumCards.{IsSumCard}
use Rattle.fz_head.specs.declared.plan.Plan.{Plan}
use Rattle.fz_files.specs.Packed.{coded_count, heap_of, pixel_bits, stored_count, tiles_in}
use Rattle.fz_files.specs.Restored.{header_in, image_table, plan_in}
use Rattle.fz_laws.specs.Amends.{amended, applied}
use Rattle.fz_laws.specs.FirstPatchFault.{BoxHasNumbers, RowsHaveNumbers, codes_len, room_check}
use Rattle.fz_laws.specs.PatchForm.{is_wide_table}
use Rattle.fz_laws.specs.Given.{Given}
use Rattle.fz_laws.specs.PatchHeaders.{IsAmended}
use Rattle.fz_laws.specs.PatchLaws.{AreInOrder, IsGivenFor}
use Rattle.fz_laws.specs.NewNumbers.{box_tiles}
use Rattle.fz_laws.specs.PatchTaken.{WriteLaws}
use Rattle.fz_laws.specs.Writes.{Steps, all_writes, before_rows, before_sums, card_write, checksum_write, checksum_writes, code_writes, column_writes, data_now, datasum_write, datasum_writes, form_writes, grown_end, heap_end, heap_writes, new_codes, pcount_writes, row_writes, said_most, steps_of, sum_writes, table_plan, table_steps, told_sum, zero_writes}
use Rattle.fz_laws.proofs.AmendedCards.{name_at}
use Rattle.fz_laws.proofs.Between.{AreFine, IsBetween, IsCardWrite, steps, unchanged}
use Rattle.fz_laws.proofs.CardWrites.{AreApart, HasFormCard, apart_both, card_apart, form_card, form_card_there, form_differs, pcount_card, pcount_named, pcount_within, sum_card, sum_differs, told_card}
use Rattle.fz_laws.proofs.CodesWritten.{CodesAre, EndWithin, HaveBytes, InOrderFrom, before_zeros, codes_long, codes_ordered, codes_there, codes_stay, within_both, within_ordered, zeros_long, zeros_ordered}
use Rattle.fz_laws.proofs.Counts.{AreBelow, both_below, coded_below, coded_rows_below, greatest_below, stored_below, stored_rows_below}
use Rattle.fz_laws.proofs.FormColumns.{IsLetter, coded_byte, first_form, form_some, second_form, stored_byte}
use Rattle.fz_laws.proofs.FormTexts.{form_is_text}
use Rattle.fz_laws.proofs.NewBoxes.{kept}
use Rattle.fz_laws.proofs.Passes.{all_pass}
use Rattle.fz_laws.proofs.RowWrites.{AreInBox, AreInPlace, IsNewBytes, NoRow, any_place, codes_fine, fine_both, have_bytes, in_place_both, in_place_fine, in_place_within, rows_in_place, some_row, zeros_fine}
use Rattle.fz_laws.proofs.TargetFacts.{HasTarget, heap_end_is, heap_len_is, lies, whole_at_least, whole_rises}

-- ---- lists of writes

pub applied_both : (xs ys : List Amend) (file : List ℕ) → applied (xs ++ ys) file ≡ applied ys (applied xs file)
applied_both [] ys file = refl
applied_both (x ∷ xs) ys file = applied_both xs ys (amended x file)

-- ---- the tiles of the box

box_from : (file : List ℕ) (h : Header) (g : Given) (test : ℕ → Bool) (a n : ℕ) →
    ((t : ℕ) → a ≤ t → t < a + n → test t ≡ true → (t < tiles_in (plan_in file h)) × Contains (box_tiles (plan_in file h) g) t) →
    AreInBox file h g (filter test (range_with_len a n))
box_from file h g test a zero each = tt
box_from file h g test a (suc n) each = by_test (test a) refl (box_from file h g test (a + 1) n (λ t low high. each t (omega arith) (omega arith)))
  where
    by_test : (b : Bool) → test a ≡ b → AreInBox file h g (filter test (range_with_len (a + 1) n)) →
        AreInBox file h g (cond b (a ∷ filter test (range_with_len (a + 1) n)) (filter test (range_with_len (a + 1) n)))
    by_test true e rest = let here = each a (omega arith) (omega arith) e in (here.0, here.1, rest)
    by_test false e rest = rest

pub box_is : (file : List ℕ) (h : Header) (g : Given) → AreInBox file h g (box_tiles (plan_in file h) g)
box_is file h g = box_from file h g _ 0 (tiles_in (plan_in file h)) (λ t low high passes. (omega arith, kept _ 0 (tiles_in (plan_in file h)) t low high passes))

-- ---- the room

or_left : (a b : Bool) → (a || b) ≡ false → a ≡ false
or_left true b e = absurd cc
or_left false b e = refl

or_right : (a b : Bool) → (a || b) ≡ false → b ≡ false
or_right true b e = absurd cc
or_right false b e = e

and_right_false : (a b : Bool) → a ≡ true → (a && b) ≡ false → b ≡ false
and_right_false true b e f = f
and_right_false false b e f = absurd cc

-- what the room for the new codes says
pub record HasRoom (file : List ℕ) (h : Header) (more : ℕ) : Type 0 where
  pub offset : is_wide_table (header_in file h) ≡ false → h.pcount + more ≤ 2147483647
  pub short : h.pcount + more < 10 ^ 18
  pub end : grown_end h more ≤ 2 ^ 62

pub has_room : (file : List ℕ) (h : Header) (more : ℕ) → first_refusal (room_check file h more ∷ []) ≡ None → HasRoom file h more
has_room file h more e =
    let wide : Bool = not (is_wide_table (header_in file h)) && nat_lt 2147483647 (h.pcount + more) in
    let all = (all_pass (room_check file h more ∷ []) e).0 in
    let rest = or_right wide (nat_lt (10 ^ 18 - 1) (h.pcount + more) || nat_lt (2 ^ 62) (grown_end h more)) all in
    let digits = ltb-false (10 ^ 18 - 1) (h.pcount + more) (or_left (nat_lt (10 ^ 18 - 1) (h.pcount + more)) (nat_lt (2 ^ 62) (grown_end h more)) rest) in
    record {
      offset = λ narrow. ltb-false 2147483647 (h.pcount + more) (and_right_false (not (is_wide_table (header_in file h))) (nat_lt 2147483647 (h.pcount + more)) (ap not narrow) (or_left wide (nat_lt (10 ^ 18 - 1) (h.pcount + more) || nat_lt (2 ^ 62) (grown_end h more)) all));
      short = omega arith;
      end = ltb-false (2 ^ 62) (grown_end h more) (or_right (nat_lt (10 ^ 18 - 1) (h.pcount + more)) (nat_lt (2 ^ 62) (grown_end h more)) rest);
    }

-- ---- the writes

header_room : (file : List ℕ) (h : Header) → length (header_in file h) ≤ 2880 * h.blocks
header_room file h = let size : length (header_in file h) ≡ min (2880 * h.blocks) (length (drop h.start file)) = length-take (2880 * h.blocks) (drop h.start file) in omega arith

-- both cards of sums in their places, in a file whose cards have the names that they had
module _ (laws : WriteLaws) (file : List ℕ) (h : Header) (t : Table) (says : ℕ → List ℕ → Type 0) where
  datasum_in_place : (x : List ℕ) → IsAmended (header_in file h) (header_in x h) → AreInPlace file h t says (datasum_writes x h)
  unfolding datasum_card
  datasum_in_place x are = by_told (told_sum datasum_name (header_in x h)) refl
    where
      by_told : (o : Option ℕ) → told_sum datasum_name (header_in x h) ≡ o → AreInPlace file h t says (datasum_write x h o)
      by_told None e = tt
      by_told (Some i) e =
          let told = told_card datasum_name (header_in x h) i e in
          let sum : ℕ = ones_sum (data_now x h) in
          let whole = laws.datasum sum (laws.fits (data_now x h)) in
          let size = are.length_is in
          let below = told.1 in (
            inl (sum_card file x h i datasum_name (datasum_card sum) (inl refl) whole.whole (laws.cards.made.text_name datasum_name (decimal sum) refl) (header_room x h) told.0 told.2
                (name_at laws.cards laws.first (header_in file h) (header_in x h) are i (omega arith))),
            tt,
          )

  checksum_in_place : (x : List ℕ) → IsAmended (header_in file h) (header_in x h) → AreInPlace file h t says (checksum_writes x h)
  unfolding checksum_card
  checksum_in_place x are = by_told (told_sum checksum_name (header_in x h)) refl
    where
      by_told : (o : Option ℕ) → told_sum checksum_name (header_in x h) ≡ o → AreInPlace file h t says (checksum_write x h o)
      by_told None e = tt
      by_told (Some i) e =
          let told = told_card checksum_name (header_in x h) i e in
          let sum : ℕ = ones_sum (with_card i blank_checksum_card (header_in x h) ++ data_now x h) in
          let whole = laws.checksum sum in
          let size = are.length_is in
          let below = told.1 in (
            inl (sum_card file x h i checksum_name (checksum_card sum) (inr refl) whole.whole (laws.cards.made.text_name checksum_name (characters sum) refl) (header_room x h) told.0 told.2
                (name_at laws.cards laws.first (header_in file h) (header_in x h) are i (omega arith))),
            tt,
          )

-- the byte at which PCOUNT is
abbrev pub pcount_at : List ℕ → Header → ℕ
pcount_at file h = h.start + 80 * pcount_index (header_in file h)

module _ (laws : WriteLaws) (file : List ℕ) (h : Header) (is : IsHeaderOf (header_in file h) h) (later : 0 < h.hdu) where
  sum_apart : (x : List ℕ) (i : ℕ) (name card : List ℕ) → (name ≡ datasum_name) ⊎ (name ≡ checksum_name) → length card ≡ 80 → IsAmended (header_in file h) (header_in x h) → told_sum name (header_in x h) ≡ Some i →
      AreApart (pcount_at file h) (card_write h i card ∷ [])
  sum_apart x i name card which long are e =
      let told = told_card name (header_in x h) i e in
      let size = are.length_is in
      let below = told.1 in
      let named : card_name (card_at (header_in file h) i) ≡ name = sym (name_at laws.cards laws.first (header_in file h) (header_in x h) are i (omega arith)) ∙ told.2 in
      (card_apart h.start i (pcount_index (header_in file h)) (header_in file h) card name (padded (codes "PCOUNT")) long named (pcount_named (header_in file h) h is later) (sum_differs name which), tt)

  datasum_apart : (x : List ℕ) → IsAmended (header_in file h) (header_in x h) → AreApart (pcount_at file h) (datasum_writes x h)
  datasum_apart x are = by_told (told_sum datasum_name (header_in x h)) refl
    where
      by_told : (o : Option ℕ) → told_sum datasum_name (header_in x h) ≡ o → AreApart (pcount_at file h) (datasum_write x h o)
      by_told None e = tt
      by_told (Some i) e = sum_apart x i datasum_name (datasum_card (ones_sum (data_now x h))) (inl refl) (laws.datasum (ones_sum (data_now x h)) (laws.fits (data_now x h))).whole are e

  checksum_apart : (x : List ℕ) → IsAmended (header_in file h) (header_in x h) → AreApart (pcount_at file h) (checksum_writes x h)
  checksum_apart x are = by_told (told_sum checksum_name (header_in x h)) refl
    where
      by_told : (o : Option ℕ) → told_sum checksum_name (header_in x h) ≡ o → AreApart (pcount_at file h) (checksum_write x h o)
      by_told None e = tt
      by_told (Some i) e =
          let sum : ℕ = ones_sum (with_card i blank_checksum_card (header_in x h) ++ data_now x h) in
          sum_apart x i checksum_name (checksum_card sum) (inr refl) (laws.checksum sum).whole are e

  -- the write of a form, and a card that has another name
  form_apart : (j : ℕ) (name : List ℕ) → card_name (card_at (header_in file h) j) ≡ name → (i : ℕ) → (numbered_name (codes "TFORM") i ≡ name → ⊥) → (letters news others : List ℕ) →
      (l : IsCardText (descriptor_form (is_wide_table (header_in file h)) letters (greatest (news ++ others)))) → 1 ≤ i → i < 10 → HasFormCard (header_in file h) i →
      AreApart (h.start + 80 * j) (form_writes (header_in file h) h i letters news others)
  form_apart j name named i differs letters news others text low high there = by_test (nat_lt (said_most (header_in file h) i) (greatest news))
    where
      card : List ℕ
      card = numbered_word_card (codes "TFORM") i (descriptor_form (is_wide_table (header_in file h)) letters (greatest (news ++ others)))

      by_test : (b : Bool) → AreApart (h.start + 80 * j) (if b then card_write h (unwrap_or (tform_card (header_in file h) i) 0) card ∷ [] else [])
      by_test true =
          let long : length card ≡ 80 = laws.cards.made.text_length (numbered_name (codes "TFORM") i) (descriptor_form (is_wide_table (header_in file h)) letters (greatest (news ++ others))) (laws.cards.numbers.eight_bytes (codes "TFORM") i (omega arith, omega arith)) text.fits in (
            subst (λ o. (h.start + 80 * unwrap_or o 0 + length card ≤ h.start + 80 * j) ⊎ (h.start + 80 * j + 80 ≤ h.start + 80 * unwrap_or o 0)) (sym there.is)
                (card_apart h.start there.index j (header_in file h) card (numbered_name (codes "TFORM") i) name long there.name named differs),
            tt,
          )
      by_test false = tt

pub rows_apart : (place : ℕ) (t : Table) (p : Plan) (offset : ℕ) (pairs : List (ℕ × TileCode)) → place + 80 ≤ t.rows_at → AreApart place (row_writes t p offset pairs)
rows_apart place t p offset [] before = tt
rows_apart place t p offset ((row, e) ∷ more) before = (inr (omega arith), rows_apart place t p (offset + length e.bytes) more before)

-- ---- the forms

abbrev forms_of : List ℕ → Header → ℕ → List ℕ → List ℕ → List ℕ → List Amend
forms_of file h i letters news others = form_writes (header_in file h) h i letters news others

form_text : (wide : Bool) (unit : ℕ) (letters news others : List ℕ) → IsLetter letters unit → AreBelow (2 ^ 64) news → AreBelow (2 ^ 64) others → IsCardText (descriptor_form wide letters (greatest (news ++ others)))
form_text wide unit letters news others l new_below old_below =
    subst (λ ls. IsCardText (descriptor_form wide ls (greatest (news ++ others)))) (sym l.is)
    (form_is_text wide l.byte (greatest (news ++ others)) l.plain (greatest_below (2 ^ 64) (news ++ others) (omega arith) (both_below (2 ^ 64) news others new_below old_below)))

one_form : CardLaws → (file : List ℕ) (h : Header) (t : Table) (says : ℕ → List ℕ → Type 0) (i unit : ℕ) (letters news others : List ℕ) → 1 ≤ i → i < 10 → IsLetter letters unit →
    HasFormCard (header_in file h) i → ((most : ℕ) → form_of (header_in file h) i ≡ form_in (descriptor_form (is_wide_table (header_in file h)) letters most)) →
    AreBelow (2 ^ 64) news → AreBelow (2 ^ 64) others → AreInPlace file h t says (forms_of file h i letters news others)
one_form cards file h t says i unit letters news others low high l there again new_below old_below = by_test (nat_lt (said_most (header_in file h) i) (greatest news))
  where
    wide : Bool
    wide = is_wide_table (header_in file h)

    most : ℕ
    most = greatest (news ++ others)

    text : IsCardText (descriptor_form wide letters most)
    text = form_text wide unit letters news others l new_below old_below

    by_test : (b : Bool) →
        AreInPlace file h t says (if b then card_write h (unwrap_or (tform_card (header_in file h) i) 0) (numbered_word_card (codes "TFORM") i (descriptor_form wide letters most)) ∷ [] else [])
    by_test true = (inl (form_card cards file h i letters most wide there (header_room file h) low high text (again most)), tt)
    by_test false = tt

forms_in_place : CardLaws → (file : List ℕ) (h : Header) (says : ℕ → List ℕ → Type 0) (tiles : List ℕ) (es : List TileCode) → HasTarget file h → AreBytes file → length (heap_of es) < 2 ^ 64 →
    AreInPlace file h (image_table file h) says (column_writes file h tiles es)
forms_in_place cards file h says tiles es has bytes few =
    let header : List ℕ = header_in file h in
    let p : Plan = plan_in file h in
    let t : Table = image_table file h in
    let bits = has.is.readable.size in
    let first = coded_byte p.codec in
    let second = stored_byte p.bitpix bits in
    let one_text : List ℕ = descriptor_form (is_wide_table header) (coded_letter p.codec) 0 in
    let two_text : List ℕ = descriptor_form (is_wide_table header) (stored_letter p.bitpix) 0 in
    let one_some : is_some (form_in one_text) ≡ true = ap (λ ls. is_some (form_in (descriptor_form (is_wide_table header) ls 0))) first.is ∙ form_some first.byte 0 (is_wide_table header) in
    let two_some : is_some (form_in two_text) ≡ true = ap (λ ls. is_some (form_in (descriptor_form (is_wide_table header) ls 0))) second.is ∙ form_some second.byte 0 (is_wide_table header) in
    let ks : List ℕ = filter (λ row. not (list_any (λ tile. tile == row) tiles)) (range_with_len 0 t.rows) in
    let one = form_writes header h 1 (coded_letter p.codec) (map (coded_count p) es) (map (λ (r : Row). r.coded.count) (map (row_at file t) ks)) in
    let two = form_writes header h 2 (stored_letter p.bitpix) (map (stored_count p) es) (map (λ (r : Row). r.stored.count) (map (row_at file t) ks)) in
    in_place_both file h t says one two
    (one_form cards file h t says 1 (coded_unit p.codec) (coded_letter p.codec) (map (coded_count p) es) (map (λ (r : Row). r.coded.count) (map (row_at file t) ks)) (omega arith) (omega arith) (coded_byte p.codec)
    (form_card_there header 1 one_text one_some (first_form header h p has.form bits 0)) (first_form header h p has.form bits) (coded_below p (2 ^ 64) es few) (coded_rows_below file t ks bytes))
    (one_form cards file h t says 2 (pixel_len p.bitpix) (stored_letter p.bitpix) (map (stored_count p) es) (map (λ (r : Row). r.stored.count) (map (row_at file t) ks)) (omega arith) (omega arith) (stored_byte p.bitpix bits)
    (form_card_there header 2 two_text two_some (second_form header h p has.form bits 0)) (second_form header h p has.form bits) (stored_below p (2 ^ 64) es few) (stored_rows_below file t ks bytes))

pub forms_apart : WriteLaws → (file : List ℕ) (h : Header) (j : ℕ) (name : List ℕ) → card_name (card_at (header_in file h) j) ≡ name → ((i : ℕ) → numbered_name (codes "TFORM") i ≡ name → ⊥) →
    (tiles : List ℕ) (es : List TileCode) → HasTarget file h → AreBytes file → length (heap_of es) < 2 ^ 64 → AreApart (h.start + 80 * j) (column_writes file h tiles es)
forms_apart laws file h j name named differs tiles es has bytes few =
    let header : List ℕ = header_in file h in
    let p : Plan = plan_in file h in
    let t : Table = image_table file h in
    let wide : Bool = is_wide_table header in
    let bits = has.is.readable.size in
    let first = coded_byte p.codec in
    let second = stored_byte p.bitpix bits in
    let one_text : List ℕ = descriptor_form (is_wide_table header) (coded_letter p.codec) 0 in
    let two_text : List ℕ = descriptor_form (is_wide_table header) (stored_letter p.bitpix) 0 in
    let one_some : is_some (form_in one_text) ≡ true = ap (λ ls. is_some (form_in (descriptor_form (is_wide_table header) ls 0))) first.is ∙ form_some first.byte 0 (is_wide_table header) in
    let two_some : is_some (form_in two_text) ≡ true = ap (λ ls. is_some (form_in (descriptor_form (is_wide_table header) ls 0))) second.is ∙ form_some second.byte 0 (is_wide_table header) in
    let ks : List ℕ = filter (λ row. not (list_any (λ tile. tile == row) tiles)) (range_with_len 0 t.rows) in
    let one_new : List ℕ = map (coded_count p) es in
    let one_old : List ℕ = map (λ (r : Row). r.coded.count) (map (row_at file t) ks) in
    let two_new : List ℕ = map (stored_count p) es in
    let two_old : List ℕ = map (λ (r : Row). r.stored.count) (map (row_at file t) ks) in
    apart_both (h.start + 80 * j) (form_writes header h 1 (coded_letter p.codec) one_new one_old) (form_writes header h 2 (stored_letter p.bitpix) two_new two_old)
    (form_apart laws file h has.image.is_header has.later j name named 1 (differs 1) (coded_letter p.codec) one_new one_old
    (form_text wide (coded_unit p.codec) (coded_letter p.codec) one_new one_old (coded_byte p.codec) (coded_below p (2 ^ 64) es few) (coded_rows_below file t ks bytes)) (omega arith) (omega arith) (form_card_there header 1 one_text one_some (first_form header h p has.form bits 0)))
    (form_apart laws file h has.image.is_header has.later j name named 2 (differs 2) (stored_letter p.bitpix) two_new two_old
    (form_text wide (pixel_len p.bitpix) (stored_letter p.bitpix) two_new two_old (stored_byte p.bitpix bits) (stored_below p (2 ^ 64) es few) (stored_rows_below file t ks bytes)) (omega arith) (omega arith) (form_card_there header 2 two_text two_some (second_form header h p has.form bits 0)))

-- ---- all of them

-- the file after the codes and the zeros
abbrev pub with_codes : List ℕ → Header → List TileCode → List ℕ
with_codes file h es = applied (heap_writes file h es) file

-- What is known of the writes of a patch: those after the heap are in order, and all others are in place.
pub record AreWrites (file : List ℕ) (h : Header) (g : Given) (es : List TileCode) (s : Steps) : Type 0 where
  pub heap_is : s.heap ≡ heap_writes file h es
  pub room : HasRoom file h (length (heap_of es))
  pub some : HaveBytes es
  pub pcount_is : s.pcount ≡ pcount_writes file h (length (heap_of es))
  pub pcount : AreInPlace file h (image_table file h) NoRow s.pcount
  pub forms : AreInPlace file h (image_table file h) NoRow s.forms
  pub rows : AreInPlace file h (image_table file h) (IsNewBytes file (with_codes file h es) h g ((image_table file h).heap_len + length (heap_of es))) s.rows
  pub sums : AreInPlace file h (image_table file h) (IsNewBytes file (with_codes file h es) h g ((image_table file h).heap_len + length (heap_of es))) s.sums
  pub apart : AreApart (pcount_at file h) (s.forms ++ (s.rows ++ s.sums))

module _ (file : List ℕ) (h : Header) (has : HasTarget file h) (es : List TileCode) (room : HasRoom file h (length (heap_of es))) (some : HaveBytes es) where
  abbrev more : ℕ
  more = length (heap_of es)

  abbrev start : ℕ
  start = heap_end (image_table file h)

  abbrev end : ℕ
  end = grown_end h more

  within : (start ≤ length file) × (start + more ≤ end) × (length file ≤ end)
  within =
      let here = heap_end_is file h has in
      let one = whole_at_least h.data_len in
      let two = whole_at_least (h.data_len + more) in
      let three = whole_rises h.data_len (h.data_len + more) (omega arith) in
      let ends = has.ends in
      (omega arith, omega arith, omega arith)

  pub heap_ordered : (rest : List Amend) → InOrderFrom end rest → AreInOrder (length file) (heap_writes file h es ++ rest)
  heap_ordered rest on =
      let w = within in
      let w0 = w.0 in
      let w1 = w.1 in
      let w2 = w.2 in
      let low = room.end in
      subst (AreInOrder (length file)) (sym (append_assoc (code_writes start es) (zero_writes (start + more) end) rest))
      (codes_ordered start (length file) es (zero_writes (start + more) end ++ rest) some w0 (omega arith)
      (λ len long. zeros_ordered (start + more) end len rest w1 (omega arith) low (λ l far. on l (omega arith))))

  pub heap_fine : (says : ℕ → List ℕ → Type 0) → AreFine file h (image_table file h) says (heap_writes file h es)
  heap_fine says =
      fine_both file h (image_table file h) says (code_writes start es) (zero_writes (start + more) end)
      (codes_fine file h (image_table file h) says start es (omega arith))
      (zeros_fine file h (image_table file h) says (start + more) end (omega arith))

  pub codes_present : CodesAre (with_codes file h es) start es
  codes_present =
      let w = within in
      let w0 = w.0 in
      let w1 = w.1 in
      let long = codes_long start es file some w0 in
      subst (λ l. CodesAre l start es) (sym (applied_both (code_writes start es) (zero_writes (start + more) end) file))
      (codes_stay start es (applied (code_writes start es) file) (applied (zero_writes (start + more) end) (applied (code_writes start es) file))
      (λ s m low high. before_zeros (start + more) end s m (applied (code_writes start es) file) w1 (omega arith) high) (codes_there start es file some w0))

  pub heap_long : length (with_codes file h es) ≡ end
  heap_long =
      let w = within in
      let w0 = w.0 in
      let w1 = w.1 in
      let w2 = w.2 in
      let long = codes_long start es file some w0 in
      let all = zeros_long (start + more) end (applied (code_writes start es) file) w1 (omega arith) in
      ap length (applied_both (code_writes start es) (zero_writes (start + more) end) file) ∙ omega arith

  -- writes in place, after them
  pub place_ordered : (says : ℕ → List ℕ → Type 0) (ws : List Amend) → AreInPlace file h (image_table file h) says ws → InOrderFrom (length file) ws
  place_ordered says ws all len long =
      let w = within in
      let w0 = w.0 in
      let w2 = w.2 in
      let low = room.end in
      within_ordered start ws (omega arith) (in_place_within file file h (image_table file h) says ws (lies file h has) (some_row file h has) all) len (omega arith)

module _ (laws : WriteLaws) (file : List ℕ) (h : Header) (g : Given) (has : HasTarget file h) (given : IsGivenFor (plan_in file h) g) (can : CanRead (plan_in file h).codec (pos (pixel_bits (plan_in file h))))
    (bytes : AreBytes file) (olds : List (List ℤ)) (rows : BoxHasNumbers file h g olds) (fits : first_refusal (room_check file h (codes_len file h g olds) ∷ []) ≡ None) where
  abbrev tiles : List ℕ
  tiles = box_tiles (plan_in file h) g

  abbrev new : List TileCode
  new = new_codes (plan_in file h) g tiles olds

  abbrev total : ℕ
  total = (image_table file h).heap_len + length (heap_of new)

  abbrev says : ℕ → List ℕ → Type 0
  says = IsNewBytes file (with_codes file h new) h g total

  abbrev table : Table
  table = image_table file h

  has_the_room : HasRoom file h (length (heap_of new))
  has_the_room = has_room file h (length (heap_of new)) fits

  some_bytes : HaveBytes new
  some_bytes = have_bytes laws.tiles file h g has can given tiles olds (box_is file h g) rows

  pcount_in_place : (any : ℕ → List ℕ → Type 0) → AreInPlace file h table any (pcount_writes file h (length (heap_of new)))
  pcount_in_place any = (inl (pcount_card laws.cards file h (h.pcount + length (heap_of new)) has.image.is_header has.later (omega arith) has_the_room.short), tt)

  few_bytes : length (heap_of new) < 2 ^ 64
  few_bytes = let short = has_the_room.short in omega arith

  forms_there : (any : ℕ → List ℕ → Type 0) → AreInPlace file h table any (column_writes file h tiles new)
  forms_there any = forms_in_place laws.cards file h any tiles new has bytes few_bytes

  rows_there : AreInPlace file h table says (row_writes table (table_plan file h) table.heap_len (zip tiles new))
  rows_there =
      rows_in_place laws.tiles file h g has can given (with_codes file h new) total table.heap_len tiles olds (box_is file h g) rows (omega arith) (omega arith)
      (codes_present file h has new has_the_room some_bytes)

  abbrev made : Steps
  made = table_steps file h tiles new

  table_rest : AreInPlace file h table says (made.pcount ++ (made.forms ++ made.rows))
  table_rest = in_place_both file h table says made.pcount (made.forms ++ made.rows) (pcount_in_place says) (in_place_both file h table says made.forms made.rows (forms_there says) rows_there)

  before_is : before_sums made ≡ made.heap ++ (made.pcount ++ (made.forms ++ made.rows))
  before_is = append_assoc made.heap (made.pcount ++ made.forms) made.rows ∙ ap (λ l. made.heap ++ l) (append_assoc made.pcount made.forms made.rows)

  -- the file before the checksums
  before_between : IsBetween file h table says (applied (before_sums made) file)
  before_between =
      subst (λ ws. IsBetween file h table says (applied ws file)) (sym before_is)
      (steps laws.places file h table says (lies file h has) file (made.heap ++ (made.pcount ++ (made.forms ++ made.rows))) (unchanged file h table says)
      (heap_ordered file h has new has_the_room some_bytes (made.pcount ++ (made.forms ++ made.rows)) (λ len long. let w = within file h has new has_the_room some_bytes in let far = w.2 in place_ordered file h has new has_the_room some_bytes says (made.pcount ++ (made.forms ++ made.rows)) table_rest len (omega arith)))
      (fine_both file h table says made.heap (made.pcount ++ (made.forms ++ made.rows)) (heap_fine file h has new has_the_room some_bytes says) (in_place_fine file h table says (made.pcount ++ (made.forms ++ made.rows)) table_rest)))

  abbrev before : List ℕ
  before = applied (before_sums made) file

  datasum_there : AreInPlace file h table says (datasum_writes before h)
  datasum_there = datasum_in_place laws file h table says before before_between.cards

  first_between : IsBetween file h table says (applied (datasum_writes before h) before)
  first_between =
      let long = before_between.long in
      steps laws.places file h table says (lies file h has) before (datasum_writes before h) before_between
      (place_ordered file h has new has_the_room some_bytes says (datasum_writes before h) datasum_there (length before) long)
      (in_place_fine file h table says (datasum_writes before h) datasum_there)

  sums_there : AreInPlace file h table says (sum_writes before h)
  sums_there =
      in_place_both file h table says (datasum_writes before h) (checksum_writes (applied (datasum_writes before h) before) h) datasum_there
      (checksum_in_place laws file h table says (applied (datasum_writes before h) before) first_between.cards)

  sums_apart : AreApart (pcount_at file h) (sum_writes before h)
  sums_apart =
      apart_both (pcount_at file h) (datasum_writes before h) (checksum_writes (applied (datasum_writes before h) before) h)
      (datasum_apart laws file h has.image.is_header has.later before before_between.cards)
      (checksum_apart laws file h has.image.is_header has.later (applied (datasum_writes before h) before) first_between.cards)

  all_apart : AreApart (pcount_at file h) (made.forms ++ (made.rows ++ sum_writes before h))
  all_apart =
      apart_both (pcount_at file h) made.forms (made.rows ++ sum_writes before h) (forms_apart laws file h (pcount_index (header_in file h)) (padded (codes "PCOUNT")) (pcount_named (header_in file h) h has.image.is_header has.later) form_differs tiles new has bytes few_bytes)
      (apart_both (pcount_at file h) made.rows (sum_writes before h)
      (rows_apart (pcount_at file h) table (table_plan file h) table.heap_len (zip tiles new) (let in_header = pcount_within (header_in file h) h has.image.is_header has.later in omega arith)) sums_apart)

  pub are_writes : AreWrites file h g new (steps_of file h g olds)
  unfolding steps_of
  are_writes = record {
    heap_is = refl;
    room = has_the_room;
    some = some_bytes;
    pcount_is = refl;
    pcount = pcount_in_place NoRow;
    forms = forms_there NoRow;
    rows = rows_there;
    sums = sums_there;
    apart = all_apart;
  }

-- what the rows of the new codes say
abbrev pub new_rows : List ℕ → Header → Given → List TileCode → ℕ → List ℕ → Type 0
new_rows file h g es = IsNewBytes file (with_codes file h es) h g ((image_table file h).heap_len + length (heap_of es))

-- ---- in order

pub all_is : (s : Steps) → all_writes s ≡ s.heap ++ (s.pcount ++ (s.forms ++ (s.rows ++ s.sums)))
all_is s =
    append_assoc (before_rows s) s.rows s.sums
    ∙ (append_assoc s.heap (s.pcount ++ s.forms) (s.rows ++ s.sums)
    ∙ ap (λ l. s.heap ++ l) (append_assoc s.pcount s.forms (s.rows ++ s.sums)))

module _ (file : List ℕ) (h : Header) (g : Given) (has : HasTarget file h) (es : List TileCode) (s : Steps) (are : AreWrites file h g es s) where
  pub rest_in_place : AreInPlace file h (image_table file h) (new_rows file h g es) (s.pcount ++ (s.forms ++ (s.rows ++ s.sums)))
  rest_in_place =
      in_place_both file h (image_table file h) (new_rows file h g es) s.pcount (s.forms ++ (s.rows ++ s.sums)) (any_place file h (image_table file h) (new_rows file h g es) s.pcount are.pcount)
      (in_place_both file h (image_table file h) (new_rows file h g es) s.forms (s.rows ++ s.sums) (any_place file h (image_table file h) (new_rows file h g es) s.forms are.forms)
      (in_place_both file h (image_table file h) (new_rows file h g es) s.rows s.sums are.rows are.sums))

  pub in_order : AreInOrder (length file) (all_writes s)
  in_order =
      let rest : List Amend = s.pcount ++ (s.forms ++ (s.rows ++ s.sums)) in
      subst (AreInOrder (length file)) (sym (all_is s ∙ ap (λ l. l ++ rest) are.heap_is))
      (heap_ordered file h has es are.room are.some rest
      (λ len long. let w = within file h has es are.room are.some in let far = w.2 in place_ordered file h has es are.room are.some (new_rows file h g es) rest rest_in_place len (omega arith)))

  pub all_fine : AreFine file h (image_table file h) (new_rows file h g es) (all_writes s)
  all_fine =
      let rest : List Amend = s.pcount ++ (s.forms ++ (s.rows ++ s.sums)) in
      subst (AreFine file h (image_table file h) (new_rows file h g es)) (sym (all_is s ∙ ap (λ l. l ++ rest) are.heap_is))
      (fine_both file h (image_table file h) (new_rows file h g es) (heap_writes file h es) rest (heap_fine file h has es are.room are.some (new_rows file h g es)) (in_place_fine file h (image_table file h) (new_rows file h g es) rest rest_in_place))
