-- The header after PCOUNT and the forms were written, and after a checksum was: what it says of the target (FITS 4.0, sections 4.4.1.2, 4.4.2.7,
-- 7.3.1 and 7.3.5).
use Rattle.std.proofs.Common.{◌≡◌, ◌≢◌, ◌⊎◌, inl, inr, ℕ, ◌+◌, ◌*◌, ◌^◌, ◌<◌, ◌≤◌, List, [], ◌∷◌, ◌++◌, length, codes, take, drop, bytes_eq, Option, Some, None, true, false, unwrap_or, refl, sym, ap, ◌∙◌, subst, arith}
use Rattle.std.specs.Prelude.{IfSome}
use Rattle.std.proofs.lemmas.List.FromFn.{length-map-range_with_len}
use Rattle.fz_card.specs.CardLists.{has_name}
use Rattle.fz_card.specs.Layout.{card_name}
use Rattle.fz_card.specs.Made.{int_card_bytes, numbered_name, text_card_bytes}
use Rattle.fz_card.specs.Reading.{integer_of}
use Rattle.fz_block.specs.Cards.{card_at, end_of}
use Rattle.fz_block.specs.Facts.{IsHeaderOf}
use Rattle.fz_block.specs.Hdus.{cards_of, naxis_of, pcount_index, size_at, size_in}
use Rattle.fz_block.specs.declared.header.Header.{Header}
use Rattle.fz_sum.specs.Cards.{checksum_name, datasum_name, with_card}
use Rattle.fz_table.specs.Tables.{heap_start_of, rows_len_of, table_in}
use Rattle.fz_table.specs.declared.table.Table.{Table}
use Rattle.fz_tile.specs.Pixels.{IsBitpix}
use Rattle.fz_head.specs.PackedHeader.{coded_letter, descriptor_form, number_card, numbered_word_card, stored_letter}
use Rattle.fz_head.specs.PackedPlan.{plan_of_cards}
use Rattle.fz_head.specs.declared.plan.Plan.{Plan}
use Rattle.fz_files.specs.Restored.{header_in}
use Rattle.fz_laws.specs.PatchForm.{has_form, is_wide_table}
use Rattle.fz_laws.specs.Grown.{CountsGrow, FormsChange, GrownHeadersSayMore, IsCardFor, IsFormFor, OneMoreIsAmended, SaysMore, SumsChange, form_index, longer}
use Rattle.fz_laws.specs.PatchHeaders.{IsAmended, IsAmendedCard}
use Rattle.fz_base.specs.Counts.{Amend}
use Rattle.fz_laws.specs.Amends.{amended, applied}
use Rattle.fz_laws.specs.PatchLaws.{CardsStandInPlace}
use Rattle.fz_laws.specs.Writes.{card_write, told_sum}
use Rattle.fz_patch.specs.Cards.{HasPlaces, form_card_of, form_write, forms_writes, pcount_at, pcount_card, with_form, with_forms}
use Rattle.fz_target.specs.Measures.{HasRoom}
use Rattle.fz_target.specs.Targets.{IsFoundBy, IsTarget, IsTargetIn, grown_by}
use Rattle.fz_patch.specs.declared.column.Forms.{Forms}
use Rattle.fz_target.specs.declared.measure.Measure.{Measure}
use Rattle.fz_patch.specs.declared.places.Places.{Places}
use Rattle.fz_target.specs.declared.target.Target.{Target}
use Rattle.fz_patch.proofs.CodedEnds.{HasEnds, ends_of}
use Rattle.fz_patch.proofs.Slices.{long_written}
use Rattle.fz_patch.proofs.SumCards.{header_long}
use Rattle.fz_patch.proofs.SumsTold.{told_beside}

-- what is taken of the laws of cards
pub record StepLaws : Type 0 where
  pub count : CountsGrow
  pub forms : FormsChange
  pub sums : SumsChange
  pub more : OneMoreIsAmended
  pub says : GrownHeadersSayMore
  pub there : (i : ℕ) (card bytes : List ℕ) → length card ≡ 80 → 80 * (i + 1) ≤ length bytes → take 80 (drop (80 * i) (with_card i card bytes)) ≡ card
  pub others : (i j : ℕ) (card bytes : List ℕ) → length card ≡ 80 → 80 * (i + 1) ≤ length bytes → i ≢ j → take 80 (drop (80 * j) (with_card i card bytes)) ≡ take 80 (drop (80 * j) bytes)
  pub long : (i : ℕ) (card bytes : List ℕ) → length card ≡ 80 → 80 * (i + 1) ≤ length bytes → length (with_card i card bytes) ≡ length bytes

nothing_amended : (header : List ℕ) → IsAmended header header
nothing_amended header = record { length_is = refl; cards = λ index within. inl refl }

-- PCOUNT is after the axes
pub pcount_place : (header : List ℕ) (h : Header) → IsHeaderOf header h → 3 + h.axes.n ≡ pcount_index header
pcount_place header h is =
    let axes : h.axes.n ≡ naxis_of header = ap (λ (x : Header). x.axes.n) is.facts ∙ length-map-range_with_len (size_at header) 3 (naxis_of header) in
    ap (λ n. 3 + n) axes

-- the name of a checksum
abbrev pub IsSumName : List ℕ → Type 0
IsSumName name = (name ≡ datasum_name) ⊎ (name ≡ checksum_name)

-- a card has not the name of a checksum
abbrev NamesNoSum : List ℕ → Type 0
NamesNoSum card = (name : List ℕ) → IsSumName name → has_name name card ≡ false

pcount_no_sum : (count : ℕ) → NamesNoSum (number_card (codes "PCOUNT") count)
unfolding int_card_bytes
pcount_no_sum count name (inl is) = ap (λ n. has_name n (number_card (codes "PCOUNT") count)) is
pcount_no_sum count name (inr is) = ap (λ n. has_name n (number_card (codes "PCOUNT") count)) is

form_no_sum : (column : ℕ) (text : List ℕ) → NamesNoSum (numbered_word_card (codes "TFORM") column text)
unfolding text_card_bytes numbered_name
form_no_sum column text name (inl is) = ap (λ n. has_name n (numbered_word_card (codes "TFORM") column text)) is
form_no_sum column text name (inr is) = ap (λ n. has_name n (numbered_word_card (codes "TFORM") column text)) is

-- a card that is in the place of another has its name
name_kept : (old new : List ℕ) → IsAmendedCard old new → card_name new ≡ card_name old
name_kept old new (inl same) = ap card_name same
name_kept old new (inr changed) = changed.0

-- a header so far: cards were put there, and PCOUNT says this; the cards of checksums are told as before
record SoFar (header new : List ℕ) (count : ℕ) : Type 0 where
  are : IsAmended header new
  counted : size_at new (pcount_index header) ≡ count
  many : unwrap_or (end_of new) 0 ≡ unwrap_or (end_of header) 0
  told : (name : List ℕ) → IsSumName name → told_sum name new ≡ told_sum name header

module _ (laws : StepLaws) (t : Target) (header : List ℕ) (places : Places) (m : Measure) (forms : Forms) (is : IsTarget t) (by : IsFoundBy header t) (at : HasPlaces header places) (room : HasRoom t m) (small : IfSome forms.coded (λ n. n < 2 ^ 64) × IfSome forms.stored (λ n. n < 2 ^ 64)) where
  abbrev pub h : Header
  h = t.header

  abbrev pub p : Plan
  p = plan_of_cards (cards_of header)

  abbrev pub count : ℕ
  count = h.pcount + m.bytes

  pub bits : IsBitpix p.bitpix
  bits = subst (λ (q : Plan). IsBitpix q.bitpix) (sym by.plan) is.writable.size

  pub form : has_form header h p ≡ true
  form = subst (λ (q : Plan). has_form header h q ≡ true) (sym by.plan) by.form

  -- another card in its place
  one_card : (k : ℕ) (card cur : List ℕ) → IsCardFor header k card → NamesNoSum card → IsAmended header cur → unwrap_or (end_of cur) 0 ≡ unwrap_or (end_of header) 0 → size_at (with_card k card cur) (pcount_index header) ≡ count →
      ((name : List ℕ) → IsSumName name → told_sum name cur ≡ told_sum name header) → SoFar header (with_card k card cur) count
  one_card k card cur c apart so many counted told =
      let new : List ℕ = with_card k card cur in
      let are : IsAmended header new = laws.more header cur card k so c in
      let says : SaysMore header new h m.bytes = laws.says header new h m.bytes by.found are counted in
      let within : 80 * (k + 1) ≤ length cur = omega (arith, c.within, so.length_is) in
      let here : card_name (card_at cur k) ≡ card_name card = name_kept (card_at header k) (card_at cur k) (so.cards k (omega (arith, c.within))) ∙ sym (name_kept (card_at header k) card c.amends) in
      let count_is : unwrap_or (end_of new) 0 ≡ unwrap_or (end_of header) 0 = sym (ap (λ (x : Header). x.cards) says.is.is_header.facts) ∙ ap (λ (x : Header). x.cards) by.found.is_header.facts in
      record {
        are = are;
        counted = counted;
        many = count_is;
        told = λ name is.
            told_beside name cur new k (count_is ∙ sym many) (λ n other. laws.others k n card cur c.long within other) (ap (λ n. bytes_eq n name) here ∙ apart name is)
            (ap (has_name name) (laws.there k card cur c.long within) ∙ apart name is)
            ∙ told name is;
      }

  abbrev pub first : List ℕ
  first = with_card (pcount_at t) (pcount_card t m) header

  with_pcount : SoFar header first count
  with_pcount =
      let ends : HasEnds t m.bytes = ends_of t m room in
      let place : pcount_at t ≡ pcount_index header = pcount_place header h by.found.is_header in
      let both = laws.count header h count by.found (omega arith) ends.short in
      let c : IsCardFor header (pcount_index header) (number_card (codes "PCOUNT") count) = both.0 in
      let same : first ≡ with_card (pcount_index header) (number_card (codes "PCOUNT") count) header = ap (λ i. with_card i (number_card (codes "PCOUNT") count) header) place in
      subst (λ l. SoFar header l count) (sym same)
      (one_card (pcount_index header) (number_card (codes "PCOUNT") count) header c (pcount_no_sum count) (nothing_amended header) refl
      (ap (λ l. size_in (integer_of l)) (laws.there (pcount_index header) (number_card (codes "PCOUNT") count) header c.long c.within) ∙ both.1) (λ name is. refl))

  one_form : (column place : ℕ) (letter new : List ℕ) (most : ℕ) → place ≡ form_index header column → IsFormFor header column letter most → SoFar header new count → SoFar header (with_card place (form_card_of t column letter most) new) count
  one_form column place letter new most there may so =
      let card : List ℕ = numbered_word_card (codes "TFORM") column (descriptor_form (is_wide_table header) letter most) in
      let c : IsCardFor header (form_index header column) card = may.0 in
      let same : with_card place (form_card_of t column letter most) new ≡ with_card (form_index header column) card new =
      λ j. with_card (there j) (numbered_word_card (codes "TFORM") column (descriptor_form (sym by.wide j) letter most)) new in
      let size = so.are.length_is in
      let within = c.within in
      subst (λ l. SoFar header l count) (sym same)
      (one_card (form_index header column) card new c (form_no_sum column (descriptor_form (is_wide_table header) letter most)) so.are so.many
      (ap (λ l. size_in (integer_of l)) (laws.others (form_index header column) (pcount_index header) card new c.long (omega arith) may.1) ∙ so.counted) so.told)

  with_one : (column place : ℕ) (letter new : List ℕ) (most : Option ℕ) → place ≡ form_index header column → ((n : ℕ) → n < 2 ^ 64 → IsFormFor header column letter n) → IfSome most (λ n. n < 2 ^ 64) → SoFar header new count →
      SoFar header (with_form t column place letter most new) count
  with_one column place letter new None there may few so = so
  with_one column place letter new (Some most) there may few so = one_form column place letter new most there (may most few) so

  all_forms : SoFar header (with_forms t places m forms header) count
  all_forms =
      with_one 2 places.stored (stored_letter t.image.plan.bitpix) (with_form t 1 places.coded (coded_letter t.image.plan.codec) forms.coded first) forms.stored at.stored
      (λ n few. subst (λ (q : Plan). IsFormFor header 2 (stored_letter q.bitpix) n) by.plan (laws.forms header h n by.found bits form (omega arith)).1) small.1
      (with_one 1 places.coded (coded_letter t.image.plan.codec) first forms.coded at.coded
      (λ n few. subst (λ (q : Plan). IsFormFor header 1 (coded_letter q.codec) n) by.plan (laws.forms header h n by.found bits form (omega arith)).0) small.0 with_pcount)

  -- the cards of checksums are told as before
  pub sums_told : (name : List ℕ) → IsSumName name → told_sum name (with_forms t places m forms header) ≡ told_sum name header
  sums_told = all_forms.told

  -- it says the same image, whose heap is longer
  pub grown_says : SaysMore header (with_forms t places m forms header) h m.bytes
  grown_says = laws.says header (with_forms t places m forms header) h m.bytes by.found all_forms.are all_forms.counted

  heap_low : heap_start_of header h ≤ rows_len_of h + h.pcount
  heap_low =
      let heap = ap (λ (x : Table). x.heap_at) by.table in
      let rows = ap (λ (x : Table). x.rows_at) by.table in
      let len = ap (λ (x : Table). x.row_bytes * x.rows) by.table in
      omega (arith, is.heap_at, heap, rows, len)

  -- the target with a longer heap is what it says then
  pub grown_said : (file : List ℕ) → header_in file h ≡ with_forms t places m forms header → IsTargetIn file (grown_by t m.bytes)
  grown_said file there =
      let new : List ℕ = with_forms t places m forms header in
      record {
        said = record {
          plan = ap (λ l. plan_of_cards (cards_of l)) there ∙ grown_says.plan ∙ by.plan;
          table = ap (λ l. table_in l (longer h m.bytes)) there ∙ grown_says.table heap_low ∙ ap (λ (x : Table). record x { heap_len = x.heap_len + m.bytes }) by.table;
        };
        wide = ap is_wide_table there ∙ grown_says.wide ∙ by.wide;
      }

  -- ---- the header of the file

  pub card_long : (column : ℕ) (letter : List ℕ) (most : ℕ) → IsFormFor header column letter most → length (form_card_of t column letter most) ≡ 80
  card_long column letter most may =
      ap (λ w. length (numbered_word_card (codes "TFORM") column (descriptor_form w letter most))) (sym by.wide) ∙ may.0.long

  applied_append : (front back : List Amend) (file : List ℕ) → applied (front ++ back) file ≡ applied back (applied front file)
  applied_append [] back file = refl
  applied_append (w ∷ front) back file = applied_append front back (amended w file)

  longer_file : (i : ℕ) (card file : List ℕ) → length card ≡ 80 → 80 * (i + 1) ≤ 2880 * h.blocks → h.start + 2880 * h.blocks ≤ length file → h.start + 2880 * h.blocks ≤ length (applied (card_write h i card ∷ []) file)
  longer_file i card file eighty within long =
      let size = long_written (h.start + 80 * i) card file (omega (arith, eighty)) (omega (arith, within, long)) in
      omega (arith, size, long)

  -- a file whose header has cards in its place, and is as long
  pub record HasHeaderNow (new file : List ℕ) : Type 0 where
    pub there : header_in file h ≡ new
    pub long : h.start + 2880 * h.blocks ≤ length file

  blocks_long : length header ≡ 2880 * h.blocks
  blocks_long = header_long header h by.found.is_header

  module _ (place : CardsStandInPlace) where
    one_there : (i : ℕ) (card new file : List ℕ) → length card ≡ 80 → 80 * (i + 1) ≤ length header → HasHeaderNow new file → HasHeaderNow (with_card i card new) (applied (card_write h i card ∷ []) file)
    one_there i card new file eighty within has = record {
      there = place file h i card eighty (omega (arith, within, blocks_long)) has.long ∙ ap (with_card i card) has.there;
      long = longer_file i card file eighty (omega (arith, within, blocks_long)) has.long;
    }

    form_there : (column at : ℕ) (letter new file : List ℕ) (most : Option ℕ) → at ≡ form_index header column → ((n : ℕ) → n < 2 ^ 64 → IsFormFor header column letter n) → IfSome most (λ n. n < 2 ^ 64) → HasHeaderNow new file →
        HasHeaderNow (with_form t column at letter most new) (applied (form_write t column at letter most) file)
    form_there column at letter new file None is may few has = has
    form_there column at letter new file (Some most) is may few has =
        let c = may most few in
        let inside = c.0.within in
        one_there at (form_card_of t column letter most) new file (card_long column letter most c) (omega (arith, inside, is)) has

    pub all_there : (file : List ℕ) → header_in file h ≡ header → h.start + 2880 * h.blocks ≤ length file → HasHeaderNow (with_forms t places m forms header) (applied (forms_writes t places m forms) file)
    all_there file there long =
        let ends : HasEnds t m.bytes = ends_of t m room in
        let spot : pcount_at t ≡ pcount_index header = pcount_place header h by.found.is_header in
        let c = (laws.count header h count by.found (omega arith) ends.short).0 in
        let inside = c.within in
        let start : HasHeaderNow header file = record { there = there; long = long } in
        let one = one_there (pcount_at t) (pcount_card t m) header file c.long (omega (arith, inside, spot)) start in
        let two = form_there 1 places.coded (coded_letter t.image.plan.codec) first (applied (card_write h (pcount_at t) (pcount_card t m) ∷ []) file) forms.coded at.coded
        (λ n few. subst (λ (q : Plan). IsFormFor header 1 (coded_letter q.codec) n) by.plan (laws.forms header h n by.found bits form (omega arith)).0) small.0 one in
        let three = form_there 2 places.stored (stored_letter t.image.plan.bitpix) (with_form t 1 places.coded (coded_letter t.image.plan.codec) forms.coded first)
        (applied (form_write t 1 places.coded (coded_letter t.image.plan.codec) forms.coded) (applied (card_write h (pcount_at t) (pcount_card t m) ∷ []) file)) forms.stored at.stored
        (λ n few. subst (λ (q : Plan). IsFormFor header 2 (stored_letter q.bitpix) n) by.plan (laws.forms header h n by.found bits form (omega arith)).1) small.1 two in
        subst (HasHeaderNow (with_forms t places m forms header))
        (sym (applied_append (form_write t 1 places.coded (coded_letter t.image.plan.codec) forms.coded) (form_write t 2 places.stored (stored_letter t.image.plan.bitpix) forms.stored) (applied (card_write h (pcount_at t) (pcount_card t m) ∷ []) file))) three
