-- A header in which PCOUNT says more, forms say other counts, and checksums are other ones.
use Rattle.std.proofs.Common.{◌≡◌, ◌≢◌, ◌⊎◌, inl, inr, ℕ, zero, suc, ◌+◌, ◌-◌, ◌*◌, ◌/◌, ◌^◌, ◌<◌, ◌≤◌, not, Bool, true, false, pos, List, [], ◌∷◌, ◌++◌, length, codes, Option, Some, None, is_some, unwrap_or, if◌then◌else◌, refl, sym, ap, ◌∙◌, subst, arith}
use Rattle.std.specs.Option.{option_and_then}
use Rattle.std.proofs.lemmas.Bool.{cases_lt}
use Rattle.fz_base.specs.Refusal.{first_refusal}
use Rattle.fz_card.specs.Laws.{CardLaws}
use Rattle.fz_card.specs.Layout.{card_name, padded}
use Rattle.fz_card.specs.Made.{FitsName, IsCardText, numbered_name, text_card_bytes}
use Rattle.fz_card.specs.Reading.{text_of, integer_of}
use Rattle.fz_block.specs.Cards.{card_at, is_named}
use Rattle.fz_block.specs.Facts.{IsHeaderOf, facts_of}
use Rattle.fz_block.specs.Hdus.{cards_of, naxis_of, pcount_index, size_at, size_in}
use Rattle.fz_block.specs.Header.{data_start_of}
use Rattle.fz_block.specs.Mandatory.{is_size, mandatory_checks}
use Rattle.fz_block.specs.declared.header.Header.{Header}
use Rattle.fz_sum.specs.Cards.{checksum_name, datasum_name, with_card}
use Rattle.fz_table.specs.Columns.{column_called, field_count, form_of, text_at, tform_card}
use Rattle.fz_table.specs.Forms.{form_in}
use Rattle.fz_table.specs.Tables.{coded_name, gzip_name, heap_start_of, row_count_of, row_len_of, rows_len_of, stored_name, table_checks, table_in}
use Rattle.fz_tile.specs.Pixels.{IsBitpix}
use Rattle.fz_checks.specs.JobChecks.{image_checks, not_packed, packed_card_checks}
use Rattle.fz_head.specs.Packable.{is_packed, is_table}
use Rattle.fz_head.specs.PackedChecks.{packed_checks}
use Rattle.fz_head.specs.PackedHeader.{coded_letter, descriptor_form, number_card, numbered_word_card, stored_letter}
use Rattle.fz_head.specs.PackedPlan.{plan_of_cards}
use Rattle.fz_head.specs.TableChecks.{compressed_table, repeated_table_names}
use Rattle.fz_head.specs.declared.plan.Plan.{Plan}
use Rattle.fz_laws.specs.PatchChecks.{find_checks}
use Rattle.fz_laws.specs.PatchForm.{has_form, has_wide, is_wide_table}
use Rattle.fz_laws.specs.Grown.{IsCardFor, IsFormFor, IsFoundHeader, SaysMore, form_index, longer}
use Rattle.fz_laws.specs.PatchHeaders.{IsAmended, IsAmendedCard, IsChanged, SaysTheSame}
use Rattle.fz_laws.specs.PatchLaws.{AmendedHeadersSayTheSame}
use Rattle.fz_laws.specs.PatchTaken.{CardPlaceLaws}
use Rattle.fz_laws.specs.Writes.{told_sum}
use Rattle.fz_laws.proofs.Again.{not_first, packed_is_table}
use Rattle.fz_laws.proofs.AmendedFacts.{HasMandatory, has_mandatory}
use Rattle.fz_laws.proofs.CardWrites.{HasFormCard, form_card_there, form_differs, pcount_named, pcount_said, pcount_within, sum_differs, told_card}
use Rattle.fz_laws.proofs.DataLen.{table_data, two_axes}
use Rattle.fz_laws.proofs.FormColumns.{HasForm, IsLetter, coded_byte, first_form, form_parts, form_some, second_form, stored_byte}
use Rattle.fz_laws.proofs.FormTexts.{form_is_text}
use Rattle.fz_laws.proofs.Passes.{PassesAll, all_pass, and_left, both_pass, is_named_so, is_so}

-- ---- what the checks say

pub later_of : (header : List ℕ) (h : Header) → IsFoundHeader header h → 0 < h.hdu
later_of header h found =
    let one = both_pass (packed_card_checks h header) (image_checks h header true) found.checks in
    let two = both_pass (if is_table h.sort then compressed_table h header ∷ [] else []) (not_packed h header ∷ repeated_table_names h header ∷ []) one.0 in
    let all : PassesAll (not_packed h header ∷ repeated_table_names h header ∷ []) = all_pass (not_packed h header ∷ repeated_table_names h header ∷ []) two.1 in
    let packed : is_packed header h ≡ true = is_so (is_packed header h) all.0 in
    not_first h.hdu header (ap (λ (x : Header). is_table x.sort) (sym found.is_header.facts) ∙ packed_is_table header h packed)

table_of : (header : List ℕ) (h : Header) → first_refusal (find_checks h header true) ≡ None → PassesAll (table_checks header h)
table_of header h checks =
    let one = both_pass (packed_card_checks h header) (image_checks h header true) checks in
    let two = both_pass (table_checks header h) (packed_checks h.hdu header true) one.1 in
    all_pass (table_checks header h) two.0

-- two cards of other names are not the same
other_index : (header name other : List ℕ) (i j : ℕ) → card_name (card_at header i) ≡ name → card_name (card_at header j) ≡ other → (name ≡ other → ⊥) → i ≢ j
other_index header name other i j one two differ = λ same. differ (sym one ∙ (ap (λ k. card_name (card_at header k)) same ∙ two))

header_long : (header : List ℕ) (h : Header) → IsHeaderOf header h → length header ≡ 2880 * h.blocks
header_long header h is =
    let blocks = is.whole.blocks in
    let same : h.blocks ≡ length header / 2880 = ap (λ (x : Header). x.blocks) is.facts in
    omega arith

-- ---- PCOUNT

pub counts_grow : CardLaws → (header : List ℕ) (h : Header) (count : ℕ) → IsFoundHeader header h → h.pcount ≤ count → count < 10 ^ 18 →
    IsCardFor header (pcount_index header) (number_card (codes "PCOUNT") count) × (size_in (integer_of (number_card (codes "PCOUNT") count)) ≡ count)
counts_grow laws header h count found grows short =
    let later = later_of header h found in
    let named = pcount_named header h found.is_header later in
    let was = pcount_said header h found.is_header later in
    let inside = pcount_within header h found.is_header later in
    let long = header_long header h found.is_header in
    let says : integer_of (number_card (codes "PCOUNT") count) ≡ Some (pos count) =
    (laws.values.integer (number_card (codes "PCOUNT") count) (pos count)).0 (laws.made.integer_value (padded (codes "PCOUNT")) (pos count) refl short) in
    let card : IsCardFor header (pcount_index header) (number_card (codes "PCOUNT") count) = record {
      long = laws.made.integer_length (padded (codes "PCOUNT")) (pos count) refl short;
      within = omega arith;
      amends =
          inr (
            laws.made.integer_name (padded (codes "PCOUNT")) (pos count) refl ∙ sym named,
            inr (inr (inr (record { name = named; count = count; says = says; grows = omega arith }))),
          );
    } in
    (card, ap size_in says)

-- ---- the forms

one_form : CardLaws → (header : List ℕ) (h : Header) (i unit : ℕ) (letters : List ℕ) (most : ℕ) → IsFoundHeader header h → 1 ≤ i → i < 10 → IsLetter letters unit → most < 2 ^ 64 →
    form_of header i ≡ form_in (descriptor_form (is_wide_table header) letters most) → IsFormFor header i letters most
one_form laws header h i unit letters most found low high l small says =
    let wide : Bool = is_wide_table header in
    let name : List ℕ = numbered_name (codes "TFORM") i in
    let words : List ℕ = descriptor_form wide letters most in
    let text : IsCardText words = subst (λ ls. IsCardText (descriptor_form wide ls most)) (sym l.is) (form_is_text wide l.byte most l.plain small) in
    let readable : is_some (form_in words) ≡ true = subst (λ ls. is_some (form_in (descriptor_form wide ls most)) ≡ true) (sym l.is) (form_some l.byte most wide) in
    let has : HasFormCard header i = form_card_there header i words readable says in
    let fits : FitsName (codes "TFORM") i = (omega arith, omega arith) in
    let eight : length name ≡ 8 = laws.numbers.eight_bytes (codes "TFORM") i fits in
    let reads : text_of (text_card_bytes name words) ≡ Some words = (laws.values.text (text_card_bytes name words) words).0 (laws.made.text_value name words eight text) in
    let at : form_index header i ≡ has.index = ap (λ o. unwrap_or o 0) has.is in
    let card : IsCardFor header has.index (numbered_word_card (codes "TFORM") i words) = record {
      long = laws.made.text_length name words eight text.fits;
      within = has.within;
      amends =
          inr (
            laws.made.text_name name words eight ∙ sym has.name,
            inr (inr (inl (record {
              name = record { number = i; low = low; high = omega arith; made = has.name };
              form = ap (option_and_then form_in) reads ∙ (sym says ∙ ap (λ o. option_and_then form_in (text_at header o)) has.is);
            }))),
          );
    } in
    let later = later_of header h found in
    let differ : has.index ≢ pcount_index header = other_index header name (padded (codes "PCOUNT")) has.index (pcount_index header) has.name (pcount_named header h found.is_header later) (form_differs i) in
    (subst (λ k. IsCardFor header k (numbered_word_card (codes "TFORM") i words)) (sym at) card, subst (λ k. k ≢ pcount_index header) (sym at) differ)

pub forms_change : CardLaws → (header : List ℕ) (h : Header) (most : ℕ) → IsFoundHeader header h → IsBitpix (plan_of_cards (cards_of header)).bitpix → has_form header h (plan_of_cards (cards_of header)) ≡ true → most < 2 ^ 64 →
    IsFormFor header 1 (coded_letter (plan_of_cards (cards_of header)).codec) most × IsFormFor header 2 (stored_letter (plan_of_cards (cards_of header)).bitpix) most
forms_change laws header h most found bits form small =
    let p : Plan = plan_of_cards (cards_of header) in
    let parts : HasForm header h p = form_parts header h p form in (
      one_form laws header h 1 _ (coded_letter p.codec) most found (omega arith) (omega arith) (coded_byte p.codec) small (first_form header h p parts bits most),
      one_form laws header h 2 _ (stored_letter p.bitpix) most found (omega arith) (omega arith) (stored_byte p.bitpix bits) small (second_form header h p parts bits most),
    )

-- ---- the checksums

pub sums_change : (header : List ℕ) (h : Header) (name card : List ℕ) (i : ℕ) → IsFoundHeader header h → (name ≡ datasum_name) ⊎ (name ≡ checksum_name) → told_sum name header ≡ Some i → length card ≡ 80 → card_name card ≡ name →
    IsCardFor header i card × (i ≢ pcount_index header)
sums_change header h name card i found which told long named =
    let there = told_card name header i told in
    let later = later_of header h found in (
      record { long = long; within = there.0; amends = inr (named ∙ sym there.2, by_name which) },
      other_index header name (padded (codes "PCOUNT")) i (pcount_index header) there.2 (pcount_named header h found.is_header later) (sum_differs name which),
    )
  where
    is : card_name (card_at header i) ≡ name
    is = (told_card name header i told).2

    by_name : (name ≡ datasum_name) ⊎ (name ≡ checksum_name) → IsChanged (card_at header i) card
    by_name (inl e) = inl (is ∙ e)
    by_name (inr e) = inr (inl (is ∙ e))

-- ---- one card more

pub one_more : CardPlaceLaws → (base header card : List ℕ) (index : ℕ) → IsAmended base header → IsCardFor base index card → IsAmended base (with_card index card header)
one_more laws base header card index are c =
    let size = are.length_is in
    let within = c.within in
    let room : 80 * (index + 1) ≤ length header = omega arith in
    record {
      length_is = laws.long index card header c.long room ∙ are.length_is;
      cards = λ k inside. by_index k inside room (cases_lt k index) (cases_lt index k);
    }
  where
    by_index : (k : ℕ) → 80 * k < length base → 80 * (index + 1) ≤ length header → (k < index) ⊎ (index ≤ k) → (index < k) ⊎ (k ≤ index) → IsAmendedCard (card_at base k) (card_at (with_card index card header) k)
    by_index k inside room (inl less) other = subst (IsAmendedCard (card_at base k)) (sym (laws.others index k card header c.long room (omega arith))) (are.cards k inside)
    by_index k inside room (inr more) (inl less) = subst (IsAmendedCard (card_at base k)) (sym (laws.others index k card header c.long room (omega arith))) (are.cards k inside)
    by_index k inside room (inr more) (inr most) =
        let same : index ≡ k = omega arith in
        subst (λ i. IsAmendedCard (card_at base i) (card_at (with_card index card header) i)) same
        (subst (IsAmendedCard (card_at base index)) (sym (laws.there index card header c.long room)) c.amends)

-- ---- the header with all of them

module _ (amended : AmendedHeadersSayTheSame) (header new : List ℕ) (h : Header) (more : ℕ) (found : IsFoundHeader header h) (are : IsAmended header new) (counted : size_at new (pcount_index header) ≡ h.pcount + more) where
  old_is : h ≡ facts_of h.hdu h.start header
  old_is = found.is_header.facts

  same : SaysTheSame h.hdu h.start header new
  same = amended h.hdu h.start header new (later_of header h found) (subst (λ (x : Header). IsHeaderOf header x) old_is found.is_header) are

  abbrev pub now : Header
  now = facts_of h.hdu h.start new

  facts_now : now ≡ record h { pcount = now.pcount; data_len = now.data_len }
  facts_now = same.facts ∙ ap (λ (x : Header). record x { pcount = now.pcount; data_len = now.data_len }) (sym old_is)

  checks_now : first_refusal (find_checks now new true) ≡ None
  checks_now = same.checks true (ap (λ (f : Header). first_refusal (find_checks f header true)) (sym old_is) ∙ found.checks)

  rows_now : rows_len_of now ≡ rows_len_of h
  rows_now = ap rows_len_of facts_now

  naxis_now : naxis_of new ≡ 2
  naxis_now = two_axes new now same.header (table_of new now checks_now)

  naxis_old : naxis_of header ≡ 2
  naxis_old = two_axes header h found.is_header (table_of header h found.checks)

  index_now : pcount_index new ≡ pcount_index header
  index_now = ap (λ n. 3 + n) (naxis_now ∙ sym naxis_old)

  count_now : now.pcount ≡ h.pcount + more
  count_now = pcount_said new now same.header (later_of header h found) ∙ (ap (size_at new) index_now ∙ counted)

  data_now : now.data_len ≡ h.data_len + more
  data_now =
      let one = table_data new now same.header (table_of new now checks_now) in
      let two = table_data header h found.is_header (table_of header h found.checks) in
      let count = count_now in
      let rows = rows_now in
      omega arith

  now_is : now ≡ longer h more
  now_is = facts_now ∙ (λ j. record h { pcount = count_now j; data_len = data_now j })

  heap_now : heap_start_of new now ≡ heap_start_of header h
  heap_now = same.heap ∙ ap (heap_start_of header) (sym old_is)

  column_now : (name : List ℕ) → column_called name new (field_count new) ≡ column_called name header (field_count header)
  column_now name = same.columns name (field_count new) ∙ ap (column_called name header) same.fields

  longer_heap : heap_start_of header h ≤ rows_len_of h + h.pcount → rows_len_of now + now.pcount - heap_start_of new now ≡ rows_len_of h + h.pcount - heap_start_of header h + more
  longer_heap low =
      let count = count_now in
      let rows = rows_now in
      let heap = heap_now in
      omega arith

  table_now : heap_start_of header h ≤ rows_len_of h + h.pcount → table_in new now ≡ record (table_in header h) { heap_len = (table_in header h).heap_len + more }
  table_now low =
      λ j. record {
        row_bytes = row_len_of (facts_now j);
        rows = row_count_of (facts_now j);
        rows_at = data_start_of (facts_now j);
        heap_at = data_start_of (facts_now j) + heap_now j;
        heap_len = longer_heap low j;
        coded = column_now coded_name j;
        stored = column_now stored_name j;
        gzip = column_now gzip_name j;
      }

  pub says_more : SaysMore header new h more
  says_more = record {
    is = record {
      is_header = subst (λ (x : Header). IsHeaderOf new x) now_is same.header;
      checks = ap (λ (x : Header). first_refusal (find_checks x new true)) (sym now_is) ∙ checks_now;
    };
    plan = same.plan;
    table = λ low. ap (table_in new) (sym now_is) ∙ table_now low;
    wide = ap has_wide (column_now coded_name);
    index = index_now;
    count = ap (size_at new) index_now ∙ counted;
  }
