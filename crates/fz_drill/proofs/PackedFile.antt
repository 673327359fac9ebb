-- The packed file of `drill`: an empty primary and a table, of which `unpack` refuses nothing.
use Rattle.std.specs.Prelude.{Option, Some, None, Ok}
use Rattle.std.specs.List.{flat_map}
use Rattle.std.proofs.Common.{◌≡◌, ℕ, ◌+◌, ◌-◌, ◌*◌, ◌/◌, ◌^◌, ◌==◌, ◌<◌, ◌≤◌, All, Bool, true, false, List, [], ◌∷◌, ◌++◌, append-nil, length, map, replicate, slice_index_or, if◌then◌else◌, refl, sym, ap, ◌∙◌, subst, arith}
use Rattle.std.proofs.lemmas.List.{length-append}
use Rattle.fz_base.specs.Refusal.{first_refusal}
use Rattle.fz_base.specs.declared.fault.Fault.{Fault}
use Rattle.fz_block.specs.Checks.{hdu_at, header_blocks_of, headers_of, unless_refused}
use Rattle.fz_block.specs.Facts.{facts_of}
use Rattle.fz_block.specs.Hdus.{Hdu, cards_of, hdu_bytes, header_bytes}
use Rattle.fz_block.specs.Header.{next_start_of}
use Rattle.fz_block.specs.Walk.{AreHeadersFrom, PassFrom, facts_from, hdu_of}
use Rattle.fz_block.specs.declared.header.Header.{Header}
use Rattle.fz_table.specs.Tables.{table_checks, table_in, table_of}
use Rattle.fz_table.specs.declared.table.Table.{Table}
use Rattle.fz_tile.specs.Plain.{AreBytes}
use Rattle.fz_head.specs.Accepted.{IsAccepted}
use Rattle.fz_head.specs.EmptyPrimary.{empty_primary}
use Rattle.fz_checks.specs.JobChecks.{image_checks, is_after_empty, unpack_checks}
use Rattle.fz_checks.specs.Judges.{unpack_judge}
use Rattle.fz_head.specs.Packable.{is_packable, is_packed, is_table}
use Rattle.fz_head.specs.PackedChecks.{packed_checks, plan_answer}
use Rattle.fz_head.specs.PackedPlan.{plan_of_cards}
use Rattle.fz_head.specs.Planned.{pack_plan_of}
use Rattle.fz_head.specs.TableChecks.{table_card_checks}
use Rattle.fz_head.specs.declared.options.CodecWord.{CodecWord}
use Rattle.fz_head.specs.declared.options.PackOptions.{PackOptions}
use Rattle.fz_head.specs.declared.plan.Plan.{Plan}
use Rattle.fz_head.specs.declared.totals.Totals.{Totals}
use Rattle.fz_files.specs.Drill.{drill_file, drill_options, drill_packed}
use Rattle.fz_files.specs.Laws.{table_hdu}
use Rattle.fz_files.specs.Packed.{heap_of, packed_from, packed_hdu, packed_image, packed_table, rows_from}
use Rattle.fz_files.specs.Restored.{is_image, plan_in}
use Rattle.fz_drill.specs.Taken.{PackedLaws, TableLaws}
use Rattle.fz_drill.proofs.EmptyPrimary.{empty_facts, empty_hdu, empty_is, empty_len, empty_passes}
use Rattle.fz_drill.proofs.Packable.{packable}
use Rattle.fz_drill.proofs.PlainFile.{plain_data, plain_header_of, reads}
use Rattle.fz_drill.proofs.PlainHeader.{both_none, facts_are, image_facts}
use Rattle.fz_drill.proofs.Table.{accepted_at, es, here, plan, table, table_block, taken, totals}

-- ---- answers

pub answer_is : {A : Type 0} (answer found : A) (refused : Option Fault) → unless_refused answer refused ≡ Ok found → (answer ≡ found) × (refused ≡ None)
answer_is answer found None e = let same : answer ≡ found = cc in (same, refl)
answer_is answer found (Some fault) e = absurd cc

table_none : (header : List ℕ) (h : Header) (t : Table) → table_of header h ≡ Ok t → first_refusal (table_checks header h) ≡ None
unfolding table_of
table_none header h t is = (answer_is (table_in header h) t (first_refusal (table_checks header h)) is).1

plan_said : (k : ℕ) (header : List ℕ) (after_empty : Bool) (p : Plan) → plan_answer k header after_empty ≡ Ok p → (plan_of_cards (cards_of header) ≡ p) × (first_refusal (packed_checks k header after_empty) ≡ None)
unfolding plan_answer
plan_said k header after_empty p is = answer_is (plan_of_cards (cards_of header)) p (first_refusal (packed_checks k header after_empty)) is

where_true : (checks : List (Bool × Fault)) (test : Bool) → first_refusal checks ≡ None → first_refusal (if test then checks else []) ≡ None
where_true checks true none = none
where_true checks false none = refl

-- of a table that is accepted after an empty primary
pub images_none : (p : Plan) (s : Totals) (header : List ℕ) (h : Header) → IsAccepted p s header h → first_refusal (image_checks h header true) ≡ None
images_none p s header h is = both_none (table_checks header h) (packed_checks h.hdu header true) (table_none header h _ is.table) (plan_said h.hdu header true p (is.plan true (λ e. refl))).1

accepted_none : (p : Plan) (s : Totals) (header : List ℕ) (h : Header) → IsAccepted p s header h → first_refusal (unpack_checks h header true) ≡ None
accepted_none p s header h is =
    both_none (if is_table h.sort then table_card_checks h header else []) (if is_packed header h then image_checks h header true else [])
    (where_true (table_card_checks h header) (is_table h.sort) is.cards) (where_true (image_checks h header true) (is_packed header h) (images_none p s header h is))

-- the empty primary is not packed, and nothing of it is refused
pub empty_unpacked : (header : List ℕ) → is_packed header empty_facts ≡ false
unfolding is_packed
empty_unpacked header = refl

empty_none : (header : List ℕ) (after_empty : Bool) → first_refusal (unpack_checks empty_facts header after_empty) ≡ None
empty_none header after_empty = ap (λ (b : Bool). first_refusal (if b then image_checks empty_facts header after_empty else [])) (empty_unpacked header)

-- ---- the packed file

packed_table_is : (q : PackOptions) (file : List ℕ) (h : Header) → packed_image q.sums (pack_plan_of q h) (hdu_of file h) ≡ hdu_bytes (table_hdu q file h)
unfolding packed_table
packed_table_is q file h = refl

module _ (l : PackedLaws) (rows : ℕ) (some : 1 ≤ rows) (few : rows ≤ 16384) (codec : CodecWord) (bytes : AreBytes (drill_file rows)) where
  abbrev t : TableLaws
  t = l.tables

  abbrev T : Hdu
  T = table t rows some few codec bytes

  abbrev H : Hdu
  H = record { header = plain_header_of t.files rows few; payload = plain_data t.files rows few }

  abbrev Q : PackOptions
  Q = drill_options codec

  abbrev F : Header
  F = image_facts 256 rows

  abbrev pub packed : List ℕ
  packed = drill_packed rows codec

  facts_here : facts_of 0 0 H.header ≡ F
  facts_here = facts_are t.files.header 256 rows (omega arith) (omega arith) few (plain_header_of t.files rows few) (reads t.files rows few)

  packed_hdu_is : packed_hdu Q 0 H ≡ header_bytes empty_primary ++ hdu_bytes T
  packed_hdu_is =
      (λ i. if is_packable (facts_here i) then header_bytes empty_primary ++ packed_image false (pack_plan_of Q (facts_here i)) H else hdu_bytes H)
      ∙ (ap (λ (b : Bool). if b then header_bytes empty_primary ++ packed_image false (pack_plan_of Q F) H else hdu_bytes H) (packable rows some)
      ∙ ap (λ y. header_bytes empty_primary ++ y) (ap (λ d. packed_image false (pack_plan_of Q F) d) (sym (here t rows some few codec bytes)) ∙ packed_table_is Q (drill_file rows) F))

  pub parts : flat_map hdu_bytes (empty_hdu ∷ T ∷ []) ≡ packed
  unfolding packed_from
  parts = (λ i. append-nil (header_bytes empty_primary) i ++ append-nil (hdu_bytes T) i) ∙ (sym packed_hdu_is ∙ sym (append-nil (packed_hdu Q 0 H)))

  module _ (held : length packed ≤ 2 ^ 40) where
    both_long : length packed ≡ 2880 + length (hdu_bytes T)
    both_long =
        let first : length (hdu_bytes empty_hdu ++ (hdu_bytes T ++ [])) ≡ length (hdu_bytes empty_hdu) + length (hdu_bytes T ++ []) = length-append (hdu_bytes empty_hdu) (hdu_bytes T ++ []) in
        let same : length (hdu_bytes T ++ []) ≡ length (hdu_bytes T) = ap length (append-nil (hdu_bytes T)) in
        let whole : length (hdu_bytes empty_hdu ++ (hdu_bytes T ++ [])) ≡ length packed = ap length parts in
        omega (arith, first, same, whole, empty_len)

    -- the heap is a part of it
    pub heap_short : length (heap_of (es t rows some few codec bytes)) < 10 ^ 18
    heap_short =
        let p : Plan = plan t rows some few codec bytes in
        let heap : List ℕ = heap_of (es t rows some few codec bytes) in
        let front : List ℕ = rows_from p 0 (es t rows some few codec bytes) in
        let a : length (hdu_bytes T) ≡ length T.header + length T.payload = length-append T.header T.payload in
        let b : length T.payload ≡ length (front ++ heap) + length (fill_of (front ++ heap)) = length-append (front ++ heap) (fill_of (front ++ heap)) in
        let c : length (front ++ heap) ≡ length front + length heap = length-append front heap in
        omega (arith, held, both_long, a, b, c)
      where
        fill_of : List ℕ → List ℕ
        fill_of data_is = replicate ((length data_is + 2879) / 2880 * 2880 - length data_is) 0

    abbrev of_empty : Header
    of_empty = facts_of 0 0 (header_bytes empty_primary)

    abbrev at1 : ℕ
    at1 = 0 + length (hdu_bytes empty_hdu)

    abbrev pub table_facts : Header
    table_facts = facts_of 1 at1 T.header

    pass : PassFrom 0 0 (length packed) (empty_hdu ∷ T ∷ [])
    pass = (
      empty_passes l.started (length packed) (omega (arith, both_long)),
      (
        l.passes Q (drill_file rows) F 0 at1 (length packed) (taken t rows some few codec bytes) (omega arith) (omega (arith, both_long, empty_len)) (omega (arith, held)),
        tt,
      ),
    )

    both : (headers_of 65536 packed ≡ Ok (facts_from 0 0 (empty_hdu ∷ T ∷ []))) × (map (hdu_of packed) (facts_from 0 0 (empty_hdu ∷ T ∷ [])) ≡ empty_hdu ∷ T ∷ [])
    both = l.walk 65536 packed (empty_hdu ∷ T ∷ []) parts (omega arith) (omega arith) pass

    headers_are : headers_of 65536 packed ≡ Ok (of_empty ∷ table_facts ∷ [])
    headers_are = both.0

    pub table_there : hdu_of packed table_facts ≡ T
    table_there = ap (λ ds. slice_index_or ds 1 T) both.1

    pub accepted_here : IsAccepted (plan t rows some few codec bytes) (totals t rows some few codec bytes) T.header table_facts
    accepted_here = accepted_at t rows some few codec bytes heap_short 0 at1

    found_both : All (λ h. hdu_at h.hdu h.start packed ≡ Ok h) (of_empty ∷ table_facts ∷ [])
    found_both = l.found 65536 packed (of_empty ∷ table_facts ∷ []) headers_are

    between : AreHeadersFrom 0 0 packed (of_empty ∷ table_facts ∷ [])
    between = (l.headers 65536 packed (of_empty ∷ table_facts ∷ []) headers_are).2

    first_next : next_start_of of_empty ≡ 2880
    first_next = ap next_start_of empty_is

    start_is : at1 ≡ next_start_of of_empty
    start_is = omega (arith, first_next, empty_len)

    pub ends_there : next_start_of table_facts ≡ length packed
    ends_there = between.3.3

    pub found_first : hdu_at 0 0 packed ≡ Ok of_empty
    found_first = found_both 0 of_empty (omega arith)

    pub found_table : hdu_at 1 (next_start_of of_empty) packed ≡ Ok table_facts
    found_table = subst (λ n. hdu_at 1 n packed ≡ Ok table_facts) start_is (found_both 1 of_empty (omega arith))

    pub more_behind : next_start_of of_empty < length packed
    more_behind =
        let some_bytes : 2880 ≤ length T.header = omega (arith, table_block t rows some few codec bytes heap_short) in
        let a : length (hdu_bytes T) ≡ length T.header + length T.payload = length-append T.header T.payload in
        omega (arith, first_next, both_long, some_bytes, a)

    pub first_blocks : header_blocks_of 0 0 packed ≡ Ok 1
    first_blocks = l.blocks 0 0 packed of_empty found_first ∙ ap (λ (h : Header). Ok h.blocks) empty_is

    pub table_blocks : header_blocks_of 1 (next_start_of of_empty) packed ≡ Ok 1
    table_blocks = l.blocks 1 (next_start_of of_empty) packed table_facts found_table ∙ ap (λ n. Ok (n / 2880)) (table_block t rows some few codec bytes heap_short)

    pub behind_empty : is_after_empty packed table_facts ≡ true
    behind_empty = ap (λ n. n == 0) (sym (l.axes packed of_empty found_first) ∙ ap (λ (h : Header). h.axes.n) empty_is)

    pub first_says : unpack_judge packed of_empty ≡ Ok false
    first_says =
        ap (λ h. unless_refused false (first_refusal (unpack_checks h (hdu_of packed of_empty).header (is_after_empty packed of_empty)))) empty_is
        ∙ ap (unless_refused false) (empty_none (hdu_of packed of_empty).header (is_after_empty packed of_empty))

    pub table_says : unpack_judge packed table_facts ≡ Ok false
    table_says =
        (λ i. unless_refused false (first_refusal (unpack_checks table_facts (table_there i).header (behind_empty i))))
        ∙ ap (unless_refused false) (accepted_none (plan t rows some few codec bytes) (totals t rows some few codec bytes) T.header table_facts accepted_here)

    pub first_unpacked : is_image packed of_empty ≡ false
    first_unpacked = ap (is_packed (hdu_of packed of_empty).header) empty_is ∙ empty_unpacked (hdu_of packed of_empty).header

    pub table_packed : is_image packed table_facts ≡ true
    table_packed = ap (λ (d : Hdu). is_packed d.header table_facts) table_there ∙ accepted_here.packed

    pub plan_there : plan_in packed table_facts ≡ plan t rows some few codec bytes
    plan_there = ap (λ (d : Hdu). plan_of_cards (cards_of d.header)) table_there ∙ (plan_said 1 T.header true (plan t rows some few codec bytes) (accepted_here.plan true (λ e. refl))).0
