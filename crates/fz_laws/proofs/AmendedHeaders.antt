-- A header in which a patch changed cards says the same image, and no check refuses it that let it pass.
use Rattle.std.proofs.Common.{◌≡◌, ℕ, zero, suc, ◌+◌, ◌-◌, ◌≤◌, ◌==◌, ◌&&◌, not, nat_le, Bool, true, false, pos, negsuc, ℤ, List, [], ◌∷◌, ◌++◌, codes, Option, Some, None, is_some, is_none, unwrap_or, flat_map, position, if◌then◌else◌, refl, sym, ap, ◌∙◌, arith, leb-true, le-leb, eqb-true}
use Rattle.std.specs.List.{range_with_len}
use Rattle.fz_base.specs.Refusal.{first_refusal, refusal}
use Rattle.fz_base.specs.declared.fault.Fault.{Fault}
use Rattle.fz_base.specs.declared.fault.Place.TheVariants.{Byte, Card}
use Rattle.fz_base.specs.declared.kind.Kind.TheVariants.{CompressedTable, Duplicate, NotPacked, RowCount}
use Rattle.fz_card.specs.Laws.{CardLaws}
use Rattle.fz_card.specs.Layout.{padded}
use Rattle.fz_card.specs.Made.{numbered_name}
use Rattle.fz_block.specs.Checks.{is_set, refused_at}
use Rattle.fz_block.specs.Facts.{IsHeaderOf, facts_of}
use Rattle.fz_block.specs.Hdus.{cards_of, naxis_of, size_in}
use Rattle.fz_block.specs.declared.header.Header.{Header}
use Rattle.fz_grid.specs.Grid.{tile_count}
use Rattle.fz_table.specs.Columns.{column_called, columns_len, describes, field_count, first_named, integer_at, is_called, is_from, title_of}
use Rattle.fz_table.specs.Tables.{array_checks, bad_table, coded_name, column_checks, field_checks, form_checks, gzip_letters, gzip_name, heap_checks, heap_start_of, name_checks, row_len_of, rows_len_of, stored_name, table_checks, theap_card, tile_letters, width_checks}
use Rattle.fz_checks.specs.JobChecks.{image_checks, packed_card_checks}
use Rattle.fz_head.specs.Packable.{is_packed, is_table}
use Rattle.fz_head.specs.PackedChecks.{packed_checks}
use Rattle.fz_head.specs.Repeats.{counted_name, first_repeat, table_names}
use Rattle.fz_head.specs.TableChecks.{compressed_table, repeated_table_names}
use Rattle.fz_laws.specs.PatchChecks.{find_checks}
use Rattle.fz_laws.specs.PatchHeaders.{IsAmended, SaysTheSame}
use Rattle.fz_laws.specs.PatchLaws.{AmendedHeadersSayTheSame}
use Rattle.fz_laws.specs.PatchTaken.{FirstCards}
use Rattle.fz_laws.proofs.Alike.{AreAlike, any_alike, ignoring, position_alike}
use Rattle.fz_laws.proofs.AmendedCards.{cards_alike, columns_same, ends_same, forms_same, integer_same, lens_same, named_same, titles_same}
use Rattle.fz_laws.proofs.AmendedFacts.{axis_total, facts_same, header_same, pcount_grows, second_axis}
use Rattle.fz_laws.proofs.Loose.{by_set, is_loose}
use Rattle.fz_laws.proofs.Passes.{PassesAll, all_pass, and_both, and_left, and_right, both_pass, is_so, joined_pass}
use Rattle.fz_laws.proofs.Repeats.{repeat_same}
use Rattle.fz_laws.proofs.SaidChecks.{bits_same, codecs_same, lines_same, parameters_same, scaling_same, shapes_same, sorts_same}
use Rattle.fz_laws.proofs.SaidPlan.{axes_same, plan_same, plain_same, tiles_same}

-- a number within a range is within a longer one
from_more : (low high high' : ℕ) (v : Option ℤ) → high ≤ high' → is_from low high v ≡ true → is_from low high' v ≡ true
from_more low high high' None more e = e
from_more low high high' (Some (pos n)) more e =
    let first : low ≤ n = leb-true low n (and_left (nat_le low n) (nat_le n high) e) in
    let last : n ≤ high = leb-true n high (and_right (nat_le low n) (nat_le n high) e) in
    and_both (nat_le low n) (nat_le n high') (le-leb low n first) (le-leb n high' (omega arith))
from_more low high high' (Some (negsuc n)) more e = e

still_from : (stands : Bool) (low high high' : ℕ) (v : Option ℤ) → high ≤ high' → (stands && not (is_from low high v)) ≡ false → (stands && not (is_from low high' v)) ≡ false
still_from false low high high' v more e = refl
still_from true low high high' v more e = ap not (from_more low high high' v more (is_so (is_from low high v) e))

-- the checks of a table from one on
abbrev from_heap : List ℕ → Header → List (Bool × Fault)
from_heap header h = heap_checks header h ++ flat_map (column_checks header h) (range_with_len 1 (field_count header))

abbrev from_width : List ℕ → Header → List (Bool × Fault)
from_width header h = width_checks header h ++ from_heap header h

abbrev from_forms : List ℕ → Header → List (Bool × Fault)
from_forms header h = flat_map (form_checks header h) (range_with_len 1 (field_count header)) ++ from_width header h

abbrev from_fields : List ℕ → Header → List (Bool × Fault)
from_fields header h = field_checks header h ++ from_forms header h

module _ (laws : CardLaws) (first : FirstCards) (k start : ℕ) (old new : List ℕ) (is : IsHeaderOf old (facts_of (suc k) start old)) (are : IsAmended old new) where
  abbrev was : Header
  was = facts_of (suc k) start old

  abbrev now : Header
  now = facts_of (suc k) start new

  abbrev longer : Header
  longer = record was { pcount = now.pcount; data_len = now.data_len }

  facts : now ≡ longer
  facts = facts_same laws first k start old new is are

  alike : AreAlike (cards_of old) (cards_of new)
  alike = cards_alike laws first old new are

  -- ---- the cards of the table

  set_at : (word : List ℕ) → is_loose (padded word) ≡ false → position (is_set word) (cards_of new) ≡ position (is_set word) (cards_of old)
  set_at word tight = position_alike (is_set word) (ignoring (is_set word) (by_set word tight)) (cards_of old) (cards_of new) alike

  packed_same : is_packed new now ≡ is_packed old was
  unfolding is_packed
  packed_same = λ j. is_table (facts j).sort && any_alike (is_set (codes "ZIMAGE")) (ignoring (is_set (codes "ZIMAGE")) (by_set (codes "ZIMAGE") refl)) (cards_of old) (cards_of new) alike j

  compressed_same : compressed_table now new ≡ compressed_table was old
  compressed_same = λ j. refused_at (suc k) (set_at (codes "ZTABLE") refl j) CompressedTable

  repeated_at : first_repeat table_names counted_name (cards_of new) ≡ first_repeat table_names counted_name (cards_of old)
  repeated_at = repeat_same table_names counted_name (cards_of old) (cards_of new) alike

  repeated_same : repeated_table_names now new ≡ repeated_table_names was old
  repeated_same = λ j. (packed_same j && is_some (repeated_at j), refusal (suc k) (Card (unwrap_or (repeated_at j) 0)) Duplicate)

  cards_checked : packed_card_checks now new ≡ packed_card_checks was old
  cards_checked = λ j.
      (if is_table (facts j).sort then compressed_same j ∷ [] else [])
      ++ ((not (packed_same j), refusal (suc k) (Byte start) NotPacked) ∷ repeated_same j ∷ [])

  -- ---- the table

  named : (name : List ℕ) → first_named name new ≡ first_named name old
  named name = named_same laws first old new are name

  said : (name : List ℕ) → is_loose name ≡ false → integer_at new (first_named name new) ≡ integer_at old (first_named name old)
  said name tight = integer_same laws first old new are name tight

  bad_same : (found : Option ℕ) → bad_table now found ≡ bad_table was found
  bad_same found = ap (λ h. bad_table h found) facts

  count_same : field_count new ≡ field_count old
  count_same = ap size_in (said (padded (codes "TFIELDS")) refl)

  fields_checked : field_checks new now ≡ field_checks old was
  fields_checked = λ j. (not (is_from 1 999 (said (padded (codes "TFIELDS")) refl j)), bad_table (facts j) (named (padded (codes "TFIELDS")) j)) ∷ []

  form_checked : (i : ℕ) → form_checks new now i ≡ form_checks old was i
  form_checked i = λ j. (is_none (forms_same laws first old new are i j), bad_table (facts j) (named (numbered_name (codes "TFORM") i) j)) ∷ []

  forms_checked : flat_map (form_checks new now) (range_with_len 1 (field_count new)) ≡ flat_map (form_checks old was) (range_with_len 1 (field_count old))
  forms_checked = λ j. flat_map (λ i. form_checked i j) (range_with_len 1 (count_same j))

  width_same : columns_len new (field_count new) ≡ columns_len old (field_count old)
  width_same = ap (columns_len new) count_same ∙ lens_same laws first old new are (field_count old)

  width_checked : width_checks new now ≡ width_checks old was
  width_checked = λ j. (not (width_same j == row_len_of (facts j)), bad_table (facts j) (Some 3)) ∷ []

  theap_said : integer_at new (theap_card new) ≡ integer_at old (theap_card old)
  theap_said = said (padded (codes "THEAP")) refl

  theap_same : theap_card new ≡ theap_card old
  theap_same = named (padded (codes "THEAP"))

  rows_same : rows_len_of now ≡ rows_len_of was
  rows_same = ap rows_len_of facts

  heap_same : heap_start_of new now ≡ heap_start_of old was
  heap_same = λ j. if is_some (theap_same j) then size_in (theap_said j) else rows_same j

  heap_passes : first_refusal (heap_checks old was) ≡ None → first_refusal (heap_checks new now) ≡ None
  heap_passes e =
      let passed : PassesAll (heap_checks old was) = all_pass (heap_checks old was) e in
      let grows : was.pcount ≤ now.pcount = pcount_grows laws first k start old new is are in
      let more : rows_len_of was + was.pcount ≤ rows_len_of was + now.pcount = omega (arith, grows) in
      let still : (is_some (theap_card old) && not (is_from (rows_len_of was) (rows_len_of was + now.pcount) (integer_at old (theap_card old)))) ≡ false =
      still_from (is_some (theap_card old)) (rows_len_of was) (rows_len_of was + was.pcount) (rows_len_of was + now.pcount) (integer_at old (theap_card old)) more passed.0 in
      let same : (is_some (theap_card new) && not (is_from (rows_len_of now) (rows_len_of now + now.pcount) (integer_at new (theap_card new))))
      ≡ (is_some (theap_card old) && not (is_from (rows_len_of was) (rows_len_of was + now.pcount) (integer_at old (theap_card old)))) =
      λ j. is_some (theap_same j) && not (is_from (rows_same j) (rows_same j + now.pcount) (theap_said j)) in
      ap (λ b. first_refusal ((b, bad_table now (theap_card new)) ∷ [])) (same ∙ still)

  titled : (i : ℕ) → title_of new i ≡ title_of old i
  titled i = titles_same laws first old new are i

  column_same : (name : List ℕ) (i : ℕ) → column_called name new i ≡ column_called name old i
  column_same name i = columns_same laws first old new are name i

  name_checked : (name letters : List ℕ) (i : ℕ) → name_checks name letters new now i ≡ name_checks name letters old was i
  name_checked name letters i = λ j.
      (is_called name (titled i j) && is_some (column_same name (i - 1) j), bad_table (facts j) (named (numbered_name (codes "TTYPE") i) j))
      ∷ (is_called name (titled i j) && not (describes letters (forms_same laws first old new are i j)), bad_table (facts j) (named (numbered_name (codes "TFORM") i) j))
      ∷ []

  column_checked : (i : ℕ) → column_checks new now i ≡ column_checks old was i
  column_checked i = λ j.
      name_checked coded_name tile_letters i j
      ++ (name_checked stored_name tile_letters i j
      ++ name_checked gzip_name gzip_letters i j)

  columns_checked : flat_map (column_checks new now) (range_with_len 1 (field_count new)) ≡ flat_map (column_checks old was) (range_with_len 1 (field_count old))
  columns_checked = λ j. flat_map (λ i. column_checked i j) (range_with_len 1 (count_same j))

  arrays_checked : array_checks now ≡ array_checks was
  arrays_checked = ap array_checks facts

  table_passes : first_refusal (table_checks old was) ≡ None → first_refusal (table_checks new now) ≡ None
  table_passes e =
      let columns_old = flat_map (column_checks old was) (range_with_len 1 (field_count old)) in
      let columns_new = flat_map (column_checks new now) (range_with_len 1 (field_count new)) in
      let one = both_pass (array_checks was) (from_fields old was) e in
      let two = both_pass (field_checks old was) (from_forms old was) one.1 in
      let three = both_pass (flat_map (form_checks old was) (range_with_len 1 (field_count old))) (from_width old was) two.1 in
      let four = both_pass (width_checks old was) (from_heap old was) three.1 in
      let five = both_pass (heap_checks old was) columns_old four.1 in
      joined_pass (array_checks now) (from_fields new now) (ap first_refusal arrays_checked ∙ one.0)
      (joined_pass (field_checks new now) (from_forms new now) (ap first_refusal fields_checked ∙ two.0)
      (joined_pass (flat_map (form_checks new now) (range_with_len 1 (field_count new))) (from_width new now) (ap first_refusal forms_checked ∙ three.0)
      (joined_pass (width_checks new now) (from_heap new now) (ap first_refusal width_checked ∙ four.0)
      (joined_pass (heap_checks new now) columns_new (heap_passes five.0) (ap first_refusal columns_checked ∙ five.1)))))

  -- ---- the plan

  two_axes : first_refusal (table_checks old was) ≡ None → naxis_of old ≡ 2
  two_axes e =
      let one = both_pass (array_checks was) (from_fields old was) e in
      let all : PassesAll (array_checks was) = all_pass (array_checks was) one.0 in
      sym (axis_total laws first k start old new is are) ∙ eqb-true was.axes.n 2 (is_so (was.axes.n == 2) all.1.0)

  plan_checked : (after_empty : Bool) → naxis_of old ≡ 2 → packed_checks (suc k) new after_empty ≡ packed_checks (suc k) old after_empty
  plan_checked after_empty two = λ j.
      scaling_same laws.numbers (cards_of old) (cards_of new) alike (suc k) j
      ∷ (codecs_same laws.numbers (cards_of old) (cards_of new) alike (suc k) j
      ++ (bits_same laws.numbers (cards_of old) (cards_of new) alike (suc k) j
      ++ (shapes_same laws.numbers (cards_of old) (cards_of new) alike (suc k) j
      ++ (parameters_same laws.numbers (cards_of old) (cards_of new) alike (suc k) j
      ++ (sorts_same laws.numbers (cards_of old) (cards_of new) alike (suc k) after_empty j
      ++ (lines_same laws.numbers (cards_of old) (cards_of new) alike (suc k) j
      ∷ (not (second_axis laws first k start old new is are two j == tile_count (axes_same laws.numbers (cards_of old) (cards_of new) alike j) (tiles_same laws.numbers (cards_of old) (cards_of new) alike j)), refusal (suc k) (Card 4) RowCount)
      ∷ []))))))

  checks_pass : (after_empty : Bool) → first_refusal (find_checks was old after_empty) ≡ None → first_refusal (find_checks now new after_empty) ≡ None
  checks_pass after_empty e =
      let one = both_pass (packed_card_checks was old) (image_checks was old after_empty) e in
      let two = both_pass (table_checks old was) (packed_checks (suc k) old after_empty) one.1 in
      joined_pass (packed_card_checks now new) (image_checks now new after_empty) (ap first_refusal cards_checked ∙ one.0)
      (joined_pass (table_checks new now) (packed_checks (suc k) new after_empty) (table_passes two.0) (ap first_refusal (plan_checked after_empty (two_axes two.0)) ∙ two.1))

  says : SaysTheSame (suc k) start old new
  says = record {
    end = ends_same laws first old new are;
    header = header_same laws first k start old new is are;
    facts = facts;
    grows = pcount_grows laws first k start old new is are;
    checks = checks_pass;
    packed = packed_same;
    plan = plan_same laws.numbers (cards_of old) (cards_of new) alike;
    plain = plain_same laws.numbers (cards_of old) (cards_of new) alike;
    forms = forms_same laws first old new are;
    titles = titled;
    fields = count_same;
    columns = column_same;
    heap = heap_same;
  }

pub amended_say_the_same : CardLaws → FirstCards → AmendedHeadersSayTheSame
amended_say_the_same laws first zero start old new some is are = absurd (omega arith)
amended_say_the_same laws first (suc k) start old new some is are = says laws first k start old new is are
