-- A file after all writes of the earlier steps of a patch, and any of those of one step. No two writes of a step touch each other, so the order in
-- which a disk makes them does not matter.
use Rattle.std.proofs.Common.{◌≡◌, ◌⊎◌, inl, inr, ℕ, ◌+◌, ◌-◌, ◌*◌, ◌^◌, ◌<◌, ◌≤◌, max, min, Bool, true, false, List, [], ◌∷◌, ◌++◌, length, take, drop}
use Rattle.std.proofs.Common.{All, slice_index, replicate, codes, Some, refl, sym, ap, ◌∙◌, subst, arith, pos}
use Rattle.std.proofs.lemmas.List.{append_assoc, drop-append-le, length-append, length-drop, length-replicate, length-take, take-append-le}
use Rattle.std.proofs.lemmas.List.Elements.{All-head, All-nil, All-tail}
use Rattle.fz_base.specs.Counts.{Amend}
use Rattle.fz_base.specs.Sink.{overwrite}
use Rattle.fz_block.specs.Cards.{card_at}
use Rattle.fz_block.specs.Hdus.{pcount_index, size_at, size_in}
use Rattle.fz_block.specs.Header.{whole_blocks_of}
use Rattle.fz_block.specs.declared.header.Header.{Header}
use Rattle.fz_card.specs.Laws.{CardLaws}
use Rattle.fz_card.specs.Layout.{padded}
use Rattle.fz_card.specs.Reading.{integer_of}
use Rattle.fz_table.specs.Rows.{row_start}
use Rattle.fz_table.specs.Tables.{rows_len_of}
use Rattle.fz_table.specs.declared.table.Table.{Table}
use Rattle.fz_tile.specs.TileCode.{TileCode}
use Rattle.fz_head.specs.PackedHeader.{number_card}
use Rattle.fz_files.specs.Packed.{heap_of}
use Rattle.fz_files.specs.Restored.{header_in, image_table}
use Rattle.fz_laws.specs.Amends.{IsOutside, amended, applied}
use Rattle.fz_laws.specs.Given.{Given, PatchJob, given_by}
use Rattle.fz_laws.specs.PatchLaws.{AnyOfAStepIsSafe, AreInOrder, ArePatching}
use Rattle.fz_laws.specs.Safe.{IsSafeAmid, IsStep, IsStepBeforeRows, picked}
use Rattle.fz_laws.specs.PatchTaken.{BytesOutsideStay, CardPlaceLaws, SafeLaws}
use Rattle.fz_laws.specs.Writes.{Steps, all_writes, before_rows, before_sums, card_write, grown_end, heap_end, heap_writes}
use Rattle.fz_laws.proofs.Between.{AreFine, IsBetween, row_bytes, steps, unchanged}
use Rattle.fz_laws.proofs.CardWrites.{AreApart, apart_both, pcount_said, pcount_within}
use Rattle.fz_laws.proofs.EarlierRows.{all_left, all_right}
use Rattle.fz_laws.proofs.Patching.{IsPatching, patching_is}
use Rattle.fz_laws.proofs.Prefixes.{AreAfter, IsPrefix, card_stays, card_there, front_prefix, heap_after, no_shorter, rest_stays, slice_cut}
use Rattle.fz_laws.proofs.RowWrites.{AreInPlace, NoRow, any_place, fine_both, in_place_both, in_place_fine, in_place_within, row_low, some_row}
use Rattle.fz_laws.proofs.SafeCuts.{cuts_find_it, cuts_still_pass}
use Rattle.fz_laws.proofs.SafeRows.{kept_row, old_or_new}
use Rattle.fz_laws.proofs.Slices.{long_written, slice_here}
use Rattle.fz_laws.proofs.StepWrites.{AreWrites, applied_both, heap_fine, heap_long, heap_ordered, new_rows, pcount_at, place_ordered, with_codes}
use Rattle.fz_laws.proofs.TargetFacts.{HasTarget, data_is, lies, rows_are, whole_rises}

-- ---- some of a list of writes

apart_picked : (place : ℕ) (flags : List Bool) (ws : List Amend) → AreApart place ws → AreApart place (picked flags ws)
apart_picked place [] ws all = tt
apart_picked place (flag ∷ flags) [] all = tt
apart_picked place (true ∷ flags) (w ∷ ws) all = (all.0, apart_picked place flags ws all.1)
apart_picked place (false ∷ flags) (w ∷ ws) all = apart_picked place flags ws all.1

in_place_picked : (base : List ℕ) (h : Header) (t : Table) (says : ℕ → List ℕ → Type 0) (flags : List Bool) (ws : List Amend) → AreInPlace base h t says ws →
    AreInPlace base h t says (picked flags ws)
in_place_picked base h t says [] ws all = tt
in_place_picked base h t says (flag ∷ flags) [] all = tt
in_place_picked base h t says (true ∷ flags) (w ∷ ws) all = (all.0, in_place_picked base h t says flags ws all.1)
in_place_picked base h t says (false ∷ flags) (w ∷ ws) all = in_place_picked base h t says flags ws all.1

after_picked : (start : ℕ) (flags : List Bool) (ws : List Amend) → AreAfter start ws → AreAfter start (picked flags ws)
after_picked start [] ws all = tt
after_picked start (flag ∷ flags) [] all = tt
after_picked start (true ∷ flags) (w ∷ ws) all = (all.0, after_picked start flags ws all.1)
after_picked start (false ∷ flags) (w ∷ ws) all = after_picked start flags ws all.1

apart_split : (place : ℕ) (xs ys : List Amend) → AreApart place (xs ++ ys) → AreApart place xs × AreApart place ys
apart_split place [] ys all = (tt, all)
apart_split place (x ∷ xs) ys all = let rest = apart_split place xs ys all.1 in ((all.0, rest.0), rest.1)

-- ---- a write that may leave a gap before it

-- what such a write of some bytes makes
abbrev raw : ℕ → List ℕ → List ℕ → List ℕ
raw at x file = take at file ++ replicate (at - length file) 0 ++ x ++ drop (at + length x) file

raw_is : (at : ℕ) (x file : List ℕ) → raw at x file ≡ take at file ++ (replicate (at - length file) 0 ++ (x ++ drop (at + length x) file))
raw_is at x file =
    append_assoc (take at file ++ replicate (at - length file) 0) x (drop (at + length x) file)
    ∙ append_assoc (take at file) (replicate (at - length file) 0) (x ++ drop (at + length x) file)

raw_long : (at : ℕ) (x file : List ℕ) → length file ≤ length (raw at x file)
raw_long at x file =
    let gap : List ℕ = replicate (at - length file) 0 in
    let rest : List ℕ = x ++ drop (at + length x) file in
    let whole : length (raw at x file) ≡ length (take at file ++ (gap ++ rest)) = ap length (raw_is at x file) in
    let one : length (take at file ++ (gap ++ rest)) ≡ length (take at file) + length (gap ++ rest) = length-append (take at file) (gap ++ rest) in
    let two : length (gap ++ rest) ≡ length gap + length rest = length-append gap rest in
    let three : length rest ≡ length x + length (drop (at + length x) file) = length-append x (drop (at + length x) file) in
    let first : length (take at file) ≡ min at (length file) = length-take at file in
    let zeros : length gap ≡ at - length file = length-replicate {A = ℕ} (at - length file) 0 in
    let last : length (drop (at + length x) file) ≡ length file - (at + length x) = length-drop (at + length x) file in
    omega arith

slice_front : (front rest : List ℕ) (s m : ℕ) → s + m ≤ length front → take m (drop s (front ++ rest)) ≡ take m (drop s front)
slice_front front rest s m low =
    let left : length (drop s front) ≡ length front - s = length-drop s front in
    ap (take m) (drop-append-le s front rest (omega arith)) ∙ take-append-le m (drop s front) rest (omega arith)

raw_slice : (at : ℕ) (x file : List ℕ) (s m : ℕ) → s + m ≤ at → s + m ≤ length file → take m (drop s (raw at x file)) ≡ take m (drop s file)
raw_slice at x file s m before inside =
    let first : length (take at file) ≡ min at (length file) = length-take at file in
    ap (λ l. take m (drop s l)) (raw_is at x file)
    ∙ (slice_front (take at file) (replicate (at - length file) 0 ++ (x ++ drop (at + length x) file)) s m (omega arith)
    ∙ slice_cut at s m file before)

-- it makes no file shorter
longer : (at : ℕ) (bytes file : List ℕ) → length file ≤ length (overwrite at bytes file)
longer at [] file = omega arith
longer at (b ∷ bytes) file = raw_long at (b ∷ bytes) file

longer_all : (ws : List Amend) (file : List ℕ) → length file ≤ length (applied ws file)
longer_all [] file = omega arith
longer_all (w ∷ ws) file =
    let one : length file ≤ length (amended w file) = longer w.at w.bytes file in
    let rest = longer_all ws (amended w file) in
    omega arith

-- and leaves a slice before it
slice_early : (at : ℕ) (bytes file : List ℕ) (s m : ℕ) → s + m ≤ at → s + m ≤ length file → take m (drop s (overwrite at bytes file)) ≡ take m (drop s file)
slice_early at [] file s m before inside = refl
slice_early at (b ∷ bytes) file s m before inside = raw_slice at (b ∷ bytes) file s m before inside

slices_early : (start s m : ℕ) (ws : List Amend) (file : List ℕ) → AreAfter start ws → s + m ≤ start → s + m ≤ length file →
    take m (drop s (applied ws file)) ≡ take m (drop s file)
slices_early start s m [] file all low inside = refl
slices_early start s m (w ∷ ws) file all low inside =
    let place = all.0 in
    let one : length file ≤ length (amended w file) = longer w.at w.bytes file in
    slices_early start s m ws (amended w file) all.1 low (omega arith) ∙ slice_early w.at w.bytes file s m (omega arith) inside

-- ---- bytes that no write has a place for

others_all : BytesOutsideStay → (i : ℕ) (ws : List Amend) (file : List ℕ) → All (IsOutside i) ws → slice_index (applied ws file) i ≡ slice_index file i
others_all law i [] file all = refl
others_all law i (w ∷ ws) file all =
    others_all law i ws (amended w file) (All-tail (IsOutside i) w ws all) ∙ law w.at w.bytes file i (All-head (IsOutside i) w ws all)

others_picked : BytesOutsideStay → (i : ℕ) (flags : List Bool) (ws : List Amend) (file : List ℕ) → All (IsOutside i) ws →
    slice_index (applied (picked flags ws) file) i ≡ slice_index file i
others_picked law i [] ws file all = refl
others_picked law i (flag ∷ flags) [] file all = refl
others_picked law i (true ∷ flags) (w ∷ ws) file all =
    others_picked law i flags ws (amended w file) (All-tail (IsOutside i) w ws all) ∙ law w.at w.bytes file i (All-head (IsOutside i) w ws all)
others_picked law i (false ∷ flags) (w ∷ ws) file all = others_picked law i flags ws file (All-tail (IsOutside i) w ws all)

-- the writes of a step, and of those before it, are among all
parts_outside : (i : ℕ) (s : Steps) (before within : List Amend) → IsStep s before within → All (IsOutside i) (all_writes s) →
    All (IsOutside i) before × All (IsOutside i) within
parts_outside i s before within step all = by_step step
  where
    up_to_sums : All (IsOutside i) (before_sums s)
    up_to_sums = all_left (IsOutside i) (before_sums s) s.sums all

    up_to_rows : All (IsOutside i) (before_rows s)
    up_to_rows = all_left (IsOutside i) (before_rows s) s.rows up_to_sums

    heap : All (IsOutside i) s.heap
    heap = all_left (IsOutside i) s.heap (s.pcount ++ s.forms) up_to_rows

    by_step : IsStep s before within → All (IsOutside i) before × All (IsOutside i) within
    by_step (inl (inl (first, is))) = (subst (All (IsOutside i)) (sym first) (All-nil (IsOutside i)), subst (All (IsOutside i)) (sym is) heap)
    by_step (inl (inr (first, is))) =
        (subst (All (IsOutside i)) (sym first) heap, subst (All (IsOutside i)) (sym is) (all_right (IsOutside i) s.heap (s.pcount ++ s.forms) up_to_rows))
    by_step (inr (inl (first, is))) =
        (subst (All (IsOutside i)) (sym first) up_to_rows, subst (All (IsOutside i)) (sym is) (all_right (IsOutside i) (before_rows s) s.rows up_to_sums))
    by_step (inr (inr (first, is))) =
        (subst (All (IsOutside i)) (sym first) up_to_sums, subst (All (IsOutside i)) (sym is) (all_right (IsOutside i) (before_sums s) s.sums all))

-- ---- after the codes, and some writes in place

not_written : (A : Type 0) → A ⊎ ⊥ → A
not_written A (inl a) = a
not_written A (inr none) = absurd none

late_row : (A B C D : Type 0) → A ⊎ B → C → D → A ⊎ (B × C × D)
late_row A B C D (inl a) c d = inl a
late_row A B C D (inr b) c d = inr (b, c, d)

module _ (places : CardPlaceLaws) (cards : CardLaws) (file : List ℕ) (h : Header) (g : Given) (has : HasTarget file h) (es : List TileCode) (s : Steps)
    (are : AreWrites file h g es s) where
  abbrev table : Table
  table = image_table file h

  abbrev end : ℕ
  end = heap_end table

  abbrev coded : List ℕ
  coded = with_codes file h es

  abbrev Says : ℕ → List ℕ → Type 0
  Says = new_rows file h g es

  abbrev count_now : ℕ
  count_now = h.pcount + length (heap_of es)

  abbrev card : Amend
  card = card_write h (pcount_index (header_in file h)) (number_card (codes "PCOUNT") count_now)

  coded_long : length coded ≡ grown_end h (length (heap_of es))
  coded_long = heap_long file h has es are.room are.some

  coded_far : length file ≤ length coded
  coded_far = longer_all (heap_writes file h es) file

  place_in_order : (says : ℕ → List ℕ → Type 0) (ws : List Amend) → AreInPlace file h table says ws → AreInOrder (length coded) ws
  place_in_order says ws all = place_ordered file h has es are.room are.some says ws all (length coded) coded_far

  between_by : (says : ℕ → List ℕ → Type 0) (ws : List Amend) → AreInPlace file h table says ws → IsBetween file h table says (applied ws coded)
  between_by says ws all =
      let far : length file ≤ length coded = coded_far in
      let size : length coded ≡ grown_end h (length (heap_of es)) = coded_long in
      let order : AreInOrder (length file) (heap_writes file h es ++ ws) =
      heap_ordered file h has es are.room are.some ws (λ len long. place_ordered file h has es are.room are.some says ws all len (omega arith)) in
      let fine : AreFine file h table says (heap_writes file h es ++ ws) =
      fine_both file h table says (heap_writes file h es) ws (heap_fine file h has es are.room are.some says) (in_place_fine file h table says ws all) in
      subst (IsBetween file h table says) (applied_both (heap_writes file h es) ws file)
      (steps places file h table says (lies file h has) file (heap_writes file h es ++ ws) (unchanged file h table says) order fine)

  rows_old : (ws : List Amend) → AreInPlace file h table NoRow ws → (row : ℕ) → row < table.rows →
      row_bytes (applied ws coded) table row ≡ row_bytes file table row
  rows_old ws all row low =
      let between : IsBetween file h table NoRow (applied ws coded) = between_by NoRow ws all in
      not_written (row_bytes (applied ws coded) table row ≡ row_bytes file table row) (between.rows row low)

  -- PCOUNT is not written, nor a row
  uncounted : (ws : List Amend) → AreInPlace file h table NoRow ws → AreApart (pcount_at file h) ws → IsPrefix file h g es (applied ws coded)
  uncounted ws all apart =
      let x : List ℕ = applied ws coded in
      let between : IsBetween file h table NoRow x = between_by NoRow ws all in
      let header : List ℕ = header_in file h in
      let i : ℕ = pcount_index header in
      let in_header = pcount_within header h has.image.is_header has.later in
      let place = lies file h has in
      let rows_at = place.rows in
      let heap_at = place.heap in
      let inside = place.within in
      let far : length file ≤ length coded = coded_far in
      let x_far = between.long in
      let stays : take 80 (drop card.at x) ≡ take 80 (drop card.at coded) = card_stays card.at ws coded (place_in_order NoRow ws all) apart (omega arith) in
      let first : take 80 (drop card.at coded) ≡ take 80 (drop card.at file) =
      slices_early end card.at 80 (heap_writes file h es) file (heap_after end file h es (omega arith)) (omega arith) (omega arith) in
      let same : card_at (header_in x h) i ≡ card_at header i = card_there x h i in_header ∙ (stays ∙ (first ∙ sym (card_there file h i in_header))) in
      let count_is : size_at header i ≡ h.pcount = sym (pcount_said header h has.image.is_header has.later) in
      let ends = has.ends in
      let of_data = data_is file h has in
      let room = are.room.end in
      let grows = whole_rises h.data_len (h.data_len + length (heap_of es)) (omega arith) in
      let blocks : whole_blocks_of (h.pcount + rows_len_of h) ≡ whole_blocks_of h.data_len = ap whole_blocks_of (sym of_data) in
      record {
        long = between.long;
        front = between.front;
        cards = between.cards;
        heap = between.heap;
        count = h.pcount;
        counted = ap (λ c. size_in (integer_of c)) same ∙ count_is;
        fits = omega arith;
        most = omega arith;
        rows = λ row low. inl (rows_old ws all row low);
      }

  card_in_place : AreInPlace file h table Says (card ∷ [])
  card_in_place = subst (AreInPlace file h table Says) are.pcount_is (any_place file h table Says s.pcount are.pcount)

  -- PCOUNT is written, and then some others
  counted_with : (ws : List Amend) → AreInPlace file h table Says ws → AreApart (pcount_at file h) ws → IsPrefix file h g es (applied ws (amended card coded))
  counted_with ws all apart =
      let x : List ℕ = applied ws (amended card coded) in
      let in_place : AreInPlace file h table Says (card ∷ ws) = (card_in_place.0, all) in
      let between : IsBetween file h table Says x = between_by Says (card ∷ ws) in_place in
      let order : AreInOrder (length coded) (card ∷ ws) = place_in_order Says (card ∷ ws) in_place in
      let first_long : length (amended card coded) ≡ max (length coded) (card.at + length card.bytes) = long_written card.at card.bytes coded order.1 order.0 in
      let rest_order : AreInOrder (length (amended card coded)) ws = subst (λ n. AreInOrder n ws) (sym first_long) order.3 in
      let size : length coded ≡ grown_end h (length (heap_of es)) = coded_long in
      let x_long = no_shorter ws (amended card coded) rest_order in
      let header : List ℕ = header_in file h in
      let i : ℕ = pcount_index header in
      let in_header = pcount_within header h has.image.is_header has.later in
      let place = lies file h has in
      let rows_at = place.rows in
      let heap_at = place.heap in
      let inside = place.within in
      let far = between.long in
      let coded_more : length file ≤ length coded = coded_far in
      let short : length (number_card (codes "PCOUNT") count_now) ≡ 80 =
      cards.made.integer_length (padded (codes "PCOUNT")) (pos count_now) refl are.room.short in
      let here : take 80 (drop card.at (amended card coded)) ≡ card.bytes =
      ap (λ n. take n (drop card.at (amended card coded))) (sym short) ∙ slice_here card.at card.bytes coded order.1 order.0 in
      let stays : take 80 (drop card.at x) ≡ card.bytes = card_stays card.at ws (amended card coded) rest_order apart (omega arith) ∙ here in
      let says : integer_of card.bytes ≡ Some (pos count_now) =
      (cards.values.integer card.bytes (pos count_now)).0 (cards.made.integer_value (padded (codes "PCOUNT")) (pos count_now) refl are.room.short) in
      let of_data = data_is file h has in
      let order_again : count_now + rows_len_of h ≡ h.data_len + length (heap_of es) = omega arith in
      let blocks : whole_blocks_of (count_now + rows_len_of h) ≡ whole_blocks_of (h.data_len + length (heap_of es)) = ap whole_blocks_of order_again in
      let room = are.room.end in
      let tail : drop end x ≡ drop end coded =
      rest_stays end (card ∷ ws) coded order (in_place_within file file h table Says (card ∷ ws) place (some_row file h has) in_place) in
      record {
        long = between.long;
        front = between.front;
        cards = between.cards;
        heap = between.heap;
        count = count_now;
        counted = ap (λ c. size_in (integer_of c)) (card_there x h i in_header ∙ stays) ∙ ap size_in says;
        fits = omega arith;
        most = omega arith;
        rows = λ row low. late_row _ _ _ _ (between.rows row low) refl tail;
      }

  -- ---- step by step

  -- what follows the writes after the heap
  behind_heap : (ws us : List Amend) → ws ≡ us → applied (s.heap ++ ws) file ≡ applied us coded
  behind_heap ws us same = (λ j. applied (are.heap_is j ++ same j) file) ∙ applied_both (heap_writes file h es) us file

  apart_parts : AreApart (pcount_at file h) s.forms × AreApart (pcount_at file h) (s.rows ++ s.sums)
  apart_parts = apart_split (pcount_at file h) s.forms (s.rows ++ s.sums) are.apart

  apart_rest : AreApart (pcount_at file h) s.rows × AreApart (pcount_at file h) s.sums
  apart_rest = apart_split (pcount_at file h) s.rows s.sums apart_parts.1

  forms_in : AreInPlace file h table Says s.forms
  forms_in = any_place file h table Says s.forms are.forms

  -- any of the codes and of the zeros
  heap_slice : (flags : List Bool) (a m : ℕ) → a + m ≤ end → take m (drop a (applied (picked flags s.heap) file)) ≡ take m (drop a file)
  heap_slice flags a m low =
      let inside = (lies file h has).within in
      slices_early end a m (picked flags s.heap) file
      (after_picked end flags s.heap (subst (AreAfter end) (sym are.heap_is) (heap_after end file h es (omega arith)))) low (omega arith)

  heap_any : (flags : List Bool) → IsPrefix file h g es (applied (picked flags s.heap) file)
  heap_any flags =
      front_prefix places cards file h g has es s are (applied (picked flags s.heap) file) (longer_all (picked flags s.heap) file) (heap_slice flags)

  heap_rows : (flags : List Bool) (row : ℕ) → row < table.rows → row_bytes (applied (picked flags s.heap) file) table row ≡ row_bytes file table row
  heap_rows flags row low =
      let place = lies file h has in
      let heap = place.heap in
      let inside : table.row_bytes * row + table.row_bytes ≤ table.row_bytes * table.rows = row_low table.row_bytes row table.rows low in
      heap_slice flags (row_start table row) table.row_bytes (omega arith)

  -- any of the cards
  cards_from : (flags : List Bool) → IsPrefix file h g es (applied (picked flags (card ∷ s.forms)) coded)
  cards_from [] = uncounted [] tt tt
  cards_from (true ∷ flags) =
      counted_with (picked flags s.forms) (in_place_picked file h table Says flags s.forms forms_in)
      (apart_picked (pcount_at file h) flags s.forms apart_parts.0)
  cards_from (false ∷ flags) =
      uncounted (picked flags s.forms) (in_place_picked file h table NoRow flags s.forms are.forms)
      (apart_picked (pcount_at file h) flags s.forms apart_parts.0)

  cards_any : (flags : List Bool) → IsPrefix file h g es (applied (s.heap ++ picked flags (s.pcount ++ s.forms)) file)
  cards_any flags =
      subst (IsPrefix file h g es)
      (sym (behind_heap (picked flags (s.pcount ++ s.forms)) (picked flags (card ∷ s.forms)) (λ j. picked flags (are.pcount_is j ++ s.forms))))
      (cards_from flags)

  cards_rows : (flags : List Bool) (row : ℕ) → row < table.rows →
      row_bytes (applied (s.heap ++ picked flags (s.pcount ++ s.forms)) file) table row ≡ row_bytes file table row
  cards_rows flags row low =
      let ws : List Amend = picked flags (s.pcount ++ s.forms) in
      ap (λ l. row_bytes l table row) (behind_heap ws ws refl)
      ∙ rows_old ws
      (in_place_picked file h table NoRow flags (s.pcount ++ s.forms) (in_place_both file h table NoRow s.pcount s.forms are.pcount are.forms)) row low

  -- any of the rows
  rows_any : (flags : List Bool) → IsPrefix file h g es (applied (before_rows s ++ picked flags s.rows) file)
  rows_any flags =
      let some : List Amend = picked flags s.rows in
      let ws : List Amend = s.forms ++ some in
      let list : before_rows s ++ some ≡ s.heap ++ (s.pcount ++ ws) =
      append_assoc s.heap (s.pcount ++ s.forms) some ∙ ap (λ l. s.heap ++ l) (append_assoc s.pcount s.forms some) in
      subst (IsPrefix file h g es) (sym (ap (λ l. applied l file) list ∙ behind_heap (s.pcount ++ ws) (card ∷ ws) (λ j. are.pcount_is j ++ ws)))
      (counted_with ws (in_place_both file h table Says s.forms some forms_in (in_place_picked file h table Says flags s.rows are.rows))
      (apart_both (pcount_at file h) s.forms some apart_parts.0 (apart_picked (pcount_at file h) flags s.rows apart_rest.0)))

  -- any of the checksums
  sums_any : (flags : List Bool) → IsPrefix file h g es (applied (before_sums s ++ picked flags s.sums) file)
  sums_any flags =
      let some : List Amend = picked flags s.sums in
      let ws : List Amend = s.forms ++ (s.rows ++ some) in
      let list : before_sums s ++ some ≡ s.heap ++ (s.pcount ++ ws) =
      append_assoc (before_rows s) s.rows some
      ∙ (append_assoc s.heap (s.pcount ++ s.forms) (s.rows ++ some)
      ∙ ap (λ l. s.heap ++ l) (append_assoc s.pcount s.forms (s.rows ++ some))) in
      subst (IsPrefix file h g es) (sym (ap (λ l. applied l file) list ∙ behind_heap (s.pcount ++ ws) (card ∷ ws) (λ j. are.pcount_is j ++ ws)))
      (counted_with ws
      (in_place_both file h table Says s.forms (s.rows ++ some) forms_in
      (in_place_both file h table Says s.rows some are.rows (in_place_picked file h table Says flags s.sums are.sums)))
      (apart_both (pcount_at file h) s.forms (s.rows ++ some) apart_parts.0
      (apart_both (pcount_at file h) s.rows some apart_rest.0 (apart_picked (pcount_at file h) flags s.sums apart_rest.1))))

  pub scattered : (before within : List Amend) (flags : List Bool) → IsStep s before within →
      IsPrefix file h g es (applied (before ++ picked flags within) file)
  scattered before within flags (inl (inl (first, is))) =
      subst (IsPrefix file h g es) (λ j. applied (sym first j ++ picked flags (sym is j)) file) (heap_any flags)
  scattered before within flags (inl (inr (first, is))) =
      subst (IsPrefix file h g es) (λ j. applied (sym first j ++ picked flags (sym is j)) file) (cards_any flags)
  scattered before within flags (inr (inl (first, is))) =
      subst (IsPrefix file h g es) (λ j. applied (sym first j ++ picked flags (sym is j)) file) (rows_any flags)
  scattered before within flags (inr (inr (first, is))) =
      subst (IsPrefix file h g es) (λ j. applied (sym first j ++ picked flags (sym is j)) file) (sums_any flags)

  -- before a row is written
  pub early_rows : (before within : List Amend) (flags : List Bool) → IsStepBeforeRows s before within → (row : ℕ) → row < table.rows →
      row_bytes (applied (before ++ picked flags within) file) table row ≡ row_bytes file table row
  early_rows before within flags (inl (first, is)) row low =
      (λ j. row_bytes (applied (first j ++ picked flags (is j)) file) table row) ∙ heap_rows flags row low
  early_rows before within flags (inr (first, is)) row low =
      (λ j. row_bytes (applied (first j ++ picked flags (is j)) file) table row) ∙ cards_rows flags row low

-- ---- safe to read

module _ (laws : SafeLaws) (file patch : List ℕ) (job : PatchJob) (h : Header) (s : Steps) (before within : List Amend) (flags : List Bool)
    (p : ArePatching file patch job h s) (step : IsStep s before within) where
  abbrev by : Given
  by = given_by patch job

  abbrev left : List ℕ
  left = applied (before ++ picked flags within) file

  is : IsPatching file patch job h s
  is = patching_is laws.patch file patch job h s p

  here : IsPrefix file h by is.codes left
  here = scattered laws.patch.writes.places laws.patch.writes.cards file h by is.has is.codes s is.are before within flags step

  pub safe_amid : IsSafeAmid file h by s before within flags
  safe_amid = record {
    safe = record {
      cuts = cuts_still_pass laws.cuts file patch left job h is.codes is.has p.steps_are.target here;
      found = cuts_find_it laws.cuts file patch left job h is.codes is.has p.steps_are.target here;
      tiles = old_or_new laws.rows file patch left job h is.codes is.has is.are.room p.patch_bytes p.steps_are.target here;
    };
    old =
        λ early t xs low row.
        kept_row laws.rows file patch left job h is.codes is.has is.are.room p.patch_bytes p.steps_are.target here t xs row
        (early_rows laws.patch.writes.places laws.patch.writes.cards file h by is.has is.codes s is.are before within flags early t
        (subst (λ m. t < m) (sym (rows_are file h is.has)) low));
    others =
        λ i low all.
        let parts = parts_outside i s before within step all in
        ap (λ l. slice_index l i) (applied_both before (picked flags within) file)
        ∙ (others_picked laws.outside i flags within (applied before file) parts.1 ∙ others_all laws.outside i before file parts.0);
  }

pub any_of_a_step_is_safe : SafeLaws → AnyOfAStepIsSafe
any_of_a_step_is_safe laws file patch job h s before within flags p step = safe_amid laws file patch job h s before within flags p step
