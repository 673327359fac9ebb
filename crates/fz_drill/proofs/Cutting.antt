-- What `cut` does with the packed file of `drill`: it refuses nothing, and stays within the bound.
use Rattle.std.specs.Prelude.{Some, None, Ok, Contains, slice_index_or, slice_index, if◌then◌else◌}
use Rattle.std.specs.List.{filter, flat_map, range_with_len}
use Rattle.std.proofs.Common.{◌≡◌, ℕ, zero, suc, ◌+◌, ◌-◌, ◌^◌, ◌==◌, ◌||◌, not, nat_lt, ◌<◌, ◌≤◌, max, Bool, true, false, cond, List, [], ◌∷◌, ◌++◌, append-nil, length, map, codes, refl, sym, ap, ◌∙◌, subst, arith}
use Rattle.std.proofs.lemmas.Bool.Decides.{nat_tests}
use Rattle.std.proofs.lemmas.List.FromFn.{length-map-range_with_len}
use Rattle.fz_base.specs.JobBuffers.{buffer_bound}
use Rattle.fz_base.specs.Refusal.{first_refusal}
use Rattle.fz_base.specs.declared.fault.Fault.{Fault}
use Rattle.fz_block.specs.Checks.{Judge, followed_by, unless_refused, walk_of}
use Rattle.fz_block.specs.Facts.{facts_of, nine_axes}
use Rattle.fz_block.specs.Hdus.{Hdu, cards_of, header_bytes}
use Rattle.fz_block.specs.Header.{next_start_of}
use Rattle.fz_block.specs.Walk.{is_stop}
use Rattle.fz_block.specs.declared.axes.Axes.{Axes}
use Rattle.fz_block.specs.declared.header.Header.{Header}
use Rattle.fz_grid.specs.Arrays.{NumberArray}
use Rattle.fz_grid.specs.Grid.{tile}
use Rattle.fz_grid.specs.Overlap.{has_pixel}
use Rattle.fz_grid.specs.Region.{lengths_of}
use Rattle.fz_grid.specs.Sieve.{sieve_hi, sieve_lo, sieve_step, tile_picks}
use Rattle.fz_grid.specs.declared.region.Region.{Region}
use Rattle.fz_grid.specs.declared.sieve.Sieve.{Sieve}
use Rattle.fz_tile.specs.Plain.{AreBytes}
use Rattle.fz_head.specs.Accepted.{IsAccepted}
use Rattle.fz_head.specs.EmptyPrimary.{empty_primary}
use Rattle.fz_checks.specs.Greatest.{greatest}
use Rattle.fz_checks.specs.JobChecks.{axis_inside, box_checks, cut_checks, cut_hdu_checks, image_checks, missing_hdu, not_packed, packed_card_checks}
use Rattle.fz_checks.specs.Judges.{cut_judge}
use Rattle.fz_head.specs.Packable.{is_table}
use Rattle.fz_head.specs.PackedPlan.{numbered_in, plan_of_cards, said_axes, size_of}
use Rattle.fz_head.specs.PlainHeader.{axis_count}
use Rattle.fz_head.specs.Planned.{pack_plan_of}
use Rattle.fz_head.specs.TableChecks.{compressed_table, repeated_table_names, table_card_checks}
use Rattle.fz_checks.specs.WorkBuffers.{pixels_of_tile}
use Rattle.fz_head.specs.declared.options.CodecWord.{CodecWord}
use Rattle.fz_head.specs.declared.plan.Plan.{Plan}
use Rattle.fz_files.specs.Buffers.{found_len, header_len, largest_tile, longest_header, plans_behind}
use Rattle.fz_files.specs.Cutout.{PickedRowsStandFor}
use Rattle.fz_files.specs.Drill.{drill_file, drill_options, drill_packed, drill_sieve}
use Rattle.fz_files.specs.FirstFault.{IsFaultBehind, IsFirstFault, IsFirstRowFault, IsRowSound, image_row, picked_rows, picked_tiles_of}
use Rattle.fz_files.specs.Packed.{tiles_in}
use Rattle.fz_files.specs.Restored.{RowsStandFor, plan_in}
use Rattle.fz_files.specs.Walks.{box_of, fault_of_walk, found_headers, header_fault, headers_for, job_walk, last_of, reached_by}
use Rattle.fz_files.specs.declared.job.Job.{Job}
use Rattle.fz_files.specs.declared.job.Job.TheVariants.{Cut}
use Rattle.fz_drill.specs.Taken.{PackedLaws}
use Rattle.fz_drill.proofs.PackedFile.{accepted_here, behind_empty, first_blocks, first_unpacked, found_first, found_table, images_none, more_behind, plan_there, table_blocks, table_facts, table_packed, table_there}
use Rattle.fz_drill.proofs.Packing.{tile_is}
use Rattle.fz_drill.proofs.PlainHeader.{both_none, cons_none, image_facts}
use Rattle.fz_drill.proofs.Table.{plan, table, totals}
use Rattle.fz_drill.proofs.Walks.{reach_on, reach_stop, walk_on, walk_stop}

-- ---- lists

-- what passes a test among numbers is one of them
filtered_below : (P : ℕ → Bool) (start n k d : ℕ) → k < length (filter P (range_with_len start n)) → slice_index_or (filter P (range_with_len start n)) k d < start + n
filtered_below P start zero k d within = absurd omega (arith, within)
filtered_below P start (suc n) k d within = by_test (P start) k within (λ j less. filtered_below P (start + 1) n j d less)
  where
    by_test : (b : Bool) (j : ℕ) → j < length (cond b (start ∷ filter P (range_with_len (start + 1) n)) (filter P (range_with_len (start + 1) n))) → ((i : ℕ) → i < length (filter P (range_with_len (start + 1) n)) → slice_index_or (filter P (range_with_len (start + 1) n)) i d < start + 1 + n) → slice_index_or (cond b (start ∷ filter P (range_with_len (start + 1) n)) (filter P (range_with_len (start + 1) n))) j d < start + suc n
    by_test true zero less later = omega arith
    by_test true (suc j) less later = let found = later j (omega (arith, less)) in omega (arith, found)
    by_test false j less later = let found = later j less in omega (arith, found)

-- rows that are sound
filtered_sound : (file : List ℕ) (h : Header) (P : ℕ → Bool) (start n most : ℕ) → start + n ≤ most → ((t : ℕ) → t < most → IsRowSound file (image_row h t)) →
    IsFirstRowFault file (map (image_row h) (filter P (range_with_len start n))) None
filtered_sound file h P start zero most within each = tt
filtered_sound file h P start (suc n) most within each = by_test (P start) (filtered_sound file h P (start + 1) n most (omega (arith, within)) each)
  where
    by_test : (b : Bool) → IsFirstRowFault file (map (image_row h) (filter P (range_with_len (start + 1) n))) None →
        IsFirstRowFault file (map (image_row h) (cond b (start ∷ filter P (range_with_len (start + 1) n)) (filter P (range_with_len (start + 1) n)))) None
    by_test true rest = (each start (omega (arith, within)), rest)
    by_test false rest = rest

first_false : (b : Bool) (fault : Fault) (more : List (Bool × Fault)) → first_refusal ((b, fault) ∷ more) ≡ None → (b ≡ false) × (first_refusal more ≡ None)
first_false true fault more e = absurd cc
first_false false fault more e = (refl, e)

-- ---- the axes that the cards say

shape_said : (cards : List (List ℕ)) (p : Plan) → plan_of_cards cards ≡ p → nine_axes (said_axes cards) ≡ p.shape
unfolding plan_of_cards
shape_said cards p is = ap (λ (q : Plan). q.shape) is

plan_shape : (rows : ℕ) (codec : CodecWord) → (pack_plan_of (drill_options codec) (image_facts 256 rows)).shape ≡ (image_facts 256 rows).axes
unfolding pack_plan_of
plan_shape rows codec = refl

module _ (cards : List (List ℕ)) (rows : ℕ) (shape : nine_axes (said_axes cards) ≡ (image_facts 256 rows).axes) where
  pub count_is : axis_count cards ≡ 2
  count_is = sym (length-map-range_with_len (λ i. size_of (numbered_in (codes "ZNAXIS") i cards)) 1 (axis_count cards)) ∙ ap (λ (a : Axes). a.n) shape

  both_axes : said_axes cards ≡ size_of (numbered_in (codes "ZNAXIS") 1 cards) ∷ size_of (numbered_in (codes "ZNAXIS") 2 cards) ∷ []
  both_axes = ap (λ n. map (λ i. size_of (numbered_in (codes "ZNAXIS") i cards)) (range_with_len 1 n)) count_is

  lens : nine_axes (size_of (numbered_in (codes "ZNAXIS") 1 cards) ∷ size_of (numbered_in (codes "ZNAXIS") 2 cards) ∷ []) ≡ (image_facts 256 rows).axes
  lens = ap nine_axes (sym both_axes) ∙ shape

  first_axis : size_of (numbered_in (codes "ZNAXIS") 1 cards) ≡ 256
  first_axis = ap (λ (a : Axes). slice_index a.len 0) lens

  second_axis : size_of (numbered_in (codes "ZNAXIS") 2 cards) ≡ rows
  second_axis = ap (λ (a : Axes). slice_index a.len 1) lens

  -- the box of what is cut lies within the image
  pub box_none : 1 ≤ rows → (k : ℕ) → first_refusal (box_checks k cards (box_of (drill_sieve rows))) ≡ None
  box_none some k =
      let region : Region = box_of (drill_sieve rows) in
      let same : not (2 == axis_count cards) ≡ false = ap (λ n. not (2 == n)) count_is in
      let ends : 0 + ((rows - 1) - 0 + 1) ≡ rows = omega (arith, some) in
      let wide : nat_lt (size_of (numbered_in (codes "ZNAXIS") 1 cards)) 64 ≡ false = ap (λ n. nat_lt n 64) first_axis in
      let inside : nat_lt rows rows ≡ false = grind (arith, nat_tests) in
      let tall : nat_lt (size_of (numbered_in (codes "ZNAXIS") 2 cards)) (0 + ((rows - 1) - 0 + 1)) ≡ false = (λ i. nat_lt (second_axis i) (ends i)) ∙ inside in
      cons_none _ _ _ same
      (ap (λ n. first_refusal (flat_map (λ i. axis_inside k cards region i ∷ []) (range_with_len 0 n))) count_is
      ∙ cons_none _ _ _ wide (cons_none _ _ [] tall refl))

-- ---- the job

module _ (l : PackedLaws) (rows : ℕ) (some : 1 ≤ rows) (few : rows ≤ 16384) (codec : CodecWord) (bytes : AreBytes (drill_file rows)) (held : length (drill_packed rows codec) ≤ 2 ^ 40) where
  abbrev packed : List ℕ
  packed = drill_packed rows codec

  abbrev S : Sieve
  S = drill_sieve rows

  abbrev J : Judge
  J = cut_judge None (box_of S) packed

  abbrev of_empty : Header
  of_empty = facts_of 0 0 (header_bytes empty_primary)

  abbrev pub of_table : Header
  of_table = table_facts l rows some few codec bytes held

  abbrev T : Hdu
  T = table l.tables rows some few codec bytes

  abbrev P : Plan
  P = plan l.tables rows some few codec bytes

  accepted : IsAccepted P (totals l.tables rows some few codec bytes) T.header of_table
  accepted = accepted_here l rows some few codec bytes held

  said : plan_of_cards (cards_of T.header) ≡ P
  said = ap (λ (d : Hdu). plan_of_cards (cards_of d.header)) (sym (table_there l rows some few codec bytes held)) ∙ plan_there l rows some few codec bytes held

  cards_none : first_refusal (packed_card_checks of_table T.header) ≡ None
  cards_none =
      let in_table : is_table of_table.sort ≡ true = ap is_table accepted.sort in
      let only : first_refusal (table_card_checks of_table T.header) ≡ None =
      ap (λ (b : Bool). first_refusal (if b then table_card_checks of_table T.header else [])) (sym in_table) ∙ table_checks_none in
      let one = first_false (compressed_table of_table T.header).0 (compressed_table of_table T.header).1 (repeated_table_names of_table T.header ∷ []) only in
      let two = first_false (repeated_table_names of_table T.header).0 (repeated_table_names of_table T.header).1 [] one.1 in
      both_none (if is_table of_table.sort then compressed_table of_table T.header ∷ [] else []) (not_packed of_table T.header ∷ repeated_table_names of_table T.header ∷ [])
      (where_true (is_table of_table.sort) (cons_none _ _ [] one.0 refl))
      (cons_none _ _ _ (ap not accepted.packed) (cons_none _ _ [] two.0 refl))
    where
      where_true : (b : Bool) → first_refusal (compressed_table of_table T.header ∷ []) ≡ None → first_refusal (if b then compressed_table of_table T.header ∷ [] else []) ≡ None
      where_true true none = none
      where_true false none = refl

      table_checks_none : first_refusal (if is_table of_table.sort then table_card_checks of_table T.header else []) ≡ None
      table_checks_none = by_test (is_table of_table.sort)
        where
          by_test : (b : Bool) → first_refusal (if b then table_card_checks of_table T.header else []) ≡ None
          by_test true = accepted.cards
          by_test false = refl

  pub shape : nine_axes (said_axes (cards_of T.header)) ≡ (image_facts 256 rows).axes
  shape = shape_said (cards_of T.header) P said ∙ plan_shape rows codec

  checks_none : first_refusal (cut_checks of_table T.header true (box_of S)) ≡ None
  checks_none =
      both_none (packed_card_checks of_table T.header) (image_checks of_table T.header true ++ box_checks 1 (cards_of T.header) (box_of S)) cards_none
      (both_none (image_checks of_table T.header true) (box_checks 1 (cards_of T.header) (box_of S)) (images_none P (totals l.tables rows some few codec bytes) T.header of_table accepted)
      (box_none (cards_of T.header) rows shape some 1))

  table_stops : J of_table ≡ Ok true
  table_stops =
      ap (λ (b : Bool). if b then unless_refused true (first_refusal (cut_hdu_checks packed (box_of S) of_table)) else Ok false) (table_packed l rows some few codec bytes held)
      ∙ ((λ i. unless_refused true (first_refusal (cut_checks of_table (table_there l rows some few codec bytes held i).header (behind_empty l rows some few codec bytes held i) (box_of S))))
      ∙ ap (unless_refused true) checks_none)

  first_goes_on : J of_empty ≡ Ok false
  first_goes_on = ap (λ (b : Bool). if b then unless_refused true (first_refusal (cut_hdu_checks packed (box_of S) of_empty)) else Ok false) (first_unpacked l rows some few codec bytes held)

  walk_is : walk_of J 65536 packed ≡ Ok (of_empty ∷ of_table ∷ [])
  walk_is =
      walk_on packed J 65535 0 0 of_empty (found_first l rows some few codec bytes held) first_goes_on (more_behind l rows some few codec bytes held)
      ∙ ap (followed_by of_empty) (walk_stop packed J 65534 1 (next_start_of of_empty) of_table (found_table l rows some few codec bytes held) table_stops)

  abbrev pub C : Job
  C = Cut None S

  pub job_is : job_walk C packed ≡ Ok (of_empty ∷ of_table ∷ [])
  unfolding job_walk
  job_is = walk_is

  reached_is : reached_by C packed ≡ record { hdu = 0; start = 0 } ∷ record { hdu = 1; start = next_start_of of_empty } ∷ []
  unfolding reached_by
  reached_is =
      reach_on packed J 65535 0 0 of_empty (found_first l rows some few codec bytes held) first_goes_on (more_behind l rows some few codec bytes held)
      ∙ ap (λ rs. record { hdu = 0; start = 0 } ∷ rs) (reach_stop packed J 65534 1 (next_start_of of_empty) of_table (found_table l rows some few codec bytes held) table_stops)

  none : header_fault C packed ≡ None
  none =
      ap (fault_of_walk C packed) job_is
      ∙ (λ i. if is_stop (first_goes_on i) || (is_stop (table_stops i) || false) then None else Some (missing_hdu None 2 (length packed)))

  longest : longest_header C packed ≡ 2880
  longest =
      ap (λ rs. greatest (map (header_len packed) rs)) reached_is
      ∙ (λ i. max (found_len (first_blocks l rows some few codec bytes held i)) (max (found_len (table_blocks l rows some few codec bytes held i)) 0))

  plans : plans_behind (header_fault C packed) C packed ≡ P ∷ []
  plans =
      ap (λ r. plans_behind r C packed) none
      ∙ (ap (λ r. map (plan_in packed) (last_of (found_headers r))) job_is ∙ ap (λ p. p ∷ []) (plan_there l rows some few codec bytes held))

  largest : largest_tile C packed ≡ 256
  largest = ap (λ ps. greatest (map pixels_of_tile ps)) plans ∙ ap (λ n. max n 0) (tile_is rows codec)

  pub bound : buffer_bound (longest_header C packed) (largest_tile C packed) 4 ≡ buffer_bound 2880 256 4
  bound = λ i. buffer_bound (longest i) (largest i) 4

  pub last_is : last_of (headers_for C packed) ≡ of_table ∷ []
  last_is = ap (λ r. last_of (found_headers r)) job_is

  abbrev is_picked : ℕ → Bool
  is_picked n =
      has_pixel (tile_picks (lengths_of (plan_in packed of_table).shape) (lengths_of (plan_in packed of_table).tile) (sieve_lo S) (sieve_hi S) (sieve_step S) n)

  module _ (a : NumberArray) (stand : RowsStandFor packed of_table a) where
    pub sound : IsFirstFault C packed None
    sound =
        let row : (t : ℕ) → t < tiles_in (plan_in packed of_table) → IsRowSound packed (image_row of_table t) = λ t less. (tile a (lengths_of (plan_in packed of_table).tile) t, stand.tiles t less) in
        let rows_are : IsFirstRowFault packed (picked_rows packed S of_table) None = filtered_sound packed of_table is_picked 0 (tiles_in (plan_in packed of_table)) (tiles_in (plan_in packed of_table)) (omega arith) row in
        subst (λ r. IsFaultBehind r C packed None) (sym none)
        (subst (λ r. IsFirstRowFault packed (flat_map (picked_rows packed S) (last_of (found_headers r))) None) (sym job_is)
        (subst (λ rs. IsFirstRowFault packed rs None) (sym (append-nil (picked_rows packed S of_table))) rows_are))

    pub picked_stand : PickedRowsStandFor packed of_table S a
    picked_stand = record { lengths = stand.lengths; whole = stand.whole; tiles = λ t in_it. stand.tiles t (below t in_it) }
      where
        below : (t : ℕ) → Contains (picked_tiles_of (plan_in packed of_table) S) t → t < tiles_in (plan_in packed of_table)
        below t (k, within, is) = let found = filtered_below is_picked 0 (tiles_in (plan_in packed of_table)) k t within in omega (arith, found, is)
