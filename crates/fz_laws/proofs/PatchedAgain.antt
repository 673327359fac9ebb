-- After PCOUNT is written the same patch passes the checks of headers and rows again.
use Rattle.std.specs.Prelude.{⊤}
use Rattle.std.proofs.Common.{◌≡◌, ◌⊎◌, inl, inr, ℕ, zero, suc, ◌+◌, ◌-◌, ◌*◌, ◌<◌, ◌≤◌, ◌==◌, ◌&&◌, not, Bool, true, false, ℤ, List, [], ◌∷◌, ◌++◌, length, take, codes, flat_map, slice_index, Contains, Option, Some, None, Result, Ok, Err, if◌then◌else◌, refl, sym, ap, ◌∙◌, subst, arith, eqb-true, eq-eqb, le-ltb, ltb-false}
use Rattle.std.specs.List.{range_with_len}
use Rattle.fz_base.specs.Refusal.{first_refusal}
use Rattle.fz_base.specs.declared.fault.Fault.{Fault}
use Rattle.fz_block.specs.Checks.{Judge, hdu_at, headers_of, unjudged, unless_refused, walk_of}
use Rattle.fz_block.specs.Facts.{facts_of}
use Rattle.fz_block.specs.Hdus.{cards_of}
use Rattle.fz_block.specs.Header.{data_start_of, next_start_of, whole_blocks_of}
use Rattle.fz_block.specs.Walk.{is_stop, stops}
use Rattle.fz_block.specs.declared.header.Header.{Header}
use Rattle.fz_grid.specs.Region.{lengths_of}
use Rattle.fz_table.specs.Columns.{column_called, describes, field_count, form_of, is_called, title_of}
use Rattle.fz_table.specs.Tables.{coded_name, heap_start_of, rows_len_of, stored_name}
use Rattle.fz_tile.specs.Plain.{AreBytes}
use Rattle.fz_tile.specs.TileCode.{TileCode}
use Rattle.fz_checks.specs.JobChecks.{axis_inside, image_checks, is_after_empty, missing_hdu, not_packed, packed_card_checks, unpack_checks, unpack_hdu_checks}
use Rattle.fz_checks.specs.Judges.{unpack_judge}
use Rattle.fz_head.specs.PackedHeader.{coded_letter, stored_letter}
use Rattle.fz_head.specs.PackedPlan.{numbered_in, said_axes, size_of}
use Rattle.fz_head.specs.PlainHeader.{axis_count}
use Rattle.fz_head.specs.Packable.{is_packed, is_table}
use Rattle.fz_head.specs.TableChecks.{compressed_table, repeated_table_names, table_card_checks}
use Rattle.fz_head.specs.declared.plan.Plan.{Plan}
use Rattle.fz_files.specs.Packed.{heap_of, tiles_in}
use Rattle.fz_files.specs.Restored.{RowStandsFor, header_in, plan_in}
use Rattle.fz_files.specs.Walks.{fault_of_walk, header_fault, job_walk, last_of}
use Rattle.fz_files.specs.declared.job.Job.TheVariants.{Unpack}
use Rattle.fz_laws.specs.Amends.{applied}
use Rattle.fz_laws.specs.PatchChecks.{corner_check, find_judge, form_check, given_check, if_all_pass, if_patchable, inside_checks, last_check, last_or, may_be_given, own_checks, patch_target, target_checks, wanted_among, wanted_image}
use Rattle.fz_laws.specs.FirstPatchFault.{BoxHasNumbers, RowsHaveNumbers}
use Rattle.fz_laws.specs.PatchForm.{has_form, has_pixel_codes, has_wide, is_wide_column, is_wide_table}
use Rattle.fz_laws.specs.Given.{Given, PatchJob, box_region, given_by, given_header}
use Rattle.fz_laws.specs.PatchHeaders.{SaysTheSame}
use Rattle.fz_laws.specs.PatchLaws.{ArePatching, PatchesAgain, PatchesAgainCutBack}
use Rattle.fz_laws.specs.NewNumbers.{box_tiles, new_numbers}
use Rattle.fz_laws.specs.Safe.{HasOldOrNew}
use Rattle.fz_laws.specs.PatchTaken.{CutLaws, RowLaws, SafeLaws}
use Rattle.fz_laws.specs.Writes.{Steps, all_writes, header_now}
use Rattle.fz_laws.proofs.Again.{plan_again}
use Rattle.fz_laws.proofs.AlikeEnds.{EndAlike, EndsAlike, end_alike}
use Rattle.fz_laws.proofs.AlikeWalks.{WalksAlike}
use Rattle.fz_laws.proofs.FoundWalks.{HasAll, wanted_walk}
use Rattle.fz_laws.proofs.HeaderNow.{next_is}
use Rattle.fz_laws.proofs.NewTarget.{axis_said, shape_count, shape_is, target_passed}
use Rattle.fz_laws.proofs.OnePatch.{target_wanted}
use Rattle.fz_laws.proofs.Passes.{PassesAll, all_pass, both_pass, each_passes, is_so, joined_pass, pass_both}
use Rattle.fz_laws.proofs.Patching.{IsPatching, patching_is}
use Rattle.fz_laws.proofs.Prefixes.{IsPrefix, LatePrefix, cut_long, cut_prefix, cut_stays, early_is, late_prefix}
use Rattle.fz_laws.proofs.RowWrites.{AreInBox}
use Rattle.fz_laws.proofs.SafeCuts.{alike, all, earlier, each_is, empty_same, facts_same, find_alike, find_passes, find_stops, header_now_is, header_same, passed, same, some, there, walks}
use Rattle.fz_laws.proofs.SafeRows.{old_or_new}
use Rattle.fz_laws.proofs.StepWrites.{HasRoom, box_is}
use Rattle.fz_laws.proofs.TargetFacts.{HasTarget, data_is, lies}

or_last : (fault : Fault) (hs : List Header) (h : Header) → last_of hs ≡ h ∷ [] → last_or fault hs ≡ Ok h
or_last fault [] h e = absurd cc
or_last fault (k ∷ []) h e = let is : k ≡ h = cc in ap Ok is
or_last fault (k ∷ j ∷ hs) h e = or_last fault (j ∷ hs) h e

unpack_goes_on : (found : Option Fault) → is_stop (unless_refused false found) ≡ false
unpack_goes_on None = refl
unpack_goes_on (Some x) = refl

-- the box lies within the axes, by the checks of a patch
inside_is : (k j : ℕ) (cards other : List (List ℕ)) (g : Given) → said_axes other ≡ said_axes cards → axis_count other ≡ axis_count cards →
    PassesAll (flat_map (λ i. axis_inside k cards (box_region g) i ∷ []) (range_with_len 0 (axis_count cards))) →
    PassesAll (flat_map (λ i. axis_inside j other (box_region g) i ∷ []) (range_with_len 0 (axis_count other)))
inside_is k j cards other g axes count all =
    each_is (axis_inside j other (box_region g)) 0 (axis_count other)
    (λ i low high.
    let one = each_passes (λ n. axis_inside k cards (box_region g) n ∷ []) 0 (axis_count cards) all i (omega arith) (omega arith) in
    let was = ltb-false (size_of (numbered_in (codes "ZNAXIS") (i + 1) cards)) (slice_index (box_region g).lo i + slice_index (box_region g).len i) one.0 in
    let old : slice_index (said_axes cards) i ≡ size_of (numbered_in (codes "ZNAXIS") (i + 1) cards) = axis_said cards i (omega arith) in
    let new : slice_index (said_axes other) i ≡ size_of (numbered_in (codes "ZNAXIS") (i + 1) other) = axis_said other i (omega arith) in
    let axis : slice_index (said_axes other) i ≡ slice_index (said_axes cards) i = ap (λ l. slice_index l i) axes in
    le-ltb (size_of (numbered_in (codes "ZNAXIS") (i + 1) other)) (slice_index (box_region g).lo i + slice_index (box_region g).len i) (omega arith))

module _ (laws : CutLaws) (file patch x : List ℕ) (job : PatchJob) (h : Header) (es : List TileCode) (has : HasTarget file h) (target : patch_target file patch job ≡ Ok h) (is : IsPrefix file h (given_by patch job) es x)
    (end_now : next_start_of (header_now x h) ≡ length x) where
  abbrev g : Given
  g = given_by patch job

  abbrev now : Header
  now = header_now x h

  says_same : SaysTheSame h.hdu h.start (header_in file h) (header_in x h)
  says_same = same laws file patch x job h es has target is

  header_is : header_in x now ≡ header_in x h
  header_is = header_now_is laws file patch x job h es has target is

  facts_are : now ≡ record h { pcount = now.pcount; data_len = now.data_len }
  facts_are = facts_same laws file patch x job h es has target is

  old_is : h ≡ facts_of h.hdu h.start (header_in file h)
  old_is = has.image.is_header.facts

  old_all : HasAll file h
  old_all = all laws file patch x job h es has target is

  ends_with_now : (judge other : Judge) → ((e : Header) → is_stop (judge e) ≡ false) →
      ((k start : ℕ) (e : Header) → hdu_at k start file ≡ Ok e → next_start_of e ≤ h.start → judge e ≡ Ok false → other e ≡ Ok false) → other now ≡ Ok false →
      (ks : List Header) → walk_of judge 65536 file ≡ Ok ks → EndsAlike 65536 0 0 file x h now judge other ks
  ends_with_now judge other never judged says ks walk =
      end_alike laws.hdus file x h now judge other never
      (record {
        some = some laws file patch x job h es has target is;
        ends = has.ends;
        long = is.long;
        before = earlier laws file patch x job h es has target is;
        judged_alike = judged;
        there = there laws file patch x job h es has target is;
        says = says;
        end_now = end_now;
      })
      65536 0 0 old_all.headers ks old_all.is old_all.last walk

  headers_now : EndsAlike 65536 0 0 file x h now unjudged unjudged old_all.headers
  headers_now = ends_with_now unjudged unjudged (λ e. refl) (λ k start e found before said. refl) refl old_all.headers old_all.is

  -- ---- unpack

  unpack_now : first_refusal (unpack_hdu_checks x now) ≡ None
  unpack_now =
      let header : List ℕ = header_in x now in
      let both = both_pass (packed_card_checks now header) (image_checks now header (is_after_empty x now)) (find_passes laws file patch x job h es has target is) in
      let cards = both_pass (if is_table now.sort then compressed_table now header ∷ [] else []) (not_packed now header ∷ repeated_table_names now header ∷ []) both.0 in
      let names : PassesAll (not_packed now header ∷ repeated_table_names now header ∷ []) = all_pass (not_packed now header ∷ repeated_table_names now header ∷ []) cards.1 in
      joined_pass (if is_table now.sort then table_card_checks now header else []) (if is_packed header now then image_checks now header (is_after_empty x now) else [])
      (table_part (is_table now.sort) cards.0 names.1.0) (image_part (is_packed header now) both.1)
    where
      table_part : (b : Bool) → first_refusal (if b then compressed_table now (header_in x now) ∷ [] else []) ≡ None → (repeated_table_names now (header_in x now)).0 ≡ false →
          first_refusal (if b then table_card_checks now (header_in x now) else []) ≡ None
      table_part true one two =
          passed (table_card_checks now (header_in x now)) ((all_pass (compressed_table now (header_in x now) ∷ []) one).0, (two, tt))
      table_part false one two = refl

      image_part : (b : Bool) → first_refusal (image_checks now (header_in x now) (is_after_empty x now)) ≡ None → first_refusal (if b then image_checks now (header_in x now) (is_after_empty x now) else []) ≡ None
      image_part true one = one
      image_part false one = refl

  -- both walks of `unpack`
  pub unpack_walks : (ks : List Header) → walk_of (unpack_judge file) 65536 file ≡ Ok ks → EndsAlike 65536 0 0 file x h now (unpack_judge file) (unpack_judge x) ks
  unpack_walks ks walk =
      ends_with_now (unpack_judge file) (unpack_judge x) (λ k. unpack_goes_on (first_refusal (unpack_hdu_checks file k))) judged (ap (unless_refused false) unpack_now) ks walk
    where
      judged : (k start : ℕ) (e : Header) → hdu_at k start file ≡ Ok e → next_start_of e ≤ h.start → unpack_judge file e ≡ Ok false → unpack_judge x e ≡ Ok false
      judged k start e found before said =
          (λ j. unless_refused false (first_refusal (unpack_checks e (header_same laws file patch x job h es has target is k start e found before j) (empty_same laws file patch x job h es has target is e j)))) ∙ said

  pub unpack_passes : header_fault Unpack file ≡ None → header_fault Unpack x ≡ None
  unfolding job_walk
  unpack_passes none = by_walk (walk_of (unpack_judge file) 65536 file) refl none
    where
      by_walk : (r : Result (List Header) Fault) → walk_of (unpack_judge file) 65536 file ≡ r → fault_of_walk Unpack file r ≡ None → header_fault Unpack x ≡ None
      by_walk (Err fault) walk e = absurd cc
      by_walk (Ok ks) walk e =
          let w = unpack_walks ks walk in
          ap (fault_of_walk Unpack x) w.walk

  -- ---- the same patch

  wanted_now : wanted_image job.wanted x ≡ Ok now
  wanted_now =
      let wanted : Option ℕ = job.wanted in
      let w0 = wanted_walk file wanted h (target_wanted file patch job h target) in
      let w : WalksAlike 65536 0 0 x h now (find_judge wanted x) w0.found =
      walks laws file patch x job h es has target is (find_judge wanted file) (find_judge wanted x) w0.found
      (alike laws file patch x job h es has target is (find_judge wanted file) (find_judge wanted x) (find_alike laws file patch x job h es has target is wanted) (find_stops laws file patch x job h es has target is wanted)) w0.walk w0.stop in
      ap (wanted_among wanted x) w.walk
      ∙ (ap (λ b. if b then last_or (missing_hdu wanted (length w.found) (length x)) w.found else Err (missing_hdu wanted (length w.found) (length x))) w.stop
      ∙ or_last (missing_hdu wanted (length w.found) (length x)) w.found now (w.last w0.last))

  column_same : (name : List ℕ) → is_wide_column (header_in x h) name ≡ is_wide_column (header_in file h) name
  column_same name = ap has_wide (says_same.columns name (field_count (header_in x h)) ∙ ap (column_called name (header_in file h)) says_same.fields)

  form_now : has_form (header_in x h) now (plan_in file h) ≡ has_form (header_in file h) h (plan_in file h)
  form_now =
      let p : Plan = plan_in file h in
      let heap : heap_start_of (header_in x h) now ≡ heap_start_of (header_in file h) h = says_same.heap ∙ ap (heap_start_of (header_in file h)) (sym old_is) in
      let rows : rows_len_of now ≡ rows_len_of h = ap rows_len_of facts_are in
      λ j.
      (says_same.fields j == 2 && (is_called coded_name (says_same.titles 1 j) && is_called stored_name (says_same.titles 2 j)))
      && ((describes (coded_letter p.codec) (says_same.forms 1 j)
      && (describes (stored_letter p.bitpix) (says_same.forms 2 j)
      && (if column_same coded_name j then column_same stored_name j else not (column_same stored_name j))))
      && ((heap j == rows j) && has_pixel_codes p.codec p.bitpix))

  pub target_now : patch_target x patch job ≡ Ok now
  unfolding patch_target
  target_now =
      (λ j. if_all_pass (headers_now.walk j) (if_patchable x patch job (wanted_now j)))
      ∙ ap (unless_refused now) checks
    where
      p : Plan
      p = plan_in file h

      old : PassesAll (target_checks file patch h job)
      old = all_pass (target_checks file patch h job) (target_passed file patch job h target)

      plan_is : plan_in x now ≡ p
      plan_is = plan_again laws.amended file x h has.image is.cards

      axes : said_axes (cards_of (header_in x now)) ≡ said_axes (cards_of (header_in file h))
      axes = sym (shape_is (cards_of (header_in x now))) ∙ (ap (λ (q : Plan). lengths_of q.shape) plan_is ∙ shape_is (cards_of (header_in file h)))

      count : axis_count (cards_of (header_in x now)) ≡ axis_count (cards_of (header_in file h))
      count = sym (shape_count (cards_of (header_in x now))) ∙ (ap (λ (q : Plan). q.shape.n) plan_is ∙ shape_count (cards_of (header_in file h)))

      checks : first_refusal (target_checks x patch now job) ≡ None
      checks =
          passed (target_checks x patch now job) (
            ap not (eq-eqb (next_start_of now) (length x) end_now),
            (
              (λ j. not (has_form (header_is j) now (plan_is j))) ∙ (ap not form_now ∙ old.1.0),
              (
                (λ j. not (length job.corner == count j)) ∙ old.1.1.0,
                (
                  (λ j. not (may_be_given (plan_is j) (given_header patch))) ∙ old.1.1.1.0,
                  inside_is h.hdu now.hdu (cards_of (header_in file h)) (cards_of (header_in x now)) g axes count old.1.1.1.1,
                ),
              ),
            ),
          )

-- ---- the rows

module _ (laws : RowLaws) (file patch x : List ℕ) (job : PatchJob) (h : Header) (es : List TileCode) (has : HasTarget file h) (room : HasRoom file h (length (heap_of es)))
    (bytes : AreBytes patch) (target : patch_target file patch job ≡ Ok h) (is : IsPrefix file h (given_by patch job) es x) where
  numbers_now : (t : ℕ) (xs : List ℤ) → t < tiles_in (plan_in file h) → RowStandsFor file h t xs → (ys : List ℤ) × RowStandsFor x (header_now x h) t ys
  numbers_now t xs low row = by_row (old_or_new laws file patch x job h es has room bytes target is t xs low row)
    where
      by_row : HasOldOrNew file x h (given_by patch job) t xs → (ys : List ℤ) × RowStandsFor x (header_now x h) t ys
      by_row (inl old) = (xs, old)
      by_row (inr new) = (new_numbers (plan_in file h) (given_by patch job) t xs, new.1)

  rows_now : (ts : List ℕ) (olds : List (List ℤ)) → AreInBox file h (given_by patch job) ts → RowsHaveNumbers file h ts olds → (news : List (List ℤ)) × RowsHaveNumbers x (header_now x h) ts news
  rows_now [] [] box rows = ([], tt)
  rows_now [] (xs ∷ more) box rows = absurd rows
  rows_now (t ∷ ts) [] box rows = absurd rows
  rows_now (t ∷ ts) (xs ∷ more) box rows =
      let here = numbers_now t xs box.0 rows.0 in
      let rest = rows_now ts more box.2 rows.1 in
      (here.0 ∷ rest.0, (here.1, rest.1))

  pub box_now : (olds : List (List ℤ)) → BoxHasNumbers file h (given_by patch job) olds → (news : List (List ℤ)) × BoxHasNumbers x (header_now x h) (given_by patch job) news
  box_now olds rows =
      let found = rows_now (box_tiles (plan_in file h) (given_by patch job)) olds (box_is file h (given_by patch job)) rows in
      (found.0, subst (λ q. RowsHaveNumbers x (header_now x h) (box_tiles q (given_by patch job)) found.0) (sym (plan_again laws.amended file x h has.image is.cards)) found.1)

-- ---- both ways

-- the HDU ends with the file from PCOUNT on
pub late_end : CutLaws → (file x : List ℕ) (h : Header) (g : Given) (es : List TileCode) → (has : HasTarget file h) → (late : LatePrefix file h g es x) → next_start_of (header_now x h) ≡ length x
late_end laws file x h g es has late =
    let all_len = data_is file h has in
    let count = late.count_is in
    let order : late.is.count + rows_len_of h ≡ h.data_len + length (heap_of es) = omega arith in
    next_is laws.hdus laws.amended file x h g es has late.is ∙ (ap (λ n. data_start_of h + whole_blocks_of n) order ∙ sym late.long_is)

pub patches_again : SafeLaws → PatchesAgain
patches_again laws file patch job h s n p many =
    let is : IsPatching file patch job h s = patching_is laws.patch file patch job h s p in
    let g : Given = given_by patch job in
    let x : List ℕ = applied (take n (all_writes s)) file in
    let late : LatePrefix file h g is.codes x = late_prefix laws.patch.writes.places laws.patch.writes.cards file h g is.has is.codes s is.are n many in
    let target = p.steps_are.target in
    let end = late_end laws.cuts file x h g is.codes is.has late in (
      unpack_passes laws.cuts file patch x job h is.codes is.has target late.is end,
      target_now laws.cuts file patch x job h is.codes is.has target late.is end,
      box_now laws.rows file patch x job h is.codes is.has is.are.room p.patch_bytes target late.is p.steps_are.olds p.steps_are.numbers,
    )

pub patches_cut_back : SafeLaws → PatchesAgainCutBack
patches_cut_back laws file patch job h s n p few =
    let is : IsPatching file patch job h s = patching_is laws.patch file patch job h s p in
    let g : Given = given_by patch job in
    let places = laws.patch.writes.places in
    let cards = laws.patch.writes.cards in
    let y : List ℕ = take (length file) (applied (take n s.heap) file) in
    let here : IsPrefix file h g is.codes y = cut_prefix places cards file h g is.has is.codes s is.are n in
    let lies_here = lies file h is.has in
    let rows = lies_here.rows in
    let heap = lies_here.heap in
    let header : header_in y h ≡ header_in file h = cut_stays places cards file h g is.has is.codes s is.are n h.start (2880 * h.blocks) (omega arith) in
    let now_is : header_now y h ≡ h = ap (facts_of h.hdu h.start) header ∙ sym is.has.image.is_header.facts in
    let end : next_start_of (header_now y h) ≡ length y = ap next_start_of now_is ∙ (is.has.ends ∙ sym (cut_long places cards file h g is.has is.codes s is.are n)) in
    let box = box_now laws.rows file patch y job h is.codes is.has is.are.room p.patch_bytes p.steps_are.target here p.steps_are.olds p.steps_are.numbers in
    subst
    (λ ws.
    (patch_target (take (length file) (applied ws file)) patch job ≡ Ok h) × ((olds : List (List ℤ)) × BoxHasNumbers (take (length file) (applied ws file)) h g olds))
    (sym (early_is places cards file h g is.has is.codes s is.are n few)) (
      target_now laws.cuts file patch y job h is.codes is.has p.steps_are.target here end ∙ ap Ok now_is,
      (box.0, subst (λ (k : Header). BoxHasNumbers y k g box.0) now_is box.1),
    )
