-- The first fault of the file with checksums and faulty rows, and its line, by the definitions.
use Rattle.std.proofs.Common.{◌≡◌, false, [], ◌∷◌, map, inl, inr, None, Ok, Err, codes, cond, append-nil, refl, sym, subst, ◌∙◌, ap, arith}
use Rattle.std.proofs.lemmas.Fmt.{decimal_digit}
use Rattle.std.specs.Fmt.{digits}
use Rattle.std.specs.List.{filter, flat_map, range_with_len}
use Rattle.fz_base.specs.Refusal.{first_refusal, refusal}
use Rattle.fz_base.specs.declared.fault.Place.TheVariants.{Row as AtRow}
use Rattle.fz_base.specs.declared.kind.Kind.TheVariants.{DescriptorRange}
use Rattle.fz_card.specs.Made.{numbered_name}
use Rattle.fz_card.specs.Quoted.{quoted}
use Rattle.fz_card.specs.Reading.{integer_of, logical_of, text_of}
use Rattle.fz_block.specs.Cards.{end_among, first_among}
use Rattle.fz_block.specs.Checks.{header_blocks_of, header_of, hdu_at, unless_refused, walk_of}
use Rattle.fz_block.specs.Hdus.{cards_of}
use Rattle.fz_block.specs.Walk.{hdu_of}
use Rattle.fz_grid.specs.Grid.{tile}
use Rattle.fz_sum.specs.Verdicts.{checksum_verdict, datasum_verdict, verdict_of}
use Rattle.fz_sum.specs.declared.verdicts.Verdict.TheVariants.{Absent}
use Rattle.fz_table.specs.Columns.{first_named, columns_len, column_called}
use Rattle.fz_table.specs.Forms.{elements_len, form_in}
use Rattle.fz_table.specs.Records.{record_at, record_of}
use Rattle.fz_checks.specs.JobChecks.{unpack_hdu_checks}
use Rattle.fz_checks.specs.Judges.{unpack_judge}
use Rattle.fz_head.specs.Packable.{is_packed}
use Rattle.fz_files.specs.declared.job.Job.TheVariants.{Verify}
use Rattle.fz_files.specs.FirstFault.{IsFirstFault, IsFaultBehind, IsFirstRowFault, all_rows, image_row, rows_of}
use Rattle.fz_files.specs.Lines.{before_fault, lines_behind, report_lines, tiles_text, verify_line}
use Rattle.fz_files.specs.LinesFile.{first_line, lines_fault, lines_past}
use Rattle.fz_files.specs.Packed.{tiles_in}
use Rattle.fz_files.specs.PlainFile.{plain_plan}
use Rattle.fz_files.specs.Restored.{image_table, is_image, plan_in, tile_of}
use Rattle.fz_files.specs.Walks.{fault_of_walk, found_headers, header_fault, headers_for, job_walk}
use Rattle.fz_files.proofs.CutFileLemmas.{first_facts, plain_table, stored_at, numbers_are, tile_of_grid}
use Rattle.fz_files.proofs.LinesFileLemmas.{bare_facts, packed, plan_is, sums_facts, table_none, verify_is}
use Rattle.fz_files.proofs.StandingLemmas.{six}
use Rattle.fz_files.proofs.TableRows.{RowIsOf, stands_by}
use Rattle.fz_files.proofs.WorkedWalks.{goes_on, ends_with}

-- ---- the headers

first_at : hdu_at 0 0 lines_past ≡ Ok first_facts
unfolding hdu_at header_blocks_of header_of end_among first_among integer_of logical_of text_of quoted
first_at = refl

table_at : hdu_at 1 2880 lines_past ≡ Ok sums_facts
unfolding hdu_at header_blocks_of header_of end_among first_among integer_of logical_of text_of quoted numbered_name digits
table_at = refl

bare_at : hdu_at 2 8640 lines_past ≡ Ok bare_facts
unfolding hdu_at header_blocks_of header_of end_among first_among integer_of logical_of text_of quoted
bare_at = refl

first_not_packed : is_image lines_past first_facts ≡ false
unfolding is_packed
first_not_packed = refl

bare_not_packed : is_image lines_past bare_facts ≡ false
unfolding is_packed
bare_not_packed = refl

passes_first : unpack_judge lines_past first_facts ≡ Ok false
unfolding is_packed
passes_first = refl

passes_last : unpack_judge lines_past bare_facts ≡ Ok false
unfolding is_packed
passes_last = refl

checks_none : first_refusal (unpack_hdu_checks lines_past sums_facts) ≡ None
unfolding integer_of
checks_none = table_none

walk_is : walk_of (unpack_judge lines_past) 65536 lines_past ≡ Ok (first_facts ∷ sums_facts ∷ bare_facts ∷ [])
walk_is =
    goes_on (unpack_judge lines_past) 65535 0 0 lines_past first_facts (Ok (sums_facts ∷ bare_facts ∷ [])) first_at passes_first refl
    (goes_on (unpack_judge lines_past) 65534 1 2880 lines_past sums_facts (Ok (bare_facts ∷ [])) table_at (ap (unless_refused false) checks_none) refl
    (ends_with (unpack_judge lines_past) 65533 2 8640 lines_past bare_facts bare_at passes_last refl))

no_fault : header_fault Verify lines_past ≡ None
unfolding job_walk
no_fault = ap (fault_of_walk Verify lines_past) walk_is

headers_are : headers_for Verify lines_past ≡ first_facts ∷ sums_facts ∷ bare_facts ∷ []
unfolding job_walk
headers_are = ap found_headers walk_is

-- ---- the rows

same_plan : plan_in lines_past sums_facts ≡ plain_plan
same_plan = plan_is

same_table : image_table lines_past sums_facts ≡ plain_table
unfolding first_among first_named columns_len column_called elements_len form_in integer_of text_of quoted numbered_name digits end_among
same_table = refl

rows_are : all_rows lines_past (first_facts ∷ sums_facts ∷ bare_facts ∷ []) ≡ map (image_row sums_facts) six
rows_are =
    ap (λ b. flat_map (rows_of lines_past) (cond b (first_facts ∷ filter (is_image lines_past) (sums_facts ∷ bare_facts ∷ [])) (filter (is_image lines_past) (sums_facts ∷ bare_facts ∷ [])))) first_not_packed
    ∙ (ap (λ b. flat_map (rows_of lines_past) (cond b (sums_facts ∷ filter (is_image lines_past) (bare_facts ∷ [])) (filter (is_image lines_past) (bare_facts ∷ [])))) packed
    ∙ (ap (λ b. flat_map (rows_of lines_past) (sums_facts ∷ cond b (bare_facts ∷ []) [])) bare_not_packed
    ∙ (append-nil (rows_of lines_past sums_facts)
    ∙ ap (λ p. map (image_row sums_facts) (range_with_len 0 (tiles_in p))) same_plan)))

row_0 : RowIsOf lines_past 1 plain_plan plain_table 0 (tile_of_grid 0)
unfolding record_of tile
row_0 = record {
  found = stored_at 5856 4;
  chosen = refl;
  count = refl;
  means = record { plain = λ never. refl; pixels = numbers_are (tile_of_grid 0) refl; len = refl; meaning = (refl, refl) };
}

row_1 : RowIsOf lines_past 1 plain_plan plain_table 1 (tile_of_grid 1)
unfolding record_of tile
row_1 = record {
  found = stored_at 5860 4;
  chosen = refl;
  count = refl;
  means = record { plain = λ never. refl; pixels = numbers_are (tile_of_grid 1) refl; len = refl; meaning = (refl, refl) };
}

row_2 : RowIsOf lines_past 1 plain_plan plain_table 2 (tile_of_grid 2)
unfolding record_of tile
row_2 = record {
  found = stored_at 5864 2;
  chosen = refl;
  count = refl;
  means = record { plain = λ never. refl; pixels = numbers_are (tile_of_grid 2) refl; len = refl; meaning = (refl, refl) };
}

past_end : record_at lines_past 1 plain_table 3 (tile_of plain_plan 3) ≡ Err (refusal 1 (AtRow 3) DescriptorRange)
unfolding record_of
past_end = refl

refused : record_at lines_past 1 (image_table lines_past sums_facts) 3 (tile_of (plan_in lines_past sums_facts) 3) ≡ Err (refusal 1 (AtRow 3) DescriptorRange)
refused = (λ i. record_at lines_past 1 (same_table i) 3 (tile_of (same_plan i) 3)) ∙ past_end

first_row : IsFirstRowFault lines_past (map (image_row sums_facts) six) lines_fault
first_row =
    inr (
      (tile_of_grid 0, stands_by lines_past sums_facts plain_plan plain_table 0 (tile_of_grid 0) same_plan same_table row_0),
      inr (
        (tile_of_grid 1, stands_by lines_past sums_facts plain_plan plain_table 1 (tile_of_grid 1) same_plan same_table row_1),
        inr ((tile_of_grid 2, stands_by lines_past sums_facts plain_plan plain_table 2 (tile_of_grid 2) same_plan same_table row_2), inl (inl refused)),
      ),
    )

pub lines_past_first : IsFirstFault Verify lines_past lines_fault
lines_past_first =
    subst (λ r. IsFaultBehind r Verify lines_past lines_fault) (sym no_fault)
    (subst (λ hs. IsFirstRowFault lines_past (all_rows lines_past hs) lines_fault) (sym headers_are)
    (subst (λ rows. IsFirstRowFault lines_past rows lines_fault) (sym rows_are) first_row))

-- ---- the line

first_datasum : datasum_verdict (cards_of (hdu_of lines_past first_facts).header) (hdu_of lines_past first_facts).payload ≡ Absent
unfolding datasum_verdict verdict_of end_among
first_datasum = refl

first_checksum : checksum_verdict (cards_of (hdu_of lines_past first_facts).header) (hdu_of lines_past first_facts).header (hdu_of lines_past first_facts).payload ≡ Absent
unfolding checksum_verdict verdict_of end_among
first_checksum = refl

first_tiles : tiles_text (is_image lines_past first_facts) (tiles_in (plan_in lines_past first_facts)) ≡ codes "-"
unfolding is_packed
first_tiles = refl

pub only_first : report_lines Verify lines_past lines_fault ≡ first_line
only_first =
    let first : verify_line lines_past first_facts ≡ first_line =
    verify_is lines_past first_facts Absent Absent (codes "0") (codes "-") first_datasum first_checksum (decimal_digit 0 (omega arith)) first_tiles in
    ap (λ r. lines_behind r Verify lines_past lines_fault) no_fault
    ∙ (ap (λ hs. flat_map (verify_line lines_past) (before_fault lines_fault hs)) headers_are
    ∙ (append-nil (verify_line lines_past first_facts) ∙ first))
