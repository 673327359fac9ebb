-- The first fault among the rows of a packed file, by the definitions.
use Rattle.std.proofs.Common.{◌≡◌, true, false, [], ◌∷◌, map, inl, inr, None, Ok, Err, if◌then◌else◌, cond, append-nil, refl, sym, subst, ◌∙◌, ap}
use Rattle.std.specs.Fmt.{digits}
use Rattle.std.specs.List.{filter, flat_map, range_with_len}
use Rattle.fz_base.specs.Refusal.{first_refusal, refusal}
use Rattle.fz_base.specs.declared.fault.Place.TheVariants.{Row as AtRow}
use Rattle.fz_base.specs.declared.kind.Kind.TheVariants.{DescriptorRange}
use Rattle.fz_card.specs.Made.{numbered_name}
use Rattle.fz_card.specs.Quoted.{quoted}
use Rattle.fz_card.specs.Reading.{integer_of, logical_of, text_of}
use Rattle.fz_block.specs.Cards.{end_among, first_among}
use Rattle.fz_block.specs.Checks.{header_blocks_of, header_of, hdu_at, unless_refused, walk_of}
use Rattle.fz_grid.specs.Grid.{tile}
use Rattle.fz_table.specs.Records.{record_at, record_of}
use Rattle.fz_table.specs.Tables.{table_checks}
use Rattle.fz_checks.specs.JobChecks.{image_checks, unpack_hdu_checks}
use Rattle.fz_checks.specs.Judges.{unpack_judge}
use Rattle.fz_head.specs.Packable.{is_packed}
use Rattle.fz_head.specs.PackedChecks.{packed_checks}
use Rattle.fz_head.specs.TableChecks.{table_card_checks}
use Rattle.fz_files.specs.declared.job.Job.TheVariants.{Unpack}
use Rattle.fz_files.specs.CutFile.{table_facts}
use Rattle.fz_files.specs.FaultFile.{past_file, past_fault}
use Rattle.fz_files.specs.FirstFault.{IsFirstFault, IsFaultBehind, IsFirstRowFault, all_rows, image_row, rows_of}
use Rattle.fz_files.specs.HandMade.{block_of}
use Rattle.fz_files.specs.Packed.{tiles_in}
use Rattle.fz_files.specs.PlainFile.{plain_cards, plain_plan}
use Rattle.fz_files.specs.Restored.{image_table, is_image, plan_in, tile_of}
use Rattle.fz_files.specs.Walks.{fault_of_walk, found_headers, header_fault, headers_for, job_walk}
use Rattle.fz_files.proofs.CutFileLemmas.{first_facts, plan_is, table_is, both_none, packed, table_checks_none, plan_checks_none, plain_table, stored_at, numbers_are, tile_of_grid}
use Rattle.fz_files.proofs.StandingLemmas.{card_checks_none, six}
use Rattle.fz_files.proofs.TableRows.{RowIsOf, stands_by}
use Rattle.fz_files.proofs.WorkedWalks.{goes_on, ends_with}

-- ---- the headers

first_at : hdu_at 0 0 past_file ≡ Ok first_facts
unfolding hdu_at header_blocks_of header_of end_among first_among integer_of logical_of text_of quoted
first_at = refl

table_at : hdu_at 1 2880 past_file ≡ Ok table_facts
unfolding hdu_at header_blocks_of header_of end_among first_among integer_of logical_of text_of quoted numbered_name digits
table_at = refl

not_packed : is_image past_file first_facts ≡ false
unfolding is_packed
not_packed = refl

passes_first : unpack_judge past_file first_facts ≡ Ok false
unfolding is_packed
passes_first = refl

checks_none : first_refusal (unpack_hdu_checks past_file table_facts) ≡ None
unfolding integer_of
checks_none =
    both_none (table_card_checks table_facts (block_of plain_cards)) (if is_packed (block_of plain_cards) table_facts then image_checks table_facts (block_of plain_cards) true else []) card_checks_none
    (ap (λ b. first_refusal (if b then image_checks table_facts (block_of plain_cards) true else [])) packed
    ∙ both_none (table_checks (block_of plain_cards) table_facts) (packed_checks 1 (block_of plain_cards) true) table_checks_none plan_checks_none)

walk_is : walk_of (unpack_judge past_file) 65536 past_file ≡ Ok (first_facts ∷ table_facts ∷ [])
walk_is =
    goes_on (unpack_judge past_file) 65535 0 0 past_file first_facts (Ok (table_facts ∷ [])) first_at passes_first refl
    (ends_with (unpack_judge past_file) 65534 1 2880 past_file table_facts table_at (ap (unless_refused false) checks_none) refl)

no_fault : header_fault Unpack past_file ≡ None
unfolding job_walk
no_fault = ap (fault_of_walk Unpack past_file) walk_is

headers_are : headers_for Unpack past_file ≡ first_facts ∷ table_facts ∷ []
unfolding job_walk
headers_are = ap found_headers walk_is

-- ---- the rows

same_plan : plan_in past_file table_facts ≡ plain_plan
same_plan = plan_is

same_table : image_table past_file table_facts ≡ plain_table
same_table = table_is

rows_are : all_rows past_file (first_facts ∷ table_facts ∷ []) ≡ map (image_row table_facts) six
rows_are =
    ap (λ b. flat_map (rows_of past_file) (cond b (first_facts ∷ filter (is_image past_file) (table_facts ∷ [])) (filter (is_image past_file) (table_facts ∷ [])))) not_packed
    ∙ (ap (λ b. flat_map (rows_of past_file) (cond b (table_facts ∷ []) [])) packed
    ∙ (append-nil (rows_of past_file table_facts)
    ∙ ap (λ p. map (image_row table_facts) (range_with_len 0 (tiles_in p))) same_plan))

row_0 : RowIsOf past_file 1 plain_plan plain_table 0 (tile_of_grid 0)
unfolding record_of tile
row_0 = record {
  found = stored_at 5856 4;
  chosen = refl;
  count = refl;
  means = record { plain = λ never. refl; pixels = numbers_are (tile_of_grid 0) refl; len = refl; meaning = (refl, refl) };
}

row_1 : RowIsOf past_file 1 plain_plan plain_table 1 (tile_of_grid 1)
unfolding record_of tile
row_1 = record {
  found = stored_at 5860 4;
  chosen = refl;
  count = refl;
  means = record { plain = λ never. refl; pixels = numbers_are (tile_of_grid 1) refl; len = refl; meaning = (refl, refl) };
}

row_2 : RowIsOf past_file 1 plain_plan plain_table 2 (tile_of_grid 2)
unfolding record_of tile
row_2 = record {
  found = stored_at 5864 2;
  chosen = refl;
  count = refl;
  means = record { plain = λ never. refl; pixels = numbers_are (tile_of_grid 2) refl; len = refl; meaning = (refl, refl) };
}

past_end : record_at past_file 1 plain_table 3 (tile_of plain_plan 3) ≡ Err (refusal 1 (AtRow 3) DescriptorRange)
unfolding record_of
past_end = refl

refused : record_at past_file 1 (image_table past_file table_facts) 3 (tile_of (plan_in past_file table_facts) 3) ≡ Err (refusal 1 (AtRow 3) DescriptorRange)
refused = (λ i. record_at past_file 1 (same_table i) 3 (tile_of (same_plan i) 3)) ∙ past_end

first_row : IsFirstRowFault past_file (map (image_row table_facts) six) past_fault
first_row =
    inr (
      (tile_of_grid 0, stands_by past_file table_facts plain_plan plain_table 0 (tile_of_grid 0) same_plan same_table row_0),
      inr (
        (tile_of_grid 1, stands_by past_file table_facts plain_plan plain_table 1 (tile_of_grid 1) same_plan same_table row_1),
        inr ((tile_of_grid 2, stands_by past_file table_facts plain_plan plain_table 2 (tile_of_grid 2) same_plan same_table row_2), inl (inl refused)),
      ),
    )

pub past_first : IsFirstFault Unpack past_file past_fault
past_first =
    subst (λ r. IsFaultBehind r Unpack past_file past_fault) (sym no_fault)
    (subst (λ hs. IsFirstRowFault past_file (all_rows past_file hs) past_fault) (sym headers_are)
    (subst (λ rows. IsFirstRowFault past_file rows past_fault) (sym rows_are) first_row))
