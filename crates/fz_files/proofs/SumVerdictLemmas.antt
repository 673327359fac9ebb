-- The checksums of the packed file with sums are right, by the definitions.
use Rattle.std.proofs.Common.{◌≡◌, ◌||◌, true, false, [], ◌∷◌, None, Ok, if◌then◌else◌, refl, ◌∙◌, ap}
use Rattle.std.specs.Fmt.{digits}
use Rattle.std.specs.List.{list_any}
use Rattle.fz_base.specs.Refusal.{first_refusal}
use Rattle.fz_card.specs.Made.{numbered_name}
use Rattle.fz_card.specs.Naming.{number_behind}
use Rattle.fz_card.specs.Quoted.{quoted}
use Rattle.fz_card.specs.Reading.{integer_of, logical_of, text_of}
use Rattle.fz_block.specs.Cards.{end_among, first_among}
use Rattle.fz_block.specs.Checks.{header_blocks_of, header_of, hdu_at, unless_refused, walk_of}
use Rattle.fz_block.specs.Hdus.{cards_of}
use Rattle.fz_block.specs.Walk.{hdu_of}
use Rattle.fz_sum.specs.Sums.{word_total, carried, ones_sum}
use Rattle.fz_sum.specs.Texts.{sum_of_card, sum_of_text}
use Rattle.fz_sum.specs.Verdicts.{checksum_verdict, datasum_verdict, verdict_of}
use Rattle.fz_sum.specs.declared.verdicts.Verdict.TheVariants.{Absent, Right}
use Rattle.fz_table.specs.Columns.{first_named, columns_len, column_called}
use Rattle.fz_table.specs.Forms.{elements_len, form_in}
use Rattle.fz_table.specs.Tables.{table_checks}
use Rattle.fz_checks.specs.JobChecks.{image_checks, unpack_hdu_checks}
use Rattle.fz_checks.specs.Judges.{unpack_judge}
use Rattle.fz_head.specs.Packable.{is_packed}
use Rattle.fz_head.specs.PackedChecks.{packed_checks}
use Rattle.fz_head.specs.TableChecks.{table_card_checks}
use Rattle.fz_files.specs.declared.job.Job.TheVariants.{Verify}
use Rattle.fz_files.specs.HandMade.{block_of}
use Rattle.fz_files.specs.Lines.{has_wrong_sum, has_wrong_sums, is_wrong}
use Rattle.fz_files.specs.SumFile.{sum_file, sum_file_cards}
use Rattle.fz_files.specs.Walks.{found_headers, headers_for, job_walk}
use Rattle.fz_files.proofs.CutFileLemmas.{first_facts, both_none}
use Rattle.fz_files.proofs.LinesFileLemmas.{sums_facts}
use Rattle.fz_files.proofs.WorkedWalks.{goes_on, ends_with}

first_at : hdu_at 0 0 sum_file ≡ Ok first_facts
unfolding hdu_at header_blocks_of header_of end_among first_among integer_of logical_of text_of quoted
first_at = refl

table_at : hdu_at 1 2880 sum_file ≡ Ok sums_facts
unfolding hdu_at header_blocks_of header_of end_among first_among integer_of logical_of text_of quoted numbered_name digits
table_at = refl

-- ---- the checks

packed : is_packed (block_of sum_file_cards) sums_facts ≡ true
unfolding is_packed end_among logical_of
packed = refl

card_checks_none : first_refusal (table_card_checks sums_facts (block_of sum_file_cards)) ≡ None
unfolding is_packed end_among logical_of number_behind numbered_name digits
card_checks_none = refl

table_checks_none : first_refusal (table_checks (block_of sum_file_cards) sums_facts) ≡ None
unfolding first_among first_named columns_len column_called elements_len form_in integer_of text_of quoted numbered_name digits end_among
table_checks_none = refl

plan_checks_none : first_refusal (packed_checks 1 (block_of sum_file_cards) true) ≡ None
unfolding integer_of logical_of text_of quoted number_behind numbered_name digits end_among
plan_checks_none = refl

checks_none : first_refusal (unpack_hdu_checks sum_file sums_facts) ≡ None
unfolding integer_of
checks_none =
    both_none (table_card_checks sums_facts (block_of sum_file_cards)) (if is_packed (block_of sum_file_cards) sums_facts then image_checks sums_facts (block_of sum_file_cards) true else []) card_checks_none
    (ap (λ b. first_refusal (if b then image_checks sums_facts (block_of sum_file_cards) true else [])) packed
    ∙ both_none (table_checks (block_of sum_file_cards) sums_facts) (packed_checks 1 (block_of sum_file_cards) true) table_checks_none plan_checks_none)

passes_first : unpack_judge sum_file first_facts ≡ Ok false
unfolding is_packed
passes_first = refl

walk_is : walk_of (unpack_judge sum_file) 65536 sum_file ≡ Ok (first_facts ∷ sums_facts ∷ [])
walk_is =
    goes_on (unpack_judge sum_file) 65535 0 0 sum_file first_facts (Ok (sums_facts ∷ [])) first_at passes_first refl
    (ends_with (unpack_judge sum_file) 65534 1 2880 sum_file sums_facts table_at (ap (unless_refused false) checks_none) refl)

headers_are : headers_for Verify sum_file ≡ first_facts ∷ sums_facts ∷ []
unfolding job_walk
headers_are = ap found_headers walk_is

-- ---- the verdicts

first_datasum : datasum_verdict (cards_of (hdu_of sum_file first_facts).header) (hdu_of sum_file first_facts).payload ≡ Absent
unfolding datasum_verdict verdict_of end_among
first_datasum = refl

first_checksum : checksum_verdict (cards_of (hdu_of sum_file first_facts).header) (hdu_of sum_file first_facts).header (hdu_of sum_file first_facts).payload ≡ Absent
unfolding checksum_verdict verdict_of end_among
first_checksum = refl

table_datasum : datasum_verdict (cards_of (hdu_of sum_file sums_facts).header) (hdu_of sum_file sums_facts).payload ≡ Right
unfolding datasum_verdict verdict_of end_among text_of quoted sum_of_card sum_of_text ones_sum word_total carried
table_datasum = refl

table_checksum : checksum_verdict (cards_of (hdu_of sum_file sums_facts).header) (hdu_of sum_file sums_facts).header (hdu_of sum_file sums_facts).payload ≡ Right
unfolding checksum_verdict verdict_of end_among text_of quoted ones_sum word_total carried
table_checksum = refl

pub none_is_wrong : has_wrong_sums sum_file ≡ false
none_is_wrong =
    ap (list_any (has_wrong_sum sum_file)) headers_are
    ∙ (λ i. (is_wrong (first_datasum i) || is_wrong (first_checksum i)) || ((is_wrong (table_datasum i) || is_wrong (table_checksum i)) || false))
