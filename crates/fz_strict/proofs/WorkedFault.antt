-- The worked file in which one byte of fill is not 0 has no fault of `unpack`, and stands for the image.
use Rattle.std.proofs.Common.{◌≡◌, ℕ, suc, ◌<◌, ◌==◌, true, false, cond, List, [], ◌∷◌, length, map, Option, None, Result, Ok, if◌then◌else◌, append-nil, refl, subst, ◌∙◌, ap}
use Rattle.std.proofs.lemmas.List.Elements.{All-from_recursion}
use Rattle.std.specs.Fmt.{digits}
use Rattle.std.specs.List.{flat_map, range_with_len}
use Rattle.fz_base.specs.Refusal.{first_refusal}
use Rattle.fz_base.specs.declared.fault.Fault.{Fault}
use Rattle.fz_card.specs.Made.{numbered_name}
use Rattle.fz_card.specs.Naming.{number_behind}
use Rattle.fz_card.specs.Quoted.{quoted}
use Rattle.fz_card.specs.Reading.{integer_of, logical_of, text_of}
use Rattle.fz_block.specs.Cards.{end_among, first_among}
use Rattle.fz_block.specs.Checks.{Judge, by_judgement, followed_by, hdu_at, header_blocks_of, header_of, judged, unless_refused, walk_from, walk_of}
use Rattle.fz_block.specs.Facts.{facts_of}
use Rattle.fz_block.specs.Header.{next_start_of}
use Rattle.fz_block.specs.Walk.{hdu_of}
use Rattle.fz_block.specs.declared.header.Header.{Header}
use Rattle.fz_table.specs.Columns.{column_called, columns_len, first_named}
use Rattle.fz_table.specs.Forms.{elements_len, form_in}
use Rattle.fz_table.specs.Records.{record_at, record_of}
use Rattle.fz_table.specs.Tables.{table_checks}
use Rattle.fz_tile.specs.Plain.{AreBytes}
use Rattle.fz_checks.specs.JobChecks.{image_checks, unpack_hdu_checks}
use Rattle.fz_checks.specs.Judges.{unpack_judge}
use Rattle.fz_head.specs.Packable.{is_packed}
use Rattle.fz_head.specs.PackedChecks.{packed_checks}
use Rattle.fz_head.specs.TableChecks.{table_card_checks}
use Rattle.fz_files.specs.CutFile.{table_facts}
use Rattle.fz_files.specs.FirstFault.{IsFirstFault, all_rows, image_row, rows_of}
use Rattle.fz_files.specs.HandMade.{block_of, empty_cards}
use Rattle.fz_files.specs.Packed.{tiles_in}
use Rattle.fz_files.specs.PlainFile.{grid_file, plain_cards, plain_plan}
use Rattle.fz_files.specs.Restored.{is_image, tile_of}
use Rattle.fz_files.specs.StandsFor.{StandsFor}
use Rattle.fz_files.specs.Walks.{fault_of_walk, found_headers, header_fault, headers_for, job_walk}
use Rattle.fz_files.specs.declared.job.Job.TheVariants.{Unpack}
use Rattle.fz_files.specs.Decided.{fault_after, first_fault}
use Rattle.fz_files.specs.RowPixels.{fault_or, first_row_fault, row_pixels}
use Rattle.fz_laws.specs.RoundTrip.{HasFirstFault, StandsForRestored}
use Rattle.fz_strict.specs.Worked.{filled_file}
use Rattle.fz_strict.proofs.Images.{first_plain}
use Rattle.fz_strict.proofs.Whole.{both_none}
use Rattle.fz_strict.proofs.WorkedFiles.{bytes_by}
use Rattle.fz_strict.proofs.WorkedFill.{fill_table, image_is, packed_is, pixels_by_record, plain_table, plan_is, restored_by, table_is}

-- ---- a walk, step by step

step_on : (judge : Judge) (more k start : ℕ) (file : List ℕ) (h : Header) (rest : Result (List Header) Fault) → hdu_at k start file ≡ Ok h →
    judge h ≡ Ok false →
    (next_start_of h == length file) ≡ false → walk_from judge more (suc k) (next_start_of h) file ≡ rest →
    walk_from judge (suc more) k start file ≡ followed_by h rest
unfolding walk_from
step_on judge more k start file h rest here says more_bytes behind =
    ap (judged file judge (λ h. walk_from judge more (suc k) (next_start_of h) file)) here
    ∙ (ap (by_judgement file h (walk_from judge more (suc k) (next_start_of h) file)) says
    ∙ (ap (λ b. if b then Ok (h ∷ []) else followed_by h (walk_from judge more (suc k) (next_start_of h) file)) more_bytes ∙ ap (followed_by h) behind))

last_step : (judge : Judge) (more k start : ℕ) (file : List ℕ) (h : Header) → hdu_at k start file ≡ Ok h → judge h ≡ Ok false →
    (next_start_of h == length file) ≡ true →
    walk_from judge (suc more) k start file ≡ Ok (h ∷ [])
unfolding walk_from
last_step judge more k start file h here says last =
    ap (judged file judge (λ h. walk_from judge more (suc k) (next_start_of h) file)) here
    ∙ (ap (by_judgement file h (walk_from judge more (suc k) (next_start_of h) file)) says
    ∙ ap (λ b. if b then Ok (h ∷ []) else followed_by h (walk_from judge more (suc k) (next_start_of h) file)) last)

-- ---- the headers

abbrev first_facts : Header
first_facts = facts_of 0 0 (block_of empty_cards)

first_at : hdu_at 0 0 filled_file ≡ Ok first_facts
unfolding hdu_at header_blocks_of header_of end_among first_among integer_of logical_of text_of quoted
first_at = refl

table_at : hdu_at 1 2880 filled_file ≡ Ok table_facts
unfolding hdu_at header_blocks_of header_of end_among first_among integer_of logical_of text_of quoted numbered_name digits
table_at = refl

passes_first : unpack_judge filled_file first_facts ≡ Ok false
unfolding is_packed
passes_first = refl

card_checks : first_refusal (table_card_checks table_facts (block_of plain_cards)) ≡ None
unfolding is_packed end_among logical_of number_behind numbered_name digits
card_checks = refl

column_checks : first_refusal (table_checks (block_of plain_cards) table_facts) ≡ None
unfolding first_among first_named columns_len column_called elements_len form_in integer_of text_of quoted numbered_name digits end_among
column_checks = refl

plan_checks : first_refusal (packed_checks 1 (block_of plain_cards) true) ≡ None
unfolding integer_of logical_of text_of quoted number_behind numbered_name digits end_among
plan_checks = refl

checks_none : first_refusal (unpack_hdu_checks filled_file table_facts) ≡ None
unfolding integer_of
checks_none =
    both_none (table_card_checks table_facts (block_of plain_cards))
    (if is_packed (block_of plain_cards) table_facts then image_checks table_facts (block_of plain_cards) true else []) card_checks
    (ap (λ b. first_refusal (if b then image_checks table_facts (block_of plain_cards) true else [])) packed_is
    ∙ both_none (table_checks (block_of plain_cards) table_facts) (packed_checks 1 (block_of plain_cards) true) column_checks plan_checks)

passes_table : unpack_judge filled_file table_facts ≡ Ok false
passes_table = ap (unless_refused false) checks_none

more_bytes : (next_start_of first_facts == length filled_file) ≡ false
unfolding integer_of
more_bytes = refl

walk_is : walk_of (unpack_judge filled_file) 65536 filled_file ≡ Ok (first_facts ∷ table_facts ∷ [])
unfolding integer_of
walk_is =
    step_on (unpack_judge filled_file) 65535 0 0 filled_file first_facts (Ok (table_facts ∷ [])) first_at passes_first more_bytes
    (last_step (unpack_judge filled_file) 65534 1 (next_start_of first_facts) filled_file table_facts table_at passes_table refl)

no_fault : header_fault Unpack filled_file ≡ None
unfolding job_walk
no_fault = ap (fault_of_walk Unpack filled_file) walk_is

headers_are : headers_for Unpack filled_file ≡ first_facts ∷ table_facts ∷ []
unfolding job_walk
headers_are = ap found_headers walk_is

here : hdu_of filled_file table_facts ≡ fill_table
here = refl

-- ---- the rows

row_is : (t : ℕ) → row_pixels filled_file (image_row table_facts t)
    ≡ pixels_by_record plain_plan t (record_at filled_file 1 plain_table t (tile_of plain_plan t))
row_is t = λ i. pixels_by_record (plan_is here i) t (record_at filled_file 1 (table_is here i) t (tile_of (plan_is here i) t))

by_rows : List ℕ → Option Fault
by_rows [] = None
by_rows (t ∷ ts) = fault_or (pixels_by_record plain_plan t (record_at filled_file 1 plain_table t (tile_of plain_plan t))) (by_rows ts)

rows_are : (ts : List ℕ) → first_row_fault filled_file (map (image_row table_facts) ts) ≡ by_rows ts
unfolding first_row_fault by_rows
rows_are [] = refl
rows_are (t ∷ ts) = λ i. fault_or (row_is t i) (rows_are ts i)

none_refused : by_rows (range_with_len 0 (tiles_in plain_plan)) ≡ None
unfolding by_rows record_of
none_refused = refl

no_image : is_image filled_file first_facts ≡ false
no_image = first_plain filled_file first_facts refl

all_are : all_rows filled_file (first_facts ∷ table_facts ∷ []) ≡ map (image_row table_facts) (range_with_len 0 (tiles_in plain_plan))
all_are =
    (λ i. flat_map (rows_of filled_file)
    (cond (no_image i) (first_facts ∷ cond (image_is here i) (table_facts ∷ []) []) (cond (image_is here i) (table_facts ∷ []) [])))
    ∙ (append-nil (rows_of filled_file table_facts) ∙ ap (λ p. map (image_row table_facts) (range_with_len 0 (tiles_in p))) (plan_is here))

first_none : first_fault Unpack filled_file ≡ None
unfolding first_fault
first_none =
    ap (λ r. fault_after r Unpack filled_file) no_fault
    ∙ (ap (λ hs. first_row_fault filled_file (all_rows filled_file hs)) headers_are
    ∙ (ap (first_row_fault filled_file) all_are ∙ (rows_are (range_with_len 0 (tiles_in plain_plan)) ∙ none_refused)))

-- ---- the file

are_bytes : AreBytes filled_file
are_bytes = All-from_recursion (λ b. b < 256) filled_file (bytes_by filled_file refl)

pub filled_stands : HasFirstFault → StandsForRestored → StandsFor filled_file grid_file
filled_stands first stands =
    let sound : IsFirstFault Unpack filled_file None = subst (IsFirstFault Unpack filled_file) first_none (first Unpack filled_file are_bytes) in
    subst (StandsFor filled_file) (restored_by first_facts headers_are here) (stands filled_file sound)
