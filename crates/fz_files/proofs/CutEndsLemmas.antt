-- Where a cut ends, by the definitions.
use Rattle.std.proofs.Common.{◌≡◌, ℕ, ◌||◌, Bool, true, false, pos, List, [], ◌∷◌, ◌++◌, length, map, Option, Some, None, Ok, Err, if◌then◌else◌, append-nil, refl, ◌∙◌, ap}
use Rattle.std.specs.Fmt.{digits}
use Rattle.std.specs.List.{flat_map}
use Rattle.fz_base.specs.Refusal.{first_refusal, refusal}
use Rattle.fz_base.specs.declared.fault.Fault.{Fault}
use Rattle.fz_base.specs.declared.fault.Place.TheVariants.{Byte, Card}
use Rattle.fz_base.specs.declared.kind.Kind.TheVariants.{NotPacked, OutOfBox, TrailingBytes}
use Rattle.fz_card.specs.Made.{numbered_name}
use Rattle.fz_card.specs.Naming.{number_behind}
use Rattle.fz_card.specs.Quoted.{quoted}
use Rattle.fz_card.specs.Reading.{integer_of, logical_of, text_of}
use Rattle.fz_block.specs.Cards.{end_among, first_among}
use Rattle.fz_block.specs.Checks.{header_blocks_of, header_of, hdu_at, header_touched, unless_refused, walk_of}
use Rattle.fz_block.specs.Hdus.{cards_of}
use Rattle.fz_block.specs.Walk.{is_stop}
use Rattle.fz_block.specs.declared.header.Header.{Header}
use Rattle.fz_block.specs.declared.header.Sort.TheVariants.{BinTable, Primary}
use Rattle.fz_grid.specs.declared.sieve.Sieve.{Sieve}
use Rattle.fz_table.specs.Columns.{first_named, columns_len, column_called}
use Rattle.fz_table.specs.Forms.{elements_len, form_in}
use Rattle.fz_table.specs.Reads.{tile_ranges}
use Rattle.fz_table.specs.Records.{record_of}
use Rattle.fz_table.specs.Tables.{table_checks}
use Rattle.fz_table.specs.declared.table.Table.{Table}
use Rattle.fz_checks.specs.JobChecks.{box_checks, cut_hdu_checks, image_checks, missing_hdu, packed_card_checks}
use Rattle.fz_checks.specs.Judges.{cut_judge}
use Rattle.fz_head.specs.Packable.{is_packed}
use Rattle.fz_head.specs.PackedChecks.{packed_checks}
use Rattle.fz_head.specs.PackedPlan.{plan_of_cards}
use Rattle.fz_files.specs.declared.job.Job.TheVariants.{Cut}
use Rattle.fz_files.specs.CutEnds.{axis_sieve, longer_file, missing_fault, outside_fault, outside_sieve, record_cards, record_file, record_ranges, unfinished_file, unfinished_ranges}
use Rattle.fz_files.specs.CutFile.{box_ranges, box_sieve, table_facts}
use Rattle.fz_files.specs.Cutout.{header_range, ranges_of_row, rows_touched, touched}
use Rattle.fz_files.specs.FirstFault.{IsFirstFault, image_row, picked_rows, picked_tiles_of, rows_for}
use Rattle.fz_files.specs.HandMade.{block_of}
use Rattle.fz_files.specs.OtherFile.{other_plan}
use Rattle.fz_files.specs.PlainFile.{grid_file, plain_cards, plain_file, plain_plan}
use Rattle.fz_files.specs.Restored.{image_table, plan_in, tile_of}
use Rattle.fz_files.specs.Walks.{Reached, box_of, fault_of_walk, found_headers, header_fault, headers_for, job_walk, last_of, reached_by}
use Rattle.fz_files.proofs.CutFileLemmas.{box_box, box_tiles, both_none, card_checks_none, first_at as plain_first, first_facts, packed, passes_first, plain_table, plan_checks_none, plan_is, stops_behind, table_at as plain_table_at, table_checks_none, table_is}
use Rattle.fz_files.proofs.FaultFileLemmas.{is_first}
use Rattle.fz_files.proofs.OtherFileLemmas.{first_facts as other_first}
use Rattle.fz_files.proofs.WorkedWalks.{ends_with, goes_on, reaches_last, reaches_on, reaches_refused, refused_at_hdu, refused_by_job, stops_at}

-- what is read, by its parts
pub touched_is : (wanted : Option ℕ) (sieve : Sieve) (file : List ℕ) (reached : List Reached) (heads rows : List (ℕ × ℕ)) → reached_by (Cut wanted sieve) file ≡ reached →
    map (header_range file) reached ≡ heads → rows_touched (header_fault (Cut wanted sieve) file) (Cut wanted sieve) file ≡ rows → touched wanted sieve file ≡ heads ++ rows
unfolding touched
touched_is wanted sieve file reached heads rows here is behind = λ i. (ap (map (header_range file)) here ∙ is) i ++ behind i

-- ---- a cut stops at the HDU that it cuts from

longer_first : hdu_at 0 0 longer_file ≡ Ok first_facts
unfolding hdu_at header_blocks_of header_of end_among first_among integer_of logical_of text_of quoted
longer_first = refl

longer_table : hdu_at 1 2880 longer_file ≡ Ok table_facts
unfolding hdu_at header_blocks_of header_of end_among first_among integer_of logical_of text_of quoted numbered_name digits
longer_table = refl

longer_passes : cut_judge None (box_of box_sieve) longer_file first_facts ≡ Ok false
longer_passes = passes_first box_sieve

longer_stops : cut_judge None (box_of box_sieve) longer_file table_facts ≡ Ok true
unfolding integer_of
longer_stops = stops_behind box_sieve box_box

longer_walk : walk_of (cut_judge None (box_of box_sieve) longer_file) 65536 longer_file ≡ Ok (first_facts ∷ table_facts ∷ [])
longer_walk =
    goes_on (cut_judge None (box_of box_sieve) longer_file) 65535 0 0 longer_file first_facts (Ok (table_facts ∷ [])) longer_first longer_passes refl
    (stops_at (cut_judge None (box_of box_sieve) longer_file) 65534 1 2880 longer_file table_facts longer_table longer_stops)

longer_reached : reached_by (Cut None box_sieve) longer_file ≡ record { hdu = 0; start = 0 } ∷ record { hdu = 1; start = 2880 } ∷ []
unfolding reached_by
longer_reached =
    reaches_on (cut_judge None (box_of box_sieve) longer_file) 65535 0 0 longer_file first_facts (record { hdu = 1; start = 2880 } ∷ []) longer_first longer_passes refl
    (reaches_last (cut_judge None (box_of box_sieve) longer_file) 65534 1 2880 longer_file table_facts longer_table longer_stops)

longer_none : header_fault (Cut None box_sieve) longer_file ≡ None
unfolding job_walk
longer_none =
    ap (fault_of_walk (Cut None box_sieve) longer_file) longer_walk
    ∙ (λ i. if (is_stop (longer_passes i) || (is_stop (longer_stops i) || false)) then None else Some (missing_hdu None 2 (length longer_file)))

longer_plan : plan_in longer_file table_facts ≡ plain_plan
longer_plan = plan_is

longer_image : image_table longer_file table_facts ≡ plain_table
longer_image = table_is

longer_heads : (header_range longer_file (record { hdu = 0; start = 0 }) ∷ header_range longer_file (record { hdu = 1; start = 2880 }) ∷ []) ≡ (0, 2880) ∷ (2880, 2880) ∷ []
unfolding header_touched end_among logical_of
longer_heads = refl

longer_ranges : flat_map (λ row. tile_ranges longer_file 1 plain_table row (tile_of plain_plan row)) (0 ∷ 1 ∷ 3 ∷ 4 ∷ []) ≡
    (5760, 8) ∷ (5768, 8) ∷ (5856, 4) ∷ (5776, 8) ∷ (5784, 8) ∷ (5860, 4) ∷ (5808, 8) ∷ (5816, 8) ∷ (5866, 2) ∷ (5824, 8) ∷ (5832, 8) ∷ (5868, 2) ∷ []
unfolding record_of
longer_ranges = refl

longer_rows : rows_for (Cut None box_sieve) longer_file (headers_for (Cut None box_sieve) longer_file) ≡ map (image_row table_facts) (0 ∷ 1 ∷ 3 ∷ 4 ∷ [])
unfolding job_walk
longer_rows =
    ap (λ r. flat_map (picked_rows longer_file box_sieve) (last_of (found_headers r))) longer_walk
    ∙ (append-nil (picked_rows longer_file box_sieve table_facts)
    ∙ (ap (λ p. map (image_row table_facts) (picked_tiles_of p box_sieve)) longer_plan ∙ ap (map (image_row table_facts)) box_tiles))

pub longer_touched : touched None box_sieve longer_file ≡ box_ranges
longer_touched =
    touched_is None box_sieve longer_file (record { hdu = 0; start = 0 } ∷ record { hdu = 1; start = 2880 } ∷ []) ((0, 2880) ∷ (2880, 2880) ∷ []) _ longer_reached longer_heads
    (ap (λ r. rows_touched r (Cut None box_sieve) longer_file) longer_none
    ∙ (ap (flat_map (ranges_of_row longer_file)) longer_rows
    ∙ ((λ i. flat_map (λ row. tile_ranges longer_file 1 (longer_image i) row (tile_of (longer_plan i) row)) (0 ∷ 1 ∷ 3 ∷ 4 ∷ [])) ∙ longer_ranges)))

-- ---- an HDU that is refused

unfinished_first : hdu_at 0 0 unfinished_file ≡ Ok first_facts
unfolding hdu_at header_blocks_of header_of end_among first_among integer_of logical_of text_of quoted
unfinished_first = refl

unfinished_table : hdu_at 1 2880 unfinished_file ≡ Ok table_facts
unfolding hdu_at header_blocks_of header_of end_among first_among integer_of logical_of text_of quoted numbered_name digits
unfinished_table = refl

unfinished_last : hdu_at 2 8640 unfinished_file ≡ Err (refusal 2 (Byte 8640) TrailingBytes)
unfolding hdu_at header_blocks_of end_among
unfinished_last = refl

unfinished_walk : walk_of (cut_judge (Some 2) (box_of box_sieve) unfinished_file) 65536 unfinished_file ≡ Err (refusal 2 (Byte 8640) TrailingBytes)
unfinished_walk =
    goes_on (cut_judge (Some 2) (box_of box_sieve) unfinished_file) 65535 0 0 unfinished_file first_facts (Err (refusal 2 (Byte 8640) TrailingBytes)) unfinished_first refl refl
    (goes_on (cut_judge (Some 2) (box_of box_sieve) unfinished_file) 65534 1 2880 unfinished_file table_facts (Err (refusal 2 (Byte 8640) TrailingBytes)) unfinished_table refl refl
    (refused_at_hdu (cut_judge (Some 2) (box_of box_sieve) unfinished_file) 65533 2 8640 unfinished_file (refusal 2 (Byte 8640) TrailingBytes) unfinished_last))

unfinished_reached : reached_by (Cut (Some 2) box_sieve) unfinished_file ≡ record { hdu = 0; start = 0 } ∷ record { hdu = 1; start = 2880 } ∷ record { hdu = 2; start = 8640 } ∷ []
unfolding reached_by
unfinished_reached =
    reaches_on (cut_judge (Some 2) (box_of box_sieve) unfinished_file) 65535 0 0 unfinished_file first_facts
    (record { hdu = 1; start = 2880 } ∷ record { hdu = 2; start = 8640 } ∷ []) unfinished_first refl refl
    (reaches_on (cut_judge (Some 2) (box_of box_sieve) unfinished_file) 65534 1 2880 unfinished_file table_facts (record { hdu = 2; start = 8640 } ∷ []) unfinished_table refl refl
    (reaches_refused (cut_judge (Some 2) (box_of box_sieve) unfinished_file) 65533 2 8640 unfinished_file (refusal 2 (Byte 8640) TrailingBytes) unfinished_last))

unfinished_heads :
    (header_range unfinished_file (record { hdu = 0; start = 0 }) ∷ header_range unfinished_file (record { hdu = 1; start = 2880 }) ∷ header_range unfinished_file (record { hdu = 2; start = 8640 }) ∷ [])
    ≡ (0, 2880) ∷ (2880, 2880) ∷ (8640, 10) ∷ []
unfolding header_touched end_among logical_of
unfinished_heads = refl

unfinished_fault : header_fault (Cut (Some 2) box_sieve) unfinished_file ≡ Some (refusal 2 (Byte 8640) TrailingBytes)
unfolding job_walk
unfinished_fault = ap (fault_of_walk (Cut (Some 2) box_sieve) unfinished_file) unfinished_walk

pub unfinished_touched : touched (Some 2) box_sieve unfinished_file ≡ unfinished_ranges
unfinished_touched =
    touched_is (Some 2) box_sieve unfinished_file (record { hdu = 0; start = 0 } ∷ record { hdu = 1; start = 2880 } ∷ record { hdu = 2; start = 8640 } ∷ []) unfinished_ranges [] unfinished_reached unfinished_heads
    (ap (λ r. rows_touched r (Cut (Some 2) box_sieve) unfinished_file) unfinished_fault)

-- ---- a box that is not within the image

-- what checks come to after others that refuse nothing
pub after_none : (xs ys : List (Bool × Fault)) (r : Option Fault) → first_refusal xs ≡ None → first_refusal ys ≡ r → first_refusal (xs ++ ys) ≡ r
after_none [] ys r none rest = rest
after_none ((true, fault) ∷ xs) ys r none rest = absurd cc
after_none ((false, fault) ∷ xs) ys r none rest = after_none xs ys r none rest

outside_box : first_refusal (box_checks 1 (cards_of (block_of plain_cards)) (box_of outside_sieve)) ≡ outside_fault
unfolding integer_of numbered_name digits end_among
outside_box = refl

outside_checks : first_refusal (cut_hdu_checks plain_file (box_of outside_sieve) table_facts) ≡ outside_fault
unfolding integer_of
outside_checks =
    after_none (packed_card_checks table_facts (block_of plain_cards)) (image_checks table_facts (block_of plain_cards) true ++ box_checks 1 (cards_of (block_of plain_cards)) (box_of outside_sieve)) outside_fault
    card_checks_none
    (after_none (image_checks table_facts (block_of plain_cards) true) (box_checks 1 (cards_of (block_of plain_cards)) (box_of outside_sieve)) outside_fault
    (both_none (table_checks (block_of plain_cards) table_facts) (packed_checks 1 (block_of plain_cards) true) table_checks_none plan_checks_none) outside_box)

outside_refuses : cut_judge None (box_of outside_sieve) plain_file table_facts ≡ Err (refusal 1 (Card 19) OutOfBox)
outside_refuses =
    ap (λ b. if b then unless_refused true (first_refusal (cut_hdu_checks plain_file (box_of outside_sieve) table_facts)) else Ok false) packed
    ∙ ap (unless_refused true) outside_checks

pub outside_first : IsFirstFault (Cut None outside_sieve) plain_file outside_fault
unfolding job_walk
outside_first =
    is_first (Cut None outside_sieve) plain_file (refusal 1 (Card 19) OutOfBox)
    (ap (fault_of_walk (Cut None outside_sieve) plain_file)
    (goes_on (cut_judge None (box_of outside_sieve) plain_file) 65535 0 0 plain_file first_facts (Err (refusal 1 (Card 19) OutOfBox)) plain_first (passes_first outside_sieve) refl
    (refused_by_job (cut_judge None (box_of outside_sieve) plain_file) 65534 1 2880 plain_file table_facts (refusal 1 (Card 19) OutOfBox) plain_table_at outside_refuses)))

-- ---- a file that is not packed

abbrev pub grid_facts : Header
grid_facts = record {
  hdu = 0;
  start = 0;
  cards = 5;
  blocks = 1;
  sort = Primary;
  bitpix = pos 8;
  axes = record { n = 2; len = 5 ∷ 3 ∷ 0 ∷ 0 ∷ 0 ∷ 0 ∷ 0 ∷ 0 ∷ 0 ∷ [] };
  pcount = 0;
  gcount = 1;
  data_len = 15;
}

pub grid_at : hdu_at 0 0 grid_file ≡ Ok grid_facts
unfolding hdu_at header_blocks_of header_of end_among first_among integer_of logical_of text_of quoted numbered_name digits
grid_at = refl

grid_passes : cut_judge None (box_of box_sieve) grid_file grid_facts ≡ Ok false
unfolding is_packed
grid_passes = refl

grid_walk : walk_of (cut_judge None (box_of box_sieve) grid_file) 65536 grid_file ≡ Ok (grid_facts ∷ [])
grid_walk = ends_with (cut_judge None (box_of box_sieve) grid_file) 65535 0 0 grid_file grid_facts grid_at grid_passes refl

pub missing_first : IsFirstFault (Cut None box_sieve) grid_file missing_fault
unfolding job_walk
missing_first =
    is_first (Cut None box_sieve) grid_file (refusal 1 (Byte 5760) NotPacked)
    (ap (fault_of_walk (Cut None box_sieve) grid_file) grid_walk ∙ (λ i. if is_stop (grid_passes i) || false then None else Some (missing_hdu None 1 (length grid_file))))

-- ---- a long record

abbrev record_facts : Header
record_facts = record {
  hdu = 1;
  start = 2880;
  cards = 16;
  blocks = 1;
  sort = BinTable;
  bitpix = pos 8;
  axes = record { n = 2; len = 8 ∷ 1 ∷ 0 ∷ 0 ∷ 0 ∷ 0 ∷ 0 ∷ 0 ∷ 0 ∷ [] };
  pcount = 100;
  gcount = 1;
  data_len = 108;
}

abbrev record_table : Table
record_table = record {
  row_bytes = 8;
  rows = 1;
  rows_at = 5760;
  heap_at = 5768;
  heap_len = 100;
  coded = Some (record { at = 0; wide = false; unit = 1 });
  stored = None;
  gzip = None;
}

record_first : hdu_at 0 0 record_file ≡ Ok other_first
unfolding hdu_at header_blocks_of header_of end_among first_among integer_of logical_of text_of quoted
record_first = refl

record_second : hdu_at 1 2880 record_file ≡ Ok record_facts
unfolding hdu_at header_blocks_of header_of end_among first_among integer_of logical_of text_of quoted numbered_name digits
record_second = refl

record_plan : plan_in record_file record_facts ≡ other_plan
unfolding plan_of_cards integer_of text_of quoted number_behind numbered_name digits end_among
record_plan = refl

record_image : image_table record_file record_facts ≡ record_table
unfolding first_among first_named columns_len column_called elements_len form_in integer_of text_of quoted numbered_name digits end_among
record_image = refl

record_packed : is_packed (block_of record_cards) record_facts ≡ true
unfolding is_packed end_among logical_of
record_packed = refl

record_card_checks : first_refusal (packed_card_checks record_facts (block_of record_cards)) ≡ None
unfolding is_packed end_among logical_of number_behind numbered_name digits
record_card_checks = refl

record_table_checks : first_refusal (table_checks (block_of record_cards) record_facts) ≡ None
unfolding first_among first_named columns_len column_called elements_len form_in integer_of text_of quoted numbered_name digits end_among
record_table_checks = refl

record_plan_checks : first_refusal (packed_checks 1 (block_of record_cards) true) ≡ None
unfolding integer_of logical_of text_of quoted number_behind numbered_name digits end_among
record_plan_checks = refl

record_box : first_refusal (box_checks 1 (cards_of (block_of record_cards)) (box_of axis_sieve)) ≡ None
unfolding integer_of numbered_name digits end_among
record_box = refl

record_checks : first_refusal (cut_hdu_checks record_file (box_of axis_sieve) record_facts) ≡ None
unfolding integer_of
record_checks =
    both_none (packed_card_checks record_facts (block_of record_cards)) (image_checks record_facts (block_of record_cards) true ++ box_checks 1 (cards_of (block_of record_cards)) (box_of axis_sieve)) record_card_checks
    (both_none (image_checks record_facts (block_of record_cards) true) (box_checks 1 (cards_of (block_of record_cards)) (box_of axis_sieve))
    (both_none (table_checks (block_of record_cards) record_facts) (packed_checks 1 (block_of record_cards) true) record_table_checks record_plan_checks) record_box)

record_passes : cut_judge None (box_of axis_sieve) record_file other_first ≡ Ok false
unfolding is_packed
record_passes = refl

record_stops : cut_judge None (box_of axis_sieve) record_file record_facts ≡ Ok true
record_stops =
    ap (λ b. if b then unless_refused true (first_refusal (cut_hdu_checks record_file (box_of axis_sieve) record_facts)) else Ok false) record_packed
    ∙ ap (unless_refused true) record_checks

record_walk : walk_of (cut_judge None (box_of axis_sieve) record_file) 65536 record_file ≡ Ok (other_first ∷ record_facts ∷ [])
record_walk =
    goes_on (cut_judge None (box_of axis_sieve) record_file) 65535 0 0 record_file other_first (Ok (record_facts ∷ [])) record_first record_passes refl
    (stops_at (cut_judge None (box_of axis_sieve) record_file) 65534 1 2880 record_file record_facts record_second record_stops)

record_reached : reached_by (Cut None axis_sieve) record_file ≡ record { hdu = 0; start = 0 } ∷ record { hdu = 1; start = 2880 } ∷ []
unfolding reached_by
record_reached =
    reaches_on (cut_judge None (box_of axis_sieve) record_file) 65535 0 0 record_file other_first (record { hdu = 1; start = 2880 } ∷ []) record_first record_passes refl
    (reaches_last (cut_judge None (box_of axis_sieve) record_file) 65534 1 2880 record_file record_facts record_second record_stops)

record_none : header_fault (Cut None axis_sieve) record_file ≡ None
unfolding job_walk
record_none =
    ap (fault_of_walk (Cut None axis_sieve) record_file) record_walk
    ∙ (λ i. if (is_stop (record_passes i) || (is_stop (record_stops i) || false)) then None else Some (missing_hdu None 2 (length record_file)))

record_heads : (header_range record_file (record { hdu = 0; start = 0 }) ∷ header_range record_file (record { hdu = 1; start = 2880 }) ∷ []) ≡ (0, 2880) ∷ (2880, 2880) ∷ []
unfolding header_touched end_among logical_of
record_heads = refl

record_rows : rows_for (Cut None axis_sieve) record_file (headers_for (Cut None axis_sieve) record_file) ≡ image_row record_facts 0 ∷ []
unfolding job_walk
record_rows =
    ap (λ r. flat_map (picked_rows record_file axis_sieve) (last_of (found_headers r))) record_walk
    ∙ (append-nil (picked_rows record_file axis_sieve record_facts) ∙ (ap (λ p. map (image_row record_facts) (picked_tiles_of p axis_sieve)) record_plan ∙ refl))

record_reads : tile_ranges record_file 1 record_table 0 (tile_of other_plan 0) ≡ (5760, 8) ∷ (5768, 88) ∷ []
unfolding record_of
record_reads = refl

pub record_touched : touched None axis_sieve record_file ≡ record_ranges
record_touched =
    touched_is None axis_sieve record_file (record { hdu = 0; start = 0 } ∷ record { hdu = 1; start = 2880 } ∷ []) ((0, 2880) ∷ (2880, 2880) ∷ []) ((5760, 8) ∷ (5768, 88) ∷ []) record_reached record_heads
    (ap (λ r. rows_touched r (Cut None axis_sieve) record_file) record_none
    ∙ (ap (flat_map (ranges_of_row record_file)) record_rows
    ∙ (append-nil (ranges_of_row record_file (image_row record_facts 0)) ∙ ((λ i. tile_ranges record_file 1 (record_image i) 0 (tile_of (record_plan i) 0)) ∙ record_reads))))
