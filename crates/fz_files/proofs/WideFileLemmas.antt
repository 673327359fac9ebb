-- The file with descriptors of 64 bits stands for its image, by the definitions.
use Rattle.std.specs.List.{filter, flat_map, range_with_len}
use Rattle.std.proofs.Common.{◌≡◌, ℕ, zero, suc, ◌<◌, ◌&&◌, true, false, pos, [], ◌∷◌, map, None, Some, Ok, if◌then◌else◌, cond, append-nil, refl, sym, subst, ◌∙◌, ap, arith, ◌||◌, length, ◌++◌}
use Rattle.std.specs.Fmt.{digits}
use Rattle.fz_base.specs.Refusal.{first_refusal}
use Rattle.fz_card.specs.Made.{numbered_name}
use Rattle.fz_card.specs.Naming.{number_behind, plain_name, is_dropped}
use Rattle.fz_card.specs.Quoted.{quoted}
use Rattle.fz_card.specs.Reading.{integer_of, logical_of, text_of}
use Rattle.fz_card.specs.Tables.{renamings, packed_names, own_names}
use Rattle.fz_block.specs.Cards.{end_among, first_among}
use Rattle.fz_block.specs.Checks.{header_blocks_of, header_of, hdu_at, unless_refused, walk_of, header_touched}
use Rattle.fz_block.specs.Hdus.{cards_of}
use Rattle.fz_block.specs.declared.header.Header.{Header}
use Rattle.fz_block.specs.declared.header.Sort.TheVariants.{BinTable}
use Rattle.fz_grid.specs.Arrays.{NumberArray}
use Rattle.fz_grid.specs.Grid.{tile}
use Rattle.fz_grid.specs.Region.{lengths_of}
use Rattle.fz_table.specs.Columns.{first_named, columns_len, column_called}
use Rattle.fz_table.specs.Forms.{elements_len, form_in}
use Rattle.fz_table.specs.Reads.{tile_ranges}
use Rattle.fz_table.specs.Records.{record_of}
use Rattle.fz_table.specs.Tables.{table_checks}
use Rattle.fz_table.specs.declared.record.Record.{Record}
use Rattle.fz_table.specs.declared.record.TileColumn.TheVariants as column
use Rattle.fz_table.specs.declared.table.Table.{Table}
use Rattle.fz_checks.specs.JobChecks.{box_checks, cut_hdu_checks, image_checks, missing_hdu, packed_card_checks, unpack_hdu_checks}
use Rattle.fz_checks.specs.Judges.{cut_judge, unpack_judge}
use Rattle.fz_head.specs.Packable.{is_packed}
use Rattle.fz_head.specs.PackedChecks.{packed_checks}
use Rattle.fz_head.specs.PackedPlan.{plan_of_cards}
use Rattle.fz_head.specs.PlainHeader.{plain_header, was_primary}
use Rattle.fz_head.specs.TableChecks.{table_card_checks}
use Rattle.fz_head.specs.declared.plan.Plan.{Plan}
use Rattle.fz_files.specs.declared.job.Job.TheVariants.{Unpack, Cut}
use Rattle.fz_files.specs.CutEnds.{axis_sieve}
use Rattle.fz_files.specs.Cutout.{header_range, ranges_of_row, rows_touched, touched}
use Rattle.fz_files.specs.FirstFault.{IsFirstFault, IsFaultBehind, IsFirstRowFault, all_rows, image_row, rows_of, picked_rows, picked_tiles_of, rows_for}
use Rattle.fz_files.specs.HandMade.{block_of}
use Rattle.fz_files.specs.OtherFile.{other_plan, image_numbers}
use Rattle.fz_files.specs.WideFile.{narrow_file, wide_cards, wide_file, wide_ranges}
use Rattle.fz_files.specs.Packed.{tiles_in}
use Rattle.fz_files.specs.Restored.{RowStandsFor, IsImageOf, StandsForAs, HdusStandFor, image_bytes, image_table, is_image, is_packed_primary, plan_in, standing, tile_of}
use Rattle.fz_files.specs.StandsFor.{StandsFor}
use Rattle.fz_files.specs.Walks.{fault_of_walk, found_headers, header_fault, headers_for, job_walk, box_of, last_of, reached_by}
use Rattle.fz_block.specs.Walk.{is_stop}
use Rattle.fz_files.proofs.CutEndsLemmas.{touched_is}
use Rattle.fz_files.proofs.CutFileLemmas.{both_none, first_facts}
use Rattle.fz_files.proofs.OtherFileLemmas.{means, numbers_16}
use Rattle.fz_files.proofs.TableRows.{RowIsOf, stands_by}
use Rattle.fz_files.proofs.WorkedWalks.{goes_on, ends_with, reaches_last, reaches_on, stops_at}

-- ---- the headers

-- the header of the table
abbrev wide_facts : Header
wide_facts = record {
  hdu = 1;
  start = 2880;
  cards = 16;
  blocks = 1;
  sort = BinTable;
  bitpix = pos 8;
  axes = record { n = 2; len = 16 ∷ 1 ∷ 0 ∷ 0 ∷ 0 ∷ 0 ∷ 0 ∷ 0 ∷ 0 ∷ [] };
  pcount = 6;
  gcount = 1;
  data_len = 22;
}

first_at : hdu_at 0 0 wide_file ≡ Ok first_facts
unfolding hdu_at header_blocks_of header_of end_among first_among integer_of logical_of text_of quoted
first_at = refl

table_at : hdu_at 1 2880 wide_file ≡ Ok wide_facts
unfolding hdu_at header_blocks_of header_of end_among first_among integer_of logical_of text_of quoted numbered_name digits
table_at = refl

cards_are : cards_of (block_of wide_cards) ≡ wide_cards
unfolding end_among
cards_are = refl

wide_plan_is : plan_of_cards wide_cards ≡ other_plan
unfolding plan_of_cards integer_of text_of quoted number_behind numbered_name digits
wide_plan_is = refl

plan_is : plan_in wide_file wide_facts ≡ other_plan
plan_is = ap plan_of_cards cards_are ∙ wide_plan_is

-- the table, whose row begins at byte 5760 of the file
abbrev wide_table : Table
wide_table = record {
  row_bytes = 16;
  rows = 1;
  rows_at = 5760;
  heap_at = 5776;
  heap_len = 6;
  coded = Some (record { at = 0; wide = true; unit = 1 });
  stored = None;
  gzip = None;
}

table_is : image_table wide_file wide_facts ≡ wide_table
unfolding first_among first_named columns_len column_called elements_len form_in integer_of text_of quoted numbered_name digits end_among
table_is = refl

-- ---- the checks

packed : is_packed (block_of wide_cards) wide_facts ≡ true
unfolding is_packed end_among logical_of
packed = refl

not_packed : is_image wide_file first_facts ≡ false
unfolding is_packed
not_packed = refl

card_checks_none : first_refusal (table_card_checks wide_facts (block_of wide_cards)) ≡ None
unfolding is_packed end_among logical_of number_behind numbered_name digits
card_checks_none = refl

table_checks_none : first_refusal (table_checks (block_of wide_cards) wide_facts) ≡ None
unfolding first_among first_named columns_len column_called elements_len form_in integer_of text_of quoted numbered_name digits end_among
table_checks_none = refl

plan_checks_none : first_refusal (packed_checks 1 (block_of wide_cards) true) ≡ None
unfolding integer_of logical_of text_of quoted number_behind numbered_name digits end_among
plan_checks_none = refl

passes_first : unpack_judge wide_file first_facts ≡ Ok false
unfolding is_packed
passes_first = refl

checks_none : first_refusal (unpack_hdu_checks wide_file wide_facts) ≡ None
unfolding integer_of
checks_none =
    both_none (table_card_checks wide_facts (block_of wide_cards)) (if is_packed (block_of wide_cards) wide_facts then image_checks wide_facts (block_of wide_cards) true else []) card_checks_none
    (ap (λ b. first_refusal (if b then image_checks wide_facts (block_of wide_cards) true else [])) packed
    ∙ both_none (table_checks (block_of wide_cards) wide_facts) (packed_checks 1 (block_of wide_cards) true) table_checks_none plan_checks_none)

walk_is : walk_of (unpack_judge wide_file) 65536 wide_file ≡ Ok (first_facts ∷ wide_facts ∷ [])
walk_is =
    goes_on (unpack_judge wide_file) 65535 0 0 wide_file first_facts (Ok (wide_facts ∷ [])) first_at passes_first refl
    (ends_with (unpack_judge wide_file) 65534 1 2880 wide_file wide_facts table_at (ap (unless_refused false) checks_none) refl)

no_fault : header_fault Unpack wide_file ≡ None
unfolding job_walk
no_fault = ap (fault_of_walk Unpack wide_file) walk_is

headers_are : headers_for Unpack wide_file ≡ first_facts ∷ wide_facts ∷ []
unfolding job_walk
headers_are = ap found_headers walk_is

-- ---- the row

abbrev other_array : NumberArray
other_array = record { lengths = 3 ∷ []; numbers = image_numbers }

abbrev first_record : Record
first_record = record { column = column.Coded; start = 5776; total = 6; read = 6 }

row_is : RowIsOf wide_file 1 other_plan wide_table 0 image_numbers
unfolding record_of
row_is = record {
  found = first_record;
  chosen = refl;
  count = refl;
  means = record { plain = λ never. absurd omega (arith, never); pixels = numbers_16; len = refl; meaning = means };
}

row_stands : RowStandsFor wide_file wide_facts 0 image_numbers
row_stands = stands_by wide_file wide_facts other_plan wide_table 0 image_numbers plan_is table_is row_is

rows_are : all_rows wide_file (first_facts ∷ wide_facts ∷ []) ≡ image_row wide_facts 0 ∷ []
rows_are =
    ap (λ b. flat_map (rows_of wide_file) (cond b (first_facts ∷ filter (is_image wide_file) (wide_facts ∷ [])) (filter (is_image wide_file) (wide_facts ∷ [])))) not_packed
    ∙ (ap (λ b. flat_map (rows_of wide_file) (cond b (wide_facts ∷ []) [])) packed
    ∙ (append-nil (rows_of wide_file wide_facts)
    ∙ ap (λ p. map (image_row wide_facts) (range_with_len 0 (tiles_in p))) plan_is))

is_sound : IsFirstFault Unpack wide_file None
is_sound =
    subst (λ r. IsFaultBehind r Unpack wide_file None) (sym no_fault)
    (subst (λ hs. IsFirstRowFault wide_file (all_rows wide_file hs) None) (sym headers_are)
    (subst (λ rows. IsFirstRowFault wide_file rows None) (sym rows_are) ((image_numbers, row_stands), tt)))

-- ---- the image

bytes_are : image_bytes other_plan wide_cards other_array ≡ narrow_file
unfolding plain_header plain_name is_dropped renamings packed_names own_names number_behind numbered_name digits integer_of text_of quoted
bytes_are = refl

tile_is : tile other_array (3 ∷ []) 0 ≡ image_numbers
unfolding tile
tile_is = refl

only_tile : (t : ℕ) → t < 1 → RowStandsFor wide_file wide_facts t (tile other_array (3 ∷ []) t)
only_tile zero less = subst (RowStandsFor wide_file wide_facts 0) (sym tile_is) row_stands
only_tile (suc t) less = absurd omega (arith, less)

tiles_stand : (t : ℕ) → t < tiles_in (plan_in wide_file wide_facts) → RowStandsFor wide_file wide_facts t (tile other_array (lengths_of (plan_in wide_file wide_facts).tile) t)
tiles_stand t less =
    subst (λ (p : Plan). RowStandsFor wide_file wide_facts t (tile other_array (lengths_of p.tile) t)) (sym plan_is)
    (only_tile t (subst (λ p. t < tiles_in p) plan_is less))

is_image_of : IsImageOf wide_file wide_facts narrow_file
is_image_of = record {
  array = other_array;
  rows = record { lengths = sym (ap (λ (p : Plan). lengths_of p.shape) plan_is); whole = refl; tiles = tiles_stand };
  image = sym ((λ i. image_bytes (plan_is i) (cards_are i) other_array) ∙ bytes_are);
}

was : was_primary wide_cards ≡ true
was = refl

stands_alone : standing wide_file (first_facts ∷ wide_facts ∷ []) ≡ wide_facts ∷ []
stands_alone =
    let yes : is_packed_primary wide_file wide_facts ≡ true = (λ i. packed i && was_primary (cards_are i)) ∙ was in
    ap (λ b. if b then wide_facts ∷ [] else first_facts ∷ wide_facts ∷ []) yes

pub stands_for : StandsFor wide_file narrow_file
stands_for = record {
  sound = is_sound;
  parts =
      subst (λ hs. HdusStandFor wide_file hs narrow_file) (sym (ap (standing wide_file) headers_are ∙ stands_alone))
      (narrow_file, [], sym (append-nil narrow_file), subst (λ b. StandsForAs b wide_file wide_facts narrow_file) (sym packed) is_image_of, refl);
}

-- ---- a cut

cut_card_checks : first_refusal (packed_card_checks wide_facts (block_of wide_cards)) ≡ None
unfolding is_packed end_among logical_of number_behind numbered_name digits
cut_card_checks = refl

cut_box : first_refusal (box_checks 1 (cards_of (block_of wide_cards)) (box_of axis_sieve)) ≡ None
unfolding integer_of numbered_name digits end_among
cut_box = refl

cut_checks_none : first_refusal (cut_hdu_checks wide_file (box_of axis_sieve) wide_facts) ≡ None
unfolding integer_of
cut_checks_none =
    both_none (packed_card_checks wide_facts (block_of wide_cards)) (image_checks wide_facts (block_of wide_cards) true ++ box_checks 1 (cards_of (block_of wide_cards)) (box_of axis_sieve)) cut_card_checks
    (both_none (image_checks wide_facts (block_of wide_cards) true) (box_checks 1 (cards_of (block_of wide_cards)) (box_of axis_sieve))
    (both_none (table_checks (block_of wide_cards) wide_facts) (packed_checks 1 (block_of wide_cards) true) table_checks_none plan_checks_none) cut_box)

cut_passes : cut_judge None (box_of axis_sieve) wide_file first_facts ≡ Ok false
unfolding is_packed
cut_passes = refl

cut_stops : cut_judge None (box_of axis_sieve) wide_file wide_facts ≡ Ok true
cut_stops =
    ap (λ b. if b then unless_refused true (first_refusal (cut_hdu_checks wide_file (box_of axis_sieve) wide_facts)) else Ok false) packed
    ∙ ap (unless_refused true) cut_checks_none

cut_walk : walk_of (cut_judge None (box_of axis_sieve) wide_file) 65536 wide_file ≡ Ok (first_facts ∷ wide_facts ∷ [])
cut_walk =
    goes_on (cut_judge None (box_of axis_sieve) wide_file) 65535 0 0 wide_file first_facts (Ok (wide_facts ∷ [])) first_at cut_passes refl
    (stops_at (cut_judge None (box_of axis_sieve) wide_file) 65534 1 2880 wide_file wide_facts table_at cut_stops)

cut_reached : reached_by (Cut None axis_sieve) wide_file ≡ record { hdu = 0; start = 0 } ∷ record { hdu = 1; start = 2880 } ∷ []
unfolding reached_by
cut_reached =
    reaches_on (cut_judge None (box_of axis_sieve) wide_file) 65535 0 0 wide_file first_facts (record { hdu = 1; start = 2880 } ∷ []) first_at cut_passes refl
    (reaches_last (cut_judge None (box_of axis_sieve) wide_file) 65534 1 2880 wide_file wide_facts table_at cut_stops)

cut_none : header_fault (Cut None axis_sieve) wide_file ≡ None
unfolding job_walk
cut_none =
    ap (fault_of_walk (Cut None axis_sieve) wide_file) cut_walk
    ∙ (λ i. if (is_stop (cut_passes i) || (is_stop (cut_stops i) || false)) then None else Some (missing_hdu None 2 (length wide_file)))

cut_heads : (header_range wide_file (record { hdu = 0; start = 0 }) ∷ header_range wide_file (record { hdu = 1; start = 2880 }) ∷ []) ≡ (0, 2880) ∷ (2880, 2880) ∷ []
unfolding header_touched end_among logical_of
cut_heads = refl

cut_rows : rows_for (Cut None axis_sieve) wide_file (headers_for (Cut None axis_sieve) wide_file) ≡ image_row wide_facts 0 ∷ []
unfolding job_walk
cut_rows =
    ap (λ r. flat_map (picked_rows wide_file axis_sieve) (last_of (found_headers r))) cut_walk
    ∙ (append-nil (picked_rows wide_file axis_sieve wide_facts) ∙ (ap (λ p. map (image_row wide_facts) (picked_tiles_of p axis_sieve)) plan_is ∙ refl))

cut_reads : tile_ranges wide_file 1 wide_table 0 (tile_of other_plan 0) ≡ (5760, 16) ∷ (5776, 6) ∷ []
unfolding record_of
cut_reads = refl

pub wide_touched : touched None axis_sieve wide_file ≡ wide_ranges
wide_touched =
    touched_is None axis_sieve wide_file (record { hdu = 0; start = 0 } ∷ record { hdu = 1; start = 2880 } ∷ []) ((0, 2880) ∷ (2880, 2880) ∷ []) ((5760, 16) ∷ (5776, 6) ∷ []) cut_reached cut_heads
    (ap (λ r. rows_touched r (Cut None axis_sieve) wide_file) cut_none
    ∙ (ap (flat_map (ranges_of_row wide_file)) cut_rows
    ∙ (append-nil (ranges_of_row wide_file (image_row wide_facts 0)) ∙ ((λ i. tile_ranges wide_file 1 (table_is i) 0 (tile_of (plan_is i) 0)) ∙ cut_reads))))
