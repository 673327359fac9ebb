-- The parts of the packed file of `PlainFile`, by the definitions.
use Rattle.std.proofs.Common.{◌≡◌, ℕ, zero, suc, ◌&&◌, ◌||◌, nat_lt, true, false, Bool, ℤ, pos, negsuc, List, [], ◌∷◌, ◌++◌, length, map, Contains, All, Some, None, Ok, if◌then◌else◌, append-nil, refl, sym, subst, ◌∙◌, ap, arith}
use Rattle.std.proofs.lemmas.Bool.Decides.{nat_tests}
use Rattle.std.proofs.lemmas.List.Elements.{All-cons, All-nil}
use Rattle.std.specs.List.{AllByRecursion, flat_map, list_all}
use Rattle.std.specs.Fmt.{digits}
use Rattle.fz_base.specs.Refusal.{first_refusal}
use Rattle.fz_base.specs.declared.fault.Fault.{Fault}
use Rattle.fz_bits.specs.Numbers.{IsNumber}
use Rattle.fz_card.specs.Made.{numbered_name}
use Rattle.fz_card.specs.Naming.{number_behind}
use Rattle.fz_card.specs.Quoted.{quoted}
use Rattle.fz_card.specs.Reading.{integer_of, logical_of, text_of}
use Rattle.fz_block.specs.Cards.{end_among, first_among}
use Rattle.fz_block.specs.Checks.{header_blocks_of, header_of, hdu_at, header_touched, unless_refused, walk_of}
use Rattle.fz_block.specs.Hdus.{cards_of}
use Rattle.fz_block.specs.Walk.{is_stop}
use Rattle.fz_block.specs.declared.header.Header.{Header}
use Rattle.fz_block.specs.declared.header.Sort.TheVariants.{Primary}
use Rattle.fz_grid.specs.Arrays.{NumberArray}
use Rattle.fz_grid.specs.Grid.{tile}
use Rattle.fz_grid.specs.Region.{lengths_of}
use Rattle.fz_grid.specs.declared.sieve.Sieve.{Sieve}
use Rattle.fz_grid.specs.Cutout.{picked_numbers}
use Rattle.fz_table.specs.Columns.{first_named, columns_len, column_called}
use Rattle.fz_table.specs.Forms.{elements_len, form_in}
use Rattle.fz_table.specs.Reads.{tile_ranges}
use Rattle.fz_table.specs.Records.{record_at, record_of}
use Rattle.fz_table.specs.Tables.{table_checks}
use Rattle.fz_table.specs.declared.record.Record.{Record}
use Rattle.fz_table.specs.declared.record.TileColumn.TheVariants as column
use Rattle.fz_table.specs.declared.table.Table.{Table}
use Rattle.fz_checks.specs.JobChecks.{cut_hdu_checks, packed_card_checks, image_checks, box_checks, missing_hdu}
use Rattle.fz_checks.specs.Judges.{cut_judge}
use Rattle.fz_head.specs.Packable.{is_packed}
use Rattle.fz_head.specs.PackedChecks.{packed_checks}
use Rattle.fz_head.specs.PackedPlan.{plan_of_cards}
use Rattle.fz_head.specs.declared.plan.Plan.{Plan}
use Rattle.fz_files.specs.declared.job.Job.TheVariants.{Cut}
use Rattle.fz_files.specs.CutFile.{table_facts, box_sieve, box_numbers, box_ranges, step_sieve, step_numbers, ends_sieve, ends_ranges}
use Rattle.fz_files.specs.Cutout.{AreCutFrom, header_range, ranges_of_row, rows_touched, touched}
use Rattle.fz_files.specs.FirstFault.{image_row, picked_rows, picked_tiles_of, rows_for}
use Rattle.fz_files.specs.HandMade.{block_of}
use Rattle.fz_files.specs.PlainFile.{plain_cards, plain_file, plain_plan}
use Rattle.fz_files.specs.Restored.{RecordMeans, image_table, pixels_of, plan_in, tile_of}
use Rattle.fz_files.specs.Walks.{box_of, fault_of_walk, found_headers, header_fault, headers_for, job_walk, last_of, reached_by, reached_from}
use Rattle.fz_files.proofs.WorkedWalks.{goes_on, reaches_last, reaches_on, stops_at}

-- ---- the headers

-- the header of the empty primary
abbrev pub first_facts : Header
first_facts = record {
  hdu = 0;
  start = 0;
  cards = 4;
  blocks = 1;
  sort = Primary;
  bitpix = pos 8;
  axes = record { n = 0; len = 0 ∷ 0 ∷ 0 ∷ 0 ∷ 0 ∷ 0 ∷ 0 ∷ 0 ∷ 0 ∷ [] };
  pcount = 0;
  gcount = 1;
  data_len = 0;
}

pub first_at : hdu_at 0 0 plain_file ≡ Ok first_facts
unfolding hdu_at header_blocks_of header_of end_among first_among integer_of logical_of text_of quoted
first_at = refl

pub table_at : hdu_at 1 2880 plain_file ≡ Ok table_facts
unfolding hdu_at header_blocks_of header_of end_among first_among integer_of logical_of text_of quoted numbered_name digits
table_at = refl

pub cards_are : cards_of (block_of plain_cards) ≡ plain_cards
unfolding end_among
cards_are = refl

plan_of : plan_of_cards plain_cards ≡ plain_plan
unfolding plan_of_cards integer_of text_of quoted number_behind numbered_name digits
plan_of = refl

pub plan_is : plan_in plain_file table_facts ≡ plain_plan
plan_is = ap plan_of_cards cards_are ∙ plan_of

-- the table, whose rows begin at byte 5760 of the file
abbrev pub plain_table : Table
plain_table = record {
  row_bytes = 16;
  rows = 6;
  rows_at = 5760;
  heap_at = 5856;
  heap_len = 15;
  coded = Some (record { at = 0; wide = false; unit = 1 });
  stored = Some (record { at = 8; wide = false; unit = 1 });
  gzip = None;
}

pub table_is : image_table plain_file table_facts ≡ plain_table
unfolding first_among first_named columns_len column_called elements_len form_in integer_of text_of quoted numbered_name digits end_among
table_is = refl

-- ---- the checks

pub both_none : (xs ys : List (Bool × Fault)) → first_refusal xs ≡ None → first_refusal ys ≡ None → first_refusal (xs ++ ys) ≡ None
both_none [] ys none rest = rest
both_none ((true, fault) ∷ xs) ys none rest = absurd cc
both_none ((false, fault) ∷ xs) ys none rest = both_none xs ys none rest

pub packed : is_packed (block_of plain_cards) table_facts ≡ true
unfolding is_packed end_among logical_of
packed = refl

pub card_checks_none : first_refusal (packed_card_checks table_facts (block_of plain_cards)) ≡ None
unfolding is_packed end_among logical_of number_behind numbered_name digits
card_checks_none = refl

pub table_checks_none : first_refusal (table_checks (block_of plain_cards) table_facts) ≡ None
unfolding first_among first_named columns_len column_called elements_len form_in integer_of text_of quoted numbered_name digits end_among
table_checks_none = refl

pub plan_checks_none : first_refusal (packed_checks 1 (block_of plain_cards) true) ≡ None
unfolding integer_of logical_of text_of quoted number_behind numbered_name digits end_among
plan_checks_none = refl

abbrev pub box_none : (sieve : Sieve) → Type 0
box_none sieve = first_refusal (box_checks 1 (cards_of (block_of plain_cards)) (box_of sieve)) ≡ None

checks_none : (sieve : Sieve) → box_none sieve → first_refusal (cut_hdu_checks plain_file (box_of sieve) table_facts) ≡ None
unfolding integer_of
checks_none sieve box =
    both_none (packed_card_checks table_facts (block_of plain_cards)) (image_checks table_facts (block_of plain_cards) true ++ box_checks 1 (cards_of (block_of plain_cards)) (box_of sieve)) card_checks_none
    (both_none (image_checks table_facts (block_of plain_cards) true) (box_checks 1 (cards_of (block_of plain_cards)) (box_of sieve))
    (both_none (table_checks (block_of plain_cards) table_facts) (packed_checks 1 (block_of plain_cards) true) table_checks_none plan_checks_none) box)

-- ---- the walk

pub passes_first : (sieve : Sieve) → cut_judge None (box_of sieve) plain_file first_facts ≡ Ok false
unfolding is_packed
passes_first sieve = refl

pub stops_behind : (sieve : Sieve) → box_none sieve → cut_judge None (box_of sieve) plain_file table_facts ≡ Ok true
stops_behind sieve box =
    ap (λ b. if b then unless_refused true (first_refusal (cut_hdu_checks plain_file (box_of sieve) table_facts)) else Ok false) packed
    ∙ ap (unless_refused true) (checks_none sieve box)

pub walk_is : (sieve : Sieve) → box_none sieve → walk_of (cut_judge None (box_of sieve) plain_file) 65536 plain_file ≡ Ok (first_facts ∷ table_facts ∷ [])
walk_is sieve box =
    goes_on (cut_judge None (box_of sieve) plain_file) 65535 0 0 plain_file first_facts (Ok (table_facts ∷ [])) first_at (passes_first sieve) refl
    (stops_at (cut_judge None (box_of sieve) plain_file) 65534 1 2880 plain_file table_facts table_at (stops_behind sieve box))

reached_is : (sieve : Sieve) → box_none sieve → reached_from (cut_judge None (box_of sieve) plain_file) 65536 0 0 plain_file ≡ record { hdu = 0; start = 0 } ∷ record { hdu = 1; start = 2880 } ∷ []
reached_is sieve box =
    reaches_on (cut_judge None (box_of sieve) plain_file) 65535 0 0 plain_file first_facts (record { hdu = 1; start = 2880 } ∷ []) first_at (passes_first sieve) refl
    (reaches_last (cut_judge None (box_of sieve) plain_file) 65534 1 2880 plain_file table_facts table_at (stops_behind sieve box))

pub no_fault : (sieve : Sieve) → box_none sieve → header_fault (Cut None sieve) plain_file ≡ None
unfolding job_walk
no_fault sieve box =
    ap (fault_of_walk (Cut None sieve) plain_file) (walk_is sieve box)
    ∙ ap (λ r. if (is_stop (cut_judge None (box_of sieve) plain_file first_facts) || (is_stop r || false)) then None else Some (missing_hdu None 2 (length plain_file))) (stops_behind sieve box)
    ∙ ap (λ r. if (is_stop r || true) then None else Some (missing_hdu None 2 (length plain_file))) (passes_first sieve)

-- ---- what is read

-- what the rows of some tiles touch, by the plan and the table
abbrev pub ranges_of : Plan → Table → List ℕ → List (ℕ × ℕ)
ranges_of p t rows = flat_map (λ row. tile_ranges plain_file 1 t row (tile_of p row)) rows

headers_touched : (header_range plain_file (record { hdu = 0; start = 0 }) ∷ header_range plain_file (record { hdu = 1; start = 2880 }) ∷ []) ≡ (0, 2880) ∷ (2880, 2880) ∷ []
unfolding header_touched end_among logical_of
headers_touched = refl

pub rows_are : (sieve : Sieve) (rows : List ℕ) → box_none sieve → picked_tiles_of plain_plan sieve ≡ rows →
    rows_for (Cut None sieve) plain_file (headers_for (Cut None sieve) plain_file) ≡ map (image_row table_facts) rows
unfolding job_walk
rows_are sieve rows box is =
    ap (λ r. flat_map (picked_rows plain_file sieve) (last_of (found_headers r))) (walk_is sieve box)
    ∙ (append-nil (picked_rows plain_file sieve table_facts)
    ∙ (ap (λ p. map (image_row table_facts) (picked_tiles_of p sieve)) plan_is ∙ ap (map (image_row table_facts)) is))

touched_is : (sieve : Sieve) (rows : List ℕ) → box_none sieve → picked_tiles_of plain_plan sieve ≡ rows →
    touched None sieve plain_file ≡ ((0, 2880) ∷ (2880, 2880) ∷ []) ++ flat_map (ranges_of_row plain_file) (map (image_row table_facts) rows)
unfolding touched reached_by
touched_is sieve rows box is =
    let heads : map (header_range plain_file) (reached_by (Cut None sieve) plain_file) ≡ (0, 2880) ∷ (2880, 2880) ∷ [] =
    ap (map (header_range plain_file)) (reached_is sieve box) ∙ headers_touched in
    let behind : rows_touched (header_fault (Cut None sieve) plain_file) (Cut None sieve) plain_file ≡ flat_map (ranges_of_row plain_file) (map (image_row table_facts) rows) =
    ap (λ r. rows_touched r (Cut None sieve) plain_file) (no_fault sieve box) ∙ ap (flat_map (ranges_of_row plain_file)) (rows_are sieve rows box is) in
    λ i. heads i ++ behind i

pub box_box : box_none box_sieve
unfolding integer_of numbered_name digits end_among
box_box = refl

pub box_tiles : picked_tiles_of plain_plan box_sieve ≡ 0 ∷ 1 ∷ 3 ∷ 4 ∷ []
box_tiles = refl

ends_box : box_none ends_sieve
unfolding integer_of numbered_name digits end_among
ends_box = refl

ends_tiles : picked_tiles_of plain_plan ends_sieve ≡ 0 ∷ 2 ∷ []
ends_tiles = refl

box_rows_touch : ranges_of plain_plan plain_table (0 ∷ 1 ∷ 3 ∷ 4 ∷ []) ≡
    (5760, 8) ∷ (5768, 8) ∷ (5856, 4) ∷ (5776, 8) ∷ (5784, 8) ∷ (5860, 4) ∷ (5808, 8) ∷ (5816, 8) ∷ (5866, 2) ∷ (5824, 8) ∷ (5832, 8) ∷ (5868, 2) ∷ []
unfolding record_of
box_rows_touch = refl

ends_rows_touch : ranges_of plain_plan plain_table (0 ∷ 2 ∷ []) ≡ (5760, 8) ∷ (5768, 8) ∷ (5856, 4) ∷ (5792, 8) ∷ (5800, 8) ∷ (5864, 2) ∷ []
unfolding record_of
ends_rows_touch = refl

by_plan : (rows : List ℕ) → ranges_of (plan_in plain_file table_facts) (image_table plain_file table_facts) rows ≡ ranges_of plain_plan plain_table rows
by_plan rows = λ i. ranges_of (plan_is i) (table_is i) rows

pub box_touches : touched None box_sieve plain_file ≡ box_ranges
box_touches =
    touched_is box_sieve (0 ∷ 1 ∷ 3 ∷ 4 ∷ []) box_box box_tiles
    ∙ ap (λ l. ((0, 2880) ∷ (2880, 2880) ∷ []) ++ l) (by_plan (0 ∷ 1 ∷ 3 ∷ 4 ∷ []) ∙ box_rows_touch)

pub ends_touch : touched None ends_sieve plain_file ≡ ends_ranges
ends_touch =
    touched_is ends_sieve (0 ∷ 2 ∷ []) ends_box ends_tiles
    ∙ ap (λ l. ((0, 2880) ∷ (2880, 2880) ∷ []) ++ l) (by_plan (0 ∷ 2 ∷ []) ∙ ends_rows_touch)

-- ---- the pixels

-- the image
abbrev pub grid_array : NumberArray
grid_array = record {
  lengths = 5 ∷ 3 ∷ [];
  numbers =
      pos 1 ∷ pos 2 ∷ pos 3 ∷ pos 4 ∷ pos 5 ∷ pos 6 ∷ pos 7 ∷ pos 8 ∷ pos 9 ∷ pos 10 ∷ pos 11 ∷ pos 12 ∷ pos 13 ∷ pos 14 ∷ pos 15 ∷ [];
}

-- a row that stands for these pixels, by the plan and the table
pub record RowIs (p : Plan) (t : Table) (row : ℕ) (xs : List ℤ) : Type 0 where
  pub found : Record
  pub chosen : record_at plain_file 1 t row (tile_of p row) ≡ Ok found
  pub count : length xs ≡ pixels_of p row
  pub means : RecordMeans plain_file p found xs

-- the record of a tile that stands in the heap as so many bytes from here on
abbrev pub stored_at : ℕ → ℕ → Record
stored_at start len = record { column = column.Stored; start = start; total = len; read = len }

-- numbers from 0 to 255
abbrev is_byte : ℤ → Bool
is_byte (pos n) = nat_lt n 256
is_byte (negsuc n) = false

number_is : (x : ℤ) → is_byte x ≡ true → IsNumber 8 x
number_is (pos n) e = grind (arith, nat_tests, e)
number_is (negsuc n) e = absurd cc

first_true : (a b : Bool) → (a && b) ≡ true → a ≡ true
first_true true b e = refl
first_true false b e = absurd cc

second_true : (a b : Bool) → (a && b) ≡ true → b ≡ true
second_true true b e = e
second_true false b e = absurd cc

pub numbers_are : (xs : List ℤ) → list_all is_byte xs ≡ true → All (IsNumber 8) xs
numbers_are [] e = All-nil (IsNumber 8)
numbers_are (x ∷ xs) e = All-cons (IsNumber 8) x xs (number_is x (first_true (is_byte x) (list_all is_byte xs) e)) (numbers_are xs (second_true (is_byte x) (list_all is_byte xs) e))

abbrev pub tile_of_grid : ℕ → List ℤ
tile_of_grid t = tile grid_array (2 ∷ 2 ∷ []) t

pub row_0 : RowIs plain_plan plain_table 0 (tile_of_grid 0)
unfolding record_of tile
row_0 = record { found = stored_at 5856 4; chosen = refl; count = refl; means = record { plain = λ never. refl; pixels = numbers_are (tile_of_grid 0) refl; len = refl; meaning = (refl, refl) } }

pub row_1 : RowIs plain_plan plain_table 1 (tile_of_grid 1)
unfolding record_of tile
row_1 = record { found = stored_at 5860 4; chosen = refl; count = refl; means = record { plain = λ never. refl; pixels = numbers_are (tile_of_grid 1) refl; len = refl; meaning = (refl, refl) } }

pub row_2 : RowIs plain_plan plain_table 2 (tile_of_grid 2)
unfolding record_of tile
row_2 = record { found = stored_at 5864 2; chosen = refl; count = refl; means = record { plain = λ never. refl; pixels = numbers_are (tile_of_grid 2) refl; len = refl; meaning = (refl, refl) } }

pub row_3 : RowIs plain_plan plain_table 3 (tile_of_grid 3)
unfolding record_of tile
row_3 = record { found = stored_at 5866 2; chosen = refl; count = refl; means = record { plain = λ never. refl; pixels = numbers_are (tile_of_grid 3) refl; len = refl; meaning = (refl, refl) } }

pub row_4 : RowIs plain_plan plain_table 4 (tile_of_grid 4)
unfolding record_of tile
row_4 = record { found = stored_at 5868 2; chosen = refl; count = refl; means = record { plain = λ never. refl; pixels = numbers_are (tile_of_grid 4) refl; len = refl; meaning = (refl, refl) } }

pub row_5 : RowIs plain_plan plain_table 5 (tile_of_grid 5)
unfolding record_of tile
row_5 = record { found = stored_at 5870 1; chosen = refl; count = refl; means = record { plain = λ never. refl; pixels = numbers_are (tile_of_grid 5) refl; len = refl; meaning = (refl, refl) } }

-- what holds of each element of a list
contained : (P : ℕ → Type 0) (xs : List ℕ) (t : ℕ) → AllByRecursion P xs → Contains xs t → P t
contained P [] t each (k, less, is) = absurd omega (arith, less)
contained P (x ∷ xs) t each (zero, less, is) = subst P is each.0
contained P (x ∷ xs) t each (suc k, less, is) = contained P xs t each.1 (k, omega (arith, less), is)

-- the rows of the tiles that hold a pick, by the plan and the table
abbrev PickedAre : Plan → Table → Sieve → Type 0
PickedAre p t sieve = (row : ℕ) → Contains (picked_tiles_of p sieve) row → RowIs p t row (tile grid_array (lengths_of p.tile) row)

picked_are : (sieve : Sieve) (rows : List ℕ) → picked_tiles_of plain_plan sieve ≡ rows → AllByRecursion (λ row. RowIs plain_plan plain_table row (tile_of_grid row)) rows →
    PickedAre (plan_in plain_file table_facts) (image_table plain_file table_facts) sieve
picked_are sieve rows is each =
    subst (λ p. PickedAre p (image_table plain_file table_facts) sieve) (sym plan_is)
    (subst (λ t. PickedAre plain_plan t sieve) (sym table_is)
    (λ row here. contained (λ row. RowIs plain_plan plain_table row (tile_of_grid row)) rows row each (subst (λ l. Contains l row) is here)))

cut_from : (sieve : Sieve) (rows : List ℕ) (numbers : List ℤ) → picked_tiles_of plain_plan sieve ≡ rows → AllByRecursion (λ row. RowIs plain_plan plain_table row (tile_of_grid row)) rows →
    numbers ≡ picked_numbers grid_array sieve → AreCutFrom plain_file table_facts sieve numbers
cut_from sieve rows numbers is each picked =
    let are : PickedAre (plan_in plain_file table_facts) (image_table plain_file table_facts) sieve = picked_are sieve rows is each in
    record {
      array = grid_array;
      rows = record {
        lengths = sym (ap (λ (p : Plan). lengths_of p.shape) plan_is);
        whole = refl;
        tiles = λ row here. let r = are row here in record { found = r.found; chosen = r.chosen; count = r.count; means = r.means };
      };
      picked = picked;
    }

pub box_is : AreCutFrom plain_file table_facts box_sieve box_numbers
box_is = cut_from box_sieve (0 ∷ 1 ∷ 3 ∷ 4 ∷ []) box_numbers box_tiles (row_0, (row_1, (row_3, (row_4, tt)))) refl

step_tiles : picked_tiles_of plain_plan step_sieve ≡ 0 ∷ 1 ∷ 2 ∷ 3 ∷ 4 ∷ 5 ∷ []
step_tiles = refl

pub steps_are : AreCutFrom plain_file table_facts step_sieve step_numbers
steps_are = cut_from step_sieve (0 ∷ 1 ∷ 2 ∷ 3 ∷ 4 ∷ 5 ∷ []) step_numbers step_tiles (row_0, (row_1, (row_2, (row_3, (row_4, (row_5, tt)))))) refl
