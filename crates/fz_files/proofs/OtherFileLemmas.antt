-- The file of another packer stands for its image, by the definitions.
use Rattle.std.specs.List.{filter, flat_map, range_with_len}
use Rattle.std.proofs.Common.{◌≡◌, ℕ, zero, suc, ◌<◌, ◌&&◌, true, false, Bool, pos, List, [], ◌∷◌, ◌++◌, map, All, None, Some, Ok, if◌then◌else◌, cond, append-nil, refl, sym, subst, ◌∙◌, ap, arith}
use Rattle.std.proofs.lemmas.List.Elements.{All-cons, All-nil}
use Rattle.std.specs.Fmt.{digits}
use Rattle.fz_base.specs.Refusal.{first_refusal}
use Rattle.fz_bits.specs.Bits.{bits_of, number_bits}
use Rattle.fz_bits.specs.Numbers.{IsNumber}
use Rattle.fz_card.specs.Made.{numbered_name}
use Rattle.fz_card.specs.Naming.{number_behind, plain_name, is_dropped}
use Rattle.fz_card.specs.Quoted.{quoted}
use Rattle.fz_card.specs.Reading.{integer_of, logical_of, text_of}
use Rattle.fz_card.specs.Tables.{renamings, packed_names, own_names}
use Rattle.fz_block.specs.Cards.{end_among, first_among}
use Rattle.fz_block.specs.Checks.{header_blocks_of, header_of, hdu_at, unless_refused, walk_of}
use Rattle.fz_block.specs.Hdus.{cards_of}
use Rattle.fz_block.specs.declared.header.Header.{Header}
use Rattle.fz_block.specs.declared.header.Sort.TheVariants.{BinTable, Primary}
use Rattle.fz_grid.specs.Arrays.{NumberArray}
use Rattle.fz_grid.specs.Grid.{tile}
use Rattle.fz_grid.specs.Region.{lengths_of}
use Rattle.fz_table.specs.Columns.{first_named, columns_len, column_called}
use Rattle.fz_table.specs.Forms.{elements_len, form_in}
use Rattle.fz_table.specs.Records.{record_of}
use Rattle.fz_table.specs.Tables.{table_checks}
use Rattle.fz_table.specs.declared.record.Record.{Record}
use Rattle.fz_table.specs.declared.record.TileColumn.TheVariants as column
use Rattle.fz_table.specs.declared.table.Table.{Table}
use Rattle.fz_tile.specs.Record.{Means}
use Rattle.fz_tile.specs.declared.codec.Codec.TheVariants as codec
use Rattle.fz_tile.specs.declared.coded.Place2.TheVariants as place
use Rattle.fz_checks.specs.JobChecks.{image_checks, unpack_hdu_checks}
use Rattle.fz_checks.specs.Judges.{unpack_judge}
use Rattle.fz_head.specs.Packable.{is_packed}
use Rattle.fz_head.specs.PackedChecks.{packed_checks}
use Rattle.fz_head.specs.PackedPlan.{plan_of_cards}
use Rattle.fz_head.specs.PlainHeader.{plain_header, was_primary}
use Rattle.fz_head.specs.TableChecks.{table_card_checks}
use Rattle.fz_head.specs.declared.plan.Plan.{Plan}
use Rattle.fz_files.specs.declared.job.Job.TheVariants.{Unpack}
use Rattle.fz_files.specs.FirstFault.{IsFirstFault, IsFaultBehind, IsFirstRowFault, all_rows, image_row, rows_of}
use Rattle.fz_files.specs.HandMade.{block_of}
use Rattle.fz_files.specs.OtherFile.{other_cards, other_file, other_heap, other_plan, image_file, image_numbers}
use Rattle.fz_files.specs.Packed.{tiles_in}
use Rattle.fz_files.specs.Restored.{RowStandsFor, IsImageOf, StandsForAs, HdusStandFor, image_bytes, image_table, is_image, is_packed_primary, plan_in, standing}
use Rattle.fz_files.specs.StandsFor.{StandsFor}
use Rattle.fz_files.specs.Walks.{fault_of_walk, found_headers, header_fault, headers_for, job_walk}
use Rattle.fz_files.proofs.CutFileLemmas.{both_none}
use Rattle.fz_files.proofs.TableRows.{RowIsOf, stands_by}
use Rattle.fz_files.proofs.WorkedWalks.{goes_on, ends_with}

-- ---- the headers

-- the header of the primary, and that of the table
abbrev pub first_facts : Header
first_facts = record {
  hdu = 0;
  start = 0;
  cards = 5;
  blocks = 1;
  sort = Primary;
  bitpix = pos 16;
  axes = record { n = 0; len = 0 ∷ 0 ∷ 0 ∷ 0 ∷ 0 ∷ 0 ∷ 0 ∷ 0 ∷ 0 ∷ [] };
  pcount = 0;
  gcount = 1;
  data_len = 0;
}

abbrev other_facts : Header
other_facts = record {
  hdu = 1;
  start = 2880;
  cards = 20;
  blocks = 1;
  sort = BinTable;
  bitpix = pos 8;
  axes = record { n = 2; len = 8 ∷ 1 ∷ 0 ∷ 0 ∷ 0 ∷ 0 ∷ 0 ∷ 0 ∷ 0 ∷ [] };
  pcount = 6;
  gcount = 1;
  data_len = 14;
}

first_at : hdu_at 0 0 other_file ≡ Ok first_facts
unfolding hdu_at header_blocks_of header_of end_among first_among integer_of logical_of text_of quoted
first_at = refl

table_at : hdu_at 1 2880 other_file ≡ Ok other_facts
unfolding hdu_at header_blocks_of header_of end_among first_among integer_of logical_of text_of quoted numbered_name digits
table_at = refl

cards_are : cards_of (block_of other_cards) ≡ other_cards
unfolding end_among
cards_are = refl

pub other_plan_is : plan_of_cards other_cards ≡ other_plan
unfolding plan_of_cards integer_of text_of quoted number_behind numbered_name digits
other_plan_is = refl

plan_is : plan_in other_file other_facts ≡ other_plan
plan_is = ap plan_of_cards cards_are ∙ other_plan_is

-- the table, whose row begins at byte 5760 of the file
abbrev other_table : Table
other_table = record {
  row_bytes = 8;
  rows = 1;
  rows_at = 5760;
  heap_at = 5768;
  heap_len = 6;
  coded = Some (record { at = 0; wide = false; unit = 1 });
  stored = None;
  gzip = None;
}

table_is : image_table other_file other_facts ≡ other_table
unfolding first_among first_named columns_len column_called elements_len form_in integer_of text_of quoted numbered_name digits end_among
table_is = refl

-- ---- the checks

packed : is_packed (block_of other_cards) other_facts ≡ true
unfolding is_packed end_among logical_of
packed = refl

not_packed : is_image other_file first_facts ≡ false
unfolding is_packed
not_packed = refl

card_checks_none : first_refusal (table_card_checks other_facts (block_of other_cards)) ≡ None
unfolding is_packed end_among logical_of number_behind numbered_name digits
card_checks_none = refl

table_checks_none : first_refusal (table_checks (block_of other_cards) other_facts) ≡ None
unfolding first_among first_named columns_len column_called elements_len form_in integer_of text_of quoted numbered_name digits end_among
table_checks_none = refl

plan_checks_none : first_refusal (packed_checks 1 (block_of other_cards) true) ≡ None
unfolding integer_of logical_of text_of quoted number_behind numbered_name digits end_among
plan_checks_none = refl

passes_first : unpack_judge other_file first_facts ≡ Ok false
unfolding is_packed
passes_first = refl

checks_none : first_refusal (unpack_hdu_checks other_file other_facts) ≡ None
unfolding integer_of
checks_none =
    both_none (table_card_checks other_facts (block_of other_cards)) (if is_packed (block_of other_cards) other_facts then image_checks other_facts (block_of other_cards) true else []) card_checks_none
    (ap (λ b. first_refusal (if b then image_checks other_facts (block_of other_cards) true else [])) packed
    ∙ both_none (table_checks (block_of other_cards) other_facts) (packed_checks 1 (block_of other_cards) true) table_checks_none plan_checks_none)

walk_is : walk_of (unpack_judge other_file) 65536 other_file ≡ Ok (first_facts ∷ other_facts ∷ [])
walk_is =
    goes_on (unpack_judge other_file) 65535 0 0 other_file first_facts (Ok (other_facts ∷ [])) first_at passes_first refl
    (ends_with (unpack_judge other_file) 65534 1 2880 other_file other_facts table_at (ap (unless_refused false) checks_none) refl)

no_fault : header_fault Unpack other_file ≡ None
unfolding job_walk
no_fault = ap (fault_of_walk Unpack other_file) walk_is

headers_are : headers_for Unpack other_file ≡ first_facts ∷ other_facts ∷ []
unfolding job_walk
headers_are = ap found_headers walk_is

-- ---- the row

-- the block of the code, with id 1
abbrev block_bits : List Bool
block_bits = false ∷ false ∷ false ∷ false ∷ true ∷ true ∷ true ∷ false ∷ false ∷ false ∷ false ∷ false ∷ false ∷ true ∷ []

pub numbers_16 : All (IsNumber 16) image_numbers
numbers_16 =
    All-cons (IsNumber 16) (pos 1000) (pos 1000 ∷ pos 1003 ∷ []) (omega arith)
    (All-cons (IsNumber 16) (pos 1000) (pos 1003 ∷ []) (omega arith) (All-cons (IsNumber 16) (pos 1003) [] (omega arith) (All-nil (IsNumber 16))))

numbers_32 : All (IsNumber 32) image_numbers
numbers_32 =
    All-cons (IsNumber 32) (pos 1000) (pos 1000 ∷ pos 1003 ∷ []) (omega arith)
    (All-cons (IsNumber 32) (pos 1000) (pos 1003 ∷ []) (omega arith) (All-cons (IsNumber 32) (pos 1003) [] (omega arith) (All-nil (IsNumber 32))))

-- after the code two bits fill
pub means : Means (codec.Rice 32 4) 16 place.Coded 6 other_heap image_numbers
unfolding number_bits bits_of
means = (
  6,
  record {
    code = number_bits 32 1000 ++ block_bits;
    rest = false ∷ false ∷ [];
    is_code = record {
      numbers = numbers_32;
      start = 1000;
      start_fits = omega arith;
      blocks = block_bits;
      are_blocks = (1, [], (omega arith, λ never. absurd omega (arith, never)), refl, refl);
      is = refl;
    };
    is = refl;
    len = refl;
  },
)

abbrev other_array : NumberArray
other_array = record { lengths = 3 ∷ []; numbers = image_numbers }

abbrev first_record : Record
first_record = record { column = column.Coded; start = 5768; total = 6; read = 6 }

row_is : RowIsOf other_file 1 other_plan other_table 0 image_numbers
unfolding record_of
row_is = record {
  found = first_record;
  chosen = refl;
  count = refl;
  means = record { plain = λ never. absurd omega (arith, never); pixels = numbers_16; len = refl; meaning = means };
}

row_stands : RowStandsFor other_file other_facts 0 image_numbers
row_stands = stands_by other_file other_facts other_plan other_table 0 image_numbers plan_is table_is row_is

rows_are : all_rows other_file (first_facts ∷ other_facts ∷ []) ≡ image_row other_facts 0 ∷ []
rows_are =
    ap (λ b. flat_map (rows_of other_file) (cond b (first_facts ∷ filter (is_image other_file) (other_facts ∷ [])) (filter (is_image other_file) (other_facts ∷ [])))) not_packed
    ∙ (ap (λ b. flat_map (rows_of other_file) (cond b (other_facts ∷ []) [])) packed
    ∙ (append-nil (rows_of other_file other_facts)
    ∙ ap (λ p. map (image_row other_facts) (range_with_len 0 (tiles_in p))) plan_is))

is_sound : IsFirstFault Unpack other_file None
is_sound =
    subst (λ r. IsFaultBehind r Unpack other_file None) (sym no_fault)
    (subst (λ hs. IsFirstRowFault other_file (all_rows other_file hs) None) (sym headers_are)
    (subst (λ rows. IsFirstRowFault other_file rows None) (sym rows_are) ((image_numbers, row_stands), tt)))

-- ---- the image

bytes_are : image_bytes other_plan other_cards other_array ≡ image_file
unfolding plain_header plain_name is_dropped renamings packed_names own_names number_behind numbered_name digits integer_of text_of quoted
bytes_are = refl

tile_is : tile other_array (3 ∷ []) 0 ≡ image_numbers
unfolding tile
tile_is = refl

only_tile : (t : ℕ) → t < 1 → RowStandsFor other_file other_facts t (tile other_array (3 ∷ []) t)
only_tile zero less = subst (RowStandsFor other_file other_facts 0) (sym tile_is) row_stands
only_tile (suc t) less = absurd omega (arith, less)

tiles_stand : (t : ℕ) → t < tiles_in (plan_in other_file other_facts) → RowStandsFor other_file other_facts t (tile other_array (lengths_of (plan_in other_file other_facts).tile) t)
tiles_stand t less =
    subst (λ (p : Plan). RowStandsFor other_file other_facts t (tile other_array (lengths_of p.tile) t)) (sym plan_is)
    (only_tile t (subst (λ p. t < tiles_in p) plan_is less))

is_image_of : IsImageOf other_file other_facts image_file
is_image_of = record {
  array = other_array;
  rows = record { lengths = sym (ap (λ (p : Plan). lengths_of p.shape) plan_is); whole = refl; tiles = tiles_stand };
  image = sym ((λ i. image_bytes (plan_is i) (cards_are i) other_array) ∙ bytes_are);
}

was : was_primary other_cards ≡ true
was = refl

stands_alone : standing other_file (first_facts ∷ other_facts ∷ []) ≡ other_facts ∷ []
stands_alone =
    let yes : is_packed_primary other_file other_facts ≡ true = (λ i. packed i && was_primary (cards_are i)) ∙ was in
    ap (λ b. if b then other_facts ∷ [] else first_facts ∷ other_facts ∷ []) yes

pub stands_for : StandsFor other_file image_file
stands_for = record {
  sound = is_sound;
  parts =
      subst (λ hs. HdusStandFor other_file hs image_file) (sym (ap (standing other_file) headers_are ∙ stands_alone))
      (image_file, [], sym (append-nil image_file), subst (λ b. StandsForAs b other_file other_facts image_file) (sym packed) is_image_of, refl);
}
