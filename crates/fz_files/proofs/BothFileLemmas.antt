-- A row with a code and with pixels is read by its code, by the definitions.
use Rattle.std.proofs.Common.{◌≡◌, ℕ, true, false, Bool, pos, List, [], ◌∷◌, ◌++◌, map, All, None, Some, Ok, if◌then◌else◌, cond, append-nil, refl, sym, subst, ◌∙◌, ap, arith}
use Rattle.std.proofs.lemmas.List.Elements.{All-cons, All-nil}
use Rattle.std.specs.Fmt.{digits}
use Rattle.std.specs.List.{filter, flat_map, range_with_len}
use Rattle.fz_base.specs.Refusal.{first_refusal}
use Rattle.fz_bits.specs.Bits.{bits_of, number_bits}
use Rattle.fz_bits.specs.Numbers.{IsNumber}
use Rattle.fz_card.specs.Made.{numbered_name}
use Rattle.fz_card.specs.Naming.{number_behind}
use Rattle.fz_card.specs.Quoted.{quoted}
use Rattle.fz_card.specs.Reading.{integer_of, logical_of, text_of}
use Rattle.fz_block.specs.Cards.{end_among, first_among}
use Rattle.fz_block.specs.Checks.{header_blocks_of, header_of, hdu_at, unless_refused, walk_of}
use Rattle.fz_block.specs.declared.header.Header.{Header}
use Rattle.fz_block.specs.declared.header.Sort.TheVariants.{BinTable}
use Rattle.fz_table.specs.Columns.{first_named, columns_len, column_called}
use Rattle.fz_table.specs.Forms.{elements_len, form_in}
use Rattle.fz_table.specs.Records.{record_of}
use Rattle.fz_table.specs.Tables.{table_checks}
use Rattle.fz_table.specs.declared.record.Record.{Record}
use Rattle.fz_table.specs.declared.record.TileColumn.TheVariants as column
use Rattle.fz_table.specs.declared.table.Table.{Table}
use Rattle.fz_tile.specs.Record.{Means}
use Rattle.fz_tile.specs.declared.codec.Codec.TheVariants as codec
use Rattle.fz_tile.specs.declared.coded.Place2.TheVariants as place
use Rattle.fz_checks.specs.JobChecks.{image_checks, unpack_hdu_checks}
use Rattle.fz_checks.specs.Judges.{unpack_judge}
use Rattle.fz_head.specs.Packable.{is_packed}
use Rattle.fz_head.specs.PackedChecks.{packed_checks}
use Rattle.fz_head.specs.PackedPlan.{plan_of_cards}
use Rattle.fz_head.specs.TableChecks.{table_card_checks}
use Rattle.fz_files.specs.declared.job.Job.TheVariants.{Unpack}
use Rattle.fz_files.specs.FaultPlaces.{both_file, both_pixels}
use Rattle.fz_files.specs.FirstFault.{IsFirstFault, IsFaultBehind, IsFirstRowFault, all_rows, image_row, rows_of}
use Rattle.fz_files.specs.HandMade.{block_of}
use Rattle.fz_files.specs.Packed.{tiles_in}
use Rattle.fz_files.specs.Restored.{RowStandsFor, image_table, is_image, plan_in}
use Rattle.fz_files.specs.RiceFile.{rice_cards, rice_plan, row_code}
use Rattle.fz_files.specs.Walks.{fault_of_walk, found_headers, header_fault, headers_for, job_walk}
use Rattle.fz_files.proofs.CutFileLemmas.{both_none, first_facts}
use Rattle.fz_files.proofs.TableRows.{RowIsOf, stands_by}
use Rattle.fz_files.proofs.WorkedWalks.{ends_with, goes_on}

-- ---- the headers

abbrev rice_facts : Header
rice_facts = record {
  hdu = 1;
  start = 2880;
  cards = 25;
  blocks = 1;
  sort = BinTable;
  bitpix = pos 8;
  axes = record { n = 2; len = 16 ∷ 2 ∷ 0 ∷ 0 ∷ 0 ∷ 0 ∷ 0 ∷ 0 ∷ 0 ∷ [] };
  pcount = 8;
  gcount = 1;
  data_len = 40;
}

abbrev rice_table : Table
rice_table = record {
  row_bytes = 16;
  rows = 2;
  rows_at = 5760;
  heap_at = 5792;
  heap_len = 8;
  coded = Some (record { at = 0; wide = false; unit = 1 });
  stored = Some (record { at = 8; wide = false; unit = 2 });
  gzip = None;
}

first_at : hdu_at 0 0 both_file ≡ Ok first_facts
unfolding hdu_at header_blocks_of header_of end_among first_among integer_of logical_of text_of quoted
first_at = refl

table_at : hdu_at 1 2880 both_file ≡ Ok rice_facts
unfolding hdu_at header_blocks_of header_of end_among first_among integer_of logical_of text_of quoted numbered_name digits
table_at = refl

plan_is : plan_in both_file rice_facts ≡ rice_plan
unfolding plan_of_cards integer_of text_of quoted number_behind numbered_name digits end_among
plan_is = refl

table_is : image_table both_file rice_facts ≡ rice_table
unfolding first_among first_named columns_len column_called elements_len form_in integer_of text_of quoted numbered_name digits end_among
table_is = refl

packed : is_packed (block_of rice_cards) rice_facts ≡ true
unfolding is_packed end_among logical_of
packed = refl

not_packed : is_image both_file first_facts ≡ false
unfolding is_packed
not_packed = refl

card_checks_none : first_refusal (table_card_checks rice_facts (block_of rice_cards)) ≡ None
unfolding is_packed end_among logical_of number_behind numbered_name digits
card_checks_none = refl

table_checks_none : first_refusal (table_checks (block_of rice_cards) rice_facts) ≡ None
unfolding first_among first_named columns_len column_called elements_len form_in integer_of text_of quoted numbered_name digits end_among
table_checks_none = refl

plan_checks_none : first_refusal (packed_checks 1 (block_of rice_cards) true) ≡ None
unfolding integer_of logical_of text_of quoted number_behind numbered_name digits end_among
plan_checks_none = refl

passes_first : unpack_judge both_file first_facts ≡ Ok false
unfolding is_packed
passes_first = refl

checks_none : first_refusal (unpack_hdu_checks both_file rice_facts) ≡ None
unfolding integer_of
checks_none =
    both_none (table_card_checks rice_facts (block_of rice_cards)) (if is_packed (block_of rice_cards) rice_facts then image_checks rice_facts (block_of rice_cards) true else []) card_checks_none
    (ap (λ b. first_refusal (if b then image_checks rice_facts (block_of rice_cards) true else [])) packed
    ∙ both_none (table_checks (block_of rice_cards) rice_facts) (packed_checks 1 (block_of rice_cards) true) table_checks_none plan_checks_none)

walk_is : walk_of (unpack_judge both_file) 65536 both_file ≡ Ok (first_facts ∷ rice_facts ∷ [])
walk_is =
    goes_on (unpack_judge both_file) 65535 0 0 both_file first_facts (Ok (rice_facts ∷ [])) first_at passes_first refl
    (ends_with (unpack_judge both_file) 65534 1 2880 both_file rice_facts table_at (ap (unless_refused false) checks_none) refl)

no_fault : header_fault Unpack both_file ≡ None
unfolding job_walk
no_fault = ap (fault_of_walk Unpack both_file) walk_is

headers_are : headers_for Unpack both_file ≡ first_facts ∷ rice_facts ∷ []
unfolding job_walk
headers_are = ap found_headers walk_is

-- ---- the rows

-- the block of the code, with id 1
abbrev block_bits : List Bool
block_bits = false ∷ false ∷ false ∷ true ∷ true ∷ false ∷ false ∷ true ∷ false ∷ true ∷ false ∷ false ∷ true ∷ []

numbers_16 : All (IsNumber 16) both_pixels
numbers_16 =
    All-cons (IsNumber 16) (pos 0) (pos 1 ∷ pos 0 ∷ pos 1 ∷ []) (omega arith)
    (All-cons (IsNumber 16) (pos 1) (pos 0 ∷ pos 1 ∷ []) (omega arith)
    (All-cons (IsNumber 16) (pos 0) (pos 1 ∷ []) (omega arith) (All-cons (IsNumber 16) (pos 1) [] (omega arith) (All-nil (IsNumber 16)))))

-- three bits fill
means : Means (codec.Rice 32 2) 16 place.Coded 4 row_code.bytes both_pixels
unfolding number_bits bits_of
means = (
  4,
  record {
    code = number_bits 16 0 ++ block_bits;
    rest = false ∷ false ∷ false ∷ [];
    is_code = record {
      numbers = numbers_16;
      start = 0;
      start_fits = omega arith;
      blocks = block_bits;
      are_blocks = (1, [], (omega arith, λ never. absurd omega (arith, never)), refl, refl);
      is = refl;
    };
    is = refl;
    len = refl;
  },
)

-- the record of a code of four bytes from here on
abbrev code_at : ℕ → Record
code_at start = record { column = column.Coded; start = start; total = 4; read = 4 }

row_0 : RowIsOf both_file 1 rice_plan rice_table 0 both_pixels
unfolding record_of
row_0 = record {
  found = code_at 5792;
  chosen = refl;
  count = refl;
  means = record { plain = λ never. absurd omega (arith, never); pixels = numbers_16; len = refl; meaning = means };
}

row_1 : RowIsOf both_file 1 rice_plan rice_table 1 both_pixels
unfolding record_of
row_1 = record {
  found = code_at 5796;
  chosen = refl;
  count = refl;
  means = record { plain = λ never. absurd omega (arith, never); pixels = numbers_16; len = refl; meaning = means };
}

rows_are : all_rows both_file (first_facts ∷ rice_facts ∷ []) ≡ image_row rice_facts 0 ∷ image_row rice_facts 1 ∷ []
rows_are =
    ap (λ b. flat_map (rows_of both_file) (cond b (first_facts ∷ filter (is_image both_file) (rice_facts ∷ [])) (filter (is_image both_file) (rice_facts ∷ [])))) not_packed
    ∙ (ap (λ b. flat_map (rows_of both_file) (cond b (rice_facts ∷ []) [])) packed
    ∙ (append-nil (rows_of both_file rice_facts)
    ∙ ap (λ p. map (image_row rice_facts) (range_with_len 0 (tiles_in p))) plan_is))

stands_0 : RowStandsFor both_file rice_facts 0 both_pixels
stands_0 = stands_by both_file rice_facts rice_plan rice_table 0 both_pixels plan_is table_is row_0

stands_1 : RowStandsFor both_file rice_facts 1 both_pixels
stands_1 = stands_by both_file rice_facts rice_plan rice_table 1 both_pixels plan_is table_is row_1

pub both_taken : IsFirstFault Unpack both_file None
both_taken =
    subst (λ r. IsFaultBehind r Unpack both_file None) (sym no_fault)
    (subst (λ hs. IsFirstRowFault both_file (all_rows both_file hs) None) (sym headers_are)
    (subst (λ rows. IsFirstRowFault both_file rows None) (sym rows_are) ((both_pixels, stands_0), ((both_pixels, stands_1), tt))))
