-- The patch of two pixels of a table whose TFORM2 says less than its rows, by the definitions.
use Rattle.std.proofs.Common.{◌≡◌, ℕ, ◌+◌, ◌-◌, ◌^◌, ◌<◌, ◌&&◌, ◌||◌, not, nat_lt, true, false, Bool, flat_map, ℤ, pos, List, [], ◌∷◌, ◌++◌, length, zip, codes, decimal, None, Ok, refl, sym, ◌∙◌, ap, subst, arith}
use Rattle.std.proofs.lemmas.Fmt.{decimal-digits_of, decimal_digit}
use Rattle.std.specs.Fmt.{digits}
use Rattle.std.specs.List.{range_with_len}
use Rattle.fz_base.specs.Refusal.{first_refusal}
use Rattle.fz_base.specs.declared.fault.Fault.{Fault}
use Rattle.fz_card.specs.Layout.{padded}
use Rattle.fz_card.specs.Made.{int_card_bytes, numbered_name, right_aligned, text_card_bytes, value_card}
use Rattle.fz_card.specs.Naming.{number_behind}
use Rattle.fz_card.specs.Quoted.{quoted}
use Rattle.fz_card.specs.Reading.{integer_of, logical_of, text_of}
use Rattle.fz_block.specs.Cards.{end_among, first_among}
use Rattle.fz_block.specs.Checks.{header_blocks_of, header_of, hdu_at}
use Rattle.fz_block.specs.Hdus.{cards_of}
use Rattle.fz_block.specs.declared.header.Header.{Header}
use Rattle.fz_block.specs.declared.header.Sort.TheVariants.{Primary}
use Rattle.fz_table.specs.Columns.{column_called, columns_len, first_named}
use Rattle.fz_table.specs.Forms.{elements_len, form_in}
use Rattle.fz_table.specs.Records.{record_of}
use Rattle.fz_table.specs.Tables.{table_checks}
use Rattle.fz_tile.specs.TileCode.{TileCode}
use Rattle.fz_checks.specs.JobChecks.{axis_inside, image_checks, packed_card_checks}
use Rattle.fz_head.specs.Packable.{is_packed}
use Rattle.fz_head.specs.PackedChecks.{packed_checks}
use Rattle.fz_head.specs.PackedHeader.{descriptor_form, number_card, numbered_word_card}
use Rattle.fz_head.specs.PackedPlan.{plan_of_cards}
use Rattle.fz_head.specs.PlainHeader.{axis_count}
use Rattle.fz_files.specs.CutFile.{table_facts}
use Rattle.fz_files.specs.HandMade.{block_of, card_of}
use Rattle.fz_files.specs.Packed.{heap_of}
use Rattle.fz_files.specs.PlainFile.{plain_plan, stored}
use Rattle.fz_files.specs.Restored.{image_table, plan_in}
use Rattle.fz_laws.specs.Amends.{amend_of, applied}
use Rattle.fz_laws.specs.PatchChecks.{corner_check, find_hdu_checks, form_check, given_check, inside_checks, last_check, may_be_given, patch_target}
use Rattle.fz_laws.specs.FirstPatchFault.{ArePatchSteps, BoxHasNumbers, RowsHaveNumbers, codes_len, room_check}
use Rattle.fz_laws.specs.PatchForm.{has_form, is_wide_table}
use Rattle.fz_laws.specs.Given.{Given, array_if, box_region, given_by, given_header}
use Rattle.fz_laws.specs.GridPatch.{short_cards, short_file, two_file, two_job, two_steps}
use Rattle.fz_laws.specs.NewNumbers.{box_tiles}
use Rattle.fz_laws.specs.Writes.{Steps, before_sums, code_writes, column_writes, grown_end, heap_end, heap_writes, new_codes, pcount_writes, row_writes, steps_of, sum_writes, table_plan, table_steps, zero_writes}
use Rattle.fz_laws.proofs.GridSteps.{one_number, stored_at, two_numbers}
use Rattle.fz_laws.proofs.GridTarget.{first_facts, plain_table}
use Rattle.fz_laws.proofs.Passes.{joined_pass}
use Rattle.fz_laws.proofs.Walked.{HasTable, RowIsOf, by_box, found_table, stands_by, target_by, two_headers}

first_at : hdu_at 0 0 short_file ≡ Ok first_facts
unfolding hdu_at header_blocks_of header_of end_among first_among integer_of logical_of text_of quoted
first_at = refl

table_at : hdu_at 1 2880 short_file ≡ Ok table_facts
unfolding hdu_at header_blocks_of header_of end_among first_among integer_of logical_of text_of quoted numbered_name digits
table_at = refl

cards_are : cards_of (block_of short_cards) ≡ short_cards
unfolding end_among
cards_are = refl

plan_of : plan_of_cards short_cards ≡ plain_plan
unfolding plan_of_cards integer_of text_of quoted number_behind numbered_name digits
plan_of = refl

plan_is : plan_in short_file table_facts ≡ plain_plan
plan_is = ap plan_of_cards cards_are ∙ plan_of

table_is : image_table short_file table_facts ≡ plain_table
unfolding first_among first_named columns_len column_called elements_len form_in integer_of text_of quoted numbered_name digits end_among
table_is = refl

packed : is_packed (block_of short_cards) table_facts ≡ true
unfolding is_packed end_among logical_of
packed = refl

card_checks_none : first_refusal (packed_card_checks table_facts (block_of short_cards)) ≡ None
unfolding is_packed end_among logical_of number_behind numbered_name digits
card_checks_none = refl

table_checks_none : first_refusal (table_checks (block_of short_cards) table_facts) ≡ None
unfolding first_among first_named columns_len column_called elements_len form_in integer_of text_of quoted numbered_name digits end_among
table_checks_none = refl

plan_checks_none : first_refusal (packed_checks 1 (block_of short_cards) true) ≡ None
unfolding integer_of logical_of text_of quoted number_behind numbered_name digits end_among
plan_checks_none = refl

checks_none : first_refusal (find_hdu_checks short_file table_facts) ≡ None
unfolding integer_of
checks_none =
    joined_pass (packed_card_checks table_facts (block_of short_cards)) (image_checks table_facts (block_of short_cards) true) card_checks_none
    (joined_pass (table_checks (block_of short_cards) table_facts) (packed_checks 1 (block_of short_cards) true) table_checks_none plan_checks_none)

has_table : HasTable short_file None first_facts table_facts
unfolding is_packed
has_table = record { first = first_at; table = table_at; more = refl; passed = refl; packed = packed; checks = checks_none }

form_is : has_form (block_of short_cards) table_facts plain_plan ≡ true
unfolding first_among first_named columns_len column_called elements_len form_in integer_of text_of quoted numbered_name digits end_among
form_is = refl

form_none : (form_check short_file table_facts).0 ≡ false
form_none = ap (λ p. not (has_form (block_of short_cards) table_facts p)) plan_is ∙ ap not form_is

-- ---- what is given

abbrev two_facts : Header
two_facts = record {
  hdu = 0;
  start = 0;
  cards = 5;
  blocks = 1;
  sort = Primary;
  bitpix = pos 8;
  axes = record { n = 2; len = 2 ∷ 1 ∷ 0 ∷ 0 ∷ 0 ∷ 0 ∷ 0 ∷ 0 ∷ 0 ∷ [] };
  pcount = 0;
  gcount = 1;
  data_len = 2;
}

two_at : given_header two_file ≡ Ok two_facts
unfolding hdu_at header_blocks_of header_of end_among first_among integer_of logical_of text_of quoted numbered_name digits
two_at = refl

abbrev two_given : Given
two_given = record { corner = 3 ∷ 2 ∷ []; array = record { lengths = 2 ∷ 1 ∷ []; numbers = pos 9 ∷ pos 9 ∷ [] } }

given_is : given_by two_file two_job ≡ two_given
given_is = (λ j. record { corner = 3 ∷ 2 ∷ []; array = array_if two_file (two_at j) }) ∙ refl

last_none : (last_check short_file table_facts).0 ≡ false
last_none = refl

corner_none : (corner_check short_file table_facts two_job).0 ≡ false
unfolding integer_of end_among
corner_none = refl

given_none : (given_check short_file two_file table_facts).0 ≡ false
given_none = (λ j. not (may_be_given (plan_is j) (two_at j))) ∙ refl

abbrev inside_of : Given → List (Bool × Fault)
inside_of g = flat_map (λ i. axis_inside 1 (cards_of (block_of short_cards)) (box_region g) i ∷ []) (range_with_len 0 (axis_count (cards_of (block_of short_cards))))

inside_none : first_refusal (inside_of two_given) ≡ None
unfolding integer_of numbered_name digits end_among
inside_none = refl

inside_here : first_refusal (inside_checks short_file two_file table_facts two_job) ≡ None
inside_here = (λ j. first_refusal (inside_of (given_is j))) ∙ inside_none

target : patch_target short_file two_file two_job ≡ Ok table_facts
target =
    target_by short_file two_file two_job (first_facts ∷ table_facts ∷ []) table_facts None (two_headers short_file None first_facts table_facts has_table refl) (found_table short_file None first_facts table_facts has_table)
    (by_box short_file two_file table_facts two_job last_none form_none corner_none given_none ∙ inside_here)

-- ---- the tiles

abbrev two_tiles : List ℕ
two_tiles = 4 ∷ 5 ∷ []

box_is : box_tiles plain_plan two_given ≡ two_tiles
box_is = refl

tiles_here : box_tiles (plan_in short_file table_facts) (given_by two_file two_job) ≡ two_tiles
tiles_here = (λ j. box_tiles (plan_is j) (given_is j)) ∙ box_is

abbrev old_4 : List ℤ
old_4 = pos 13 ∷ pos 14 ∷ []

abbrev old_5 : List ℤ
old_5 = pos 15 ∷ []

abbrev two_olds : List (List ℤ)
two_olds = old_4 ∷ old_5 ∷ []

row_4 : RowIsOf short_file 1 plain_plan plain_table 4 old_4
unfolding record_of
row_4 = record {
  found = stored_at 5868 2;
  chosen = refl;
  count = refl;
  means = record { plain = λ never. refl; pixels = two_numbers (pos 13) (pos 14) (omega arith) (omega arith); len = refl; meaning = (refl, refl) };
}

row_5 : RowIsOf short_file 1 plain_plan plain_table 5 old_5
unfolding record_of
row_5 = record {
  found = stored_at 5870 1;
  chosen = refl;
  count = refl;
  means = record { plain = λ never. refl; pixels = one_number (pos 15) (omega arith); len = refl; meaning = (refl, refl) };
}

rows_have : RowsHaveNumbers short_file table_facts two_tiles two_olds
rows_have = (
  stands_by short_file table_facts plain_plan plain_table 4 old_4 plan_is table_is row_4,
  (stands_by short_file table_facts plain_plan plain_table 5 old_5 plan_is table_is row_5, tt),
)

numbers : BoxHasNumbers short_file table_facts (given_by two_file two_job) two_olds
numbers = subst (λ ts. RowsHaveNumbers short_file table_facts ts two_olds) (sym tiles_here) rows_have

-- ---- the writes

abbrev two_codes : List TileCode
two_codes = stored (0x0D ∷ 9 ∷ []) ∷ stored (9 ∷ []) ∷ []

codes_are : new_codes plain_plan two_given two_tiles two_olds ≡ two_codes
codes_are = refl

codes_here : new_codes (plan_in short_file table_facts) (given_by two_file two_job) (box_tiles (plan_in short_file table_facts) (given_by two_file two_job)) two_olds ≡ two_codes
codes_here = (λ j. new_codes (plan_is j) (given_is j) (tiles_here j) two_olds) ∙ codes_are

not_wide : is_wide_table (block_of short_cards) ≡ false
unfolding first_among first_named columns_len column_called elements_len form_in integer_of text_of quoted numbered_name digits end_among
not_wide = refl

heap_has : length (heap_of two_codes) ≡ 3
unfolding heap_of
heap_has = refl

len_is : codes_len short_file table_facts (given_by two_file two_job) two_olds ≡ 3
len_is = ap (λ es. length (heap_of es)) codes_here ∙ heap_has

room : first_refusal (room_check short_file table_facts (codes_len short_file table_facts (given_by two_file two_job) two_olds) ∷ []) ≡ None
room =
    (λ j. first_refusal ((
      (not (not_wide j) && nat_lt 2147483647 (15 + len_is j)) || (nat_lt (10 ^ 18 - 1) (15 + len_is j) || nat_lt (2 ^ 62) (grown_end table_facts (len_is j))),
      (room_check short_file table_facts 0).1,
    )
    ∷ []))
    ∙ refl

heap_is : heap_writes short_file table_facts two_codes ≡ two_steps.heap
unfolding heap_of
heap_is = (λ j. code_writes (heap_end (table_is j)) two_codes ++ zero_writes (heap_end (table_is j) + 3) (grown_end table_facts 3)) ∙ refl

made_18 : number_card (codes "PCOUNT") 18 ≡ card_of (codes "PCOUNT  =                   18")
unfolding int_card_bytes
made_18 = ap (λ d. value_card (padded (codes "PCOUNT")) (right_aligned 20 d)) (decimal-digits_of 18 (omega arith) (omega arith))

pcount_is : pcount_writes short_file table_facts 3 ≡ two_steps.pcount
unfolding integer_of
pcount_is = ap (λ c. amend_of 3280 c ∷ []) made_18

name_2 : numbered_name (codes "TFORM") 2 ≡ padded (codes "TFORM2")
unfolding numbered_name
name_2 = ap (λ d. padded (codes "TFORM" ++ d)) (decimal_digit 2 (omega arith))

made_form : numbered_word_card (codes "TFORM") 2 (descriptor_form false (codes "B") 4) ≡ card_of (codes "TFORM2  = '1PB(4)  '")
unfolding text_card_bytes
made_form = λ j. text_card_bytes (name_2 j) (codes "1P" ++ codes "B" ++ codes "(" ++ decimal_digit 4 four j ++ codes ")")
  where
    four : 4 < 10
    four = omega arith

forms_are : column_writes short_file table_facts two_tiles two_codes ≡ amend_of 3760 (numbered_word_card (codes "TFORM") 2 (descriptor_form false (codes "B") 4)) ∷ []
unfolding plan_of_cards number_behind first_among first_named columns_len column_called elements_len form_in integer_of text_of quoted numbered_name digits end_among
forms_are = refl

forms_is : column_writes short_file table_facts two_tiles two_codes ≡ two_steps.forms
forms_is = forms_are ∙ ap (λ c. amend_of 3760 c ∷ []) made_form

plan_here : table_plan short_file table_facts ≡ plain_plan
plan_here = (λ j. record (plan_is j) { wide = not_wide j }) ∙ refl

rows_are : row_writes (image_table short_file table_facts) (table_plan short_file table_facts) (image_table short_file table_facts).heap_len (zip two_tiles two_codes) ≡ two_steps.rows
rows_are = (λ j. row_writes (table_is j) (plan_here j) (table_is j).heap_len (zip two_tiles two_codes)) ∙ refl

sums_are : sum_writes (applied (before_sums two_steps) short_file) table_facts ≡ []
unfolding text_of quoted end_among
sums_are = refl

table_steps_are : table_steps short_file table_facts two_tiles two_codes ≡ two_steps
unfolding heap_of
table_steps_are = λ j. record { heap = heap_is j; pcount = pcount_is j; forms = forms_is j; rows = rows_are j; sums = [] }

abbrev with_sums : Steps → Steps
with_sums s = record s { sums = sum_writes (applied (before_sums s) short_file) table_facts }

steps_are : steps_of short_file table_facts (given_by two_file two_job) two_olds ≡ two_steps
unfolding steps_of
steps_are =
    (λ j. with_sums (table_steps short_file table_facts (tiles_here j) (codes_here j)))
    ∙ (ap with_sums table_steps_are
    ∙ (λ j. record two_steps { sums = sums_are j }))

pub two_are : ArePatchSteps short_file two_file two_job table_facts two_steps
two_are = record { target = target; olds = two_olds; numbers = numbers; room = room; steps_are = sym steps_are }
