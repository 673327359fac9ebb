-- The patch of a table of another packer, by the definitions.
use Rattle.std.proofs.Common.{◌≡◌, ℕ, ◌+◌, ◌-◌, ◌^◌, ◌<◌, ◌&&◌, ◌||◌, not, nat_lt, true, false, Bool, flat_map, ℤ, pos, List, [], ◌∷◌, ◌++◌, length, zip, codes, Some, None, Ok, refl, sym, ◌∙◌, ap, subst, arith}
use Rattle.std.proofs.lemmas.Fmt.{decimal_digit}
use Rattle.std.specs.Fmt.{digits}
use Rattle.std.specs.List.{range_with_len}
use Rattle.fz_base.specs.Refusal.{first_refusal}
use Rattle.fz_base.specs.declared.fault.Fault.{Fault}
use Rattle.fz_card.specs.Layout.{padded}
use Rattle.fz_card.specs.Made.{int_card_bytes, numbered_name, right_aligned, text_card_bytes, value_card}
use Rattle.fz_card.specs.Naming.{number_behind}
use Rattle.fz_card.specs.Quoted.{quoted}
use Rattle.fz_card.specs.Reading.{integer_of, logical_of, text_of}
use Rattle.fz_block.specs.Cards.{end_among, first_among}
use Rattle.fz_block.specs.Checks.{header_blocks_of, header_of, hdu_at}
use Rattle.fz_block.specs.Hdus.{cards_of}
use Rattle.fz_block.specs.declared.header.Header.{Header}
use Rattle.fz_block.specs.declared.header.Sort.TheVariants.{Primary}
use Rattle.fz_table.specs.Columns.{column_called, columns_len, first_named}
use Rattle.fz_table.specs.Forms.{elements_len, form_in}
use Rattle.fz_table.specs.Records.{record_of}
use Rattle.fz_table.specs.Tables.{table_checks}
use Rattle.fz_table.specs.declared.record.TileColumn.TheVariants as column
use Rattle.fz_table.specs.declared.table.Table.{Table}
use Rattle.fz_tile.specs.declared.codec.Codec.TheVariants.{Plain}
use Rattle.fz_tile.specs.TileCode.{TileCode}
use Rattle.fz_checks.specs.JobChecks.{axis_inside, image_checks, packed_card_checks}
use Rattle.fz_head.specs.Packable.{is_packed}
use Rattle.fz_head.specs.PackedChecks.{packed_checks}
use Rattle.fz_head.specs.PackedHeader.{descriptor_form, number_card, numbered_word_card}
use Rattle.fz_head.specs.PackedPlan.{plan_of_cards}
use Rattle.fz_head.specs.PlainHeader.{axis_count}
use Rattle.fz_head.specs.declared.plan.Plan.{Plan}
use Rattle.fz_files.specs.HandMade.{block_of, card_of}
use Rattle.fz_files.specs.Packed.{heap_of}
use Rattle.fz_files.specs.PlainFile.{stored}
use Rattle.fz_files.specs.Restored.{image_table, plan_in}
use Rattle.fz_laws.specs.Amends.{amend_of, applied}
use Rattle.fz_laws.specs.PatchChecks.{corner_check, find_hdu_checks, form_check, given_check, inside_checks, last_check, may_be_given, patch_target}
use Rattle.fz_laws.specs.FirstPatchFault.{ArePatchSteps, BoxHasNumbers, RowsHaveNumbers, codes_len, room_check}
use Rattle.fz_laws.specs.PatchForm.{has_form, is_wide_table}
use Rattle.fz_laws.specs.Given.{Given, array_if, box_region, given_by, given_header}
use Rattle.fz_laws.specs.NewNumbers.{box_tiles}
use Rattle.fz_laws.specs.WidePatch.{lent_cards, lent_facts, lent_file, lent_job, lent_steps, nine_image}
use Rattle.fz_laws.specs.Writes.{Steps, before_sums, code_writes, column_writes, grown_end, heap_end, heap_writes, new_codes, pcount_writes, row_writes, steps_of, sum_writes, table_plan, table_steps, zero_writes}
use Rattle.fz_laws.proofs.GridSteps.{two_numbers}
use Rattle.fz_laws.proofs.GridTarget.{first_facts}
use Rattle.fz_laws.proofs.Passes.{joined_pass}
use Rattle.fz_laws.proofs.Walked.{HasTable, RowIsOf, by_box, found_table, stands_by, target_by, two_headers}

-- the plan of the image, and its table, whose descriptors have 64 bits
abbrev lent_plan : Plan
lent_plan = record {
  codec = Plain;
  bitpix = pos 8;
  shape = record { n = 1; len = 4 ∷ 0 ∷ 0 ∷ 0 ∷ 0 ∷ 0 ∷ 0 ∷ 0 ∷ 0 ∷ [] };
  tile = record { n = 1; len = 2 ∷ 0 ∷ 0 ∷ 0 ∷ 0 ∷ 0 ∷ 0 ∷ 0 ∷ 0 ∷ [] };
  primary = false;
  wide = false;
}

abbrev lent_table : Table
lent_table = record {
  row_bytes = 32;
  rows = 2;
  rows_at = 5760;
  heap_at = 5824;
  heap_len = 4;
  coded = Some (record { at = 0; wide = true; unit = 1 });
  stored = Some (record { at = 16; wide = true; unit = 1 });
  gzip = None;
}

first_at : hdu_at 0 0 lent_file ≡ Ok first_facts
unfolding hdu_at header_blocks_of header_of end_among first_among integer_of logical_of text_of quoted
first_at = refl

table_at : hdu_at 1 2880 lent_file ≡ Ok lent_facts
unfolding hdu_at header_blocks_of header_of end_among first_among integer_of logical_of text_of quoted numbered_name digits
table_at = refl

cards_are : cards_of (block_of lent_cards) ≡ lent_cards
unfolding end_among
cards_are = refl

plan_of : plan_of_cards lent_cards ≡ lent_plan
unfolding plan_of_cards integer_of text_of quoted number_behind numbered_name digits
plan_of = refl

plan_is : plan_in lent_file lent_facts ≡ lent_plan
plan_is = ap plan_of_cards cards_are ∙ plan_of

table_is : image_table lent_file lent_facts ≡ lent_table
unfolding first_among first_named columns_len column_called elements_len form_in integer_of text_of quoted numbered_name digits end_among
table_is = refl

packed : is_packed (block_of lent_cards) lent_facts ≡ true
unfolding is_packed end_among logical_of
packed = refl

card_checks_none : first_refusal (packed_card_checks lent_facts (block_of lent_cards)) ≡ None
unfolding is_packed end_among logical_of number_behind numbered_name digits
card_checks_none = refl

table_checks_none : first_refusal (table_checks (block_of lent_cards) lent_facts) ≡ None
unfolding first_among first_named columns_len column_called elements_len form_in integer_of text_of quoted numbered_name digits end_among
table_checks_none = refl

plan_checks_none : first_refusal (packed_checks 1 (block_of lent_cards) true) ≡ None
unfolding integer_of logical_of text_of quoted number_behind numbered_name digits end_among
plan_checks_none = refl

checks_none : first_refusal (find_hdu_checks lent_file lent_facts) ≡ None
unfolding integer_of
checks_none =
    joined_pass (packed_card_checks lent_facts (block_of lent_cards)) (image_checks lent_facts (block_of lent_cards) true) card_checks_none
    (joined_pass (table_checks (block_of lent_cards) lent_facts) (packed_checks 1 (block_of lent_cards) true) table_checks_none plan_checks_none)

has_table : HasTable lent_file None first_facts lent_facts
unfolding is_packed
has_table = record { first = first_at; table = table_at; more = refl; passed = refl; packed = packed; checks = checks_none }

form_is : has_form (block_of lent_cards) lent_facts lent_plan ≡ true
unfolding first_among first_named columns_len column_called elements_len form_in integer_of text_of quoted numbered_name digits end_among
form_is = refl

form_none : (form_check lent_file lent_facts).0 ≡ false
form_none = ap (λ p. not (has_form (block_of lent_cards) lent_facts p)) plan_is ∙ ap not form_is

-- ---- what is given

abbrev nine_facts : Header
nine_facts = record {
  hdu = 0;
  start = 0;
  cards = 4;
  blocks = 1;
  sort = Primary;
  bitpix = pos 8;
  axes = record { n = 1; len = 1 ∷ 0 ∷ 0 ∷ 0 ∷ 0 ∷ 0 ∷ 0 ∷ 0 ∷ 0 ∷ [] };
  pcount = 0;
  gcount = 1;
  data_len = 1;
}

nine_at : given_header nine_image ≡ Ok nine_facts
unfolding hdu_at header_blocks_of header_of end_among first_among integer_of logical_of text_of quoted numbered_name digits
nine_at = refl

abbrev nine_given : Given
nine_given = record { corner = 3 ∷ []; array = record { lengths = 1 ∷ []; numbers = pos 9 ∷ [] } }

given_is : given_by nine_image lent_job ≡ nine_given
given_is = (λ j. record { corner = 3 ∷ []; array = array_if nine_image (nine_at j) }) ∙ refl

last_none : (last_check lent_file lent_facts).0 ≡ false
last_none = refl

corner_none : (corner_check lent_file lent_facts lent_job).0 ≡ false
unfolding integer_of end_among
corner_none = refl

given_none : (given_check lent_file nine_image lent_facts).0 ≡ false
given_none = (λ j. not (may_be_given (plan_is j) (nine_at j))) ∙ refl

abbrev inside_of : Given → List (Bool × Fault)
inside_of g = flat_map (λ i. axis_inside 1 (cards_of (block_of lent_cards)) (box_region g) i ∷ []) (range_with_len 0 (axis_count (cards_of (block_of lent_cards))))

inside_none : first_refusal (inside_of nine_given) ≡ None
unfolding integer_of numbered_name digits end_among
inside_none = refl

inside_here : first_refusal (inside_checks lent_file nine_image lent_facts lent_job) ≡ None
inside_here = (λ j. first_refusal (inside_of (given_is j))) ∙ inside_none

pub target : patch_target lent_file nine_image lent_job ≡ Ok lent_facts
target =
    target_by lent_file nine_image lent_job (first_facts ∷ lent_facts ∷ []) lent_facts None (two_headers lent_file None first_facts lent_facts has_table refl) (found_table lent_file None first_facts lent_facts has_table)
    (by_box lent_file nine_image lent_facts lent_job last_none form_none corner_none given_none ∙ inside_here)

-- ---- the tiles

abbrev lent_tiles : List ℕ
lent_tiles = 1 ∷ []

box_is : box_tiles lent_plan nine_given ≡ lent_tiles
box_is = refl

tiles_here : box_tiles (plan_in lent_file lent_facts) (given_by nine_image lent_job) ≡ lent_tiles
tiles_here = (λ j. box_tiles (plan_is j) (given_is j)) ∙ box_is

abbrev old_1 : List ℤ
old_1 = pos 3 ∷ pos 4 ∷ []

abbrev lent_olds : List (List ℤ)
lent_olds = old_1 ∷ []

row_1 : RowIsOf lent_file 1 lent_plan lent_table 1 old_1
unfolding record_of
row_1 = record {
  found = record { column = column.Coded; start = 5826; total = 2; read = 2 };
  chosen = refl;
  count = refl;
  means = record { plain = λ never. refl; pixels = two_numbers (pos 3) (pos 4) (omega arith) (omega arith); len = refl; meaning = (refl, refl) };
}

rows_have : RowsHaveNumbers lent_file lent_facts lent_tiles lent_olds
rows_have = (stands_by lent_file lent_facts lent_plan lent_table 1 old_1 plan_is table_is row_1, tt)

numbers : BoxHasNumbers lent_file lent_facts (given_by nine_image lent_job) lent_olds
numbers = subst (λ ts. RowsHaveNumbers lent_file lent_facts ts lent_olds) (sym tiles_here) rows_have

-- ---- the writes

abbrev lent_codes : List TileCode
lent_codes = stored (3 ∷ 9 ∷ []) ∷ []

codes_are : new_codes lent_plan nine_given lent_tiles lent_olds ≡ lent_codes
codes_are = refl

codes_here : new_codes (plan_in lent_file lent_facts) (given_by nine_image lent_job) (box_tiles (plan_in lent_file lent_facts) (given_by nine_image lent_job)) lent_olds ≡ lent_codes
codes_here = (λ j. new_codes (plan_is j) (given_is j) (tiles_here j) lent_olds) ∙ codes_are

is_wide_one : is_wide_table (block_of lent_cards) ≡ true
unfolding first_among first_named columns_len column_called elements_len form_in integer_of text_of quoted numbered_name digits end_among
is_wide_one = refl

heap_has : length (heap_of lent_codes) ≡ 2
unfolding heap_of
heap_has = refl

len_is : codes_len lent_file lent_facts (given_by nine_image lent_job) lent_olds ≡ 2
len_is = ap (λ es. length (heap_of es)) codes_here ∙ heap_has

room : first_refusal (room_check lent_file lent_facts (codes_len lent_file lent_facts (given_by nine_image lent_job) lent_olds) ∷ []) ≡ None
room =
    (λ j. first_refusal ((
      (not (is_wide_one j) && nat_lt 2147483647 (4 + len_is j)) || (nat_lt (10 ^ 18 - 1) (4 + len_is j) || nat_lt (2 ^ 62) (grown_end lent_facts (len_is j))),
      (room_check lent_file lent_facts 0).1,
    )
    ∷ []))
    ∙ refl

heap_is : heap_writes lent_file lent_facts lent_codes ≡ lent_steps.heap
unfolding heap_of
heap_is = (λ j. code_writes (heap_end (table_is j)) lent_codes ++ zero_writes (heap_end (table_is j) + 2) (grown_end lent_facts 2)) ∙ refl

made_6 : number_card (codes "PCOUNT") 6 ≡ card_of (codes "PCOUNT  =                    6")
unfolding int_card_bytes
made_6 = ap (λ d. value_card (padded (codes "PCOUNT")) (right_aligned 20 d)) (decimal_digit 6 (omega arith))

pcount_is : pcount_writes lent_file lent_facts 2 ≡ lent_steps.pcount
unfolding integer_of
pcount_is = ap (λ c. amend_of 3280 c ∷ []) made_6

name_2 : numbered_name (codes "TFORM") 2 ≡ padded (codes "TFORM2")
unfolding numbered_name
name_2 = ap (λ d. padded (codes "TFORM" ++ d)) (decimal_digit 2 (omega arith))

made_form : numbered_word_card (codes "TFORM") 2 (descriptor_form true (codes "B") 2) ≡ card_of (codes "TFORM2  = '1QB(2)  '")
unfolding text_card_bytes
made_form = λ j. text_card_bytes (name_2 j) (codes "1Q" ++ codes "B" ++ codes "(" ++ decimal_digit 2 two j ++ codes ")")
  where
    two : 2 < 10
    two = omega arith

forms_are : column_writes lent_file lent_facts lent_tiles lent_codes ≡ amend_of 3760 (numbered_word_card (codes "TFORM") 2 (descriptor_form true (codes "B") 2)) ∷ []
unfolding plan_of_cards number_behind first_among first_named columns_len column_called elements_len form_in integer_of text_of quoted numbered_name digits end_among
forms_are = refl

forms_is : column_writes lent_file lent_facts lent_tiles lent_codes ≡ lent_steps.forms
forms_is = forms_are ∙ ap (λ c. amend_of 3760 c ∷ []) made_form

plan_here : table_plan lent_file lent_facts ≡ record lent_plan { wide = true }
plan_here = (λ j. record (plan_is j) { wide = is_wide_one j }) ∙ refl

rows_are : row_writes (image_table lent_file lent_facts) (table_plan lent_file lent_facts) (image_table lent_file lent_facts).heap_len (zip lent_tiles lent_codes) ≡ lent_steps.rows
rows_are = (λ j. row_writes (table_is j) (plan_here j) (table_is j).heap_len (zip lent_tiles lent_codes)) ∙ refl

sums_are : sum_writes (applied (before_sums lent_steps) lent_file) lent_facts ≡ []
unfolding text_of quoted end_among
sums_are = refl

table_steps_are : table_steps lent_file lent_facts lent_tiles lent_codes ≡ lent_steps
unfolding heap_of
table_steps_are = λ j. record { heap = heap_is j; pcount = pcount_is j; forms = forms_is j; rows = rows_are j; sums = [] }

abbrev with_sums : Steps → Steps
with_sums s = record s { sums = sum_writes (applied (before_sums s) lent_file) lent_facts }

steps_are : steps_of lent_file lent_facts (given_by nine_image lent_job) lent_olds ≡ lent_steps
unfolding steps_of
steps_are =
    (λ j. with_sums (table_steps lent_file lent_facts (tiles_here j) (codes_here j)))
    ∙ (ap with_sums table_steps_are
    ∙ (λ j. record lent_steps { sums = sums_are j }))

pub lent_are : ArePatchSteps lent_file nine_image lent_job lent_facts lent_steps
lent_are = record { target = target; olds = lent_olds; numbers = numbers; room = room; steps_are = sym steps_are }
