-- The patch of six pixels of a table with checksums, by the definitions.
use Rattle.std.proofs.Common.{◌≡◌, ℕ, ◌+◌, ◌-◌, ◌/◌, ◌%◌, ◌^◌, ◌<◌, ◌≤◌, ◌&&◌, ◌||◌, not, nat_lt, true, false, Bool, flat_map, ℤ, pos, List, [], ◌∷◌, ◌++◌, length, zip, codes, decimal, Some, None, Ok, refl, sym, ◌∙◌, ap, subst, arith}
use Rattle.std.proofs.lemmas.Fmt.{decimal_step, decimal-digits_of}
use Rattle.std.specs.Fmt.{digits}
use Rattle.std.specs.List.{range_with_len}
use Rattle.fz_base.specs.Refusal.{first_refusal}
use Rattle.fz_base.specs.declared.fault.Fault.{Fault}
use Rattle.fz_card.specs.Made.{numbered_name, text_card_bytes}
use Rattle.fz_card.specs.Naming.{number_behind}
use Rattle.fz_card.specs.Quoted.{quoted}
use Rattle.fz_card.specs.Reading.{integer_of, logical_of, text_of}
use Rattle.fz_block.specs.Cards.{end_among, first_among}
use Rattle.fz_block.specs.Checks.{header_blocks_of, header_of, hdu_at}
use Rattle.fz_block.specs.Hdus.{cards_of}
use Rattle.fz_sum.specs.Cards.{blank_checksum_card, checksum_card, checksum_name, datasum_card, datasum_name, with_card}
use Rattle.fz_sum.specs.Characters.{byte_characters, characters}
use Rattle.fz_sum.specs.Sums.{carried, ones_sum, word_total}
use Rattle.fz_table.specs.Columns.{column_called, columns_len, first_named}
use Rattle.fz_table.specs.Forms.{elements_len, form_in}
use Rattle.fz_table.specs.Records.{record_of}
use Rattle.fz_table.specs.Tables.{table_checks}
use Rattle.fz_checks.specs.JobChecks.{axis_inside, image_checks, packed_card_checks}
use Rattle.fz_head.specs.Packable.{is_packed}
use Rattle.fz_head.specs.PackedChecks.{packed_checks}
use Rattle.fz_head.specs.PackedPlan.{plan_of_cards}
use Rattle.fz_head.specs.PlainHeader.{axis_count}
use Rattle.fz_files.specs.HandMade.{block_of, card_of}
use Rattle.fz_files.specs.Packed.{heap_of}
use Rattle.fz_files.specs.PlainFile.{plain_plan}
use Rattle.fz_files.specs.Restored.{header_in, image_table, plan_in}
use Rattle.fz_files.specs.SumFile.{sum_file, sum_file_cards}
use Rattle.fz_laws.specs.Amends.{amend_of, applied}
use Rattle.fz_laws.specs.PatchChecks.{corner_check, find_hdu_checks, form_check, given_check, inside_checks, last_check, may_be_given, patch_target}
use Rattle.fz_laws.specs.FirstPatchFault.{ArePatchSteps, BoxHasNumbers, RowsHaveNumbers, codes_len, room_check}
use Rattle.fz_laws.specs.PatchForm.{has_form, is_wide_table}
use Rattle.fz_laws.specs.Given.{Given, box_region, given_by}
use Rattle.fz_laws.specs.GridPatch.{six_file, six_job, six_steps, six_tiles}
use Rattle.fz_laws.specs.NewNumbers.{box_tiles}
use Rattle.fz_laws.specs.SumPatch.{sum_facts, sum_steps}
use Rattle.fz_laws.specs.Writes.{Steps, before_sums, checksum_write, checksum_writes, data_now, datasum_write, datasum_writes, told_sum, code_writes, column_writes, grown_end, heap_end, heap_writes, new_codes, pcount_writes, row_writes, steps_of, sum_writes, table_plan, table_steps, zero_writes}
use Rattle.fz_laws.proofs.GridSteps.{four_numbers, made_27, old_0, old_1, old_3, old_4, six_codes, six_codes_are, six_olds, six_tiles_are, stored_at, two_numbers}
use Rattle.fz_laws.proofs.GridTarget.{first_facts, plain_table, six_at, six_given, six_given_is}
use Rattle.fz_laws.proofs.Passes.{joined_pass}
use Rattle.fz_laws.proofs.Walked.{HasTable, RowIsOf, by_box, found_table, stands_by, target_by, two_headers}

first_at : hdu_at 0 0 sum_file ≡ Ok first_facts
unfolding hdu_at header_blocks_of header_of end_among first_among integer_of logical_of text_of quoted
first_at = refl

table_at : hdu_at 1 2880 sum_file ≡ Ok sum_facts
unfolding hdu_at header_blocks_of header_of end_among first_among integer_of logical_of text_of quoted numbered_name digits
table_at = refl

cards_are : cards_of (block_of sum_file_cards) ≡ sum_file_cards
unfolding end_among
cards_are = refl

plan_of : plan_of_cards sum_file_cards ≡ plain_plan
unfolding plan_of_cards integer_of text_of quoted number_behind numbered_name digits
plan_of = refl

plan_is : plan_in sum_file sum_facts ≡ plain_plan
plan_is = ap plan_of_cards cards_are ∙ plan_of

table_is : image_table sum_file sum_facts ≡ plain_table
unfolding first_among first_named columns_len column_called elements_len form_in integer_of text_of quoted numbered_name digits end_among
table_is = refl

packed : is_packed (block_of sum_file_cards) sum_facts ≡ true
unfolding is_packed end_among logical_of
packed = refl

card_checks_none : first_refusal (packed_card_checks sum_facts (block_of sum_file_cards)) ≡ None
unfolding is_packed end_among logical_of number_behind numbered_name digits
card_checks_none = refl

table_checks_none : first_refusal (table_checks (block_of sum_file_cards) sum_facts) ≡ None
unfolding first_among first_named columns_len column_called elements_len form_in integer_of text_of quoted numbered_name digits end_among
table_checks_none = refl

plan_checks_none : first_refusal (packed_checks 1 (block_of sum_file_cards) true) ≡ None
unfolding integer_of logical_of text_of quoted number_behind numbered_name digits end_among
plan_checks_none = refl

checks_none : first_refusal (find_hdu_checks sum_file sum_facts) ≡ None
unfolding integer_of
checks_none =
    joined_pass (packed_card_checks sum_facts (block_of sum_file_cards)) (image_checks sum_facts (block_of sum_file_cards) true) card_checks_none
    (joined_pass (table_checks (block_of sum_file_cards) sum_facts) (packed_checks 1 (block_of sum_file_cards) true) table_checks_none plan_checks_none)

has_table : HasTable sum_file None first_facts sum_facts
unfolding is_packed
has_table = record { first = first_at; table = table_at; more = refl; passed = refl; packed = packed; checks = checks_none }

form_is : has_form (block_of sum_file_cards) sum_facts plain_plan ≡ true
unfolding first_among first_named columns_len column_called elements_len form_in integer_of text_of quoted numbered_name digits end_among
form_is = refl

form_none : (form_check sum_file sum_facts).0 ≡ false
form_none = ap (λ p. not (has_form (block_of sum_file_cards) sum_facts p)) plan_is ∙ ap not form_is

-- ---- what is given

last_none : (last_check sum_file sum_facts).0 ≡ false
last_none = refl

corner_none : (corner_check sum_file sum_facts six_job).0 ≡ false
unfolding integer_of end_among
corner_none = refl

given_none : (given_check sum_file six_file sum_facts).0 ≡ false
given_none = (λ j. not (may_be_given (plan_is j) (six_at j))) ∙ refl

abbrev inside_of : Given → List (Bool × Fault)
inside_of g = flat_map (λ i. axis_inside 1 (cards_of (block_of sum_file_cards)) (box_region g) i ∷ []) (range_with_len 0 (axis_count (cards_of (block_of sum_file_cards))))

inside_none : first_refusal (inside_of (six_given (1 ∷ 1 ∷ []))) ≡ None
unfolding integer_of numbered_name digits end_among
inside_none = refl

inside_here : first_refusal (inside_checks sum_file six_file sum_facts six_job) ≡ None
inside_here = (λ j. first_refusal (inside_of (six_given_is six_job j))) ∙ inside_none

pub target : patch_target sum_file six_file six_job ≡ Ok sum_facts
target =
    target_by sum_file six_file six_job (first_facts ∷ sum_facts ∷ []) sum_facts None (two_headers sum_file None first_facts sum_facts has_table refl) (found_table sum_file None first_facts sum_facts has_table)
    (by_box sum_file six_file sum_facts six_job last_none form_none corner_none given_none ∙ inside_here)

-- ---- the tiles

tiles_here : box_tiles (plan_in sum_file sum_facts) (given_by six_file six_job) ≡ six_tiles
tiles_here = (λ j. box_tiles (plan_is j) (given_by six_file six_job)) ∙ six_tiles_are

row_0 : RowIsOf sum_file 1 plain_plan plain_table 0 old_0
unfolding record_of
row_0 = record {
  found = stored_at 5856 4;
  chosen = refl;
  count = refl;
  means = record { plain = λ never. refl; pixels = four_numbers (pos 1) (pos 2) (pos 6) (pos 7) (omega arith) (omega arith) (omega arith) (omega arith); len = refl; meaning = (refl, refl) };
}

row_1 : RowIsOf sum_file 1 plain_plan plain_table 1 old_1
unfolding record_of
row_1 = record {
  found = stored_at 5860 4;
  chosen = refl;
  count = refl;
  means = record { plain = λ never. refl; pixels = four_numbers (pos 3) (pos 4) (pos 8) (pos 9) (omega arith) (omega arith) (omega arith) (omega arith); len = refl; meaning = (refl, refl) };
}

row_3 : RowIsOf sum_file 1 plain_plan plain_table 3 old_3
unfolding record_of
row_3 = record {
  found = stored_at 5866 2;
  chosen = refl;
  count = refl;
  means = record { plain = λ never. refl; pixels = two_numbers (pos 11) (pos 12) (omega arith) (omega arith); len = refl; meaning = (refl, refl) };
}

row_4 : RowIsOf sum_file 1 plain_plan plain_table 4 old_4
unfolding record_of
row_4 = record {
  found = stored_at 5868 2;
  chosen = refl;
  count = refl;
  means = record { plain = λ never. refl; pixels = two_numbers (pos 13) (pos 14) (omega arith) (omega arith); len = refl; meaning = (refl, refl) };
}

rows_have : RowsHaveNumbers sum_file sum_facts six_tiles six_olds
rows_have = (
  stands_by sum_file sum_facts plain_plan plain_table 0 old_0 plan_is table_is row_0,
  (
    stands_by sum_file sum_facts plain_plan plain_table 1 old_1 plan_is table_is row_1,
    (
      stands_by sum_file sum_facts plain_plan plain_table 3 old_3 plan_is table_is row_3,
      (stands_by sum_file sum_facts plain_plan plain_table 4 old_4 plan_is table_is row_4, tt),
    ),
  ),
)

numbers : BoxHasNumbers sum_file sum_facts (given_by six_file six_job) six_olds
numbers = subst (λ ts. RowsHaveNumbers sum_file sum_facts ts six_olds) (sym tiles_here) rows_have

-- ---- the writes

codes_here : new_codes (plan_in sum_file sum_facts) (given_by six_file six_job) (box_tiles (plan_in sum_file sum_facts) (given_by six_file six_job)) six_olds ≡ six_codes
codes_here = (λ j. new_codes (plan_is j) (six_given_is six_job j) (tiles_here j) six_olds) ∙ six_codes_are

not_wide : is_wide_table (block_of sum_file_cards) ≡ false
unfolding first_among first_named columns_len column_called elements_len form_in integer_of text_of quoted numbered_name digits end_among
not_wide = refl

heap_has : length (heap_of six_codes) ≡ 12
unfolding heap_of
heap_has = refl

len_is : codes_len sum_file sum_facts (given_by six_file six_job) six_olds ≡ 12
len_is = ap (λ es. length (heap_of es)) codes_here ∙ heap_has

room : first_refusal (room_check sum_file sum_facts (codes_len sum_file sum_facts (given_by six_file six_job) six_olds) ∷ []) ≡ None
room =
    (λ j. first_refusal ((
      (not (not_wide j) && nat_lt 2147483647 (15 + len_is j)) || (nat_lt (10 ^ 18 - 1) (15 + len_is j) || nat_lt (2 ^ 62) (grown_end sum_facts (len_is j))),
      (room_check sum_file sum_facts 0).1,
    )
    ∷ []))
    ∙ refl

heap_is : heap_writes sum_file sum_facts six_codes ≡ six_steps.heap
unfolding heap_of
heap_is = (λ j. code_writes (heap_end (table_is j)) six_codes ++ zero_writes (heap_end (table_is j) + 12) (grown_end sum_facts 12)) ∙ refl

pcount_is : pcount_writes sum_file sum_facts 12 ≡ six_steps.pcount
unfolding integer_of
pcount_is = ap (λ c. amend_of 3280 c ∷ []) made_27

forms_are : column_writes sum_file sum_facts six_tiles six_codes ≡ []
unfolding plan_of_cards number_behind first_among first_named columns_len column_called elements_len form_in integer_of text_of quoted numbered_name digits end_among
forms_are = refl

plan_here : table_plan sum_file sum_facts ≡ plain_plan
plan_here = (λ j. record (plan_is j) { wide = not_wide j }) ∙ refl

rows_are : row_writes (image_table sum_file sum_facts) (table_plan sum_file sum_facts) (image_table sum_file sum_facts).heap_len (zip six_tiles six_codes) ≡ six_steps.rows
rows_are = (λ j. row_writes (table_is j) (plan_here j) (table_is j).heap_len (zip six_tiles six_codes)) ∙ refl

-- ---- the checksums

abbrev table_now : List ℕ
table_now = applied (before_sums six_steps) sum_file

told_datasum : told_sum datasum_name (header_in table_now sum_facts) ≡ Some 21
unfolding text_of quoted end_among
told_datasum = refl

data_sum : ones_sum (data_now table_now sum_facts) ≡ 472131746
unfolding ones_sum word_total carried integer_of
data_sum = refl

last_digit : (n : ℕ) (front : List ℕ) → 10 ≤ n → n < 2 ^ 64 → decimal (n / 10) ≡ front → decimal n ≡ front ++ (48 + n % 10) ∷ []
last_digit n front more small e = decimal_step n more small ∙ ap (λ d. d ++ (48 + n % 10) ∷ []) e

decimal_sum : decimal 472131746 ≡ codes "472131746"
decimal_sum =
    last_digit 472131746 (codes "47213174") (omega arith) (omega arith)
    (last_digit 47213174 (codes "4721317") (omega arith) (omega arith)
    (last_digit 4721317 (codes "472131") (omega arith) (omega arith)
    (last_digit 472131 (codes "47213") (omega arith) (omega arith)
    (last_digit 47213 (codes "4721") (omega arith) (omega arith)
    (last_digit 4721 (codes "472") (omega arith) (omega arith)
    (last_digit 472 (codes "47") (omega arith) (omega arith)
    (decimal-digits_of 47 (omega arith) (omega arith))))))))

made_datasum : datasum_card 472131746 ≡ card_of (codes "DATASUM = '472131746'")
unfolding datasum_card text_card_bytes
made_datasum = rw decimal_sum refl

datasum_is : datasum_writes table_now sum_facts ≡ amend_of 4560 (card_of (codes "DATASUM = '472131746'")) ∷ []
datasum_is = (λ j. datasum_write table_now sum_facts (told_datasum j)) ∙ ap (λ c. amend_of 4560 c ∷ []) (ap datasum_card data_sum ∙ made_datasum)

abbrev table_then : List ℕ
table_then = applied (amend_of 4560 (card_of (codes "DATASUM = '472131746'")) ∷ []) table_now

told_checksum : told_sum checksum_name (header_in table_then sum_facts) ≡ Some 22
unfolding text_of quoted end_among
told_checksum = refl

hdu_sum : ones_sum (with_card 22 blank_checksum_card (header_in table_then sum_facts) ++ data_now table_then sum_facts) ≡ 432654573
unfolding ones_sum word_total carried integer_of blank_checksum_card text_card_bytes
hdu_sum = refl

made_checksum : checksum_card 432654573 ≡ card_of (codes "CHECKSUM= '4kCD6i994iAA4i99'")
unfolding checksum_card characters byte_characters text_card_bytes
made_checksum = refl

checksum_is : checksum_writes table_then sum_facts ≡ amend_of 4640 (card_of (codes "CHECKSUM= '4kCD6i994iAA4i99'")) ∷ []
checksum_is = (λ j. checksum_write table_then sum_facts (told_checksum j)) ∙ ap (λ c. amend_of 4640 c ∷ []) (ap checksum_card hdu_sum ∙ made_checksum)

sums_are : sum_writes table_now sum_facts ≡ sum_steps.sums
sums_are = (λ j. datasum_is j ++ checksum_writes (applied (datasum_is j) table_now) sum_facts) ∙ ap (λ ws. amend_of 4560 (card_of (codes "DATASUM = '472131746'")) ∷ ws) checksum_is

table_steps_are : table_steps sum_file sum_facts six_tiles six_codes ≡ six_steps
unfolding heap_of
table_steps_are = λ j. record { heap = heap_is j; pcount = pcount_is j; forms = forms_are j; rows = rows_are j; sums = [] }

abbrev with_sums : Steps → Steps
with_sums s = record s { sums = sum_writes (applied (before_sums s) sum_file) sum_facts }

steps_are : steps_of sum_file sum_facts (given_by six_file six_job) six_olds ≡ sum_steps
unfolding steps_of
steps_are =
    (λ j. with_sums (table_steps sum_file sum_facts (tiles_here j) (codes_here j)))
    ∙ (ap with_sums table_steps_are
    ∙ (λ j. record six_steps { sums = sums_are j }))

pub sum_are : ArePatchSteps sum_file six_file six_job sum_facts sum_steps
sum_are = record { target = target; olds = six_olds; numbers = numbers; room = room; steps_are = sym steps_are }
