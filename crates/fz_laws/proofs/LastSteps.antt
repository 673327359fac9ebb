-- The patch of the last pixel, by the definitions.
use Rattle.std.proofs.Common.{◌≡◌, ℕ, ◌+◌, ◌-◌, ◌^◌, ◌&&◌, ◌||◌, not, nat_lt, false, ℤ, pos, List, [], ◌∷◌, ◌++◌, length, zip, codes, decimal, Some, None, Ok, refl, sym, ◌∙◌, ap, subst, arith}
use Rattle.std.proofs.lemmas.Fmt.{decimal-digits_of}
use Rattle.std.specs.Fmt.{digits}
use Rattle.fz_base.specs.Refusal.{first_refusal}
use Rattle.fz_card.specs.Layout.{padded}
use Rattle.fz_card.specs.Made.{int_card_bytes, numbered_name, right_aligned, value_card}
use Rattle.fz_card.specs.Naming.{number_behind}
use Rattle.fz_card.specs.Quoted.{quoted}
use Rattle.fz_card.specs.Reading.{integer_of, logical_of, text_of}
use Rattle.fz_block.specs.Cards.{end_among, first_among}
use Rattle.fz_block.specs.Checks.{header_blocks_of, header_of, hdu_at}
use Rattle.fz_block.specs.declared.header.Header.{Header}
use Rattle.fz_block.specs.declared.header.Sort.TheVariants.{Primary}
use Rattle.fz_table.specs.Columns.{column_called, columns_len, first_named}
use Rattle.fz_table.specs.Forms.{elements_len, form_in}
use Rattle.fz_table.specs.Records.{record_of}
use Rattle.fz_tile.specs.TileCode.{TileCode}
use Rattle.fz_head.specs.PackedHeader.{number_card}
use Rattle.fz_head.specs.PackedPlan.{plan_of_cards}
use Rattle.fz_files.specs.CutFile.{table_facts}
use Rattle.fz_files.specs.HandMade.{card_of}
use Rattle.fz_files.specs.Packed.{heap_of}
use Rattle.fz_files.specs.PlainFile.{plain_file, plain_plan, stored}
use Rattle.fz_files.specs.Restored.{image_table, plan_in}
use Rattle.fz_laws.specs.Amends.{amend_of, applied}
use Rattle.fz_laws.specs.PatchChecks.{corner_check, given_check, inside_checks, may_be_given, patch_target}
use Rattle.fz_laws.specs.FirstPatchFault.{ArePatchSteps, BoxHasNumbers, RowsHaveNumbers, codes_len, room_check}
use Rattle.fz_laws.specs.Given.{Given, array_if, given_by, given_header}
use Rattle.fz_laws.specs.GridPatch.{one_file, one_job, one_steps}
use Rattle.fz_laws.specs.NewNumbers.{box_tiles}
use Rattle.fz_laws.specs.Writes.{Steps, before_sums, code_writes, column_writes, grown_end, heap_end, heap_writes, new_codes, pcount_writes, row_writes, steps_of, sum_writes, table_plan, table_steps, zero_writes}
use Rattle.fz_laws.proofs.GridSteps.{not_wide, one_number, plan_here, stored_at}
use Rattle.fz_laws.proofs.GridTarget.{all_headers, first_facts, form_none, has_second, inside_of, last_none, plain_table, plan_is, table_is}
use Rattle.fz_laws.proofs.Walked.{RowIsOf, by_box, found_table, stands_by, target_by}

-- ---- what is given

abbrev one_facts : Header
one_facts = record {
  hdu = 0;
  start = 0;
  cards = 5;
  blocks = 1;
  sort = Primary;
  bitpix = pos 8;
  axes = record { n = 2; len = 1 ∷ 1 ∷ 0 ∷ 0 ∷ 0 ∷ 0 ∷ 0 ∷ 0 ∷ 0 ∷ [] };
  pcount = 0;
  gcount = 1;
  data_len = 1;
}

one_at : given_header one_file ≡ Ok one_facts
unfolding hdu_at header_blocks_of header_of end_among first_among integer_of logical_of text_of quoted numbered_name digits
one_at = refl

abbrev one_given : Given
one_given = record { corner = 4 ∷ 2 ∷ []; array = record { lengths = 1 ∷ 1 ∷ []; numbers = pos 99 ∷ [] } }

given_is : given_by one_file one_job ≡ one_given
given_is = (λ j. record { corner = 4 ∷ 2 ∷ []; array = array_if one_file (one_at j) }) ∙ refl

corner_none : (corner_check plain_file table_facts one_job).0 ≡ false
unfolding integer_of end_among
corner_none = refl

given_none : (given_check plain_file one_file table_facts).0 ≡ false
given_none = (λ j. not (may_be_given (plan_is j) (one_at j))) ∙ refl

inside_none : first_refusal (inside_of one_given) ≡ None
unfolding integer_of numbered_name digits end_among
inside_none = refl

inside_here : first_refusal (inside_checks plain_file one_file table_facts one_job) ≡ None
inside_here = (λ j. first_refusal (inside_of (given_is j))) ∙ inside_none

target : patch_target plain_file one_file one_job ≡ Ok table_facts
target =
    target_by plain_file one_file one_job (first_facts ∷ table_facts ∷ []) table_facts None all_headers (found_table plain_file (Some 1) first_facts table_facts has_second)
    (by_box plain_file one_file table_facts one_job last_none form_none corner_none given_none ∙ inside_here)

-- ---- the tiles

abbrev one_tiles : List ℕ
one_tiles = 5 ∷ []

box_is : box_tiles plain_plan one_given ≡ one_tiles
box_is = refl

tiles_here : box_tiles (plan_in plain_file table_facts) (given_by one_file one_job) ≡ one_tiles
tiles_here = (λ j. box_tiles (plan_is j) (given_is j)) ∙ box_is

abbrev old_5 : List ℤ
old_5 = pos 15 ∷ []

abbrev one_olds : List (List ℤ)
one_olds = old_5 ∷ []

row_5 : RowIsOf plain_file 1 plain_plan plain_table 5 old_5
unfolding record_of
row_5 = record {
  found = stored_at 5870 1;
  chosen = refl;
  count = refl;
  means = record { plain = λ never. refl; pixels = one_number (pos 15) (omega arith); len = refl; meaning = (refl, refl) };
}

rows_have : RowsHaveNumbers plain_file table_facts one_tiles one_olds
rows_have = (stands_by plain_file table_facts plain_plan plain_table 5 old_5 plan_is table_is row_5, tt)

numbers : BoxHasNumbers plain_file table_facts (given_by one_file one_job) one_olds
numbers = subst (λ ts. RowsHaveNumbers plain_file table_facts ts one_olds) (sym tiles_here) rows_have

-- ---- the writes

abbrev one_codes : List TileCode
one_codes = stored (99 ∷ []) ∷ []

codes_are : new_codes plain_plan one_given one_tiles one_olds ≡ one_codes
codes_are = refl

codes_here : new_codes (plan_in plain_file table_facts) (given_by one_file one_job) (box_tiles (plan_in plain_file table_facts) (given_by one_file one_job)) one_olds ≡ one_codes
codes_here = (λ j. new_codes (plan_is j) (given_is j) (tiles_here j) one_olds) ∙ codes_are

heap_has : length (heap_of one_codes) ≡ 1
unfolding heap_of
heap_has = refl

len_is : codes_len plain_file table_facts (given_by one_file one_job) one_olds ≡ 1
len_is = ap (λ es. length (heap_of es)) codes_here ∙ heap_has

room : first_refusal (room_check plain_file table_facts (codes_len plain_file table_facts (given_by one_file one_job) one_olds) ∷ []) ≡ None
room =
    (λ j. first_refusal ((
      (not (not_wide j) && nat_lt 2147483647 (15 + len_is j)) || (nat_lt (10 ^ 18 - 1) (15 + len_is j) || nat_lt (2 ^ 62) (grown_end table_facts (len_is j))),
      (room_check plain_file table_facts 0).1,
    )
    ∷ []))
    ∙ refl

heap_is : heap_writes plain_file table_facts one_codes ≡ one_steps.heap
unfolding heap_of
heap_is = (λ j. code_writes (heap_end (table_is j)) one_codes ++ zero_writes (heap_end (table_is j) + 1) (grown_end table_facts 1)) ∙ refl

made_16 : number_card (codes "PCOUNT") 16 ≡ card_of (codes "PCOUNT  =                   16")
unfolding int_card_bytes
made_16 = ap (λ d. value_card (padded (codes "PCOUNT")) (right_aligned 20 d)) (decimal-digits_of 16 (omega arith) (omega arith))

pcount_is : pcount_writes plain_file table_facts 1 ≡ one_steps.pcount
unfolding integer_of
pcount_is = ap (λ c. amend_of 3280 c ∷ []) made_16

forms_are : column_writes plain_file table_facts one_tiles one_codes ≡ []
unfolding plan_of_cards number_behind first_among first_named columns_len column_called elements_len form_in integer_of text_of quoted numbered_name digits end_among
forms_are = refl

rows_are : row_writes (image_table plain_file table_facts) (table_plan plain_file table_facts) (image_table plain_file table_facts).heap_len (zip one_tiles one_codes) ≡ one_steps.rows
rows_are = (λ j. row_writes (table_is j) (plan_here j) (table_is j).heap_len (zip one_tiles one_codes)) ∙ refl

sums_are : sum_writes (applied (before_sums one_steps) plain_file) table_facts ≡ []
unfolding text_of quoted end_among
sums_are = refl

table_steps_are : table_steps plain_file table_facts one_tiles one_codes ≡ one_steps
unfolding heap_of
table_steps_are = λ j. record { heap = heap_is j; pcount = pcount_is j; forms = forms_are j; rows = rows_are j; sums = [] }

abbrev with_sums : Steps → Steps
with_sums s = record s { sums = sum_writes (applied (before_sums s) plain_file) table_facts }

steps_are : steps_of plain_file table_facts (given_by one_file one_job) one_olds ≡ one_steps
unfolding steps_of
steps_are =
    (λ j. with_sums (table_steps plain_file table_facts (tiles_here j) (codes_here j)))
    ∙ (ap with_sums table_steps_are
    ∙ (λ j. record one_steps { sums = sums_are j }))

pub one_are : ArePatchSteps plain_file one_file one_job table_facts one_steps
one_are = record { target = target; olds = one_olds; numbers = numbers; room = room; steps_are = sym steps_are }
