-- The patch of six pixels, by the definitions.
use Rattle.std.proofs.Common.{◌≡◌, ℕ, ◌+◌, ◌-◌, ◌^◌, ◌&&◌, ◌||◌, not, nat_lt, false, ℤ, pos, List, [], ◌∷◌, ◌++◌, length, zip, All, codes, decimal, None, inr, refl, sym, ◌∙◌, ap, subst, arith}
use Rattle.std.proofs.lemmas.Fmt.{decimal-digits_of}
use Rattle.std.proofs.lemmas.List.Elements.{All-cons, All-nil}
use Rattle.std.specs.Fmt.{digits}
use Rattle.fz_base.specs.Refusal.{first_refusal}
use Rattle.fz_bits.specs.Numbers.{IsNumber}
use Rattle.fz_card.specs.Layout.{padded}
use Rattle.fz_card.specs.Made.{int_card_bytes, numbered_name, right_aligned, value_card}
use Rattle.fz_card.specs.Naming.{number_behind}
use Rattle.fz_card.specs.Quoted.{quoted}
use Rattle.fz_card.specs.Reading.{integer_of, text_of}
use Rattle.fz_block.specs.Cards.{end_among, first_among}
use Rattle.fz_table.specs.Columns.{column_called, columns_len, first_named}
use Rattle.fz_table.specs.Forms.{elements_len, form_in}
use Rattle.fz_table.specs.Records.{record_of}
use Rattle.fz_table.specs.declared.record.Record.{Record}
use Rattle.fz_table.specs.declared.record.TileColumn.TheVariants as column
use Rattle.fz_tile.specs.TileCode.{TileCode}
use Rattle.fz_tile.specs.declared.coded.Place2.TheVariants.{Stored}
use Rattle.fz_head.specs.PackedHeader.{number_card}
use Rattle.fz_head.specs.PackedPlan.{plan_of_cards}
use Rattle.fz_files.specs.CutFile.{table_facts}
use Rattle.fz_files.specs.HandMade.{block_of, card_of}
use Rattle.fz_files.specs.Packed.{heap_of}
use Rattle.fz_files.specs.PlainFile.{plain_cards, plain_file, plain_plan, stored}
use Rattle.fz_files.specs.Restored.{image_table, plan_in}
use Rattle.fz_laws.specs.Amends.{amend_of, applied}
use Rattle.fz_laws.specs.FirstPatchFault.{ArePatchSteps, BoxHasNumbers, IsFaultBehindTarget, IsFirstPatchFault, IsPatchedFile, RowsHaveNumbers, codes_len, room_check}
use Rattle.fz_laws.specs.PatchForm.{is_wide_table}
use Rattle.fz_laws.specs.Given.{given_by}
use Rattle.fz_laws.specs.GridPatch.{six_file, six_job, six_patched, six_steps, six_tiles, six_writes}
use Rattle.fz_laws.specs.NewNumbers.{box_tiles}
use Rattle.fz_laws.specs.Writes.{Steps, all_writes, before_sums, code_writes, column_writes, grown_end, heap_end, heap_writes, new_codes, pcount_writes, row_writes, steps_of, sum_writes, table_plan, table_steps, zero_writes}
use Rattle.fz_laws.proofs.GridTarget.{plain_table, plan_is, six_given, six_given_is, six_target, table_is}
use Rattle.fz_laws.proofs.Walked.{RowIsOf, stands_by}

-- ---- the tiles, and their old numbers

pub six_box : box_tiles plain_plan (six_given (1 ∷ 1 ∷ [])) ≡ six_tiles
six_box = refl

pub six_tiles_are : box_tiles plain_plan (given_by six_file six_job) ≡ six_tiles
six_tiles_are = ap (box_tiles plain_plan) (six_given_is six_job) ∙ six_box

six_tiles_here : box_tiles (plan_in plain_file table_facts) (given_by six_file six_job) ≡ six_tiles
six_tiles_here = (λ j. box_tiles (plan_is j) (given_by six_file six_job)) ∙ six_tiles_are

-- a tile that stands as so many plain bytes at a byte of the file
abbrev pub stored_at : ℕ → ℕ → Record
stored_at start len = record { column = column.Stored; start = start; total = len; read = len }

abbrev pub old_0 : List ℤ
old_0 = pos 1 ∷ pos 2 ∷ pos 6 ∷ pos 7 ∷ []

abbrev pub old_1 : List ℤ
old_1 = pos 3 ∷ pos 4 ∷ pos 8 ∷ pos 9 ∷ []

abbrev pub old_3 : List ℤ
old_3 = pos 11 ∷ pos 12 ∷ []

abbrev pub old_4 : List ℤ
old_4 = pos 13 ∷ pos 14 ∷ []

abbrev pub six_olds : List (List ℤ)
six_olds = old_0 ∷ old_1 ∷ old_3 ∷ old_4 ∷ []

pub four_numbers : (a b c d : ℤ) → IsNumber 8 a → IsNumber 8 b → IsNumber 8 c → IsNumber 8 d → All (IsNumber 8) (a ∷ b ∷ c ∷ d ∷ [])
four_numbers a b c d one two three four =
    All-cons (IsNumber 8) a (b ∷ c ∷ d ∷ []) one
    (All-cons (IsNumber 8) b (c ∷ d ∷ []) two
    (All-cons (IsNumber 8) c (d ∷ []) three
    (All-cons (IsNumber 8) d [] four (All-nil (IsNumber 8)))))

pub two_numbers : (a b : ℤ) → IsNumber 8 a → IsNumber 8 b → All (IsNumber 8) (a ∷ b ∷ [])
two_numbers a b one two = All-cons (IsNumber 8) a (b ∷ []) one (All-cons (IsNumber 8) b [] two (All-nil (IsNumber 8)))

pub one_number : (a : ℤ) → IsNumber 8 a → All (IsNumber 8) (a ∷ [])
one_number a one = All-cons (IsNumber 8) a [] one (All-nil (IsNumber 8))

row_0 : RowIsOf plain_file 1 plain_plan plain_table 0 old_0
unfolding record_of
row_0 = record {
  found = stored_at 5856 4;
  chosen = refl;
  count = refl;
  means = record { plain = λ never. refl; pixels = four_numbers (pos 1) (pos 2) (pos 6) (pos 7) (omega arith) (omega arith) (omega arith) (omega arith); len = refl; meaning = (refl, refl) };
}

row_1 : RowIsOf plain_file 1 plain_plan plain_table 1 old_1
unfolding record_of
row_1 = record {
  found = stored_at 5860 4;
  chosen = refl;
  count = refl;
  means = record { plain = λ never. refl; pixels = four_numbers (pos 3) (pos 4) (pos 8) (pos 9) (omega arith) (omega arith) (omega arith) (omega arith); len = refl; meaning = (refl, refl) };
}

row_3 : RowIsOf plain_file 1 plain_plan plain_table 3 old_3
unfolding record_of
row_3 = record {
  found = stored_at 5866 2;
  chosen = refl;
  count = refl;
  means = record { plain = λ never. refl; pixels = two_numbers (pos 11) (pos 12) (omega arith) (omega arith); len = refl; meaning = (refl, refl) };
}

row_4 : RowIsOf plain_file 1 plain_plan plain_table 4 old_4
unfolding record_of
row_4 = record {
  found = stored_at 5868 2;
  chosen = refl;
  count = refl;
  means = record { plain = λ never. refl; pixels = two_numbers (pos 13) (pos 14) (omega arith) (omega arith); len = refl; meaning = (refl, refl) };
}

rows_have : RowsHaveNumbers plain_file table_facts six_tiles six_olds
rows_have = (
  stands_by plain_file table_facts plain_plan plain_table 0 old_0 plan_is table_is row_0,
  (
    stands_by plain_file table_facts plain_plan plain_table 1 old_1 plan_is table_is row_1,
    (
      stands_by plain_file table_facts plain_plan plain_table 3 old_3 plan_is table_is row_3,
      (stands_by plain_file table_facts plain_plan plain_table 4 old_4 plan_is table_is row_4, tt),
    ),
  ),
)

pub six_numbers : BoxHasNumbers plain_file table_facts (given_by six_file six_job) six_olds
six_numbers = subst (λ ts. RowsHaveNumbers plain_file table_facts ts six_olds) (sym six_tiles_here) rows_have

-- ---- the new codes

abbrev pub six_codes : List TileCode
six_codes =
    stored (0x01 ∷ 0x02 ∷ 0x06 ∷ 0x00 ∷ [])
    ∷ stored (0x03 ∷ 0x04 ∷ 0x00 ∷ 0x00 ∷ [])
    ∷ stored (0x0B ∷ 0x00 ∷ [])
    ∷ stored (0x00 ∷ 0x00 ∷ [])
    ∷ []

pub six_codes_are : new_codes plain_plan (six_given (1 ∷ 1 ∷ [])) six_tiles six_olds ≡ six_codes
six_codes_are = refl

six_codes_here : new_codes (plan_in plain_file table_facts) (given_by six_file six_job) (box_tiles (plan_in plain_file table_facts) (given_by six_file six_job)) six_olds ≡ six_codes
six_codes_here = (λ j. new_codes (plan_is j) (six_given_is six_job j) (six_tiles_here j) six_olds) ∙ six_codes_are

pub not_wide : is_wide_table (block_of plain_cards) ≡ false
unfolding first_among first_named columns_len column_called elements_len form_in integer_of text_of quoted numbered_name digits end_among
not_wide = refl

heap_has : length (heap_of six_codes) ≡ 12
unfolding heap_of
heap_has = refl

len_is : codes_len plain_file table_facts (given_by six_file six_job) six_olds ≡ 12
len_is = ap (λ es. length (heap_of es)) six_codes_here ∙ heap_has

pub six_room : first_refusal (room_check plain_file table_facts (codes_len plain_file table_facts (given_by six_file six_job) six_olds) ∷ []) ≡ None
six_room =
    (λ j. first_refusal ((
      (not (not_wide j) && nat_lt 2147483647 (15 + len_is j)) || (nat_lt (10 ^ 18 - 1) (15 + len_is j) || nat_lt (2 ^ 62) (grown_end table_facts (len_is j))),
      (room_check plain_file table_facts 0).1,
    )
    ∷ []))
    ∙ refl

-- ---- the writes

heap_is : heap_writes plain_file table_facts six_codes ≡ six_steps.heap
unfolding heap_of
heap_is = (λ j. code_writes (heap_end (table_is j)) six_codes ++ zero_writes (heap_end (table_is j) + 12) (grown_end table_facts 12)) ∙ refl

pub made_27 : number_card (codes "PCOUNT") 27 ≡ card_of (codes "PCOUNT  =                   27")
unfolding int_card_bytes
made_27 = ap (λ d. value_card (padded (codes "PCOUNT")) (right_aligned 20 d)) (decimal-digits_of 27 (omega arith) (omega arith))

pcount_is : pcount_writes plain_file table_facts 12 ≡ six_steps.pcount
unfolding integer_of
pcount_is = ap (λ c. amend_of 3280 c ∷ []) made_27

forms_are : column_writes plain_file table_facts six_tiles six_codes ≡ []
unfolding plan_of_cards number_behind first_among first_named columns_len column_called elements_len form_in integer_of text_of quoted numbered_name digits end_among
forms_are = refl

pub plan_here : table_plan plain_file table_facts ≡ plain_plan
plan_here = (λ j. record (plan_is j) { wide = not_wide j }) ∙ refl

rows_are : row_writes (image_table plain_file table_facts) (table_plan plain_file table_facts) (image_table plain_file table_facts).heap_len (zip six_tiles six_codes) ≡ six_steps.rows
rows_are = (λ j. row_writes (table_is j) (plan_here j) (table_is j).heap_len (zip six_tiles six_codes)) ∙ refl

sums_are : sum_writes (applied (before_sums six_steps) plain_file) table_facts ≡ []
unfolding text_of quoted end_among
sums_are = refl

table_steps_are : table_steps plain_file table_facts six_tiles six_codes ≡ six_steps
unfolding heap_of
table_steps_are = λ j. record { heap = heap_is j; pcount = pcount_is j; forms = forms_are j; rows = rows_are j; sums = [] }

abbrev with_sums : Steps → Steps
with_sums s = record s { sums = sum_writes (applied (before_sums s) plain_file) table_facts }

steps_are : steps_of plain_file table_facts (given_by six_file six_job) six_olds ≡ six_steps
unfolding steps_of
steps_are =
    (λ j. with_sums (table_steps plain_file table_facts (six_tiles_here j) (six_codes_here j)))
    ∙ (ap with_sums table_steps_are
    ∙ (λ j. record six_steps { sums = sums_are j }))

pub six_are : ArePatchSteps plain_file six_file six_job table_facts six_steps
six_are = record { target = six_target; olds = six_olds; numbers = six_numbers; room = six_room; steps_are = sym steps_are }

pub six_sound : IsFirstPatchFault plain_file six_file six_job None
six_sound =
    subst (λ r. IsFaultBehindTarget plain_file (given_by six_file six_job) r None) (sym six_target)
    (inr (six_olds, six_numbers, sym six_room))

-- ---- the patched file

pub six_order : all_writes six_steps ≡ six_writes
six_order = refl

patched_is : applied (all_writes six_steps) plain_file ≡ six_patched
patched_is = refl

pub six_file_is : IsPatchedFile plain_file six_file six_job six_patched
six_file_is = record { header = table_facts; steps = six_steps; are = six_are; made = sym patched_is }
