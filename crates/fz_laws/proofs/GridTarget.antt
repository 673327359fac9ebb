-- The packed file of `PlainFile` and the images that are put into it, by the definitions.
use Rattle.std.proofs.Common.{◌≡◌, ℕ, true, false, Bool, flat_map, pos, List, [], ◌∷◌, not, Some, None, Ok, refl, ◌∙◌, ap}
use Rattle.std.specs.Fmt.{digits}
use Rattle.std.specs.List.{range_with_len}
use Rattle.fz_base.specs.Refusal.{first_refusal, refusal}
use Rattle.fz_base.specs.declared.fault.Fault.{Fault}
use Rattle.fz_base.specs.declared.fault.Place.TheVariants.{Byte, Card}
use Rattle.fz_base.specs.declared.kind.Kind.TheVariants.{BadPatch, OutOfBox}
use Rattle.fz_card.specs.Made.{numbered_name}
use Rattle.fz_card.specs.Naming.{number_behind}
use Rattle.fz_card.specs.Quoted.{quoted}
use Rattle.fz_card.specs.Reading.{integer_of, logical_of, text_of}
use Rattle.fz_block.specs.Cards.{end_among, first_among}
use Rattle.fz_block.specs.Checks.{header_blocks_of, header_of, hdu_at, headers_of}
use Rattle.fz_block.specs.Hdus.{cards_of}
use Rattle.fz_block.specs.declared.header.Header.{Header}
use Rattle.fz_block.specs.declared.header.Sort.TheVariants.{Primary}
use Rattle.fz_table.specs.Columns.{column_called, columns_len, first_named}
use Rattle.fz_table.specs.Forms.{elements_len, form_in}
use Rattle.fz_table.specs.Tables.{table_checks}
use Rattle.fz_table.specs.declared.table.Table.{Table}
use Rattle.fz_checks.specs.JobChecks.{axis_inside, image_checks, packed_card_checks}
use Rattle.fz_head.specs.Packable.{is_packed}
use Rattle.fz_head.specs.PackedChecks.{packed_checks}
use Rattle.fz_head.specs.PackedPlan.{plan_of_cards}
use Rattle.fz_head.specs.PlainHeader.{axis_count}
use Rattle.fz_files.specs.CutFile.{table_facts}
use Rattle.fz_files.specs.HandMade.{block_of}
use Rattle.fz_files.specs.PlainFile.{plain_cards, plain_file, plain_plan}
use Rattle.fz_files.specs.Restored.{image_table, plan_in}
use Rattle.fz_laws.specs.PatchChecks.{corner_check, find_hdu_checks, form_check, given_check, inside_checks, last_check, may_be_given, patch_target, target_checks}
use Rattle.fz_laws.specs.FirstPatchFault.{IsFirstPatchFault}
use Rattle.fz_laws.specs.PatchForm.{has_form}
use Rattle.fz_laws.specs.Given.{Given, PatchJob, array_if, box_region, given_by, given_header}
use Rattle.fz_laws.specs.GridPatch.{six_file, six_job}
use Rattle.fz_laws.specs.PatchFaults.{axis_fault, axis_job, given_fault, past_axis_fault, past_axis_job}
use Rattle.fz_laws.proofs.Passes.{joined_pass}
use Rattle.fz_laws.proofs.Walked.{HasTable, at_corner, at_given, by_box, first_by_target, found_table, target_by, two_headers}

-- the header of the empty primary
abbrev pub first_facts : Header
first_facts = record {
  hdu = 0;
  start = 0;
  cards = 4;
  blocks = 1;
  sort = Primary;
  bitpix = pos 8;
  axes = record { n = 0; len = 0 ∷ 0 ∷ 0 ∷ 0 ∷ 0 ∷ 0 ∷ 0 ∷ 0 ∷ 0 ∷ [] };
  pcount = 0;
  gcount = 1;
  data_len = 0;
}

first_at : hdu_at 0 0 plain_file ≡ Ok first_facts
unfolding hdu_at header_blocks_of header_of end_among first_among integer_of logical_of text_of quoted
first_at = refl

table_at : hdu_at 1 2880 plain_file ≡ Ok table_facts
unfolding hdu_at header_blocks_of header_of end_among first_among integer_of logical_of text_of quoted numbered_name digits
table_at = refl

pub cards_are : cards_of (block_of plain_cards) ≡ plain_cards
unfolding end_among
cards_are = refl

plan_of : plan_of_cards plain_cards ≡ plain_plan
unfolding plan_of_cards integer_of text_of quoted number_behind numbered_name digits
plan_of = refl

pub plan_is : plan_in plain_file table_facts ≡ plain_plan
plan_is = ap plan_of_cards cards_are ∙ plan_of

-- the table, whose rows begin at byte 5760 of the file
abbrev pub plain_table : Table
plain_table = record {
  row_bytes = 16;
  rows = 6;
  rows_at = 5760;
  heap_at = 5856;
  heap_len = 15;
  coded = Some (record { at = 0; wide = false; unit = 1 });
  stored = Some (record { at = 8; wide = false; unit = 1 });
  gzip = None;
}

pub table_is : image_table plain_file table_facts ≡ plain_table
unfolding first_among first_named columns_len column_called elements_len form_in integer_of text_of quoted numbered_name digits end_among
table_is = refl

pub packed : is_packed (block_of plain_cards) table_facts ≡ true
unfolding is_packed end_among logical_of
packed = refl

card_checks_none : first_refusal (packed_card_checks table_facts (block_of plain_cards)) ≡ None
unfolding is_packed end_among logical_of number_behind numbered_name digits
card_checks_none = refl

table_checks_none : first_refusal (table_checks (block_of plain_cards) table_facts) ≡ None
unfolding first_among first_named columns_len column_called elements_len form_in integer_of text_of quoted numbered_name digits end_among
table_checks_none = refl

plan_checks_none : first_refusal (packed_checks 1 (block_of plain_cards) true) ≡ None
unfolding integer_of logical_of text_of quoted number_behind numbered_name digits end_among
plan_checks_none = refl

pub checks_none : first_refusal (find_hdu_checks plain_file table_facts) ≡ None
unfolding integer_of
checks_none =
    joined_pass (packed_card_checks table_facts (block_of plain_cards)) (image_checks table_facts (block_of plain_cards) true) card_checks_none
    (joined_pass (table_checks (block_of plain_cards) table_facts) (packed_checks 1 (block_of plain_cards) true) table_checks_none plan_checks_none)

pub has_first : HasTable plain_file None first_facts table_facts
unfolding is_packed
has_first = record { first = first_at; table = table_at; more = refl; passed = refl; packed = packed; checks = checks_none }

pub has_second : HasTable plain_file (Some 1) first_facts table_facts
has_second = record { first = first_at; table = table_at; more = refl; passed = refl; packed = refl; checks = checks_none }

pub all_headers : headers_of 65536 plain_file ≡ Ok (first_facts ∷ table_facts ∷ [])
all_headers = two_headers plain_file None first_facts table_facts has_first refl

-- ---- the form

form_is : has_form (block_of plain_cards) table_facts plain_plan ≡ true
unfolding first_among first_named columns_len column_called elements_len form_in integer_of text_of quoted numbered_name digits end_among
form_is = refl

pub form_none : (form_check plain_file table_facts).0 ≡ false
form_none = ap (λ p. not (has_form (block_of plain_cards) table_facts p)) plan_is ∙ ap not form_is

-- ---- six pixels

abbrev pub six_facts : Header
six_facts = record {
  hdu = 0;
  start = 0;
  cards = 5;
  blocks = 1;
  sort = Primary;
  bitpix = pos 8;
  axes = record { n = 2; len = 3 ∷ 2 ∷ 0 ∷ 0 ∷ 0 ∷ 0 ∷ 0 ∷ 0 ∷ 0 ∷ [] };
  pcount = 0;
  gcount = 1;
  data_len = 6;
}

pub six_at : given_header six_file ≡ Ok six_facts
unfolding hdu_at header_blocks_of header_of end_among first_among integer_of logical_of text_of quoted numbered_name digits
six_at = refl

pub last_none : (last_check plain_file table_facts).0 ≡ false
last_none = refl

corner_none : (corner_check plain_file table_facts six_job).0 ≡ false
unfolding integer_of end_among
corner_none = refl

given_none : (given_check plain_file six_file table_facts).0 ≡ false
given_none = (λ j. not (may_be_given (plan_is j) (six_at j))) ∙ refl

-- what is put into the image
abbrev pub six_given : List ℕ → Given
six_given corner = record { corner = corner; array = record { lengths = 3 ∷ 2 ∷ []; numbers = pos 0 ∷ pos 0 ∷ pos 0 ∷ pos 0 ∷ pos 0 ∷ pos 0 ∷ [] } }

pub six_given_is : (job : PatchJob) → given_by six_file job ≡ six_given job.corner
six_given_is job = (λ j. record { corner = job.corner; array = array_if six_file (six_at j) }) ∙ refl

-- the box, by its corner
abbrev pub inside_of : Given → List (Bool × Fault)
inside_of g = flat_map (λ i. axis_inside 1 (cards_of (block_of plain_cards)) (box_region g) i ∷ []) (range_with_len 0 (axis_count (cards_of (block_of plain_cards))))

pub inside_by : (job : PatchJob) → first_refusal (inside_checks plain_file six_file table_facts job) ≡ first_refusal (inside_of (six_given job.corner))
inside_by job = λ j. first_refusal (inside_of (six_given_is job j))

pub inside_none : first_refusal (inside_of (six_given (1 ∷ 1 ∷ []))) ≡ None
unfolding integer_of numbered_name digits end_among
inside_none = refl

pub six_none : first_refusal (target_checks plain_file six_file table_facts six_job) ≡ None
six_none = by_box plain_file six_file table_facts six_job last_none form_none corner_none given_none ∙ (inside_by six_job ∙ inside_none)

pub six_target : patch_target plain_file six_file six_job ≡ Ok table_facts
six_target = target_by plain_file six_file six_job (first_facts ∷ table_facts ∷ []) table_facts None all_headers (found_table plain_file None first_facts table_facts has_first) six_none

-- ---- faults of the target

past_inside : first_refusal (inside_of (six_given (3 ∷ 1 ∷ []))) ≡ past_axis_fault
unfolding integer_of numbered_name digits end_among
past_inside = refl

past_corner : (corner_check plain_file table_facts past_axis_job).0 ≡ false
unfolding integer_of end_among
past_corner = refl

pub past_axis_first : IsFirstPatchFault plain_file six_file past_axis_job past_axis_fault
past_axis_first =
    first_by_target plain_file six_file past_axis_job (refusal 1 (Card 19) OutOfBox)
    (target_by plain_file six_file past_axis_job (first_facts ∷ table_facts ∷ []) table_facts past_axis_fault all_headers (found_table plain_file None first_facts table_facts has_first)
    (by_box plain_file six_file table_facts past_axis_job last_none form_none past_corner given_none ∙ (inside_by past_axis_job ∙ past_inside)))

axis_refuses : (corner_check plain_file table_facts axis_job).0 ≡ true
unfolding integer_of end_among
axis_refuses = refl

axis_at : Some (corner_check plain_file table_facts axis_job).1 ≡ axis_fault
unfolding integer_of end_among
axis_at = refl

pub axis_first : IsFirstPatchFault plain_file plain_file axis_job axis_fault
axis_first =
    first_by_target plain_file plain_file axis_job (refusal 1 (Card 18) OutOfBox)
    (target_by plain_file plain_file axis_job (first_facts ∷ table_facts ∷ []) table_facts axis_fault all_headers (found_table plain_file None first_facts table_facts has_first)
    (at_corner plain_file plain_file table_facts axis_job last_none form_none axis_refuses ∙ axis_at))

given_refuses : (given_check plain_file plain_file table_facts).0 ≡ true
given_refuses = (λ j. not (may_be_given (plan_is j) (first_at j))) ∙ refl

pub given_first : IsFirstPatchFault plain_file plain_file six_job given_fault
given_first =
    first_by_target plain_file plain_file six_job (refusal 0 (Byte 0) BadPatch)
    (target_by plain_file plain_file six_job (first_facts ∷ table_facts ∷ []) table_facts given_fault all_headers (found_table plain_file None first_facts table_facts has_first)
    (at_given plain_file plain_file table_facts six_job last_none form_none corner_none given_refuses))
