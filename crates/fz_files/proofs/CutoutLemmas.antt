-- The cutout of the packed file of `PlainFile`, by the definitions.
use Rattle.std.specs.List.{AllByRecursion}
use Rattle.std.proofs.Common.{◌≡◌, [], ◌∷◌, None, refl, sym, subst, ◌∙◌, ap}
use Rattle.std.specs.Fmt.{digits}
use Rattle.fz_card.specs.Made.{int_card_bytes, logical_card_bytes, numbered_name}
use Rattle.fz_card.specs.Naming.{number_behind, plain_name, is_dropped}
use Rattle.fz_card.specs.Quoted.{quoted}
use Rattle.fz_card.specs.Reading.{integer_of, text_of}
use Rattle.fz_card.specs.Tables.{renamings, packed_names, own_names}
use Rattle.fz_card.specs.DecimalReading.{decimal_of, shifted}
use Rattle.fz_card.specs.DecimalScans.{decimal_in}
use Rattle.fz_head.specs.PlainHeader.{cutout_header}
use Rattle.fz_files.specs.declared.job.Job.TheVariants.{Cut}
use Rattle.fz_files.specs.CutFile.{table_facts, box_sieve, box_numbers, box_file, reference_cards, moved_cards, second_sieve, kept_cards, mixed_cards, third_sieve, unmixed_cards}
use Rattle.fz_files.specs.CutoutBytes.{IsCutout, cutout_bytes, cutout_cards}
use Rattle.fz_files.specs.FirstFault.{IsFirstFault, IsFaultBehind, IsFirstRowFault}
use Rattle.fz_files.specs.PlainFile.{plain_cards, plain_file, plain_plan}
use Rattle.fz_files.specs.Walks.{found_headers, headers_for, job_walk, last_of}
use Rattle.fz_files.proofs.CutFileLemmas.{box_is, box_box, box_tiles, cards_are, no_fault, plan_is, rows_are, walk_is}
use Rattle.fz_files.proofs.StandingLemmas.{RowStands, rows_stand, sound_rows}

box_rows : AllByRecursion RowStands (0 ∷ 1 ∷ 3 ∷ 4 ∷ [])
box_rows = (rows_stand.0, (rows_stand.1.0, (rows_stand.1.1.1.0, (rows_stand.1.1.1.1.0, tt))))

is_sound : IsFirstFault (Cut None box_sieve) plain_file None
is_sound =
    subst (λ r. IsFaultBehind r (Cut None box_sieve) plain_file None) (sym (no_fault box_sieve box_box))
    (subst (λ rows. IsFirstRowFault plain_file rows None) (sym (rows_are box_sieve (0 ∷ 1 ∷ 3 ∷ 4 ∷ []) box_box box_tiles)) (sound_rows (0 ∷ 1 ∷ 3 ∷ 4 ∷ []) box_rows))

last_is : last_of (headers_for (Cut None box_sieve) plain_file) ≡ table_facts ∷ []
unfolding job_walk
last_is = ap (λ r. last_of (found_headers r)) (walk_is box_sieve box_box)

bytes_are : cutout_bytes plain_plan plain_cards box_sieve box_numbers ≡ box_file
unfolding cutout_header plain_name is_dropped renamings packed_names own_names number_behind numbered_name digits int_card_bytes logical_card_bytes integer_of text_of quoted
bytes_are = refl

pub cutout_is : IsCutout None box_sieve plain_file box_file
cutout_is = record {
  sound = is_sound;
  header = table_facts;
  last = last_is;
  numbers = box_numbers;
  cut = box_is;
  made = sym ((λ i. cutout_bytes (plan_is i) (cards_are i) box_sieve box_numbers) ∙ bytes_are);
}

pub moved_are : cutout_cards box_sieve reference_cards ≡ moved_cards
unfolding cutout_header plain_name is_dropped renamings packed_names own_names number_behind numbered_name digits int_card_bytes logical_card_bytes integer_of text_of quoted shifted decimal_of decimal_in
moved_are = refl

pub kept_are : cutout_cards second_sieve reference_cards ≡ kept_cards
unfolding cutout_header plain_name is_dropped renamings packed_names own_names number_behind numbered_name digits int_card_bytes logical_card_bytes integer_of text_of quoted
kept_are = refl

pub unmixed_are : cutout_cards third_sieve mixed_cards ≡ unmixed_cards
unfolding cutout_header plain_name is_dropped renamings packed_names own_names number_behind numbered_name digits int_card_bytes logical_card_bytes integer_of text_of quoted shifted decimal_of decimal_in
unmixed_are = refl
