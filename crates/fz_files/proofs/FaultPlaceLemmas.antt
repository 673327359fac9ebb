-- The first faults of the files with a fault and its place, by the definitions.
use Rattle.std.proofs.Common.{◌≡◌, true, false, pos, [], ◌∷◌, map, inl, Some, None, Ok, Err, if◌then◌else◌, cond, append-nil, refl, sym, subst, ◌∙◌, ap}
use Rattle.std.specs.Fmt.{digits}
use Rattle.std.specs.List.{filter, flat_map, range_with_len}
use Rattle.fz_base.specs.Refusal.{first_refusal, refusal}
use Rattle.fz_base.specs.declared.fault.Place.TheVariants.{Card, Row as AtRow}
use Rattle.fz_base.specs.declared.kind.Kind.TheVariants.{BadCard, DescriptorRange, Limit, MisplacedPrimary, Reserved}
use Rattle.fz_card.specs.Made.{numbered_name}
use Rattle.fz_card.specs.Naming.{number_behind, plain_name, is_reserved}
use Rattle.fz_card.specs.Quoted.{quoted}
use Rattle.fz_card.specs.Reading.{integer_of, logical_of, text_of}
use Rattle.fz_card.specs.Tables.{renamings, packed_names, foreign_names}
use Rattle.fz_block.specs.Cards.{end_among, first_among}
use Rattle.fz_block.specs.Checks.{header_blocks_of, header_of, hdu_at, unless_refused, walk_of}
use Rattle.fz_block.specs.declared.header.Header.{Header}
use Rattle.fz_block.specs.declared.header.Sort.TheVariants.{BinTable, Primary}
use Rattle.fz_table.specs.Columns.{first_named, columns_len, column_called}
use Rattle.fz_table.specs.Forms.{elements_len, form_in}
use Rattle.fz_table.specs.Records.{record_at, record_of}
use Rattle.fz_table.specs.Tables.{table_checks}
use Rattle.fz_table.specs.declared.table.Table.{Table}
use Rattle.fz_checks.specs.JobChecks.{image_checks, unpack_hdu_checks}
use Rattle.fz_checks.specs.Judges.{pack_judge, unpack_judge}
use Rattle.fz_head.specs.Packable.{is_packable, is_packed}
use Rattle.fz_head.specs.PackedChecks.{packed_checks}
use Rattle.fz_head.specs.PackedPlan.{plan_of_cards}
use Rattle.fz_head.specs.TableChecks.{table_card_checks}
use Rattle.fz_files.specs.declared.job.Job.TheVariants.{Pack, Unpack}
use Rattle.fz_files.specs.CutFile.{table_facts}
use Rattle.fz_files.specs.ExtensionFile.{image_plan, image_table_cards}
use Rattle.fz_files.specs.FaultPlaces.{groups_cards, groups_fault, groups_file, huge_fault, huge_file, misplaced_fault, misplaced_file, nine_fault, nine_file, sort_cards, sort_fault, sort_file, twice_fault, twice_file}
use Rattle.fz_files.specs.FirstFault.{IsFirstFault, IsFaultBehind, IsFirstRowFault, all_rows, image_row, rows_of}
use Rattle.fz_files.specs.HandMade.{block_of}
use Rattle.fz_files.specs.Packed.{tiles_in}
use Rattle.fz_files.specs.PlainFile.{plain_cards}
use Rattle.fz_files.specs.Restored.{image_table, is_image, plan_in, tile_of}
use Rattle.fz_files.specs.RiceFile.{rice_options}
use Rattle.fz_files.specs.Walks.{fault_of_walk, found_headers, header_fault, headers_for, job_walk}
use Rattle.fz_files.proofs.CutEndsLemmas.{after_none, grid_facts}
use Rattle.fz_files.proofs.CutFileLemmas.{both_none}
use Rattle.fz_files.proofs.FaultFileLemmas.{is_first, small_facts}
use Rattle.fz_files.proofs.WorkedWalks.{ends_with, goes_on, refused_at_hdu, refused_by_job}

-- ---- a reserved card after one that stands twice

twice_at : hdu_at 0 0 twice_file ≡ Ok (small_facts 7)
unfolding hdu_at header_blocks_of header_of end_among first_among integer_of logical_of text_of quoted numbered_name digits
twice_at = refl

twice_refuses : pack_judge rice_options twice_file (small_facts 7) ≡ Err (refusal 0 (Card 6) Reserved)
unfolding is_packable end_among logical_of is_reserved plain_name packed_names foreign_names renamings number_behind numbered_name digits text_of quoted
twice_refuses = refl

pub twice_is : IsFirstFault (Pack rice_options) twice_file twice_fault
unfolding job_walk
twice_is =
    is_first (Pack rice_options) twice_file (refusal 0 (Card 6) Reserved)
    (ap (fault_of_walk (Pack rice_options) twice_file)
    (refused_by_job (pack_judge rice_options twice_file) 65534 0 0 twice_file (small_facts 7) (refusal 0 (Card 6) Reserved) twice_at twice_refuses))

-- ---- data past the limit

huge_at : hdu_at 0 0 huge_file ≡ Err (refusal 0 (Card 2) Limit)
unfolding hdu_at header_blocks_of header_of end_among first_among integer_of logical_of text_of quoted numbered_name digits
huge_at = refl

pub huge_is : IsFirstFault Unpack huge_file huge_fault
unfolding job_walk
huge_is =
    is_first Unpack huge_file (refusal 0 (Card 2) Limit)
    (ap (fault_of_walk Unpack huge_file) (refused_at_hdu (unpack_judge huge_file) 65535 0 0 huge_file (refusal 0 (Card 2) Limit) huge_at))

-- ---- a packed primary after a primary with pixels

abbrev moved_facts : Header
moved_facts = record table_facts { start = 5760 }

misplaced_first : hdu_at 0 0 misplaced_file ≡ Ok grid_facts
unfolding hdu_at header_blocks_of header_of end_among first_among integer_of logical_of text_of quoted numbered_name digits
misplaced_first = refl

misplaced_table : hdu_at 1 5760 misplaced_file ≡ Ok moved_facts
unfolding hdu_at header_blocks_of header_of end_among first_among integer_of logical_of text_of quoted numbered_name digits
misplaced_table = refl

misplaced_packed : is_packed (block_of plain_cards) moved_facts ≡ true
unfolding is_packed end_among logical_of
misplaced_packed = refl

misplaced_card_checks : first_refusal (table_card_checks moved_facts (block_of plain_cards)) ≡ None
unfolding is_packed end_among logical_of number_behind numbered_name digits
misplaced_card_checks = refl

misplaced_table_checks : first_refusal (table_checks (block_of plain_cards) moved_facts) ≡ None
unfolding first_among first_named columns_len column_called elements_len form_in integer_of text_of quoted numbered_name digits end_among
misplaced_table_checks = refl

misplaced_plan_checks : first_refusal (packed_checks 1 (block_of plain_cards) false) ≡ misplaced_fault
unfolding integer_of logical_of text_of quoted number_behind numbered_name digits end_among
misplaced_plan_checks = refl

misplaced_passes : unpack_judge misplaced_file grid_facts ≡ Ok false
unfolding is_packed
misplaced_passes = refl

misplaced_checks : first_refusal (unpack_hdu_checks misplaced_file moved_facts) ≡ misplaced_fault
unfolding integer_of
misplaced_checks =
    after_none (table_card_checks moved_facts (block_of plain_cards)) (if is_packed (block_of plain_cards) moved_facts then image_checks moved_facts (block_of plain_cards) false else []) misplaced_fault misplaced_card_checks
    (ap (λ b. first_refusal (if b then image_checks moved_facts (block_of plain_cards) false else [])) misplaced_packed
    ∙ after_none (table_checks (block_of plain_cards) moved_facts) (packed_checks 1 (block_of plain_cards) false) misplaced_fault misplaced_table_checks misplaced_plan_checks)

pub misplaced_is : IsFirstFault Unpack misplaced_file misplaced_fault
unfolding job_walk
misplaced_is =
    is_first Unpack misplaced_file (refusal 1 (Card 16) MisplacedPrimary)
    (ap (fault_of_walk Unpack misplaced_file)
    (goes_on (unpack_judge misplaced_file) 65535 0 0 misplaced_file grid_facts (Err (refusal 1 (Card 16) MisplacedPrimary)) misplaced_first misplaced_passes refl
    (refused_by_job (unpack_judge misplaced_file) 65534 1 5760 misplaced_file moved_facts (refusal 1 (Card 16) MisplacedPrimary) misplaced_table (ap (unless_refused false) misplaced_checks))))

-- ---- ZGCOUNT and ZTENSION

abbrev bare_facts : Header
bare_facts = record {
  hdu = 0;
  start = 0;
  cards = 4;
  blocks = 1;
  sort = Primary;
  bitpix = pos 16;
  axes = record { n = 0; len = 0 ∷ 0 ∷ 0 ∷ 0 ∷ 0 ∷ 0 ∷ 0 ∷ 0 ∷ 0 ∷ [] };
  pcount = 0;
  gcount = 1;
  data_len = 0;
}

abbrev image_facts : Header
image_facts = record {
  hdu = 1;
  start = 2880;
  cards = 23;
  blocks = 1;
  sort = BinTable;
  bitpix = pos 8;
  axes = record { n = 2; len = 16 ∷ 2 ∷ 0 ∷ 0 ∷ 0 ∷ 0 ∷ 0 ∷ 0 ∷ 0 ∷ [] };
  pcount = 16;
  gcount = 1;
  data_len = 48;
}

groups_first : hdu_at 0 0 groups_file ≡ Ok bare_facts
unfolding hdu_at header_blocks_of header_of end_among first_among integer_of logical_of text_of quoted
groups_first = refl

groups_table : hdu_at 1 2880 groups_file ≡ Ok image_facts
unfolding hdu_at header_blocks_of header_of end_among first_among integer_of logical_of text_of quoted numbered_name digits
groups_table = refl

groups_packed : is_packed (block_of groups_cards) image_facts ≡ true
unfolding is_packed end_among logical_of
groups_packed = refl

groups_card_checks : first_refusal (table_card_checks image_facts (block_of groups_cards)) ≡ None
unfolding is_packed end_among logical_of number_behind numbered_name digits
groups_card_checks = refl

groups_table_checks : first_refusal (table_checks (block_of groups_cards) image_facts) ≡ None
unfolding first_among first_named columns_len column_called elements_len form_in integer_of text_of quoted numbered_name digits end_among
groups_table_checks = refl

groups_plan_checks : first_refusal (packed_checks 1 (block_of groups_cards) true) ≡ groups_fault
unfolding integer_of logical_of text_of quoted number_behind numbered_name digits end_among
groups_plan_checks = refl

groups_passes : unpack_judge groups_file bare_facts ≡ Ok false
unfolding is_packed
groups_passes = refl

groups_checks : first_refusal (unpack_hdu_checks groups_file image_facts) ≡ groups_fault
unfolding integer_of
groups_checks =
    after_none (table_card_checks image_facts (block_of groups_cards)) (if is_packed (block_of groups_cards) image_facts then image_checks image_facts (block_of groups_cards) true else []) groups_fault groups_card_checks
    (ap (λ b. first_refusal (if b then image_checks image_facts (block_of groups_cards) true else [])) groups_packed
    ∙ after_none (table_checks (block_of groups_cards) image_facts) (packed_checks 1 (block_of groups_cards) true) groups_fault groups_table_checks groups_plan_checks)

pub groups_is : IsFirstFault Unpack groups_file groups_fault
unfolding job_walk
groups_is =
    is_first Unpack groups_file (refusal 1 (Card 22) BadCard)
    (ap (fault_of_walk Unpack groups_file)
    (goes_on (unpack_judge groups_file) 65535 0 0 groups_file bare_facts (Err (refusal 1 (Card 22) BadCard)) groups_first groups_passes refl
    (refused_by_job (unpack_judge groups_file) 65534 1 2880 groups_file image_facts (refusal 1 (Card 22) BadCard) groups_table (ap (unless_refused false) groups_checks))))

sort_first : hdu_at 0 0 sort_file ≡ Ok bare_facts
unfolding hdu_at header_blocks_of header_of end_among first_among integer_of logical_of text_of quoted
sort_first = refl

sort_table : hdu_at 1 2880 sort_file ≡ Ok image_facts
unfolding hdu_at header_blocks_of header_of end_among first_among integer_of logical_of text_of quoted numbered_name digits
sort_table = refl

sort_packed : is_packed (block_of sort_cards) image_facts ≡ true
unfolding is_packed end_among logical_of
sort_packed = refl

sort_card_checks : first_refusal (table_card_checks image_facts (block_of sort_cards)) ≡ None
unfolding is_packed end_among logical_of number_behind numbered_name digits
sort_card_checks = refl

sort_table_checks : first_refusal (table_checks (block_of sort_cards) image_facts) ≡ None
unfolding first_among first_named columns_len column_called elements_len form_in integer_of text_of quoted numbered_name digits end_among
sort_table_checks = refl

sort_plan_checks : first_refusal (packed_checks 1 (block_of sort_cards) true) ≡ sort_fault
unfolding integer_of logical_of text_of quoted number_behind numbered_name digits end_among
sort_plan_checks = refl

sort_passes : unpack_judge sort_file bare_facts ≡ Ok false
unfolding is_packed
sort_passes = refl

sort_checks : first_refusal (unpack_hdu_checks sort_file image_facts) ≡ sort_fault
unfolding integer_of
sort_checks =
    after_none (table_card_checks image_facts (block_of sort_cards)) (if is_packed (block_of sort_cards) image_facts then image_checks image_facts (block_of sort_cards) true else []) sort_fault sort_card_checks
    (ap (λ b. first_refusal (if b then image_checks image_facts (block_of sort_cards) true else [])) sort_packed
    ∙ after_none (table_checks (block_of sort_cards) image_facts) (packed_checks 1 (block_of sort_cards) true) sort_fault sort_table_checks sort_plan_checks)

pub sort_is : IsFirstFault Unpack sort_file sort_fault
unfolding job_walk
sort_is =
    is_first Unpack sort_file (refusal 1 (Card 16) BadCard)
    (ap (fault_of_walk Unpack sort_file)
    (goes_on (unpack_judge sort_file) 65535 0 0 sort_file bare_facts (Err (refusal 1 (Card 16) BadCard)) sort_first sort_passes refl
    (refused_by_job (unpack_judge sort_file) 65534 1 2880 sort_file image_facts (refusal 1 (Card 16) BadCard) sort_table (ap (unless_refused false) sort_checks))))

-- ---- a row that describes bytes after the heap

abbrev nine_table : Table
nine_table = record {
  row_bytes = 16;
  rows = 2;
  rows_at = 5760;
  heap_at = 5792;
  heap_len = 16;
  coded = Some (record { at = 0; wide = false; unit = 1 });
  stored = Some (record { at = 8; wide = false; unit = 2 });
  gzip = None;
}

nine_first : hdu_at 0 0 nine_file ≡ Ok bare_facts
unfolding hdu_at header_blocks_of header_of end_among first_among integer_of logical_of text_of quoted
nine_first = refl

nine_second : hdu_at 1 2880 nine_file ≡ Ok image_facts
unfolding hdu_at header_blocks_of header_of end_among first_among integer_of logical_of text_of quoted numbered_name digits
nine_second = refl

nine_packed : is_packed (block_of image_table_cards) image_facts ≡ true
unfolding is_packed end_among logical_of
nine_packed = refl

nine_not_packed : is_image nine_file bare_facts ≡ false
unfolding is_packed
nine_not_packed = refl

nine_card_checks : first_refusal (table_card_checks image_facts (block_of image_table_cards)) ≡ None
unfolding is_packed end_among logical_of number_behind numbered_name digits
nine_card_checks = refl

nine_table_checks : first_refusal (table_checks (block_of image_table_cards) image_facts) ≡ None
unfolding first_among first_named columns_len column_called elements_len form_in integer_of text_of quoted numbered_name digits end_among
nine_table_checks = refl

nine_plan_checks : first_refusal (packed_checks 1 (block_of image_table_cards) true) ≡ None
unfolding integer_of logical_of text_of quoted number_behind numbered_name digits end_among
nine_plan_checks = refl

nine_passes : unpack_judge nine_file bare_facts ≡ Ok false
unfolding is_packed
nine_passes = refl

nine_checks : first_refusal (unpack_hdu_checks nine_file image_facts) ≡ None
unfolding integer_of
nine_checks =
    both_none (table_card_checks image_facts (block_of image_table_cards)) (if is_packed (block_of image_table_cards) image_facts then image_checks image_facts (block_of image_table_cards) true else []) nine_card_checks
    (ap (λ b. first_refusal (if b then image_checks image_facts (block_of image_table_cards) true else [])) nine_packed
    ∙ both_none (table_checks (block_of image_table_cards) image_facts) (packed_checks 1 (block_of image_table_cards) true) nine_table_checks nine_plan_checks)

nine_walk : walk_of (unpack_judge nine_file) 65536 nine_file ≡ Ok (bare_facts ∷ image_facts ∷ [])
nine_walk =
    goes_on (unpack_judge nine_file) 65535 0 0 nine_file bare_facts (Ok (image_facts ∷ [])) nine_first nine_passes refl
    (ends_with (unpack_judge nine_file) 65534 1 2880 nine_file image_facts nine_second (ap (unless_refused false) nine_checks) refl)

nine_none : header_fault Unpack nine_file ≡ None
unfolding job_walk
nine_none = ap (fault_of_walk Unpack nine_file) nine_walk

nine_headers : headers_for Unpack nine_file ≡ bare_facts ∷ image_facts ∷ []
unfolding job_walk
nine_headers = ap found_headers nine_walk

nine_plan : plan_in nine_file image_facts ≡ image_plan
unfolding plan_of_cards integer_of text_of quoted number_behind numbered_name digits end_among
nine_plan = refl

nine_image : image_table nine_file image_facts ≡ nine_table
unfolding first_among first_named columns_len column_called elements_len form_in integer_of text_of quoted numbered_name digits end_among
nine_image = refl

nine_rows_are : all_rows nine_file (bare_facts ∷ image_facts ∷ []) ≡ image_row image_facts 0 ∷ image_row image_facts 1 ∷ []
nine_rows_are =
    ap (λ b. flat_map (rows_of nine_file) (cond b (bare_facts ∷ filter (is_image nine_file) (image_facts ∷ [])) (filter (is_image nine_file) (image_facts ∷ [])))) nine_not_packed
    ∙ (ap (λ b. flat_map (rows_of nine_file) (cond b (image_facts ∷ []) [])) nine_packed
    ∙ (append-nil (rows_of nine_file image_facts)
    ∙ ap (λ p. map (image_row image_facts) (range_with_len 0 (tiles_in p))) nine_plan))

nine_past : record_at nine_file 1 nine_table 0 (tile_of image_plan 0) ≡ Err (refusal 1 (AtRow 0) DescriptorRange)
unfolding record_of
nine_past = refl

nine_refused : record_at nine_file 1 (image_table nine_file image_facts) 0 (tile_of (plan_in nine_file image_facts) 0) ≡ Err (refusal 1 (AtRow 0) DescriptorRange)
nine_refused = (λ i. record_at nine_file 1 (nine_image i) 0 (tile_of (nine_plan i) 0)) ∙ nine_past

pub nine_is : IsFirstFault Unpack nine_file nine_fault
nine_is =
    subst (λ r. IsFaultBehind r Unpack nine_file nine_fault) (sym nine_none)
    (subst (λ hs. IsFirstRowFault nine_file (all_rows nine_file hs) nine_fault) (sym nine_headers)
    (subst (λ rows. IsFirstRowFault nine_file rows nine_fault) (sym nine_rows_are) (inl (inl nine_refused))))
