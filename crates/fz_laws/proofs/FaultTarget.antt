-- Patches of other files that are refused, by the definitions.
use Rattle.std.proofs.Common.{◌≡◌, ℕ, ◌||◌, not, true, false, ℤ, pos, [], ◌∷◌, length, map, None, Ok, Err, inl, inr, if◌then◌else◌, refl, sym, ◌∙◌, ap, subst, arith}
use Rattle.std.specs.Fmt.{digits}
use Rattle.fz_base.specs.Refusal.{first_refusal, refusal}
use Rattle.fz_base.specs.declared.fault.Place.TheVariants.{Byte, Card, Row as AtRow}
use Rattle.fz_base.specs.declared.kind.Kind.TheVariants.{DescriptorRange, NotPacked, TrailingBytes, Unpatchable}
use Rattle.fz_card.specs.Made.{numbered_name}
use Rattle.fz_card.specs.Naming.{number_behind}
use Rattle.fz_card.specs.Quoted.{quoted}
use Rattle.fz_card.specs.Reading.{integer_of, logical_of, text_of}
use Rattle.fz_block.specs.Cards.{end_among, first_among}
use Rattle.fz_block.specs.Checks.{header_blocks_of, header_of, hdu_at, headers_of, unjudged, walk_of}
use Rattle.fz_block.specs.Walk.{is_stop, stops}
use Rattle.fz_block.specs.declared.header.Header.{Header}
use Rattle.fz_block.specs.declared.header.Sort.TheVariants.{BinTable, Image, Primary}
use Rattle.fz_table.specs.Columns.{column_called, columns_len, first_named}
use Rattle.fz_table.specs.Forms.{elements_len, form_in}
use Rattle.fz_table.specs.Records.{record_at, record_of}
use Rattle.fz_table.specs.Tables.{table_checks}
use Rattle.fz_checks.specs.JobChecks.{image_checks, missing_hdu, packed_card_checks}
use Rattle.fz_head.specs.Packable.{is_packed}
use Rattle.fz_head.specs.PackedChecks.{packed_checks}
use Rattle.fz_files.specs.CutEnds.{longer_file, unfinished_file}
use Rattle.fz_files.specs.CutFile.{table_facts}
use Rattle.fz_files.specs.FaultFile.{past_file}
use Rattle.fz_files.specs.FirstFault.{IsFirstRowFault, image_row, picked_rows, picked_tiles_of}
use Rattle.fz_files.specs.HandMade.{block_of}
use Rattle.fz_files.specs.OtherFile.{other_cards, other_file}
use Rattle.fz_files.specs.PlainFile.{grid_file, plain_plan}
use Rattle.fz_files.specs.Restored.{image_table, plan_in, tile_of}
use Rattle.fz_laws.specs.PatchChecks.{corner_check, find_hdu_checks, find_judge, form_check, given_check, if_all_pass, if_patchable, last_check, last_or, may_be_given, patch_target, wanted_among, wanted_image}
use Rattle.fz_laws.specs.FirstPatchFault.{IsFaultBehindTarget, IsFirstPatchFault}
use Rattle.fz_laws.specs.Given.{box_sieve, given_by}
use Rattle.fz_laws.specs.GridPatch.{six_file, six_job, six_tiles}
use Rattle.fz_laws.specs.PatchFaults.{follower_fault, form_fault, no_hdu_fault, no_image_fault, row_fault}
use Rattle.fz_laws.proofs.GridSteps.{four_numbers, old_0, old_1, six_box, stored_at}
use Rattle.fz_laws.proofs.GridTarget.{checks_none, first_facts, form_none, inside_by, inside_none, packed, plain_table, plan_is, six_at, six_given_is, table_is}
use Rattle.fz_laws.proofs.Passes.{joined_pass}
use Rattle.fz_laws.proofs.Walked.{HasTable, RowIsOf, at_form, at_last, by_box, ends_with, first_by_target, found_table, goes_on, refused_at_hdu, stands_by, target_by, two_headers}

-- ---- bytes that are no HDU

unfinished_first : hdu_at 0 0 unfinished_file ≡ Ok first_facts
unfolding hdu_at header_blocks_of header_of end_among first_among integer_of logical_of text_of quoted
unfinished_first = refl

unfinished_table : hdu_at 1 2880 unfinished_file ≡ Ok table_facts
unfolding hdu_at header_blocks_of header_of end_among first_among integer_of logical_of text_of quoted numbered_name digits
unfinished_table = refl

no_hdu : hdu_at 2 8640 unfinished_file ≡ Err (refusal 2 (Byte 8640) TrailingBytes)
unfolding hdu_at header_blocks_of end_among
no_hdu = refl

unfinished_walk : headers_of 65536 unfinished_file ≡ Err (refusal 2 (Byte 8640) TrailingBytes)
unfinished_walk =
    goes_on unjudged 65535 0 0 unfinished_file first_facts (Err (refusal 2 (Byte 8640) TrailingBytes)) unfinished_first refl refl
    (goes_on unjudged 65534 1 2880 unfinished_file table_facts (Err (refusal 2 (Byte 8640) TrailingBytes)) unfinished_table refl refl
    (refused_at_hdu unjudged 65533 2 8640 unfinished_file (refusal 2 (Byte 8640) TrailingBytes) no_hdu))

unfinished_target : patch_target unfinished_file six_file six_job ≡ Err (refusal 2 (Byte 8640) TrailingBytes)
unfolding patch_target
unfinished_target = ap (λ r. if_all_pass r (if_patchable unfinished_file six_file six_job (wanted_image None unfinished_file))) unfinished_walk

pub unfinished_is_first : IsFirstPatchFault unfinished_file six_file six_job no_hdu_fault
unfinished_is_first = first_by_target unfinished_file six_file six_job (refusal 2 (Byte 8640) TrailingBytes) unfinished_target

-- ---- an image behind the table

abbrev bare_facts : Header
bare_facts = record {
  hdu = 2;
  start = 8640;
  cards = 5;
  blocks = 1;
  sort = Image;
  bitpix = pos 8;
  axes = record { n = 0; len = 0 ∷ 0 ∷ 0 ∷ 0 ∷ 0 ∷ 0 ∷ 0 ∷ 0 ∷ 0 ∷ [] };
  pcount = 0;
  gcount = 1;
  data_len = 0;
}

longer_first : hdu_at 0 0 longer_file ≡ Ok first_facts
unfolding hdu_at header_blocks_of header_of end_among first_among integer_of logical_of text_of quoted
longer_first = refl

longer_table : hdu_at 1 2880 longer_file ≡ Ok table_facts
unfolding hdu_at header_blocks_of header_of end_among first_among integer_of logical_of text_of quoted numbered_name digits
longer_table = refl

longer_last : hdu_at 2 8640 longer_file ≡ Ok bare_facts
unfolding hdu_at header_blocks_of header_of end_among first_among integer_of logical_of text_of quoted
longer_last = refl

longer_walk : headers_of 65536 longer_file ≡ Ok (first_facts ∷ table_facts ∷ bare_facts ∷ [])
longer_walk =
    goes_on unjudged 65535 0 0 longer_file first_facts (Ok (table_facts ∷ bare_facts ∷ [])) longer_first refl refl
    (goes_on unjudged 65534 1 2880 longer_file table_facts (Ok (bare_facts ∷ [])) longer_table refl refl
    (ends_with unjudged 65533 2 8640 longer_file bare_facts longer_last refl refl))

longer_has : HasTable longer_file None first_facts table_facts
unfolding is_packed
longer_has = record { first = longer_first; table = longer_table; more = refl; passed = refl; packed = packed; checks = checks_none }

longer_not_last : (last_check longer_file table_facts).0 ≡ true
longer_not_last = refl

pub longer_is_first : IsFirstPatchFault longer_file six_file six_job follower_fault
longer_is_first =
    first_by_target longer_file six_file six_job (refusal 1 (Byte 8640) Unpatchable)
    (target_by longer_file six_file six_job (first_facts ∷ table_facts ∷ bare_facts ∷ []) table_facts follower_fault longer_walk (found_table longer_file None first_facts table_facts longer_has)
    (at_last longer_file six_file table_facts six_job longer_not_last))

-- ---- a table of one column

abbrev other_first : Header
other_first = record {
  hdu = 0;
  start = 0;
  cards = 5;
  blocks = 1;
  sort = Primary;
  bitpix = pos 16;
  axes = record { n = 0; len = 0 ∷ 0 ∷ 0 ∷ 0 ∷ 0 ∷ 0 ∷ 0 ∷ 0 ∷ 0 ∷ [] };
  pcount = 0;
  gcount = 1;
  data_len = 0;
}

abbrev other_facts : Header
other_facts = record {
  hdu = 1;
  start = 2880;
  cards = 20;
  blocks = 1;
  sort = BinTable;
  bitpix = pos 8;
  axes = record { n = 2; len = 8 ∷ 1 ∷ 0 ∷ 0 ∷ 0 ∷ 0 ∷ 0 ∷ 0 ∷ 0 ∷ [] };
  pcount = 6;
  gcount = 1;
  data_len = 14;
}

other_first_at : hdu_at 0 0 other_file ≡ Ok other_first
unfolding hdu_at header_blocks_of header_of end_among first_among integer_of logical_of text_of quoted
other_first_at = refl

other_table_at : hdu_at 1 2880 other_file ≡ Ok other_facts
unfolding hdu_at header_blocks_of header_of end_among first_among integer_of logical_of text_of quoted numbered_name digits
other_table_at = refl

other_packed : is_packed (block_of other_cards) other_facts ≡ true
unfolding is_packed end_among logical_of
other_packed = refl

other_cards_none : first_refusal (packed_card_checks other_facts (block_of other_cards)) ≡ None
unfolding is_packed end_among logical_of number_behind numbered_name digits
other_cards_none = refl

other_table_none : first_refusal (table_checks (block_of other_cards) other_facts) ≡ None
unfolding first_among first_named columns_len column_called elements_len form_in integer_of text_of quoted numbered_name digits end_among
other_table_none = refl

other_plan_none : first_refusal (packed_checks 1 (block_of other_cards) true) ≡ None
unfolding integer_of logical_of text_of quoted number_behind numbered_name digits end_among
other_plan_none = refl

other_checks : first_refusal (find_hdu_checks other_file other_facts) ≡ None
unfolding integer_of
other_checks =
    joined_pass (packed_card_checks other_facts (block_of other_cards)) (image_checks other_facts (block_of other_cards) true) other_cards_none
    (joined_pass (table_checks (block_of other_cards) other_facts) (packed_checks 1 (block_of other_cards) true) other_table_none other_plan_none)

other_has : HasTable other_file None other_first other_facts
unfolding is_packed
other_has = record { first = other_first_at; table = other_table_at; more = refl; passed = refl; packed = other_packed; checks = other_checks }

other_form : (form_check other_file other_facts).0 ≡ true
unfolding first_among first_named integer_of end_among
other_form = refl

pub other_is_first : IsFirstPatchFault other_file six_file six_job form_fault
other_is_first =
    first_by_target other_file six_file six_job (refusal 1 (Card 0) Unpatchable)
    (target_by other_file six_file six_job (other_first ∷ other_facts ∷ []) other_facts form_fault (two_headers other_file None other_first other_facts other_has refl) (found_table other_file None other_first other_facts other_has)
    (at_form other_file six_file other_facts six_job refl other_form))

-- ---- no packed image

abbrev grid_facts : Header
grid_facts = record {
  hdu = 0;
  start = 0;
  cards = 5;
  blocks = 1;
  sort = Primary;
  bitpix = pos 8;
  axes = record { n = 2; len = 5 ∷ 3 ∷ 0 ∷ 0 ∷ 0 ∷ 0 ∷ 0 ∷ 0 ∷ 0 ∷ [] };
  pcount = 0;
  gcount = 1;
  data_len = 15;
}

grid_at : hdu_at 0 0 grid_file ≡ Ok grid_facts
unfolding hdu_at header_blocks_of header_of end_among first_among integer_of logical_of text_of quoted numbered_name digits
grid_at = refl

grid_passed : find_judge None grid_file grid_facts ≡ Ok false
unfolding is_packed
grid_passed = refl

grid_walk : headers_of 65536 grid_file ≡ Ok (grid_facts ∷ [])
grid_walk = ends_with unjudged 65535 0 0 grid_file grid_facts grid_at refl refl

grid_search : walk_of (find_judge None grid_file) 65536 grid_file ≡ Ok (grid_facts ∷ [])
grid_search = ends_with (find_judge None grid_file) 65535 0 0 grid_file grid_facts grid_at grid_passed refl

grid_stops : stops (find_judge None grid_file) (grid_facts ∷ []) ≡ false
grid_stops = λ j. is_stop (grid_passed j) || false

grid_missing : wanted_image None grid_file ≡ Err (refusal 1 (Byte 5760) NotPacked)
grid_missing =
    ap (wanted_among None grid_file) grid_search
    ∙ ap (λ b. if b then last_or (missing_hdu None 1 (length grid_file)) (grid_facts ∷ []) else Err (missing_hdu None 1 (length grid_file))) grid_stops

grid_target : patch_target grid_file six_file six_job ≡ Err (refusal 1 (Byte 5760) NotPacked)
unfolding patch_target
grid_target = λ j. if_all_pass (grid_walk j) (if_patchable grid_file six_file six_job (grid_missing j))

pub grid_is_first : IsFirstPatchFault grid_file six_file six_job no_image_fault
grid_is_first = first_by_target grid_file six_file six_job (refusal 1 (Byte 5760) NotPacked) grid_target

-- ---- a faulty row

past_first : hdu_at 0 0 past_file ≡ Ok first_facts
unfolding hdu_at header_blocks_of header_of end_among first_among integer_of logical_of text_of quoted
past_first = refl

past_table : hdu_at 1 2880 past_file ≡ Ok table_facts
unfolding hdu_at header_blocks_of header_of end_among first_among integer_of logical_of text_of quoted numbered_name digits
past_table = refl

past_has : HasTable past_file None first_facts table_facts
unfolding is_packed
past_has = record { first = past_first; table = past_table; more = refl; passed = refl; packed = packed; checks = checks_none }

past_corner : (corner_check past_file table_facts six_job).0 ≡ false
unfolding integer_of end_among
past_corner = refl

past_given : (given_check past_file six_file table_facts).0 ≡ false
past_given = (λ j. not (may_be_given (plan_is j) (six_at j))) ∙ refl

past_target : patch_target past_file six_file six_job ≡ Ok table_facts
past_target =
    target_by past_file six_file six_job (first_facts ∷ table_facts ∷ []) table_facts None (two_headers past_file None first_facts table_facts past_has refl) (found_table past_file None first_facts table_facts past_has)
    (by_box past_file six_file table_facts six_job refl form_none past_corner past_given ∙ (inside_by six_job ∙ inside_none))

past_rows : picked_rows past_file (box_sieve (given_by six_file six_job)) table_facts ≡ map (image_row table_facts) six_tiles
past_rows = (λ j. map (image_row table_facts) (picked_tiles_of (plan_is j) (box_sieve (six_given_is six_job j)))) ∙ ap (map (image_row table_facts)) six_box

past_end : record_at past_file 1 plain_table 3 (tile_of plain_plan 3) ≡ Err (refusal 1 (AtRow 3) DescriptorRange)
unfolding record_of
past_end = refl

past_refused : record_at past_file 1 (image_table past_file table_facts) 3 (tile_of (plan_in past_file table_facts) 3) ≡ Err (refusal 1 (AtRow 3) DescriptorRange)
past_refused = (λ i. record_at past_file 1 (table_is i) 3 (tile_of (plan_is i) 3)) ∙ past_end

past_0 : RowIsOf past_file 1 plain_plan plain_table 0 old_0
unfolding record_of
past_0 = record {
  found = stored_at 5856 4;
  chosen = refl;
  count = refl;
  means = record { plain = λ never. refl; pixels = four_numbers (pos 1) (pos 2) (pos 6) (pos 7) (omega arith) (omega arith) (omega arith) (omega arith); len = refl; meaning = (refl, refl) };
}

past_1 : RowIsOf past_file 1 plain_plan plain_table 1 old_1
unfolding record_of
past_1 = record {
  found = stored_at 5860 4;
  chosen = refl;
  count = refl;
  means = record { plain = λ never. refl; pixels = four_numbers (pos 3) (pos 4) (pos 8) (pos 9) (omega arith) (omega arith) (omega arith) (omega arith); len = refl; meaning = (refl, refl) };
}

past_row : IsFirstRowFault past_file (map (image_row table_facts) six_tiles) row_fault
past_row =
    inr (
      (old_0, stands_by past_file table_facts plain_plan plain_table 0 old_0 plan_is table_is past_0),
      inr ((old_1, stands_by past_file table_facts plain_plan plain_table 1 old_1 plan_is table_is past_1), inl (inl past_refused)),
    )

pub past_is_first : IsFirstPatchFault past_file six_file six_job row_fault
past_is_first =
    subst (λ r. IsFaultBehindTarget past_file (given_by six_file six_job) r row_fault) (sym past_target)
    (inl (refusal 1 (AtRow 3) DescriptorRange, refl, subst (λ rows. IsFirstRowFault past_file rows row_fault) (sym past_rows) past_row))
