-- What jobs may read of the files of `PlainFile` and `FaultFile`, by the definitions.
use Rattle.std.proofs.Common.{◌≡◌, ◌-◌, ℕ, true, false, List, [], ◌∷◌, ◌++◌, map, Some, None, Ok, if◌then◌else◌, refl, ◌∙◌, ap}
use Rattle.std.specs.Fmt.{digits}
use Rattle.std.specs.List.{flat_map, range_with_len}
use Rattle.fz_base.specs.Refusal.{refusal}
use Rattle.fz_base.specs.declared.fault.Place.TheVariants.{Byte}
use Rattle.fz_base.specs.declared.kind.Kind.TheVariants.{TrailingBytes}
use Rattle.fz_card.specs.Made.{numbered_name}
use Rattle.fz_card.specs.Naming.{number_behind, plain_name, is_reserved}
use Rattle.fz_card.specs.Quoted.{quoted}
use Rattle.fz_card.specs.Reading.{logical_of, text_of}
use Rattle.fz_card.specs.Tables.{renamings, packed_names, foreign_names}
use Rattle.fz_block.specs.Cards.{end_among}
use Rattle.fz_block.specs.Checks.{hdu_at, header_touched, walk_of}
use Rattle.fz_block.specs.Header.{next_start_of}
use Rattle.fz_block.specs.declared.header.Header.{Header}
use Rattle.fz_checks.specs.JobChecks.{data_end_of}
use Rattle.fz_checks.specs.Judges.{pack_judge, unpack_judge}
use Rattle.fz_head.specs.Packable.{is_packable}
use Rattle.fz_head.specs.PackedHeader.{packed_header}
use Rattle.fz_head.specs.Planned.{pack_plan_of}
use Rattle.fz_table.specs.Records.{record_of}
use Rattle.fz_files.specs.declared.job.Job.TheVariants.{Pack, Unpack, Verify, List as ListHdus}
use Rattle.fz_files.specs.CutFile.{table_facts}
use Rattle.fz_files.specs.Cutout.{header_range, ranges_of_row}
use Rattle.fz_files.specs.FaultFile.{trailing_file}
use Rattle.fz_files.specs.FirstFault.{image_row}
use Rattle.fz_files.specs.Packed.{tiles_in}
use Rattle.fz_files.specs.PlainFile.{grid_file, plain_file, plain_options, plain_plan}
use Rattle.fz_files.specs.Reads.{header_ranges}
use Rattle.fz_files.specs.RiceFile.{rice_options}
use Rattle.fz_files.specs.Touched.{all_data_touched, data_range, data_touched, fill_of, fill_ranges, image_ranges, touched_by}
use Rattle.fz_files.specs.TouchedFile.{both_headers, no_data, six_rows, third_block, unpack_ranges, verify_ranges, list_ranges, pack_ranges, rejected_ranges}
use Rattle.fz_files.specs.Walks.{Reached, fault_of_walk, found_headers, header_fault, headers_for, job_walk, reached_by, reached_from}
use Rattle.fz_files.proofs.CutEndsLemmas.{grid_at, grid_facts}
use Rattle.fz_files.proofs.CutFileLemmas.{first_facts, first_at, packed, plain_table, plan_is, ranges_of, table_at, table_is}
use Rattle.fz_files.proofs.FaultFileLemmas.{no_hdu, small_at, small_facts, takes as small_passes, trailing_fault_is}
use Rattle.fz_files.proofs.StandingLemmas.{no_fault, not_packed, passes_first, passes_table, six, walk_is}
use Rattle.fz_files.proofs.WorkedWalks.{ends_with, reaches_end, reaches_on, reaches_refused}

-- ---- the packed file

abbrev both : List Reached
both = record { hdu = 0; start = 0 } ∷ record { hdu = 1; start = 2880 } ∷ []

both_reached : reached_from (unpack_judge plain_file) 65536 0 0 plain_file ≡ both
both_reached =
    reaches_on (unpack_judge plain_file) 65535 0 0 plain_file first_facts (record { hdu = 1; start = 2880 } ∷ []) first_at passes_first refl
    (reaches_end (unpack_judge plain_file) 65534 1 2880 plain_file table_facts table_at passes_table refl)

both_ranges : map (header_range plain_file) both ≡ both_headers
unfolding header_touched end_among logical_of
both_ranges = refl

unpack_heads : header_ranges Unpack plain_file ≡ both_headers
unfolding reached_by
unpack_heads = ap (map (header_range plain_file)) both_reached ∙ both_ranges

verify_heads : header_ranges Verify plain_file ≡ both_headers
unfolding reached_by
verify_heads = ap (map (header_range plain_file)) both_reached ∙ both_ranges

pub list_touched : touched_by ListHdus plain_file ≡ list_ranges
unfolding reached_by
list_touched = ap (map (header_range plain_file)) both_reached ∙ both_ranges

-- the rows of the table
rows_read : ranges_of plain_plan plain_table six ≡ six_rows
unfolding record_of
rows_read = refl

image_is : image_ranges plain_file table_facts ≡ six_rows
image_is =
    ap (λ p. flat_map (ranges_of_row plain_file) (map (image_row table_facts) (range_with_len 0 (tiles_in p)))) plan_is
    ∙ ((λ i. ranges_of (plan_is i) (table_is i) six) ∙ rows_read)

-- the data of both HDUs
first_copied : data_touched Unpack plain_file first_facts ≡ no_data ∷ []
first_copied = ap (λ b. if b then image_ranges plain_file first_facts else data_range first_facts ∷ []) not_packed

table_read : data_touched Unpack plain_file table_facts ≡ six_rows
table_read = ap (λ b. if b then image_ranges plain_file table_facts else data_range table_facts ∷ []) packed ∙ image_is

unpack_data : all_data_touched (header_fault Unpack plain_file) Unpack plain_file ≡ no_data ∷ six_rows
unfolding all_data_touched job_walk
unpack_data =
    ap (λ r. all_data_touched r Unpack plain_file) no_fault
    ∙ (ap (λ r. flat_map (data_touched Unpack plain_file) (found_headers r)) walk_is ∙ (λ i. first_copied i ++ (table_read i ++ [])))

pub unpack_touched : touched_by Unpack plain_file ≡ unpack_ranges
unpack_touched = λ i. unpack_heads i ++ unpack_data i

first_summed : data_touched Verify plain_file first_facts ≡ no_data ∷ []
first_summed = ap (λ b. (if b then image_ranges plain_file first_facts else []) ++ data_range first_facts ∷ []) not_packed

table_summed : data_touched Verify plain_file table_facts ≡ six_rows ++ third_block ∷ []
table_summed =
    ap (λ b. (if b then image_ranges plain_file table_facts else []) ++ data_range table_facts ∷ []) packed
    ∙ ap (λ l. l ++ data_range table_facts ∷ []) image_is

verify_data : all_data_touched (header_fault Verify plain_file) Verify plain_file ≡ no_data ∷ (six_rows ++ third_block ∷ [])
unfolding all_data_touched job_walk
verify_data =
    ap (λ r. all_data_touched (fault_of_walk Verify plain_file r) Verify plain_file) walk_is
    ∙ (ap (λ r. flat_map (data_touched Verify plain_file) (found_headers r)) walk_is ∙ (λ i. first_summed i ++ (table_summed i ++ [])))

pub verify_touched : touched_by Verify plain_file ≡ verify_ranges
verify_touched = λ i. verify_heads i ++ verify_data i

-- ---- the file of the image

grid_passes : pack_judge plain_options grid_file grid_facts ≡ Ok false
unfolding is_packable end_among logical_of is_reserved plain_name packed_names foreign_names renamings number_behind numbered_name digits text_of quoted pack_plan_of packed_header
grid_passes = refl

grid_walk : walk_of (pack_judge plain_options grid_file) 65535 grid_file ≡ Ok (grid_facts ∷ [])
grid_walk = ends_with (pack_judge plain_options grid_file) 65534 0 0 grid_file grid_facts grid_at grid_passes refl

grid_reached : reached_by (Pack plain_options) grid_file ≡ record { hdu = 0; start = 0 } ∷ []
unfolding reached_by
grid_reached = reaches_end (pack_judge plain_options grid_file) 65534 0 0 grid_file grid_facts grid_at grid_passes refl

grid_heads : header_ranges (Pack plain_options) grid_file ≡ (0, 2880) ∷ []
unfolding header_touched end_among logical_of
grid_heads = ap (map (header_range grid_file)) grid_reached ∙ refl

-- what is read of the padding after an image that can be packed
padding_of : (h : Header) → is_packable h ≡ true → fill_of (Ok h) ≡ (data_end_of h, next_start_of h - data_end_of h) ∷ []
padding_of h packable = ap (λ b. if b then (data_end_of h, next_start_of h - data_end_of h) ∷ [] else []) packable

grid_packable : is_packable grid_facts ≡ true
unfolding is_packable
grid_packable = refl

grid_padding : flat_map (fill_ranges grid_file) (reached_by (Pack plain_options) grid_file) ≡ (2895, 2865) ∷ []
grid_padding = ap (flat_map (fill_ranges grid_file)) grid_reached ∙ (λ i. (ap fill_of grid_at ∙ padding_of grid_facts grid_packable) i ++ [])

grid_data : all_data_touched (header_fault (Pack plain_options) grid_file) (Pack plain_options) grid_file ≡ (2880, 2880) ∷ []
unfolding all_data_touched job_walk
grid_data =
    ap (λ r. all_data_touched (fault_of_walk (Pack plain_options) grid_file r) (Pack plain_options) grid_file) grid_walk
    ∙ ap (λ r. flat_map (data_touched (Pack plain_options) grid_file) (found_headers r)) grid_walk

pub pack_touched : touched_by (Pack plain_options) grid_file ≡ pack_ranges
pack_touched = λ i. grid_padding i ++ (grid_heads i ++ grid_data i)

-- ---- a file that is rejected for what follows its image

abbrev to_the_end : List Reached
to_the_end = record { hdu = 0; start = 0 } ∷ record { hdu = 1; start = 5760 } ∷ []

end_reached : reached_by (Pack rice_options) trailing_file ≡ to_the_end
unfolding reached_by
end_reached =
    reaches_on (pack_judge rice_options trailing_file) 65534 0 0 trailing_file (small_facts 5) (record { hdu = 1; start = 5760 } ∷ []) small_at small_passes refl
    (reaches_refused (pack_judge rice_options trailing_file) 65533 1 5760 trailing_file (refusal 1 (Byte 5760) TrailingBytes) no_hdu)

end_heads : header_ranges (Pack rice_options) trailing_file ≡ (0, 2880) ∷ (5760, 10) ∷ []
unfolding header_touched end_among logical_of
end_heads = ap (map (header_range trailing_file)) end_reached ∙ refl

small_packable : is_packable (small_facts 5) ≡ true
unfolding is_packable
small_packable = refl

end_padding : flat_map (fill_ranges trailing_file) (reached_by (Pack rice_options) trailing_file) ≡ (2896, 2864) ∷ []
end_padding =
    ap (flat_map (fill_ranges trailing_file)) end_reached
    ∙ (λ i. (ap fill_of small_at ∙ padding_of (small_facts 5) small_packable) i ++ (ap fill_of no_hdu i ++ []))

end_data : all_data_touched (header_fault (Pack rice_options) trailing_file) (Pack rice_options) trailing_file ≡ []
unfolding all_data_touched
end_data = ap (λ r. all_data_touched r (Pack rice_options) trailing_file) trailing_fault_is

pub rejected_touched : touched_by (Pack rice_options) trailing_file ≡ rejected_ranges
rejected_touched = λ i. end_padding i ++ (end_heads i ++ end_data i)
