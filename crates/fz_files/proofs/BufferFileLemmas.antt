-- The buffers of `unpack` for the packed file of `PlainFile`, by the definitions.
use Rattle.std.proofs.Common.{◌≡◌, [], ◌∷◌, ◌++◌, map, Ok, cond, refl, ◌∙◌, ap}
use Rattle.std.specs.List.{filter}
use Rattle.fz_base.specs.JobBuffers.{buffer_bound}
use Rattle.fz_base.specs.Takings.{piled}
use Rattle.fz_card.specs.Reading.{logical_of}
use Rattle.fz_block.specs.Cards.{end_among}
use Rattle.fz_block.specs.Checks.{header_blocks_of}
use Rattle.fz_checks.specs.Greatest.{greatest}
use Rattle.fz_checks.specs.Judges.{unpack_judge}
use Rattle.fz_checks.specs.WorkBuffers.{pixels_of_tile}
use Rattle.fz_files.specs.declared.job.Job.TheVariants.{Unpack}
use Rattle.fz_files.specs.BufferFile.{unpack_bound, unpack_takings}
use Rattle.fz_files.specs.Buffers.{header_len, header_takings, job_bound, job_buffers, job_takings, largest_tile, longest_header, plans_behind, work_takings}
use Rattle.fz_files.specs.CutFile.{table_facts}
use Rattle.fz_files.specs.PlainFile.{plain_file, plain_plan}
use Rattle.fz_files.specs.Restored.{is_image, plan_in}
use Rattle.fz_files.specs.Walks.{header_fault, reached_by}
use Rattle.fz_files.proofs.CutFileLemmas.{first_facts, first_at, packed, plan_is, table_at}
use Rattle.fz_files.proofs.StandingLemmas.{headers_are, no_fault, not_packed, passes_first, passes_table}
use Rattle.fz_files.proofs.WorkedWalks.{reaches_end, reaches_on, takes_end, takes_on}

reached_is : reached_by Unpack plain_file ≡ record { hdu = 0; start = 0 } ∷ record { hdu = 1; start = 2880 } ∷ []
unfolding reached_by
reached_is =
    reaches_on (unpack_judge plain_file) 65535 0 0 plain_file first_facts (record { hdu = 1; start = 2880 } ∷ []) first_at passes_first refl
    (reaches_end (unpack_judge plain_file) 65534 1 2880 plain_file table_facts table_at passes_table refl)

longest : longest_header Unpack plain_file ≡ 2880
unfolding header_blocks_of end_among logical_of
longest = ap (λ l. greatest (map (header_len plain_file) l)) reached_is ∙ refl

plans_are : plans_behind (header_fault Unpack plain_file) Unpack plain_file ≡ plain_plan ∷ []
plans_are =
    ap (λ r. plans_behind r Unpack plain_file) no_fault
    ∙ (ap (λ hs. map (plan_in plain_file) (filter (is_image plain_file) hs)) headers_are
    ∙ (ap (λ b. map (plan_in plain_file) (cond b (first_facts ∷ filter (is_image plain_file) (table_facts ∷ [])) (filter (is_image plain_file) (table_facts ∷ [])))) not_packed
    ∙ (ap (λ b. map (plan_in plain_file) (cond b (table_facts ∷ []) [])) packed ∙ (λ i. plan_is i ∷ []))))

largest : largest_tile Unpack plain_file ≡ 4
largest = ap (λ ps. greatest (map pixels_of_tile ps)) plans_are ∙ refl

pub bound_is : job_bound Unpack plain_file 1 ≡ unpack_bound
unfolding buffer_bound
bound_is = (λ i. buffer_bound (longest i) (largest i) 1) ∙ refl

first_blocks : header_blocks_of 0 0 plain_file ≡ Ok 1
unfolding header_blocks_of end_among logical_of
first_blocks = refl

table_blocks : header_blocks_of 1 2880 plain_file ≡ Ok 1
unfolding header_blocks_of end_among
table_blocks = refl

headers_take : header_takings Unpack plain_file ≡ (2880, 63360) ∷ (2880, 2880) ∷ (2880, 2880) ∷ []
headers_take =
    ap (λ l. (2880, 63360) ∷ l)
    (takes_on (unpack_judge plain_file) 2880 65535 0 0 plain_file first_facts 1 ((2880, 2880) ∷ []) first_blocks first_at passes_first refl
    (takes_end (unpack_judge plain_file) 2880 65534 1 2880 plain_file table_facts 1 table_blocks table_at passes_table refl))

work_takes : work_takings (header_fault Unpack plain_file) Unpack plain_file 1 ≡ piled 2880 (job_buffers Unpack 2880 4 1)
work_takes = ap (λ r. work_takings r Unpack plain_file 1) no_fault ∙ (λ i. piled 2880 (job_buffers Unpack (longest i) (largest i) 1))

pub takings_are : job_takings Unpack plain_file 1 ≡ unpack_takings
takings_are = λ i. (0, 2880) ∷ (headers_take i ++ work_takes i)
