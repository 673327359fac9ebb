-- What `unpack` does with the packed file of `drill`.
use Rattle.std.specs.Prelude.{None, Ok, if◌then◌else◌}
use Rattle.std.specs.List.{filter}
use Rattle.std.proofs.Common.{◌≡◌, ℕ, ◌^◌, ◌≤◌, max, Bool, List, [], ◌∷◌, length, map, refl, ap, ◌∙◌, arith}
use Rattle.fz_base.specs.JobBuffers.{buffer_bound}
use Rattle.fz_block.specs.Checks.{followed_by, walk_of}
use Rattle.fz_block.specs.Facts.{facts_of}
use Rattle.fz_block.specs.Hdus.{header_bytes}
use Rattle.fz_block.specs.Header.{next_start_of}
use Rattle.fz_block.specs.declared.header.Header.{Header}
use Rattle.fz_tile.specs.Plain.{AreBytes}
use Rattle.fz_head.specs.EmptyPrimary.{empty_primary}
use Rattle.fz_checks.specs.Greatest.{greatest}
use Rattle.fz_checks.specs.Judges.{unpack_judge}
use Rattle.fz_checks.specs.WorkBuffers.{pixels_of_tile}
use Rattle.fz_head.specs.declared.options.CodecWord.{CodecWord}
use Rattle.fz_files.specs.Buffers.{found_len, header_len, largest_tile, longest_header, plans_behind}
use Rattle.fz_files.specs.Drill.{drill_file, drill_hdu, drill_options, drill_packed}
use Rattle.fz_files.specs.Laws.{StandsForOneFile}
use Rattle.fz_files.specs.Packed.{IsPackedFile}
use Rattle.fz_files.specs.Restored.{is_image, plan_in}
use Rattle.fz_files.specs.StandsFor.{StandsFor}
use Rattle.fz_files.specs.Walks.{fault_of_walk, found_headers, header_fault, job_walk, reached_by}
use Rattle.fz_files.specs.declared.job.Job.TheVariants.{Unpack}
use Rattle.fz_laws.specs.RoundTrip.{ComesBack}
use Rattle.fz_drill.specs.Jobs.{Packs, Unpacks}
use Rattle.fz_drill.specs.Taken.{PackedLaws}
use Rattle.fz_drill.proofs.PackedFile.{ends_there, first_blocks, first_says, first_unpacked, found_first, found_table, more_behind, plan_there, table_blocks, table_facts, table_packed, table_says}
use Rattle.fz_drill.proofs.Packing.{tile_is}
use Rattle.fz_drill.proofs.PlainFile.{drill_is, hdus_are}
use Rattle.fz_drill.proofs.Table.{plan}
use Rattle.fz_drill.proofs.Walks.{reach_end, reach_on, walk_end, walk_on}

module _ (l : PackedLaws) (rows : ℕ) (some : 1 ≤ rows) (few : rows ≤ 16384) (codec : CodecWord) (bytes : AreBytes (drill_file rows)) (held : length (drill_packed rows codec) ≤ 2 ^ 40) where
  abbrev packed : List ℕ
  packed = drill_packed rows codec

  abbrev of_empty : Header
  of_empty = facts_of 0 0 (header_bytes empty_primary)

  abbrev of_table : Header
  of_table = table_facts l rows some few codec bytes held

  walk_is : walk_of (unpack_judge packed) 65536 packed ≡ Ok (of_empty ∷ of_table ∷ [])
  walk_is =
      walk_on packed (unpack_judge packed) 65535 0 0 of_empty (found_first l rows some few codec bytes held) (first_says l rows some few codec bytes held) (more_behind l rows some few codec bytes held)
      ∙ ap (followed_by of_empty)
      (walk_end packed (unpack_judge packed) 65534 1 (next_start_of of_empty) of_table (found_table l rows some few codec bytes held) (table_says l rows some few codec bytes held) (ends_there l rows some few codec bytes held))

  job_is : job_walk Unpack packed ≡ Ok (of_empty ∷ of_table ∷ [])
  unfolding job_walk
  job_is = walk_is

  reached_is : reached_by Unpack packed ≡ record { hdu = 0; start = 0 } ∷ record { hdu = 1; start = next_start_of of_empty } ∷ []
  unfolding reached_by
  reached_is =
      reach_on packed (unpack_judge packed) 65535 0 0 of_empty (found_first l rows some few codec bytes held) (first_says l rows some few codec bytes held) (more_behind l rows some few codec bytes held)
      ∙ ap (λ rs. record { hdu = 0; start = 0 } ∷ rs)
      (reach_end packed (unpack_judge packed) 65534 1 (next_start_of of_empty) of_table (found_table l rows some few codec bytes held) (table_says l rows some few codec bytes held) (ends_there l rows some few codec bytes held))

  none : header_fault Unpack packed ≡ None
  none = ap (fault_of_walk Unpack packed) job_is

  longest : longest_header Unpack packed ≡ 2880
  longest =
      ap (λ rs. greatest (map (header_len packed) rs)) reached_is
      ∙ (λ i. max (found_len (first_blocks l rows some few codec bytes held i)) (max (found_len (table_blocks l rows some few codec bytes held i)) 0))

  images : filter (is_image packed) (of_empty ∷ of_table ∷ []) ≡ of_table ∷ []
  images =
      ap (λ (b : Bool). if b then of_empty ∷ filter (is_image packed) (of_table ∷ []) else filter (is_image packed) (of_table ∷ [])) (first_unpacked l rows some few codec bytes held)
      ∙ ap (λ (b : Bool). if b then of_table ∷ [] else []) (table_packed l rows some few codec bytes held)

  plans : plans_behind (header_fault Unpack packed) Unpack packed ≡ plan l.tables rows some few codec bytes ∷ []
  plans =
      ap (λ r. plans_behind r Unpack packed) none
      ∙ (ap (λ r. map (plan_in packed) (filter (is_image packed) (found_headers r))) job_is
      ∙ (ap (map (plan_in packed)) images ∙ ap (λ p. p ∷ []) (plan_there l rows some few codec bytes held)))

  largest : largest_tile Unpack packed ≡ 256
  largest = ap (λ ps. greatest (map pixels_of_tile ps)) plans ∙ ap (λ n. max n 0) (tile_is rows codec)

  unpacks : ComesBack → StandsForOneFile → Packs rows codec → Unpacks rows codec
  unpacks back one packs =
      let made : IsPackedFile (drill_options codec) (drill_file rows) packed =
      record { hdus = drill_hdu rows ∷ []; parts = hdus_are l.tables.files rows few (drill_file rows) (drill_is rows); packed = refl } in
      let stands : StandsFor packed (drill_file rows) =
      back (drill_options codec) (drill_file rows) packed (record { bytes = bytes; options = record { low = omega arith; high = omega arith; tile = tt }; sound = packs.sound }) made (omega (arith, held)) in
      record {
        sound = stands.sound;
        bound = le_of (λ i. buffer_bound (longest i) (largest i) 4);
        one = λ restored is. one packed restored (drill_file rows) is stands;
      }
    where
      le_of : {a b : ℕ} → a ≡ b → a ≤ b
      le_of e = omega (arith, e)

pub come_back : PackedLaws → ComesBack → StandsForOneFile → (rows : ℕ) → 1 ≤ rows → rows ≤ 16384 → (codec : CodecWord) → AreBytes (drill_file rows) → length (drill_packed rows codec) ≤ 2 ^ 40 → Packs rows codec → Unpacks rows codec
come_back l back one rows some few codec bytes held packs = unpacks l rows some few codec bytes held back one packs
