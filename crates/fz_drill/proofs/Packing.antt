-- What `pack` does with the file of `drill`.
use Rattle.std.specs.Prelude.{None, Ok}
use Rattle.std.proofs.Common.{◌≡◌, ℕ, ◌≤◌, max, Bool, List, [], ◌∷◌, map, if◌then◌else◌, refl, sym, ap, ◌∙◌, subst, arith}
use Rattle.std.specs.List.{filter}
use Rattle.fz_base.specs.JobBuffers.{buffer_bound}
use Rattle.fz_block.specs.Checks.{walk_of}
use Rattle.fz_block.specs.Hdus.{AreHdusOf, Hdu}
use Rattle.fz_block.specs.declared.header.Header.{Header}
use Rattle.fz_checks.specs.Greatest.{greatest}
use Rattle.fz_checks.specs.Judges.{pack_judge}
use Rattle.fz_head.specs.Packable.{is_packable}
use Rattle.fz_head.specs.Planned.{pack_plan_of}
use Rattle.fz_checks.specs.WorkBuffers.{pixels_of_tile}
use Rattle.fz_head.specs.declared.options.CodecWord.{CodecWord}
use Rattle.fz_head.specs.declared.options.PackOptions.{PackOptions}
use Rattle.fz_files.specs.Buffers.{found_len, header_len, largest_tile, longest_header, plans_behind}
use Rattle.fz_files.specs.Drill.{drill_file, drill_hdu, drill_options}
use Rattle.fz_files.specs.FirstFault.{IsFaultBehind, IsFirstFault}
use Rattle.fz_files.specs.Packed.{packed_file}
use Rattle.fz_files.specs.Walks.{fault_of_walk, found_headers, header_fault, job_walk, reached_by}
use Rattle.fz_files.specs.declared.job.Job.TheVariants.{Pack}
use Rattle.fz_drill.specs.Jobs.{Packs}
use Rattle.fz_drill.specs.Taken.{FileLaws}
use Rattle.fz_drill.proofs.Packable.{judged_so, packable}
use Rattle.fz_drill.proofs.PlainFile.{blocks_at, drill_is, found_at, hdus_are, next_is}
use Rattle.fz_drill.proofs.PlainHeader.{image_facts}
use Rattle.fz_drill.proofs.Walks.{reach_end, walk_end}

pub tile_is : (rows : ℕ) (codec : CodecWord) → pixels_of_tile (pack_plan_of (drill_options codec) (image_facts 256 rows)) ≡ 256
unfolding pack_plan_of
tile_is rows codec = refl

module _ (l : FileLaws) (one : (file : List ℕ) (hs ks : List Hdu) → AreHdusOf file hs → AreHdusOf file ks → hs ≡ ks) (rows : ℕ) (some : 1 ≤ rows) (few : rows ≤ 16384) (codec : CodecWord) where
  abbrev file : List ℕ
  file = drill_file rows

  abbrev facts : Header
  facts = image_facts 256 rows

  abbrev o : PackOptions
  o = drill_options codec

  pub walk_is : walk_of (pack_judge o file) 65535 file ≡ Ok (facts ∷ [])
  walk_is = walk_end file (pack_judge o file) 65534 0 0 facts (found_at l rows few file (drill_is rows)) (judged_so l rows some few file (drill_is rows) codec) (next_is l rows few file (drill_is rows))

  job_is : job_walk (Pack o) file ≡ Ok (facts ∷ [])
  unfolding job_walk
  job_is = walk_is

  reached_is : reached_by (Pack o) file ≡ record { hdu = 0; start = 0 } ∷ []
  unfolding reached_by
  reached_is = reach_end file (pack_judge o file) 65534 0 0 facts (found_at l rows few file (drill_is rows)) (judged_so l rows some few file (drill_is rows) codec) (next_is l rows few file (drill_is rows))

  none : header_fault (Pack o) file ≡ None
  none = ap (fault_of_walk (Pack o) file) job_is

  sound : IsFirstFault (Pack o) file None
  sound = subst (λ r. IsFaultBehind r (Pack o) file None) (sym none) tt

  longest : longest_header (Pack o) file ≡ 2880
  longest = ap (λ rs. greatest (map (header_len file) rs)) reached_is ∙ ap (λ r. max (found_len r) 0) (blocks_at l rows few file (drill_is rows))

  plans : plans_behind (header_fault (Pack o) file) (Pack o) file ≡ pack_plan_of o facts ∷ []
  plans =
      ap (λ r. plans_behind r (Pack o) file) none
      ∙ (ap (λ r. map (pack_plan_of o) (filter is_packable (found_headers r))) job_is
      ∙ ap (λ (b : Bool). map (pack_plan_of o) (if b then facts ∷ [] else [])) (packable rows some))

  largest : largest_tile (Pack o) file ≡ 256
  largest = ap (λ ps. greatest (map pixels_of_tile ps)) plans ∙ ap (λ n. max n 0) (tile_is rows codec)

  pub packs : Packs rows codec
  packs = record {
    sound = sound;
    bound = le_of (λ i. buffer_bound (longest i) (largest i) 4);
    one = λ bytes is. is.packed ∙ ap (packed_file o) (one file is.hdus (drill_hdu rows ∷ []) is.parts (hdus_are l rows few file (drill_is rows)));
  }
    where
      le_of : {a b : ℕ} → a ≡ b → a ≤ b
      le_of e = omega (arith, e)
