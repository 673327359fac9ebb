-- What jobs have in common that make the header checks of `unpack` (FITS 4.0, sections 3.1 and 10.1).
use Rattle.std.proofs.Common.{◌≡◌, ℕ, List, map, refl, ap, ◌∙◌}
use Rattle.std.specs.Prelude.{Option, None}
use Rattle.std.specs.List.{filter}
use Rattle.fz_base.specs.declared.fault.Fault.{Fault}
use Rattle.fz_block.specs.Checks.{walk_of}
use Rattle.fz_block.specs.declared.header.Header.{Header}
use Rattle.fz_checks.specs.Greatest.{greatest}
use Rattle.fz_checks.specs.Judges.{unpack_judge}
use Rattle.fz_checks.specs.WorkBuffers.{pixels_of_tile}
use Rattle.fz_files.specs.Buffers.{header_len, longest_header, plans_behind}
use Rattle.fz_files.specs.Restored.{is_image, plan_in}
use Rattle.fz_files.specs.Walks.{cut_end_fault, header_fault, headers_for, job_walk, reached_by, reached_from}
use Rattle.fz_files.specs.declared.job.Job.{Job}
use Rattle.fz_files.specs.declared.job.Job.TheVariants.{Pack, Unpack, Cut, Verify, List as ListHdus, Drill, Retile}
use Rattle.fz_job.specs.declared.survey.Survey.{Survey}
use Rattle.fz_job.specs.Known.{ChecksAsUnpack, MeetsTile}

-- the largest tile of the images among some headers
abbrev pub tile_of_images : List ℕ → List Header → ℕ
tile_of_images file hs = greatest (map pixels_of_tile (map (plan_in file) (filter (is_image file) hs)))

pub record IsReader (job : Job) : Type 0 where
  pub walk : (file : List ℕ) → job_walk job file ≡ walk_of (unpack_judge file) 65536 file
  pub reached : (file : List ℕ) → reached_by job file ≡ reached_from (unpack_judge file) 65536 0 0 file
  pub ends : (file : List ℕ) (hs : List Header) → cut_end_fault job file hs ≡ None
  pub longest : (file : List ℕ) → longest_header job file ≡ greatest (map (header_len file) (reached_by job file))
  pub largest : (file : List ℕ) (hs : List Header) (s : Survey) → header_fault job file ≡ None → headers_for job file ≡ hs → tile_of_images file hs ≡ s.tile → MeetsTile job file s

unpacks : IsReader Unpack
unfolding job_walk reached_by
unpacks = record {
  walk = λ file. refl;
  reached = λ file. refl;
  ends = λ file hs. refl;
  longest = λ file. refl;
  largest = λ file hs s none are tile. ap (λ (f : Option Fault). greatest (map pixels_of_tile (plans_behind f Unpack file))) none ∙ ap (tile_of_images file) are ∙ tile;
}

verifies : IsReader Verify
unfolding job_walk reached_by
verifies = record {
  walk = λ file. refl;
  reached = λ file. refl;
  ends = λ file hs. refl;
  longest = λ file. refl;
  largest = λ file hs s none are tile. ap (λ (f : Option Fault). greatest (map pixels_of_tile (plans_behind f Verify file))) none ∙ ap (tile_of_images file) are ∙ tile;
}

lists : IsReader ListHdus
unfolding job_walk reached_by
lists = record {
  walk = λ file. refl;
  reached = λ file. refl;
  ends = λ file hs. refl;
  longest = λ file. refl;
  largest = λ file hs s none are tile. tt;
}

pub is_reader : (job : Job) → ChecksAsUnpack job → IsReader job
is_reader (Pack o) checks = absurd checks
is_reader Unpack checks = unpacks
is_reader (Cut wanted sieve) checks = absurd checks
is_reader Verify checks = verifies
is_reader ListHdus checks = lists
is_reader (Drill rows) checks = absurd checks
is_reader (Retile o) checks = absurd checks
