-- What each job takes and wants.
use Rattle.std.proofs.Common.{◌≡◌, ℕ, ◌+◌, ◌≤◌, ◌^◌, List, ◌∷◌, drop, refl, ap, ◌∙◌, arith}
use Rattle.std.specs.Prelude.{Option, sum}
use Rattle.fz_base.specs.Takings.{piled}
use Rattle.fz_base.specs.declared.fault.Fault.{Fault}
use Rattle.fz_block.specs.Checks.{Judge}
use Rattle.fz_checks.specs.Judges.{pack_judge, unpack_judge, cut_judge}
use Rattle.fz_head.specs.declared.options.PackOptions.{PackOptions}
use Rattle.fz_grid.specs.declared.sieve.Sieve.{Sieve}
use Rattle.fz_files.specs.Buffers.{IsOfFile, file_takings, header_takings, job_bound, job_buffers, job_takings, largest_tile, longest_header, room_takings, work_takings, workers_of}
use Rattle.fz_files.specs.Walks.{box_of, header_fault}
use Rattle.fz_files.specs.declared.job.Job.{Job}
use Rattle.fz_files.specs.declared.job.Job.TheVariants.{Pack, Unpack, Cut, Verify, List as ListHdus, Drill, Retile}
use Rattle.fz_job.specs.Clauses.{greatest_tile}
use Rattle.fz_job.specs.Judges.{judge_of}
use Rattle.fz_job.specs.Surveys.{survey_takings}
use Rattle.fz_job.specs.Workspace.{BoundGrows, StaysInBound, pixels_of, wanted_buffers}
use Rattle.fz_job.specs.declared.checks.JobChecks.{JobChecks}
use Rattle.fz_job.specs.declared.checks.JobChecks.TheVariants.{Pack as PackChecks, Unpack as UnpackChecks, Cut as CutChecks}
use Rattle.fz_job.specs.declared.workspace.Wants.{Wants}
use Rattle.fz_job.specs.Stages.{HasLargest, HasStages, MakesChecks, wants_of}

-- a job that makes checks has stages
pub of_file : (job : Job) (checks : JobChecks) → MakesChecks job checks → HasStages job
of_file (Pack o) checks makes = tt
of_file Unpack checks makes = tt
of_file (Cut wanted sieve) checks makes = tt
of_file Verify checks makes = tt
of_file ListHdus checks makes = tt
of_file (Drill rows) checks makes = absurd makes
of_file (Retile o) checks makes = absurd makes

-- and one that has stages does
pub on_file : (job : Job) → HasStages job → IsOfFile job
on_file (Pack o) own = tt
on_file Unpack own = tt
on_file (Cut wanted sieve) own = tt
on_file Verify own = tt
on_file ListHdus own = tt
on_file (Drill rows) own = absurd own
on_file (Retile o) own = absurd own

-- ---- takings

pub takings_of_file : (job : Job) (file : List ℕ) (workers : ℕ) → HasStages job → job_takings job file workers ≡ file_takings job file (workers_of job workers)
takings_of_file (Pack o) file workers own = refl
takings_of_file Unpack file workers own = refl
takings_of_file (Cut wanted sieve) file workers own = refl
takings_of_file Verify file workers own = refl
takings_of_file ListHdus file workers own = refl
takings_of_file (Drill rows) file workers own = absurd own
takings_of_file (Retile o) file workers own = absurd own

-- both name the same checks
pack_checks : (o : PackOptions) (file : List ℕ) → judge_of (PackChecks o) file ≡ pack_judge o file
unfolding judge_of
pack_checks o file = refl

unpack_checks : (file : List ℕ) → judge_of UnpackChecks file ≡ unpack_judge file
unfolding judge_of
unpack_checks file = refl

cut_checks : (wanted : Option ℕ) (sieve : Sieve) (file : List ℕ) → judge_of (CutChecks wanted (box_of sieve)) file ≡ cut_judge wanted (box_of sieve) file
unfolding judge_of
cut_checks wanted sieve file = refl

as_unpack : (checks : JobChecks) (file : List ℕ) (live : ℕ) → checks ≡ UnpackChecks → live ≡ 2880 → survey_takings checks live file ≡ room_takings (unpack_judge file) 2880 65536 file
as_unpack checks file live makes one =
    (λ i. survey_takings (makes i) (one i) file) ∙ ap (λ (j : Judge). room_takings j 2880 65536 file) (unpack_checks file)

-- the look takes the headers of the job
pub takings_of_headers : (job : Job) (checks : JobChecks) (file : List ℕ) (live : ℕ) → MakesChecks job checks → live ≡ 2880 → survey_takings checks live file ≡ header_takings job file
takings_of_headers (Pack o) checks file live makes one =
    (λ i. survey_takings (makes i) (one i) file) ∙ ap (λ (j : Judge). room_takings j 2880 65535 file) (pack_checks o file)
takings_of_headers Unpack checks file live makes one = as_unpack checks file live makes one
takings_of_headers (Cut wanted sieve) checks file live makes one =
    (λ i. survey_takings (makes i) (one i) file) ∙ ap (λ (j : Judge). room_takings j 2880 65536 file) (cut_checks wanted sieve file)
takings_of_headers Verify checks file live makes one = as_unpack checks file live makes one
takings_of_headers ListHdus checks file live makes one = as_unpack checks file live makes one
takings_of_headers (Drill rows) checks file live makes one = absurd makes
takings_of_headers (Retile o) checks file live makes one = absurd makes

-- ---- what the work wants

pub wanted_are : (job : Job) (H n W : ℕ) → HasStages job → job_buffers job H n W ≡ wanted_buffers (wants_of job H n) W
wanted_are (Pack o) H n W own = refl
wanted_are Unpack H n W own = refl
wanted_are (Cut wanted sieve) H n W own = refl
wanted_are Verify H n W own = refl
wanted_are ListHdus H n W own = refl
wanted_are (Drill rows) H n W own = absurd own
wanted_are (Retile o) H n W own = absurd own

pub wants_header : (job : Job) (H n : ℕ) → (wants_of job H n).header_len ≡ H
wants_header (Pack o) H n = refl
wants_header Unpack H n = refl
wants_header (Cut wanted sieve) H n = refl
wants_header Verify H n = refl
wants_header ListHdus H n = refl
wants_header (Drill rows) H n = refl
wants_header (Retile o) H n = refl

pub wants_pixels : (job : Job) (H n : ℕ) → pixels_of (wants_of job H n).tile ≤ n
wants_pixels (Pack o) H n = omega arith
wants_pixels Unpack H n = omega arith
wants_pixels (Cut wanted sieve) H n = omega arith
wants_pixels Verify H n = omega arith
wants_pixels ListHdus H n = omega arith
wants_pixels (Drill rows) H n = omega arith
wants_pixels (Retile o) H n = omega arith

-- they are of no larger tile than the job works on
pub wants_fit : (job : Job) (H n : ℕ) → n ≤ 2 ^ 26 → pixels_of (wants_of job H n).tile ≤ greatest_tile job
wants_fit (Pack o) H n few = few
wants_fit Unpack H n few = few
wants_fit (Cut wanted sieve) H n few = few
wants_fit Verify H n few = few
wants_fit ListHdus H n few = omega arith
wants_fit (Drill rows) H n few = omega arith
wants_fit (Retile o) H n few = omega arith

-- and the longest header is the first of them
pub header_first : (job : Job) (H n W : ℕ) → wanted_buffers (wants_of job H n) W ≡ H ∷ drop 1 (wanted_buffers (wants_of job H n) W)
header_first (Pack o) H n W = refl
header_first Unpack H n W = refl
header_first (Cut wanted sieve) H n W = refl
header_first Verify H n W = refl
header_first ListHdus H n W = refl
header_first (Drill rows) H n W = refl
header_first (Retile o) H n W = refl

module _ (job : Job) (own : HasStages job) (file : List ℕ) (H n : ℕ) (learnt : HasLargest job H n file) where
  pub takings_of_work : (W : ℕ) → work_takings (header_fault job file) job file W ≡ piled 2880 (wanted_buffers (wants_of job H n) W)
  takings_of_work W =
      ap (λ (f : Option Fault). work_takings f job file W) learnt.no_fault
      ∙ (λ i. piled 2880 (job_buffers job (learnt.longest i) (learnt.largest i) W))
      ∙ ap (piled 2880) (wanted_are job H n W own)

  pub work_within : StaysInBound → BoundGrows → (workers : ℕ) → 2880 + sum (wanted_buffers (wants_of job H n) (workers_of job workers)) ≤ job_bound job file workers
  work_within stays grows workers =
      let wants : Wants = wants_of job H n in
      let header : wants.header_len ≤ longest_header job file = omega (arith, wants_header job H n, learnt.longest) in
      let tile : pixels_of wants.tile ≤ largest_tile job file = omega (arith, wants_pixels job H n, learnt.largest) in
      let one = stays wants (workers_of job workers) in
      let more = grows wants.header_len (longest_header job file) (pixels_of wants.tile) (largest_tile job file) (workers_of job workers) header tile in
      omega (arith, one, more)
