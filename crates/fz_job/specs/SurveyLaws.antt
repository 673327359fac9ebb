-- What the first look of a job learns and takes, in terms of what the job says of an HDU.
use Rattle.std.specs.Prelude.{ℕ, ◌≡◌, List, Option}
use Rattle.std.specs.Result.{result_map_both}
use Rattle.fz_block.specs.Checks.{Judge, unjudged, walk_of}
use Rattle.fz_grid.specs.declared.region.Region.{Region}
use Rattle.fz_checks.specs.Judges.{pack_judge, unpack_judge, cut_judge, amend_judge}
use Rattle.fz_head.specs.declared.options.PackOptions.{PackOptions}
use Rattle.fz_files.specs.Buffers.{room_takings}
use Rattle.fz_job.specs.Surveys.{headers_seen, survey_of, surveyed, survey_takings}
use Rattle.fz_job.specs.declared.checks.JobChecks.{JobChecks}
use Rattle.fz_job.specs.declared.checks.JobChecks.TheVariants.{Pack, Unpack, Cut, Amend, Every}

-- The look with these checks goes over the headers that this judge goes over, of which there may be so many: those are the headers
-- that it sees, it learns what is learnt of them, and it takes room for them.
pub record LooksOver (checks : JobChecks) (judge : List ℕ → Judge) (most : ℕ) : Type 0 where
  pub seen : (file : List ℕ) → headers_seen checks file ≡ walk_of (judge file) most file
  pub learnt : (file : List ℕ) → surveyed checks file ≡ result_map_both (survey_of checks file) (λ x. x) (walk_of (judge file) most file)
  pub takings : (live : ℕ) (file : List ℕ) → survey_takings checks live file ≡ room_takings (judge file) live most file

-- the look of each job goes over the headers that the job looks at; a file that is packed has room for an empty primary
abbrev pub PackLooksOver : Type 0
PackLooksOver = (o : PackOptions) → LooksOver (Pack o) (pack_judge o) 65535

abbrev pub UnpackLooksOver : Type 0
UnpackLooksOver = LooksOver Unpack unpack_judge 65536

abbrev pub CutLooksOver : Type 0
CutLooksOver = (wanted : Option ℕ) (region : Region) → LooksOver (Cut wanted region) (cut_judge wanted region) 65536

abbrev pub AmendLooksOver : Type 0
AmendLooksOver = (wanted : Option ℕ) → LooksOver (Amend wanted) (amend_judge wanted) 65536

abbrev pub EveryLooksOver : Type 0
EveryLooksOver = LooksOver Every (λ file. unjudged) 65536
