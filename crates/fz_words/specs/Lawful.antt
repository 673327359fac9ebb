-- What holds of all that words can ask for: the conditions under which the jobs take it.
use Rattle.std.specs.Prelude.{ℕ, ◌≡◌, ◌<◌, ◌≤◌, ◌^◌, IfSome, Some, ⊤}
use Rattle.fz_files.specs.declared.job.Job.{Job}
use Rattle.fz_files.specs.declared.job.Job.TheVariants.{Pack, Unpack, Cut, Verify, List as ListHdus, Drill, Retile}
use Rattle.fz_files.specs.Picks.{HasPicks}
use Rattle.fz_head.specs.Planned.{AreOptions, IsTile}
use Rattle.fz_words.specs.declared.patch_request.PatchRequest.{PatchRequest}
use Rattle.fz_words.specs.declared.request.Request.{Request}

-- the options of a job that so many workers do
abbrev pub IsLawfulJob : Job → ℕ → Type 0
IsLawfulJob (Pack options) workers = AreOptions options × (options.workers ≡ workers)
IsLawfulJob Unpack workers = ⊤
IsLawfulJob (Cut hdu sieve) workers = HasPicks sieve × IfSome hdu (λ h. h < 2 ^ 16)
IsLawfulJob Verify workers = ⊤
IsLawfulJob ListHdus workers = ⊤
IsLawfulJob (Drill rows) workers = (1 ≤ rows) × (rows ≤ 16384)
IsLawfulJob (Retile options) workers = AreOptions options × (options.workers ≡ workers)

pub record IsLawful (r : Request) : Type 0 where
  pub job : IsLawfulJob r.job r.workers
  pub some_workers : 1 ≤ r.workers
  pub few_workers : r.workers ≤ 64
  pub some_memory : 1 ≤ r.memory
  pub memory : r.memory ≤ 2 ^ 40

pub record IsLawfulPatch (r : PatchRequest) : Type 0 where
  pub hdu : IfSome r.hdu (λ h. h < 2 ^ 16)
  pub at : IsTile (Some r.at)
  pub some_memory : 1 ≤ r.memory
  pub memory : r.memory ≤ 2 ^ 40
