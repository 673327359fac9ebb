-- By what the words ask for.
use Rattle.fz_files.specs.declared.job.Job.TheVariants.{Unpack}
use Rattle.fz_app.proofs.MemoryRuns.{if_err, if_ok, unpack_asks}
use Rattle.fz_app.proofs.memory.unpack_bytes.Goals as goal

pub returns : goal.returns
returns g c =
    record {
      restored = if_ok (λ bytes makes. (makes Unpack unpack_asks).output) c.run_between.result c.run_between.ensures.makes;
      cause = if_err (λ status cause. cause Unpack unpack_asks) c.run_between.result c.run_between.ensures.cause;
    }
