-- By what the words ask for.
use Rattle.fz_files.specs.declared.job.Job.TheVariants.{Pack}
use Rattle.fz_app.specs.Memory.{default_options}
use Rattle.fz_app.proofs.MemoryRuns.{if_err, if_ok, pack_asks, taken_of}
use Rattle.fz_app.proofs.memory.pack_bytes.Goals as goal

pub returns : goal.returns
returns g c =
    record {
      packed = if_ok (λ bytes makes. (makes (Pack default_options) pack_asks).output) c.run_between.result c.run_between.ensures.makes;
      taken = if_ok (λ bytes makes. taken_of c.args.file.now bytes.items c.bytes_law.ensures (makes (Pack default_options) pack_asks)) c.run_between.result c.run_between.ensures.makes;
      cause = if_err (λ status cause. cause (Pack default_options) pack_asks) c.run_between.result c.run_between.ensures.cause;
    }
