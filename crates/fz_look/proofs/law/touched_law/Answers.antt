-- By the headers that the first look saw.
use Rattle.fz_files.specs.declared.job.Job.TheVariants.{Unpack}
use Rattle.fz_look.proofs.Touching.{copy_logs, header_logs}
use Rattle.fz_look.proofs.law.touched_law.Goals as goal

pub returns-clause-header : goal.returns-clause-header
returns-clause-header c = λ g s k start at flag old new is placed read.
    header_logs g s (c.known_law.ensures.know Unpack tt g s is) (c.hdus_law.ensures.known Unpack tt) (c.hdus_law.ensures.header Unpack) k start at flag old new placed read

pub returns-clause-copy : goal.returns-clause-copy
returns-clause-copy c = λ g s h old new is found none read.
    copy_logs g s (c.known_law.ensures.know Unpack tt g s is) (c.hdus_law.ensures.known Unpack tt) h found c.ranges_law.ensures.within c.hdu_at_law.ensures.blocks old new none read
