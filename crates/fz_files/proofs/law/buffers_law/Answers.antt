-- Header by header, and then the work.
use Rattle.fz_files.proofs.BufferLemmas.{all_within, bound_rises, drill_within}
use Rattle.fz_files.proofs.law.buffers_law.Goals as goal

pub returns : goal.returns
returns c = record { bounded = all_within; monotone = bound_rises; drill = drill_within }
