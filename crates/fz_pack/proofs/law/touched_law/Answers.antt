-- Header by header.
use Rattle.fz_pack.proofs.HduReads.{hdus_are, look_touched}
use Rattle.fz_pack.proofs.law.touched_law.Goals as goal

pub returns : goal.returns
returns c = record { look = look_touched; hdus = hdus_are c.reached_law.ensures.found }
