-- Header by header.
use Rattle.fz_job.proofs.Headers.{headers_seen, look_reads}
use Rattle.fz_job.proofs.UnpackJobs.{is_reader}
use Rattle.fz_job.proofs.again_laws.headers_law.Goals as goal

pub returns : goal.returns
returns c = record {
  look = λ job checks file range within byte from to. look_reads file job (is_reader job checks) range within byte from to;
  seen = λ job checks file s known. headers_seen file c.reached_law.ensures.found job s known;
}
