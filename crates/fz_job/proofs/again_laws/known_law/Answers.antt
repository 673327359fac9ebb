-- Header by header.
use Rattle.fz_job.proofs.UnpackJobs.{is_reader}
use Rattle.fz_job.proofs.Known.{TheLaws, is_known, is_refused}
use Rattle.fz_job.proofs.again_laws.known_law.Goals as goal

pub returns : goal.returns
returns c =
    let laws : TheLaws =
    record {
      headers = c.walk_law.ensures.headers;
      pass = c.found_hdus_law.ensures.pass;
      blocks = c.found_law.ensures.blocks;
      places = c.hdu_law.ensures.places;
    } in
    record {
      know = λ job checks file s is. is_known file laws job (is_reader job checks) s is;
      refuse = λ job checks file x is. is_refused file job (is_reader job checks) x is;
    }
