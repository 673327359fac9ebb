-- Each is one of theirs.
use Rattle.fz_laws.proofs.outputs.walk_laws.Goals as goal

pub returns : goal.returns
returns c =
    record {
      headers = c.walk_law.ensures.headers;
      pass = c.found_hdus_law.ensures.pass;
      walk = c.passing_law.ensures.walk;
      judged = c.passing_law.ensures.judged;
      verify = c.same_faults_law.ensures.verify;
      list = c.same_faults_law.ensures.list;
    }
