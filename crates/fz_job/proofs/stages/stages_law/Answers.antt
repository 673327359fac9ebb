-- Stage by stage.
use Rattle.std.proofs.Common.{◌+◌, arith}
use Rattle.fz_job.proofs.Back.{meter_back, still_held}
use Rattle.fz_job.proofs.BlockStage.{behind_cause, block_peak, block_reached, has_answer, passes_behind, short_cause}
use Rattle.fz_job.proofs.StageJobs.{wanted_are}
use Rattle.fz_job.proofs.LookStage.{look_faulty, look_most, look_past, look_peak, look_works, tells_most}
use Rattle.fz_job.proofs.WorkStage.{rewrite_past, rewrite_works, short_past, short_works, passes_look, work_most, work_past, work_peak, work_reached, work_tells}
use Rattle.fz_job.proofs.stages.stages_law.Goals as goal

pub returns : goal.returns
returns g c = record {
  block = record {
    short = λ job held source sink workers meter short own nothing why. short_cause g.row.T.Denot job held source sink workers meter short own nothing why;
    behind = λ job held source source' sink sink' limit workers r own room works most tells. behind_cause job held source source' sink sink' limit workers r own room works most tells;
  };
  look = record {
    fault = λ job held stop tells. look_faulty g.row.T.Denot job held stop tells;
    works = λ before now sink limit stop reads. look_works g.row.T.Denot before now sink limit stop reads;
    first_past = λ job checks held W live limit stop before now makes one cause fault tells. look_past c.takings_law.ensures.first c.takings_law.ensures.second g.row.T.Denot job checks held W live limit stop before now makes one cause fault tells;
    over_limit = λ job workers live limit stop one tells.
        let within = look_most c.workspace_law.ensures.bound c.workspace_law.ensures.grows job workers in
        tells_most g.row.T.Denot limit (live + 737280) _ stop (omega (arith, within, one)) tells;
  };
  work = record {
    short_works = λ source sink limit short told. short_works g.row.T.Denot source sink limit short told;
    short_past = λ limit takings short tells. short_past g.row.T.Denot limit takings short tells;
    works = λ source source' sink sink' limit r rewrites. rewrite_works source source' sink sink' limit r rewrites;
    past = λ source source' sink sink' limit takings r why none. rewrite_past source source' sink sink' limit takings r why none;
    first_past = λ job checks held W live limit H n r makes one learnt none tells. work_past c.takings_law.ensures.second job checks held W live limit H n r makes one learnt none tells;
    over_limit = λ job workers live limit H n source source' sink sink' r own one header tile why tells.
        work_tells c.workspace_law.ensures.bound c.workspace_law.ensures.grows c.workspace_law.ensures.past job workers live limit H n source source' sink sink' r own one header tile why tells;
  };
  answers = λ job held source source' sink sink' limit workers r own cause. has_answer c.buffers_law.ensures.bounded job own held source source' sink sink' limit workers r cause;
  peaks = record {
    block = block_peak;
    look = λ job checks held workers live old new makes one low. look_peak c.buffers_law.ensures.bounded job checks held workers live old new makes one low;
    work = λ job checks held workers live old mid new H n makes one learnt low high.
        work_peak c.workspace_law.ensures.bound c.workspace_law.ensures.grows c.buffers_law.ensures.bounded job checks held workers live old mid new H n makes one learnt low high;
  };
  reached = record {
    block = block_reached;
    work = λ job checks held W live old mid new H n makes one learnt look work. work_reached job checks held W live old mid new H n makes one learnt look work;
  };
  passes = record {
    block = passes_behind;
    look = λ job checks held W live limit H n makes one learnt none. passes_look c.takings_law.ensures.second job checks held W live limit H n makes one learnt none;
  };
  sizes = record {
    look = λ job workers. look_most c.workspace_law.ensures.bound c.workspace_law.ensures.grows job workers;
    work = λ job workers H n own header tile. work_most c.workspace_law.ensures.bound c.workspace_law.ensures.grows job workers H n own header tile;
    wanted = wanted_are;
  };
  back = record {
    kept = λ wants w w' W pool pool' lengths space is window. still_held c.workspace_law.ensures.held wants w w' W pool pool' lengths space is window;
    given = meter_back;
  };
}
