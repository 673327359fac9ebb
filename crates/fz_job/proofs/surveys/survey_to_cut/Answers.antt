-- The file ended before the HDU.
use Rattle.fz_job.proofs.Missing.{is_missing}
use Rattle.fz_job.proofs.surveys.survey_to_cut.Goals as goal

pub returns-in-None-clause-exact : goal.returns-in-None-clause-exact
returns-in-None-clause-exact g c =
    is_missing (g.S.Source.held c.args.source.now) c.args.length c.args.wanted c.args.region.now c.in_ok-seen.seen _
    (g.met.S.Source.agrees c.args.source.now c.args.length c.requires.attached) c.in_ok-seen.ensures.exact
    c.in-None.is c.missing_hdu.ensures
