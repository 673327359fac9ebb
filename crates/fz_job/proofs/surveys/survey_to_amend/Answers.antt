-- The HDU was found, or the file ended before it.
use Rattle.fz_job.proofs.Missing.{is_not_there, is_there}
use Rattle.fz_job.proofs.surveys.survey_to_amend.Goals as goal

pub returns-in-None-clause-exact : goal.returns-in-None-clause-exact
returns-in-None-clause-exact g c =
    is_not_there (g.S.Source.held c.args.source.now) c.args.length c.args.wanted c.in_ok-seen.seen _
    (g.met.S.Source.agrees c.args.source.now c.args.length c.requires.attached) c.in_ok-seen.ensures.exact
    c.in-None.is c.missing_hdu.ensures

pub returns-in-Some-clause-exact : goal.returns-in-Some-clause-exact
returns-in-Some-clause-exact g c =
    is_there (g.S.Source.held c.args.source.now) c.args.wanted c.in_ok-seen.seen c.in-Some.header c.in_ok-seen.ensures.exact c.in-Some.is
