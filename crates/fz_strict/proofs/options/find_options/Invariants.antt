-- The options of the HDUs so far are gathered; the source and its counts are as at the start.
use Rattle.std.proofs.Common.{◌≡◌, ◌<◌, ◌⊎◌, length, IfSome}
use Rattle.fz_base.specs.Told.{StaysTold}
use Rattle.fz_job.specs.Hdus.{ReadsHdus}
use Rattle.fz_files.specs.declared.job.Job.TheVariants.{Verify}
use Rattle.fz_strict.specs.Gathered.{IsFound}
use Rattle.fz_strict.proofs.FindLoop.{IsGathering}
use Rattle.fz_strict.proofs.options.find_options.Given as goal

abbrev pub invariant-loop-hdu : goal.invariant-loop-hdu
invariant-loop-hdu g l = record {
  held : g.S.Source.held l.source ≡ g.S.Source.held l.fn.source;
  attached : g.S.Source.attached l.source ≡ g.S.Source.attached l.fn.source;
  reads : g.S.Source.tally l.source ≡ g.S.Source.tally l.fn.source;
  told : StaysTold (g.S.Source.ranges l.fn.source) (g.S.Source.ranges l.source);
  read : IfSome (g.S.Source.held l.fn.source) (λ f. ReadsHdus Verify f l.survey (g.S.Source.ranges l.fn.source) (g.S.Source.ranges l.source));
  header : length l.header ≡ length l.fn.header;
  within : l.hdu < l.survey.hdus → (l.start < l.length) ⊎ ((l.hdu ≡ 0) × (l.start ≡ 0));
  found : IsFound l.found;
  gathered : IfSome (g.S.Source.held l.fn.source) (IsGathering l.survey l.hdu l.start l.after_empty l.found);
}
