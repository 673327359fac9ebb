-- The HDUs so far are verified; the source, the buffers and the counts are as at the start.
use Rattle.std.proofs.Common.{◌≡◌, ◌^◌, ◌<◌, ◌≤◌, ◌⊎◌, length, IfSome}
use Rattle.fz_base.specs.Told.{StaysTold}
use Rattle.fz_job.specs.Workspace.{SpaceStays}
use Rattle.fz_job.specs.Hdus.{ReadsHdus}
use Rattle.fz_files.specs.declared.job.Job.TheVariants.{Verify}
use Rattle.fz_pool.specs.Window.{WindowStays}
use Rattle.fz_verify.specs.Printed.{IsChecking}
use Rattle.fz_verify.specs.Reported.{ReportsFrom}
use Rattle.fz_verify.proofs.checking.verify_hdus.Given as goal

abbrev pub invariant-loop-hdu : goal.invariant-loop-hdu
invariant-loop-hdu g l = record {
  held : g.S.Source.held l.source ≡ g.S.Source.held l.fn.source;
  attached : g.S.Source.attached l.source ≡ g.S.Source.attached l.fn.source;
  reads : g.S.Source.tally l.source ≡ g.S.Source.tally l.fn.source;
  prints : g.T.Text.tally l.text ≡ g.T.Text.tally l.fn.text;
  told_ranges : StaysTold (g.S.Source.ranges l.fn.source) (g.S.Source.ranges l.source);
  told_contents : StaysTold (g.T.Text.contents l.fn.text) (g.T.Text.contents l.text);
  space : SpaceStays l.fn.space l.space;
  window : WindowStays l.fn.window l.window;
  within : l.hdu < l.survey.hdus → (l.start < l.length) ⊎ ((l.hdu ≡ 0) × (l.start ≡ 0));
  early : l.start ≤ 2 ^ 62;
  checked : IfSome (g.S.Source.held l.fn.source) (IsChecking l.survey l.hdu l.start l.after_empty l.right (g.T.Text.contents l.fn.text) (g.T.Text.contents l.text));
  read : IfSome (g.S.Source.held l.fn.source) (λ f. ReadsHdus Verify f l.survey (g.S.Source.ranges l.fn.source) (g.S.Source.ranges l.source));
  reported : ReportsFrom 0 l.hdu (g.T.Text.contents l.fn.text) (g.T.Text.contents l.text) l.right;
}
