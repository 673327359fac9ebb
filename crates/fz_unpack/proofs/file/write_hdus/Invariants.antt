-- The HDUs so far are written; the source, the buffers and the counts are as at the start.
use Rattle.std.proofs.Common.{◌≡◌, ◌+◌, ◌*◌, ◌^◌, ◌<◌, ◌≤◌, ◌⊎◌, IfSome}
use Rattle.fz_base.specs.FirstByte.{StaysShut}
use Rattle.fz_base.specs.Told.{StaysTold}
use Rattle.fz_files.specs.declared.job.Job.TheVariants.{Unpack}
use Rattle.fz_job.specs.Hdus.{ReadsHdus}
use Rattle.fz_pool.specs.Window.{WindowStays}
use Rattle.fz_unpack.specs.Behind.{IsUnderway}
use Rattle.fz_job.specs.Workspace.{SpaceStays}
use Rattle.fz_unpack.proofs.file.write_hdus.Given as goal

abbrev pub invariant-loop-hdu : goal.invariant-loop-hdu
invariant-loop-hdu g l = record {
  held : g.S.Source.held l.source ≡ g.S.Source.held l.fn.source;
  attached : g.S.Source.attached l.source ≡ g.S.Source.attached l.fn.source;
  reads : g.S.Source.tally l.source ≡ g.S.Source.tally l.fn.source;
  writes : g.K.Sink.tally l.sink ≡ g.K.Sink.tally l.fn.sink;
  created : g.K.Sink.created l.sink ≡ g.K.Sink.created l.fn.sink;
  shut : StaysShut (g.K.Sink.contents l.fn.sink) (g.K.Sink.contents l.sink);
  told_ranges : StaysTold (g.S.Source.ranges l.fn.source) (g.S.Source.ranges l.source);
  told_contents : StaysTold (g.K.Sink.contents l.fn.sink) (g.K.Sink.contents l.sink);
  read : IfSome (g.S.Source.held l.fn.source) (λ f. ReadsHdus Unpack f l.survey (g.S.Source.ranges l.fn.source) (g.S.Source.ranges l.source));
  space : SpaceStays l.fn.space l.space;
  window : WindowStays l.fn.window l.window;
  within : l.hdu < l.survey.hdus → (l.start < l.length) ⊎ ((l.hdu ≡ 0) × (l.start ≡ 0));
  early : l.start ≤ 2 ^ 62;
  near : l.at ≤ l.start + l.hdu * 2 ^ 46;
  written : IfSome (g.S.Source.held l.fn.source) (IsUnderway l.survey l.hdu l.start l.at l.after_empty (g.K.Sink.contents l.fn.sink) (g.K.Sink.contents l.sink));
}
