-- The HDUs so far are compared; the source, the buffers and the counts are as at the start.
use Rattle.std.proofs.Common.{◌≡◌, ◌<◌, ◌⊎◌, length, IfSome}
use Rattle.fz_base.specs.Told.{StaysTold}
use Rattle.fz_pool.specs.Window.{WindowStays}
use Rattle.fz_job.specs.Workspace.{SpaceStays}
use Rattle.fz_strict.specs.Origins.{IsOrigin}
use Rattle.fz_compare.specs.Reads.{ReadsKnown}
use Rattle.fz_strict.proofs.CompareLoop.{IsComparing}
use Rattle.fz_strict.proofs.hdus.compare_hdus.Given as goal

abbrev pub invariant-loop-hdu : goal.invariant-loop-hdu
invariant-loop-hdu g l = record {
  held : g.S.Source.held l.source ≡ g.S.Source.held l.fn.source;
  attached : g.S.Source.attached l.source ≡ g.S.Source.attached l.fn.source;
  reads : g.S.Source.tally l.source ≡ g.S.Source.tally l.fn.source;
  told : StaysTold (g.S.Source.ranges l.fn.source) (g.S.Source.ranges l.source);
  read : IfSome (g.S.Source.held l.fn.source) (λ f. ReadsKnown f l.asked.survey (g.S.Source.ranges l.fn.source) (g.S.Source.ranges l.source));
  plain : length l.plain ≡ length l.fn.plain;
  space : SpaceStays l.fn.space l.space;
  window : WindowStays l.fn.window l.window;
  within : l.hdu < l.asked.survey.hdus → (l.start < l.length) ⊎ ((l.hdu ≡ 0) × (l.start ≡ 0));
  origin : IfSome l.origin IsOrigin;
  comparing : IfSome (g.S.Source.held l.fn.source) (IsComparing l.asked.options l.asked.survey l.hdu l.start l.after_empty l.origin);
}
