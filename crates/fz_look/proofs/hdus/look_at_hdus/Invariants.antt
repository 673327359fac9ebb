-- The HDUs so far are looked at; the source, the buffers and the counts are as at the start.
use Rattle.std.proofs.Common.{◌≡◌, ◌+◌, ◌*◌, ◌^◌, ◌<◌, ◌≤◌, ◌⊎◌, true, length, IfSome}
use Rattle.fz_base.specs.Told.{StaysTold}
use Rattle.fz_job.specs.Workspace.{SpaceStays}
use Rattle.fz_job.specs.Hdus.{ReadsHdus}
use Rattle.fz_files.specs.declared.job.Job.TheVariants.{Unpack}
use Rattle.fz_pool.specs.Window.{WindowStays}
use Rattle.fz_look.proofs.Looking.{BeginsNear, IsLooking}
use Rattle.fz_look.proofs.hdus.look_at_hdus.Given as goal

abbrev pub invariant-loop-hdu : goal.invariant-loop-hdu
invariant-loop-hdu g l = record {
  held : g.S.Source.held l.source ≡ g.S.Source.held l.fn.source;
  attached : g.S.Source.attached l.source ≡ g.S.Source.attached l.fn.source;
  reads : g.S.Source.tally l.source ≡ g.S.Source.tally l.fn.source;
  told_ranges : StaysTold (g.S.Source.ranges l.fn.source) (g.S.Source.ranges l.source);
  space : SpaceStays l.fn.space l.space;
  window : WindowStays l.fn.window l.window;
  within : l.hdu < l.survey.hdus → (l.start < l.length) ⊎ ((l.hdu ≡ 0) × (l.start ≡ 0));
  early : l.start ≤ 2 ^ 62;
  behind : l.after_empty ≡ true → l.hdu ≡ 1;
  few : l.seen.plain_len ≤ l.start + l.hdu * 2 ^ 45;
  first : BeginsNear l.length l.seen.first;
  looking : IfSome (g.S.Source.held l.fn.source) (IsLooking l.survey l.hdu l.start l.after_empty l.seen);
  read : IfSome (g.S.Source.held l.fn.source) (λ f. ReadsHdus Unpack f l.survey (g.S.Source.ranges l.fn.source) (g.S.Source.ranges l.source));
}
