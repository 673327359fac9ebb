-- The first i strips are there, and only bytes of the image were read.
use Rattle.std.proofs.Common.{◌≡◌, length, IfSome}
use Rattle.fz_base.specs.Told.{StaysTold}
use Rattle.fz_image.specs.Layout.{ReadsPixels}
use Rattle.fz_image.proofs.StripBytes.{AreRead}
use Rattle.fz_image.proofs.strips.read_strips.Given as goal

abbrev pub invariant-loop-i : goal.invariant-loop-i
invariant-loop-i g l = record {
  held : g.S.Source.held l.source ≡ g.S.Source.held l.fn.source;
  attached : g.S.Source.attached l.source ≡ g.S.Source.attached l.fn.source;
  told_ranges : StaysTold (g.S.Source.ranges l.fn.source) (g.S.Source.ranges l.source);
  log : ReadsPixels l.layout (g.S.Source.ranges l.fn.source) (g.S.Source.ranges l.source);
  reads : g.S.Source.tally l.source ≡ g.S.Source.tally l.fn.source;
  long : length l.ahead ≡ length l.fn.ahead;
  read : IfSome (g.S.Source.held l.fn.source) (λ file. AreRead file l.strips l.i l.ahead);
}
