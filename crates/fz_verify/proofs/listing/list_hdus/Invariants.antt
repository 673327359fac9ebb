-- The HDUs so far are listed; the source, the buffers and the counts are as at the start.
use Rattle.std.proofs.Common.{◌≡◌, ◌^◌, ◌<◌, ◌≤◌, ◌⊎◌, length, IfSome}
use Rattle.fz_base.specs.Told.{StaysTold}
use Rattle.fz_verify.specs.Printed.{IsListing}
use Rattle.fz_verify.specs.Reads.{ReadsHeaders}
use Rattle.fz_verify.specs.Reported.{Grew}
use Rattle.fz_verify.proofs.listing.list_hdus.Given as goal

abbrev pub invariant-loop-hdu : goal.invariant-loop-hdu
invariant-loop-hdu g l = record {
  held : g.S.Source.held l.source ≡ g.S.Source.held l.fn.source;
  attached : g.S.Source.attached l.source ≡ g.S.Source.attached l.fn.source;
  reads : g.S.Source.tally l.source ≡ g.S.Source.tally l.fn.source;
  prints : g.T.Text.tally l.text ≡ g.T.Text.tally l.fn.text;
  told_ranges : StaysTold (g.S.Source.ranges l.fn.source) (g.S.Source.ranges l.source);
  told_contents : StaysTold (g.T.Text.contents l.fn.text) (g.T.Text.contents l.text);
  buf : length l.buf ≡ length l.fn.buf;
  within : l.hdu < l.survey.hdus → (l.start < l.length) ⊎ ((l.hdu ≡ 0) × (l.start ≡ 0));
  early : l.start ≤ 2 ^ 62;
  listed : IfSome (g.S.Source.held l.fn.source) (IsListing l.survey l.hdu l.start l.after_empty (g.T.Text.contents l.fn.text) (g.T.Text.contents l.text));
  read : IfSome (g.S.Source.held l.fn.source) (λ f. ReadsHeaders f l.survey (g.S.Source.ranges l.fn.source) (g.S.Source.ranges l.source));
  grown : Grew (g.T.Text.contents l.fn.text) (g.T.Text.contents l.text);
}
