-- The HDU at hand begins before the byte; the view is at the same file, and the counts are as at the start.
use Rattle.std.proofs.Common.{◌≡◌, ◌-◌, ◌≤◌, Some}
use Rattle.fz_retile.specs.Stays.{ViewStays}
use Rattle.fz_retile.specs.Views.{with_more}
use Rattle.fz_retile.proofs.view.PlainView.go_to.Given as goal

abbrev pub invariant-loop-here : goal.invariant-loop-here
invariant-loop-here g l = record {
  view : ViewStays l.fn.self l.self;
  cause : with_more (g.S.Source.tally l.self.inner.now) l.self.more ≡ with_more (g.S.Source.tally l.fn.self.inner.now) l.fn.self.more;
  later : l.self.later ≡ l.fn.self.later;
  here : l.self.here ≡ Some l.here;
  low : l.here.at ≤ l.at;
}

abbrev pub decreases-loop-here : goal.decreases-loop-here
decreases-loop-here g l = l.self.plain_len - l.here.end
