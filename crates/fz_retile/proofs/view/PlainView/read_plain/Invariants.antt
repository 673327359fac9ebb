-- The first bytes are read; the view is at the same file, and the counts are as at the start.
use Rattle.std.proofs.Common.{◌≡◌, ◌-◌, ◌≤◌, length, take, drop, IfSome}
use Rattle.fz_retile.specs.Stays.{ViewStays}
use Rattle.fz_retile.specs.Views.{restored_from, with_more}
use Rattle.fz_retile.proofs.view.PlainView.read_plain.Given as goal

abbrev pub invariant-loop-done : goal.invariant-loop-done
invariant-loop-done g l = record {
  view : ViewStays l.fn.self l.self;
  cause : with_more (g.S.Source.tally l.self.inner.now) l.self.more ≡ with_more (g.S.Source.tally l.fn.self.inner.now) l.fn.self.more;
  later : l.self.later ≡ l.fn.self.later;
  long : length l.into ≡ length l.fn.into;
  few : l.done ≤ length l.into;
  bytes : IfSome (restored_from (g.S.Source.held l.fn.self.inner.now)) (λ u. take l.done l.into ≡ take l.done (drop l.at u));
}

abbrev pub decreases-loop-done : goal.decreases-loop-done
decreases-loop-done g l = length l.into - l.done
