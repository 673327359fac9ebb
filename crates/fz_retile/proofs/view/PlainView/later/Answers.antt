-- As it was kept.
use Rattle.std.proofs.Common.{◌≡◌, true, None}
use Rattle.fz_retile.specs.Views.{is_late}
use Rattle.fz_retile.proofs.Somes.{if_some, weaker_some}
use Rattle.fz_retile.proofs.view.PlainView.later.Goals as goal

pub returns-clause-late : goal.returns-clause-late
returns-clause-late g c = let v = c.args.self.now in if_some v.later (λ x. is_late x ≡ true) v.refusals.late

pub returns-clause-never : goal.returns-clause-never
returns-clause-never g c =
    let v = c.args.self.now in
    weaker_some (g.S.Source.held v.inner.now) (λ f. v.more ≡ 0) (λ f. v.later ≡ None) (λ f zero. v.refusals.none zero) v.refusals.never

pub returns-clause-none : goal.returns-clause-none
returns-clause-none g c = c.args.self.now.refusals.none

pub returns-clause-some : goal.returns-clause-some
returns-clause-some g c = c.args.self.now.refusals.some
