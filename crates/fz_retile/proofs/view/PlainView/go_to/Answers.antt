-- Why the next HDU was not read is why none was.
use Rattle.std.proofs.Common.{◌≡◌, Err, rules}
use Rattle.fz_base.specs.declared.failure.Failed.{Failed}
use Rattle.fz_retile.specs.Views.{with_more}
use Rattle.fz_look.specs.declared.here.Here.{Here}
use Rattle.fz_retile.proofs.Tallies.{cause_since, first_since}
use Rattle.fz_retile.proofs.view.PlainView.go_to.Goals as goal

pub returns-in_err-here-clause-cause : goal.returns-in_err-here-clause-cause
returns-in_err-here-clause-cause g c =
    let v = c.args.self.now in
    let mid = c.loop-here.self in
    let new = c.go_on.new.self in
    let failed : Failed = c.in_err-here.field-0.0 in
    let stopped : c.from_residual-in_err-here.result ≡ Err failed = search rules in
    record {
      counts = cause_since Here Here (with_more (g.S.Source.tally v.inner.now) v.more) (with_more (g.S.Source.tally mid.inner.now) mid.more)
          (with_more (g.S.Source.tally new.inner.now) new.more) failed c.from_residual-in_err-here.result stopped c.loop-here.invariant.cause
          c.in_err-here.ensures.cause.counts;
      first = first_since Here Here v.later mid.later new.later failed c.from_residual-in_err-here.result stopped c.loop-here.invariant.later
          c.in_err-here.ensures.cause.first;
    }
