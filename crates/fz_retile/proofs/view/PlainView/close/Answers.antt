-- What was read is what `unpack` reads.
use Rattle.fz_retile.proofs.Opening.{reads_until}
use Rattle.fz_retile.proofs.view.PlainView.close.Goals as goal

pub returns-clause-touched : goal.returns-clause-touched
returns-clause-touched g c =
    let v = c.args.self in
    reads_until (g.S.Source.held v.inner.now) (g.S.Source.ranges v.start.value) (g.S.Source.ranges v.inner.now) v.reads

pub returns-clause-told : goal.returns-clause-told
returns-clause-told g c = c.args.self.reads.told
