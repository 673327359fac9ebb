-- The length is that of the bytes that are shown.
use Rattle.std.proofs.Common.{refl}
use Rattle.fz_retile.specs.Views.{agrees_of}
use Rattle.fz_retile.proofs.plain_source.PlainViewSource.attach.Goals as goal

pub returns-clause-told : goal.returns-clause-told
returns-clause-told g c =
    let v = c.args.self.now in
    agrees_of (g.S.Source.held v.inner.now) v.plain_len v.plain_len v.fits refl
