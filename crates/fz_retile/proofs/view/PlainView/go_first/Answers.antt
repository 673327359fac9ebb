-- The first HDU that stands for something begins with the plain bytes.
use Rattle.fz_retile.proofs.Keeping.{first_of_view, first_within}
use Rattle.fz_retile.proofs.view.PlainView.go_first.Goals as goal

pub read_hdu-requires-clause-within : goal.read_hdu-requires-clause-within
read_hdu-requires-clause-within g c = first_within c.args.self.now.first.hdu c.args.self.now.first.start c.args.self.now.length c.args.self.now.fixed.first_zero c.args.self.now.fixed.first_near

pub read_hdu-requires-clause-told : goal.read_hdu-requires-clause-told
read_hdu-requires-clause-told g c =
    let v = c.args.self.now in
    first_of_view c.places_law.ensures.first (g.S.Source.held v.inner.now) v.survey v.plain_len v.first v.space v.here v.boxed v.fixed.some v.known
