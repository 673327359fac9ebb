-- The tiles that are fetched are read within the image, whatever becomes of the others.
use Rattle.fz_unpack.proofs.HduReads.{round_read}
use Rattle.fz_unpack.proofs.turns.fetch_and_scatter.Goals as goal

pub returns-in_err-scattered-clause-read : goal.returns-in_err-scattered-clause-read
returns-in_err-scattered-clause-read g c =
    round_read c.hdus_law.ensures.tiles (g.S.Source.held c.args.source.now) c.args.asked.now.header c.args.asked.now.image c.args.step.now.fetching.now (g.S.Source.ranges c.args.source.now) (g.S.Source.ranges c.fetch_beside-fetched.new.source)
    c.requires.image.said c.requires.tiles c.fetch_beside-fetched.ensures.read

pub returns-clause-read : goal.returns-clause-read
returns-clause-read g c =
    round_read c.hdus_law.ensures.tiles (g.S.Source.held c.args.source.now) c.args.asked.now.header c.args.asked.now.image c.args.step.now.fetching.now (g.S.Source.ranges c.args.source.now) (g.S.Source.ranges c.fetch_beside-fetched.new.source)
    c.requires.image.said c.requires.tiles c.fetch_beside-fetched.ensures.read
