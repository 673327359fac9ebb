-- The strips that are there are those that were read last, or none.
use Rattle.std.proofs.Common.{◌+◌}
use Rattle.fz_image.specs.Layout.{pixel_bytes_of}
use Rattle.fz_image.proofs.strips.look_ahead.Goals as goal

pub returns-in_err-read_strips-clause-strips : goal.returns-in_err-read_strips-clause-strips
returns-in_err-read_strips-clause-strips g c = c.none.ensures.strips (g.S.Source.held c.read_strips.new.source) c.read_strips.new.ahead

-- ---- nothing is read if the lines are there, or are not read so

pub returns-in_default-clause-log : goal.returns-in_default-clause-log
returns-in_default-clause-log g c =
    let l = c.args.layout.now in
    c.log_law.ensures.none l.pixels_at (l.pixels_at + pixel_bytes_of l) (g.S.Source.ranges c.args.source.now)

pub returns-then-have-clause-log : goal.returns-then-have-clause-log
returns-then-have-clause-log g c =
    let l = c.args.layout.now in
    c.log_law.ensures.none l.pixels_at (l.pixels_at + pixel_bytes_of l) (g.S.Source.ranges c.args.source.now)

pub returns-in_default-widened-clause-log : goal.returns-in_default-widened-clause-log
returns-in_default-widened-clause-log g c =
    let l = c.args.layout.now in
    c.log_law.ensures.none l.pixels_at (l.pixels_at + pixel_bytes_of l) (g.S.Source.ranges c.args.source.now)
