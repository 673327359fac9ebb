-- Bytes of a strip are those of the file.
use Rattle.std.proofs.Common.{◌+◌}
use Rattle.fz_image.proofs.StripBytes.{place_within, strip_part}
use Rattle.fz_image.proofs.gather.get_part.Goals as goal

pub copy_part-requires-clause-within : goal.copy_part-requires-clause-within
copy_part-requires-clause-within g c =
    place_within (g.S.Source.held c.args.source.now) c.args.strips.now c.args.ahead.now c.args.line c.args.part.from c.args.part.count c.in-Some.place c.requires.strips
    c.in-Some.ensures

pub returns-in-Some-clause-part : goal.returns-in-Some-clause-part
returns-in-Some-clause-part g c =
    strip_part (g.S.Source.held c.args.source.now) c.args.strips.now c.args.ahead.now c.args.line c.args.part.from c.args.part.count c.in-Some.place c.args.part.at
    c.args.into.now c.copy_part.new.into c.requires.strips c.in-Some.ensures
    c.copy_part.ensures.part

pub returns-in-Some-clause-log : goal.returns-in-Some-clause-log
returns-in-Some-clause-log g c = c.log_law.ensures.none c.args.part.from (c.args.part.from + c.args.part.count) (g.S.Source.ranges c.args.source.now)
