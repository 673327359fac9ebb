-- Fewer than 8 bytes are no XTENSION, and are not read.
use Rattle.std.proofs.Common.{◌+◌, min, arith, rules}
use Rattle.fz_base.specs.Source.{MayLog}
use Rattle.fz_block.proofs.Search.{no_extension}
use Rattle.fz_block.proofs.blocks.begins_extension.Goals as goal

pub returns-then-length-start-lt8-clause-exact : goal.returns-then-length-start-lt8-clause-exact
returns-then-length-start-lt8-clause-exact g c =
    no_extension (g.S.Source.held c.args.source.now) c.args.length c.args.start
    (g.met.S.Source.agrees c.args.source.now c.args.length c.requires.attached) c.if-length-start-lt8.true

pub returns-in_err-read_at-clause-log : goal.returns-in_err-read_at-clause-log
returns-in_err-read_at-clause-log g c =
    let may : MayLog c.args.start 8 (g.S.Source.ranges c.args.source.now) (g.S.Source.ranges c.read_at.new.self) = search rules in
    c.log_law.ensures.one c.args.start (min c.args.length (c.args.start + 2880)) c.args.start 8 (g.S.Source.ranges c.args.source.now) (g.S.Source.ranges c.read_at.new.self)
    (omega arith) (omega arith) (omega arith) may

pub returns-clause-log : goal.returns-clause-log
returns-clause-log g c =
    let may : MayLog c.args.start 8 (g.S.Source.ranges c.args.source.now) (g.S.Source.ranges c.read_at.new.self) = search rules in
    c.log_law.ensures.one c.args.start (min c.args.length (c.args.start + 2880)) c.args.start 8 (g.S.Source.ranges c.args.source.now) (g.S.Source.ranges c.read_at.new.self)
    (omega arith) (omega arith) (omega arith) may
