-- One read is one range.
use Rattle.std.proofs.Common.{◌+◌, length, arith, rules}
use Rattle.fz_base.specs.Source.{MayLog}
use Rattle.fz_base.proofs.Logs.{logs_within_one}
use Rattle.fz_base.proofs.output.copy_piece.Goals as goal

pub returns-in_err-map_err-clause-log : goal.returns-in_err-map_err-clause-log
returns-in_err-map_err-clause-log g c =
    let may : MayLog c.args.from (length c.args.piece.now) (g.S.Source.ranges c.args.source.now) (g.S.Source.ranges c.read_at.new.self) = search rules in
    logs_within_one c.args.from (c.args.from + length c.args.piece.now) c.args.from (length c.args.piece.now) (g.S.Source.ranges c.args.source.now) (g.S.Source.ranges c.read_at.new.self)
    c.requires.some (omega arith) (omega arith) may

pub returns-clause-log : goal.returns-clause-log
returns-clause-log g c =
    let may : MayLog c.args.from (length c.args.piece.now) (g.S.Source.ranges c.args.source.now) (g.S.Source.ranges c.read_at.new.self) = search rules in
    logs_within_one c.args.from (c.args.from + length c.args.piece.now) c.args.from (length c.args.piece.now) (g.S.Source.ranges c.args.source.now) (g.S.Source.ranges c.read_at.new.self)
    c.requires.some (omega arith) (omega arith) may
