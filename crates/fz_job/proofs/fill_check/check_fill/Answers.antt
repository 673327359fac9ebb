-- Only the fill is read.
use Rattle.std.proofs.Common.{◌+◌, ◌-◌, arith}
use Rattle.std.proofs.lemmas.List.{length-take}
use Rattle.fz_block.specs.Header.{next_start_of}
use Rattle.fz_checks.specs.JobChecks.{data_end_of}
use Rattle.fz_job.proofs.Places.{read_logs}
use Rattle.fz_job.proofs.fill_check.check_fill.Goals as goal

pub returns-in_err-map_err-clause-log : goal.returns-in_err-map_err-clause-log
returns-in_err-map_err-clause-log g c =
    let size = length-take (c.next_start.result - (c.data_start.result + c.args.header.now.data_len)) c.args.block.now in
    let may = read_logs c.read_at.result _ _ (g.S.Source.ranges c.args.source.now) (g.S.Source.ranges c.read_at.new.self) c.read_at.ensures.logged c.read_at.ensures.log_err in
    c.log_law.ensures.one (data_end_of c.args.header.now) (next_start_of c.args.header.now) _ _ (g.S.Source.ranges c.args.source.now) (g.S.Source.ranges c.read_at.new.self)
    (omega (arith, size)) (omega (arith, size)) (omega (arith, size)) may

pub returns-clause-log : goal.returns-clause-log
returns-clause-log g c =
    let size = length-take (c.next_start.result - (c.data_start.result + c.args.header.now.data_len)) c.args.block.now in
    let may = read_logs c.read_at.result _ _ (g.S.Source.ranges c.args.source.now) (g.S.Source.ranges c.read_at.new.self) c.read_at.ensures.logged c.read_at.ensures.log_err in
    c.log_law.ensures.one (data_end_of c.args.header.now) (next_start_of c.args.header.now) _ _ (g.S.Source.ranges c.args.source.now) (g.S.Source.ranges c.read_at.new.self)
    (omega (arith, size)) (omega (arith, size)) (omega (arith, size)) may
