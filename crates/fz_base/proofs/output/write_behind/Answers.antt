-- A write after byte 0 leaves it, and what is told stays told.
use Rattle.std.proofs.Common.{rules}
use Rattle.fz_base.proofs.Shut.{write_shut}
use Rattle.fz_base.proofs.Told.{write_told}
use Rattle.fz_base.proofs.output.write_behind.Goals as goal

pub returns-clause-sink : goal.returns-clause-sink
returns-clause-sink g c = record {
  created_is = search rules;
  shut =
      write_shut c.write_at.result c.args.at c.args.bytes.now (g.K.Sink.contents c.args.sink.now) (g.K.Sink.contents c.write_at.new.self) c.requires.behind
      c.write_at.ensures.written c.write_at.ensures.partly;
  told =
      write_told c.write_at.result c.args.at c.args.bytes.now (g.K.Sink.contents c.args.sink.now) (g.K.Sink.contents c.write_at.new.self) c.write_at.ensures.written c.write_at.ensures.partly;
}
