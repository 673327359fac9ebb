-- The bytes of the HDU are what was written: its header, and then its data.
use Rattle.std.proofs.Common.{ℕ, ◌-◌, List, Option, arith}
use Rattle.fz_base.specs.Source.{HoldsLength}
use Rattle.fz_job.proofs.Copied.{copied_whole}
use Rattle.fz_job.proofs.copying.copy_hdu.Goals as goal

pub returns-clause-copied : goal.returns-clause-copied
returns-clause-copied g c =
    let held : Option (List ℕ) = g.S.Source.held c.args.source.now in
    let told : HoldsLength held c.requires.within.0 = g.met.S.Source.agrees c.args.source.now c.requires.within.0 c.requires.within.1 in
    copied_whole c.output_law.ensures.next held c.args.header.now c.requires.within.0 c.args.at c.left_for_last-skipped.result c.data_start-from.result (c.next_start.result - c.data_start-from.result)
    c.args.header_bytes.now (g.K.Sink.contents c.args.sink.now) (g.K.Sink.contents c.write_behind.new.sink) (g.K.Sink.contents c.copy.new.sink)
    told c.requires.within.2 c.requires.some c.requires.whole c.requires.read c.left_for_last-skipped.ensures c.data_start-from.ensures (omega (arith, c.next_start.ensures))
    c.in_ok-write_behind.ensures.written c.in_ok-copy.ensures.copied
