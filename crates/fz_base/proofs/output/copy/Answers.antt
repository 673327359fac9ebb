-- One more piece is copied.
use Rattle.std.proofs.Common.{◌≡◌, ℕ, ◌+◌, List, Option, take, drop, IfSome, arith, rules}
use Rattle.fz_base.specs.Sink.{written}
use Rattle.fz_base.specs.Source.{HoldsLength, LogsWithin, IsRangeBetween}
use Rattle.fz_base.proofs.Logs.{logs_both, logs_within_wider}
use Rattle.fz_base.proofs.Overwriting.{written-piece, held-within}
use Rattle.fz_base.proofs.output.copy.Goals as goal

pub returns-in_err-copy_piece-clause-log : goal.returns-in_err-copy_piece-clause-log
returns-in_err-copy_piece-clause-log g c =
    let from : ℕ = c.args.from + c.loop-done.done in
    let to : ℕ = from + c.min-piece.result in
    let more : LogsWithin from to (g.S.Source.ranges c.loop-done.source) (g.S.Source.ranges c.copy_piece.new.source) = search rules in
    logs_both (IsRangeBetween c.args.from (c.args.from + c.args.count)) (g.S.Source.ranges c.args.source.now) (g.S.Source.ranges c.loop-done.source) (g.S.Source.ranges c.copy_piece.new.source)
    c.loop-done.invariant.log
    (logs_within_wider from to c.args.from (c.args.from + c.args.count) (g.S.Source.ranges c.loop-done.source) (g.S.Source.ranges c.copy_piece.new.source) (omega arith) (omega arith) more)

pub loop-done-preserved : goal.loop-done-preserved
loop-done-preserved g c =
    let held : Option (List ℕ) = g.S.Source.held c.args.source.now in
    let from : ℕ = c.args.from + c.loop-done.done in
    let to : ℕ = from + c.min-piece.result in
    let more : LogsWithin from to (g.S.Source.ranges c.loop-done.source) (g.S.Source.ranges c.copy_piece.new.source) = search rules in
    let told : HoldsLength held c.requires.within.0 = g.met.S.Source.agrees c.args.source.now c.requires.within.0 c.requires.within.1 in
    let piece : IfSome held (λ f. g.K.Sink.contents c.copy_piece.new.sink ≡ written (c.args.to + c.loop-done.done) (take c.min-piece.result (drop from f)) (g.K.Sink.contents c.loop-done.sink)) =
    search rules in
    record {
      held = search rules;
      attached = search rules;
      reads = search rules;
      created = search rules;
      writes = search rules;
      few = search rules;
      log = logs_both (IsRangeBetween c.args.from (c.args.from + c.args.count)) (g.S.Source.ranges c.args.source.now) (g.S.Source.ranges c.loop-done.source) (g.S.Source.ranges c.copy_piece.new.source)
          c.loop-done.invariant.log
          (logs_within_wider from to c.args.from (c.args.from + c.args.count) (g.S.Source.ranges c.loop-done.source) (g.S.Source.ranges c.copy_piece.new.source) (omega arith) (omega arith) more);
      shut = λ shut. c.in_ok-copy_piece.ensures.sink.shut (c.loop-done.invariant.shut shut);
      told = λ told. c.in_ok-copy_piece.ensures.sink.told (c.loop-done.invariant.told told);
      copied = written-piece held (g.K.Sink.contents c.args.sink.now) (g.K.Sink.contents c.loop-done.sink) (g.K.Sink.contents c.copy_piece.new.sink) c.args.from c.args.to c.loop-done.done c.min-piece.result
          (held-within held c.requires.within.0 (c.args.from + (c.loop-done.done + c.min-piece.result)) told (omega (arith, c.requires.within.2))) c.loop-done.invariant.copied piece;
    }
