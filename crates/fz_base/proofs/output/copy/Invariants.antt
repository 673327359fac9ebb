-- So many bytes are copied; no count rose, byte 0 is as it was, contents are told as before, and what was read lies in the range.
use Rattle.std.proofs.Common.{◌≡◌, ◌+◌, ◌-◌, ◌≤◌, take, drop, IfSome}
use Rattle.fz_base.specs.FirstByte.{StaysShut}
use Rattle.fz_base.specs.Sink.{written}
use Rattle.fz_base.specs.Source.{LogsWithin}
use Rattle.fz_base.specs.Told.{StaysTold}
use Rattle.fz_base.proofs.output.copy.Given as goal

abbrev pub invariant-loop-done : goal.invariant-loop-done
invariant-loop-done g l = record {
  held : g.S.Source.held l.source ≡ g.S.Source.held l.fn.source;
  attached : g.S.Source.attached l.source ≡ g.S.Source.attached l.fn.source;
  reads : g.S.Source.tally l.source ≡ g.S.Source.tally l.fn.source;
  created : g.K.Sink.created l.sink ≡ g.K.Sink.created l.fn.sink;
  writes : g.K.Sink.tally l.sink ≡ g.K.Sink.tally l.fn.sink;
  few : l.done ≤ l.count;
  log : LogsWithin l.from (l.from + l.count) (g.S.Source.ranges l.fn.source) (g.S.Source.ranges l.source);
  shut : StaysShut (g.K.Sink.contents l.fn.sink) (g.K.Sink.contents l.sink);
  told : StaysTold (g.K.Sink.contents l.fn.sink) (g.K.Sink.contents l.sink);
  copied : IfSome (g.S.Source.held l.fn.source) (λ f. g.K.Sink.contents l.sink ≡ written l.to (take l.done (drop l.from f)) (g.K.Sink.contents l.fn.sink));
}

abbrev pub decreases-loop-done : goal.decreases-loop-done
decreases-loop-done g l = l.count - l.done
