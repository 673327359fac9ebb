-- The data so far were added; the source and its counts are as at the start.
use Rattle.std.proofs.Common.{◌≡◌, ◌-◌, ◌≤◌, length, take, IfSome}
use Rattle.fz_base.specs.Source.{LogsWithin}
use Rattle.fz_base.specs.Told.{StaysTold}
use Rattle.fz_block.specs.Header.{data_start_of, next_start_of}
use Rattle.fz_block.specs.Walk.{hdu_of}
use Rattle.fz_sum.specs.Pieces.{after, nothing}
use Rattle.fz_verify.proofs.sums.add_data.Given as goal

abbrev pub invariant-loop-done : goal.invariant-loop-done
invariant-loop-done g l = record {
  held : g.S.Source.held l.source ≡ g.S.Source.held l.fn.source;
  attached : g.S.Source.attached l.source ≡ g.S.Source.attached l.fn.source;
  reads : g.S.Source.tally l.source ≡ g.S.Source.tally l.fn.source;
  told : StaysTold (g.S.Source.ranges l.fn.source) (g.S.Source.ranges l.source);
  read : LogsWithin (data_start_of l.header) (next_start_of l.header) (g.S.Source.ranges l.fn.source) (g.S.Source.ranges l.source);
  copy : length l.copy ≡ length l.fn.copy;
  within : l.done ≤ l.size;
  count : l.sum.count ≡ l.done;
  added : IfSome (g.S.Source.held l.fn.source) (λ file. l.sum ≡ after nothing 0 (take l.done (hdu_of file l.header).payload));
}

abbrev pub decreases-loop-done : goal.decreases-loop-done
decreases-loop-done g l = l.size - l.done
