-- What is known of the tiles so far; the source and its counts are as at the start.
use Rattle.std.proofs.Common.{◌≡◌, ◌-◌, ◌≤◌, length, map, None, IfSome}
use Rattle.std.specs.List.{range_with_len}
use Rattle.fz_base.specs.Ranges.{LogsIn}
use Rattle.fz_base.specs.Told.{StaysTold}
use Rattle.fz_files.specs.FirstFault.{IsFirstRowFault, image_row}
use Rattle.fz_pool.specs.Window.{WindowStays}
use Rattle.fz_compare.specs.Reads.{table_ranges}
use Rattle.fz_compare.proofs.TablesCompared.{SoFar}
use Rattle.fz_compare.proofs.tiles.compare_tiles.Given as goal

abbrev pub invariant-loop-first : goal.invariant-loop-first
invariant-loop-first g l = record {
  held : g.S.Source.held l.source ≡ g.S.Source.held l.fn.source;
  attached : g.S.Source.attached l.source ≡ g.S.Source.attached l.fn.source;
  reads : g.S.Source.tally l.source ≡ g.S.Source.tally l.fn.source;
  told : StaysTold (g.S.Source.ranges l.fn.source) (g.S.Source.ranges l.source);
  read : IfSome (g.S.Source.held l.fn.source) (λ file. LogsIn (table_ranges file l.header) (g.S.Source.ranges l.fn.source) (g.S.Source.ranges l.source));
  window : WindowStays l.fn.window l.window;
  copy : length l.copy ≡ length l.fn.copy;
  within : l.first ≤ l.tiles;
  sound : IfSome (g.S.Source.held l.fn.source) (λ file. IsFirstRowFault file (map (image_row l.header) (range_with_len 0 l.first)) None);
  so_far : SoFar (g.S.Source.held l.fn.source) l.header l.layout l.first l.progress;
}

abbrev pub decreases-loop-first : goal.decreases-loop-first
decreases-loop-first g l = l.tiles - l.first
