-- The source is as at the start, but for the blocks that were read, which are in the buffer as far as it has room. None of them has END.
use Rattle.std.proofs.Common.{◌≡◌, ◌+◌, ◌*◌, ◌≤◌, min, length, IfSome}
use Rattle.fz_base.specs.Source.{LogsWithin}
use Rattle.fz_block.specs.Again.{HasBlocks}
use Rattle.fz_block.specs.Scan.{Searched}
use Rattle.fz_block.proofs.blocks.search_end.Given as goal

abbrev pub invariant-loop-b : goal.invariant-loop-b
invariant-loop-b g l = record {
  held : g.S.Source.held l.source ≡ g.S.Source.held l.fn.source;
  attached : g.S.Source.attached l.source ≡ g.S.Source.attached l.fn.source;
  tally : g.S.Source.tally l.source ≡ g.S.Source.tally l.fn.source;
  log : LogsWithin l.start (min l.length (l.start + 2880 * l.b)) (g.S.Source.ranges l.fn.source) (g.S.Source.ranges l.source);
  within : l.start + 2880 * l.b ≤ l.length;
  long : length l.buf ≡ length l.fn.buf;
  kept : HasBlocks (g.S.Source.held l.fn.source) l.start l.b l.buf;
  searched : IfSome (g.S.Source.held l.fn.source) (Searched l.hdu l.start l.b);
}
