-- The parts of the tiles so far are in the band, and the marks are those of the image; the source and the counts are as at the start.
use Rattle.std.proofs.Common.{◌≡◌, IfSome}
use Rattle.std.specs.List.{AllByRecursion}
use Rattle.fz_base.specs.Ranges.{LogsIn}
use Rattle.fz_base.specs.Told.{StaysTold}
use Rattle.fz_grid.specs.SieveWalks.{sieve_tiles_left}
use Rattle.fz_files.specs.Touched.{touched_by}
use Rattle.fz_files.specs.declared.job.Job.TheVariants.{Unpack}
use Rattle.fz_look.specs.Marked.{AreMarks, table_in}
use Rattle.fz_look.specs.Scratch.{ScratchStays}
use Rattle.fz_look.proofs.Filled.{IsFilling, IsTileWithPick}
use Rattle.fz_look.proofs.filling.fill_band.Given as goal

abbrev pub invariant-loop-tile : goal.invariant-loop-tile
invariant-loop-tile g l = record {
  held : g.S.Source.held l.source ≡ g.S.Source.held l.fn.source;
  attached : g.S.Source.attached l.source ≡ g.S.Source.attached l.fn.source;
  reads : g.S.Source.tally l.source ≡ g.S.Source.tally l.fn.source;
  told_ranges : StaysTold (g.S.Source.ranges l.fn.source) (g.S.Source.ranges l.source);
  read : IfSome (g.S.Source.held l.fn.source) (λ file. LogsIn (touched_by Unpack file) (g.S.Source.ranges l.fn.source) (g.S.Source.ranges l.source));
  space : ScratchStays l.fn.space l.space;
  marks : IfSome (g.S.Source.held l.fn.source) (λ file. AreMarks file l.header (table_in l.image.plan.codec l.space.numbers));
  picked : AllByRecursion (IsTileWithPick l.image.plan l.sieve) (sieve_tiles_left l.tile-iterator);
  done : IsFilling (g.S.Source.held l.fn.source) l.header l.image.plan l.sieve (sieve_tiles_left l.tile-iterator) l.fn.space.band l.space.band;
}
