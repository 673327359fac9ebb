-- The runs that were given are read, and those that are left end within the image and fill the buffer.
use Rattle.std.proofs.Common.{◌≡◌, ◌+◌, ◌*◌, length}
use Rattle.fz_base.specs.Source.{LogsWithin}
use Rattle.fz_base.specs.Told.{StaysTold}
use Rattle.fz_grid.specs.Arrays.{product}
use Rattle.fz_grid.specs.Region.{lengths_of, places_of, region_corner, region_lengths}
use Rattle.fz_grid.specs.Runs.{AreApart, EndWithin, total_length}
use Rattle.fz_grid.specs.Walks.{runs_left}
use Rattle.fz_image.proofs.Gathering.{ReadUntil}
use Rattle.fz_image.proofs.gather.read_region.Given as goal

abbrev pub invariant-loop-first : goal.invariant-loop-first
invariant-loop-first g l = record {
  held : g.S.Source.held l.source ≡ g.S.Source.held l.fn.source;
  attached : g.S.Source.attached l.source ≡ g.S.Source.attached l.fn.source;
  told_ranges : StaysTold (g.S.Source.ranges l.fn.source) (g.S.Source.ranges l.source);
  log : LogsWithin l.layout.pixels_at (l.layout.pixels_at + l.layout.pixel_len * product (lengths_of l.layout.plan.shape)) (g.S.Source.ranges l.fn.source) (g.S.Source.ranges l.source);
  reads : g.S.Source.tally l.source ≡ g.S.Source.tally l.fn.source;
  long : length l.into ≡ length l.fn.into;
  apart : AreApart (runs_left l.first-iterator);
  inside : EndWithin (product (lengths_of l.layout.plan.shape)) (runs_left l.first-iterator);
  left : l.done + l.layout.pixel_len * total_length (runs_left l.first-iterator) ≡ length l.fn.into;
  pixels : ReadUntil l.layout.pixel_len l.layout.pixels_at (places_of (lengths_of l.layout.plan.shape) (region_corner l.region) (region_lengths l.region)) (g.S.Source.held l.fn.source) l.into l.done (runs_left l.first-iterator);
}
