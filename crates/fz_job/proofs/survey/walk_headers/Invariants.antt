-- The source and the meter are as at the start, and what is left of the walk says what all of it says.
use Rattle.std.proofs.Common.{◌≡◌, ◌⊎◌, ◌+◌, ◌-◌, ◌<◌, ◌≤◌, ◌==◌, ◌^◌, max, length, IfSome}
use Rattle.std.specs.Prelude.{None}
use Rattle.fz_base.specs.Told.{StaysTold}
use Rattle.fz_block.specs.Hdus.{size_at}
use Rattle.fz_job.proofs.Walking.{IsAt}
use Rattle.fz_job.proofs.survey.walk_headers.Given as goal

abbrev pub invariant-loop-hdu : goal.invariant-loop-hdu
invariant-loop-hdu g l = record {
  held : g.S.Source.held l.source ≡ g.S.Source.held l.fn.source;
  attached : g.S.Source.attached l.source ≡ g.S.Source.attached l.fn.source;
  told : StaysTold (g.S.Source.ranges l.fn.source) (g.S.Source.ranges l.source);
  tally : g.S.Source.tally l.source ≡ g.S.Source.tally l.fn.source;
  block : length l.block ≡ 2880;
  live : l.meter.live - length l.room ≡ l.fn.meter.live - length l.fn.room;
  room : (2880 ≤ length l.room) × (length l.room ≤ l.meter.live);
  limit : l.meter.limit ≡ l.fn.meter.limit;
  risen : l.fn.meter.peak ≤ l.meter.peak;
  most : l.meter.peak ≤ max l.fn.meter.peak (l.fn.meter.live - length l.fn.room + 737280);
  within : (l.start < l.length) ⊎ ((l.hdu ≡ 0) × (l.start ≡ 0));
  first : l.hdu ≡ 0 → l.start ≡ 0;
  empty : IfSome (g.S.Source.held l.fn.source) (λ f. l.hdu ≡ 1 → l.empty ≡ (size_at f 2 == 0));
  count : l.seen.hdus ≡ l.hdu;
  header : l.seen.header_len ≤ 737280;
  tile : l.seen.tile ≤ 2 ^ 26;
  primary : IfSome l.seen.packed_primary (λ start. (start < l.length) × (start ≤ 2 ^ 62));
  stopped : l.seen.stopped ≡ None;
  walked : IfSome (g.S.Source.held l.fn.source) (IsAt (record { checks = l.checks; limit = l.fn.meter.limit; live = l.fn.meter.live - length l.fn.room; peak = l.fn.meter.peak; ranges = g.S.Source.ranges l.fn.source })
      l.hdu l.start l.meter.peak (g.S.Source.ranges l.source) l.seen);
}
