-- The tiles so far have a pick.
use Rattle.std.proofs.Common.{ℕ, ◌<◌, IsTrue, slice_index}
use Rattle.fz_grid.specs.Overlap.{has_pixel}
use Rattle.fz_grid.specs.Region.{lengths_of}
use Rattle.fz_grid.specs.Cutout.{part_lengths}
use Rattle.fz_cases_rows.proofs.fetch.have_picks.Given as goal

abbrev pub invariant-loop-i : goal.invariant-loop-i
invariant-loop-i l = (k : ℕ) → k < l.i → IsTrue (has_pixel (part_lengths (lengths_of l.plan.shape) (lengths_of l.plan.tile) l.sieve (slice_index l.tiles k)))
