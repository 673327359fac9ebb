-- The tiles that are left have a pick.
use Rattle.std.proofs.Common.{IsTrue}
use Rattle.std.specs.List.{AllByRecursion}
use Rattle.fz_grid.specs.Overlap.{has_pixel}
use Rattle.fz_grid.specs.Region.{lengths_of}
use Rattle.fz_grid.specs.SieveWalks.{sieve_tiles_left}
use Rattle.fz_grid.specs.Cutout.{part_lengths}
use Rattle.fz_cases_rows.proofs.fetch.has_pick.Given as goal

abbrev pub invariant-loop-other : goal.invariant-loop-other
invariant-loop-other l =
    (goal.iterator-loop-other).can_next l.other-iterator
    × (goal.iterator-loop-other).is_finite l.other-iterator
    × AllByRecursion (λ t. IsTrue (has_pixel (part_lengths (lengths_of l.plan.shape) (lengths_of l.plan.tile) l.sieve t))) (sieve_tiles_left l.other-iterator)
