-- The numbers so far are those of rows.
use Rattle.std.proofs.Common.{ℕ, ◌<◌, slice_index}
use Rattle.fz_files.specs.Packed.{tiles_in}
use Rattle.fz_cases_rows.proofs.fetch.are_tiles.Given as goal

abbrev pub invariant-loop-i : goal.invariant-loop-i
invariant-loop-i l = (k : ℕ) → k < l.i → slice_index l.tiles k < tiles_in l.image.plan
