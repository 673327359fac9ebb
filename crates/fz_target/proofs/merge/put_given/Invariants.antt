-- The numbers hold pixels, and the new ones but at the lines that are left; the source and the buffers are as at the start.
use Rattle.std.proofs.Common.{◌≡◌, ℕ, ℤ, List, length, IfSome, slice_index}
use Rattle.std.specs.List.{AllByRecursion}
use Rattle.fz_base.specs.Source.{LogsWithin}
use Rattle.fz_base.specs.Told.{StaysTold}
use Rattle.fz_grid.specs.Arrays.{product}
use Rattle.fz_grid.specs.Sieve.{sieve_lengths}
use Rattle.fz_grid.specs.Line.{IsLineWithin}
use Rattle.fz_grid.specs.LineWalks.{lines_left}
use Rattle.fz_grid.specs.declared.line.Line.{Line}
use Rattle.fz_fetch.specs.Fetched.{HoldsPixels}
use Rattle.fz_files.specs.Restored.{pixels_of}
use Rattle.fz_target.specs.Reads.{pixels_end}
use Rattle.fz_target.specs.Targets.{IsGivenTo}
use Rattle.fz_target.proofs.GivenLines.{LinesAreLeft}
use Rattle.fz_target.proofs.merge.put_given.Given as goal

abbrev pub invariant-loop-line : goal.invariant-loop-line
invariant-loop-line g l = record {
  held : g.S.Source.held l.patch ≡ g.S.Source.held l.fn.patch;
  attached : g.S.Source.attached l.patch ≡ g.S.Source.attached l.fn.patch;
  told : StaysTold (g.S.Source.ranges l.fn.patch) (g.S.Source.ranges l.patch);
  reads : g.S.Source.tally l.patch ≡ g.S.Source.tally l.fn.patch;
  pixels_read : LogsWithin l.target.pixels_at (pixels_end l.target) (g.S.Source.ranges l.fn.patch) (g.S.Source.ranges l.patch);
  copy : length l.copy ≡ length l.fn.copy;
  numbers : length l.numbers ≡ length l.fn.numbers;
  steps : AllByRecursion (λ (line : Line). line.step ≡ slice_index l.target.sieve.step 0) (lines_left l.line-iterator);
  within : AllByRecursion (IsLineWithin (pixels_of l.target.image.plan l.tile) (product (sieve_lengths l.target.sieve))) (lines_left l.line-iterator);
  some : (ys : List ℤ) × HoldsPixels l.target.image.plan l.tile l.numbers ys;
  put : IfSome (g.S.Source.held l.fn.patch)
      (λ p. (corner : List ℕ) (xs : List ℤ) → IsGivenTo corner p l.target → HoldsPixels l.target.image.plan l.tile l.fn.numbers xs
      → LinesAreLeft l.target corner p l.tile xs (lines_left l.line-iterator) l.numbers);
}
