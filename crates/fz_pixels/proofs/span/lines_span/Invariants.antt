-- The picks of the lines so far are in the span, and its ends are two of them.
use Rattle.std.proofs.Common.{◌≡◌, ℕ, ◌-◌, ◌≤◌, ◌⊎◌, All, Contains}
use Rattle.std.specs.List.{AllByRecursion}
use Rattle.fz_grid.specs.Line.{IsLineWithin, lines_in_tile}
use Rattle.fz_grid.specs.LineWalks.{lines_left}
use Rattle.fz_pixels.specs.Parts.{IsPlaceBetween}
use Rattle.fz_pixels.proofs.span.lines_span.Given as goal

abbrev pub invariant-loop-line : goal.invariant-loop-line
invariant-loop-line l = record {
  within : (n cutout : ℕ) → AllByRecursion (IsLineWithin n cutout) (lines_left l.fn.lines) → AllByRecursion (IsLineWithin n cutout) (lines_left l.line-iterator);
  picks : (i j : ℕ) → i ≤ l.span.0 → l.span.1 ≤ j → All (IsPlaceBetween i j) (lines_in_tile (lines_left l.line-iterator)) → All (IsPlaceBetween i j) (lines_in_tile (lines_left l.fn.lines));
  left : (p : ℕ) → Contains (lines_in_tile (lines_left l.line-iterator)) p → Contains (lines_in_tile (lines_left l.fn.lines)) p;
  ends : ((l.span.0 ≡ l.pixels) × (l.span.1 ≡ 0)) ⊎ (Contains (lines_in_tile (lines_left l.fn.lines)) l.span.0 × Contains (lines_in_tile (lines_left l.fn.lines)) (l.span.1 - 1));
  most : l.span.1 ≤ l.pixels;
}
