-- The first cards are moved, and the others are as they were.
use Rattle.std.proofs.Common.{◌≡◌, ◌*◌, ◌++◌, drop, length}
use Rattle.fz_files.specs.CutoutBytes.{moved_card}
use Rattle.fz_cut.proofs.Moves.{moved_front}
use Rattle.fz_cut.proofs.moved.move_pixels.Given as goal

abbrev pub invariant-loop-i : goal.invariant-loop-i
invariant-loop-i l = record {
  moved : l.header ≡ moved_front (moved_card l.sieve) l.i l.fn.header ++ drop (80 * l.i) l.fn.header;
  front : length (moved_front (moved_card l.sieve) l.i l.fn.header) ≡ 80 * l.i;
  len : length l.header ≡ length l.fn.header;
}
