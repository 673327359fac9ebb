-- The lengths so far stand at the end of the line.
use Rattle.std.proofs.Common.{◌≡◌, ◌+◌, ◌*◌, ◌≤◌, ◌++◌, take}
use Rattle.arrayvec.specs.ArrayString.{array_string_len}
use Rattle.fz_files.specs.Lines.{joined_lengths}
use Rattle.fz_grid.specs.Region.{lengths_of}
use Rattle.fz_verify.proofs.lines.push_axes.Given as goal

abbrev pub invariant-loop-i : goal.invariant-loop-i
invariant-loop-i l = record {
  bytes : l.line.bytes ≡ l.fn.line.bytes ++ joined_lengths (take l.i (lengths_of l.axes));
  room : array_string_len l.line ≤ array_string_len l.fn.line + 21 * l.i;
}
