use Rattle.std.proofs.Common.{◌≤◌, ◌+◌, length}
use Rattle.fz_bits.specs.Reader.{left}
use Rattle.fz_rice.specs.Code.{row}
use Rattle.fz_rice.proofs.decode.cut_id.Given as goal

abbrev pub invariant-loop-missing : goal.invariant-loop-missing
invariant-loop-missing g l = length (left l.reader) + l.missing ≤ (row g.row.W).id_len
