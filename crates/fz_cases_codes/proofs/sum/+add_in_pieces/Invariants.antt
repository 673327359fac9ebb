use Rattle.std.proofs.Common.{length}
use Rattle.fz_cases_codes.proofs.sum.+add_in_pieces.Given as goal

abbrev pub decreases-add_in_pieces : goal.decreases-add_in_pieces
decreases-add_in_pieces l = length l.bytes.now
