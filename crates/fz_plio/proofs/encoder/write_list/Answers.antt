-- A list is at least as long as its header.
use Rattle.std.proofs.Common.{refl, arith}
use Rattle.fz_plio.proofs.LengthLemmas.{length-line_list}
use Rattle.fz_plio.proofs.encoder.write_list.Goals as goal

pub returns-then-out-lt-HEADER_LEN-clause-full : goal.returns-then-out-lt-HEADER_LEN-clause-full
returns-then-out-lt-HEADER_LEN-clause-full c = ((λ e. omega (arith, length-line_list c.args.numbers.now)), (λ h. refl))
