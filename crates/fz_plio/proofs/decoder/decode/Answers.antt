-- Reading the instructions decides the answer.
use Rattle.std.proofs.Common.{refl, length}
use Rattle.std.proofs.lemmas.Result.{err_from_is_err_and}
use Rattle.fz_plio.specs.Words.{words}
use Rattle.fz_plio.specs.Instructions.{instructions}
use Rattle.fz_plio.proofs.DecodingLemmas.{decided, instructions_numbered}
use Rattle.fz_plio.proofs.decoder.decode.Goals as goal

pub returns-in_err-bytes-clause-fault : goal.returns-in_err-bytes-clause-fault
returns-in_err-bytes-clause-fault c =
    let p = err_from_is_err_and c.from_residual.result c.from_residual.ensures.1 in
    rw p.1 ((λ e. c.in_err-bytes.ensures.fault _), (λ r. refl))

pub returns-clause-fault : goal.returns-clause-fault
returns-clause-fault c =
    (decided c.read_line.result (length c.args.numbers.now) c.args.code.now (instructions (words c.in_ok-bytes.bytes.now)) c.read_line.new.numbers c.in_ok-bytes.ensures.header c.in_ok-bytes.ensures.instructions (instructions_numbered _) c.read_line.ensures).0

pub returns-clause-numbers : goal.returns-clause-numbers
returns-clause-numbers c =
    (decided c.read_line.result (length c.args.numbers.now) c.args.code.now (instructions (words c.in_ok-bytes.bytes.now)) c.read_line.new.numbers c.in_ok-bytes.ensures.header c.in_ok-bytes.ensures.instructions (instructions_numbered _) c.read_line.ensures).1
