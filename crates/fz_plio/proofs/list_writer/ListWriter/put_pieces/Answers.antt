-- A piece, and then the pieces that are left.
use Rattle.std.proofs.Common.{◌-◌, [], ◌∷◌, ◌∙◌, arith}
use Rattle.std.proofs.lemmas.Result.{err_from_is_err_and}
use Rattle.fz_plio.specs.Operation.{code_of}
use Rattle.fz_plio.specs.Producer.{instruction, in_pieces}
use Rattle.fz_plio.proofs.WritingLemmas.{puts_nothing}
use Rattle.fz_plio.proofs.ProducerLemmas.{put_both, put_first, in_pieces-zero, in_pieces-one, in_pieces-more}
use Rattle.fz_plio.proofs.list_writer.ListWriter.put_pieces.Goals as goal

pub returns-in_err-put-clause-puts : goal.returns-in_err-put-clause-puts
returns-in_err-put-clause-puts c =
    let p = err_from_is_err_and c.from_residual.result c.from_residual.ensures.1 in
    let code = code_of c.args.operation in
    let more = in_pieces-more code c.loop-left.left (omega arith) in
    rw p.1 (c.loop-left.invariant.puts _ _ _ (put_first _ _ _ _ _ (instruction code 4095 ∷ []) (in_pieces code (c.loop-left.left - 4095)) _ _ _ more c.in_err-put.ensures.puts))

pub loop-left-preserved : goal.loop-left-preserved
loop-left-preserved c =
    let code = code_of c.args.operation in
    let more = in_pieces-more code c.loop-left.left (omega arith) in
    record {
      same = c.put.ensures.same ∙ c.loop-left.invariant.same;
      puts = λ r new next then. c.loop-left.invariant.puts r new next (put_both _ _ _ _ _ _ (instruction code 4095 ∷ []) (in_pieces code (c.loop-left.left - 4095)) _ _ r more c.in_ok-put.ensures.puts then);
    }

pub returns-then-left-gt0-clause-puts : goal.returns-then-left-gt0-clause-puts
returns-then-left-gt0-clause-puts c =
    let one = in_pieces-one (code_of c.args.operation) c.loop-left.left (omega arith) (omega arith) in
    c.loop-left.invariant.puts _ _ _ (rw one c.put-then-left-gt0.ensures.puts)

pub returns-else-left-gt0-clause-puts : goal.returns-else-left-gt0-clause-puts
returns-else-left-gt0-clause-puts c =
    let none = in_pieces-zero (code_of c.args.operation) c.loop-left.left (omega arith) in
    c.loop-left.invariant.puts _ _ _ (rw none (puts_nothing c.loop-left.self.out.now c.loop-left.self.at tt c.loop-left.self.within))
