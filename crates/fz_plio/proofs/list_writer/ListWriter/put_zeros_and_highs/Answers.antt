-- The pieces of zeros, and then the number that goes with them or the pieces of the run.
use Rattle.std.proofs.Common.{◌≡◌, ◌+◌, ◌-◌, ◌%◌, [], ◌∷◌, refl, arith}
use Rattle.std.proofs.lemmas.Result.{err_from_is_err_and}
use Rattle.fz_plio.specs.Producer.{instruction, in_pieces}
use Rattle.fz_plio.proofs.ProducerLemmas.{put_both, put_first, zeros_and_highs-joined, zeros_and_highs-apart}
use Rattle.fz_plio.proofs.list_writer.ListWriter.put_zeros_and_highs.Goals as goal
use Rattle.fz_plio.proofs.list_writer.ListWriter.put_zeros_and_highs.Goals.{else-count-eq1-via-then-count-eq1+else-last-gt0, else-count-eq1-via-else-count-eq1}

pub returns-in_err-put_pieces-clause-puts : goal.returns-in_err-put_pieces-clause-puts
returns-in_err-put_pieces-clause-puts c =
    let p = err_from_is_err_and c.from_residual.result c.from_residual.ensures.1 in
    let joined = zeros_and_highs-joined c.args.zeros c.args.count (c.args.zeros % 4095) refl (omega arith) (omega arith) in
    rw p.1 (put_first _ _ _ _ _ (in_pieces 0 (c.args.zeros - c.args.zeros % 4095)) (instruction 5 (c.args.zeros % 4095 + 1) ∷ []) _ _ _ joined c.in_err-put_pieces.ensures.puts)

pub returns-then-last-gt0-clause-puts : goal.returns-then-last-gt0-clause-puts
returns-then-last-gt0-clause-puts c =
    let joined = zeros_and_highs-joined c.args.zeros c.args.count (c.args.zeros % 4095) refl (omega arith) (omega arith) in
    put_both _ _ _ _ _ _ (in_pieces 0 (c.args.zeros - c.args.zeros % 4095)) (instruction 5 (c.args.zeros % 4095 + 1) ∷ []) _ _ _ joined c.in_ok-put_pieces.ensures.puts c.put.ensures.puts

pub returns-in_err-put_pieces-2-clause-puts : goal.returns-in_err-put_pieces-2-clause-puts
returns-in_err-put_pieces-2-clause-puts c =
    let p = err_from_is_err_and c.from_residual-in_err-put_pieces-2.result c.from_residual-in_err-put_pieces-2.ensures.1 in
    let no_piece : c.args.count ≡ 1 → c.args.zeros % 4095 ≡ 0 = λ one. elim c.else-count-eq1.branch [
      | else-count-eq1-via-then-count-eq1+else-last-gt0 w ↦ omega (arith, w.if-last-gt0.false)
      | else-count-eq1-via-else-count-eq1 w ↦ absurd (omega (arith, w.if-count-eq1.false))
    ] in
    let apart = zeros_and_highs-apart c.args.zeros c.args.count no_piece in
    rw p.1 (put_first _ _ _ _ _ (in_pieces 0 c.args.zeros) (in_pieces 4 c.args.count) _ _ _ apart c.in_err-put_pieces-2.ensures.puts)

pub returns-clause-puts : goal.returns-clause-puts
returns-clause-puts c =
    let no_piece : c.args.count ≡ 1 → c.args.zeros % 4095 ≡ 0 = λ one. elim c.else-count-eq1.branch [
      | else-count-eq1-via-then-count-eq1+else-last-gt0 w ↦ omega (arith, w.if-last-gt0.false)
      | else-count-eq1-via-else-count-eq1 w ↦ absurd (omega (arith, w.if-count-eq1.false))
    ] in
    let apart = zeros_and_highs-apart c.args.zeros c.args.count no_piece in
    put_both _ _ _ _ _ _ (in_pieces 0 c.args.zeros) (in_pieces 4 c.args.count) _ _ _ apart c.in_ok-put_pieces-2.ensures.puts c.put_pieces-3.ensures.puts
