-- One word, and then the other.
use Rattle.std.proofs.Common.{[], ◌∷◌, ◌+◌, ◌*◌, ◌%◌, ◌/◌}
use Rattle.std.proofs.lemmas.Result.{err_from_is_err_and}
use Rattle.fz_plio.proofs.WritingLemmas.{puts_then, puts_stop}
use Rattle.fz_plio.proofs.list_writer.ListWriter.put_set_high.Goals as goal

pub returns-in_err-put-clause-puts : goal.returns-in_err-put-clause-puts
returns-in_err-put-clause-puts c =
    let p = err_from_is_err_and c.from_residual.result c.from_residual.ensures.1 in
    rw p.1 (puts_stop _ _ _ _ _ ((4096 * 1 + c.args.value % 4096) ∷ []) ((c.args.value / 4096) ∷ []) _ _ c.in_err-put.ensures.puts)

pub returns-clause-puts : goal.returns-clause-puts
returns-clause-puts c =
    puts_then _ _ _ _ _ _ ((4096 * 1 + c.args.value % 4096) ∷ []) ((c.args.value / 4096) ∷ []) _ _ c.in_ok-put.ensures.puts c.put_word.ensures.puts
