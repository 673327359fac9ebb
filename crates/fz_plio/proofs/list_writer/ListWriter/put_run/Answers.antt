-- A single step is one instruction; else the high value changes, and then come zeros and numbers.
use Rattle.std.proofs.Common.{◌-◌, refl, arith}
use Rattle.std.proofs.lemmas.Result.{err_from_is_err_and}
use Rattle.fz_plio.specs.Producer.{instruction, high_change, zeros_and_highs}
use Rattle.fz_plio.specs.Writing.{run_of}
use Rattle.fz_plio.proofs.ProducerLemmas.{put_both, put_first, less, not_less, run_instructions-apart, run_instructions-step}
use Rattle.fz_plio.proofs.list_writer.ListWriter.put_run.Goals as goal

pub returns-then-high-run-clause-puts : goal.returns-then-high-run-clause-puts
returns-then-high-run-clause-puts c =
    let h = c.args.high in
    let v = c.args.run.value in
    let upward = less h v (omega arith) in
    let step = run_instructions-step h (run_of c.args.run) (instruction 6 (v - h)) (cc) (rw upward refl) in
    rw step c.put.ensures.puts

pub returns-else-high-run-clause-puts : goal.returns-else-high-run-clause-puts
returns-else-high-run-clause-puts c =
    let h = c.args.high in
    let v = c.args.run.value in
    let downward = not_less h v (omega arith) in
    let step = run_instructions-step h (run_of c.args.run) (instruction 7 (h - v)) (cc) (rw downward refl) in
    rw step c.put-else-high-run.ensures.puts

pub returns-in_err-put_high_change-clause-puts : goal.returns-in_err-put_high_change-clause-puts
returns-in_err-put_high_change-clause-puts c =
    let p = err_from_is_err_and c.from_residual.result c.from_residual.ensures.1 in
    let apart = run_instructions-apart c.args.high (run_of c.args.run) (cc) in
    rw p.1 (put_first _ _ _ _ _ (high_change c.args.high c.args.run.value) (zeros_and_highs c.args.run.zeros c.args.run.count) _ _ _ apart c.in_err-put_high_change.ensures.puts)

pub returns-clause-puts : goal.returns-clause-puts
returns-clause-puts c =
    let apart = run_instructions-apart c.args.high (run_of c.args.run) (cc) in
    put_both _ _ _ _ _ _ (high_change c.args.high c.args.run.value) (zeros_and_highs c.args.run.zeros c.args.run.count) _ _ _ apart c.in_ok-put_high_change.ensures.puts c.put_zeros_and_highs.ensures.puts
