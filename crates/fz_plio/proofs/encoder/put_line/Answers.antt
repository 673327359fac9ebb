-- A run, and then what is left.
use Rattle.std.proofs.Common.{◌≡◌, ◌+◌, ◌∙◌, ap, length, nat_abs, arith}
use Rattle.std.proofs.lemmas.List.{length-map}
use Rattle.std.proofs.lemmas.Result.{err_from_is_err_and}
use Rattle.fz_plio.specs.Producer.{in_pieces, run_instructions, body_words}
use Rattle.fz_plio.specs.Writing.{words_of, run_of, magnitudes}
use Rattle.fz_plio.proofs.WritingLemmas.{puts_then, puts_stop}
use Rattle.fz_plio.proofs.RunLemmas.{body_words-first, body_words-none}
use Rattle.fz_plio.proofs.encoder.put_line.Goals as goal

pub returns-in_err-put_run-clause-puts : goal.returns-in_err-put_run-clause-puts
returns-in_err-put_run-clause-puts c =
    let p = err_from_is_err_and c.from_residual.result c.from_residual.ensures.1 in
    let rest = c.loop-run.rest.now in
    let behind = c.in-Some.behind.now in
    let found = run_of c.in-Some.run' in
    let lengths : found.zeros + found.count + length (magnitudes behind) ≡ length (magnitudes rest) = omega (arith, length-map rest nat_abs, length-map behind nat_abs, c.in-Some.ensures.lengths) in
    let first = body_words-first c.loop-run.high (magnitudes rest) (magnitudes behind) found c.in-Some.ensures.first lengths in
    rw p.1 (c.loop-run.invariant.puts _ _ _ (rw first (puts_stop _ _ _ _ _ (words_of (run_instructions c.loop-run.high found)) (body_words found.value (magnitudes behind)) _ _ c.in_err-put_run.ensures.puts)))

pub loop-run-preserved : goal.loop-run-preserved
loop-run-preserved c =
    let rest = c.loop-run.rest.now in
    let behind = c.in-Some.behind.now in
    let found = run_of c.in-Some.run' in
    let lengths : found.zeros + found.count + length (magnitudes behind) ≡ length (magnitudes rest) = omega (arith, length-map rest nat_abs, length-map behind nat_abs, c.in-Some.ensures.lengths) in
    let first = body_words-first c.loop-run.high (magnitudes rest) (magnitudes behind) found c.in-Some.ensures.first lengths in
    record {
      same = c.put_run.ensures.same ∙ c.loop-run.invariant.same;
      fits = c.in-Some.ensures.in_range;
      high = c.in-Some.ensures.value;
      puts = λ r new next second. c.loop-run.invariant.puts r new next (rw first (puts_then _ _ _ _ _ _ (words_of (run_instructions c.loop-run.high found)) (body_words found.value (magnitudes behind)) _ r c.in_ok-put_run.ensures.puts second));
    }

pub returns-clause-puts : goal.returns-clause-puts
returns-clause-puts c =
    let rest = c.loop-run.rest.now in
    let none = body_words-none c.loop-run.high (magnitudes rest) c.in_default.ensures.none ∙ ap (λ n. words_of (in_pieces 0 n)) (length-map rest nat_abs) in
    c.loop-run.invariant.puts _ _ _ (rw none c.put_pieces.ensures.puts)
