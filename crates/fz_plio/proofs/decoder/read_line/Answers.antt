-- Each step's numbers join what is written; a refused step refuses the line.
use Rattle.std.proofs.Common.{◌≡◌, ◌+◌, ◌-◌, ◌<◌, ◌≤◌, length, take, ℤ, List, Some, refl, sym, ap, ◌∙◌, arith}
use Rattle.fz_plio.specs.Words.{words}
use Rattle.fz_plio.specs.Step.{effect_of}
use Rattle.std.proofs.lemmas.List.{take_all}
use Rattle.fz_plio.specs.Instructions.{instructions}
use Rattle.fz_plio.specs.Reading.{line_from}
use Rattle.std.proofs.lemmas.Result.{err_from_is_err_and}
use Rattle.fz_plio.proofs.WordLemmas.{length-words}
use Rattle.fz_plio.proofs.ReadingLemmas.{with_front, line_from-step, line_from-past, line_from-refused, line_from-end}
use Rattle.fz_plio.proofs.decoder.read_line.Goals as goal

pub returns-in_default : goal.returns-in_default
returns-in_default c =
    let some : 0 < length (words c.loop-rest.rest.now) = omega (arith, length-words c.loop-rest.rest.now) in
    let none = line_from-refused (length c.loop-rest.numbers - c.loop-rest.at) c.loop-rest.high (words c.loop-rest.rest.now) some c.in_default.ensures.step in
    sym c.loop-rest.invariant.line ∙ ap (with_front (take c.loop-rest.at c.loop-rest.numbers)) none

pub returns-in_err-at : goal.returns-in_err-at
returns-in_err-at c =
    let p = err_from_is_err_and c.from_residual.result c.from_residual.ensures.1 in
    let some : 0 < length (words c.loop-rest.rest.now) = omega (arith, length-words c.loop-rest.rest.now) in
    let long : length c.loop-rest.numbers < c.loop-rest.at + (c.in-Some.step.zeros + c.in-Some.step.highs) = c.in_err-at.ensures.fault.0 refl in
    let none = line_from-past (length c.loop-rest.numbers - c.loop-rest.at) c.loop-rest.high (words c.loop-rest.rest.now) (effect_of c.in-Some.step) (words c.in-Some.behind.now) some c.in-Some.ensures.step (omega arith) in
    rw p.1 (sym c.loop-rest.invariant.line ∙ ap (with_front (take c.loop-rest.at c.loop-rest.numbers)) none)

pub loop-rest-preserved : goal.loop-rest-preserved
loop-rest-preserved c =
    let numbers = c.loop-rest.numbers in
    let at = c.loop-rest.at in
    let step = c.in-Some.step in
    let some : 0 < length (words c.loop-rest.rest.now) = omega (arith, length-words c.loop-rest.rest.now) in
    let fits : step.zeros + step.highs ≤ length numbers - at = omega (arith, c.in_ok-at.ensures.end, c.in_ok-at.ensures.within) in
    let left : length c.write_step.new.numbers - c.in_ok-at.at ≡ length numbers - at - (step.zeros + step.highs) = omega (arith, c.in_ok-at.ensures.end) in
    let joined = line_from-step (length numbers - at) c.loop-rest.high (take at numbers) (words c.loop-rest.rest.now) (effect_of step) (words c.in-Some.behind.now) some c.in-Some.ensures.step fits in
    record {
      within = omega (arith, c.in_ok-at.ensures.within);
      in_range = c.in-Some.ensures.high;
      whole = omega (arith, c.in-Some.ensures.whole);
      line = (λ i. with_front (c.in_ok-at.ensures.written i) (line_from (left i) step.high (instructions (words c.in-Some.behind.now)))) ∙ joined ∙ c.loop-rest.invariant.line;
    }

pub returns : goal.returns
returns c =
    let numbers = c.loop-rest.numbers in
    let at = c.loop-rest.at in
    let none : length (words c.loop-rest.rest.now) ≡ 0 = omega (arith, length-words c.loop-rest.rest.now) in
    let whole = take_all (at + (length numbers - at)) c.write_run.new.numbers (omega arith) in
    let end = line_from-end (length numbers - at) c.loop-rest.high (words c.loop-rest.rest.now) none in
    sym c.loop-rest.invariant.line ∙ ap (with_front (take at numbers)) end ∙ ap (λ (xs : List ℤ). Some xs) (sym c.write_run.ensures ∙ whole)
