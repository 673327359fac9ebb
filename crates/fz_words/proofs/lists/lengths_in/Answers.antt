use Rattle.std.proofs.Common.{◌+◌, ◌≤◌, sym, ◌∙◌, arith}
use Rattle.std.specs.Option.{option_copied}
use Rattle.fz_words.proofs.ListLemmas.{each-next, if-none, lengths-none, lengths-next, lengths-room}
use Rattle.fz_words.proofs.lists.lengths_in.Goals as goal

pub returns-in_err-axes-clause-value : goal.returns-in_err-axes-clause-value
returns-in_err-axes-clause-value c =
    let so-far = rw c.in-Some.is at c.loop-rest.invariant.0 in
    c.from_residual.ensures ∙ lengths-none c.args.text.now _ _ c.in-Some.pieces.now c.cut.result.0.now so-far c.cut.ensures.before (sym c.length_in.ensures.value ∙ c.in_err-axes.was)

pub loop-rest-preserved : goal.loop-rest-preserved
loop-rest-preserved c =
    let so-far = rw c.in-Some.is at c.loop-rest.invariant.0 in (
      lengths-next c.args.text.now c.loop-rest.axes.n c.loop-rest.axes.len c.in-Some.pieces.now c.cut.result.0.now _ c.in_ok-axes.field-0 so-far (omega arith) c.cut.ensures.before c.cut.ensures.behind (sym c.length_in.ensures.value ∙ c.in_ok-axes.was),
      each-next (λ x. 1 ≤ x) c.loop-rest.axes.len c.loop-rest.axes.n c.in_ok-axes.field-0 (lengths-room c.args.text.now c.loop-rest.axes.n c.loop-rest.axes.len _ so-far (omega arith)) c.loop-rest.invariant.1 c.in_ok-axes.ensures.inside.0,
      if-none (option_copied c.cut.result.1) (1 ≤ c.loop-rest.axes.n + 1) (omega arith),
    )
