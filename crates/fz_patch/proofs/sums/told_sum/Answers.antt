-- The first card of the name, and its text.
use Rattle.std.proofs.Common.{◌≡◌, ◌≤◌, length, None, sym, ap, ◌∙◌, subst, rules}
use Rattle.std.specs.Prelude.{IfSome}
use Rattle.fz_card.specs.Reading.{text_of}
use Rattle.fz_patch.proofs.SumCards.{told_absent, told_empty, told_some}
use Rattle.fz_patch.proofs.sums.told_sum.Goals as goal

pub returns-in_err-found-clause-place : goal.returns-in_err-found-clause-place
returns-in_err-found-clause-place c =
    let stopped : c.from_residual.result ≡ None = search rules in
    stopped ∙ told_absent c.cards_law.ensures.first c.args.name.now.bytes c.args.buf.now (sym c.first_named.ensures.first ∙ c.in_err-found.was)

pub returns-then-count-eq0-clause-place : goal.returns-then-count-eq0-clause-place
returns-then-count-eq0-clause-place c =
    let long : length c.text.new.into ≡ 70 = search rules in
    told_empty c.cards_law.ensures.first c.args.name.now.bytes c.args.buf.now c.in_ok-found.found c.text.result c.text.new.into (sym c.first_named.ensures.first ∙ c.in_ok-found.was) (c.text.ensures.function ∙ ap text_of c.card.ensures) (subst (λ n. IfSome c.text.result (λ k. k ≤ n)) (sym long) c.text.ensures.within) (sym c.unwrap_or-count.ensures ∙ c.if-count-eq0.true)

pub returns-clause-place : goal.returns-clause-place
returns-clause-place c =
    let long : length c.text.new.into ≡ 70 = search rules in
    told_some c.cards_law.ensures.first c.args.name.now.bytes c.args.buf.now c.in_ok-found.found c.text.result c.text.new.into (sym c.first_named.ensures.first ∙ c.in_ok-found.was) (c.text.ensures.function ∙ ap text_of c.card.ensures) (subst (λ n. IfSome c.text.result (λ k. k ≤ n)) (sym long) c.text.ensures.within) (λ e. c.if-count-eq0.false (c.unwrap_or-count.ensures ∙ e))
