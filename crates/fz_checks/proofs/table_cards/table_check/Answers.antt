use Rattle.std.proofs.Common.{◌≡◌, Some, None, sym, ◌∙◌, subst, arith, rules}
use Rattle.std.specs.Result.{MatchResult}
use Rattle.fz_checks.proofs.FrontCards.{header-end}
use Rattle.fz_checks.proofs.TableAnswers.{set-of, in-compressed, in-other, in-packed}
use Rattle.fz_checks.proofs.table_cards.table_check.Goals as goal

pub first_set-requires : goal.first_set-requires
first_set-requires c = let end = (header-end c.args.buf.now c.args.header.now c.requires.header).within in omega arith

pub first_repeat-requires : goal.first_repeat-requires
first_repeat-requires c = let end = (header-end c.args.buf.now c.args.header.now c.requires.header).within in omega arith

pub returns-in_err-refuse_at : goal.returns-in_err-refuse_at
returns-in_err-refuse_at c =
    let refused = in-compressed c.args.header.now c.args.buf.now _ (set-of c.args.header.now c.args.buf.now c.first_set.result _ c.requires.header c.first_set.ensures c.in_err-refuse_at.ensures) in
    search (rules, refused)

pub returns-then-not-is_packed : goal.returns-then-not-is_packed
returns-then-not-is_packed c =
    in-other c.args.header.now c.args.buf.now (set-of c.args.header.now c.args.buf.now c.first_set.result _ c.requires.header c.first_set.ensures c.in_ok-refuse_at.ensures) (sym c.is_packed.ensures ∙ c.if-not-is_packed.true)

pub returns : goal.returns
returns c =
    let same = in-packed c.args.header.now c.args.buf.now c.first_repeat.result c.requires.header (set-of c.args.header.now c.args.buf.now c.first_set.result _ c.requires.header c.first_set.ensures c.in_ok-refuse_at.ensures) (sym c.is_packed.ensures ∙ c.if-not-is_packed.false) c.first_repeat.ensures in
    subst (λ o. MatchResult c.refuse_at-2.result (λ _. o ≡ None) (λ x. o ≡ Some x)) same c.refuse_at-2.ensures
