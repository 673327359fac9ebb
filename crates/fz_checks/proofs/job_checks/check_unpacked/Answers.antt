use Rattle.std.proofs.Common.{◌≡◌, Some, None, sym, ◌∙◌, subst, arith}
use Rattle.std.specs.Result.{MatchResult}
use Rattle.fz_checks.proofs.FrontCards.{header-end}
use Rattle.fz_checks.proofs.JobAnswers.{no-table, in-table}
use Rattle.fz_checks.proofs.job_checks.check_unpacked.Goals as goal

pub returns-then-not-is_table : goal.returns-then-not-is_table
returns-then-not-is_table c = no-table c.args.header.now c.args.buf.now (sym c.is_table.ensures ∙ c.if-not-is_table.true)

pub first_packed-requires : goal.first_packed-requires
first_packed-requires c = let end = (header-end c.args.buf.now c.args.header.now c.requires).within in omega arith

pub returns : goal.returns
returns c =
    let same = in-table c.args.header.now c.args.buf.now c.first_packed.result c.requires (sym c.is_table.ensures ∙ c.if-not-is_table.false) c.first_packed.ensures in
    subst (λ o. MatchResult c.refuse_at.result (λ _. o ≡ None) (λ x. o ≡ Some x)) same c.refuse_at.ensures
