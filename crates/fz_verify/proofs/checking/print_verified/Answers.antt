-- The HDU is verified, and then its line is printed.
use Rattle.std.proofs.Common.{◌≡◌, ℕ, Bool, List, Option, IfSome, Result, Err, sym, subst, rules}
use Rattle.fz_base.specs.Sink.{MayAppend, appended}
use Rattle.fz_base.specs.declared.failure.Stop.{Stop}
use Rattle.fz_verify.specs.Printed.{ChecksHdu}
use Rattle.fz_verify.proofs.Checks.{checked_front, checked_line, unchecked}
use Rattle.fz_verify.proofs.Reports.{grew_front, grew_line, grew_not, one_reported}
use Rattle.fz_verify.proofs.checking.print_verified.Goals as goal

pub returns-in_err-verdicts-clause-checked : goal.returns-in_err-verdicts-clause-checked
returns-in_err-verdicts-clause-checked g c =
    let held : Option (List ℕ) = g.S.Source.held c.args.source.now in
    let h = c.args.again.now.header in
    let old : Option (List ℕ) = g.T.Text.contents c.args.text.now in
    let stopped : c.from_residual.result ≡ Err c.in_err-verdicts.field-0.0 = search rules in
    subst (λ (r : Result Bool Stop). IfSome held (λ f. ChecksHdu f h old old r)) (sym stopped)
    (unchecked held h old c.in_err-verdicts.field-0.0 c.in_err-verdicts.ensures.fault)

pub returns-in_err-print-clause-checked : goal.returns-in_err-print-clause-checked
returns-in_err-print-clause-checked g c =
    let held : Option (List ℕ) = g.S.Source.held c.args.source.now in
    let a = c.args.again.now in
    let old : Option (List ℕ) = g.T.Text.contents c.args.text.now in
    let now : Option (List ℕ) = g.T.Text.contents c.print.new.text in
    let stopped : c.from_residual-in_err-print.result ≡ Err c.in_err-print.field-0.0 = search rules in
    subst (λ (r : Result Bool Stop). IfSome held (λ f. ChecksHdu f a.header old now r)) (sym stopped)
    (checked_front held c.requires.again.0 c.args.space.now.header a c.requires.again.3 c.in_ok-verdicts.verdicts old now (g.T.Text.tally c.args.text.now) (g.T.Text.tally c.print.new.text) c.in_err-print.field-0.0
    c.in_ok-verdicts.ensures.verdicts (subst (λ l. MayAppend l old now) c.verify_line.ensures c.in_err-print.ensures.front) c.in_err-print.ensures.cause.stop)

pub returns-clause-checked : goal.returns-clause-checked
returns-clause-checked g c =
    let held : Option (List ℕ) = g.S.Source.held c.args.source.now in
    let a = c.args.again.now in
    let old : Option (List ℕ) = g.T.Text.contents c.args.text.now in
    let now : Option (List ℕ) = g.T.Text.contents c.print.new.text in
    checked_line held c.requires.again.0 c.args.space.now.header a c.requires.again.3 c.in_ok-verdicts.verdicts c.are_right.result old now c.are_right.ensures c.in_ok-verdicts.ensures.verdicts
    (subst (λ l. now ≡ appended l old) c.verify_line.ensures c.in_ok-print.ensures.all)

pub returns-clause-reported : goal.returns-clause-reported
returns-clause-reported g c =
    let old : Option (List ℕ) = g.T.Text.contents c.args.text.now in
    let now : Option (List ℕ) = g.T.Text.contents c.print.new.text in
    one_reported c.args.again.now.header.hdu c.args.again.now.image c.in_ok-verdicts.verdicts c.are_right.result old now c.are_right.ensures (subst (λ l. now ≡ appended l old) c.verify_line.ensures c.in_ok-print.ensures.all)

pub returns-clause-grown : goal.returns-clause-grown
returns-clause-grown g c = grew_line _ (g.T.Text.contents c.args.text.now) (g.T.Text.contents c.print.new.text) c.in_ok-print.ensures.all

pub returns-in_err-print-clause-grown : goal.returns-in_err-print-clause-grown
returns-in_err-print-clause-grown g c = grew_front _ (g.T.Text.contents c.args.text.now) (g.T.Text.contents c.print.new.text) c.in_err-print.ensures.front

pub returns-in_err-verdicts-clause-grown : goal.returns-in_err-verdicts-clause-grown
returns-in_err-verdicts-clause-grown g c = grew_not (g.T.Text.contents c.args.text.now)
