-- The line is put whole.
use Rattle.std.proofs.Common.{◌≡◌, ℕ, Bool, List, Option, length, sym, ap, ◌∙◌, subst, rules}
use Rattle.std.proofs.Math.Seq.{take-length}
use Rattle.std.specs.Prelude.{IfOk, Result, Ok}
use Rattle.fz_base.specs.Sink.{MayAppend, appended}
use Rattle.fz_base.specs.declared.fault.Fault.{Fault}
use Rattle.fz_app.specs.Lines.{strict_text}
use Rattle.fz_app.proofs.comparing.print_found.Goals as goal

pub returns-clause-front : goal.returns-clause-front
returns-clause-front g c =
    let same : Bool = c.in_ok-same.same in
    let old : Option (List ℕ) = g.T.Text.contents c.args.text.now in
    let new : Option (List ℕ) = g.T.Text.contents c.put.new.self in
    let found : c.args.found ≡ Ok same = search rules in
    let line : new ≡ appended (strict_text same) old = search rules in
    subst (λ (f : Result Bool Fault). IfOk f (λ b. MayAppend (strict_text b) old new)) (sym found) (length (strict_text same), line ∙ ap (λ l. appended l old) (sym (take-length (strict_text same))))
