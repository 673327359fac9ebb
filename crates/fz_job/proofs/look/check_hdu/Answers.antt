-- What the header says, and then the fill, is what the job says of the HDU.
use Rattle.std.proofs.Common.{ℕ, List, Option, Result, IfSome, sym, ◌∙◌, subst}
use Rattle.fz_base.specs.Source.{HoldsLength}
use Rattle.fz_base.specs.Stop.{IsDefined}
use Rattle.fz_base.specs.declared.failure.Stop.{Stop}
use Rattle.fz_block.specs.Header.{next_start_of}
use Rattle.fz_checks.specs.JobChecks.{data_end_of}
use Rattle.fz_job.specs.Looks.{hdu_look}
use Rattle.fz_job.specs.Surveys.{looks_at_fill}
use Rattle.fz_job.proofs.Here.{stands_here}
use Rattle.fz_job.proofs.Judged.{IsHere, filled_look, hdu_refused, hdu_passed, hdu_filled}
use Rattle.fz_job.proofs.Places.{logs_where}
use Rattle.fz_job.proofs.look.check_hdu.Goals as goal

pub returns-in-Err-clause-exact : goal.returns-in-Err-clause-exact
returns-in-Err-clause-exact g c =
    let held : Option (List ℕ) = g.S.Source.held c.args.source.now in
    let told : HoldsLength held c.args.length = g.met.S.Source.agrees c.args.source.now c.args.length c.requires.attached in
    let here : IfSome held (IsHere c.args.header.now c.args.buf.now c.args.after_empty) =
    stands_here c.hdu_law.ensures.hdu held c.args.length c.args.header.now c.args.buf.now c.args.after_empty told c.requires.header c.requires.read c.requires.within.0 c.requires.after in
    hdu_refused held c.args.checks.now c.args.header.now c.args.buf.now c.args.after_empty _ here (sym c.check_header.ensures.exact ∙ c.in-Err.is)

pub returns-then-not-looks_at_fill-clause-exact : goal.returns-then-not-looks_at_fill-clause-exact
returns-then-not-looks_at_fill-clause-exact g c =
    let held : Option (List ℕ) = g.S.Source.held c.args.source.now in
    let told : HoldsLength held c.args.length = g.met.S.Source.agrees c.args.source.now c.args.length c.requires.attached in
    let here : IfSome held (IsHere c.args.header.now c.args.buf.now c.args.after_empty) =
    stands_here c.hdu_law.ensures.hdu held c.args.length c.args.header.now c.args.buf.now c.args.after_empty told c.requires.header c.requires.read c.requires.within.0 c.requires.after in
    hdu_passed held c.args.checks.now c.args.header.now c.args.buf.now c.args.after_empty _ here (sym c.check_header.ensures.exact ∙ c.in-Ok.is)
    (sym c.looks_at_fill.ensures ∙ c.if-not-looks_at_fill.true)

pub returns-in-Ok-check_fill-clause-exact : goal.returns-in-Ok-check_fill-clause-exact
returns-in-Ok-check_fill-clause-exact g c =
    let held : Option (List ℕ) = g.S.Source.held c.args.source.now in
    let told : HoldsLength held c.args.length = g.met.S.Source.agrees c.args.source.now c.args.length c.requires.attached in
    let here : IfSome held (IsHere c.args.header.now c.args.buf.now c.args.after_empty) =
    stands_here c.hdu_law.ensures.hdu held c.args.length c.args.header.now c.args.buf.now c.args.after_empty told c.requires.header c.requires.read c.requires.within.0 c.requires.after in
    subst (λ (a : Result (Unit {0}) Stop). IfSome held (λ f. IsDefined (hdu_look c.args.checks.now f c.args.header.now) (filled_look c.in-Ok.found a))) c.in-Ok-check_fill.is
    (hdu_filled held c.args.checks.now c.args.header.now c.args.buf.now c.args.after_empty c.in-Ok.found c.check_fill.result here (sym c.check_header.ensures.exact ∙ c.in-Ok.is)
    (sym c.looks_at_fill.ensures ∙ c.if-not-looks_at_fill.false) c.check_fill.ensures.exact)

pub returns-in-Err-check_fill-clause-exact : goal.returns-in-Err-check_fill-clause-exact
returns-in-Err-check_fill-clause-exact g c =
    let held : Option (List ℕ) = g.S.Source.held c.args.source.now in
    let told : HoldsLength held c.args.length = g.met.S.Source.agrees c.args.source.now c.args.length c.requires.attached in
    let here : IfSome held (IsHere c.args.header.now c.args.buf.now c.args.after_empty) =
    stands_here c.hdu_law.ensures.hdu held c.args.length c.args.header.now c.args.buf.now c.args.after_empty told c.requires.header c.requires.read c.requires.within.0 c.requires.after in
    subst (λ (a : Result (Unit {0}) Stop). IfSome held (λ f. IsDefined (hdu_look c.args.checks.now f c.args.header.now) (filled_look c.in-Ok.found a))) c.in-Err-check_fill.is
    (hdu_filled held c.args.checks.now c.args.header.now c.args.buf.now c.args.after_empty c.in-Ok.found c.check_fill.result here (sym c.check_header.ensures.exact ∙ c.in-Ok.is)
    (sym c.looks_at_fill.ensures ∙ c.if-not-looks_at_fill.false) c.check_fill.ensures.exact)

pub returns-in-Ok-check_fill-clause-log : goal.returns-in-Ok-check_fill-clause-log
returns-in-Ok-check_fill-clause-log g c =
    logs_where (looks_at_fill c.args.checks.now c.args.header.now) (data_end_of c.args.header.now) (next_start_of c.args.header.now) (g.S.Source.ranges c.args.source.now) (g.S.Source.ranges c.check_fill.new.source)
    (sym c.looks_at_fill.ensures ∙ c.if-not-looks_at_fill.false) c.check_fill.ensures.log

pub returns-in-Err-check_fill-clause-log : goal.returns-in-Err-check_fill-clause-log
returns-in-Err-check_fill-clause-log g c =
    logs_where (looks_at_fill c.args.checks.now c.args.header.now) (data_end_of c.args.header.now) (next_start_of c.args.header.now) (g.S.Source.ranges c.args.source.now) (g.S.Source.ranges c.check_fill.new.source)
    (sym c.looks_at_fill.ensures ∙ c.if-not-looks_at_fill.false) c.check_fill.ensures.log
