-- What is held is what was taken; and the work stops by its buffers, or by what is compared behind that.
use Rattle.std.proofs.Common.{◌≡◌, ℕ, Bool, List, [], Option, IfSome, Result, Err, sum, refl, sym, ap, ◌∙◌, subst, arith, rules}
use Rattle.fz_base.specs.Stop.{IfRefused, ReadsAndTakes, stop_of_short}
use Rattle.fz_base.specs.Takings.{TellsFirstPast, piled}
use Rattle.fz_base.specs.declared.failure.Stop.{Stop}
use Rattle.fz_files.specs.declared.job.Job.TheVariants.{Verify}
use Rattle.fz_job.specs.Clauses.{ComesLate}
use Rattle.fz_pool.specs.Window.{Pool}
use Rattle.fz_job.specs.Workspace.{held_bytes, wanted_buffers}
use Rattle.fz_job.specs.declared.workspace.Wants.{Wants}
use Rattle.fz_strict.specs.Clauses.{strict_wants}
use Rattle.fz_strict.specs.Rows.{ComparesFound}
use Rattle.fz_strict.proofs.Outcomes.{always, fetched_past, fetched_takes, ok_always, short_compared, short_refuses, short_takes, short_tells}
use Rattle.fz_strict.proofs.ReadHdus.{no_hdu}
use Rattle.fz_strict.proofs.strict_file.with_plain.Goals as goal

pub returns-in_err-space-clause-compared : goal.returns-in_err-space-clause-compared
returns-in_err-space-clause-compared g c =
    let held : Option (List ℕ) = g.S.Source.held c.args.source.now in
    let stopped : c.from_residual.result ≡ Err (stop_of_short c.in_err-space.field-0.0) = search rules in
    subst (λ (r : Result Bool Stop). IfSome held (λ file. ComparesFound file c.args.survey.now r)) (sym stopped)
    (always held (λ file. ComparesFound file c.args.survey.now (Err (stop_of_short c.in_err-space.field-0.0))) (λ file. short_compared file c.args.survey.now c.in_err-space.field-0.0))

pub returns-in_err-space-clause-first_past : goal.returns-in_err-space-clause-first_past
returns-in_err-space-clause-first_past g c =
    let meter = c.args.meter.now in
    let ts : List (ℕ × ℕ) = piled meter.live (wanted_buffers (strict_wants c.args.survey.now) c.args.window.now.workers) in
    let stopped : c.from_residual.result ≡ Err (stop_of_short c.in_err-space.field-0.0) = search rules in
    subst (λ (r : Result Bool Stop). TellsFirstPast meter.limit ts r) (sym stopped) (short_tells Bool meter.limit ts c.in_err-space.field-0.0 c.in_err-space.ensures.takings.first_past)

pub returns-in_err-space-clause-late : goal.returns-in_err-space-clause-late
returns-in_err-space-clause-late g c =
    let stopped : c.from_residual.result ≡ Err (stop_of_short c.in_err-space.field-0.0) = search rules in
    subst (λ (r : Result Bool Stop). IfRefused r (ComesLate Verify)) (sym stopped) (short_refuses Bool (ComesLate Verify) c.in_err-space.field-0.0)

pub returns-in_err-space-clause-cause : goal.returns-in_err-space-clause-cause
returns-in_err-space-clause-cause g c =
    let source = g.S.Source.tally c.args.source.now in
    let stopped : c.from_residual.result ≡ Err (stop_of_short c.in_err-space.field-0.0) = search rules in
    subst (λ (r : Result Bool Stop). ReadsAndTakes source source c.args.meter.now.limit r) (sym stopped) (short_takes source c.args.meter.now.limit c.in_err-space.field-0.0 c.in_err-space.ensures.takings.told)

pub returns-in_err-space-clause-emptied : goal.returns-in_err-space-clause-emptied
returns-in_err-space-clause-emptied g c =
    c.in_err-space.ensures.unfilled ∙ (λ i. record { slots = c.requires.window i; workers = c.args.window.now.workers })

pub give_back-requires : goal.give_back-requires
give_back-requires g c =
    let wants : Wants = strict_wants c.args.survey.now in
    let held = c.stages_law.ensures.back.kept wants c.in_ok-space.space c.compare_file-answer.new.space c.args.window.now.workers c.take.new.window c.compare_file-answer.new.window
    c.in_ok-space.ensures.lengths c.compare_file-answer.ensures.stays.1 c.in_ok-space.ensures.filled c.compare_file-answer.ensures.stays.2 in
    let live = ap (λ m. m.live) c.in_ok-space.ensures.takings.all.1 in
    omega (arith, held, live)

pub returns-clause-first_past : goal.returns-clause-first_past
returns-clause-first_past g c =
    fetched_past _ _ c.args.meter.now.limit (piled c.args.meter.now.live (wanted_buffers (strict_wants c.args.survey.now) c.args.window.now.workers)) c.compare_file-answer.result
    c.compare_file-answer.ensures.cause c.in_ok-space.ensures.takings.first_past

pub returns-clause-peak : goal.returns-clause-peak
returns-clause-peak g c =
    let wants : Wants = strict_wants c.args.survey.now in
    let held = c.stages_law.ensures.back.kept wants c.in_ok-space.space c.compare_file-answer.new.space c.args.window.now.workers c.take.new.window c.compare_file-answer.new.window
    c.in_ok-space.ensures.lengths c.compare_file-answer.ensures.stays.1 c.in_ok-space.ensures.filled c.compare_file-answer.ensures.stays.2 in
    let reached = (c.stages_law.ensures.back.given c.args.meter.now c.take.new.meter c.give_back.new.meter (sum (wanted_buffers wants c.args.window.now.workers)) (held_bytes c.compare_file-answer.new.space c.compare_file-answer.new.window)
    c.in_ok-space.ensures.takings.all.1 held c.give_back.ensures.given).2 in
    omega (arith, reached)

pub returns-clause-exact_peak : goal.returns-clause-exact_peak
returns-clause-exact_peak g c =
    let wants : Wants = strict_wants c.args.survey.now in
    let held = c.stages_law.ensures.back.kept wants c.in_ok-space.space c.compare_file-answer.new.space c.args.window.now.workers c.take.new.window c.compare_file-answer.new.window
    c.in_ok-space.ensures.lengths c.compare_file-answer.ensures.stays.1 c.in_ok-space.ensures.filled c.compare_file-answer.ensures.stays.2 in
    ok_always c.compare_file-answer.result _
    (c.stages_law.ensures.back.given c.args.meter.now c.take.new.meter c.give_back.new.meter (sum (wanted_buffers wants c.args.window.now.workers)) (held_bytes c.compare_file-answer.new.space c.compare_file-answer.new.window)
    c.in_ok-space.ensures.takings.all.1 held c.give_back.ensures.given).2

pub returns-clause-stays : goal.returns-clause-stays
returns-clause-stays g c =
    let wants : Wants = strict_wants c.args.survey.now in
    let held = c.stages_law.ensures.back.kept wants c.in_ok-space.space c.compare_file-answer.new.space c.args.window.now.workers c.take.new.window c.compare_file-answer.new.window
    c.in_ok-space.ensures.lengths c.compare_file-answer.ensures.stays.1 c.in_ok-space.ensures.filled c.compare_file-answer.ensures.stays.2 in (
      search rules,
      search rules,
      (c.stages_law.ensures.back.given c.args.meter.now c.take.new.meter c.give_back.new.meter (sum (wanted_buffers wants c.args.window.now.workers)) (held_bytes c.compare_file-answer.new.space c.compare_file-answer.new.window)
          c.in_ok-space.ensures.takings.all.1 held c.give_back.ensures.given).0,
      (c.stages_law.ensures.back.given c.args.meter.now c.take.new.meter c.give_back.new.meter (sum (wanted_buffers wants c.args.window.now.workers)) (held_bytes c.compare_file-answer.new.space c.compare_file-answer.new.window)
          c.in_ok-space.ensures.takings.all.1 held c.give_back.ensures.given).1,
    )

pub returns-clause-emptied : goal.returns-clause-emptied
returns-clause-emptied g c =
    let filled : c.take.new.window.workers ≡ c.args.window.now.workers = ap (λ (p : Pool). p.workers) c.in_ok-space.ensures.filled in
    c.give_back.ensures.emptied ∙ (λ i. record { slots = []; workers = (c.compare_file-answer.ensures.stays.2.workers ∙ filled) i })

pub returns-clause-cause : goal.returns-clause-cause
returns-clause-cause g c = fetched_takes _ _ c.args.meter.now.limit c.compare_file-answer.result c.compare_file-answer.ensures.cause

pub returns-in_err-space-clause-read : goal.returns-in_err-space-clause-read
returns-in_err-space-clause-read g c = no_hdu c.args.survey.now (g.S.Source.ranges c.args.source.now) (g.S.Source.held c.args.source.now)
