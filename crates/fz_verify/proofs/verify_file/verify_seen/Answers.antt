-- What is held is what was taken; and the work stops by its buffers, or by what is written after that.
use Rattle.std.proofs.Common.{◌≡◌, ℕ, Bool, List, [], Option, IfSome, Result, Err, sum, refl, sym, ap, ◌∙◌, subst, arith, rules}
use Rattle.fz_base.specs.Stop.{stop_of_short}
use Rattle.fz_base.specs.Takings.{TellsFirstPast, first_past, piled}
use Rattle.fz_base.specs.declared.failure.Stop.{Stop}
use Rattle.fz_pool.specs.Window.{Pool}
use Rattle.fz_job.specs.Workspace.{held_bytes, wanted_buffers}
use Rattle.fz_job.specs.declared.workspace.Wants.{Wants}
use Rattle.fz_files.specs.declared.job.Job.TheVariants.{Verify}
use Rattle.fz_job.specs.Stages.{Works, wants_for}
use Rattle.fz_verify.specs.Printed.{VerifiesSeen}
use Rattle.fz_verify.proofs.Outcomes.{if_over, rewrite_over, short_verified, none_passed, ok_always}
use Rattle.fz_verify.proofs.HduReads.{no_hdu}
use Rattle.fz_verify.proofs.Reports.{grew_not}
use Rattle.fz_verify.proofs.verify_file.verify_seen.Goals as goal

pub returns-in_err-space-clause-verified : goal.returns-in_err-space-clause-verified
returns-in_err-space-clause-verified g c =
    let held : Option (List ℕ) = g.S.Source.held c.args.source.now in
    let old : Option (List ℕ) = g.T.Text.contents c.args.text.now in
    let stopped : c.from_residual.result ≡ Err (stop_of_short c.in_err-space.field-0.0) = search rules in
    subst (λ (r : Result Bool Stop). IfSome held (λ file. VerifiesSeen file c.args.survey.now old old r)) (sym stopped)
    (short_verified held c.args.survey.now old c.in_err-space.field-0.0)

pub returns-in_err-space-clause-silent : goal.returns-in_err-space-clause-silent
returns-in_err-space-clause-silent g c = if_over c.from_residual.result _ (refl, refl)

pub returns-in_err-space-clause-first_past : goal.returns-in_err-space-clause-first_past
returns-in_err-space-clause-first_past g c =
    let meter = c.args.meter.now in
    let ts : List (ℕ × ℕ) = piled meter.live (wanted_buffers (wants_for Verify c.args.survey.now) c.args.window.now.workers) in
    let stopped : c.from_residual.result ≡ Err (stop_of_short c.in_err-space.field-0.0) = search rules in
    subst (λ (r : Result Bool Stop). TellsFirstPast meter.limit ts r) (sym stopped) (c.stages_law.ensures.work.short_past meter.limit ts c.in_err-space.field-0.0 c.in_err-space.ensures.takings.first_past)

pub returns-in_err-space-clause-cause : goal.returns-in_err-space-clause-cause
returns-in_err-space-clause-cause g c =
    let source = g.S.Source.tally c.args.source.now in
    let text = g.T.Text.tally c.args.text.now in
    let stopped : c.from_residual.result ≡ Err (stop_of_short c.in_err-space.field-0.0) = search rules in
    subst (λ (r : Result Bool Stop). Works source source text text c.args.meter.now.limit r) (sym stopped) (c.stages_law.ensures.work.short_works source text c.args.meter.now.limit c.in_err-space.field-0.0 c.in_err-space.ensures.takings.told)

pub returns-in_err-space-clause-emptied : goal.returns-in_err-space-clause-emptied
returns-in_err-space-clause-emptied g c =
    c.in_err-space.ensures.unfilled ∙ (λ i. record { slots = c.requires.window i; workers = c.args.window.now.workers })

pub give_back-requires : goal.give_back-requires
give_back-requires g c =
    let wants : Wants = wants_for Verify c.args.survey.now in
    let held = c.stages_law.ensures.back.kept wants c.in_ok-space.space c.verify_hdus-answer.new.space c.args.window.now.workers c.take.new.window c.verify_hdus-answer.new.window
    c.in_ok-space.ensures.lengths c.verify_hdus-answer.ensures.stays.1 c.in_ok-space.ensures.filled c.verify_hdus-answer.ensures.stays.2 in
    let live = ap (λ m. m.live) c.in_ok-space.ensures.takings.all.1 in
    omega (arith, held, live)

pub returns-clause-silent : goal.returns-clause-silent
returns-clause-silent g c =
    rewrite_over _ _ _ _ c.verify_hdus-answer.result _ c.verify_hdus-answer.ensures.cause.stop

pub returns-clause-first_past : goal.returns-clause-first_past
returns-clause-first_past g c =
    c.stages_law.ensures.work.past _ _ _ _ c.args.meter.now.limit (piled c.args.meter.now.live (wanted_buffers (wants_for Verify c.args.survey.now) c.args.window.now.workers)) c.verify_hdus-answer.result
    c.verify_hdus-answer.ensures.cause.stop c.in_ok-space.ensures.takings.first_past

pub returns-clause-peak : goal.returns-clause-peak
returns-clause-peak g c =
    let wants : Wants = wants_for Verify c.args.survey.now in
    let held = c.stages_law.ensures.back.kept wants c.in_ok-space.space c.verify_hdus-answer.new.space c.args.window.now.workers c.take.new.window c.verify_hdus-answer.new.window
    c.in_ok-space.ensures.lengths c.verify_hdus-answer.ensures.stays.1 c.in_ok-space.ensures.filled c.verify_hdus-answer.ensures.stays.2 in
    let reached = (c.stages_law.ensures.back.given c.args.meter.now c.take.new.meter c.give_back.new.meter (sum (wanted_buffers wants c.args.window.now.workers)) (held_bytes c.verify_hdus-answer.new.space c.verify_hdus-answer.new.window)
    c.in_ok-space.ensures.takings.all.1 held c.give_back.ensures.given).2 in
    omega (arith, reached)

pub returns-clause-exact_peak : goal.returns-clause-exact_peak
returns-clause-exact_peak g c =
    let wants : Wants = wants_for Verify c.args.survey.now in
    let held = c.stages_law.ensures.back.kept wants c.in_ok-space.space c.verify_hdus-answer.new.space c.args.window.now.workers c.take.new.window c.verify_hdus-answer.new.window
    c.in_ok-space.ensures.lengths c.verify_hdus-answer.ensures.stays.1 c.in_ok-space.ensures.filled c.verify_hdus-answer.ensures.stays.2 in
    ok_always c.verify_hdus-answer.result _
    (c.stages_law.ensures.back.given c.args.meter.now c.take.new.meter c.give_back.new.meter (sum (wanted_buffers wants c.args.window.now.workers)) (held_bytes c.verify_hdus-answer.new.space c.verify_hdus-answer.new.window)
    c.in_ok-space.ensures.takings.all.1 held c.give_back.ensures.given).2

pub returns-clause-stays : goal.returns-clause-stays
returns-clause-stays g c =
    let wants : Wants = wants_for Verify c.args.survey.now in
    let held = c.stages_law.ensures.back.kept wants c.in_ok-space.space c.verify_hdus-answer.new.space c.args.window.now.workers c.take.new.window c.verify_hdus-answer.new.window
    c.in_ok-space.ensures.lengths c.verify_hdus-answer.ensures.stays.1 c.in_ok-space.ensures.filled c.verify_hdus-answer.ensures.stays.2 in (
      search rules,
      search rules,
      (c.stages_law.ensures.back.given c.args.meter.now c.take.new.meter c.give_back.new.meter (sum (wanted_buffers wants c.args.window.now.workers)) (held_bytes c.verify_hdus-answer.new.space c.verify_hdus-answer.new.window)
          c.in_ok-space.ensures.takings.all.1 held c.give_back.ensures.given).0,
      (c.stages_law.ensures.back.given c.args.meter.now c.take.new.meter c.give_back.new.meter (sum (wanted_buffers wants c.args.window.now.workers)) (held_bytes c.verify_hdus-answer.new.space c.verify_hdus-answer.new.window)
          c.in_ok-space.ensures.takings.all.1 held c.give_back.ensures.given).1,
    )

pub returns-clause-emptied : goal.returns-clause-emptied
returns-clause-emptied g c =
    let filled : c.take.new.window.workers ≡ c.args.window.now.workers = ap (λ (p : Pool). p.workers) c.in_ok-space.ensures.filled in
    c.give_back.ensures.emptied ∙ (λ i. record { slots = []; workers = (c.verify_hdus-answer.ensures.stays.2.workers ∙ filled) i })

pub returns-clause-cause : goal.returns-clause-cause
returns-clause-cause g c = c.stages_law.ensures.work.works _ _ _ _ c.args.meter.now.limit c.verify_hdus-answer.result c.verify_hdus-answer.ensures.cause

pub returns-in_err-space-clause-grown : goal.returns-in_err-space-clause-grown
returns-in_err-space-clause-grown g c = grew_not (g.T.Text.contents c.args.text.now)

pub returns-in_err-space-clause-past : goal.returns-in_err-space-clause-past
returns-in_err-space-clause-past g c = λ some. (refl, refl)

pub returns-clause-past : goal.returns-clause-past
returns-clause-past g c = none_passed _ (first_past c.args.meter.now.limit (piled c.args.meter.now.live (wanted_buffers (wants_for Verify c.args.survey.now) c.args.window.now.workers))) c.in_ok-space.ensures.takings.first_past

pub returns-in_err-space-clause-read : goal.returns-in_err-space-clause-read
returns-in_err-space-clause-read g c = no_hdu c.args.survey.now (g.S.Source.ranges c.args.source.now) (g.S.Source.held c.args.source.now)
