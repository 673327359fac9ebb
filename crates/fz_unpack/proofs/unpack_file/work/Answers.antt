-- What is held is what was taken; and the work stops by its buffers, or by what is written after that.
use Rattle.std.proofs.Common.{◌≡◌, ℕ, ◌+◌, List, [], Option, IfSome, Result, Err, sum, refl, sym, ap, ◌∙◌, subst, arith, rules}
use Rattle.fz_base.specs.Counts.{nameless}
use Rattle.fz_base.specs.Stop.{stop_of_short}
use Rattle.fz_base.specs.Takings.{TellsFirstPast, first_past, piled}
use Rattle.fz_base.specs.declared.failure.Stop.{Stop}
use Rattle.fz_pool.specs.Window.{Pool}
use Rattle.fz_job.specs.Workspace.{held_bytes, wanted_buffers}
use Rattle.fz_job.specs.declared.workspace.Wants.{Wants}
use Rattle.fz_files.specs.declared.job.Job.TheVariants.{Unpack}
use Rattle.fz_job.specs.Stages.{Works, wants_for}
use Rattle.fz_unpack.specs.Written.{FinishesSeen}
use Rattle.fz_unpack.proofs.Held.{sum_one}
use Rattle.fz_unpack.proofs.HduReads.{no_hdu}
use Rattle.fz_unpack.proofs.Outcomes.{if_over, none_passed, ok_always, rewrite_over, short_shut, short_unwritten}
use Rattle.fz_unpack.proofs.unpack_file.work.Goals as goal

pub returns-in_err-space-clause-written : goal.returns-in_err-space-clause-written
returns-in_err-space-clause-written g c =
    let held : Option (List ℕ) = g.S.Source.held c.args.source.now in
    let stopped : c.from_residual.result ≡ Err (stop_of_short c.in_err-space.field-0.0) = search rules in
    subst (λ (r : Result (Unit {0}) Stop). IfSome held (λ file. FinishesSeen file c.args.survey.now (g.K.Sink.contents c.args.sink.now) r)) (sym stopped)
    (short_unwritten (Unit {0}) held c.args.survey.now (g.K.Sink.contents c.args.sink.now) c.in_err-space.field-0.0)

pub returns-in_err-space-clause-shut : goal.returns-in_err-space-clause-shut
returns-in_err-space-clause-shut g c =
    short_shut (g.S.Source.held c.args.source.now) c.args.survey.now (g.K.Sink.contents c.args.sink.now) c.from_residual.result c.requires.empty

pub returns-in_err-space-clause-unmade : goal.returns-in_err-space-clause-unmade
returns-in_err-space-clause-unmade g c = if_over c.from_residual.result _ (refl, refl)

pub returns-in_err-space-clause-first_past : goal.returns-in_err-space-clause-first_past
returns-in_err-space-clause-first_past g c =
    let meter = c.args.meter.now in
    let ts : List (ℕ × ℕ) = piled meter.live (wanted_buffers (wants_for Unpack c.args.survey.now) c.args.window.now.workers) in
    let stopped : c.from_residual.result ≡ Err (stop_of_short c.in_err-space.field-0.0) = search rules in
    subst (λ (r : Result (Unit {0}) Stop). TellsFirstPast meter.limit ts r) (sym stopped) (c.stages_law.ensures.work.short_past meter.limit ts c.in_err-space.field-0.0 c.in_err-space.ensures.takings.first_past)

pub returns-in_err-space-clause-cause : goal.returns-in_err-space-clause-cause
returns-in_err-space-clause-cause g c =
    let source = g.S.Source.tally c.args.source.now in
    let sink = nameless (g.K.Sink.tally c.args.sink.now) in
    let stopped : c.from_residual.result ≡ Err (stop_of_short c.in_err-space.field-0.0) = search rules in
    subst (λ (r : Result (Unit {0}) Stop). Works source source sink sink c.args.meter.now.limit r) (sym stopped) (c.stages_law.ensures.work.short_works source sink c.args.meter.now.limit c.in_err-space.field-0.0 c.in_err-space.ensures.takings.told)

pub returns-in_err-space-clause-emptied : goal.returns-in_err-space-clause-emptied
returns-in_err-space-clause-emptied g c =
    c.in_err-space.ensures.unfilled ∙ (λ i. record { slots = c.requires.window i; workers = c.args.window.now.workers })

pub write_file-answer-requires-clause-translated : goal.write_file-answer-requires-clause-translated
write_file-answer-requires-clause-translated g c =
    let one = sum_one (c.args.survey.now.header_len + 2880) in
    let made = c.in_ok-space.ensures.lengths.translated in
    let read = c.in_ok-space.ensures.lengths.header in
    omega (arith, one, made, read)

pub give_back-requires : goal.give_back-requires
give_back-requires g c =
    let wants : Wants = wants_for Unpack c.args.survey.now in
    let held = c.stages_law.ensures.back.kept wants c.in_ok-space.space c.write_file-answer.new.space c.args.window.now.workers c.take.new.window c.write_file-answer.new.window
    c.in_ok-space.ensures.lengths c.write_file-answer.ensures.stays.1 c.in_ok-space.ensures.filled c.write_file-answer.ensures.stays.2 in
    let live = ap (λ m. m.live) c.in_ok-space.ensures.takings.all.1 in
    omega (arith, held, live)

pub returns-clause-unmade : goal.returns-clause-unmade
returns-clause-unmade g c =
    rewrite_over _ _ _ _ c.write_file-answer.result _ c.write_file-answer.ensures.cause.stop

pub returns-clause-first_past : goal.returns-clause-first_past
returns-clause-first_past g c =
    c.stages_law.ensures.work.past _ _ _ _ c.args.meter.now.limit (piled c.args.meter.now.live (wanted_buffers (wants_for Unpack c.args.survey.now) c.args.window.now.workers)) c.write_file-answer.result
    c.write_file-answer.ensures.cause.stop c.in_ok-space.ensures.takings.first_past

pub returns-clause-peak : goal.returns-clause-peak
returns-clause-peak g c =
    let wants : Wants = wants_for Unpack c.args.survey.now in
    let held = c.stages_law.ensures.back.kept wants c.in_ok-space.space c.write_file-answer.new.space c.args.window.now.workers c.take.new.window c.write_file-answer.new.window
    c.in_ok-space.ensures.lengths c.write_file-answer.ensures.stays.1 c.in_ok-space.ensures.filled c.write_file-answer.ensures.stays.2 in
    let reached = (c.stages_law.ensures.back.given c.args.meter.now c.take.new.meter c.give_back.new.meter (sum (wanted_buffers wants c.args.window.now.workers)) (held_bytes c.write_file-answer.new.space c.write_file-answer.new.window)
    c.in_ok-space.ensures.takings.all.1 held c.give_back.ensures.given).2 in
    omega (arith, reached)

pub returns-clause-exact_peak : goal.returns-clause-exact_peak
returns-clause-exact_peak g c =
    let wants : Wants = wants_for Unpack c.args.survey.now in
    let held = c.stages_law.ensures.back.kept wants c.in_ok-space.space c.write_file-answer.new.space c.args.window.now.workers c.take.new.window c.write_file-answer.new.window
    c.in_ok-space.ensures.lengths c.write_file-answer.ensures.stays.1 c.in_ok-space.ensures.filled c.write_file-answer.ensures.stays.2 in
    ok_always c.write_file-answer.result _
    (c.stages_law.ensures.back.given c.args.meter.now c.take.new.meter c.give_back.new.meter (sum (wanted_buffers wants c.args.window.now.workers)) (held_bytes c.write_file-answer.new.space c.write_file-answer.new.window)
    c.in_ok-space.ensures.takings.all.1 held c.give_back.ensures.given).2

pub returns-clause-stays : goal.returns-clause-stays
returns-clause-stays g c =
    let wants : Wants = wants_for Unpack c.args.survey.now in
    let held = c.stages_law.ensures.back.kept wants c.in_ok-space.space c.write_file-answer.new.space c.args.window.now.workers c.take.new.window c.write_file-answer.new.window
    c.in_ok-space.ensures.lengths c.write_file-answer.ensures.stays.1 c.in_ok-space.ensures.filled c.write_file-answer.ensures.stays.2 in (
      search rules,
      search rules,
      (c.stages_law.ensures.back.given c.args.meter.now c.take.new.meter c.give_back.new.meter (sum (wanted_buffers wants c.args.window.now.workers)) (held_bytes c.write_file-answer.new.space c.write_file-answer.new.window)
          c.in_ok-space.ensures.takings.all.1 held c.give_back.ensures.given).0,
      (c.stages_law.ensures.back.given c.args.meter.now c.take.new.meter c.give_back.new.meter (sum (wanted_buffers wants c.args.window.now.workers)) (held_bytes c.write_file-answer.new.space c.write_file-answer.new.window)
          c.in_ok-space.ensures.takings.all.1 held c.give_back.ensures.given).1,
    )

pub returns-clause-emptied : goal.returns-clause-emptied
returns-clause-emptied g c =
    let filled : c.take.new.window.workers ≡ c.args.window.now.workers = ap (λ (p : Pool). p.workers) c.in_ok-space.ensures.filled in
    c.give_back.ensures.emptied ∙ (λ i. record { slots = []; workers = (c.write_file-answer.ensures.stays.2.workers ∙ filled) i })

pub returns-clause-cause : goal.returns-clause-cause
returns-clause-cause g c = c.stages_law.ensures.work.works _ _ _ _ c.args.meter.now.limit c.write_file-answer.result c.write_file-answer.ensures.cause

pub returns-in_err-space-clause-past : goal.returns-in_err-space-clause-past
returns-in_err-space-clause-past g c = λ some. (refl, refl)

pub returns-clause-past : goal.returns-clause-past
returns-clause-past g c = none_passed _ (first_past c.args.meter.now.limit (piled c.args.meter.now.live (wanted_buffers (wants_for Unpack c.args.survey.now) c.args.window.now.workers))) c.in_ok-space.ensures.takings.first_past

pub returns-in_err-space-clause-read : goal.returns-in_err-space-clause-read
returns-in_err-space-clause-read g c = no_hdu c.args.survey.now (g.S.Source.ranges c.args.source.now) (g.S.Source.held c.args.source.now)
