-- What is held is what was taken; the look at the rows stops, or the buffers are exchanged for those of a view.
use Rattle.std.proofs.Common.{◌≡◌, ℕ, ◌+◌, ◌*◌, List, [], replicate, Option, IfSome, Result, Err, sum, sym, ap, ◌∙◌, subst, arith, rules}
use Rattle.fz_base.specs.Counts.{uncounted}
use Rattle.fz_base.specs.Stop.{IfRefused, stop_of_short}
use Rattle.fz_base.specs.Takings.{TellsFirstPast, piled}
use Rattle.fz_base.specs.declared.failure.Stop.{Stop}
use Rattle.fz_pool.specs.Window.{Pool, slot_sizes}
use Rattle.fz_job.specs.Workspace.{held_bytes, wanted_buffers}
use Rattle.fz_job.specs.declared.workspace.Wants.{Wants}
use Rattle.fz_files.specs.declared.job.Job.TheVariants.{Unpack}
use Rattle.fz_job.specs.Stages.{Works, wants_for}
use Rattle.fz_look.specs.Looked.{IsFaultAmong}
use Rattle.fz_look.specs.declared.hdus.Seen.{Seen}
use Rattle.fz_look.specs.declared.whole_look.Found.{Found}
use Rattle.fz_look.proofs.Causes.{past_unless, refused_unless, rewrites_alike, works_unless}
use Rattle.fz_look.proofs.Held.{sum_one}
use Rattle.fz_look.proofs.HduReads.{no_hdu}
use Rattle.fz_look.proofs.Outcomes.{if_short, ok_always, stop_weaker}
use Rattle.fz_look.proofs.Spaces.{seen_with, sound_with}
use Rattle.fz_look.proofs.whole_look.with_survey.Goals as goal

-- ---- the buffers were not given

pub returns-in_err-space-clause-fault : goal.returns-in_err-space-clause-fault
returns-in_err-space-clause-fault g c =
    let held : Option (List ℕ) = g.S.Source.held c.args.source.now in
    let stopped : c.from_residual.result ≡ Err (stop_of_short c.in_err-space.field-0.0) = search rules in
    subst (λ (r : Result Found Stop). IfRefused r (λ x. IfSome held (λ file. IsFaultAmong file c.args.survey.now x))) (sym stopped) (if_short Found c.in_err-space.field-0.0 _)

pub returns-in_err-space-clause-first_past : goal.returns-in_err-space-clause-first_past
returns-in_err-space-clause-first_past g c =
    let meter = c.args.meter.now in
    let ts : List (ℕ × ℕ) = piled meter.live (wanted_buffers (wants_for Unpack c.args.survey.now) c.args.window.now.workers) in
    let stopped : c.from_residual.result ≡ Err (stop_of_short c.in_err-space.field-0.0) = search rules in
    subst (λ (r : Result Found Stop). TellsFirstPast meter.limit ts r) (sym stopped) (c.stages_law.ensures.work.short_past meter.limit ts c.in_err-space.field-0.0 c.in_err-space.ensures.takings.first_past)

pub returns-in_err-space-clause-cause : goal.returns-in_err-space-clause-cause
returns-in_err-space-clause-cause g c =
    let source = g.S.Source.tally c.args.source.now in
    let stopped : c.from_residual.result ≡ Err (stop_of_short c.in_err-space.field-0.0) = search rules in
    subst (λ (r : Result Found Stop). Works source source uncounted uncounted c.args.meter.now.limit r) (sym stopped) (c.stages_law.ensures.work.short_works source uncounted c.args.meter.now.limit c.in_err-space.field-0.0 c.in_err-space.ensures.takings.told)

pub returns-in_err-space-clause-emptied : goal.returns-in_err-space-clause-emptied
returns-in_err-space-clause-emptied g c =
    c.in_err-space.ensures.unfilled ∙ (λ i. record { slots = c.requires.window i; workers = c.args.window.now.workers })

pub returns-in_err-space-clause-read : goal.returns-in_err-space-clause-read
returns-in_err-space-clause-read g c = no_hdu c.args.survey.now (g.S.Source.ranges c.args.source.now) (g.S.Source.held c.args.source.now)

pub look_at_hdus-requires-clause-translated : goal.look_at_hdus-requires-clause-translated
look_at_hdus-requires-clause-translated g c =
    let one = sum_one (c.args.survey.now.header_len + 2880) in
    omega (arith, one, c.in_ok-space.ensures.lengths.translated, c.in_ok-space.ensures.lengths.header)

-- ---- the look at the rows stopped

pub give_back-requires : goal.give_back-requires
give_back-requires g c =
    let wants : Wants = wants_for Unpack c.args.survey.now in
    let held = c.stages_law.ensures.back.kept wants c.in_ok-space.space c.look_at_hdus.new.space c.args.window.now.workers c.take.new.window c.look_at_hdus.new.window
    c.in_ok-space.ensures.lengths c.look_at_hdus.ensures.stays.1 c.in_ok-space.ensures.filled c.look_at_hdus.ensures.stays.2 in
    let live = ap (λ m. m.live) c.in_ok-space.ensures.takings.all.1 in
    omega (arith, held, live)

pub returns-in-Err-clause-fault : goal.returns-in-Err-clause-fault
returns-in-Err-clause-fault g c = stop_weaker Seen Found c.in-Err.stop (λ x is. is) c.in-Err.ensures.fault

pub returns-in-Err-clause-first_past : goal.returns-in-Err-clause-first_past
returns-in-Err-clause-first_past g c =
    let works = rewrites_alike Seen Found _ _ c.in-Err.stop c.in-Err.ensures.cause in
    c.stages_law.ensures.work.past _ _ _ _ c.args.meter.now.limit (piled c.args.meter.now.live (wanted_buffers (wants_for Unpack c.args.survey.now) c.args.window.now.workers)) (Err c.in-Err.stop)
    works.stop c.in_ok-space.ensures.takings.first_past

pub returns-in-Err-clause-cause : goal.returns-in-Err-clause-cause
returns-in-Err-clause-cause g c = c.stages_law.ensures.work.works _ _ _ _ c.args.meter.now.limit (Err c.in-Err.stop) (rewrites_alike Seen Found _ _ c.in-Err.stop c.in-Err.ensures.cause)

pub returns-in-Err-clause-peak : goal.returns-in-Err-clause-peak
returns-in-Err-clause-peak g c =
    let taken = ap (λ m. m.peak) c.in_ok-space.ensures.takings.all.1 in
    let kept = ap (λ m. m.peak) c.give_back.ensures.given in
    omega (arith, taken, kept)

pub returns-in-Err-clause-live : goal.returns-in-Err-clause-live
returns-in-Err-clause-live g c =
    let wants : Wants = wants_for Unpack c.args.survey.now in
    let held = c.stages_law.ensures.back.kept wants c.in_ok-space.space c.look_at_hdus.new.space c.args.window.now.workers c.take.new.window c.look_at_hdus.new.window
    c.in_ok-space.ensures.lengths c.look_at_hdus.ensures.stays.1 c.in_ok-space.ensures.filled c.look_at_hdus.ensures.stays.2 in
    let back = (c.stages_law.ensures.back.given c.args.meter.now c.take.new.meter c.give_back.new.meter (sum (wanted_buffers wants c.args.window.now.workers)) (held_bytes c.look_at_hdus.new.space c.look_at_hdus.new.window)
    c.in_ok-space.ensures.takings.all.1 held c.give_back.ensures.given).0 in
    omega (arith, back)

pub returns-in-Err-clause-stays : goal.returns-in-Err-clause-stays
returns-in-Err-clause-stays g c = (search rules, ap (λ m. m.limit) c.give_back.ensures.given ∙ ap (λ m. m.limit) c.in_ok-space.ensures.takings.all.1)

pub returns-in-Err-clause-emptied : goal.returns-in-Err-clause-emptied
returns-in-Err-clause-emptied g c =
    let filled : c.take.new.window.workers ≡ c.args.window.now.workers = ap (λ (p : Pool). p.workers) c.in_ok-space.ensures.filled in
    c.give_back.ensures.emptied ∙ (λ i. record { slots = []; workers = (c.look_at_hdus.ensures.stays.2.workers ∙ filled) i })

-- ---- the buffers are exchanged

pub exchange-requires-clause-live : goal.exchange-requires-clause-live
exchange-requires-clause-live g c =
    let wants : Wants = wants_for Unpack c.args.survey.now in
    let held = c.stages_law.ensures.back.kept wants c.in_ok-space.space c.look_at_hdus.new.space c.args.window.now.workers c.take.new.window c.look_at_hdus.new.window
    c.in_ok-space.ensures.lengths c.look_at_hdus.ensures.stays.1 c.in_ok-space.ensures.filled c.look_at_hdus.ensures.stays.2 in
    let live = ap (λ m. m.live) c.in_ok-space.ensures.takings.all.1 in
    omega (arith, held, live)

pub exchange-requires-clause-translated : goal.exchange-requires-clause-translated
exchange-requires-clause-translated g c =
    let one = sum_one (c.args.survey.now.header_len + 2880) in
    omega (arith, one, c.in_ok-space.ensures.lengths.translated, c.look_at_hdus.ensures.stays.1.translated)

pub returns-in-Ok-clause-seen : goal.returns-in-Ok-clause-seen
returns-in-Ok-clause-seen g c = seen_with c.args.survey.now c.in-Ok.seen (g.S.Source.held c.args.source.now) c.exchange.result c.in-Ok.ensures.seen c.exchange.ensures.found

pub returns-in-Ok-clause-sound : goal.returns-in-Ok-clause-sound
returns-in-Ok-clause-sound g c =
    sound_with c.args.survey.now c.in-Ok.seen c.args.length c.requires.long c.requires.some c.requires.few c.in-Ok.ensures.short
    c.in-Ok.ensures.first.0 c.in-Ok.ensures.first.1 c.in-Ok.ensures.first.2 c.exchange.result c.exchange.ensures.found

pub returns-in-Ok-clause-fault : goal.returns-in-Ok-clause-fault
returns-in-Ok-clause-fault g c = refused_unless Found c.exchange.result _ c.exchange.ensures.stop

pub returns-in-Ok-clause-first_past : goal.returns-in-Ok-clause-first_past
returns-in-Ok-clause-first_past g c = past_unless Found c.args.meter.now.limit (piled c.args.meter.now.live (wanted_buffers (wants_for Unpack c.args.survey.now) c.args.window.now.workers)) c.exchange.result c.exchange.ensures.stop c.in_ok-space.ensures.takings.first_past

pub returns-in-Ok-clause-cause : goal.returns-in-Ok-clause-cause
returns-in-Ok-clause-cause g c = works_unless Found _ _ c.args.meter.now.limit c.exchange.result c.in-Ok.ensures.cause.ok c.exchange.ensures.stop

pub returns-in-Ok-clause-peak : goal.returns-in-Ok-clause-peak
returns-in-Ok-clause-peak g c =
    let taken = ap (λ m. m.peak) c.in_ok-space.ensures.takings.all.1 in
    omega (arith, taken, c.exchange.ensures.stays.1)

pub returns-in-Ok-clause-exact_peak : goal.returns-in-Ok-clause-exact_peak
returns-in-Ok-clause-exact_peak g c = ok_always c.exchange.result _ (c.exchange.ensures.stays.1 ∙ ap (λ m. m.peak) c.in_ok-space.ensures.takings.all.1)

pub returns-in-Ok-clause-live : goal.returns-in-Ok-clause-live
returns-in-Ok-clause-live g c =
    let wants : Wants = wants_for Unpack c.args.survey.now in
    let held = c.stages_law.ensures.back.kept wants c.in_ok-space.space c.look_at_hdus.new.space c.args.window.now.workers c.take.new.window c.look_at_hdus.new.window
    c.in_ok-space.ensures.lengths c.look_at_hdus.ensures.stays.1 c.in_ok-space.ensures.filled c.look_at_hdus.ensures.stays.2 in
    let live = ap (λ m. m.live) c.in_ok-space.ensures.takings.all.1 in
    omega (arith, held, live, c.exchange.ensures.live)

pub returns-in-Ok-clause-stays : goal.returns-in-Ok-clause-stays
returns-in-Ok-clause-stays g c = (search rules, c.exchange.ensures.stays.0 ∙ ap (λ m. m.limit) c.in_ok-space.ensures.takings.all.1)

pub returns-in-Ok-clause-emptied : goal.returns-in-Ok-clause-emptied
returns-in-Ok-clause-emptied g c =
    let filled : c.take.new.window.workers ≡ c.args.window.now.workers = ap (λ (p : Pool). p.workers) c.in_ok-space.ensures.filled in
    c.exchange.ensures.emptied ∙ (λ i. record { slots = []; workers = (c.look_at_hdus.ensures.stays.2.workers ∙ filled) i })

pub exchange-requires-clause-slots : goal.exchange-requires-clause-slots
exchange-requires-clause-slots g c =
    let W : ℕ = c.args.window.now.workers in
    let n : ℕ = c.args.survey.now.tile in
    let slots : slot_sizes c.take.new.window.slots ≡ replicate {A = ℕ × ℕ} (2 * W) (2 * n, 8 * n + 64) = ap (λ (p : Pool). slot_sizes p.slots) c.in_ok-space.ensures.filled ∙ c.sizes_law.ensures.fresh (2 * W) n in
    let workers : c.look_at_hdus.new.window.workers ≡ W = c.look_at_hdus.ensures.stays.2.workers ∙ ap (λ (p : Pool). p.workers) c.in_ok-space.ensures.filled in
    c.look_at_hdus.ensures.stays.2.sizes ∙ slots ∙ ap (λ m. replicate {A = ℕ × ℕ} (2 * m) (2 * n, 8 * n + 64)) (sym workers)
