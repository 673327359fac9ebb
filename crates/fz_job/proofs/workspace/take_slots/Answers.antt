-- The slots, and then the copy buffer.
use Rattle.std.proofs.Common.{rules, ◌≡◌, ℕ, ◌*◌, [], ◌∷◌, ◌++◌, List, Result, Err, sym, subst, ap, ◌∙◌, arith}
use Rattle.fz_base.specs.JobBuffers.{slots_buffers}
use Rattle.fz_base.specs.Meter.{handed_back}
use Rattle.fz_base.specs.declared.buffer.Bytes.{Bytes}
use Rattle.fz_base.specs.declared.failure.Short.{Short}
use Rattle.fz_job.specs.Takes.{Takes}
use Rattle.fz_job.proofs.WorkBounds.{asked_filled}
use Rattle.fz_job.proofs.WorkTakings.{both_taken, first_refused, second_refused}
use Rattle.fz_job.proofs.workspace.take_slots.Goals as goal

pub returns-in_err-fill-clause-takings : goal.returns-in_err-fill-clause-takings
returns-in_err-fill-clause-takings c =
    let slots : List ℕ = slots_buffers c.args.pixels (2 * c.args.window.now.workers) in
    let stopped : c.from_residual.result ≡ Err c.in_err-fill.field-0.0 = search rules in
    subst (λ (r : Result Bytes Short). Takes (slots ++ 65536 ∷ []) c.args.meter.now c.fill.new.meter r) (sym stopped)
    (first_refused c.takings_law.ensures.first slots (65536 ∷ []) c.args.meter.now c.fill.new.meter c.in_err-fill.field-0.0 c.in_err-fill.ensures.takings)

pub empty-requires : goal.empty-requires
empty-requires c =
    let asked = asked_filled c.sizes_law.ensures.asked c.args.pixels c.args.window.now.workers c.fill.new.window c.in_ok-fill.ensures.filled in
    let live = ap (λ g. g.live) c.in_ok-fill.ensures.takings.all.1 in
    let same = c.in-Err.ensures.takings.given_back in
    omega (arith, asked, live, same)

pub returns-in-Ok-clause-takings : goal.returns-in-Ok-clause-takings
returns-in-Ok-clause-takings c =
    let slots : List ℕ = slots_buffers c.args.pixels (2 * c.args.window.now.workers) in
    both_taken c.takings_law.ensures.second slots (65536 ∷ []) c.args.meter.now c.fill.new.meter c.buffer.new.meter _ c.in-Ok.copy c.in-Ok.copy c.in_ok-fill.ensures.takings c.in-Ok.ensures.takings

pub returns-in-Err-clause-takings : goal.returns-in-Err-clause-takings
returns-in-Err-clause-takings c =
    let slots : List ℕ = slots_buffers c.args.pixels (2 * c.args.window.now.workers) in
    let asked = asked_filled c.sizes_law.ensures.asked c.args.pixels c.args.window.now.workers c.fill.new.window c.in_ok-fill.ensures.filled in
    second_refused c.takings_law.ensures.second slots (65536 ∷ []) c.args.meter.now c.fill.new.meter c.buffer.new.meter c.empty.new.meter _ c.in-Err.short c.in_ok-fill.ensures.takings c.in-Err.ensures.takings
    (c.empty.ensures.given ∙ ap (handed_back c.buffer.new.meter) asked)
