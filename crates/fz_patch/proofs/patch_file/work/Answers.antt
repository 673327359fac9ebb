-- The buffers were not given, or the work took no others; and what was taken comes back.
use Rattle.std.proofs.Common.{◌≡◌, inl, inr, ℕ, ◌+◌, ◌≤◌, max, List, length, Option, Some, None, Result, Ok, Err, sum, refl, sym, ap, ◌∙◌, subst, arith, rules}
use Rattle.std.specs.Prelude.{OnOk, false}
use Rattle.fz_base.specs.Buffer.{refilled}
use Rattle.fz_base.specs.Counts.{Tally}
use Rattle.fz_base.specs.Stop.{stop_of_short}
use Rattle.fz_base.specs.Takings.{TellsFirstPast, TellsShort, first_past, piled}
use Rattle.fz_base.specs.declared.failure.Short.TheVariants.{NoMemory as NoRoom}
use Rattle.fz_base.specs.declared.failure.Stop.{Stop}
use Rattle.fz_grid.specs.Arrays.{product}
use Rattle.fz_grid.specs.Grid.{tile_lengths}
use Rattle.fz_grid.specs.Region.{lengths_of}
use Rattle.fz_pool.specs.Window.{Pool}
use Rattle.fz_files.specs.Restored.{pixels_of}
use Rattle.fz_checks.specs.WorkBuffers.{work_buffers}
use Rattle.fz_job.specs.Workspace.{wanted_buffers}
use Rattle.fz_job.specs.declared.workspace.Wants.{Wants}
use Rattle.fz_job.specs.declared.workspace.Workspace.{Workspace}
use Rattle.fz_target.specs.Ends.{WorksInPlace}
use Rattle.fz_patch.specs.Clauses.{LeavesSafe, TellsPatchFault}
use Rattle.fz_patch.proofs.Beside.{keeps_same}
use Rattle.fz_patch.proofs.FramePatch.{over_short, refilled_len, short_untold}
use Rattle.fz_patch.proofs.FrameWork.{filled_slots, for_jobs, if_refused, meter_back, over_patches, past_patches, past_short, patches_work, still_held, works_short}
use Rattle.fz_patch.proofs.patch_file.work.Goals as goal

-- ---- no memory for the window

pub returns-in-Err-clause-safe : goal.returns-in-Err-clause-safe
returns-in-Err-clause-safe g c = for_jobs (g.D.Source.held c.args.store.now) (g.S.Source.held c.args.patch.now) c.args.target.now (λ job. LeavesSafe job (g.D.Source.held c.args.store.now) (g.D.Source.tally c.args.store.now).amended (g.D.Source.tally c.args.store.now).amended) (λ job f p is. inl (is, refl))

pub returns-in-Err-clause-first_fault : goal.returns-in-Err-clause-first_fault
returns-in-Err-clause-first_fault g c = for_jobs (g.D.Source.held c.args.store.now) (g.S.Source.held c.args.patch.now) c.args.target.now _ (λ job f p is. tt)

pub returns-in-Err-clause-unwritten : goal.returns-in-Err-clause-unwritten
returns-in-Err-clause-unwritten g c = λ refused. for_jobs (g.D.Source.held c.args.store.now) (g.S.Source.held c.args.patch.now) c.args.target.now (λ job f p. (g.D.Source.held c.args.store.now ≡ g.D.Source.held c.args.store.now) × (g.D.Source.tally c.args.store.now ≡ g.D.Source.tally c.args.store.now)) (λ job f p is. (refl, refl))

pub returns-in-Err-clause-unpassed : goal.returns-in-Err-clause-unpassed
returns-in-Err-clause-unpassed g c = inl (refl, refl)

pub returns-in-Err-clause-cause : goal.returns-in-Err-clause-cause
returns-in-Err-clause-cause g c = works_short {X = Unit {0}} (g.D.Source.tally c.args.store.now) (g.S.Source.tally c.args.patch.now) c.args.meter.now.limit NoRoom tt

-- ---- a buffer was not given

pub returns-in_err-space-clause-safe : goal.returns-in_err-space-clause-safe
returns-in_err-space-clause-safe g c = for_jobs (g.D.Source.held c.args.store.now) (g.S.Source.held c.args.patch.now) c.args.target.now (λ job. LeavesSafe job (g.D.Source.held c.args.store.now) (g.D.Source.tally c.args.store.now).amended (g.D.Source.tally c.args.store.now).amended) (λ job f p is. inl (is, refl))

pub returns-in_err-space-clause-first_fault : goal.returns-in_err-space-clause-first_fault
returns-in_err-space-clause-first_fault g c =
    let held : Option (List ℕ) = g.D.Source.held c.args.store.now in
    let given : Option (List ℕ) = g.S.Source.held c.args.patch.now in
    let stopped : c.from_residual.result ≡ Err (stop_of_short c.in_err-space.field-0.0) = search rules in
    for_jobs held given c.args.target.now _ (λ job f p is. subst (λ (r : Result (Unit {0}) Stop). TellsPatchFault job (Some f) (Some p) r) (sym stopped) (short_untold (Unit {0}) job (Some f) (Some p) c.in_err-space.field-0.0))

pub returns-in_err-space-clause-unwritten : goal.returns-in_err-space-clause-unwritten
returns-in_err-space-clause-unwritten g c = λ refused. for_jobs (g.D.Source.held c.args.store.now) (g.S.Source.held c.args.patch.now) c.args.target.now (λ job f p. (g.D.Source.held c.args.store.now ≡ g.D.Source.held c.args.store.now) × (g.D.Source.tally c.args.store.now ≡ g.D.Source.tally c.args.store.now)) (λ job f p is. (refl, refl))

pub returns-in_err-space-clause-unpassed : goal.returns-in_err-space-clause-unpassed
returns-in_err-space-clause-unpassed g c = inl (refl, refl)

pub returns-in_err-space-clause-over_limit : goal.returns-in_err-space-clause-over_limit
returns-in_err-space-clause-over_limit g c = over_short c.from_residual.result (refl, refl)

pub returns-in_err-space-clause-late : goal.returns-in_err-space-clause-late
returns-in_err-space-clause-late g c = if_refused c.from_residual.result (λ x. inl (refl, refl))

pub returns-in_err-space-clause-first_past : goal.returns-in_err-space-clause-first_past
returns-in_err-space-clause-first_past g c =
    let meter = c.args.meter.now in
    let target = c.args.target.now in
    let big : c.largest.result ≡ pixels_of target.image.plan 0 = c.largest.ensures.pixels ∙ (λ j. product (tile_lengths (lengths_of (c.grid.ensures.0 j)) (lengths_of (c.grid.ensures.1 j)) 0)) in
    let one : c.in-Ok.window.workers ≡ 1 = ap (λ (p : Pool). p.workers) c.in-Ok.ensures in
    let wants : Wants = record { header_len = 0; translates = false; tile = Some c.largest.result } in
    let buffers : wanted_buffers wants c.in-Ok.window.workers ≡ work_buffers 0 false (Some (pixels_of target.image.plan 0)) 1 = λ j. work_buffers 0 false (Some (big j)) (one j) in
    let stopped : c.from_residual.result ≡ Err (stop_of_short c.in_err-space.field-0.0) = search rules in
    let tells : TellsShort {X = Workspace} meter.limit (piled meter.live (work_buffers 0 false (Some (pixels_of target.image.plan 0)) 1)) (Err c.in_err-space.field-0.0) =
    subst (λ (ns : List ℕ). TellsShort {X = Workspace} meter.limit (piled meter.live ns) (Err c.in_err-space.field-0.0)) buffers c.in_err-space.ensures.takings.first_past in
    subst (λ (r : Result (Unit {0}) Stop). TellsFirstPast meter.limit (piled meter.live (work_buffers 0 false (Some (pixels_of target.image.plan 0)) 1)) r) (sym stopped)
    (past_short (Unit {0}) Workspace meter.limit (piled meter.live (work_buffers 0 false (Some (pixels_of target.image.plan 0)) 1)) c.in_err-space.field-0.0 tells)

pub returns-in_err-space-clause-peak : goal.returns-in_err-space-clause-peak
returns-in_err-space-clause-peak g c =
    let meter = c.args.meter.now in
    let target = c.args.target.now in
    let big : c.largest.result ≡ pixels_of target.image.plan 0 = c.largest.ensures.pixels ∙ (λ j. product (tile_lengths (lengths_of (c.grid.ensures.0 j)) (lengths_of (c.grid.ensures.1 j)) 0)) in
    let one : c.in-Ok.window.workers ≡ 1 = ap (λ (p : Pool). p.workers) c.in-Ok.ensures in
    let wants : Wants = record { header_len = 0; translates = false; tile = Some c.largest.result } in
    let buffers : wanted_buffers wants c.in-Ok.window.workers ≡ work_buffers 0 false (Some (pixels_of target.image.plan 0)) 1 = λ j. work_buffers 0 false (Some (big j)) (one j) in
    let low : c.take.new.meter.peak ≤ max meter.peak (meter.live + sum (wanted_buffers wants c.in-Ok.window.workers)) = c.in_err-space.ensures.takings.peak in
    rw buffers at low

pub returns-in_err-space-clause-cause : goal.returns-in_err-space-clause-cause
returns-in_err-space-clause-cause g c =
    let s : Tally = g.D.Source.tally c.args.store.now in
    let p : Tally = g.S.Source.tally c.args.patch.now in
    let stopped : c.from_residual.result ≡ Err (stop_of_short c.in_err-space.field-0.0) = search rules in
    subst (λ (r : Result (Unit {0}) Stop). WorksInPlace s s p p c.args.meter.now.limit r) (sym stopped) (works_short {X = Unit {0}} s p c.args.meter.now.limit c.in_err-space.field-0.0 c.in_err-space.ensures.takings.told)

-- ---- the work

pub write_patch-answer-requires-clause-window : goal.write_patch-answer-requires-clause-window
write_patch-answer-requires-clause-window g c = λ lifetimes lives.
    let target = c.args.target.now in
    let big : c.largest.result ≡ pixels_of target.image.plan 0 = c.largest.ensures.pixels ∙ (λ j. product (tile_lengths (lengths_of (c.grid.ensures.0 j)) (lengths_of (c.grid.ensures.1 j)) 0)) in
    filled_slots c.sizes_law.ensures.fresh c.in-Ok.window.workers c.largest.result (pixels_of target.image.plan 0) c.take.new.window big c.in_ok-space.ensures.filled

pub write_patch-answer-requires-clause-copy : goal.write_patch-answer-requires-clause-copy
write_patch-answer-requires-clause-copy g c = λ lifetimes lives. let long : length c.in_ok-space.space.copy ≡ 65536 = c.in_ok-space.ensures.lengths.copy in omega (arith, long, ap length c.as_mut_slice-copy.ensures.value)

pub give_back-requires : goal.give_back-requires
give_back-requires g c =
    let space : Workspace = c.in_ok-space.space in
    let wants : Wants = record { header_len = 0; translates = false; tile = Some c.largest.result } in
    let copy : List ℕ = refilled space.copy c.write_patch-answer.new.copy in
    let space' : Workspace = record { header = space.header; translated = space.translated; copy = copy } in
    let held = still_held c.workspace_law.ensures.held wants space space' c.in-Ok.window.workers c.take.new.window c.write_patch-answer.new.window c.in_ok-space.ensures.lengths
    (record { header = refl; translated = refl; copy = refilled_len space.copy c.write_patch-answer.new.copy }) c.in_ok-space.ensures.filled c.write_patch-answer.ensures.window in
    let live = ap (λ m. m.live) c.in_ok-space.ensures.takings.all.1 in
    omega (arith, held, live)

pub returns-clause-unpassed : goal.returns-clause-unpassed
returns-clause-unpassed g c =
    let meter = c.args.meter.now in
    let target = c.args.target.now in
    let big : c.largest.result ≡ pixels_of target.image.plan 0 =
    c.largest.ensures.pixels ∙ (λ j. product (tile_lengths (lengths_of (c.grid.ensures.0 j)) (lengths_of (c.grid.ensures.1 j)) 0)) in
    let one : c.in-Ok.window.workers ≡ 1 = ap (λ (p : Pool). p.workers) c.in-Ok.ensures in
    let wants : Wants = record { header_len = 0; translates = false; tile = Some c.largest.result } in
    let buffers : wanted_buffers wants c.in-Ok.window.workers ≡ work_buffers 0 false (Some (pixels_of target.image.plan 0)) 1 =
    λ j. work_buffers 0 false (Some (big j)) (one j) in
    inr (subst (λ (ns : List ℕ). first_past meter.limit (piled meter.live ns) ≡ None) buffers c.in_ok-space.ensures.takings.first_past)

pub returns-clause-over_limit : goal.returns-clause-over_limit
returns-clause-over_limit g c = over_patches _ _ _ _ _ c.write_patch-answer.result c.write_patch-answer.ensures.cause.stop

pub returns-clause-first_past : goal.returns-clause-first_past
returns-clause-first_past g c =
    let meter = c.args.meter.now in
    let target = c.args.target.now in
    let big : c.largest.result ≡ pixels_of target.image.plan 0 = c.largest.ensures.pixels ∙ (λ j. product (tile_lengths (lengths_of (c.grid.ensures.0 j)) (lengths_of (c.grid.ensures.1 j)) 0)) in
    let one : c.in-Ok.window.workers ≡ 1 = ap (λ (p : Pool). p.workers) c.in-Ok.ensures in
    let wants : Wants = record { header_len = 0; translates = false; tile = Some c.largest.result } in
    let buffers : wanted_buffers wants c.in-Ok.window.workers ≡ work_buffers 0 false (Some (pixels_of target.image.plan 0)) 1 = λ j. work_buffers 0 false (Some (big j)) (one j) in
    past_patches _ _ _ _ meter.limit (piled meter.live (work_buffers 0 false (Some (pixels_of target.image.plan 0)) 1)) c.write_patch-answer.result c.write_patch-answer.ensures.cause.stop
    (subst (λ (ns : List ℕ). first_past meter.limit (piled meter.live ns) ≡ None) buffers c.in_ok-space.ensures.takings.first_past)

pub returns-clause-peak : goal.returns-clause-peak
returns-clause-peak g c =
    let target = c.args.target.now in
    let big : c.largest.result ≡ pixels_of target.image.plan 0 = c.largest.ensures.pixels ∙ (λ j. product (tile_lengths (lengths_of (c.grid.ensures.0 j)) (lengths_of (c.grid.ensures.1 j)) 0)) in
    let one : c.in-Ok.window.workers ≡ 1 = ap (λ (p : Pool). p.workers) c.in-Ok.ensures in
    let space : Workspace = c.in_ok-space.space in
    let wants : Wants = record { header_len = 0; translates = false; tile = Some c.largest.result } in
    let buffers : wanted_buffers wants c.in-Ok.window.workers ≡ work_buffers 0 false (Some (pixels_of target.image.plan 0)) 1 = λ j. work_buffers 0 false (Some (big j)) (one j) in
    let total : sum (wanted_buffers wants c.in-Ok.window.workers) ≡ sum (work_buffers 0 false (Some (pixels_of target.image.plan 0)) 1) = ap sum buffers in
    let copy : List ℕ = refilled space.copy c.write_patch-answer.new.copy in
    let space' : Workspace = record { header = space.header; translated = space.translated; copy = copy } in
    let held = still_held c.workspace_law.ensures.held wants space space' c.in-Ok.window.workers c.take.new.window c.write_patch-answer.new.window c.in_ok-space.ensures.lengths
    (record { header = refl; translated = refl; copy = refilled_len space.copy c.write_patch-answer.new.copy }) c.in_ok-space.ensures.filled c.write_patch-answer.ensures.window in
    let reached = (meter_back c.args.meter.now c.take.new.meter c.give_back.new.meter _ _ c.in_ok-space.ensures.takings.all.1 held c.give_back.ensures.given).2 in
    omega (arith, reached, total)

on_any : {X P : Type 0} (r : Result X Stop) → P → OnOk r P
on_any (Ok x) p = p
on_any (Err stop) p = tt

pub returns-clause-exact_peak : goal.returns-clause-exact_peak
returns-clause-exact_peak g c =
    let target = c.args.target.now in
    let big : c.largest.result ≡ pixels_of target.image.plan 0 = c.largest.ensures.pixels ∙ (λ j. product (tile_lengths (lengths_of (c.grid.ensures.0 j)) (lengths_of (c.grid.ensures.1 j)) 0)) in
    let one : c.in-Ok.window.workers ≡ 1 = ap (λ (p : Pool). p.workers) c.in-Ok.ensures in
    let space : Workspace = c.in_ok-space.space in
    let wants : Wants = record { header_len = 0; translates = false; tile = Some c.largest.result } in
    let buffers : wanted_buffers wants c.in-Ok.window.workers ≡ work_buffers 0 false (Some (pixels_of target.image.plan 0)) 1 = λ j. work_buffers 0 false (Some (big j)) (one j) in
    let total : sum (wanted_buffers wants c.in-Ok.window.workers) ≡ sum (work_buffers 0 false (Some (pixels_of target.image.plan 0)) 1) = ap sum buffers in
    let copy : List ℕ = refilled space.copy c.write_patch-answer.new.copy in
    let space' : Workspace = record { header = space.header; translated = space.translated; copy = copy } in
    let held = still_held c.workspace_law.ensures.held wants space space' c.in-Ok.window.workers c.take.new.window c.write_patch-answer.new.window c.in_ok-space.ensures.lengths
    (record { header = refl; translated = refl; copy = refilled_len space.copy c.write_patch-answer.new.copy }) c.in_ok-space.ensures.filled c.write_patch-answer.ensures.window in
    let reached = (meter_back c.args.meter.now c.take.new.meter c.give_back.new.meter _ _ c.in_ok-space.ensures.takings.all.1 held c.give_back.ensures.given).2 in
    on_any c.write_patch-answer.result (omega (arith, reached, total))

pub returns-clause-stays : goal.returns-clause-stays
returns-clause-stays g c =
    let space : Workspace = c.in_ok-space.space in
    let wants : Wants = record { header_len = 0; translates = false; tile = Some c.largest.result } in
    let copy : List ℕ = refilled space.copy c.write_patch-answer.new.copy in
    let space' : Workspace = record { header = space.header; translated = space.translated; copy = copy } in
    let held = still_held c.workspace_law.ensures.held wants space space' c.in-Ok.window.workers c.take.new.window c.write_patch-answer.new.window c.in_ok-space.ensures.lengths
    (record { header = refl; translated = refl; copy = refilled_len space.copy c.write_patch-answer.new.copy }) c.in_ok-space.ensures.filled c.write_patch-answer.ensures.window in (
      search rules,
      search rules,
      search rules,
      (meter_back c.args.meter.now c.take.new.meter c.give_back.new.meter _ _ c.in_ok-space.ensures.takings.all.1 held c.give_back.ensures.given).0,
      (meter_back c.args.meter.now c.take.new.meter c.give_back.new.meter _ _ c.in_ok-space.ensures.takings.all.1 held c.give_back.ensures.given).1,
    )

pub returns-clause-risen : goal.returns-clause-risen
returns-clause-risen g c =
    let space : Workspace = c.in_ok-space.space in
    let wants : Wants = record { header_len = 0; translates = false; tile = Some c.largest.result } in
    let copy : List ℕ = refilled space.copy c.write_patch-answer.new.copy in
    let space' : Workspace = record { header = space.header; translated = space.translated; copy = copy } in
    let held = still_held c.workspace_law.ensures.held wants space space' c.in-Ok.window.workers c.take.new.window c.write_patch-answer.new.window c.in_ok-space.ensures.lengths
    (record { header = refl; translated = refl; copy = refilled_len space.copy c.write_patch-answer.new.copy }) c.in_ok-space.ensures.filled c.write_patch-answer.ensures.window in
    let reached = (meter_back c.args.meter.now c.take.new.meter c.give_back.new.meter _ _ c.in_ok-space.ensures.takings.all.1 held c.give_back.ensures.given).2 in
    omega (arith, reached)

pub returns-clause-cause : goal.returns-clause-cause
returns-clause-cause g c = patches_work _ _ _ _ c.args.meter.now.limit c.write_patch-answer.result c.write_patch-answer.ensures.cause

-- ---- what is kept

pub returns-in-Err-clause-kept : goal.returns-in-Err-clause-kept
returns-in-Err-clause-kept g c = keeps_same _ (g.D.Source.held c.args.store.now) _ (g.D.Source.tally c.args.store.now).amended.writes _ refl refl

pub returns-in_err-space-clause-kept : goal.returns-in_err-space-clause-kept
returns-in_err-space-clause-kept g c = keeps_same _ (g.D.Source.held c.args.store.now) _ (g.D.Source.tally c.args.store.now).amended.writes _ refl refl

pub returns-clause-kept : goal.returns-clause-kept
returns-clause-kept g c = c.write_patch-answer.ensures.kept

pub returns-clause-pixels_read : goal.returns-clause-pixels_read
returns-clause-pixels_read g c = c.write_patch-answer.ensures.pixels_read
