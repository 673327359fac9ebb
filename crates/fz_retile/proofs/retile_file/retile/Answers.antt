-- The promises are those of the look if it stopped, and otherwise those of `pack`, whose source is the view.
use Rattle.std.proofs.Common.{◌≡◌, ℕ, ◌≤◌, List, [], refl, sym, ap, ◌∙◌, subst, arith, rules}
use Rattle.std.specs.Prelude.{max, true, Option, Some, None, IfSome, Result, Ok, Err, OnOk, IsErrOf}
use Rattle.std.specs.Option.{ForSome}
use Rattle.fz_base.specs.Counts.{CountsKept, Tally, nameless}
use Rattle.fz_base.specs.Meter.{Gauge}
use Rattle.fz_base.specs.Names.{NamesOnce}
use Rattle.fz_base.specs.Ranges.{LogsIn}
use Rattle.fz_base.specs.Told.{StaysTold}
use Rattle.fz_base.specs.declared.failure.Stop.{Stop}
use Rattle.fz_block.specs.declared.axes.Axes.{Axes}
use Rattle.fz_base.specs.Takings.{highest}
use Rattle.fz_base.specs.declared.failure.Stop.TheVariants.{OverLimit}
use Rattle.fz_head.specs.Planned.{IsTile}
use Rattle.fz_pool.specs.Window.{Pool}
use Rattle.fz_retile.specs.Views.{restored_from}
use Rattle.fz_look.specs.declared.looked.Looked.{Looked}
use Rattle.fz_files.specs.Buffers.{file_takings, own_takings}
use Rattle.fz_files.specs.Touched.{touched_by}
use Rattle.fz_files.specs.declared.job.Job.TheVariants.{Retile, Unpack}
use Rattle.fz_job.specs.Clauses.{IsShutOrWhole, KeepsSource, TellsFirstFault}
use Rattle.fz_retile.specs.Retiles.{AnswersBoth, HasRetileCause, HoldsRetiled, StaysUnmadeBoth}
use Rattle.fz_retile.proofs.Bounds.{answers_settled, exact_held, packing_peak}
use Rattle.fz_retile.proofs.Limits.{either_settled, end_settled, faulty_both, first_both, names_settled, over_settled, past_both, refused_settled}
use Rattle.fz_retile.proofs.Looking.{look_answered, look_cause, look_fault, look_packing, look_unmade, look_view, touched_so, view_closed}
use Rattle.fz_retile.proofs.Moving.{moved}
use Rattle.fz_retile.proofs.Settling.{IsAccepted, Keeps, accepted, done_cause, first_fault, keeps, on_done, output, read_cause, refused_cause, whole_done, whole_end, write_cause}
use Rattle.fz_retile.proofs.retile_file.retile.Goals as goal

few_axes : (tile : Option Axes) → IsTile tile → IfSome tile (λ a. a.n ≤ 9)
few_axes None is = tt
few_axes (Some a) is = is.1

-- a look that was done did not stop
not_looked : {l : Looked} {limit : ℕ} → IsErrOf {T = Looked} (Ok l) (OverLimit 0 2880 limit) → ⊥
not_looked is = absurd cc

never_more : (held : Option (List ℕ)) (more : ℕ) → ForSome held (λ g. more ≡ 0) → IfSome held (λ g. more ≡ 0)
never_more None more is = tt
never_more (Some g) more is = is g refl

always : (r : Result (Unit {0}) Stop) (P : Type 0) → P → OnOk r P
always (Ok x) P is = is
always (Err stop) P is = tt

-- ---- the look stopped

pub returns-in_err-looked-clause-first_fault : goal.returns-in_err-looked-clause-first_fault
returns-in_err-looked-clause-first_fault g c =
    let stopped : c.from_residual.result ≡ Err c.in_err-looked.field-0.0 = search rules in
    subst (λ (r : Result (Unit {0}) Stop). TellsFirstFault (Retile c.args.options.now) (g.S.Source.held c.args.source.now) r) (sym stopped)
    (look_fault c.args.options.now (g.S.Source.held c.args.source.now) c.in_err-looked.field-0.0 c.in_err-looked.ensures.first_fault)

pub returns-in_err-looked-clause-answered : goal.returns-in_err-looked-clause-answered
returns-in_err-looked-clause-answered g c =
    let stopped : c.from_residual.result ≡ Err c.in_err-looked.field-0.0 = search rules in
    let sink : Tally = nameless (g.K.Sink.tally c.args.sink.now) in
    subst (λ (r : Result (Unit {0}) Stop). AnswersBoth c.args.options.now (g.S.Source.held c.args.source.now) (g.S.Source.tally c.args.source.now) (g.S.Source.tally c.look.new.source) sink sink
    c.args.view.now.limit c.args.meter.now.limit c.args.window.now.workers r) (sym stopped)
    (look_answered c.takings_law.ensures.within c.buffers_law.ensures.bounded c.args.options.now (g.S.Source.held c.args.source.now) (g.S.Source.tally c.args.source.now) (g.S.Source.tally c.look.new.source) sink
    c.args.view.now.limit c.args.meter.now.limit c.args.window.now.workers c.in_err-looked.field-0.0 c.in_err-looked.ensures.cause)

pub returns-in_err-looked-clause-cause : goal.returns-in_err-looked-clause-cause
returns-in_err-looked-clause-cause g c =
    let stopped : c.from_residual.result ≡ Err c.in_err-looked.field-0.0 = search rules in
    let sink : Tally = nameless (g.K.Sink.tally c.args.sink.now) in
    subst (λ (r : Result (Unit {0}) Stop). HasRetileCause c.args.options.now (g.S.Source.held c.args.source.now) (g.S.Source.tally c.args.source.now) (g.S.Source.tally c.look.new.source) sink sink
    c.args.view.now.limit c.args.meter.now.limit c.args.window.now.workers r) (sym stopped)
    (look_cause c.first_fault_law.ensures.only c.args.options.now (g.S.Source.held c.args.source.now) (g.S.Source.tally c.args.source.now) (g.S.Source.tally c.look.new.source) sink
    c.args.view.now.limit c.args.meter.now.limit c.args.window.now.workers c.in_err-looked.field-0.0 c.in_err-looked.ensures.cause c.in_err-looked.ensures.first_fault)

pub returns-in_err-looked-clause-unmade : goal.returns-in_err-looked-clause-unmade
returns-in_err-looked-clause-unmade g c =
    let stopped : c.from_residual.result ≡ Err c.in_err-looked.field-0.0 = search rules in
    subst (λ (r : Result (Unit {0}) Stop). StaysUnmadeBoth c.args.options.now (g.S.Source.held c.args.source.now) c.args.view.now.limit c.args.meter.now.limit c.args.window.now.workers
    ((g.K.Sink.created c.args.sink.now ≡ g.K.Sink.created c.args.sink.now) × (g.K.Sink.contents c.args.sink.now ≡ g.K.Sink.contents c.args.sink.now)) r) (sym stopped)
    (look_unmade c.args.options.now (g.S.Source.held c.args.source.now) c.args.view.now.limit c.args.meter.now.limit c.args.window.now.workers _ c.in_err-looked.field-0.0 (refl, refl))

pub returns-in_err-looked-clause-buffers : goal.returns-in_err-looked-clause-buffers
returns-in_err-looked-clause-buffers g c =
    look_packing c.args.options.now (g.S.Source.held c.args.source.now) c.args.meter.now c.args.window.now c.look.new.window c.requires.nothing_live c.in_err-looked.ensures.buffers.window_is

pub returns-in_err-looked-clause-view_buffers : goal.returns-in_err-looked-clause-view_buffers
returns-in_err-looked-clause-view_buffers g c =
    look_view (g.S.Source.held c.args.source.now) c.args.view.now c.look.new.meter c.args.window.now c.look.new.window c.in_err-looked.field-0.0 c.in_err-looked.ensures.buffers

pub returns-in_err-looked-clause-touched : goal.returns-in_err-looked-clause-touched
returns-in_err-looked-clause-touched g c = touched_so c.args.options.now (g.S.Source.held c.args.source.now) _ _ c.look.ensures.touched

-- ---- the view was handed to `pack`

pub new-plain-requires-clause-near : goal.new-plain-requires-clause-near
new-plain-requires-clause-near g c = g.met.S.Source.near c.look.new.source c.args.length (c.look.ensures.source.attached_is ∙ c.requires.attached)

pub new-plain-requires-clause-asked : goal.new-plain-requires-clause-asked
new-plain-requires-clause-asked g c = few_axes c.args.options.now.tile c.requires.options.tile

pub returns-clause-output : goal.returns-clause-output
returns-clause-output g c =
    let held : Option (List ℕ) = g.S.Source.held c.args.source.now in
    let there : g.S.Source.held c.new-plain.result.inner.now ≡ held = ap g.S.Source.held c.new-plain.ensures.inner ∙ c.look.ensures.source.held_is in
    subst (λ k. OnOk c.settled.result (HoldsRetiled c.args.options.now held (g.K.Sink.contents k))) {x = c.in_view-ended.result.lent.inner.now} (search rules)
    (subst (λ (r : Result (Unit {0}) Stop). OnOk r (HoldsRetiled c.args.options.now held (g.K.Sink.contents c.in_view-ended.result.lent.inner.now))) (sym c.settled.ensures)
    (output c.restored_law.ensures.stands c.args.options.now held (g.K.Sink.contents c.in_view-ended.result.lent.inner.now) c.in_view-ended.new.answer c.failed-failed.result c.later-later.result
    (accepted held c.in_ok-looked.looked c.in_ok-looked.ensures.looked) (rw there at c.in_view-ended.ensures.output)))

pub returns-clause-first_fault : goal.returns-clause-first_fault
returns-clause-first_fault g c =
    let held : Option (List ℕ) = g.S.Source.held c.args.source.now in
    let there : g.S.Source.held c.new-plain.result.inner.now ≡ held = ap g.S.Source.held c.new-plain.ensures.inner ∙ c.look.ensures.source.held_is in
    let after : g.S.Source.held c.in_view-ended.result.view.inner.now ≡ held = c.in_view-ended.ensures.held ∙ there in
    subst (λ (r : Result (Unit {0}) Stop). TellsFirstFault (Retile c.args.options.now) held r) (sym c.settled.ensures)
    (first_fault c.args.options.now held c.in_view-ended.new.answer c.failed-failed.result c.later-later.result
    (accepted held c.in_ok-looked.looked c.in_ok-looked.ensures.looked) (rw after at c.later-later.ensures.never) (rw there at c.in_view-ended.ensures.first_fault))

pub returns-clause-answered : goal.returns-clause-answered
returns-clause-answered g c =
    let workers : c.look.new.window.workers ≡ c.args.window.now.workers = ap (λ (w : Pool). w.workers) c.in_ok-looked.ensures.buffers.window_is in
    let held : Option (List ℕ) = g.S.Source.held c.args.source.now in
    let there : g.S.Source.held c.new-plain.result.inner.now ≡ held = ap g.S.Source.held c.new-plain.ensures.inner ∙ c.look.ensures.source.held_is in
    let after : g.S.Source.held c.in_view-ended.result.view.inner.now ≡ held = c.in_view-ended.ensures.held ∙ there in
    let own : c.new-plain.result.more ≡ 0 = c.new-plain.ensures.none.0 in
    let looked : g.S.Source.tally c.look.new.source ≡ g.S.Source.tally c.args.source.now = c.in_ok-looked.ensures.cause.done in
    let handed : g.S.Source.tally c.new-plain.result.inner.now ≡ g.S.Source.tally c.args.source.now = ap g.S.Source.tally c.new-plain.ensures.inner ∙ looked in
    let began : g.S.Source.tally c.in_view-ended.result.view.start.value ≡ g.S.Source.tally c.args.source.now = c.in_view-ended.ensures.tally ∙ ap g.S.Source.tally (c.new-plain.ensures.start ∙ c.of-start.ensures) in
    moved (λ s k. AnswersBoth c.args.options.now held (g.S.Source.tally c.args.source.now) (g.S.Source.tally s) (nameless (g.K.Sink.tally c.args.sink.now)) (nameless (g.K.Sink.tally k)) c.args.view.now.limit c.args.meter.now.limit c.args.window.now.workers c.settled.result) {a = c.in_view-ended.result.view.inner.now} {b = c.in_view-ended.result.lent.inner.now} (search rules) (search rules)
    (subst (λ (r : Result (Unit {0}) Stop). AnswersBoth c.args.options.now held (g.S.Source.tally c.args.source.now) (g.S.Source.tally c.in_view-ended.result.view.inner.now) (nameless (g.K.Sink.tally c.args.sink.now))
    (nameless (g.K.Sink.tally c.in_view-ended.result.lent.inner.now)) c.args.view.now.limit c.args.meter.now.limit c.args.window.now.workers r) (sym c.settled.ensures)
    (answers_settled c.buffers_law.ensures.monotone c.args.options.now c.args.window.now.workers (g.S.Source.tally c.args.source.now) (g.S.Source.tally c.in_view-ended.result.view.inner.now) (nameless (g.K.Sink.tally c.args.sink.now))
    (nameless (g.K.Sink.tally c.in_view-ended.result.lent.inner.now)) c.in_view-ended.result.view.more c.args.view.now.limit c.args.meter.now.limit held c.in_view-ended.new.answer c.failed-failed.result c.later-later.result
    (accepted held c.in_ok-looked.looked c.in_ok-looked.ensures.looked) (never_more held c.in_view-ended.result.view.more (rw after at c.in_view-ended.result.view.refusals.never)) (λ e. rw began at (c.failed-failed.ensures.rose e))
    (rw (there, own, handed, workers) at c.in_view-ended.ensures.answered)))

pub returns-clause-cause : goal.returns-clause-cause
returns-clause-cause g c =
    let workers : c.look.new.window.workers ≡ c.args.window.now.workers = ap (λ (w : Pool). w.workers) c.in_ok-looked.ensures.buffers.window_is in
    let held : Option (List ℕ) = g.S.Source.held c.args.source.now in
    let there : g.S.Source.held c.new-plain.result.inner.now ≡ held = ap g.S.Source.held c.new-plain.ensures.inner ∙ c.look.ensures.source.held_is in
    let after : g.S.Source.held c.in_view-ended.result.view.inner.now ≡ held = c.in_view-ended.ensures.held ∙ there in
    let own : c.new-plain.result.more ≡ 0 = c.new-plain.ensures.none.0 in
    let looked : g.S.Source.tally c.look.new.source ≡ g.S.Source.tally c.args.source.now = c.in_ok-looked.ensures.cause.done in
    let handed : g.S.Source.tally c.new-plain.result.inner.now ≡ g.S.Source.tally c.args.source.now = ap g.S.Source.tally c.new-plain.ensures.inner ∙ looked in
    let began : g.S.Source.tally c.in_view-ended.result.view.start.value ≡ g.S.Source.tally c.args.source.now = c.in_view-ended.ensures.tally ∙ ap g.S.Source.tally (c.new-plain.ensures.start ∙ c.of-start.ensures) in
    let source : Tally = g.S.Source.tally c.args.source.now in
    let source' : Tally = g.S.Source.tally c.in_view-ended.result.view.inner.now in
    let sink : Tally = nameless (g.K.Sink.tally c.args.sink.now) in
    let sink' : Tally = nameless (g.K.Sink.tally c.in_view-ended.result.lent.inner.now) in
    let r = c.in_view-ended.new.answer in
    let failed = c.failed-failed.result in
    let later = c.later-later.result in
    let k : Keeps source source' sink sink' c.in_view-ended.result.view.more failed later r =
    keeps source source' sink sink' c.in_view-ended.result.view.more 0 failed later r (restored_from held) c.args.meter.now.limit c.args.window.now.workers c.args.options.now refl
    (λ e. c.failed-failed.ensures.clean e ∙ began) (λ e. rw began at (c.failed-failed.ensures.rose e)) c.later-later.ensures.some (rw (there, own, handed, workers) at c.in_view-ended.ensures.cause) c.in_view-ended.ensures.unwritten in
    moved (λ s k. HasRetileCause c.args.options.now held source (g.S.Source.tally s) sink (nameless (g.K.Sink.tally k)) c.args.view.now.limit c.args.meter.now.limit c.args.window.now.workers c.settled.result) {a = c.in_view-ended.result.view.inner.now} {b = c.in_view-ended.result.lent.inner.now} (search rules) (search rules)
    (subst (λ (q : Result (Unit {0}) Stop). HasRetileCause c.args.options.now held source source' sink sink' c.args.view.now.limit c.args.meter.now.limit c.args.window.now.workers q) (sym c.settled.ensures)
    (record {
      done = done_cause source source' sink sink' c.in_view-ended.result.view.more r failed later k;
      refused = refused_cause source source' sink sink' c.in_view-ended.result.view.more r failed later k;
      read_fault = read_cause source source' sink sink' c.in_view-ended.result.view.more r failed later k;
      write_fault = write_cause source source' sink sink' c.in_view-ended.result.view.more r failed later k;
      over_limit = either_settled c.args.view.now.limit c.args.meter.now.limit _ r failed later (rw workers at c.in_view-ended.ensures.cause.over_limit);
      first_past = first_both c.args.options.now c.args.window.now.workers c.args.view.now.limit c.args.meter.now.limit held _ r failed later (accepted held c.in_ok-looked.looked c.in_ok-looked.ensures.looked)
          (rw after at c.later-later.ensures.never) c.in_ok-looked.ensures.cause.first_past (rw workers at c.in_view-ended.ensures.cause.over_limit) (rw (there, workers) at c.in_view-ended.ensures.cause.first_past);
      block = λ low. absurd (not_looked (c.in_ok-looked.ensures.cause.block low).0);
    }))

pub returns-clause-names : goal.returns-clause-names
returns-clause-names g c =
    subst (λ k. NamesOnce c.args.name.now (g.K.Sink.tally c.args.sink.now).names (g.K.Sink.tally k).names c.settled.result) {x = c.in_view-ended.result.lent.inner.now} (search rules)
    (subst (λ (r : Result (Unit {0}) Stop). NamesOnce c.args.name.now (g.K.Sink.tally c.args.sink.now).names (g.K.Sink.tally c.in_view-ended.result.lent.inner.now).names r) (sym c.settled.ensures)
    (names_settled c.args.name.now _ _ c.in_view-ended.new.answer c.failed-failed.result c.later-later.result c.in_view-ended.ensures.names))

pub returns-clause-first_byte : goal.returns-clause-first_byte
returns-clause-first_byte g c =
    let held : Option (List ℕ) = g.S.Source.held c.args.source.now in
    let there : g.S.Source.held c.new-plain.result.inner.now ≡ held = ap g.S.Source.held c.new-plain.ensures.inner ∙ c.look.ensures.source.held_is in
    let contents : Option (List ℕ) = g.K.Sink.contents c.in_view-ended.result.lent.inner.now in
    let fits : IfSome held IsAccepted = accepted held c.in_ok-looked.looked c.in_ok-looked.ensures.looked in
    subst (λ k. IsShutOrWhole (g.K.Sink.contents k) (HoldsRetiled c.args.options.now held (g.K.Sink.contents k)) c.settled.result) {x = c.in_view-ended.result.lent.inner.now} (search rules)
    (subst (λ (r : Result (Unit {0}) Stop). IsShutOrWhole contents (HoldsRetiled c.args.options.now held contents) r) (sym c.settled.ensures)
    (end_settled contents (HoldsRetiled c.args.options.now held contents) c.in_view-ended.new.answer c.failed-failed.result c.later-later.result
    (whole_done c.restored_law.ensures.stands c.args.options.now held contents c.in_view-ended.new.answer fits (rw there at c.in_view-ended.ensures.output))
    (whole_end c.restored_law.ensures.stands c.args.options.now held contents c.in_view-ended.new.answer fits (rw there at c.in_view-ended.ensures.first_byte))))

pub returns-clause-unmade : goal.returns-clause-unmade
returns-clause-unmade g c =
    let workers : c.look.new.window.workers ≡ c.args.window.now.workers = ap (λ (w : Pool). w.workers) c.in_ok-looked.ensures.buffers.window_is in
    let held : Option (List ℕ) = g.S.Source.held c.args.source.now in
    let there : g.S.Source.held c.new-plain.result.inner.now ≡ held = ap g.S.Source.held c.new-plain.ensures.inner ∙ c.look.ensures.source.held_is in
    let o = c.args.options.now in
    let fits : IfSome held IsAccepted = accepted held c.in_ok-looked.looked c.in_ok-looked.ensures.looked in
    let Same : Type 0 = (g.K.Sink.created c.in_view-ended.result.lent.inner.now ≡ g.K.Sink.created c.args.sink.now) × (g.K.Sink.contents c.in_view-ended.result.lent.inner.now ≡ g.K.Sink.contents c.args.sink.now) in
    subst (λ k. StaysUnmadeBoth o held c.args.view.now.limit c.args.meter.now.limit c.args.window.now.workers ((g.K.Sink.created k ≡ g.K.Sink.created c.args.sink.now) × (g.K.Sink.contents k ≡ g.K.Sink.contents c.args.sink.now)) c.settled.result)
    {x = c.in_view-ended.result.lent.inner.now} (search rules)
    (subst (λ (r : Result (Unit {0}) Stop). StaysUnmadeBoth o held c.args.view.now.limit c.args.meter.now.limit c.args.window.now.workers Same r) (sym c.settled.ensures)
    (record {
      faulty = faulty_both c.first_fault_law.ensures.only o held Same fits (rw there at c.in_view-ended.ensures.unmade.faulty);
      past = past_both o c.args.window.now.workers c.args.view.now.limit c.args.meter.now.limit held Same fits c.in_ok-looked.ensures.cause.first_past (rw (there, workers) at c.in_view-ended.ensures.unmade.past);
      over_limit = over_settled Same c.in_view-ended.new.answer c.failed-failed.result c.later-later.result c.in_view-ended.ensures.unmade.over_limit;
      refused = refused_settled o Same c.in_view-ended.new.answer c.failed-failed.result c.later-later.result c.later-later.ensures.late c.in_view-ended.ensures.unmade.refused;
    }))

pub returns-clause-buffers : goal.returns-clause-buffers
returns-clause-buffers g c =
    let held : Option (List ℕ) = g.S.Source.held c.args.source.now in
    let there : g.S.Source.held c.new-plain.result.inner.now ≡ held = ap g.S.Source.held c.new-plain.ensures.inner ∙ c.look.ensures.source.held_is in
    let fits : IfSome held IsAccepted = accepted held c.in_ok-looked.looked c.in_ok-looked.ensures.looked in
    let workers : c.look.new.window.workers ≡ c.args.window.now.workers = ap (λ (w : Pool). w.workers) c.in_ok-looked.ensures.buffers.window_is in
    record {
      live = c.in_view-ended.ensures.buffers.live;
      limit = c.in_view-ended.ensures.buffers.limit;
      peak = packing_peak c.buffers_law.ensures.monotone c.args.options.now c.args.window.now.workers held c.args.meter.now.peak c.in_view-ended.new.meter.peak fits (rw (there, workers) at c.in_view-ended.ensures.buffers.peak);
      most = rw workers at c.in_view-ended.ensures.buffers.most;
      window_is = c.in_view-ended.ensures.buffers.window_is ∙ ap (λ (n : ℕ). record { slots = []; workers = n }) workers;
    }

pub returns-clause-exact_peak : goal.returns-clause-exact_peak
returns-clause-exact_peak g c =
    let held : Option (List ℕ) = g.S.Source.held c.args.source.now in
    let there : g.S.Source.held c.new-plain.result.inner.now ≡ held = ap g.S.Source.held c.new-plain.ensures.inner ∙ c.look.ensures.source.held_is in
    let fits : IfSome held IsAccepted = accepted held c.in_ok-looked.looked c.in_ok-looked.ensures.looked in
    let workers : c.look.new.window.workers ≡ c.args.window.now.workers = ap (λ (w : Pool). w.workers) c.in_ok-looked.ensures.buffers.window_is in
    subst (λ (r : Result (Unit {0}) Stop). OnOk r (IfSome held (λ f. c.in_view-ended.new.meter.peak ≡ max c.args.meter.now.peak (highest (own_takings (Retile c.args.options.now) f c.args.window.now.workers))))) (sym c.settled.ensures)
    (on_done c.in_view-ended.new.answer c.failed-failed.result c.later-later.result _
    (exact_held c.args.options.now c.args.window.now.workers held c.args.meter.now.peak c.in_view-ended.new.meter.peak c.in_view-ended.new.answer fits (rw (there, workers) at c.in_view-ended.ensures.exact_peak)))

pub returns-clause-finished : goal.returns-clause-finished
returns-clause-finished g c =
    subst (λ k. OnOk c.settled.result (g.K.Sink.finished k ≡ true)) {x = c.in_view-ended.result.lent.inner.now} (search rules)
    (subst (λ (r : Result (Unit {0}) Stop). OnOk r (g.K.Sink.finished c.in_view-ended.result.lent.inner.now ≡ true)) (sym c.settled.ensures)
    (on_done c.in_view-ended.new.answer c.failed-failed.result c.later-later.result _ c.in_view-ended.ensures.finished))

pub close-source-requires : goal.close-source-requires
close-source-requires g c =
    let same = c.in_view-ended.ensures.space ∙ c.new-plain.ensures.space in
    let live = c.in_ok-looked.ensures.buffers.live in
    omega (arith, same, live)

pub returns-clause-view_buffers : goal.returns-clause-view_buffers
returns-clause-view_buffers g c =
    view_closed (g.S.Source.held c.args.source.now) c.args.view.now c.look.new.meter c.close-source.new.meter c.args.window.now c.look.new.window c.in_ok-looked.looked _
    c.in_ok-looked.ensures.buffers (c.in_view-ended.ensures.space ∙ c.new-plain.ensures.space) c.close-source.ensures.given

pub returns-clause-exact_view : goal.returns-clause-exact_view
returns-clause-exact_view g c =
    let held : Option (List ℕ) = g.S.Source.held c.args.source.now in
    let Exact : Gauge → Type 0 = λ m. IfSome held (λ f. m.peak ≡ max c.args.view.now.peak (highest (file_takings Unpack f c.args.window.now.workers))) in
    subst (λ (r : Result (Unit {0}) Stop). OnOk r (Exact c.close-source.new.meter)) (sym c.settled.ensures)
    (on_done c.in_view-ended.new.answer c.failed-failed.result c.later-later.result _ (always c.in_view-ended.new.answer _ (subst Exact (sym c.close-source.ensures.given) c.in_ok-looked.ensures.exact_peak)))

pub returns-clause-touched : goal.returns-clause-touched
returns-clause-touched g c =
    let held : Option (List ℕ) = g.S.Source.held c.args.source.now in
    let there : g.S.Source.held c.new-plain.result.inner.now ≡ held = ap g.S.Source.held c.new-plain.ensures.inner ∙ c.look.ensures.source.held_is in
    let after : g.S.Source.held c.in_view-ended.result.view.inner.now ≡ held = c.in_view-ended.ensures.held ∙ there in
    let began : g.S.Source.ranges c.in_view-ended.result.view.start.value ≡ g.S.Source.ranges c.args.source.now = c.in_view-ended.ensures.ranges ∙ ap g.S.Source.ranges (c.new-plain.ensures.start ∙ c.of-start.ensures) in
    subst (λ s. IfSome held (λ f. LogsIn (touched_by (Retile c.args.options.now) f) (g.S.Source.ranges c.args.source.now) (g.S.Source.ranges s))) {x = c.close-source.result.now} (search rules)
    (touched_so c.args.options.now held _ _ (rw (after, began) at c.close-source.ensures.touched))

pub returns-clause-stays : goal.returns-clause-stays
returns-clause-stays g c =
    let began : g.S.Source.ranges c.in_view-ended.result.view.start.value ≡ g.S.Source.ranges c.args.source.now = c.in_view-ended.ensures.ranges ∙ ap g.S.Source.ranges (c.new-plain.ensures.start ∙ c.of-start.ensures) in (
      subst (λ s. StaysTold (g.S.Source.ranges c.args.source.now) (g.S.Source.ranges s)) {x = c.close-source.result.now} (search rules)
          (rw began at c.close-source.ensures.told),
      search rules,
    )

pub returns-clause-unread : goal.returns-clause-unread
returns-clause-unread g c = λ low. absurd (not_looked (c.in_ok-looked.ensures.cause.block low).0)

pub returns-clause-kept : goal.returns-clause-kept
returns-clause-kept g c =
    let there : g.S.Source.held c.new-plain.result.inner.now ≡ g.S.Source.held c.args.source.now = ap g.S.Source.held c.new-plain.ensures.inner ∙ c.look.ensures.source.held_is in
    let began : g.S.Source.tally c.in_view-ended.result.view.start.value ≡ g.S.Source.tally c.args.source.now = c.in_view-ended.ensures.tally ∙ ap g.S.Source.tally (c.new-plain.ensures.start ∙ c.of-start.ensures) in
    moved (λ s k. KeepsSource (g.S.Source.held c.args.source.now) (g.S.Source.held s) (g.S.Source.attached c.args.source.now) (g.S.Source.attached s) (g.S.Source.tally c.args.source.now) (g.S.Source.tally s)
    (nameless (g.K.Sink.tally c.args.sink.now)) (nameless (g.K.Sink.tally k))) {a = c.close-source.result.now} {b = c.in_view-ended.result.lent.inner.now} (search rules) (search rules) (record {
      held_is = ap g.S.Source.held c.close-source.ensures.left ∙ c.in_view-ended.ensures.held ∙ there;
      attached_is = ap g.S.Source.attached c.close-source.ensures.left ∙ c.in_view-ended.result.view.is_attached ∙ ap (λ (n : ℕ). Some n) (c.in_view-ended.ensures.file ∙ c.new-plain.ensures.file) ∙ sym c.requires.attached;
      source_counts = subst (λ (t : Tally). CountsKept t (g.S.Source.tally c.close-source.result.now)) began (subst (λ s. CountsKept (g.S.Source.tally c.in_view-ended.result.view.start.value) (g.S.Source.tally s)) (sym c.close-source.ensures.left) c.in_view-ended.result.view.failures.kept);
      sink_counts = c.in_view-ended.ensures.stays.0;
    })
