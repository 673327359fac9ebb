-- The promises are those of `pack`, whose source is the view.
use Rattle.std.proofs.Common.{◌≡◌, sym, subst, ◌∙◌}
use Rattle.std.specs.Prelude.{max, true, IfSome, IsErrOf, OnOk, Result}
use Rattle.fz_base.specs.Counts.{nameless}
use Rattle.fz_base.specs.Names.{NamesOnce}
use Rattle.fz_base.specs.Takings.{highest}
use Rattle.fz_base.specs.declared.failure.Stop.{Stop}
use Rattle.fz_base.specs.declared.failure.Stop.TheVariants.{ReadFault}
use Rattle.fz_files.specs.Buffers.{job_takings}
use Rattle.fz_files.specs.declared.job.Job.TheVariants.{Pack}
use Rattle.fz_job.specs.Clauses.{Answers, HasJobCause, IsShutOrWhole, IsUnmade, TellsFirstFault}
use Rattle.fz_pack.specs.Output.{HoldsPacked}
use Rattle.fz_retile.specs.Views.{restored_from, with_more}
use Rattle.fz_retile.proofs.Unread as late
use Rattle.fz_retile.proofs.Watching.{kept_from}
use Rattle.fz_retile.proofs.pinning.in_view.Goals as goal

pub invariant_of-watched-clause-kept : goal.invariant_of-watched-clause-kept
invariant_of-watched-clause-kept g c = kept_from g.M.Watch.counts (nameless (g.K.Sink.tally c.args.sink.inner.now)) c.requires.counts

pub returns-clause-output : goal.returns-clause-output
returns-clause-output g c =
    subst (λ (r : Result (Unit {0}) Stop). OnOk r (HoldsPacked c.args.asked.now.options (restored_from (g.S.Source.held c.args.view.inner.now)) (g.K.Sink.contents c.pack-answered.new.sink.lent.inner.now))) (sym c.unless_failed.ensures)
    (late.on_ok c.pack-answered.new.sink.failed c.pack-answered.result _ c.pack-answered.ensures.output)

pub returns-clause-finished : goal.returns-clause-finished
returns-clause-finished g c =
    subst (λ (r : Result (Unit {0}) Stop). OnOk r (g.K.Sink.finished c.pack-answered.new.sink.lent.inner.now ≡ true)) (sym c.unless_failed.ensures)
    (late.on_ok c.pack-answered.new.sink.failed c.pack-answered.result _ c.pack-answered.ensures.finished)

pub returns-clause-first_fault : goal.returns-clause-first_fault
returns-clause-first_fault g c =
    subst (λ (r : Result (Unit {0}) Stop). TellsFirstFault (Pack c.args.asked.now.options) (restored_from (g.S.Source.held c.args.view.inner.now)) r) (sym c.unless_failed.ensures)
    (late.fault c.pack-answered.new.sink.failed c.pack-answered.result _ _ c.pack-answered.ensures.first_fault)

pub returns-clause-answered : goal.returns-clause-answered
returns-clause-answered g c =
    subst (λ (r : Result (Unit {0}) Stop). Answers (Pack c.args.asked.now.options) (restored_from (g.S.Source.held c.args.view.inner.now)) (with_more (g.S.Source.tally c.args.view.inner.now) c.args.view.more)
    (with_more (g.S.Source.tally c.pack-answered.new.source.view.inner.now) c.pack-answered.new.source.view.more) (nameless (g.K.Sink.tally c.args.sink.inner.now)) (nameless (g.K.Sink.tally c.pack-answered.new.sink.lent.inner.now))
    c.args.meter.now.limit c.args.window.now.workers r) (sym c.unless_failed.ensures)
    (late.answers c.pack-answered.new.sink.failed c.pack-answered.result (Pack c.args.asked.now.options) (restored_from (g.S.Source.held c.args.view.inner.now)) (with_more (g.S.Source.tally c.args.view.inner.now) c.args.view.more)
    (with_more (g.S.Source.tally c.pack-answered.new.source.view.inner.now) c.pack-answered.new.source.view.more) (nameless (g.K.Sink.tally c.args.sink.inner.now)) (nameless (g.K.Sink.tally c.pack-answered.new.sink.lent.inner.now))
    c.args.meter.now.limit c.args.window.now.workers c.pack-answered.ensures.answered)

pub returns-clause-cause : goal.returns-clause-cause
returns-clause-cause g c =
    subst (λ (r : Result (Unit {0}) Stop). HasJobCause (Pack c.args.asked.now.options) (restored_from (g.S.Source.held c.args.view.inner.now)) (with_more (g.S.Source.tally c.args.view.inner.now) c.args.view.more)
    (with_more (g.S.Source.tally c.pack-answered.new.source.view.inner.now) c.pack-answered.new.source.view.more) (nameless (g.K.Sink.tally c.args.sink.inner.now)) (nameless (g.K.Sink.tally c.pack-answered.new.sink.lent.inner.now))
    c.args.meter.now.limit c.args.window.now.workers r) (sym c.unless_failed.ensures)
    (late.cause c.pack-answered.new.sink.failed c.pack-answered.result _ _ _ _ _ _ _ _ c.pack-answered.ensures.cause)

pub returns-clause-unwritten : goal.returns-clause-unwritten
returns-clause-unwritten g c =
    subst (λ (r : Result (Unit {0}) Stop). IsErrOf r ReadFault → nameless (g.K.Sink.tally c.pack-answered.new.sink.lent.inner.now) ≡ nameless (g.K.Sink.tally c.args.sink.inner.now)) (sym c.unless_failed.ensures)
    (late.unwritten c.pack-answered.new.sink.failed c.pack-answered.result _ (λ still. c.pack-answered.new.sink.clean still ∙ sym c.requires.counts))

pub returns-clause-names : goal.returns-clause-names
returns-clause-names g c =
    subst (λ (r : Result (Unit {0}) Stop). NamesOnce c.args.asked.now.name.now (g.K.Sink.tally c.args.sink.inner.now).names (g.K.Sink.tally c.pack-answered.new.sink.lent.inner.now).names r) (sym c.unless_failed.ensures)
    (late.names c.pack-answered.new.sink.failed c.pack-answered.result _ _ _ c.pack-answered.ensures.names)

pub returns-clause-first_byte : goal.returns-clause-first_byte
returns-clause-first_byte g c =
    subst (λ (r : Result (Unit {0}) Stop). IsShutOrWhole (g.K.Sink.contents c.pack-answered.new.sink.lent.inner.now)
    (HoldsPacked c.args.asked.now.options (restored_from (g.S.Source.held c.args.view.inner.now)) (g.K.Sink.contents c.pack-answered.new.sink.lent.inner.now)) r) (sym c.unless_failed.ensures)
    (late.first_byte c.pack-answered.new.sink.failed c.pack-answered.result _ _ c.pack-answered.ensures.first_byte)

pub returns-clause-unmade : goal.returns-clause-unmade
returns-clause-unmade g c =
    subst (λ (r : Result (Unit {0}) Stop). IsUnmade (Pack c.args.asked.now.options) (restored_from (g.S.Source.held c.args.view.inner.now)) c.args.meter.now.limit c.args.window.now.workers
    ((g.K.Sink.created c.pack-answered.new.sink.lent.inner.now ≡ g.K.Sink.created c.args.sink.inner.now) × (g.K.Sink.contents c.pack-answered.new.sink.lent.inner.now ≡ g.K.Sink.contents c.args.sink.inner.now)) r) (sym c.unless_failed.ensures)
    (late.unmade c.pack-answered.new.sink.failed c.pack-answered.result _ _ _ _ _ c.pack-answered.ensures.unmade)

pub returns-clause-exact_peak : goal.returns-clause-exact_peak
returns-clause-exact_peak g c =
    subst (λ (r : Result (Unit {0}) Stop). OnOk r (IfSome (restored_from (g.S.Source.held c.args.view.inner.now))
    (λ u. c.pack-answered.new.meter.peak ≡ max c.args.meter.now.peak (highest (job_takings (Pack c.args.asked.now.options) u c.args.window.now.workers))))) (sym c.unless_failed.ensures)
    (late.on_ok c.pack-answered.new.sink.failed c.pack-answered.result _ c.pack-answered.ensures.exact_peak)
