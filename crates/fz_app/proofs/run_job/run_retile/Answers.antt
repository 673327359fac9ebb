-- What retile says of the source that was attached and of the meter that was narrowed, it says of both as they were before; both meters have
-- one limit.
use Rattle.std.proofs.Common.{◌≡◌, min, refl, sym, ap, subst, rules}
use Rattle.fz_base.specs.Counts.{nameless}
use Rattle.fz_base.specs.Meter.{Gauge, narrowed}
use Rattle.fz_files.specs.declared.job.Job.{Job}
use Rattle.fz_files.specs.declared.job.Job.TheVariants.{Retile}
use Rattle.fz_app.specs.Ends.{Ends, TextIs}
use Rattle.fz_app.specs.Names.{JobNames}
use Rattle.fz_app.specs.Promised.{IsPromised}
use Rattle.fz_app.proofs.NamesAnswers.{once_more}
use Rattle.fz_app.proofs.Tallies.{answers_from, cause_from, kept_by, kept_from}
use Rattle.fz_app.proofs.RetileAnswers.{retiled}
use Rattle.fz_app.proofs.Before.{before_the_job}
use Rattle.fz_app.proofs.run_job.run_retile.Goals as goal

pub returns : goal.returns
returns g c =
    let held : g.S.Source.held c.begin.new.source ≡ g.S.Source.held c.args.source.now = c.begin.ensures.stays.0 in
    let ranges : g.S.Source.ranges c.begin.new.source ≡ g.S.Source.ranges c.args.source.now = c.begin.ensures.stays.1 in
    let tally : nameless (g.S.Source.tally c.begin.new.source) ≡ nameless (g.S.Source.tally c.args.source.now) = c.in_ok-length.ensures.cause.ok in
    let meter : c.begin.new.meter ≡ narrowed c.args.meter.now c.args.request.now.memory = c.begin.ensures.narrowed in
    let limit : c.begin.new.meter.limit ≡ min c.args.meter.now.limit c.args.request.now.memory = ap (λ (m : Gauge). m.limit) meter in
    let none : c.begin.new.meter.peak ≡ 0 = search rules in
    let workers : c.in_ok-length.window.workers ≡ c.args.request.now.workers = search rules in
    let old : TextIs → Ends = λ text. record { held = g.S.Source.held c.args.source.now; ranges = g.S.Source.ranges c.args.source.now; source = nameless (g.S.Source.tally c.args.source.now); sink = record { contents = g.K.Sink.contents c.args.sink.now; created = g.K.Sink.created c.args.sink.now; finished = g.K.Sink.finished c.args.sink.now; tally = nameless (g.K.Sink.tally c.args.sink.now) }; text = text; meter = c.args.meter.now } in
    let new : TextIs → Ends = λ text. record { held = g.S.Source.held c.retile_within-retiled.new.source; ranges = g.S.Source.ranges c.retile_within-retiled.new.source; source = nameless (g.S.Source.tally c.retile_within-retiled.new.source); sink = record { contents = g.K.Sink.contents c.retile_within-retiled.new.sink; created = g.K.Sink.created c.retile_within-retiled.new.sink; finished = g.K.Sink.finished c.retile_within-retiled.new.sink; tally = nameless (g.K.Sink.tally c.retile_within-retiled.new.sink) }; text = text; meter = c.retile_within-retiled.new.meter } in
    record {
      promised = λ text. subst (λ (j : Job). IsPromised (record { job = j; workers = c.args.request.now.workers; strict = c.args.request.now.strict; memory = c.args.request.now.memory; input = c.args.request.now.input.now; output = c.args.request.now.output.now }) (old text) (new text) c.retile_within-retiled.result.0) (sym c.requires.job)
          (retiled c.args.options.now c.args.request.now.workers c.args.request.now.strict c.args.request.now.memory c.args.request.now.input.now c.args.request.now.output.now (old text) (new text) c.requires.ready.empty c.retile_law.ensures.restores c.first_fault_law.ensures.some c.requires.options (g.met.S.Source.octets c.args.source.now) (rw held at c.retile_within-retiled.ensures.unmade.faulty) c.retile_within-retiled.result.0
          (record {
            of_file = tt;
            output = rw held at c.retile_within-retiled.ensures.output;
            finished = c.retile_within-retiled.ensures.finished;
            first_fault = rw held at c.retile_within-retiled.ensures.first_fault;
            answered = answers_from (g.S.Source.tally c.args.source.now) (g.S.Source.tally c.begin.new.source) (g.S.Source.tally c.retile_within-retiled.new.source) tally (Retile c.args.options.now) (g.S.Source.held c.args.source.now) (nameless (g.K.Sink.tally c.args.sink.now)) (nameless (g.K.Sink.tally c.retile_within-retiled.new.sink)) (min c.args.meter.now.limit c.args.request.now.memory) c.args.request.now.workers c.retile_within-retiled.result.0
                (c.retile_law.ensures.answers c.args.options.now (g.S.Source.held c.args.source.now) (g.S.Source.tally c.begin.new.source) (g.S.Source.tally c.retile_within-retiled.new.source) (nameless (g.K.Sink.tally c.args.sink.now)) (nameless (g.K.Sink.tally c.retile_within-retiled.new.sink)) (min c.args.meter.now.limit c.args.request.now.memory) c.args.request.now.workers c.retile_within-retiled.result.0
                (rw (held, limit, workers) at c.retile_within-retiled.ensures.answered));
            cause = cause_from (g.S.Source.tally c.args.source.now) (g.S.Source.tally c.begin.new.source) (g.S.Source.tally c.retile_within-retiled.new.source) tally (Retile c.args.options.now) (g.S.Source.held c.args.source.now) (nameless (g.K.Sink.tally c.args.sink.now)) (nameless (g.K.Sink.tally c.retile_within-retiled.new.sink)) (min c.args.meter.now.limit c.args.request.now.memory) c.args.request.now.workers c.retile_within-retiled.result.0
                (c.retile_law.ensures.causes c.args.options.now (g.S.Source.held c.args.source.now) (g.S.Source.tally c.begin.new.source) (g.S.Source.tally c.retile_within-retiled.new.source) (nameless (g.K.Sink.tally c.args.sink.now)) (nameless (g.K.Sink.tally c.retile_within-retiled.new.sink)) (min c.args.meter.now.limit c.args.request.now.memory) c.args.request.now.workers c.retile_within-retiled.result.0
                (rw (held, limit, workers) at c.retile_within-retiled.ensures.cause));
            first_byte = rw held at c.retile_within-retiled.ensures.first_byte;
            unread = rw (ranges, limit) at c.retile_within-retiled.ensures.unread;
            unmade = c.retile_law.ensures.unmade c.args.options.now (g.S.Source.held c.args.source.now) (min c.args.meter.now.limit c.args.request.now.memory) c.args.request.now.workers
                (g.K.Sink.created c.args.sink.now) (g.K.Sink.created c.retile_within-retiled.new.sink) (g.K.Sink.contents c.args.sink.now) (g.K.Sink.contents c.retile_within-retiled.new.sink) c.retile_within-retiled.result.0 (rw (held, limit, workers) at c.retile_within-retiled.ensures.unmade);
            faulty = rw held at c.retile_within-retiled.ensures.unmade.faulty;
            live = c.retile_within-retiled.ensures.buffers.live;
            limit = rw limit at c.retile_within-retiled.ensures.buffers.limit;
            peak = rw (held, none, workers) at c.retile_within-retiled.ensures.buffers.peak;
            exact = rw (held, none, workers) at c.retile_within-retiled.ensures.exact_peak;
            most = rw (none, workers) at c.retile_within-retiled.ensures.buffers.most;
            held_is = rw held at c.retile_within-retiled.ensures.kept.held_is;
            touched = rw (held, ranges) at c.retile_within-retiled.ensures.touched;
            told_ranges = rw ranges at c.retile_within-retiled.ensures.stays.0;
            told_contents = c.retile_within-retiled.ensures.stays.1;
            source_counts = kept_from (g.S.Source.tally c.args.source.now) (g.S.Source.tally c.begin.new.source) (g.S.Source.tally c.retile_within-retiled.new.source) tally c.retile_within-retiled.ensures.kept.source_counts;
            sink_counts = c.retile_within-retiled.ensures.kept.sink_counts;
            text_counts = kept_by text.tally text.tally refl;
            printed = refl;
            one_written = λ e. (e, refl);
          }));
      names = subst (λ (j : Job). JobNames (record { job = j; workers = c.args.request.now.workers; strict = c.args.request.now.strict; memory = c.args.request.now.memory; input = c.args.request.now.input.now; output = c.args.request.now.output.now }) (g.S.Source.tally c.args.source.now).names (g.S.Source.tally c.retile_within-retiled.new.source).names (g.K.Sink.tally c.args.sink.now).names (g.K.Sink.tally c.retile_within-retiled.new.sink).names c.retile_within-retiled.result.0) (sym c.requires.job) (record { source = once_more c.args.request.now.input.now (g.S.Source.tally c.args.source.now).names (g.S.Source.tally c.begin.new.source).names (g.S.Source.tally c.retile_within-retiled.new.source).names c.retile_within-retiled.result.0 c.in_ok-length.ensures.names.done c.retile_within-retiled.ensures.kept.source_counts.names_kept; sink = c.retile_within-retiled.ensures.names });
    }

-- the job did not begin
pub returns-in_err-length : goal.returns-in_err-length
returns-in_err-length g c =
    let unused : (c.args.meter.now.live ≡ 0) × (c.args.meter.now.peak ≡ 0) = c.requires.ready.unused in
    record {
      promised = λ text. search (rules, before_the_job, unused);
      names = search (rules, before_the_job, unused);
    }
