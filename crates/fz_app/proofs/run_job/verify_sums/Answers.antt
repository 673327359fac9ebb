-- What verify says of the source that was attached and of the meter that was narrowed, it says of both as they were before.
use Rattle.std.specs.Prelude.{Ok, Err}
use Rattle.std.proofs.Common.{false, ◌≡◌, ℕ, min, List, Option, IfSome, refl, sym, ap, subst, rules}
use Rattle.fz_base.specs.Counts.{nameless}
use Rattle.fz_base.specs.Meter.{Gauge, narrowed}
use Rattle.fz_base.specs.Ranges.{LogsIn}
use Rattle.fz_files.specs.Touched.{hdus_touched}
use Rattle.fz_files.specs.declared.job.Job.{Job}
use Rattle.fz_files.specs.declared.job.Job.TheVariants.{Verify}
use Rattle.fz_app.specs.Answer.{done_of}
use Rattle.fz_app.specs.Ends.{Ends}
use Rattle.fz_app.specs.Names.{JobNames}
use Rattle.fz_app.specs.Outputs.{ReadsTouched}
use Rattle.fz_app.specs.Promised.{IsPromised}
use Rattle.fz_app.proofs.CutAnswers.{nothing_read}
use Rattle.fz_app.proofs.NamesAnswers.{once_done, once_more}
use Rattle.fz_app.proofs.Tallies.{answers_from, cause_from, kept_from}
use Rattle.fz_app.proofs.TextAnswers.{text_promised, verifies}
use Rattle.fz_app.proofs.run_job.verify_sums.Goals as goal

pub returns-in_err-right-clause-promised : goal.returns-in_err-right-clause-promised
returns-in_err-right-clause-promised g c = λ sink empty.
    let held : g.S.Source.held c.begin.new.source ≡ g.S.Source.held c.args.source.now = c.begin.ensures.stays.0 in
    let ranges : g.S.Source.ranges c.begin.new.source ≡ g.S.Source.ranges c.args.source.now = c.begin.ensures.stays.1 in
    let tally : nameless (g.S.Source.tally c.begin.new.source) ≡ nameless (g.S.Source.tally c.args.source.now) = c.in_ok-length.ensures.cause.ok in
    let meter : c.begin.new.meter ≡ narrowed c.args.meter.now c.args.request.now.memory = c.begin.ensures.narrowed in
    let limit : c.begin.new.meter.limit ≡ min c.args.meter.now.limit c.args.request.now.memory = ap (λ (m : Gauge). m.limit) meter in
    let none : c.begin.new.meter.peak ≡ 0 = search rules in
    let old : Ends = record { held = g.S.Source.held c.args.source.now; ranges = g.S.Source.ranges c.args.source.now; source = nameless (g.S.Source.tally c.args.source.now); sink = sink; text = record { contents = g.T.Text.contents c.args.text.now; tally = g.T.Text.tally c.args.text.now }; meter = c.args.meter.now } in
    let new : Ends = record { held = g.S.Source.held c.verify.new.source; ranges = g.S.Source.ranges c.verify.new.source; source = nameless (g.S.Source.tally c.verify.new.source); sink = sink; text = record { contents = g.T.Text.contents c.verify.new.text; tally = g.T.Text.tally c.verify.new.text }; meter = c.verify.new.meter } in
    let is : c.verify.result ≡ Err c.in_err-right.field-0.0 = search rules in
    let stopped : c.from_residual-in_err-right.result ≡ Err c.in_err-right.field-0.0 = search rules in
    subst (λ r. IsPromised (record { job = c.args.request.now.job; workers = c.args.request.now.workers; strict = false; memory = c.args.request.now.memory; input = c.args.request.now.input.now; output = c.args.request.now.output.now }) old new (done_of r)) (sym stopped)
    (subst (λ r. IsPromised (record { job = c.args.request.now.job; workers = c.args.request.now.workers; strict = false; memory = c.args.request.now.memory; input = c.args.request.now.input.now; output = c.args.request.now.output.now }) old new (done_of r)) is
    (subst (λ (j : Job). IsPromised (record { job = j; workers = c.args.request.now.workers; strict = false; memory = c.args.request.now.memory; input = c.args.request.now.input.now; output = c.args.request.now.output.now }) old new (done_of c.verify.result)) (sym c.requires.job)
    (text_promised Verify verifies c.args.request.now.workers false refl c.args.request.now.memory c.args.request.now.input.now c.args.request.now.output.now old new refl empty c.verify.result
    (record {
      of_file = tt;
      lines = rw held at c.verify.ensures.lines;
      first_fault = rw held at c.verify.ensures.first_fault;
      answered = answers_from (g.S.Source.tally c.args.source.now) (g.S.Source.tally c.begin.new.source) (g.S.Source.tally c.verify.new.source) tally Verify (g.S.Source.held c.args.source.now) (g.T.Text.tally c.args.text.now) (g.T.Text.tally c.verify.new.text) (min c.args.meter.now.limit c.args.request.now.memory) 1 c.verify.result (rw (held, limit) at c.verify.ensures.answered);
      cause = cause_from (g.S.Source.tally c.args.source.now) (g.S.Source.tally c.begin.new.source) (g.S.Source.tally c.verify.new.source) tally Verify (g.S.Source.held c.args.source.now) (g.T.Text.tally c.args.text.now) (g.T.Text.tally c.verify.new.text) (min c.args.meter.now.limit c.args.request.now.memory) 1 c.verify.result (rw (held, limit) at c.verify.ensures.cause);
      silent = rw (held, limit) at c.verify.ensures.silent;
      live = c.verify.ensures.buffers.live;
      limit_is = rw limit at c.verify.ensures.buffers.limit;
      peak = rw (held, none) at c.verify.ensures.buffers.peak;
      exact = rw (held, none) at c.verify.ensures.exact_peak;
      unread = rw (ranges, limit) at c.verify.ensures.unread;
      most = rw none at c.verify.ensures.buffers.most;
      held_is = rw held at c.verify.ensures.kept.held_is;
      touched = rw (held, ranges) at c.verify.ensures.touched;
      told_ranges = rw ranges at c.verify.ensures.stays.0;
      told = c.verify.ensures.stays.1;
      source_counts = kept_from (g.S.Source.tally c.args.source.now) (g.S.Source.tally c.begin.new.source) (g.S.Source.tally c.verify.new.source) tally c.verify.ensures.kept.source_counts;
      text_counts = c.verify.ensures.kept.sink_counts;
    }))))

pub returns-clause-promised : goal.returns-clause-promised
returns-clause-promised g c = λ sink empty.
    let held : g.S.Source.held c.begin.new.source ≡ g.S.Source.held c.args.source.now = c.begin.ensures.stays.0 in
    let ranges : g.S.Source.ranges c.begin.new.source ≡ g.S.Source.ranges c.args.source.now = c.begin.ensures.stays.1 in
    let tally : nameless (g.S.Source.tally c.begin.new.source) ≡ nameless (g.S.Source.tally c.args.source.now) = c.in_ok-length.ensures.cause.ok in
    let meter : c.begin.new.meter ≡ narrowed c.args.meter.now c.args.request.now.memory = c.begin.ensures.narrowed in
    let limit : c.begin.new.meter.limit ≡ min c.args.meter.now.limit c.args.request.now.memory = ap (λ (m : Gauge). m.limit) meter in
    let none : c.begin.new.meter.peak ≡ 0 = search rules in
    let old : Ends = record { held = g.S.Source.held c.args.source.now; ranges = g.S.Source.ranges c.args.source.now; source = nameless (g.S.Source.tally c.args.source.now); sink = sink; text = record { contents = g.T.Text.contents c.args.text.now; tally = g.T.Text.tally c.args.text.now }; meter = c.args.meter.now } in
    let new : Ends = record { held = g.S.Source.held c.verify.new.source; ranges = g.S.Source.ranges c.verify.new.source; source = nameless (g.S.Source.tally c.verify.new.source); sink = sink; text = record { contents = g.T.Text.contents c.verify.new.text; tally = g.T.Text.tally c.verify.new.text }; meter = c.verify.new.meter } in
    let is : c.verify.result ≡ Ok c.in_ok-right.right = search rules in
    subst (λ r. IsPromised (record { job = c.args.request.now.job; workers = c.args.request.now.workers; strict = false; memory = c.args.request.now.memory; input = c.args.request.now.input.now; output = c.args.request.now.output.now }) old new (done_of r)) is
    (subst (λ (j : Job). IsPromised (record { job = j; workers = c.args.request.now.workers; strict = false; memory = c.args.request.now.memory; input = c.args.request.now.input.now; output = c.args.request.now.output.now }) old new (done_of c.verify.result)) (sym c.requires.job)
    (text_promised Verify verifies c.args.request.now.workers false refl c.args.request.now.memory c.args.request.now.input.now c.args.request.now.output.now old new refl empty c.verify.result
    (record {
      of_file = tt;
      lines = rw held at c.verify.ensures.lines;
      first_fault = rw held at c.verify.ensures.first_fault;
      answered = answers_from (g.S.Source.tally c.args.source.now) (g.S.Source.tally c.begin.new.source) (g.S.Source.tally c.verify.new.source) tally Verify (g.S.Source.held c.args.source.now) (g.T.Text.tally c.args.text.now) (g.T.Text.tally c.verify.new.text) (min c.args.meter.now.limit c.args.request.now.memory) 1 c.verify.result (rw (held, limit) at c.verify.ensures.answered);
      cause = cause_from (g.S.Source.tally c.args.source.now) (g.S.Source.tally c.begin.new.source) (g.S.Source.tally c.verify.new.source) tally Verify (g.S.Source.held c.args.source.now) (g.T.Text.tally c.args.text.now) (g.T.Text.tally c.verify.new.text) (min c.args.meter.now.limit c.args.request.now.memory) 1 c.verify.result (rw (held, limit) at c.verify.ensures.cause);
      silent = rw (held, limit) at c.verify.ensures.silent;
      live = c.verify.ensures.buffers.live;
      limit_is = rw limit at c.verify.ensures.buffers.limit;
      peak = rw (held, none) at c.verify.ensures.buffers.peak;
      exact = rw (held, none) at c.verify.ensures.exact_peak;
      unread = rw (ranges, limit) at c.verify.ensures.unread;
      most = rw none at c.verify.ensures.buffers.most;
      held_is = rw held at c.verify.ensures.kept.held_is;
      touched = rw (held, ranges) at c.verify.ensures.touched;
      told_ranges = rw ranges at c.verify.ensures.stays.0;
      told = c.verify.ensures.stays.1;
      source_counts = kept_from (g.S.Source.tally c.args.source.now) (g.S.Source.tally c.begin.new.source) (g.S.Source.tally c.verify.new.source) tally c.verify.ensures.kept.source_counts;
      text_counts = c.verify.ensures.kept.sink_counts;
    })))

pub returns-in_err-right-clause-names : goal.returns-in_err-right-clause-names
returns-in_err-right-clause-names g c = λ made.
    let is : c.verify.result ≡ Err c.in_err-right.field-0.0 = search rules in
    let stopped : c.from_residual-in_err-right.result ≡ Err c.in_err-right.field-0.0 = search rules in
    subst (λ r. JobNames (record { job = c.args.request.now.job; workers = c.args.request.now.workers; strict = c.args.request.now.strict; memory = c.args.request.now.memory; input = c.args.request.now.input.now; output = c.args.request.now.output.now }) (g.S.Source.tally c.args.source.now).names (g.S.Source.tally c.verify.new.source).names made made (done_of r)) (sym stopped)
    (subst (λ r. JobNames (record { job = c.args.request.now.job; workers = c.args.request.now.workers; strict = c.args.request.now.strict; memory = c.args.request.now.memory; input = c.args.request.now.input.now; output = c.args.request.now.output.now }) (g.S.Source.tally c.args.source.now).names (g.S.Source.tally c.verify.new.source).names made made (done_of r)) is
    (subst (λ (j : Job). JobNames (record { job = j; workers = c.args.request.now.workers; strict = c.args.request.now.strict; memory = c.args.request.now.memory; input = c.args.request.now.input.now; output = c.args.request.now.output.now }) (g.S.Source.tally c.args.source.now).names (g.S.Source.tally c.verify.new.source).names made made (done_of c.verify.result)) (sym c.requires.job) (record { source = once_done c.args.request.now.input.now (g.S.Source.tally c.args.source.now).names (g.S.Source.tally c.verify.new.source).names c.verify.result (once_more c.args.request.now.input.now (g.S.Source.tally c.args.source.now).names (g.S.Source.tally c.begin.new.source).names (g.S.Source.tally c.verify.new.source).names c.verify.result c.in_ok-length.ensures.names.done c.verify.ensures.kept.source_counts.names_kept); sink = refl })))

pub returns-clause-names : goal.returns-clause-names
returns-clause-names g c = λ made.
    let is : c.verify.result ≡ Ok c.in_ok-right.right = search rules in
    subst (λ r. JobNames (record { job = c.args.request.now.job; workers = c.args.request.now.workers; strict = c.args.request.now.strict; memory = c.args.request.now.memory; input = c.args.request.now.input.now; output = c.args.request.now.output.now }) (g.S.Source.tally c.args.source.now).names (g.S.Source.tally c.verify.new.source).names made made (done_of r)) is
    (subst (λ (j : Job). JobNames (record { job = j; workers = c.args.request.now.workers; strict = c.args.request.now.strict; memory = c.args.request.now.memory; input = c.args.request.now.input.now; output = c.args.request.now.output.now }) (g.S.Source.tally c.args.source.now).names (g.S.Source.tally c.verify.new.source).names made made (done_of c.verify.result)) (sym c.requires.job) (record { source = once_done c.args.request.now.input.now (g.S.Source.tally c.args.source.now).names (g.S.Source.tally c.verify.new.source).names c.verify.result (once_more c.args.request.now.input.now (g.S.Source.tally c.args.source.now).names (g.S.Source.tally c.begin.new.source).names (g.S.Source.tally c.verify.new.source).names c.verify.result c.in_ok-length.ensures.names.done c.verify.ensures.kept.source_counts.names_kept); sink = refl }))

pub returns-in_err-length-clause-promised : goal.returns-in_err-length-clause-promised
returns-in_err-length-clause-promised g c = λ sink empty.
    let held : Option (List ℕ) = g.S.Source.held c.args.source.now in
    let old : Option (List (ℕ × ℕ)) = g.S.Source.ranges c.args.source.now in
    let new : Option (List (ℕ × ℕ)) = g.S.Source.ranges c.begin.new.source in
    let asked : ReadsTouched c.args.request.now.job held old new = nothing_read c.args.request.now.job held old new c.begin.ensures.stays.1 in
    let of_verify : IfSome held (λ file. LogsIn (hdus_touched Verify file) old new) = nothing_read Verify held old new c.begin.ensures.stays.1 in
    search rules
