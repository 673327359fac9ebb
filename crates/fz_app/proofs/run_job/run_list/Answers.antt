-- What list says of the source that was attached and of the meter that was narrowed, it says of both as they were before.
use Rattle.std.proofs.Common.{◌≡◌, ℕ, min, List, Option, IfSome, refl, sym, ap, subst, rules}
use Rattle.fz_base.specs.Counts.{nameless}
use Rattle.fz_base.specs.Meter.{Gauge, narrowed}
use Rattle.fz_base.specs.Ranges.{LogsIn}
use Rattle.fz_files.specs.Reads.{header_ranges}
use Rattle.fz_files.specs.declared.job.Job.{Job}
use Rattle.fz_files.specs.declared.job.Job.TheVariants.{List as ListHdus}
use Rattle.fz_app.specs.Ends.{Ends}
use Rattle.fz_app.specs.Names.{JobNames}
use Rattle.fz_app.specs.Outputs.{ReadsTouched}
use Rattle.fz_app.specs.Promised.{IsPromised}
use Rattle.fz_app.proofs.CutAnswers.{nothing_read}
use Rattle.fz_app.proofs.NamesAnswers.{once_more}
use Rattle.fz_app.proofs.Tallies.{answers_from, cause_from, kept_from}
use Rattle.fz_app.proofs.TextAnswers.{listed, lists, text_promised}
use Rattle.fz_app.proofs.run_job.run_list.Goals as goal

pub returns : goal.returns
returns g c = record {
  promised = λ sink empty.
      let held : g.S.Source.held c.attach.new.source ≡ g.S.Source.held c.args.source.now = c.attach.ensures.stays.0 in
      let ranges : g.S.Source.ranges c.attach.new.source ≡ g.S.Source.ranges c.args.source.now = c.attach.ensures.stays.1 in
      let tally : nameless (g.S.Source.tally c.attach.new.source) ≡ nameless (g.S.Source.tally c.args.source.now) = c.in_ok-length.ensures.cause.ok in
      let meter : c.attach.new.meter ≡ narrowed c.args.meter.now c.args.request.now.memory = c.attach.ensures.narrowed in
      let limit : c.attach.new.meter.limit ≡ min c.args.meter.now.limit c.args.request.now.memory = ap (λ (m : Gauge). m.limit) meter in
      let none : c.attach.new.meter.peak ≡ 0 = search rules in
      let old : Ends = record { held = g.S.Source.held c.args.source.now; ranges = g.S.Source.ranges c.args.source.now; source = nameless (g.S.Source.tally c.args.source.now); sink = sink; text = record { contents = g.T.Text.contents c.args.text.now; tally = g.T.Text.tally c.args.text.now }; meter = c.args.meter.now } in
      let new : Ends = record { held = g.S.Source.held c.list.new.source; ranges = g.S.Source.ranges c.list.new.source; source = nameless (g.S.Source.tally c.list.new.source); sink = sink; text = record { contents = g.T.Text.contents c.list.new.text; tally = g.T.Text.tally c.list.new.text }; meter = c.list.new.meter } in
      subst (λ (j : Job). IsPromised (record { job = j; workers = c.args.request.now.workers; strict = c.args.request.now.strict; memory = c.args.request.now.memory; input = c.args.request.now.input.now; output = c.args.request.now.output.now }) old new c.list.result) (sym c.requires.job)
      (listed _ old new c.list.result (text_promised ListHdus lists c.args.request.now.workers c.args.request.now.strict refl c.args.request.now.memory c.args.request.now.input.now c.args.request.now.output.now old new refl empty c.list.result
      (record {
        of_file = tt;
        lines = rw held at c.list.ensures.lines;
        first_fault = rw held at c.list.ensures.first_fault;
        answered = answers_from (g.S.Source.tally c.args.source.now) (g.S.Source.tally c.attach.new.source) (g.S.Source.tally c.list.new.source) tally ListHdus (g.S.Source.held c.args.source.now) (g.T.Text.tally c.args.text.now) (g.T.Text.tally c.list.new.text) (min c.args.meter.now.limit c.args.request.now.memory) 1 c.list.result (rw (held, limit) at c.list.ensures.answered);
        cause = cause_from (g.S.Source.tally c.args.source.now) (g.S.Source.tally c.attach.new.source) (g.S.Source.tally c.list.new.source) tally ListHdus (g.S.Source.held c.args.source.now) (g.T.Text.tally c.args.text.now) (g.T.Text.tally c.list.new.text) (min c.args.meter.now.limit c.args.request.now.memory) 1 c.list.result (rw (held, limit) at c.list.ensures.cause);
        silent = rw (held, limit) at c.list.ensures.silent;
        live = c.list.ensures.buffers.live;
        limit_is = rw limit at c.list.ensures.buffers.limit;
        peak = rw (held, none) at c.list.ensures.buffers.peak;
        exact = rw (held, none) at c.list.ensures.exact_peak;
        unread = rw (ranges, limit) at c.list.ensures.unread;
        most = rw none at c.list.ensures.buffers.most;
        held_is = rw held at c.list.ensures.kept.held_is;
        touched = rw (held, ranges) at c.list.ensures.touched;
        told_ranges = rw ranges at c.list.ensures.stays.0;
        told = c.list.ensures.stays.1;
        source_counts = kept_from (g.S.Source.tally c.args.source.now) (g.S.Source.tally c.attach.new.source) (g.S.Source.tally c.list.new.source) tally c.list.ensures.kept.source_counts;
        text_counts = c.list.ensures.kept.sink_counts;
      })));
  names = λ made. subst (λ (j : Job). JobNames (record { job = j; workers = c.args.request.now.workers; strict = c.args.request.now.strict; memory = c.args.request.now.memory; input = c.args.request.now.input.now; output = c.args.request.now.output.now }) (g.S.Source.tally c.args.source.now).names (g.S.Source.tally c.list.new.source).names made made c.list.result) (sym c.requires.job) (record { source = once_more c.args.request.now.input.now (g.S.Source.tally c.args.source.now).names (g.S.Source.tally c.attach.new.source).names (g.S.Source.tally c.list.new.source).names c.list.result c.in_ok-length.ensures.names.done c.list.ensures.kept.source_counts.names_kept; sink = refl });
}

pub returns-in_err-length-clause-promised : goal.returns-in_err-length-clause-promised
returns-in_err-length-clause-promised g c = λ sink empty.
    let held : Option (List ℕ) = g.S.Source.held c.args.source.now in
    let old : Option (List (ℕ × ℕ)) = g.S.Source.ranges c.args.source.now in
    let new : Option (List (ℕ × ℕ)) = g.S.Source.ranges c.attach.new.source in
    let asked : ReadsTouched c.args.request.now.job held old new = nothing_read c.args.request.now.job held old new c.attach.ensures.stays.1 in
    let of_list : IfSome held (λ file. LogsIn (header_ranges ListHdus file) old new) = nothing_read ListHdus held old new c.attach.ensures.stays.1 in
    search rules
