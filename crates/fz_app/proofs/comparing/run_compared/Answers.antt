-- The file is compared, and then verified; the promises are those of the other order.
use Rattle.std.proofs.Common.{◌≡◌, ℕ, ◌≤◌, max, min, Bool, true, List, Option, Result, Ok, Err, refl, sym, ap, ◌∙◌, subst, arith, rules}
use Rattle.std.specs.Prelude.{IsSome}
use Rattle.fz_base.specs.Counts.{Tally, nameless}
use Rattle.fz_base.specs.Meter.{Gauge, narrowed}
use Rattle.fz_base.specs.Stop.{StoppedByCoding}
use Rattle.fz_base.specs.declared.failure.Stop.{Stop}
use Rattle.fz_base.specs.declared.fault.Fault.{Fault}
use Rattle.fz_files.specs.Buffers.{job_bound}
use Rattle.fz_files.specs.declared.job.Job.TheVariants.{Verify}
use Rattle.fz_words.specs.Jobs.{Asked}
use Rattle.fz_words.specs.Seen.{asked_of}
use Rattle.fz_app.specs.Answer.{done_of}
use Rattle.fz_app.specs.Ends.{Ends, TextIs, ends, text_is}
use Rattle.fz_app.specs.Found.{found_of}
use Rattle.fz_app.specs.Promised.{IsPromised}
use Rattle.fz_app.proofs.CutAnswers.{nothing_read}
use Rattle.fz_app.proofs.StrictAnswers.{right_by}
use Rattle.fz_app.proofs.StrictFirst.{PrintSays, StopsBefore, StrictSays, VerifySays, always, asked_with, at_last, before_promised, found_quiet, last_promised, stop_of, stop_promised, stopped_says, strict_from, strict_said}
use Rattle.fz_app.proofs.Tallies.{answers_from, cause_from, kept_from}
use Rattle.fz_app.proofs.comparing.run_compared.Goals as goal

-- ---- the run stopped before the first line

pub returns-in_err-length-clause-promised : goal.returns-in_err-length-clause-promised
returns-in_err-length-clause-promised g c = λ sink empty.
    let W : ℕ = c.args.request.now.workers in
    let memory : ℕ = c.args.request.now.memory in
    let input : List ℕ = c.args.request.now.input.now in
    let output : List ℕ = c.args.request.now.output.now in
    let limit : ℕ = min c.args.meter.now.limit memory in
    let asks : asked_of c.args.request.now ≡ asked_with W memory input output true = λ i. record { job = c.requires.job i; workers = W; strict = c.requires.strict i; memory = memory; input = input; output = output } in
    let told : Option (List ℕ) = g.S.Source.held c.args.source.now in
    let before : Tally = g.S.Source.tally c.args.source.now in
    let text : TextIs = text_is (g.T.Text.contents c.args.text.now) (g.T.Text.tally c.args.text.now) in
    let old : Ends = ends told (g.S.Source.ranges c.args.source.now) (nameless before) sink text c.args.meter.now in
    let held : g.S.Source.held c.begin.new.source ≡ told = c.begin.ensures.stays.0 in
    let ranges : g.S.Source.ranges c.begin.new.source ≡ g.S.Source.ranges c.args.source.now = c.begin.ensures.stays.1 in
    let meter : c.begin.new.meter ≡ narrowed c.args.meter.now memory = c.begin.ensures.narrowed in
    let most : c.begin.new.meter.limit ≡ limit = ap (λ (m : Gauge). m.limit) meter in
    let none : c.begin.new.meter.peak ≡ 0 = search rules in
    let stop : Stop = c.in_err-length.field-0.0 in
    let stopped : c.from_residual.result ≡ Err stop = search rules in
    let new : Ends = ends (g.S.Source.held c.begin.new.source) (g.S.Source.ranges c.begin.new.source) (nameless (g.S.Source.tally c.begin.new.source)) sink text c.begin.new.meter in
    let says : StopsBefore told limit old new = record {
      text = refl;
      live = ap (λ (m : Gauge). m.live) meter ∙ c.requires.unused.0;
      limit_is = most;
      peak = always told (λ file. c.begin.new.meter.peak ≤ max 0 (job_bound Verify file 1)) (λ file. omega (arith, none));
      most = omega (arith, none);
      held_is = held;
      touched = nothing_read Verify told (g.S.Source.ranges c.args.source.now) (g.S.Source.ranges c.begin.new.source) ranges;
      told_ranges = λ shown. subst (λ (rs : Option (List (ℕ × ℕ))). IsSome rs) (sym ranges) shown;
      source_counts = c.in_err-length.ensures.cause.kept;
    } in
    subst (λ (r : Result Bool Stop). IsPromised (asked_of c.args.request.now) old new (done_of r)) (sym stopped)
    (subst (λ (a : Asked). IsPromised a old new (Err stop)) (sym asks) (before_promised c.first_fault_law.ensures.only W memory input output old new refl empty stop c.requires.ample says c.in_err-length.ensures.cause.stop))

pub returns-in_err-found-clause-promised : goal.returns-in_err-found-clause-promised
returns-in_err-found-clause-promised g c = λ sink empty.
    let W : ℕ = c.args.request.now.workers in
    let memory : ℕ = c.args.request.now.memory in
    let input : List ℕ = c.args.request.now.input.now in
    let output : List ℕ = c.args.request.now.output.now in
    let limit : ℕ = min c.args.meter.now.limit memory in
    let asks : asked_of c.args.request.now ≡ asked_with W memory input output true = λ i. record { job = c.requires.job i; workers = W; strict = c.requires.strict i; memory = memory; input = input; output = output } in
    let told : Option (List ℕ) = g.S.Source.held c.args.source.now in
    let before : Tally = g.S.Source.tally c.args.source.now in
    let text : TextIs = text_is (g.T.Text.contents c.args.text.now) (g.T.Text.tally c.args.text.now) in
    let old : Ends = ends told (g.S.Source.ranges c.args.source.now) (nameless before) sink text c.args.meter.now in
    let held : g.S.Source.held c.begin.new.source ≡ told = c.begin.ensures.stays.0 in
    let ranges : g.S.Source.ranges c.begin.new.source ≡ g.S.Source.ranges c.args.source.now = c.begin.ensures.stays.1 in
    let meter : c.begin.new.meter ≡ narrowed c.args.meter.now memory = c.begin.ensures.narrowed in
    let most : c.begin.new.meter.limit ≡ limit = ap (λ (m : Gauge). m.limit) meter in
    let none : c.begin.new.meter.peak ≡ 0 = search rules in
    let opened : Tally = g.S.Source.tally c.begin.new.source in
    let tally : nameless opened ≡ nameless before = c.in_ok-length.ensures.cause.ok in
    let after : Tally = g.S.Source.tally c.strict_decoded-answer.new.source in
    let mid : Ends =
    ends (g.S.Source.held c.strict_decoded-answer.new.source) (g.S.Source.ranges c.strict_decoded-answer.new.source) (nameless after) sink text
    c.strict_decoded-answer.new.meter in
    let compared : StrictSays told limit old mid c.strict_decoded-answer.result.0 = record {
      right = rw held at c.strict_decoded-answer.ensures.right;
      first_fault = rw held at c.strict_decoded-answer.ensures.first_fault;
      cause = strict_from before opened after tally told limit c.strict_decoded-answer.result.0 (rw (held, most) at c.strict_decoded-answer.ensures.cause);
      live = c.strict_decoded-answer.ensures.buffers.live;
      limit_is = c.strict_decoded-answer.ensures.buffers.limit ∙ most;
      peak = rw (held, none) at c.strict_decoded-answer.ensures.buffers.peak;
      most = rw none at c.strict_decoded-answer.ensures.buffers.most;
      exact = rw (held, none) at c.strict_decoded-answer.ensures.exact_peak;
      held_is = c.strict_decoded-answer.ensures.kept.held_is ∙ held;
      touched = rw (held, ranges) at c.strict_decoded-answer.ensures.touched;
      told_ranges = rw ranges at c.strict_decoded-answer.ensures.told;
      source_counts = kept_from before opened after tally c.strict_decoded-answer.ensures.kept.source_counts;
    } in
    let stop : Stop = c.in_err-found.field-0.0 in
    let stopped : c.from_residual-in_err-found.result ≡ Err stop = search rules in
    let is : c.found_by.result ≡ Err stop = search rules in
    let says : StopsBefore told limit old mid = record {
      text = refl;
      live = compared.live;
      limit_is = compared.limit_is;
      peak = compared.peak;
      most = compared.most;
      held_is = compared.held_is;
      touched = compared.touched;
      told_ranges = compared.told_ranges;
      source_counts = compared.source_counts;
    } in
    let why : StoppedByCoding (nameless before) (nameless after) stop =
    stop_of told (nameless before) (nameless after) limit c.strict_decoded-answer.result.0 stop c.requires.ample compared.cause (sym c.found_by.ensures ∙ is) in
    subst (λ (r : Result Bool Stop). IsPromised (asked_of c.args.request.now) old mid (done_of r)) (sym stopped)
    (subst (λ (a : Asked). IsPromised a old mid (Err stop)) (sym asks) (before_promised c.first_fault_law.ensures.only W memory input output old mid refl empty stop c.requires.ample says why))

-- ---- the file was compared

pub returns-in_err-right-clause-promised : goal.returns-in_err-right-clause-promised
returns-in_err-right-clause-promised g c = λ sink empty.
    let W : ℕ = c.args.request.now.workers in
    let memory : ℕ = c.args.request.now.memory in
    let input : List ℕ = c.args.request.now.input.now in
    let output : List ℕ = c.args.request.now.output.now in
    let limit : ℕ = min c.args.meter.now.limit memory in
    let asks : asked_of c.args.request.now ≡ asked_with W memory input output true = λ i. record { job = c.requires.job i; workers = W; strict = c.requires.strict i; memory = memory; input = input; output = output } in
    let told : Option (List ℕ) = g.S.Source.held c.args.source.now in
    let before : Tally = g.S.Source.tally c.args.source.now in
    let text : TextIs = text_is (g.T.Text.contents c.args.text.now) (g.T.Text.tally c.args.text.now) in
    let old : Ends = ends told (g.S.Source.ranges c.args.source.now) (nameless before) sink text c.args.meter.now in
    let held : g.S.Source.held c.begin.new.source ≡ told = c.begin.ensures.stays.0 in
    let ranges : g.S.Source.ranges c.begin.new.source ≡ g.S.Source.ranges c.args.source.now = c.begin.ensures.stays.1 in
    let meter : c.begin.new.meter ≡ narrowed c.args.meter.now memory = c.begin.ensures.narrowed in
    let most : c.begin.new.meter.limit ≡ limit = ap (λ (m : Gauge). m.limit) meter in
    let none : c.begin.new.meter.peak ≡ 0 = search rules in
    let opened : Tally = g.S.Source.tally c.begin.new.source in
    let tally : nameless opened ≡ nameless before = c.in_ok-length.ensures.cause.ok in
    let after : Tally = g.S.Source.tally c.strict_decoded-answer.new.source in
    let mid : Ends =
    ends (g.S.Source.held c.strict_decoded-answer.new.source) (g.S.Source.ranges c.strict_decoded-answer.new.source) (nameless after) sink text
    c.strict_decoded-answer.new.meter in
    let compared : StrictSays told limit old mid c.strict_decoded-answer.result.0 = record {
      right = rw held at c.strict_decoded-answer.ensures.right;
      first_fault = rw held at c.strict_decoded-answer.ensures.first_fault;
      cause = strict_from before opened after tally told limit c.strict_decoded-answer.result.0 (rw (held, most) at c.strict_decoded-answer.ensures.cause);
      live = c.strict_decoded-answer.ensures.buffers.live;
      limit_is = c.strict_decoded-answer.ensures.buffers.limit ∙ most;
      peak = rw (held, none) at c.strict_decoded-answer.ensures.buffers.peak;
      most = rw none at c.strict_decoded-answer.ensures.buffers.most;
      exact = rw (held, none) at c.strict_decoded-answer.ensures.exact_peak;
      held_is = c.strict_decoded-answer.ensures.kept.held_is ∙ held;
      touched = rw (held, ranges) at c.strict_decoded-answer.ensures.touched;
      told_ranges = rw ranges at c.strict_decoded-answer.ensures.told;
      source_counts = kept_from before opened after tally c.strict_decoded-answer.ensures.kept.source_counts;
    } in
    let found : Result Bool Fault = c.in_ok-found.found in
    let is : c.found_by.result ≡ Ok found = search rules in
    let finds : found_of c.strict_decoded-answer.result.0 ≡ Ok found = sym c.found_by.ensures ∙ is in
    let there : g.S.Source.held c.strict_decoded-answer.new.source ≡ told = c.strict_decoded-answer.ensures.kept.held_is ∙ held in
    let same : c.strict_decoded-answer.new.meter.limit ≡ limit = c.strict_decoded-answer.ensures.buffers.limit ∙ most in
    let quiet : nameless after ≡ nameless before =
    ap nameless (found_quiet (g.S.Source.held c.begin.new.source) opened after c.begin.new.meter.limit c.strict_decoded-answer.result.0 found
    c.strict_decoded-answer.ensures.cause finds) ∙ tally in
    let last : Tally = g.S.Source.tally c.verify_decoded.new.source in
    let lines : TextIs = text_is (g.T.Text.contents c.verify_decoded.new.text) (g.T.Text.tally c.verify_decoded.new.text) in
    let new : Ends =
    ends (g.S.Source.held c.verify_decoded.new.source) (g.S.Source.ranges c.verify_decoded.new.source) (nameless last) sink lines
    c.verify_decoded.new.meter in
    let says : VerifySays told limit old mid new c.verify_decoded.result = record {
      lines = rw there at c.verify_decoded.ensures.lines;
      first_fault = rw there at c.verify_decoded.ensures.first_fault;
      answered = answers_from before after last quiet Verify told text.tally lines.tally limit 1 c.verify_decoded.result
          (rw (there, same) at c.verify_decoded.ensures.answered);
      cause = cause_from before after last quiet Verify told text.tally lines.tally limit 1 c.verify_decoded.result
          (rw (there, same) at c.verify_decoded.ensures.cause);
      silent = rw (there, same) at c.verify_decoded.ensures.silent;
      live = c.verify_decoded.ensures.buffers.live;
      limit_is = c.verify_decoded.ensures.buffers.limit ∙ same;
      peak = rw there at c.verify_decoded.ensures.buffers.peak;
      most = c.verify_decoded.ensures.buffers.most;
      exact = rw there at c.verify_decoded.ensures.exact_peak;
      held_is = c.verify_decoded.ensures.kept.held_is ∙ there;
      touched = rw there at c.verify_decoded.ensures.touched;
      told_ranges = c.verify_decoded.ensures.told_ranges;
      told = c.verify_decoded.ensures.told_contents;
      source_counts = kept_from before after last quiet c.verify_decoded.ensures.kept.source_counts;
      text_counts = c.verify_decoded.ensures.kept.sink_counts;
    } in
    let stop : Stop = c.in_err-right.field-0.0 in
    let stopped : c.from_residual-in_err-right.result ≡ Err stop = search rules in
    let ends_so : c.verify_decoded.result ≡ Err stop = search rules in
    let verified : VerifySays told limit old mid new (Err stop) = subst (λ (r : Result Bool Stop). VerifySays told limit old mid new r) ends_so says in
    subst (λ (r : Result Bool Stop). IsPromised (asked_of c.args.request.now) old new (done_of r)) (sym stopped)
    (subst (λ (a : Asked). IsPromised a old new (Err stop)) (sym asks) (stop_promised c.first_fault_law.ensures.only W memory input output old new refl empty Bool stop
    (stopped_says c.ranges_law.ensures.join limit W old mid new c.requires.ample c.strict_decoded-answer.result.0 compared stop verified)))

-- ---- and verified

pub returns-in_err-same-clause-promised : goal.returns-in_err-same-clause-promised
returns-in_err-same-clause-promised g c = λ sink empty.
    let W : ℕ = c.args.request.now.workers in
    let memory : ℕ = c.args.request.now.memory in
    let input : List ℕ = c.args.request.now.input.now in
    let output : List ℕ = c.args.request.now.output.now in
    let limit : ℕ = min c.args.meter.now.limit memory in
    let asks : asked_of c.args.request.now ≡ asked_with W memory input output true = λ i. record { job = c.requires.job i; workers = W; strict = c.requires.strict i; memory = memory; input = input; output = output } in
    let told : Option (List ℕ) = g.S.Source.held c.args.source.now in
    let before : Tally = g.S.Source.tally c.args.source.now in
    let text : TextIs = text_is (g.T.Text.contents c.args.text.now) (g.T.Text.tally c.args.text.now) in
    let old : Ends = ends told (g.S.Source.ranges c.args.source.now) (nameless before) sink text c.args.meter.now in
    let held : g.S.Source.held c.begin.new.source ≡ told = c.begin.ensures.stays.0 in
    let ranges : g.S.Source.ranges c.begin.new.source ≡ g.S.Source.ranges c.args.source.now = c.begin.ensures.stays.1 in
    let meter : c.begin.new.meter ≡ narrowed c.args.meter.now memory = c.begin.ensures.narrowed in
    let most : c.begin.new.meter.limit ≡ limit = ap (λ (m : Gauge). m.limit) meter in
    let none : c.begin.new.meter.peak ≡ 0 = search rules in
    let opened : Tally = g.S.Source.tally c.begin.new.source in
    let tally : nameless opened ≡ nameless before = c.in_ok-length.ensures.cause.ok in
    let after : Tally = g.S.Source.tally c.strict_decoded-answer.new.source in
    let mid : Ends =
    ends (g.S.Source.held c.strict_decoded-answer.new.source) (g.S.Source.ranges c.strict_decoded-answer.new.source) (nameless after) sink text
    c.strict_decoded-answer.new.meter in
    let compared : StrictSays told limit old mid c.strict_decoded-answer.result.0 = record {
      right = rw held at c.strict_decoded-answer.ensures.right;
      first_fault = rw held at c.strict_decoded-answer.ensures.first_fault;
      cause = strict_from before opened after tally told limit c.strict_decoded-answer.result.0 (rw (held, most) at c.strict_decoded-answer.ensures.cause);
      live = c.strict_decoded-answer.ensures.buffers.live;
      limit_is = c.strict_decoded-answer.ensures.buffers.limit ∙ most;
      peak = rw (held, none) at c.strict_decoded-answer.ensures.buffers.peak;
      most = rw none at c.strict_decoded-answer.ensures.buffers.most;
      exact = rw (held, none) at c.strict_decoded-answer.ensures.exact_peak;
      held_is = c.strict_decoded-answer.ensures.kept.held_is ∙ held;
      touched = rw (held, ranges) at c.strict_decoded-answer.ensures.touched;
      told_ranges = rw ranges at c.strict_decoded-answer.ensures.told;
      source_counts = kept_from before opened after tally c.strict_decoded-answer.ensures.kept.source_counts;
    } in
    let found : Result Bool Fault = c.in_ok-found.found in
    let is : c.found_by.result ≡ Ok found = search rules in
    let finds : found_of c.strict_decoded-answer.result.0 ≡ Ok found = sym c.found_by.ensures ∙ is in
    let there : g.S.Source.held c.strict_decoded-answer.new.source ≡ told = c.strict_decoded-answer.ensures.kept.held_is ∙ held in
    let same : c.strict_decoded-answer.new.meter.limit ≡ limit = c.strict_decoded-answer.ensures.buffers.limit ∙ most in
    let quiet : nameless after ≡ nameless before =
    ap nameless (found_quiet (g.S.Source.held c.begin.new.source) opened after c.begin.new.meter.limit c.strict_decoded-answer.result.0 found
    c.strict_decoded-answer.ensures.cause finds) ∙ tally in
    let last : Tally = g.S.Source.tally c.verify_decoded.new.source in
    let lines : TextIs = text_is (g.T.Text.contents c.verify_decoded.new.text) (g.T.Text.tally c.verify_decoded.new.text) in
    let new : Ends =
    ends (g.S.Source.held c.verify_decoded.new.source) (g.S.Source.ranges c.verify_decoded.new.source) (nameless last) sink lines
    c.verify_decoded.new.meter in
    let says : VerifySays told limit old mid new c.verify_decoded.result = record {
      lines = rw there at c.verify_decoded.ensures.lines;
      first_fault = rw there at c.verify_decoded.ensures.first_fault;
      answered = answers_from before after last quiet Verify told text.tally lines.tally limit 1 c.verify_decoded.result
          (rw (there, same) at c.verify_decoded.ensures.answered);
      cause = cause_from before after last quiet Verify told text.tally lines.tally limit 1 c.verify_decoded.result
          (rw (there, same) at c.verify_decoded.ensures.cause);
      silent = rw (there, same) at c.verify_decoded.ensures.silent;
      live = c.verify_decoded.ensures.buffers.live;
      limit_is = c.verify_decoded.ensures.buffers.limit ∙ same;
      peak = rw there at c.verify_decoded.ensures.buffers.peak;
      most = c.verify_decoded.ensures.buffers.most;
      exact = rw there at c.verify_decoded.ensures.exact_peak;
      held_is = c.verify_decoded.ensures.kept.held_is ∙ there;
      touched = rw there at c.verify_decoded.ensures.touched;
      told_ranges = c.verify_decoded.ensures.told_ranges;
      told = c.verify_decoded.ensures.told_contents;
      source_counts = kept_from before after last quiet c.verify_decoded.ensures.kept.source_counts;
      text_counts = c.verify_decoded.ensures.kept.sink_counts;
    } in
    let right : Bool = c.in_ok-right.right in
    let ends_so : c.verify_decoded.result ≡ Ok right = search rules in
    let verified : VerifySays told limit old mid new (Ok right) = subst (λ (r : Result Bool Stop). VerifySays told limit old mid new r) ends_so says in
    let stop : Stop = c.in_err-same.field-0.0 in
    let stopped : c.from_residual-in_err-same.result ≡ Err stop = search rules in
    let line : TextIs = text_is (g.T.Text.contents c.print_found.new.text) (g.T.Text.tally c.print_found.new.text) in
    let prints : PrintSays limit new line found (Err stop) = record {
      right = tt;
      line = tt;
      front = c.in_err-same.ensures.front;
      silent = c.in_err-same.ensures.silent;
      refused = c.in_err-same.ensures.refused;
      over_limit = c.in_err-same.ensures.over_limit;
      cause = c.in_err-same.ensures.cause (nameless last) limit;
      told = c.in_err-same.ensures.stays.0;
      counts = c.in_err-same.ensures.stays.1;
    } in
    subst (λ (r : Result Bool Stop). IsPromised (asked_of c.args.request.now) old (at_last new line) (done_of r)) (sym stopped)
    (subst (λ (a : Asked). IsPromised a old (at_last new line) (Err stop)) (sym asks)
    (last_promised c.first_fault_law.ensures.only c.ranges_law.ensures.join W memory input output old mid new line refl empty c.requires.ample
    c.strict_decoded-answer.result.0 compared found finds right c.in_ok-right.ensures.reported verified (Err stop) prints))

pub returns-clause-promised : goal.returns-clause-promised
returns-clause-promised g c = λ sink empty.
    let W : ℕ = c.args.request.now.workers in
    let memory : ℕ = c.args.request.now.memory in
    let input : List ℕ = c.args.request.now.input.now in
    let output : List ℕ = c.args.request.now.output.now in
    let limit : ℕ = min c.args.meter.now.limit memory in
    let asks : asked_of c.args.request.now ≡ asked_with W memory input output true = λ i. record { job = c.requires.job i; workers = W; strict = c.requires.strict i; memory = memory; input = input; output = output } in
    let told : Option (List ℕ) = g.S.Source.held c.args.source.now in
    let before : Tally = g.S.Source.tally c.args.source.now in
    let text : TextIs = text_is (g.T.Text.contents c.args.text.now) (g.T.Text.tally c.args.text.now) in
    let old : Ends = ends told (g.S.Source.ranges c.args.source.now) (nameless before) sink text c.args.meter.now in
    let held : g.S.Source.held c.begin.new.source ≡ told = c.begin.ensures.stays.0 in
    let ranges : g.S.Source.ranges c.begin.new.source ≡ g.S.Source.ranges c.args.source.now = c.begin.ensures.stays.1 in
    let meter : c.begin.new.meter ≡ narrowed c.args.meter.now memory = c.begin.ensures.narrowed in
    let most : c.begin.new.meter.limit ≡ limit = ap (λ (m : Gauge). m.limit) meter in
    let none : c.begin.new.meter.peak ≡ 0 = search rules in
    let opened : Tally = g.S.Source.tally c.begin.new.source in
    let tally : nameless opened ≡ nameless before = c.in_ok-length.ensures.cause.ok in
    let after : Tally = g.S.Source.tally c.strict_decoded-answer.new.source in
    let mid : Ends =
    ends (g.S.Source.held c.strict_decoded-answer.new.source) (g.S.Source.ranges c.strict_decoded-answer.new.source) (nameless after) sink text
    c.strict_decoded-answer.new.meter in
    let compared : StrictSays told limit old mid c.strict_decoded-answer.result.0 = record {
      right = rw held at c.strict_decoded-answer.ensures.right;
      first_fault = rw held at c.strict_decoded-answer.ensures.first_fault;
      cause = strict_from before opened after tally told limit c.strict_decoded-answer.result.0 (rw (held, most) at c.strict_decoded-answer.ensures.cause);
      live = c.strict_decoded-answer.ensures.buffers.live;
      limit_is = c.strict_decoded-answer.ensures.buffers.limit ∙ most;
      peak = rw (held, none) at c.strict_decoded-answer.ensures.buffers.peak;
      most = rw none at c.strict_decoded-answer.ensures.buffers.most;
      exact = rw (held, none) at c.strict_decoded-answer.ensures.exact_peak;
      held_is = c.strict_decoded-answer.ensures.kept.held_is ∙ held;
      touched = rw (held, ranges) at c.strict_decoded-answer.ensures.touched;
      told_ranges = rw ranges at c.strict_decoded-answer.ensures.told;
      source_counts = kept_from before opened after tally c.strict_decoded-answer.ensures.kept.source_counts;
    } in
    let found : Result Bool Fault = c.in_ok-found.found in
    let is : c.found_by.result ≡ Ok found = search rules in
    let finds : found_of c.strict_decoded-answer.result.0 ≡ Ok found = sym c.found_by.ensures ∙ is in
    let there : g.S.Source.held c.strict_decoded-answer.new.source ≡ told = c.strict_decoded-answer.ensures.kept.held_is ∙ held in
    let same : c.strict_decoded-answer.new.meter.limit ≡ limit = c.strict_decoded-answer.ensures.buffers.limit ∙ most in
    let quiet : nameless after ≡ nameless before =
    ap nameless (found_quiet (g.S.Source.held c.begin.new.source) opened after c.begin.new.meter.limit c.strict_decoded-answer.result.0 found
    c.strict_decoded-answer.ensures.cause finds) ∙ tally in
    let last : Tally = g.S.Source.tally c.verify_decoded.new.source in
    let lines : TextIs = text_is (g.T.Text.contents c.verify_decoded.new.text) (g.T.Text.tally c.verify_decoded.new.text) in
    let new : Ends =
    ends (g.S.Source.held c.verify_decoded.new.source) (g.S.Source.ranges c.verify_decoded.new.source) (nameless last) sink lines
    c.verify_decoded.new.meter in
    let says : VerifySays told limit old mid new c.verify_decoded.result = record {
      lines = rw there at c.verify_decoded.ensures.lines;
      first_fault = rw there at c.verify_decoded.ensures.first_fault;
      answered = answers_from before after last quiet Verify told text.tally lines.tally limit 1 c.verify_decoded.result
          (rw (there, same) at c.verify_decoded.ensures.answered);
      cause = cause_from before after last quiet Verify told text.tally lines.tally limit 1 c.verify_decoded.result
          (rw (there, same) at c.verify_decoded.ensures.cause);
      silent = rw (there, same) at c.verify_decoded.ensures.silent;
      live = c.verify_decoded.ensures.buffers.live;
      limit_is = c.verify_decoded.ensures.buffers.limit ∙ same;
      peak = rw there at c.verify_decoded.ensures.buffers.peak;
      most = c.verify_decoded.ensures.buffers.most;
      exact = rw there at c.verify_decoded.ensures.exact_peak;
      held_is = c.verify_decoded.ensures.kept.held_is ∙ there;
      touched = rw there at c.verify_decoded.ensures.touched;
      told_ranges = c.verify_decoded.ensures.told_ranges;
      told = c.verify_decoded.ensures.told_contents;
      source_counts = kept_from before after last quiet c.verify_decoded.ensures.kept.source_counts;
      text_counts = c.verify_decoded.ensures.kept.sink_counts;
    } in
    let right : Bool = c.in_ok-right.right in
    let ends_so : c.verify_decoded.result ≡ Ok right = search rules in
    let verified : VerifySays told limit old mid new (Ok right) = subst (λ (r : Result Bool Stop). VerifySays told limit old mid new r) ends_so says in
    let strict : Bool = c.in_ok-same.same in
    let line : TextIs = text_is (g.T.Text.contents c.print_found.new.text) (g.T.Text.tally c.print_found.new.text) in
    let prints : PrintSays limit new line found (Ok strict) = record {
      right = c.in_ok-same.ensures.right;
      line = c.in_ok-same.ensures.line;
      front = c.in_ok-same.ensures.front;
      silent = c.in_ok-same.ensures.silent;
      refused = tt;
      over_limit = tt;
      cause = c.in_ok-same.ensures.cause (nameless last) limit;
      told = c.in_ok-same.ensures.stays.0;
      counts = c.in_ok-same.ensures.stays.1;
    } in
    subst (λ (a : Asked). IsPromised a old (at_last new line) (Ok tt)) (sym asks)
    (last_promised c.first_fault_law.ensures.only c.ranges_law.ensures.join W memory input output old mid new line refl empty c.requires.ample
    c.strict_decoded-answer.result.0 compared found finds right c.in_ok-right.ensures.reported verified (Ok strict) prints)

pub returns-clause-right : goal.returns-clause-right
returns-clause-right g c =
    let told : Option (List ℕ) = g.S.Source.held c.args.source.now in
    let held : g.S.Source.held c.begin.new.source ≡ told = c.begin.ensures.stays.0 in
    let there : g.S.Source.held c.strict_decoded-answer.new.source ≡ told = c.strict_decoded-answer.ensures.kept.held_is ∙ held in
    let found : Result Bool Fault = c.in_ok-found.found in
    let is : c.found_by.result ≡ Ok found = search rules in
    right_by true told c.in_ok-right.right c.in_ok-same.same refl (rw there at c.in_ok-right.ensures.right)
    (strict_said told c.strict_decoded-answer.result.0 found c.in_ok-same.same (rw held at c.strict_decoded-answer.ensures.right)
    (sym c.found_by.ensures ∙ is) c.in_ok-same.ensures.right)
