-- What is promised of `verify`, and of the comparison after it if that is asked.
use Rattle.std.specs.Prelude.{Result, Ok, Err}
use Rattle.fz_base.specs.declared.failure.Stop.{Stop}
use Rattle.std.proofs.Common.{◌≡◌, ℕ, Bool, true, false, List, Option, IfSome, refl, sym, subst, rules}
use Rattle.fz_base.specs.Counts.{nameless}
use Rattle.fz_files.specs.declared.job.Job.{Job}
use Rattle.fz_files.specs.declared.job.Job.TheVariants.{Verify}
use Rattle.fz_job.specs.Clauses.{TellsFirstFault}
use Rattle.fz_app.specs.Answer.{IsRightBy, done_of}
use Rattle.fz_app.specs.Ends.{Ends}
use Rattle.fz_app.specs.Names.{JobNames}
use Rattle.fz_app.specs.Printed.{ReportsBy}
use Rattle.fz_app.specs.Promised.{IsPromised}
use Rattle.fz_app.proofs.StrictAnswers.{ComparedSays, any_stopped, compared, compares_nameless, names_after, reports_by, right_by}
use Rattle.fz_app.proofs.Tallies.{kept_nameless}
use Rattle.fz_app.proofs.run_job.run_verify.Goals as goal

pub returns-in_err-length-clause-promised : goal.returns-in_err-length-clause-promised
returns-in_err-length-clause-promised g c = λ sink empty.
    let old : Ends = record { held = g.S.Source.held c.args.source.now; ranges = g.S.Source.ranges c.args.source.now; source = nameless (g.S.Source.tally c.args.source.now); sink = sink; text = record { contents = g.T.Text.contents c.args.text.now; tally = g.T.Text.tally c.args.text.now }; meter = c.args.meter.now } in
    let new : Ends = record { held = g.S.Source.held c.verify_sums.new.source; ranges = g.S.Source.ranges c.verify_sums.new.source; source = nameless (g.S.Source.tally c.verify_sums.new.source); sink = sink; text = record { contents = g.T.Text.contents c.verify_sums.new.text; tally = g.T.Text.tally c.verify_sums.new.text }; meter = c.verify_sums.new.meter } in
    let plain : IsPromised (record { job = c.args.request.now.job; workers = c.args.request.now.workers; strict = false; memory = c.args.request.now.memory; input = c.args.request.now.input.now; output = c.args.request.now.output.now }) old new (Err c.in_err-length.field-0.0) = c.in_err-length.ensures.promised sink empty in
    let first : IsPromised (record { job = Verify; workers = c.args.request.now.workers; strict = false; memory = c.args.request.now.memory; input = c.args.request.now.input.now; output = c.args.request.now.output.now }) old new (Err c.in_err-length.field-0.0) = subst (λ (j : Job). IsPromised (record { job = j; workers = c.args.request.now.workers; strict = false; memory = c.args.request.now.memory; input = c.args.request.now.input.now; output = c.args.request.now.output.now }) old new (Err c.in_err-length.field-0.0)) c.requires.job plain in
    let stopped : c.from_residual.result ≡ Err c.in_err-length.field-0.0 = search rules in
    subst (λ (r : Result Bool Stop). IsPromised (record { job = c.args.request.now.job; workers = c.args.request.now.workers; strict = c.args.request.now.strict; memory = c.args.request.now.memory; input = c.args.request.now.input.now; output = c.args.request.now.output.now }) old new (done_of r)) (sym stopped)
    (subst (λ (j : Job). IsPromised (record { job = j; workers = c.args.request.now.workers; strict = c.args.request.now.strict; memory = c.args.request.now.memory; input = c.args.request.now.input.now; output = c.args.request.now.output.now }) old new (Err c.in_err-length.field-0.0)) (sym c.requires.job)
    (any_stopped c.first_fault_law.ensures.only c.args.request.now.workers c.args.request.now.memory c.args.request.now.input.now c.args.request.now.output.now old new c.args.request.now.strict c.in_err-length.field-0.0 first))

pub returns-then-not-request-clause-promised : goal.returns-then-not-request-clause-promised
returns-then-not-request-clause-promised g c = λ sink empty.
    let strict : c.args.request.now.strict ≡ false = search rules in
    let old : Ends = record { held = g.S.Source.held c.args.source.now; ranges = g.S.Source.ranges c.args.source.now; source = nameless (g.S.Source.tally c.args.source.now); sink = sink; text = record { contents = g.T.Text.contents c.args.text.now; tally = g.T.Text.tally c.args.text.now }; meter = c.args.meter.now } in
    let new : Ends = record { held = g.S.Source.held c.verify_sums.new.source; ranges = g.S.Source.ranges c.verify_sums.new.source; source = nameless (g.S.Source.tally c.verify_sums.new.source); sink = sink; text = record { contents = g.T.Text.contents c.verify_sums.new.text; tally = g.T.Text.tally c.verify_sums.new.text }; meter = c.verify_sums.new.meter } in
    subst (λ (b : Bool). IsPromised (record { job = c.args.request.now.job; workers = c.args.request.now.workers; strict = b; memory = c.args.request.now.memory; input = c.args.request.now.input.now; output = c.args.request.now.output.now }) old new (Ok tt)) (sym strict) (c.in_ok-length.ensures.promised sink empty)

pub returns-then-not-request-clause-right : goal.returns-then-not-request-clause-right
returns-then-not-request-clause-right g c =
    let strict : c.args.request.now.strict ≡ false = search rules in
    subst (λ (b : Bool). IfSome (g.S.Source.held c.args.source.now) (IsRightBy b c.in_ok-length.right)) (sym strict) c.in_ok-length.ensures.right

pub returns-then-not-request-clause-reported : goal.returns-then-not-request-clause-reported
returns-then-not-request-clause-reported g c =
    let strict : c.args.request.now.strict ≡ false = search rules in
    subst (λ (b : Bool). ReportsBy b (g.T.Text.contents c.args.text.now) (g.T.Text.contents c.verify_sums.new.text) c.in_ok-length.right) (sym strict) c.in_ok-length.ensures.reported

pub returns-in_err-same-clause-promised : goal.returns-in_err-same-clause-promised
returns-in_err-same-clause-promised g c = λ sink empty.
    let held : g.S.Source.held c.verify_sums.new.source ≡ g.S.Source.held c.args.source.now = c.verify_sums.ensures.held in
    let strict : c.args.request.now.strict ≡ true = search rules in
    let old : Ends = record { held = g.S.Source.held c.args.source.now; ranges = g.S.Source.ranges c.args.source.now; source = nameless (g.S.Source.tally c.args.source.now); sink = sink; text = record { contents = g.T.Text.contents c.args.text.now; tally = g.T.Text.tally c.args.text.now }; meter = c.args.meter.now } in
    let mid : Ends = record { held = g.S.Source.held c.verify_sums.new.source; ranges = g.S.Source.ranges c.verify_sums.new.source; source = nameless (g.S.Source.tally c.verify_sums.new.source); sink = sink; text = record { contents = g.T.Text.contents c.verify_sums.new.text; tally = g.T.Text.tally c.verify_sums.new.text }; meter = c.verify_sums.new.meter } in
    let new : Ends = record { held = g.S.Source.held c.compare.new.source; ranges = g.S.Source.ranges c.compare.new.source; source = nameless (g.S.Source.tally c.compare.new.source); sink = sink; text = record { contents = g.T.Text.contents c.compare.new.text; tally = g.T.Text.tally c.compare.new.text }; meter = c.compare.new.meter } in
    let plain : IsPromised (record { job = c.args.request.now.job; workers = c.args.request.now.workers; strict = false; memory = c.args.request.now.memory; input = c.args.request.now.input.now; output = c.args.request.now.output.now }) old mid (Ok tt) = c.in_ok-length.ensures.promised sink empty in
    let first : IsPromised (record { job = Verify; workers = c.args.request.now.workers; strict = false; memory = c.args.request.now.memory; input = c.args.request.now.input.now; output = c.args.request.now.output.now }) old mid (Ok tt) = subst (λ (j : Job). IsPromised (record { job = j; workers = c.args.request.now.workers; strict = false; memory = c.args.request.now.memory; input = c.args.request.now.input.now; output = c.args.request.now.output.now }) old mid (Ok tt)) c.requires.job plain in
    let says : ComparedSays (g.S.Source.held c.args.source.now) c.verify_sums.new.meter.limit mid new (Err c.in_err-same.field-0.0) = record {
      right = tt;
      line = c.in_err-same.ensures.line;
      front = rw held at c.in_err-same.ensures.front;
      over_limit = c.in_err-same.ensures.over_limit;
      refused = c.in_err-same.ensures.refused;
      first_fault = subst (λ (h : Option (List ℕ)). TellsFirstFault {X = Bool} Verify h (Err c.in_err-same.field-0.0)) held c.in_err-same.ensures.first_fault;
      answered = rw held at c.in_err-same.ensures.answered;
      cause = compares_nameless (g.S.Source.tally c.verify_sums.new.source) (g.S.Source.tally c.compare.new.source) (g.T.Text.tally c.verify_sums.new.text) (g.T.Text.tally c.compare.new.text) c.verify_sums.new.meter.limit (Err c.in_err-same.field-0.0) c.in_err-same.ensures.cause;
      first_past = rw held at c.in_err-same.ensures.first_past;
      live = c.in_err-same.ensures.live;
      limit_is = c.in_err-same.ensures.stays.2;
      peak = rw held at c.in_err-same.ensures.peak;
      most = c.in_err-same.ensures.most;
      exact = tt;
      held_is = c.in_err-same.ensures.kept.held_is;
      touched = rw held at c.in_err-same.ensures.touched;
      told_ranges = c.in_err-same.ensures.stays.0;
      told = c.in_err-same.ensures.stays.1;
      source_counts = kept_nameless (g.S.Source.tally c.verify_sums.new.source) (g.S.Source.tally c.compare.new.source) c.in_err-same.ensures.kept.source_counts;
      text_counts = c.in_err-same.ensures.kept.sink_counts;
    } in
    let both : IsPromised (record { job = Verify; workers = c.args.request.now.workers; strict = true; memory = c.args.request.now.memory; input = c.args.request.now.input.now; output = c.args.request.now.output.now }) old new (done_of {X = Bool} (Err c.in_err-same.field-0.0)) =
    compared c.first_fault_law.ensures.only c.args.request.now.workers c.args.request.now.memory c.args.request.now.input.now c.args.request.now.output.now old mid new refl empty c.ranges_law.ensures.join (Err c.in_err-same.field-0.0) c.in_ok-length.right c.in_ok-length.ensures.reported first says in
    let stopped : c.from_residual-in_err-same.result ≡ Err c.in_err-same.field-0.0 = search rules in
    subst (λ (r : Result Bool Stop). IsPromised (record { job = c.args.request.now.job; workers = c.args.request.now.workers; strict = c.args.request.now.strict; memory = c.args.request.now.memory; input = c.args.request.now.input.now; output = c.args.request.now.output.now }) old new (done_of r)) (sym stopped)
    (subst (λ (j : Job). IsPromised (record { job = j; workers = c.args.request.now.workers; strict = c.args.request.now.strict; memory = c.args.request.now.memory; input = c.args.request.now.input.now; output = c.args.request.now.output.now }) old new (done_of {X = Bool} (Err c.in_err-same.field-0.0))) (sym c.requires.job)
    (subst (λ (b : Bool). IsPromised (record { job = Verify; workers = c.args.request.now.workers; strict = b; memory = c.args.request.now.memory; input = c.args.request.now.input.now; output = c.args.request.now.output.now }) old new (done_of {X = Bool} (Err c.in_err-same.field-0.0))) (sym strict) both))

pub returns-in_err-same-clause-names : goal.returns-in_err-same-clause-names
returns-in_err-same-clause-names g c = λ made.
    let opened : Option (List (List ℕ)) = (g.S.Source.tally c.args.source.now).names in
    let mid : Option (List (List ℕ)) = (g.S.Source.tally c.verify_sums.new.source).names in
    let new : Option (List (List ℕ)) = (g.S.Source.tally c.compare.new.source).names in
    let first : JobNames (record { job = Verify; workers = c.args.request.now.workers; strict = c.args.request.now.strict; memory = c.args.request.now.memory; input = c.args.request.now.input.now; output = c.args.request.now.output.now }) opened mid made made (Ok tt) = subst (λ (j : Job). JobNames (record { job = j; workers = c.args.request.now.workers; strict = c.args.request.now.strict; memory = c.args.request.now.memory; input = c.args.request.now.input.now; output = c.args.request.now.output.now }) opened mid made made (Ok tt)) c.requires.job (c.in_ok-length.ensures.names made) in
    let stopped : c.from_residual-in_err-same.result ≡ Err c.in_err-same.field-0.0 = search rules in
    subst (λ (r : Result Bool Stop). JobNames (record { job = c.args.request.now.job; workers = c.args.request.now.workers; strict = c.args.request.now.strict; memory = c.args.request.now.memory; input = c.args.request.now.input.now; output = c.args.request.now.output.now }) opened new made made (done_of r)) (sym stopped)
    (subst (λ (j : Job). JobNames (record { job = j; workers = c.args.request.now.workers; strict = c.args.request.now.strict; memory = c.args.request.now.memory; input = c.args.request.now.input.now; output = c.args.request.now.output.now }) opened new made made (done_of {X = Bool} (Err c.in_err-same.field-0.0))) (sym c.requires.job)
    (names_after c.args.request.now.workers c.args.request.now.strict c.args.request.now.memory c.args.request.now.input.now c.args.request.now.output.now opened mid new made {Y = Bool} (Err c.in_err-same.field-0.0) first c.in_err-same.ensures.kept.source_counts.names_kept))

pub returns-clause-promised : goal.returns-clause-promised
returns-clause-promised g c = λ sink empty.
    let held : g.S.Source.held c.verify_sums.new.source ≡ g.S.Source.held c.args.source.now = c.verify_sums.ensures.held in
    let strict : c.args.request.now.strict ≡ true = search rules in
    let old : Ends = record { held = g.S.Source.held c.args.source.now; ranges = g.S.Source.ranges c.args.source.now; source = nameless (g.S.Source.tally c.args.source.now); sink = sink; text = record { contents = g.T.Text.contents c.args.text.now; tally = g.T.Text.tally c.args.text.now }; meter = c.args.meter.now } in
    let mid : Ends = record { held = g.S.Source.held c.verify_sums.new.source; ranges = g.S.Source.ranges c.verify_sums.new.source; source = nameless (g.S.Source.tally c.verify_sums.new.source); sink = sink; text = record { contents = g.T.Text.contents c.verify_sums.new.text; tally = g.T.Text.tally c.verify_sums.new.text }; meter = c.verify_sums.new.meter } in
    let new : Ends = record { held = g.S.Source.held c.compare.new.source; ranges = g.S.Source.ranges c.compare.new.source; source = nameless (g.S.Source.tally c.compare.new.source); sink = sink; text = record { contents = g.T.Text.contents c.compare.new.text; tally = g.T.Text.tally c.compare.new.text }; meter = c.compare.new.meter } in
    let plain : IsPromised (record { job = c.args.request.now.job; workers = c.args.request.now.workers; strict = false; memory = c.args.request.now.memory; input = c.args.request.now.input.now; output = c.args.request.now.output.now }) old mid (Ok tt) = c.in_ok-length.ensures.promised sink empty in
    let first : IsPromised (record { job = Verify; workers = c.args.request.now.workers; strict = false; memory = c.args.request.now.memory; input = c.args.request.now.input.now; output = c.args.request.now.output.now }) old mid (Ok tt) = subst (λ (j : Job). IsPromised (record { job = j; workers = c.args.request.now.workers; strict = false; memory = c.args.request.now.memory; input = c.args.request.now.input.now; output = c.args.request.now.output.now }) old mid (Ok tt)) c.requires.job plain in
    let says : ComparedSays (g.S.Source.held c.args.source.now) c.verify_sums.new.meter.limit mid new (Ok c.in_ok-same.same) = record {
      right = rw held at c.in_ok-same.ensures.right;
      line = c.in_ok-same.ensures.line;
      front = rw held at c.in_ok-same.ensures.front;
      over_limit = c.in_ok-same.ensures.over_limit;
      refused = c.in_ok-same.ensures.refused;
      first_fault = subst (λ (h : Option (List ℕ)). TellsFirstFault {X = Bool} Verify h (Ok c.in_ok-same.same)) held c.in_ok-same.ensures.first_fault;
      answered = rw held at c.in_ok-same.ensures.answered;
      cause = compares_nameless (g.S.Source.tally c.verify_sums.new.source) (g.S.Source.tally c.compare.new.source) (g.T.Text.tally c.verify_sums.new.text) (g.T.Text.tally c.compare.new.text) c.verify_sums.new.meter.limit (Ok c.in_ok-same.same) c.in_ok-same.ensures.cause;
      first_past = rw held at c.in_ok-same.ensures.first_past;
      live = c.in_ok-same.ensures.live;
      limit_is = c.in_ok-same.ensures.stays.2;
      peak = rw held at c.in_ok-same.ensures.peak;
      most = c.in_ok-same.ensures.most;
      exact = rw held at c.in_ok-same.ensures.exact_peak;
      held_is = c.in_ok-same.ensures.kept.held_is;
      touched = rw held at c.in_ok-same.ensures.touched;
      told_ranges = c.in_ok-same.ensures.stays.0;
      told = c.in_ok-same.ensures.stays.1;
      source_counts = kept_nameless (g.S.Source.tally c.verify_sums.new.source) (g.S.Source.tally c.compare.new.source) c.in_ok-same.ensures.kept.source_counts;
      text_counts = c.in_ok-same.ensures.kept.sink_counts;
    } in
    let both : IsPromised (record { job = Verify; workers = c.args.request.now.workers; strict = true; memory = c.args.request.now.memory; input = c.args.request.now.input.now; output = c.args.request.now.output.now }) old new (done_of {X = Bool} (Ok c.in_ok-same.same)) =
    compared c.first_fault_law.ensures.only c.args.request.now.workers c.args.request.now.memory c.args.request.now.input.now c.args.request.now.output.now old mid new refl empty c.ranges_law.ensures.join (Ok c.in_ok-same.same) c.in_ok-length.right c.in_ok-length.ensures.reported first says in
    subst (λ (j : Job). IsPromised (record { job = j; workers = c.args.request.now.workers; strict = c.args.request.now.strict; memory = c.args.request.now.memory; input = c.args.request.now.input.now; output = c.args.request.now.output.now }) old new (done_of {X = Bool} (Ok c.in_ok-same.same))) (sym c.requires.job)
    (subst (λ (b : Bool). IsPromised (record { job = Verify; workers = c.args.request.now.workers; strict = b; memory = c.args.request.now.memory; input = c.args.request.now.input.now; output = c.args.request.now.output.now }) old new (done_of {X = Bool} (Ok c.in_ok-same.same))) (sym strict) both)

pub returns-clause-names : goal.returns-clause-names
returns-clause-names g c = λ made.
    let opened : Option (List (List ℕ)) = (g.S.Source.tally c.args.source.now).names in
    let mid : Option (List (List ℕ)) = (g.S.Source.tally c.verify_sums.new.source).names in
    let new : Option (List (List ℕ)) = (g.S.Source.tally c.compare.new.source).names in
    let first : JobNames (record { job = Verify; workers = c.args.request.now.workers; strict = c.args.request.now.strict; memory = c.args.request.now.memory; input = c.args.request.now.input.now; output = c.args.request.now.output.now }) opened mid made made (Ok tt) = subst (λ (j : Job). JobNames (record { job = j; workers = c.args.request.now.workers; strict = c.args.request.now.strict; memory = c.args.request.now.memory; input = c.args.request.now.input.now; output = c.args.request.now.output.now }) opened mid made made (Ok tt)) c.requires.job (c.in_ok-length.ensures.names made) in
    subst (λ (j : Job). JobNames (record { job = j; workers = c.args.request.now.workers; strict = c.args.request.now.strict; memory = c.args.request.now.memory; input = c.args.request.now.input.now; output = c.args.request.now.output.now }) opened new made made (done_of {X = Bool} (Ok c.in_ok-same.same))) (sym c.requires.job)
    (names_after c.args.request.now.workers c.args.request.now.strict c.args.request.now.memory c.args.request.now.input.now c.args.request.now.output.now opened mid new made {Y = Bool} (Ok c.in_ok-same.same) first c.in_ok-same.ensures.kept.source_counts.names_kept)

pub returns-clause-right : goal.returns-clause-right
returns-clause-right g c =
    let held : g.S.Source.held c.verify_sums.new.source ≡ g.S.Source.held c.args.source.now = c.verify_sums.ensures.held in
    let strict : c.args.request.now.strict ≡ true = search rules in
    right_by c.args.request.now.strict (g.S.Source.held c.args.source.now) c.in_ok-length.right c.in_ok-same.same strict c.in_ok-length.ensures.right (rw held at c.in_ok-same.ensures.right)

pub returns-clause-reported : goal.returns-clause-reported
returns-clause-reported g c =
    let strict : c.args.request.now.strict ≡ true = search rules in
    reports_by c.args.request.now.strict c.in_ok-length.right c.in_ok-same.same (g.T.Text.contents c.args.text.now) (g.T.Text.contents c.verify_sums.new.text) (g.T.Text.contents c.compare.new.text) strict c.in_ok-length.ensures.reported c.in_ok-same.ensures.line

pub returns-in_err-length-clause-names : goal.returns-in_err-length-clause-names
returns-in_err-length-clause-names g c = λ made.
    let stopped : c.from_residual.result ≡ Err c.in_err-length.field-0.0 = search rules in
    subst (λ (r : Result Bool Stop). JobNames (record { job = c.args.request.now.job; workers = c.args.request.now.workers; strict = c.args.request.now.strict; memory = c.args.request.now.memory; input = c.args.request.now.input.now; output = c.args.request.now.output.now }) (g.S.Source.tally c.args.source.now).names (g.S.Source.tally c.verify_sums.new.source).names made made (done_of r)) (sym stopped)
    (c.in_err-length.ensures.names made)
