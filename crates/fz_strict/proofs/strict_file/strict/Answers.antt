-- The look stops, or knows the file, and then the comparison says the rest.
use Rattle.std.proofs.Common.{inl, inr}
use Rattle.std.proofs.Common.{◌≡◌, ℕ, ◌+◌, ◌<◌, ◌≤◌, max, Bool, List, [], ◌∷◌, Option, None, IfSome, Result, Err, sum, refl, sym, ap, ◌∙◌, subst, arith, rules}
use Rattle.std.specs.Prelude.{OnOk, IfOk}
use Rattle.fz_base.specs.Counts.{Tally}
use Rattle.fz_base.specs.Stop.{ReadsAndTakes, TellsLimit}
use Rattle.fz_base.specs.Takings.{TellsFirstPast, first_past, highest, piled}
use Rattle.fz_base.specs.declared.failure.Stop.{Stop}
use Rattle.fz_files.specs.Buffers.{job_bound}
use Rattle.fz_files.specs.declared.job.Job.TheVariants.{Unpack, Verify}
use Rattle.fz_job.specs.Clauses.{TellsFirstFault, greatest_bound}
use Rattle.fz_job.specs.Stages.{HasLargest}
use Rattle.fz_job.specs.Surveys.{survey_takings}
use Rattle.fz_job.specs.declared.checks.JobChecks.TheVariants.{Unpack as UnpackChecks}
use Rattle.fz_job.specs.declared.survey.Survey.{Survey}
use Rattle.fz_strict.specs.Clauses.{AnswersStrict, HasStrictCause, IsStrictAsSaid, look_takings, strict_buffers, strict_takings}
use Rattle.fz_compare.specs.Reads.{ReadsKnown}
use Rattle.fz_strict.specs.Rows.{ComparesFound}
use Rattle.fz_strict.proofs.Outcomes.{if_refused, kept_same, ok_weaker, refused_weaker}
use Rattle.fz_strict.proofs.Promises.{Knows, answers, block_other, buffers_most, cause_of, headers_within, never_ok, compare_limit, compare_reached, compare_tells, compare_within, learnt, look_faulty, look_tells, look_within, takes_other, takings_within, tells_more, work_faulty, work_right}
use Rattle.fz_strict.proofs.ReadHdus.{all_read, headers_read}
use Rattle.fz_strict.proofs.strict_file.strict.Goals as goal

-- ---- a header was refused, or the look stopped otherwise

pub returns-in_err-survey-clause-first_fault : goal.returns-in_err-survey-clause-first_fault
returns-in_err-survey-clause-first_fault g c =
    let held : Option (List ℕ) = g.S.Source.held c.args.source.now in
    let stopped : c.from_residual.result ≡ Err c.in_err-survey.field-0.0 = search rules in
    subst (λ (r : Result Bool Stop). TellsFirstFault Verify held r) (sym stopped)
    (look_faulty (c.known_law.ensures.refuse Verify tt) held c.in_err-survey.field-0.0 c.in_err-survey.ensures.exact)

pub returns-in_err-survey-clause-cause : goal.returns-in_err-survey-clause-cause
returns-in_err-survey-clause-cause g c =
    let held : Option (List ℕ) = g.S.Source.held c.args.source.now in
    let before : Tally = g.S.Source.tally c.args.source.now in
    let now : Tally = g.S.Source.tally c.look.new.source in
    let limit : ℕ = c.args.meter.now.limit in
    let stop : Stop = c.in_err-survey.field-0.0 in
    let stopped : c.from_residual.result ≡ Err stop = search rules in
    let takes = c.in_err-survey.ensures.cause in
    subst (λ (r : Result Bool Stop). HasStrictCause held before now limit r) (sym stopped)
    (cause_of {X = Bool} held before now limit (Err stop) (takes_other {X = Survey} {Y = Bool} before now limit stop takes)
    (tells_more Survey Bool limit (2880 + 737280) (greatest_bound Verify 1) stop (c.stages_law.ensures.sizes.look Verify 1) c.in_err-survey.ensures.most)
    (look_tells c.survey_law.ensures.unpack (c.known_law.ensures.refuse Verify tt) held before now limit stop takes.stop c.in_err-survey.ensures.exact c.in_err-survey.ensures.first_past)
    (block_other Survey Bool limit stop (now ≡ before) c.in_err-survey.ensures.block))

pub returns-in_err-survey-clause-answered : goal.returns-in_err-survey-clause-answered
returns-in_err-survey-clause-answered g c =
    let held : Option (List ℕ) = g.S.Source.held c.args.source.now in
    answers held _ _ c.args.meter.now.limit c.from_residual.result (takings_within c.survey_law.ensures.unpack held (headers_within c.stages_law.ensures.peaks held)) (returns-in_err-survey-clause-cause g c)

pub returns-in_err-survey-clause-buffers : goal.returns-in_err-survey-clause-buffers
returns-in_err-survey-clause-buffers g c =
    let held : Option (List ℕ) = g.S.Source.held c.args.source.now in
    let within = c.stages_law.ensures.sizes.look Verify 1 in
    record {
      live = c.in_err-survey.ensures.live;
      limit = c.in_err-survey.ensures.stays.1;
      peak = look_within c.survey_law.ensures.unpack held c.args.meter.now.peak c.look.new.meter.peak (headers_within c.stages_law.ensures.peaks held) c.in_err-survey.ensures.peak;
      most = omega (arith, within, c.in_err-survey.ensures.peak_most);
      window_is = λ i. record { slots = c.requires.window i; workers = c.args.window.now.workers };
    }

pub returns-in_err-survey-clause-late : goal.returns-in_err-survey-clause-late
returns-in_err-survey-clause-late g c = if_refused _ c.from_residual.result (λ x. inr c.in_err-survey.ensures.peak_most)

pub returns-in_err-survey-clause-kept : goal.returns-in_err-survey-clause-kept
returns-in_err-survey-clause-kept g c = record {
  held_is = c.in_err-survey.ensures.stays.0.held_is;
  attached_is = c.in_err-survey.ensures.stays.0.attached_is;
  source_counts = c.in_err-survey.ensures.cause.kept;
  sink_counts = c.in_err-survey.ensures.cause.kept;
}

pub returns-in_err-survey-clause-touched : goal.returns-in_err-survey-clause-touched
returns-in_err-survey-clause-touched g c =
    headers_read (g.S.Source.held c.args.source.now) (g.S.Source.ranges c.args.source.now) (g.S.Source.ranges c.look.new.source) c.in_err-survey.ensures.read

-- ---- the file was compared

pub returns-clause-right : goal.returns-clause-right
returns-clause-right g c =
    let held : Option (List ℕ) = g.S.Source.held c.args.source.now in
    let same : g.S.Source.held c.look.new.source ≡ held = c.in_ok-survey.ensures.stays.0.held_is in
    let exact : IfSome held (Knows c.in_ok-survey.survey) = c.in_ok-survey.ensures.exact in
    let compared : IfSome held (λ file. ComparesFound file c.in_ok-survey.survey c.compare.result) = rw same at c.compare.ensures.compared in
    work_right (c.known_law.ensures.know Unpack tt) c.same_hdus_law.ensures.found c.in_ok-survey.survey held c.compare.result exact compared

pub returns-clause-first_fault : goal.returns-clause-first_fault
returns-clause-first_fault g c =
    let held : Option (List ℕ) = g.S.Source.held c.args.source.now in
    let same : g.S.Source.held c.look.new.source ≡ held = c.in_ok-survey.ensures.stays.0.held_is in
    let exact : IfSome held (Knows c.in_ok-survey.survey) = c.in_ok-survey.ensures.exact in
    let compared : IfSome held (λ file. ComparesFound file c.in_ok-survey.survey c.compare.result) = rw same at c.compare.ensures.compared in
    work_faulty (c.known_law.ensures.know Unpack tt) c.same_faults_law.ensures.verify c.in_ok-survey.survey held c.compare.result exact compared

pub returns-clause-cause : goal.returns-clause-cause
returns-clause-cause g c =
    let held : Option (List ℕ) = g.S.Source.held c.args.source.now in
    let s = c.in_ok-survey.survey in
    let before : Tally = g.S.Source.tally c.args.source.now in
    let now : Tally = g.S.Source.tally c.compare.new.source in
    let limit : ℕ = c.args.meter.now.limit in
    let exact : IfSome held (Knows s) = c.in_ok-survey.ensures.exact in
    let none : IfSome held (λ file. first_past limit (look_takings file) ≡ None) = c.in_ok-survey.ensures.first_past in
    let takes : ReadsAndTakes before now limit c.compare.result = rw (c.in_ok-survey.ensures.cause.ok, c.in_ok-survey.ensures.stays.1) at c.compare.ensures.cause in
    let tells : TellsFirstPast limit (piled 0 (strict_buffers s.header_len s.tile 1)) c.compare.result = rw (c.in_ok-survey.ensures.stays.1, c.requires.one_worker) at c.compare.ensures.first_past in
    cause_of held before now limit c.compare.result takes
    (compare_limit c.workspace_law.ensures.past before now limit (greatest_bound Verify 1) (strict_buffers s.header_len s.tile 1) c.compare.result
    (buffers_most c.workspace_law.ensures.grows s.header_len s.tile c.in_ok-survey.ensures.survey.header.1 c.in_ok-survey.ensures.survey.tile) takes tells)
    (compare_tells c.survey_law.ensures.unpack held s.header_len s.tile limit c.compare.result (learnt (c.known_law.ensures.know Verify tt) s held exact) none tells)
    (λ low. absurd (never_ok _ _ _ _ c.in_ok-survey.ensures.block low))

pub returns-clause-answered : goal.returns-clause-answered
returns-clause-answered g c =
    let held : Option (List ℕ) = g.S.Source.held c.args.source.now in
    answers held _ _ c.args.meter.now.limit c.compare.result (takings_within c.survey_law.ensures.unpack held (headers_within c.stages_law.ensures.peaks held)) (returns-clause-cause g c)

pub returns-clause-buffers : goal.returns-clause-buffers
returns-clause-buffers g c =
    let held : Option (List ℕ) = g.S.Source.held c.args.source.now in
    let s = c.in_ok-survey.survey in
    let exact : IfSome held (Knows s) = c.in_ok-survey.ensures.exact in
    let largest : IfSome held (HasLargest Verify s.header_len s.tile) = learnt (c.known_law.ensures.know Verify tt) s held exact in
    let look : IfSome held (λ file. c.look.new.meter.peak ≤ max c.args.meter.now.peak (job_bound Verify file 1)) =
    look_within c.survey_law.ensures.unpack held c.args.meter.now.peak c.look.new.meter.peak (headers_within c.stages_law.ensures.peaks held) c.in_ok-survey.ensures.peak in
    let high : c.compare.new.meter.peak ≤ max c.look.new.meter.peak (sum (strict_buffers s.header_len s.tile 1)) = rw c.requires.one_worker at c.compare.ensures.peak in
    let within = c.stages_law.ensures.sizes.look Verify 1 in
    let most = buffers_most c.workspace_law.ensures.grows s.header_len s.tile c.in_ok-survey.ensures.survey.header.1 c.in_ok-survey.ensures.survey.tile in
    record {
      live = c.compare.ensures.live;
      limit = c.compare.ensures.stays.1 ∙ c.in_ok-survey.ensures.stays.1;
      peak = compare_within c.survey_law.ensures.unpack held s.header_len s.tile c.args.meter.now.peak c.look.new.meter.peak c.compare.new.meter.peak largest look high;
      most = omega (arith, within, most, high, c.in_ok-survey.ensures.peak_most);
      window_is = c.compare.ensures.emptied;
    }

pub returns-clause-exact_peak : goal.returns-clause-exact_peak
returns-clause-exact_peak g c =
    let held : Option (List ℕ) = g.S.Source.held c.args.source.now in
    let s = c.in_ok-survey.survey in
    let exact : IfSome held (Knows s) = c.in_ok-survey.ensures.exact in
    let largest : IfSome held (HasLargest Verify s.header_len s.tile) = learnt (c.known_law.ensures.know Verify tt) s held exact in
    let look : IfSome held (λ file. c.look.new.meter.peak ≡ max c.args.meter.now.peak (highest (look_takings file))) = c.in_ok-survey.ensures.exact_peak in
    let reached : OnOk c.compare.result (c.compare.new.meter.peak ≡ max c.look.new.meter.peak (sum (strict_buffers s.header_len s.tile 1))) = rw c.requires.one_worker at c.compare.ensures.exact_peak in
    ok_weaker c.compare.result (compare_reached c.survey_law.ensures.unpack held s.header_len s.tile c.args.meter.now.peak c.look.new.meter.peak c.compare.new.meter.peak largest look) reached

pub returns-clause-late : goal.returns-clause-late
returns-clause-late g c = refused_weaker c.compare.result (λ x is. inl is) c.compare.ensures.late

pub returns-clause-unread : goal.returns-clause-unread
returns-clause-unread g c = λ low. absurd (never_ok _ _ _ _ c.in_ok-survey.ensures.block low)

pub returns-clause-kept : goal.returns-clause-kept
returns-clause-kept g c =
    let counts = rw c.in_ok-survey.ensures.cause.ok at c.compare.ensures.cause.kept in
    record {
      held_is = c.compare.ensures.stays.0.held_is ∙ c.in_ok-survey.ensures.stays.0.held_is;
      attached_is = c.compare.ensures.stays.0.attached_is ∙ c.in_ok-survey.ensures.stays.0.attached_is;
      source_counts = counts;
      sink_counts = counts;
    }

pub returns-clause-told : goal.returns-clause-told
returns-clause-told g c = λ told. c.compare.ensures.stays.0.told (c.in_ok-survey.ensures.stays.0.told told)

pub returns-clause-touched : goal.returns-clause-touched
returns-clause-touched g c =
    let held : Option (List ℕ) = g.S.Source.held c.args.source.now in
    let old : Option (List (ℕ × ℕ)) = g.S.Source.ranges c.args.source.now in
    let mid : Option (List (ℕ × ℕ)) = g.S.Source.ranges c.look.new.source in
    let new : Option (List (ℕ × ℕ)) = g.S.Source.ranges c.compare.new.source in
    let same : g.S.Source.held c.look.new.source ≡ held = c.in_ok-survey.ensures.stays.0.held_is in
    let exact : IfSome held (Knows c.in_ok-survey.survey) = c.in_ok-survey.ensures.exact in
    let next : IfSome held (λ file. ReadsKnown file c.in_ok-survey.survey mid new) = rw same at c.compare.ensures.read in
    all_read c.ranges_law.ensures.join (c.known_law.ensures.know Verify tt) (c.known_law.ensures.know Unpack tt) (c.hdus_law.ensures.known Verify tt) c.in_ok-survey.survey held old mid new exact
    (headers_read held old mid c.in_ok-survey.ensures.read) next
