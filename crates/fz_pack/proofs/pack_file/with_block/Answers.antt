-- The first look stops, or knows the file, and then the work says the rest.
use Rattle.std.proofs.Common.{◌≡◌, ℕ, ◌+◌, ◌≤◌, max, List, Option, None, IfSome, Result, Err, sum, refl, sym, ◌∙◌, subst, rules, arith}
use Rattle.std.specs.Prelude.{IsSome, OnOk}
use Rattle.fz_base.specs.Counts.{nameless}
use Rattle.fz_base.specs.Takings.{TellsFirstPast, first_past, highest, piled}
use Rattle.fz_base.specs.declared.failure.Stop.{Stop}
use Rattle.fz_files.specs.declared.job.Job.TheVariants.{Pack}
use Rattle.fz_job.specs.Surveys.{survey_takings}
use Rattle.fz_job.specs.Workspace.{wanted_buffers}
use Rattle.fz_job.specs.declared.checks.JobChecks.TheVariants.{Pack as PackChecks}
use Rattle.fz_base.specs.Stop.{TellsLimit}
use Rattle.fz_job.specs.Clauses.{TellsFirstFault, greatest_bound}
use Rattle.fz_job.specs.Stages.{Works, later_takings, wants_for}
use Rattle.fz_pack.specs.Written.{AreShutOrWhole, FinishesSeen}
use Rattle.fz_pack.proofs.Finished.{Knows, learnt, work_faulty, work_output, work_shut, work_unmade}
use Rattle.fz_pack.specs.Reads.{ReadsHdus}
use Rattle.fz_pack.proofs.HduReads.{all_read, look_read}
use Rattle.fz_pack.proofs.Outcomes.{look_refused, ok_weaker, past_at, past_by, untouched_shut, untouched_unmade}
use Rattle.fz_pack.proofs.pack_file.with_block.Goals as goal

pub returns-in_err-survey-clause-first_fault : goal.returns-in_err-survey-clause-first_fault
returns-in_err-survey-clause-first_fault g c =
    let held : Option (List ℕ) = g.S.Source.held c.args.source.now in
    let stopped : c.from_residual.result ≡ Err c.in_err-survey.field-0.0 = search rules in
    subst (λ (r : Result (Unit {0}) Stop). TellsFirstFault (Pack c.args.asked.now.options) held r) (sym stopped)
    (c.stages_law.ensures.look.fault (Pack c.args.asked.now.options) held c.in_err-survey.field-0.0 (look_refused c.known_law.ensures.refuse c.args.asked.now.options held c.in_err-survey.field-0.0 c.in_err-survey.ensures.exact))

pub returns-in_err-survey-clause-first_byte : goal.returns-in_err-survey-clause-first_byte
returns-in_err-survey-clause-first_byte g c = untouched_shut (g.K.Sink.contents c.args.sink.now) _ c.from_residual.result c.requires.empty

pub returns-in_err-survey-clause-unmade : goal.returns-in_err-survey-clause-unmade
returns-in_err-survey-clause-unmade g c = untouched_unmade (Pack c.args.asked.now.options) (g.S.Source.held c.args.source.now) c.args.meter.now.limit (λ file. later_takings (Pack c.args.asked.now.options) file c.args.window.now.workers) _ c.from_residual.result (refl, refl)

pub returns-in_err-survey-clause-first_past : goal.returns-in_err-survey-clause-first_past
returns-in_err-survey-clause-first_past g c =
    let held : Option (List ℕ) = g.S.Source.held c.args.source.now in
    let meter = c.args.meter.now in
    let W : ℕ = c.args.window.now.workers in
    let stopped : c.from_residual.result ≡ Err c.in_err-survey.field-0.0 = search rules in
    subst (λ (r : Result (Unit {0}) Stop). IfSome held (λ file. TellsFirstPast meter.limit (later_takings (Pack c.args.asked.now.options) file W) r)) (sym stopped)
    (c.stages_law.ensures.look.first_past (Pack c.args.asked.now.options) (PackChecks c.args.asked.now.options) held W meter.live meter.limit c.in_err-survey.field-0.0 _ _ refl c.requires.one_block c.in_err-survey.ensures.cause.stop
    (look_refused c.known_law.ensures.refuse c.args.asked.now.options held c.in_err-survey.field-0.0 c.in_err-survey.ensures.exact) c.in_err-survey.ensures.first_past)

pub returns-in_err-survey-clause-peak : goal.returns-in_err-survey-clause-peak
returns-in_err-survey-clause-peak g c =
    c.stages_law.ensures.peaks.look (Pack c.args.asked.now.options) (PackChecks c.args.asked.now.options) (g.S.Source.held c.args.source.now) c.args.window.now.workers c.args.meter.now.live c.args.meter.now.peak c.survey_to_pack.new.meter.peak refl c.requires.one_block
    c.in_err-survey.ensures.peak

pub returns-in_err-survey-clause-emptied : goal.returns-in_err-survey-clause-emptied
returns-in_err-survey-clause-emptied g c = λ i. record { slots = c.requires.window i; workers = c.args.window.now.workers }

pub returns-in_err-survey-clause-cause : goal.returns-in_err-survey-clause-cause
returns-in_err-survey-clause-cause g c =
    let source = g.S.Source.tally c.args.source.now in
    let source' = g.S.Source.tally c.survey_to_pack.new.source in
    let sink = nameless (g.K.Sink.tally c.args.sink.now) in
    let stopped : c.from_residual.result ≡ Err c.in_err-survey.field-0.0 = search rules in
    subst (λ (r : Result (Unit {0}) Stop). Works source source' sink sink c.args.meter.now.limit r) (sym stopped)
    (c.stages_law.ensures.look.works source source' sink c.args.meter.now.limit c.in_err-survey.field-0.0 c.in_err-survey.ensures.cause)

pub returns-clause-output : goal.returns-clause-output
returns-clause-output g c =
    let held : Option (List ℕ) = g.S.Source.held c.args.source.now in
    let same : g.S.Source.held c.survey_to_pack.new.source ≡ held = search rules in
    let now : Option (List ℕ) = g.K.Sink.contents c.work.new.sink in
    let exact : IfSome held (Knows c.args.asked.now.options c.in_ok-survey.survey) = c.in_ok-survey.ensures.exact in
    let written : IfSome held (λ file. FinishesSeen c.args.asked.now.options file c.in_ok-survey.survey now c.work.result) = rw same at c.work.ensures.written in
    work_output c.known_law.ensures.know c.args.asked.now.options c.in_ok-survey.survey held now c.work.result exact written

pub returns-clause-first_fault : goal.returns-clause-first_fault
returns-clause-first_fault g c =
    let held : Option (List ℕ) = g.S.Source.held c.args.source.now in
    let same : g.S.Source.held c.survey_to_pack.new.source ≡ held = search rules in
    let now : Option (List ℕ) = g.K.Sink.contents c.work.new.sink in
    let exact : IfSome held (Knows c.args.asked.now.options c.in_ok-survey.survey) = c.in_ok-survey.ensures.exact in
    let written : IfSome held (λ file. FinishesSeen c.args.asked.now.options file c.in_ok-survey.survey now c.work.result) = rw same at c.work.ensures.written in
    work_faulty c.known_law.ensures.know c.args.asked.now.options c.in_ok-survey.survey held now c.work.result exact written

pub returns-clause-first_byte : goal.returns-clause-first_byte
returns-clause-first_byte g c =
    let held : Option (List ℕ) = g.S.Source.held c.args.source.now in
    let same : g.S.Source.held c.survey_to_pack.new.source ≡ held = search rules in
    let now : Option (List ℕ) = g.K.Sink.contents c.work.new.sink in
    let exact : IfSome held (Knows c.args.asked.now.options c.in_ok-survey.survey) = c.in_ok-survey.ensures.exact in
    let shut : AreShutOrWhole c.args.asked.now.options c.in_ok-survey.survey held now c.work.result = rw same at c.work.ensures.shut in
    work_shut c.known_law.ensures.know c.args.asked.now.options c.in_ok-survey.survey held now c.work.result exact shut

pub returns-clause-unmade : goal.returns-clause-unmade
returns-clause-unmade g c =
    let held : Option (List ℕ) = g.S.Source.held c.args.source.now in
    let meter = c.args.meter.now in
    let W : ℕ = c.args.window.now.workers in
    let s = c.in_ok-survey.survey in
    let exact : IfSome held (Knows c.args.asked.now.options s) = c.in_ok-survey.ensures.exact in
    let none : IfSome held (λ file. first_past meter.limit (survey_takings (PackChecks c.args.asked.now.options) meter.live file) ≡ None) = c.in_ok-survey.ensures.first_past in
    let past : IsSome (first_past meter.limit (piled meter.live (wanted_buffers (wants_for (Pack c.args.asked.now.options) s) W))) → (g.K.Sink.created c.work.new.sink ≡ g.K.Sink.created c.args.sink.now) × (g.K.Sink.contents c.work.new.sink ≡ g.K.Sink.contents c.args.sink.now) =
    past_at c.survey_to_pack.new.meter.limit meter.limit c.survey_to_pack.new.meter.live meter.live (wanted_buffers (wants_for (Pack c.args.asked.now.options) s) W) _ c.in_ok-survey.ensures.stays.2 c.in_ok-survey.ensures.stays.1 c.work.ensures.past in
    let passes = c.stages_law.ensures.passes.look (Pack c.args.asked.now.options) (PackChecks c.args.asked.now.options) held W meter.live meter.limit s.header_len s.tile refl c.requires.one_block (learnt c.known_law.ensures.know c.args.asked.now.options s held exact) none in
    work_unmade c.known_law.ensures.know c.args.asked.now.options s held meter.limit (λ file. later_takings (Pack c.args.asked.now.options) file W) _ c.work.result exact
    (past_by held (λ file. first_past meter.limit (later_takings (Pack c.args.asked.now.options) file W)) (first_past meter.limit (piled meter.live (wanted_buffers (wants_for (Pack c.args.asked.now.options) s) W))) _ passes past) c.work.ensures.unmade c.work.ensures.changed

pub returns-clause-exact_peak : goal.returns-clause-exact_peak
returns-clause-exact_peak g c =
    let held : Option (List ℕ) = g.S.Source.held c.args.source.now in
    let meter = c.args.meter.now in
    let W : ℕ = c.args.window.now.workers in
    let s = c.in_ok-survey.survey in
    let exact : IfSome held (Knows c.args.asked.now.options s) = c.in_ok-survey.ensures.exact in
    let look : IfSome held (λ file. c.survey_to_pack.new.meter.peak ≡ max meter.peak (highest (survey_takings (PackChecks c.args.asked.now.options) meter.live file))) = c.in_ok-survey.ensures.exact_peak in
    let reached : OnOk c.work.result (c.work.new.meter.peak ≡ max c.survey_to_pack.new.meter.peak (meter.live + sum (wanted_buffers (wants_for (Pack c.args.asked.now.options) s) W))) = rw c.in_ok-survey.ensures.stays.1 at c.work.ensures.exact_peak in
    ok_weaker c.work.result
    (λ work. c.stages_law.ensures.reached.work (Pack c.args.asked.now.options) (PackChecks c.args.asked.now.options) held W meter.live meter.peak c.survey_to_pack.new.meter.peak c.work.new.meter.peak s.header_len s.tile refl c.requires.one_block (learnt c.known_law.ensures.know c.args.asked.now.options s held exact) look work) reached

pub returns-clause-first_past : goal.returns-clause-first_past
returns-clause-first_past g c =
    let held : Option (List ℕ) = g.S.Source.held c.args.source.now in
    let meter = c.args.meter.now in
    let W : ℕ = c.args.window.now.workers in
    let exact : IfSome held (Knows c.args.asked.now.options c.in_ok-survey.survey) = c.in_ok-survey.ensures.exact in
    let none : IfSome held (λ file. first_past meter.limit (survey_takings (PackChecks c.args.asked.now.options) meter.live file) ≡ None) = c.in_ok-survey.ensures.first_past in
    let tells : TellsFirstPast meter.limit (piled meter.live (wanted_buffers (wants_for (Pack c.args.asked.now.options) c.in_ok-survey.survey) W)) c.work.result =
    rw (c.in_ok-survey.ensures.stays.1, c.in_ok-survey.ensures.stays.2) at c.work.ensures.first_past in
    c.stages_law.ensures.work.first_past (Pack c.args.asked.now.options) (PackChecks c.args.asked.now.options) held W meter.live meter.limit c.in_ok-survey.survey.header_len c.in_ok-survey.survey.tile c.work.result refl c.requires.one_block
    (learnt c.known_law.ensures.know c.args.asked.now.options c.in_ok-survey.survey held exact) none tells

pub returns-clause-peak : goal.returns-clause-peak
returns-clause-peak g c =
    let held : Option (List ℕ) = g.S.Source.held c.args.source.now in
    let meter = c.args.meter.now in
    let W : ℕ = c.args.window.now.workers in
    let exact : IfSome held (Knows c.args.asked.now.options c.in_ok-survey.survey) = c.in_ok-survey.ensures.exact in
    let high : c.work.new.meter.peak ≤ max c.survey_to_pack.new.meter.peak (meter.live + sum (wanted_buffers (wants_for (Pack c.args.asked.now.options) c.in_ok-survey.survey) W)) = rw c.in_ok-survey.ensures.stays.1 at c.work.ensures.peak in
    c.stages_law.ensures.peaks.work (Pack c.args.asked.now.options) (PackChecks c.args.asked.now.options) held W meter.live meter.peak c.survey_to_pack.new.meter.peak c.work.new.meter.peak c.in_ok-survey.survey.header_len c.in_ok-survey.survey.tile refl c.requires.one_block
    (learnt c.known_law.ensures.know c.args.asked.now.options c.in_ok-survey.survey held exact) c.in_ok-survey.ensures.peak high

pub returns-clause-cause : goal.returns-clause-cause
returns-clause-cause g c = rw (c.in_ok-survey.ensures.cause.ok, c.in_ok-survey.ensures.stays.2) at c.work.ensures.cause

pub returns-in_err-survey-clause-most : goal.returns-in_err-survey-clause-most
returns-in_err-survey-clause-most g c =
    let W : ℕ = c.args.window.now.workers in
    let meter = c.args.meter.now in
    let stopped : c.from_residual.result ≡ Err c.in_err-survey.field-0.0 = search rules in
    subst (λ (r : Result (Unit {0}) Stop). TellsLimit meter.limit (greatest_bound (Pack c.args.asked.now.options) W) r) (sym stopped)
    (c.stages_law.ensures.look.over_limit (Pack c.args.asked.now.options) W meter.live meter.limit c.in_err-survey.field-0.0 c.requires.one_block c.in_err-survey.ensures.most)

pub returns-in_err-survey-clause-peak_most : goal.returns-in_err-survey-clause-peak_most
returns-in_err-survey-clause-peak_most g c =
    let within = c.stages_law.ensures.sizes.look (Pack c.args.asked.now.options) c.args.window.now.workers in
    omega (arith, within, c.requires.one_block, c.in_err-survey.ensures.peak_most)

pub returns-clause-most : goal.returns-clause-most
returns-clause-most g c =
    let W : ℕ = c.args.window.now.workers in
    let meter = c.survey_to_pack.new.meter in
    let s = c.in_ok-survey.survey in
    let most : TellsLimit meter.limit (greatest_bound (Pack c.args.asked.now.options) W) c.work.result =
    c.stages_law.ensures.work.over_limit (Pack c.args.asked.now.options) W meter.live meter.limit s.header_len s.tile _ _ _ _ c.work.result tt (c.in_ok-survey.ensures.stays.1 ∙ c.requires.one_block) c.in_ok-survey.ensures.survey.header.1
    c.in_ok-survey.ensures.survey.tile c.work.ensures.cause.stop c.work.ensures.first_past in
    rw c.in_ok-survey.ensures.stays.2 at most

pub returns-clause-peak_most : goal.returns-clause-peak_most
returns-clause-peak_most g c =
    let s = c.in_ok-survey.survey in
    let W : ℕ = c.args.window.now.workers in
    let look = c.stages_law.ensures.sizes.look (Pack c.args.asked.now.options) W in
    let work = c.stages_law.ensures.sizes.work (Pack c.args.asked.now.options) W s.header_len s.tile tt c.in_ok-survey.ensures.survey.header.1 c.in_ok-survey.ensures.survey.tile in
    omega (arith, look, work, c.requires.one_block, c.in_ok-survey.ensures.stays.1, c.in_ok-survey.ensures.peak_most, c.work.ensures.peak)

pub returns-in_err-survey-clause-touched : goal.returns-in_err-survey-clause-touched
returns-in_err-survey-clause-touched g c =
    let held : Option (List ℕ) = g.S.Source.held c.args.source.now in
    let new : Option (List (ℕ × ℕ)) = g.S.Source.ranges c.survey_to_pack.new.source in
    look_read c.args.asked.now.options held (g.S.Source.ranges c.args.source.now) new new c.touched_law.ensures.look c.in_err-survey.ensures.touched

pub returns-clause-touched : goal.returns-clause-touched
returns-clause-touched g c =
    let o = c.args.asked.now.options in
    let held : Option (List ℕ) = g.S.Source.held c.args.source.now in
    let same : g.S.Source.held c.survey_to_pack.new.source ≡ held = search rules in
    let old : Option (List (ℕ × ℕ)) = g.S.Source.ranges c.args.source.now in
    let mid : Option (List (ℕ × ℕ)) = g.S.Source.ranges c.survey_to_pack.new.source in
    let new : Option (List (ℕ × ℕ)) = g.S.Source.ranges c.work.new.source in
    let exact : IfSome held (Knows o c.in_ok-survey.survey) = c.in_ok-survey.ensures.exact in
    let reads : IfSome held (λ file. ReadsHdus o file c.in_ok-survey.survey mid new) = rw same at c.work.ensures.read in
    all_read o held old mid new c.ranges_law.ensures.join c.known_law.ensures.know c.touched_law.ensures.hdus c.in_ok-survey.survey exact
    (look_read o held old mid new c.touched_law.ensures.look c.in_ok-survey.ensures.touched) reads
