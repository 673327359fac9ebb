-- The first look stops, or knows the file, and then the work says the rest.
use Rattle.std.proofs.Common.{◌≡◌, ℕ, ◌+◌, ◌≤◌, max, List, Option, Some, None, IfSome, Result, Ok, Err, sum, refl, sym, ◌∙◌, subst, rules, arith}
use Rattle.std.specs.Prelude.{IsSome, OnOk}
use Rattle.fz_base.specs.Counts.{nameless}
use Rattle.fz_base.specs.Takings.{TellsFirstPast, first_past, highest, piled}
use Rattle.fz_base.specs.declared.failure.Stop.{Stop}
use Rattle.fz_files.specs.declared.job.Job.TheVariants.{Cut}
use Rattle.fz_files.specs.Walks.{box_of}
use Rattle.fz_grid.specs.declared.region.Region.{Region}
use Rattle.fz_job.specs.SurveyReads.{IsWithinOne}
use Rattle.fz_job.specs.Surveys.{cut_surveyed, survey_places, survey_takings}
use Rattle.fz_base.specs.Ranges.{LogsIn}
use Rattle.fz_base.specs.Source.{LogsOnly}
use Rattle.fz_cut.specs.Again.{WasSeen}
use Rattle.fz_cut.proofs.Logs.{both_reads, look_reads, wider}
use Rattle.fz_job.specs.Workspace.{wanted_buffers}
use Rattle.fz_job.specs.declared.checks.JobChecks.TheVariants.{Cut as CutChecks}
use Rattle.fz_base.specs.Stop.{IsDefined, TellsLimit}
use Rattle.fz_job.specs.declared.survey.Survey.{Survey}
use Rattle.fz_job.specs.Clauses.{TellsFirstFault, greatest_bound}
use Rattle.fz_job.specs.Stages.{Works, later_takings, wants_for}
use Rattle.fz_cut.specs.Written.{FinishesSeen, IsShutOrPart, work_ranges}
use Rattle.fz_cut.proofs.Finished.{Knows, learnt, work_faulty, work_output, work_shut, work_touched, work_unmade}
use Rattle.fz_cut.proofs.Outcomes.{look_refused, ok_weaker, past_at, past_by, refused_weaker, untouched_shut, untouched_unmade}
use Rattle.fz_cut.proofs.cut_file.with_block.Goals as goal

pub returns-in_err-survey-clause-first_fault : goal.returns-in_err-survey-clause-first_fault
returns-in_err-survey-clause-first_fault g c =
    let held : Option (List ℕ) = g.S.Source.held c.args.source.now in
    let stopped : c.from_residual.result ≡ Err c.in_err-survey.field-0.0 = search rules in
    subst (λ (r : Result (Unit {0}) Stop). TellsFirstFault (Cut c.args.asked.now.hdu c.args.asked.now.sieve) held r) (sym stopped)
    (c.stages_law.ensures.look.fault (Cut c.args.asked.now.hdu c.args.asked.now.sieve) held c.in_err-survey.field-0.0 (look_refused c.known_law.ensures.refuse c.args.asked.now.hdu c.args.asked.now.sieve held c.in_err-survey.field-0.0
    (subst (λ (r : Region). IfSome held (λ file. IsDefined {X = Survey} (cut_surveyed c.args.asked.now.hdu r file) (Err c.in_err-survey.field-0.0))) c.box_of-region.ensures.exact c.in_err-survey.ensures.exact)))

pub returns-in_err-survey-clause-first_byte : goal.returns-in_err-survey-clause-first_byte
returns-in_err-survey-clause-first_byte g c = untouched_shut (g.K.Sink.contents c.args.sink.now) _ c.from_residual.result c.requires.empty

pub returns-in_err-survey-clause-unmade : goal.returns-in_err-survey-clause-unmade
returns-in_err-survey-clause-unmade g c = untouched_unmade (Cut c.args.asked.now.hdu c.args.asked.now.sieve) (g.S.Source.held c.args.source.now) c.args.meter.now.limit (λ file. later_takings (Cut c.args.asked.now.hdu c.args.asked.now.sieve) file c.args.window.now.workers) _ c.from_residual.result (refl, refl)

pub returns-in_err-survey-clause-first_past : goal.returns-in_err-survey-clause-first_past
returns-in_err-survey-clause-first_past g c =
    let held : Option (List ℕ) = g.S.Source.held c.args.source.now in
    let meter = c.args.meter.now in
    let W : ℕ = c.args.window.now.workers in
    let stopped : c.from_residual.result ≡ Err c.in_err-survey.field-0.0 = search rules in
    subst (λ (r : Result (Unit {0}) Stop). IfSome held (λ file. TellsFirstPast meter.limit (later_takings (Cut c.args.asked.now.hdu c.args.asked.now.sieve) file W) r)) (sym stopped)
    (c.stages_law.ensures.look.first_past (Cut c.args.asked.now.hdu c.args.asked.now.sieve) (CutChecks c.args.asked.now.hdu (box_of c.args.asked.now.sieve)) held W meter.live meter.limit c.in_err-survey.field-0.0 _ _ refl c.requires.one_block c.in_err-survey.ensures.cause.stop
    (look_refused c.known_law.ensures.refuse c.args.asked.now.hdu c.args.asked.now.sieve held c.in_err-survey.field-0.0 (subst (λ (r : Region). IfSome held (λ file. IsDefined {X = Survey} (cut_surveyed c.args.asked.now.hdu r file) (Err c.in_err-survey.field-0.0))) c.box_of-region.ensures.exact c.in_err-survey.ensures.exact))
    (subst (λ (r : Region). IfSome held (λ file. TellsFirstPast {X = Survey} meter.limit (survey_takings (CutChecks c.args.asked.now.hdu r) meter.live file) (Err c.in_err-survey.field-0.0))) c.box_of-region.ensures.exact c.in_err-survey.ensures.first_past))

pub returns-in_err-survey-clause-peak : goal.returns-in_err-survey-clause-peak
returns-in_err-survey-clause-peak g c =
    c.stages_law.ensures.peaks.look (Cut c.args.asked.now.hdu c.args.asked.now.sieve) (CutChecks c.args.asked.now.hdu (box_of c.args.asked.now.sieve)) (g.S.Source.held c.args.source.now) c.args.window.now.workers c.args.meter.now.live c.args.meter.now.peak c.survey_to_cut.new.meter.peak refl c.requires.one_block
    (subst (λ (r : Region). IfSome (g.S.Source.held c.args.source.now) (λ file. c.survey_to_cut.new.meter.peak ≤ max c.args.meter.now.peak (highest (survey_takings (CutChecks c.args.asked.now.hdu r) c.args.meter.now.live file)))) c.box_of-region.ensures.exact c.in_err-survey.ensures.peak)

pub returns-in_err-survey-clause-emptied : goal.returns-in_err-survey-clause-emptied
returns-in_err-survey-clause-emptied g c = λ i. record { slots = c.requires.window i; workers = c.args.window.now.workers }

pub returns-in_err-survey-clause-cause : goal.returns-in_err-survey-clause-cause
returns-in_err-survey-clause-cause g c =
    let source = g.S.Source.tally c.args.source.now in
    let source' = g.S.Source.tally c.survey_to_cut.new.source in
    let sink = nameless (g.K.Sink.tally c.args.sink.now) in
    let stopped : c.from_residual.result ≡ Err c.in_err-survey.field-0.0 = search rules in
    subst (λ (r : Result (Unit {0}) Stop). Works source source' sink sink c.args.meter.now.limit r) (sym stopped)
    (c.stages_law.ensures.look.works source source' sink c.args.meter.now.limit c.in_err-survey.field-0.0 c.in_err-survey.ensures.cause)

pub returns-clause-output : goal.returns-clause-output
returns-clause-output g c =
    let held : Option (List ℕ) = g.S.Source.held c.args.source.now in
    let same : g.S.Source.held c.survey_to_cut.new.source ≡ held = search rules in
    let now : Option (List ℕ) = g.K.Sink.contents c.work.new.sink in
    let exact : IfSome held (Knows c.args.asked.now.hdu c.args.asked.now.sieve c.in_ok-survey.survey) = subst (λ (r : Region). IfSome held (λ file. cut_surveyed c.args.asked.now.hdu r file ≡ Ok c.in_ok-survey.survey)) c.box_of-region.ensures.exact c.in_ok-survey.ensures.exact in
    let at : c.in_ok-survey.survey.stopped ≡ Some c.in-Some.from = search rules in
    let written : IfSome held (λ file. FinishesSeen file c.args.asked.now.sieve c.in_ok-survey.survey.header_len c.in_ok-survey.survey.tile c.in-Some.from now c.work.result) = rw same at c.work.ensures.written in
    work_output c.known_law.ensures.know c.args.asked.now.hdu c.args.asked.now.sieve c.in_ok-survey.survey c.in-Some.from at held now c.work.result exact written

pub returns-clause-first_fault : goal.returns-clause-first_fault
returns-clause-first_fault g c =
    let held : Option (List ℕ) = g.S.Source.held c.args.source.now in
    let same : g.S.Source.held c.survey_to_cut.new.source ≡ held = search rules in
    let now : Option (List ℕ) = g.K.Sink.contents c.work.new.sink in
    let exact : IfSome held (Knows c.args.asked.now.hdu c.args.asked.now.sieve c.in_ok-survey.survey) = subst (λ (r : Region). IfSome held (λ file. cut_surveyed c.args.asked.now.hdu r file ≡ Ok c.in_ok-survey.survey)) c.box_of-region.ensures.exact c.in_ok-survey.ensures.exact in
    let at : c.in_ok-survey.survey.stopped ≡ Some c.in-Some.from = search rules in
    let written : IfSome held (λ file. FinishesSeen file c.args.asked.now.sieve c.in_ok-survey.survey.header_len c.in_ok-survey.survey.tile c.in-Some.from now c.work.result) = rw same at c.work.ensures.written in
    work_faulty c.known_law.ensures.know c.args.asked.now.hdu c.args.asked.now.sieve c.in_ok-survey.survey c.in-Some.from at held now c.work.result exact written

pub returns-clause-first_byte : goal.returns-clause-first_byte
returns-clause-first_byte g c =
    let held : Option (List ℕ) = g.S.Source.held c.args.source.now in
    let same : g.S.Source.held c.survey_to_cut.new.source ≡ held = search rules in
    let now : Option (List ℕ) = g.K.Sink.contents c.work.new.sink in
    let exact : IfSome held (Knows c.args.asked.now.hdu c.args.asked.now.sieve c.in_ok-survey.survey) = subst (λ (r : Region). IfSome held (λ file. cut_surveyed c.args.asked.now.hdu r file ≡ Ok c.in_ok-survey.survey)) c.box_of-region.ensures.exact c.in_ok-survey.ensures.exact in
    let at : c.in_ok-survey.survey.stopped ≡ Some c.in-Some.from = search rules in
    let shut : IsShutOrPart held c.args.asked.now.sieve c.in_ok-survey.survey.header_len c.in_ok-survey.survey.tile c.in-Some.from now c.work.result = rw same at c.work.ensures.shut in
    work_shut c.known_law.ensures.know c.args.asked.now.hdu c.args.asked.now.sieve c.in_ok-survey.survey c.in-Some.from at held now c.work.result exact shut

pub returns-clause-unmade : goal.returns-clause-unmade
returns-clause-unmade g c =
    let held : Option (List ℕ) = g.S.Source.held c.args.source.now in
    let meter = c.args.meter.now in
    let W : ℕ = c.args.window.now.workers in
    let s = c.in_ok-survey.survey in
    let exact : IfSome held (Knows c.args.asked.now.hdu c.args.asked.now.sieve s) = subst (λ (r : Region). IfSome held (λ file. cut_surveyed c.args.asked.now.hdu r file ≡ Ok s)) c.box_of-region.ensures.exact c.in_ok-survey.ensures.exact in
    let none : IfSome held (λ file. first_past meter.limit (survey_takings (CutChecks c.args.asked.now.hdu (box_of c.args.asked.now.sieve)) meter.live file) ≡ None) =
    subst (λ (r : Region). IfSome held (λ file. first_past meter.limit (survey_takings (CutChecks c.args.asked.now.hdu r) meter.live file) ≡ None)) c.box_of-region.ensures.exact c.in_ok-survey.ensures.first_past in
    let past : IsSome (first_past meter.limit (piled meter.live (wanted_buffers (wants_for (Cut c.args.asked.now.hdu c.args.asked.now.sieve) s) W))) → (g.K.Sink.created c.work.new.sink ≡ g.K.Sink.created c.args.sink.now) × (g.K.Sink.contents c.work.new.sink ≡ g.K.Sink.contents c.args.sink.now) =
    past_at c.survey_to_cut.new.meter.limit meter.limit c.survey_to_cut.new.meter.live meter.live (wanted_buffers (wants_for (Cut c.args.asked.now.hdu c.args.asked.now.sieve) s) W) _ c.in_ok-survey.ensures.stays.2 c.in_ok-survey.ensures.stays.1 c.work.ensures.past in
    let passes = c.stages_law.ensures.passes.look (Cut c.args.asked.now.hdu c.args.asked.now.sieve) (CutChecks c.args.asked.now.hdu (box_of c.args.asked.now.sieve)) held W meter.live meter.limit s.header_len s.tile refl c.requires.one_block (learnt c.known_law.ensures.know c.args.asked.now.hdu c.args.asked.now.sieve s held exact) none in
    work_unmade c.known_law.ensures.know c.args.asked.now.hdu c.args.asked.now.sieve s held meter.limit (λ file. later_takings (Cut c.args.asked.now.hdu c.args.asked.now.sieve) file W) _ c.work.result exact
    (past_by held (λ file. first_past meter.limit (later_takings (Cut c.args.asked.now.hdu c.args.asked.now.sieve) file W)) (first_past meter.limit (piled meter.live (wanted_buffers (wants_for (Cut c.args.asked.now.hdu c.args.asked.now.sieve) s) W))) _ passes past) c.work.ensures.unmade (refused_weaker c.work.result (λ x late. late) c.work.ensures.late)

pub returns-clause-exact_peak : goal.returns-clause-exact_peak
returns-clause-exact_peak g c =
    let held : Option (List ℕ) = g.S.Source.held c.args.source.now in
    let meter = c.args.meter.now in
    let W : ℕ = c.args.window.now.workers in
    let s = c.in_ok-survey.survey in
    let exact : IfSome held (Knows c.args.asked.now.hdu c.args.asked.now.sieve s) = subst (λ (r : Region). IfSome held (λ file. cut_surveyed c.args.asked.now.hdu r file ≡ Ok s)) c.box_of-region.ensures.exact c.in_ok-survey.ensures.exact in
    let look : IfSome held (λ file. c.survey_to_cut.new.meter.peak ≡ max meter.peak (highest (survey_takings (CutChecks c.args.asked.now.hdu (box_of c.args.asked.now.sieve)) meter.live file))) =
    subst (λ (r : Region). IfSome held (λ file. c.survey_to_cut.new.meter.peak ≡ max meter.peak (highest (survey_takings (CutChecks c.args.asked.now.hdu r) meter.live file)))) c.box_of-region.ensures.exact c.in_ok-survey.ensures.exact_peak in
    let reached : OnOk c.work.result (c.work.new.meter.peak ≡ max c.survey_to_cut.new.meter.peak (meter.live + sum (wanted_buffers (wants_for (Cut c.args.asked.now.hdu c.args.asked.now.sieve) s) W))) = rw c.in_ok-survey.ensures.stays.1 at c.work.ensures.exact_peak in
    ok_weaker c.work.result
    (λ work. c.stages_law.ensures.reached.work (Cut c.args.asked.now.hdu c.args.asked.now.sieve) (CutChecks c.args.asked.now.hdu (box_of c.args.asked.now.sieve)) held W meter.live meter.peak c.survey_to_cut.new.meter.peak c.work.new.meter.peak s.header_len s.tile refl c.requires.one_block (learnt c.known_law.ensures.know c.args.asked.now.hdu c.args.asked.now.sieve s held exact) look work) reached

pub returns-clause-first_past : goal.returns-clause-first_past
returns-clause-first_past g c =
    let held : Option (List ℕ) = g.S.Source.held c.args.source.now in
    let meter = c.args.meter.now in
    let W : ℕ = c.args.window.now.workers in
    let exact : IfSome held (Knows c.args.asked.now.hdu c.args.asked.now.sieve c.in_ok-survey.survey) = subst (λ (r : Region). IfSome held (λ file. cut_surveyed c.args.asked.now.hdu r file ≡ Ok c.in_ok-survey.survey)) c.box_of-region.ensures.exact c.in_ok-survey.ensures.exact in
    let at : c.in_ok-survey.survey.stopped ≡ Some c.in-Some.from = search rules in
    let none : IfSome held (λ file. first_past meter.limit (survey_takings (CutChecks c.args.asked.now.hdu (box_of c.args.asked.now.sieve)) meter.live file) ≡ None) =
    subst (λ (r : Region). IfSome held (λ file. first_past meter.limit (survey_takings (CutChecks c.args.asked.now.hdu r) meter.live file) ≡ None)) c.box_of-region.ensures.exact c.in_ok-survey.ensures.first_past in
    let tells : TellsFirstPast meter.limit (piled meter.live (wanted_buffers (wants_for (Cut c.args.asked.now.hdu c.args.asked.now.sieve) c.in_ok-survey.survey) W)) c.work.result =
    rw (c.in_ok-survey.ensures.stays.1, c.in_ok-survey.ensures.stays.2) at c.work.ensures.first_past in
    c.stages_law.ensures.work.first_past (Cut c.args.asked.now.hdu c.args.asked.now.sieve) (CutChecks c.args.asked.now.hdu (box_of c.args.asked.now.sieve)) held W meter.live meter.limit c.in_ok-survey.survey.header_len c.in_ok-survey.survey.tile c.work.result refl c.requires.one_block
    (learnt c.known_law.ensures.know c.args.asked.now.hdu c.args.asked.now.sieve c.in_ok-survey.survey held exact) none tells

pub returns-clause-peak : goal.returns-clause-peak
returns-clause-peak g c =
    let held : Option (List ℕ) = g.S.Source.held c.args.source.now in
    let meter = c.args.meter.now in
    let W : ℕ = c.args.window.now.workers in
    let exact : IfSome held (Knows c.args.asked.now.hdu c.args.asked.now.sieve c.in_ok-survey.survey) = subst (λ (r : Region). IfSome held (λ file. cut_surveyed c.args.asked.now.hdu r file ≡ Ok c.in_ok-survey.survey)) c.box_of-region.ensures.exact c.in_ok-survey.ensures.exact in
    let at : c.in_ok-survey.survey.stopped ≡ Some c.in-Some.from = search rules in
    let high : c.work.new.meter.peak ≤ max c.survey_to_cut.new.meter.peak (meter.live + sum (wanted_buffers (wants_for (Cut c.args.asked.now.hdu c.args.asked.now.sieve) c.in_ok-survey.survey) W)) = rw c.in_ok-survey.ensures.stays.1 at c.work.ensures.peak in
    c.stages_law.ensures.peaks.work (Cut c.args.asked.now.hdu c.args.asked.now.sieve) (CutChecks c.args.asked.now.hdu (box_of c.args.asked.now.sieve)) held W meter.live meter.peak c.survey_to_cut.new.meter.peak c.work.new.meter.peak c.in_ok-survey.survey.header_len c.in_ok-survey.survey.tile refl c.requires.one_block
    (learnt c.known_law.ensures.know c.args.asked.now.hdu c.args.asked.now.sieve c.in_ok-survey.survey held exact)
    (subst (λ (r : Region). IfSome held (λ file. c.survey_to_cut.new.meter.peak ≤ max meter.peak (highest (survey_takings (CutChecks c.args.asked.now.hdu r) meter.live file)))) c.box_of-region.ensures.exact c.in_ok-survey.ensures.peak) high

pub returns-clause-cause : goal.returns-clause-cause
returns-clause-cause g c = rw (c.in_ok-survey.ensures.cause.ok, c.in_ok-survey.ensures.stays.2) at c.work.ensures.cause

pub returns-in_err-survey-clause-most : goal.returns-in_err-survey-clause-most
returns-in_err-survey-clause-most g c =
    let W : ℕ = c.args.window.now.workers in
    let meter = c.args.meter.now in
    let stopped : c.from_residual.result ≡ Err c.in_err-survey.field-0.0 = search rules in
    subst (λ (r : Result (Unit {0}) Stop). TellsLimit meter.limit (greatest_bound (Cut c.args.asked.now.hdu c.args.asked.now.sieve) W) r) (sym stopped)
    (c.stages_law.ensures.look.over_limit (Cut c.args.asked.now.hdu c.args.asked.now.sieve) W meter.live meter.limit c.in_err-survey.field-0.0 c.requires.one_block c.in_err-survey.ensures.most)

pub returns-in_err-survey-clause-peak_most : goal.returns-in_err-survey-clause-peak_most
returns-in_err-survey-clause-peak_most g c =
    let within = c.stages_law.ensures.sizes.look (Cut c.args.asked.now.hdu c.args.asked.now.sieve) c.args.window.now.workers in
    omega (arith, within, c.requires.one_block, c.in_err-survey.ensures.peak_most)

pub returns-clause-most : goal.returns-clause-most
returns-clause-most g c =
    let W : ℕ = c.args.window.now.workers in
    let meter = c.survey_to_cut.new.meter in
    let s = c.in_ok-survey.survey in
    let most : TellsLimit meter.limit (greatest_bound (Cut c.args.asked.now.hdu c.args.asked.now.sieve) W) c.work.result =
    c.stages_law.ensures.work.over_limit (Cut c.args.asked.now.hdu c.args.asked.now.sieve) W meter.live meter.limit s.header_len s.tile _ _ _ _ c.work.result tt (c.in_ok-survey.ensures.stays.1 ∙ c.requires.one_block) c.in_ok-survey.ensures.survey.header.1
    c.in_ok-survey.ensures.survey.tile c.work.ensures.cause.stop c.work.ensures.first_past in
    rw c.in_ok-survey.ensures.stays.2 at most

pub returns-clause-peak_most : goal.returns-clause-peak_most
returns-clause-peak_most g c =
    let s = c.in_ok-survey.survey in
    let W : ℕ = c.args.window.now.workers in
    let look = c.stages_law.ensures.sizes.look (Cut c.args.asked.now.hdu c.args.asked.now.sieve) W in
    let work = c.stages_law.ensures.sizes.work (Cut c.args.asked.now.hdu c.args.asked.now.sieve) W s.header_len s.tile tt c.in_ok-survey.ensures.survey.header.1 c.in_ok-survey.ensures.survey.tile in
    omega (arith, look, work, c.requires.one_block, c.in_ok-survey.ensures.stays.1, c.in_ok-survey.ensures.peak_most, c.work.ensures.peak)

pub returns-in_err-survey-clause-touched : goal.returns-in_err-survey-clause-touched
returns-in_err-survey-clause-touched g c =
    let held : Option (List ℕ) = g.S.Source.held c.args.source.now in
    look_reads c.touched_law.ensures.look c.args.asked.now.hdu c.args.asked.now.sieve held (g.S.Source.ranges c.args.source.now) (g.S.Source.ranges c.survey_to_cut.new.source)
    (subst (λ (r : Region). IfSome held (λ file. LogsOnly (IsWithinOne (survey_places (CutChecks c.args.asked.now.hdu r) file)) (g.S.Source.ranges c.args.source.now) (g.S.Source.ranges c.survey_to_cut.new.source))) c.box_of-region.ensures.exact c.in_err-survey.ensures.touched)

pub returns-clause-touched : goal.returns-clause-touched
returns-clause-touched g c =
    let held : Option (List ℕ) = g.S.Source.held c.args.source.now in
    let s : Survey = c.in_ok-survey.survey in
    let from = c.in-Some.from in
    let old : Option (List (ℕ × ℕ)) = g.S.Source.ranges c.args.source.now in
    let mid : Option (List (ℕ × ℕ)) = g.S.Source.ranges c.survey_to_cut.new.source in
    let new : Option (List (ℕ × ℕ)) = g.S.Source.ranges c.work.new.source in
    let same : g.S.Source.held c.survey_to_cut.new.source ≡ held = search rules in
    let at : s.stopped ≡ Some from = search rules in
    let exact : IfSome held (Knows c.args.asked.now.hdu c.args.asked.now.sieve s) = subst (λ (r : Region). IfSome held (λ file. cut_surveyed c.args.asked.now.hdu r file ≡ Ok s)) c.box_of-region.ensures.exact c.in_ok-survey.ensures.exact in
    let reads : IfSome held (λ file. WasSeen file (box_of c.args.asked.now.sieve) s.header_len s.tile from → LogsIn (work_ranges file c.args.asked.now.sieve from) mid new) = rw same at c.work.ensures.touched in
    both_reads c.ranges_law.ensures.join c.args.asked.now.hdu c.args.asked.now.sieve held old mid new
    (look_reads c.touched_law.ensures.look c.args.asked.now.hdu c.args.asked.now.sieve held old mid
    (subst (λ (r : Region). IfSome held (λ file. LogsOnly (IsWithinOne (survey_places (CutChecks c.args.asked.now.hdu r) file)) old mid)) c.box_of-region.ensures.exact c.in_ok-survey.ensures.touched))
    (work_touched c.known_law.ensures.know c.args.asked.now.hdu c.args.asked.now.sieve s from at c.touched_law.ensures.work wider held mid new exact reads)
