-- The first look stops, or knows the file, and then the work says the rest.
use Rattle.std.proofs.Common.{◌≡◌, ℕ, ◌+◌, ◌≤◌, max, List, Option, None, IfSome, Result, Err, sum, refl, sym, ◌∙◌, subst, rules, arith}
use Rattle.std.specs.Prelude.{IsSome, OnOk}
use Rattle.fz_base.specs.Stop.{TellsLimit}
use Rattle.fz_base.specs.Takings.{TellsFirstPast, first_past, highest, piled}
use Rattle.fz_base.specs.declared.failure.Stop.{Stop}
use Rattle.fz_files.specs.declared.job.Job.TheVariants.{List as ListHdus}
use Rattle.fz_job.specs.Surveys.{survey_takings}
use Rattle.fz_job.specs.Workspace.{wanted_buffers}
use Rattle.fz_job.specs.declared.checks.JobChecks.TheVariants.{Unpack as UnpackChecks}
use Rattle.fz_job.specs.Clauses.{TellsFirstFault, greatest_bound}
use Rattle.fz_verify.specs.Clauses.{PrintsLines}
use Rattle.fz_verify.specs.Printed.{ListsSeen}
use Rattle.fz_verify.specs.Reads.{ReadsHeaders}
use Rattle.fz_job.specs.Stages.{Works, later_takings, wants_for}
use Rattle.fz_verify.proofs.Finished.{Knows, list_faulty, list_learnt, list_prints, work_silent}
use Rattle.fz_verify.proofs.Outcomes.{look_refused, look_unprinted, untouched_silent, ok_weaker, past_by, past_at}
use Rattle.fz_verify.proofs.HeaderReads.{both_read, look_reads}
use Rattle.fz_verify.proofs.Reports.{grew_not}
use Rattle.fz_verify.proofs.list_file.list_with_block.Goals as goal

pub returns-in_err-survey-clause-lines : goal.returns-in_err-survey-clause-lines
returns-in_err-survey-clause-lines g c =
    let held : Option (List ℕ) = g.S.Source.held c.args.source.now in
    let old : Option (List ℕ) = g.T.Text.contents c.args.text.now in
    let stopped : c.from_residual.result ≡ Err c.in_err-survey.field-0.0 = search rules in
    subst (λ (r : Result (Unit {0}) Stop). PrintsLines ListHdus held old old r) (sym stopped)
    (look_unprinted ListHdus held (c.known_law.ensures.refuse ListHdus tt) (Unit {0}) old c.in_err-survey.field-0.0 c.in_err-survey.ensures.exact)

pub returns-in_err-survey-clause-first_fault : goal.returns-in_err-survey-clause-first_fault
returns-in_err-survey-clause-first_fault g c =
    let held : Option (List ℕ) = g.S.Source.held c.args.source.now in
    let stopped : c.from_residual.result ≡ Err c.in_err-survey.field-0.0 = search rules in
    subst (λ (r : Result (Unit {0}) Stop). TellsFirstFault ListHdus held r) (sym stopped)
    (c.stages_law.ensures.look.fault ListHdus held c.in_err-survey.field-0.0 (look_refused ListHdus held (c.known_law.ensures.refuse ListHdus tt) c.in_err-survey.field-0.0 c.in_err-survey.ensures.exact))

pub returns-in_err-survey-clause-silent : goal.returns-in_err-survey-clause-silent
returns-in_err-survey-clause-silent g c = untouched_silent ListHdus (g.S.Source.held c.args.source.now) c.args.meter.now.limit (λ file. later_takings ListHdus file 1) _ c.from_residual.result (refl, refl)

pub returns-in_err-survey-clause-first_past : goal.returns-in_err-survey-clause-first_past
returns-in_err-survey-clause-first_past g c =
    let held : Option (List ℕ) = g.S.Source.held c.args.source.now in
    let meter = c.args.meter.now in
    let stopped : c.from_residual.result ≡ Err c.in_err-survey.field-0.0 = search rules in
    subst (λ (r : Result (Unit {0}) Stop). IfSome held (λ file. TellsFirstPast meter.limit (later_takings ListHdus file 1) r)) (sym stopped)
    (c.stages_law.ensures.look.first_past ListHdus UnpackChecks held 1 meter.live meter.limit c.in_err-survey.field-0.0 _ _ refl c.requires.one_block c.in_err-survey.ensures.cause.stop
    (look_refused ListHdus held (c.known_law.ensures.refuse ListHdus tt) c.in_err-survey.field-0.0 c.in_err-survey.ensures.exact) c.in_err-survey.ensures.first_past)

pub returns-in_err-survey-clause-peak : goal.returns-in_err-survey-clause-peak
returns-in_err-survey-clause-peak g c =
    c.stages_law.ensures.peaks.look ListHdus UnpackChecks (g.S.Source.held c.args.source.now) 1 c.args.meter.now.live c.args.meter.now.peak c.survey_to_unpack.new.meter.peak refl c.requires.one_block c.in_err-survey.ensures.peak

pub returns-in_err-survey-clause-most : goal.returns-in_err-survey-clause-most
returns-in_err-survey-clause-most g c =
    let stopped : c.from_residual.result ≡ Err c.in_err-survey.field-0.0 = search rules in
    subst (λ (r : Result (Unit {0}) Stop). TellsLimit c.args.meter.now.limit (greatest_bound ListHdus 1) r) (sym stopped)
    (c.stages_law.ensures.look.over_limit ListHdus 1 c.args.meter.now.live c.args.meter.now.limit c.in_err-survey.field-0.0 c.requires.one_block c.in_err-survey.ensures.most)

pub returns-in_err-survey-clause-peak_most : goal.returns-in_err-survey-clause-peak_most
returns-in_err-survey-clause-peak_most g c =
    let within = c.stages_law.ensures.sizes.look ListHdus 1 in
    omega (arith, within, c.requires.one_block, c.in_err-survey.ensures.peak_most)

pub returns-in_err-survey-clause-cause : goal.returns-in_err-survey-clause-cause
returns-in_err-survey-clause-cause g c =
    let source = g.S.Source.tally c.args.source.now in
    let source' = g.S.Source.tally c.survey_to_unpack.new.source in
    let text = g.T.Text.tally c.args.text.now in
    let stopped : c.from_residual.result ≡ Err c.in_err-survey.field-0.0 = search rules in
    subst (λ (r : Result (Unit {0}) Stop). Works source source' text text c.args.meter.now.limit r) (sym stopped)
    (c.stages_law.ensures.look.works source source' text c.args.meter.now.limit c.in_err-survey.field-0.0 c.in_err-survey.ensures.cause)

pub returns-clause-lines : goal.returns-clause-lines
returns-clause-lines g c =
    let held : Option (List ℕ) = g.S.Source.held c.args.source.now in
    let same : g.S.Source.held c.survey_to_unpack.new.source ≡ held = search rules in
    let old : Option (List ℕ) = g.T.Text.contents c.args.text.now in
    let now : Option (List ℕ) = g.T.Text.contents c.list_seen.new.text in
    let exact : IfSome held (Knows c.in_ok-survey.survey) = c.in_ok-survey.ensures.exact in
    let listed : IfSome held (λ file. ListsSeen file c.in_ok-survey.survey old now c.list_seen.result) = rw same at c.list_seen.ensures.listed in
    list_prints (c.known_law.ensures.know ListHdus tt) c.in_ok-survey.survey held old now c.list_seen.result exact listed

pub returns-clause-first_fault : goal.returns-clause-first_fault
returns-clause-first_fault g c =
    let held : Option (List ℕ) = g.S.Source.held c.args.source.now in
    let same : g.S.Source.held c.survey_to_unpack.new.source ≡ held = search rules in
    let old : Option (List ℕ) = g.T.Text.contents c.args.text.now in
    let now : Option (List ℕ) = g.T.Text.contents c.list_seen.new.text in
    let exact : IfSome held (Knows c.in_ok-survey.survey) = c.in_ok-survey.ensures.exact in
    let listed : IfSome held (λ file. ListsSeen file c.in_ok-survey.survey old now c.list_seen.result) = rw same at c.list_seen.ensures.listed in
    list_faulty (c.known_law.ensures.know ListHdus tt) c.in_ok-survey.survey held old now c.list_seen.result exact listed

pub returns-clause-silent : goal.returns-clause-silent
returns-clause-silent g c =
    let held : Option (List ℕ) = g.S.Source.held c.args.source.now in
    let meter = c.args.meter.now in
    let W : ℕ = 1 in
    let s = c.in_ok-survey.survey in
    let exact : IfSome held (Knows s) = c.in_ok-survey.ensures.exact in
    let none : IfSome held (λ file. first_past meter.limit (survey_takings UnpackChecks meter.live file) ≡ None) = c.in_ok-survey.ensures.first_past in
    let past : IsSome (first_past meter.limit (piled meter.live (wanted_buffers (wants_for ListHdus s) W))) → (g.T.Text.contents c.list_seen.new.text ≡ g.T.Text.contents c.args.text.now) × (g.T.Text.tally c.list_seen.new.text ≡ g.T.Text.tally c.args.text.now) =
    past_at c.survey_to_unpack.new.meter.limit meter.limit c.survey_to_unpack.new.meter.live meter.live (wanted_buffers (wants_for ListHdus s) W) _ c.in_ok-survey.ensures.stays.2 c.in_ok-survey.ensures.stays.1 c.list_seen.ensures.past in
    let passes = c.stages_law.ensures.passes.look ListHdus UnpackChecks held W meter.live meter.limit s.header_len 0 refl c.requires.one_block (list_learnt (c.known_law.ensures.know ListHdus tt) s held exact) none in
    work_silent ListHdus (c.known_law.ensures.know ListHdus tt) s held meter.limit (λ file. later_takings ListHdus file W) _ c.list_seen.result exact
    (past_by held (λ file. first_past meter.limit (later_takings ListHdus file W)) (first_past meter.limit (piled meter.live (wanted_buffers (wants_for ListHdus s) W))) _ passes past) c.list_seen.ensures.silent c.list_seen.ensures.changed

pub returns-clause-exact_peak : goal.returns-clause-exact_peak
returns-clause-exact_peak g c =
    let held : Option (List ℕ) = g.S.Source.held c.args.source.now in
    let meter = c.args.meter.now in
    let W : ℕ = 1 in
    let s = c.in_ok-survey.survey in
    let exact : IfSome held (Knows s) = c.in_ok-survey.ensures.exact in
    let look : IfSome held (λ file. c.survey_to_unpack.new.meter.peak ≡ max meter.peak (highest (survey_takings UnpackChecks meter.live file))) = c.in_ok-survey.ensures.exact_peak in
    let reached : OnOk c.list_seen.result (c.list_seen.new.meter.peak ≡ max c.survey_to_unpack.new.meter.peak (meter.live + sum (wanted_buffers (wants_for ListHdus s) W))) = rw c.in_ok-survey.ensures.stays.1 at c.list_seen.ensures.exact_peak in
    ok_weaker c.list_seen.result
    (λ work. c.stages_law.ensures.reached.work ListHdus UnpackChecks held W meter.live meter.peak c.survey_to_unpack.new.meter.peak c.list_seen.new.meter.peak s.header_len 0 refl c.requires.one_block (list_learnt (c.known_law.ensures.know ListHdus tt) s held exact) look work) reached

pub returns-clause-first_past : goal.returns-clause-first_past
returns-clause-first_past g c =
    let held : Option (List ℕ) = g.S.Source.held c.args.source.now in
    let meter = c.args.meter.now in
    let s = c.in_ok-survey.survey in
    let exact : IfSome held (Knows s) = c.in_ok-survey.ensures.exact in
    let none : IfSome held (λ file. first_past meter.limit (survey_takings UnpackChecks meter.live file) ≡ None) = c.in_ok-survey.ensures.first_past in
    let tells : TellsFirstPast meter.limit (piled meter.live (wanted_buffers (wants_for ListHdus s) 1)) c.list_seen.result =
    rw (c.in_ok-survey.ensures.stays.1, c.in_ok-survey.ensures.stays.2) at c.list_seen.ensures.first_past in
    c.stages_law.ensures.work.first_past ListHdus UnpackChecks held 1 meter.live meter.limit s.header_len 0 c.list_seen.result refl c.requires.one_block (list_learnt (c.known_law.ensures.know ListHdus tt) s held exact) none tells

pub returns-clause-peak : goal.returns-clause-peak
returns-clause-peak g c =
    let held : Option (List ℕ) = g.S.Source.held c.args.source.now in
    let meter = c.args.meter.now in
    let s = c.in_ok-survey.survey in
    let exact : IfSome held (Knows s) = c.in_ok-survey.ensures.exact in
    let high : c.list_seen.new.meter.peak ≤ max c.survey_to_unpack.new.meter.peak (meter.live + sum (wanted_buffers (wants_for ListHdus s) 1)) = rw c.in_ok-survey.ensures.stays.1 at c.list_seen.ensures.peak in
    c.stages_law.ensures.peaks.work ListHdus UnpackChecks held 1 meter.live meter.peak c.survey_to_unpack.new.meter.peak c.list_seen.new.meter.peak s.header_len 0 refl c.requires.one_block
    (list_learnt (c.known_law.ensures.know ListHdus tt) s held exact) c.in_ok-survey.ensures.peak high

pub returns-clause-most : goal.returns-clause-most
returns-clause-most g c =
    let meter = c.survey_to_unpack.new.meter in
    let s = c.in_ok-survey.survey in
    let tells : TellsFirstPast meter.limit (piled meter.live (wanted_buffers (wants_for ListHdus s) 1)) c.list_seen.result = c.list_seen.ensures.first_past in
    let most : TellsLimit meter.limit (greatest_bound ListHdus 1) c.list_seen.result =
    c.stages_law.ensures.work.over_limit ListHdus 1 meter.live meter.limit s.header_len 0 _ _ _ _ c.list_seen.result tt (c.in_ok-survey.ensures.stays.1 ∙ c.requires.one_block) c.in_ok-survey.ensures.survey.header.1
    (omega arith) c.list_seen.ensures.cause.stop tells in
    rw c.in_ok-survey.ensures.stays.2 at most

pub returns-clause-peak_most : goal.returns-clause-peak_most
returns-clause-peak_most g c =
    let s = c.in_ok-survey.survey in
    let look = c.stages_law.ensures.sizes.look ListHdus 1 in
    let work = c.stages_law.ensures.sizes.work ListHdus 1 s.header_len 0 tt c.in_ok-survey.ensures.survey.header.1 (omega arith) in
    omega (arith, look, work, c.requires.one_block, c.in_ok-survey.ensures.stays.1, c.in_ok-survey.ensures.peak_most, c.list_seen.ensures.peak)

pub returns-clause-cause : goal.returns-clause-cause
returns-clause-cause g c = rw (c.in_ok-survey.ensures.cause.ok, c.in_ok-survey.ensures.stays.2) at c.list_seen.ensures.cause

pub returns-in_err-survey-clause-touched : goal.returns-in_err-survey-clause-touched
returns-in_err-survey-clause-touched g c =
    look_reads ListHdus (g.S.Source.held c.args.source.now) (g.S.Source.ranges c.args.source.now) (g.S.Source.ranges c.survey_to_unpack.new.source) (g.S.Source.ranges c.survey_to_unpack.new.source)
    (c.headers_law.ensures.look ListHdus tt) c.in_err-survey.ensures.touched

pub returns-clause-touched : goal.returns-clause-touched
returns-clause-touched g c =
    let held : Option (List ℕ) = g.S.Source.held c.args.source.now in
    let same : g.S.Source.held c.survey_to_unpack.new.source ≡ held = search rules in
    let old : Option (List (ℕ × ℕ)) = g.S.Source.ranges c.args.source.now in
    let mid : Option (List (ℕ × ℕ)) = g.S.Source.ranges c.survey_to_unpack.new.source in
    let new : Option (List (ℕ × ℕ)) = g.S.Source.ranges c.list_seen.new.source in
    let exact : IfSome held (Knows c.in_ok-survey.survey) = c.in_ok-survey.ensures.exact in
    let reads : IfSome held (λ file. ReadsHeaders file c.in_ok-survey.survey mid new) = rw same at c.list_seen.ensures.read in
    both_read ListHdus held old mid new c.ranges_law.ensures.join (c.known_law.ensures.know ListHdus tt) (c.headers_law.ensures.seen ListHdus tt) c.in_ok-survey.survey exact
    (look_reads ListHdus held old mid new (c.headers_law.ensures.look ListHdus tt) c.in_ok-survey.ensures.touched) reads

pub returns-in_err-survey-clause-grown : goal.returns-in_err-survey-clause-grown
returns-in_err-survey-clause-grown g c = grew_not (g.T.Text.contents c.args.text.now)
