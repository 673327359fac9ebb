-- The buffer for the longest header is taken and handed back; and the work stops by it, or by what is printed after that.
use Rattle.std.proofs.Common.{◌≡◌, ℕ, ◌+◌, max, List, sum, Option, None, IfSome, Result, Err, length, refl, sym, ap, ◌∙◌, subst, arith, rules}
use Rattle.std.proofs.lemmas.List.{length-replicate}
use Rattle.fz_base.specs.Meter.{Gauge}
use Rattle.fz_base.specs.Stop.{stop_of_short}
use Rattle.fz_base.specs.Takings.{TellsFirstPast, first_past, piled}
use Rattle.fz_base.specs.declared.failure.Stop.{Stop}
use Rattle.fz_job.specs.Workspace.{wanted_buffers}
use Rattle.fz_verify.specs.Printed.{ListsSeen}
use Rattle.fz_files.specs.declared.job.Job.TheVariants.{List as ListHdus}
use Rattle.fz_job.specs.Stages.{Works, wants_for}
use Rattle.fz_verify.proofs.Held.{refilled_len}
use Rattle.fz_verify.proofs.Outcomes.{if_over, none_passed, ok_always, rewrite_over}
use Rattle.fz_verify.proofs.One.{one_given, one_short_takes, one_works, short_listed, sum_of_one}
use Rattle.fz_verify.proofs.HeaderReads.{none_read}
use Rattle.fz_verify.proofs.Reports.{grew_not}
use Rattle.fz_verify.proofs.list_file.list_seen.Goals as goal

pub returns-in_err-header-clause-listed : goal.returns-in_err-header-clause-listed
returns-in_err-header-clause-listed g c =
    let held : Option (List ℕ) = g.S.Source.held c.args.source.now in
    let old : Option (List ℕ) = g.T.Text.contents c.args.text.now in
    let stopped : c.from_residual.result ≡ Err (stop_of_short c.in_err-header.field-0.0) = search rules in
    subst (λ (r : Result (Unit {0}) Stop). IfSome held (λ file. ListsSeen file c.args.survey.now old old r)) (sym stopped)
    (short_listed (Unit {0}) held c.args.survey.now old c.in_err-header.field-0.0)

pub returns-in_err-header-clause-silent : goal.returns-in_err-header-clause-silent
returns-in_err-header-clause-silent g c = if_over c.from_residual.result _ (refl, refl)

pub returns-in_err-header-clause-first_past : goal.returns-in_err-header-clause-first_past
returns-in_err-header-clause-first_past g c =
    let is : c.from.result ≡ c.args.survey.now.header_len = search rules in
    let meter = c.args.meter.now in
    let stopped : c.from_residual.result ≡ Err (stop_of_short c.in_err-header.field-0.0) = search rules in
    subst (λ (r : Result (Unit {0}) Stop). TellsFirstPast meter.limit (piled meter.live (wanted_buffers (wants_for ListHdus c.args.survey.now) 1)) r) (sym stopped)
    (one_short_takes (Unit {0}) meter c.args.survey.now.header_len c.in_err-header.field-0.0 (rw is at c.in_err-header.ensures.refused))

pub returns-in_err-header-clause-cause : goal.returns-in_err-header-clause-cause
returns-in_err-header-clause-cause g c =
    let is : c.from.result ≡ c.args.survey.now.header_len = search rules in
    let source = g.S.Source.tally c.args.source.now in
    let text = g.T.Text.tally c.args.text.now in
    let stopped : c.from_residual.result ≡ Err (stop_of_short c.in_err-header.field-0.0) = search rules in
    subst (λ (r : Result (Unit {0}) Stop). Works source source text text c.args.meter.now.limit r) (sym stopped)
    (one_works (Unit {0}) source text c.args.meter.now c.args.survey.now.header_len c.in_err-header.field-0.0 (rw is at c.in_err-header.ensures.refused))

pub returns-in_err-header-clause-peak : goal.returns-in_err-header-clause-peak
returns-in_err-header-clause-peak g c =
    let same : c.bytes.new.self.peak ≡ c.args.meter.now.peak = ap (λ (m : Gauge). m.peak) c.in_err-header.ensures.unchanged in
    omega (arith, same)

pub returns-clause-silent : goal.returns-clause-silent
returns-clause-silent g c = rewrite_over _ _ _ _ c.list_hdus-answer.result _ c.list_hdus-answer.ensures.cause.stop

pub returns-clause-first_past : goal.returns-clause-first_past
returns-clause-first_past g c =
    let meter = c.args.meter.now in
    let ts : List (ℕ × ℕ) = piled meter.live (wanted_buffers (wants_for ListHdus c.args.survey.now) 1) in
    let is : c.from.result ≡ c.args.survey.now.header_len = search rules in
    let none : first_past meter.limit ts ≡ None = one_given meter c.args.survey.now.header_len (omega (arith, c.in_ok-header.ensures.taken.0, is)) in
    c.stages_law.ensures.work.past _ _ _ _ meter.limit ts c.list_hdus-answer.result c.list_hdus-answer.ensures.cause.stop none

pub returns-clause-peak : goal.returns-clause-peak
returns-clause-peak g c =
    let is : c.from.result ≡ c.args.survey.now.header_len = search rules in
    let n : ℕ = c.from.result in
    let took : c.bytes.new.self.peak ≡ max c.args.meter.now.peak (c.args.meter.now.live + n) = ap (λ (m : Gauge). m.peak) c.in_ok-header.ensures.taken.1 in
    let back : c.give_bytes.new.self.peak ≡ c.bytes.new.self.peak = ap (λ (m : Gauge). m.peak) c.give_bytes.ensures in
    omega (arith, took, back, is, sum_of_one c.args.survey.now)

pub returns-clause-exact_peak : goal.returns-clause-exact_peak
returns-clause-exact_peak g c =
    let is : c.from.result ≡ c.args.survey.now.header_len = search rules in
    let n : ℕ = c.from.result in
    let took : c.bytes.new.self.peak ≡ max c.args.meter.now.peak (c.args.meter.now.live + n) = ap (λ (m : Gauge). m.peak) c.in_ok-header.ensures.taken.1 in
    let back : c.give_bytes.new.self.peak ≡ c.bytes.new.self.peak = ap (λ (m : Gauge). m.peak) c.give_bytes.ensures in
    let reached : c.give_bytes.new.self.peak ≡ max c.args.meter.now.peak (c.args.meter.now.live + sum (wanted_buffers (wants_for ListHdus c.args.survey.now) 1)) = omega (arith, took, back, is, sum_of_one c.args.survey.now) in
    ok_always c.list_hdus-answer.result _ reached

pub returns-clause-stays : goal.returns-clause-stays
returns-clause-stays g c =
    let is : c.from.result ≡ c.args.survey.now.header_len = search rules in
    let n : ℕ = c.from.result in
    let buffer : List ℕ = c.in_ok-header.header in
    let left : List ℕ = c.list_hdus-answer.new.buf in
    let long : length buffer ≡ n = ap length c.in_ok-header.ensures.bytes ∙ length-replicate {A = ℕ} n 0 in
    let took : c.bytes.new.self.live ≡ c.args.meter.now.live + n = ap (λ (m : Gauge). m.live) c.in_ok-header.ensures.taken.1 in
    let gave = ap (λ (m : Gauge). m.live) c.give_bytes.ensures in (
      search rules,
      search rules,
      omega (arith, gave, refilled_len buffer left, long, took),
      ap (λ (m : Gauge). m.limit) c.give_bytes.ensures ∙ ap (λ (m : Gauge). m.limit) c.in_ok-header.ensures.taken.1,
    )

pub returns-clause-cause : goal.returns-clause-cause
returns-clause-cause g c = c.stages_law.ensures.work.works _ _ _ _ c.args.meter.now.limit c.list_hdus-answer.result c.list_hdus-answer.ensures.cause

pub returns-in_err-header-clause-read : goal.returns-in_err-header-clause-read
returns-in_err-header-clause-read g c = none_read c.args.survey.now (g.S.Source.ranges c.args.source.now) (g.S.Source.held c.args.source.now)

pub returns-in_err-header-clause-grown : goal.returns-in_err-header-clause-grown
returns-in_err-header-clause-grown g c = grew_not (g.T.Text.contents c.args.text.now)

pub returns-in_err-header-clause-past : goal.returns-in_err-header-clause-past
returns-in_err-header-clause-past g c = λ some. (refl, refl)

pub returns-clause-past : goal.returns-clause-past
returns-clause-past g c =
    let meter = c.args.meter.now in
    let is : c.from.result ≡ c.args.survey.now.header_len = search rules in
    none_passed _ (first_past meter.limit (piled meter.live (wanted_buffers (wants_for ListHdus c.args.survey.now) 1))) (one_given meter c.args.survey.now.header_len (omega (arith, c.in_ok-header.ensures.taken.0, is)))
