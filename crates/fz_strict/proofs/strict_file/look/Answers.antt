-- The block, and then the headers.
use Rattle.std.proofs.Common.{◌≡◌, ℕ, ◌+◌, ◌-◌, ◌<◌, ◌≤◌, max, List, ◌∷◌, Option, IfSome, Result, Err, length, refl, sym, ap, ◌∙◌, subst, arith, rules}
use Rattle.std.specs.Prelude.{IsErrOf, OnOk}
use Rattle.std.proofs.lemmas.List.{length-replicate}
use Rattle.fz_base.specs.Buffer.{refilled}
use Rattle.fz_base.specs.Meter.{Gauge}
use Rattle.fz_base.specs.Stop.{IsDefined, ReadsAndTakes, TellsLimit, stop_of_short}
use Rattle.fz_base.specs.Takings.{TellsFirstPast, highest}
use Rattle.fz_base.specs.declared.failure.Stop.{Stop}
use Rattle.fz_base.specs.declared.failure.Stop.TheVariants.{OverLimit}
use Rattle.fz_files.specs.Reads.{header_ranges}
use Rattle.fz_files.specs.declared.job.Job.TheVariants.{Verify}
use Rattle.fz_job.specs.Surveys.{survey_takings, surveyed}
use Rattle.fz_job.specs.declared.checks.JobChecks.TheVariants.{Unpack as UnpackChecks}
use Rattle.fz_job.specs.declared.survey.Survey.{Survey}
use Rattle.fz_strict.specs.Clauses.{look_takings}
use Rattle.fz_strict.proofs.Outcomes.{always, given_past, kept_same, ok_weaker, refilled_len, refused_tells, short_block, short_defined, short_limit, short_past, short_takes, told_weaker}
use Rattle.fz_strict.proofs.ReadHdus.{look_reads}
use Rattle.fz_strict.proofs.ReadRanges.{unread}
use Rattle.fz_strict.proofs.strict_file.look.Goals as goal

pub returns-in_err-block-clause-exact : goal.returns-in_err-block-clause-exact
returns-in_err-block-clause-exact g c =
    let held : Option (List ℕ) = g.S.Source.held c.args.source.now in
    let stopped : c.from_residual.result ≡ Err (stop_of_short c.in_err-block.field-0.0) = search rules in
    subst (λ (r : Result Survey Stop). IfSome held (λ file. IsDefined (surveyed UnpackChecks file) r)) (sym stopped)
    (always held (λ file. IsDefined (surveyed UnpackChecks file) (Err (stop_of_short c.in_err-block.field-0.0))) (λ file. short_defined (surveyed UnpackChecks file) c.in_err-block.field-0.0))

pub returns-in_err-block-clause-first_past : goal.returns-in_err-block-clause-first_past
returns-in_err-block-clause-first_past g c =
    let held : Option (List ℕ) = g.S.Source.held c.args.source.now in
    let m = c.args.meter.now in
    let stopped : c.from_residual.result ≡ Err (stop_of_short c.in_err-block.field-0.0) = search rules in
    subst (λ (r : Result Survey Stop). IfSome held (λ file. TellsFirstPast m.limit (look_takings file) r)) (sym stopped)
    (always held (λ file. TellsFirstPast {X = Survey} m.limit (look_takings file) (Err (stop_of_short c.in_err-block.field-0.0)))
    (λ file. subst (λ n. TellsFirstPast {X = Survey} m.limit ((n, 2880) ∷ survey_takings UnpackChecks 2880 file) (Err (stop_of_short c.in_err-block.field-0.0))) c.requires.nothing_live (short_past Survey m 2880 (survey_takings UnpackChecks 2880 file) c.in_err-block.field-0.0 c.in_err-block.ensures.refused)))

pub returns-in_err-block-clause-peak : goal.returns-in_err-block-clause-peak
returns-in_err-block-clause-peak g c =
    let same : c.bytes.new.self.peak ≡ c.args.meter.now.peak = ap (λ (m : Gauge). m.peak) c.in_err-block.ensures.unchanged in
    always (g.S.Source.held c.args.source.now) (λ file. c.bytes.new.self.peak ≤ max c.args.meter.now.peak (highest (look_takings file))) (λ file. omega (arith, same))

pub returns-in_err-block-clause-most : goal.returns-in_err-block-clause-most
returns-in_err-block-clause-most g c =
    let m = c.args.meter.now in
    let stopped : c.from_residual.result ≡ Err (stop_of_short c.in_err-block.field-0.0) = search rules in
    subst (λ (r : Result Survey Stop). TellsLimit m.limit (2880 + 737280) r) (sym stopped) (short_limit Survey m 2880 (2880 + 737280) c.in_err-block.field-0.0 (omega (arith, c.requires.nothing_live)) c.in_err-block.ensures.refused)

pub returns-in_err-block-clause-peak_most : goal.returns-in_err-block-clause-peak_most
returns-in_err-block-clause-peak_most g c = let same : c.bytes.new.self.peak ≡ c.args.meter.now.peak = ap (λ (m : Gauge). m.peak) c.in_err-block.ensures.unchanged in omega (arith, same)

pub returns-in_err-block-clause-block : goal.returns-in_err-block-clause-block
returns-in_err-block-clause-block g c =
    let m = c.args.meter.now in
    let stopped : c.from_residual.result ≡ Err (stop_of_short c.in_err-block.field-0.0) = search rules in
    λ low. (subst (λ (r : Result Survey Stop). IsErrOf r (OverLimit 0 2880 m.limit)) (sym stopped) (short_block m 2880 c.in_err-block.field-0.0 c.requires.nothing_live c.in_err-block.ensures.refused low), refl)

pub returns-in_err-block-clause-cause : goal.returns-in_err-block-clause-cause
returns-in_err-block-clause-cause g c =
    let t = g.S.Source.tally c.args.source.now in
    let m = c.args.meter.now in
    let stopped : c.from_residual.result ≡ Err (stop_of_short c.in_err-block.field-0.0) = search rules in
    subst (λ (r : Result Survey Stop). ReadsAndTakes t t m.limit r) (sym stopped) (short_takes t m.limit c.in_err-block.field-0.0 (refused_tells m 2880 c.in_err-block.field-0.0 c.in_err-block.ensures.refused))

pub returns-clause-first_past : goal.returns-clause-first_past
returns-clause-first_past g c =
    let held : Option (List ℕ) = g.S.Source.held c.args.source.now in
    let limit : ℕ = c.args.meter.now.limit in
    let same : c.bytes.new.self.limit ≡ limit = ap (λ (m : Gauge). m.limit) c.in_ok-block.ensures.taken.1 in
    let took : c.bytes.new.self.live ≡ 2880 = ap (λ (m : Gauge). m.live) c.in_ok-block.ensures.taken.1 ∙ ap (λ n. n + 2880) c.requires.nothing_live in
    let room : 0 + 2880 ≤ limit = omega (arith, c.in_ok-block.ensures.taken.0, c.requires.nothing_live) in
    let tells : IfSome held (λ file. TellsFirstPast limit (survey_takings UnpackChecks 2880 file) c.survey_to_unpack-answer.result) = rw (same, took) at c.survey_to_unpack-answer.ensures.first_past in
    told_weaker held (λ file. TellsFirstPast limit (survey_takings UnpackChecks 2880 file) c.survey_to_unpack-answer.result) (λ file. TellsFirstPast limit (look_takings file) c.survey_to_unpack-answer.result)
    (λ file is. given_past limit 0 2880 (survey_takings UnpackChecks 2880 file) c.survey_to_unpack-answer.result room is) tells

pub returns-clause-peak : goal.returns-clause-peak
returns-clause-peak g c =
    let held : Option (List ℕ) = g.S.Source.held c.args.source.now in
    let begun : c.bytes.new.self.peak ≡ max c.args.meter.now.peak (c.args.meter.now.live + 2880) = ap (λ (m : Gauge). m.peak) c.in_ok-block.ensures.taken.1 in
    let took : c.bytes.new.self.live ≡ 2880 = ap (λ (m : Gauge). m.live) c.in_ok-block.ensures.taken.1 ∙ ap (λ n. n + 2880) c.requires.nothing_live in
    let back : c.give_bytes.new.self.peak ≡ c.survey_to_unpack-answer.new.meter.peak = ap (λ (m : Gauge). m.peak) c.give_bytes.ensures in
    let low : IfSome held (λ file. c.survey_to_unpack-answer.new.meter.peak ≤ max c.bytes.new.self.peak (highest (survey_takings UnpackChecks 2880 file))) = rw took at c.survey_to_unpack-answer.ensures.peak in
    told_weaker held (λ file. c.survey_to_unpack-answer.new.meter.peak ≤ max c.bytes.new.self.peak (highest (survey_takings UnpackChecks 2880 file))) (λ file. c.give_bytes.new.self.peak ≤ max c.args.meter.now.peak (highest (look_takings file)))
    (λ file is. omega (arith, begun, back, is, c.requires.nothing_live)) low

pub returns-clause-exact_peak : goal.returns-clause-exact_peak
returns-clause-exact_peak g c =
    let held : Option (List ℕ) = g.S.Source.held c.args.source.now in
    let begun : c.bytes.new.self.peak ≡ max c.args.meter.now.peak (c.args.meter.now.live + 2880) = ap (λ (m : Gauge). m.peak) c.in_ok-block.ensures.taken.1 in
    let took : c.bytes.new.self.live ≡ 2880 = ap (λ (m : Gauge). m.live) c.in_ok-block.ensures.taken.1 ∙ ap (λ n. n + 2880) c.requires.nothing_live in
    let back : c.give_bytes.new.self.peak ≡ c.survey_to_unpack-answer.new.meter.peak = ap (λ (m : Gauge). m.peak) c.give_bytes.ensures in
    let reached : OnOk c.survey_to_unpack-answer.result (IfSome held (λ file. c.survey_to_unpack-answer.new.meter.peak ≡ max c.bytes.new.self.peak (highest (survey_takings UnpackChecks 2880 file)))) = rw took at c.survey_to_unpack-answer.ensures.exact_peak in
    ok_weaker c.survey_to_unpack-answer.result
    (told_weaker held (λ file. c.survey_to_unpack-answer.new.meter.peak ≡ max c.bytes.new.self.peak (highest (survey_takings UnpackChecks 2880 file))) (λ file. c.give_bytes.new.self.peak ≡ max c.args.meter.now.peak (highest (look_takings file)))
    (λ file is. omega (arith, begun, back, is, c.requires.nothing_live))) reached

pub returns-clause-most : goal.returns-clause-most
returns-clause-most g c =
    let same : c.bytes.new.self.limit ≡ c.args.meter.now.limit = ap (λ (m : Gauge). m.limit) c.in_ok-block.ensures.taken.1 in
    let took : c.bytes.new.self.live ≡ 2880 = ap (λ (m : Gauge). m.live) c.in_ok-block.ensures.taken.1 ∙ ap (λ n. n + 2880) c.requires.nothing_live in
    rw (same, took) at c.survey_to_unpack-answer.ensures.most

pub returns-clause-peak_most : goal.returns-clause-peak_most
returns-clause-peak_most g c =
    let begun : c.bytes.new.self.peak ≡ max c.args.meter.now.peak (c.args.meter.now.live + 2880) = ap (λ (m : Gauge). m.peak) c.in_ok-block.ensures.taken.1 in
    let took : c.bytes.new.self.live ≡ 2880 = ap (λ (m : Gauge). m.live) c.in_ok-block.ensures.taken.1 ∙ ap (λ n. n + 2880) c.requires.nothing_live in
    let back : c.give_bytes.new.self.peak ≡ c.survey_to_unpack-answer.new.meter.peak = ap (λ (m : Gauge). m.peak) c.give_bytes.ensures in
    omega (arith, begun, took, back, c.survey_to_unpack-answer.ensures.peak_most, c.requires.nothing_live)

pub returns-clause-block : goal.returns-clause-block
returns-clause-block g c = λ low. absurd (omega (arith, low, c.in_ok-block.ensures.taken.0, c.requires.nothing_live))

pub returns-clause-unread : goal.returns-clause-unread
returns-clause-unread g c = λ low. absurd (omega (arith, low, c.in_ok-block.ensures.taken.0, c.requires.nothing_live))

pub returns-clause-live : goal.returns-clause-live
returns-clause-live g c =
    let block : List ℕ = c.in_ok-block.block in
    let left : List ℕ = c.survey_to_unpack-answer.new.block in
    let long : length block ≡ 2880 = ap length c.in_ok-block.ensures.bytes ∙ length-replicate {A = ℕ} 2880 0 in
    let took : c.bytes.new.self.live ≡ c.args.meter.now.live + 2880 = ap (λ (m : Gauge). m.live) c.in_ok-block.ensures.taken.1 in
    let gave : c.give_bytes.new.self.live ≡ c.survey_to_unpack-answer.new.meter.live - length (refilled block left) = ap (λ (m : Gauge). m.live) c.give_bytes.ensures in
    omega (arith, gave, refilled_len block left, long, took, c.survey_to_unpack-answer.ensures.stays.1, c.requires.nothing_live)

pub returns-clause-stays : goal.returns-clause-stays
returns-clause-stays g c = (
  search rules,
  ap (λ (m : Gauge). m.limit) c.give_bytes.ensures ∙ c.survey_to_unpack-answer.ensures.stays.2 ∙ ap (λ (m : Gauge). m.limit) c.in_ok-block.ensures.taken.1,
)

pub returns-clause-cause : goal.returns-clause-cause
returns-clause-cause g c =
    let same : c.bytes.new.self.limit ≡ c.args.meter.now.limit = ap (λ (m : Gauge). m.limit) c.in_ok-block.ensures.taken.1 in
    rw same at c.survey_to_unpack-answer.ensures.cause

pub returns-in_err-block-clause-read : goal.returns-in_err-block-clause-read
returns-in_err-block-clause-read g c = unread (g.S.Source.held c.args.source.now) (header_ranges Verify) (g.S.Source.ranges c.args.source.now)

pub returns-clause-read : goal.returns-clause-read
returns-clause-read g c =
    look_reads (g.S.Source.held c.args.source.now) (g.S.Source.ranges c.args.source.now) (g.S.Source.ranges c.survey_to_unpack-answer.new.source) (c.headers_law.ensures.look Verify tt) c.survey_to_unpack-answer.ensures.touched
