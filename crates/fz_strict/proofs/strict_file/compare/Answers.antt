-- The buffer of restored headers, and then the others.
use Rattle.std.proofs.Common.{◌≡◌, ℕ, ◌+◌, ◌-◌, ◌<◌, ◌≤◌, max, Bool, List, [], ◌∷◌, Option, IfSome, Result, Err, length, sum, refl, sym, ap, ◌∙◌, subst, arith, rules}
use Rattle.std.specs.Prelude.{OnOk}
use Rattle.std.proofs.lemmas.List.{length-replicate}
use Rattle.fz_base.specs.Buffer.{refilled}
use Rattle.fz_base.specs.Meter.{Gauge}
use Rattle.fz_base.specs.Stop.{IfRefused, ReadsAndTakes, stop_of_short}
use Rattle.fz_base.specs.Takings.{TellsFirstPast, piled}
use Rattle.fz_base.specs.declared.failure.Stop.{Stop}
use Rattle.fz_files.specs.declared.job.Job.TheVariants.{Verify}
use Rattle.fz_job.specs.Clauses.{ComesLate}
use Rattle.fz_pool.specs.Window.{Pool}
use Rattle.fz_job.specs.Workspace.{wanted_buffers}
use Rattle.fz_strict.specs.Clauses.{strict_buffers, strict_wants}
use Rattle.fz_strict.specs.Rows.{ComparesFound}
use Rattle.fz_strict.proofs.Outcomes.{always, given_past, ok_weaker, refilled_len, refused_tells, short_compared, short_past, short_refuses, short_takes, sum_more}
use Rattle.fz_strict.proofs.ReadHdus.{no_hdu}
use Rattle.fz_strict.proofs.strict_file.compare.Goals as goal

pub returns-in_err-plain-clause-compared : goal.returns-in_err-plain-clause-compared
returns-in_err-plain-clause-compared g c =
    let held : Option (List ℕ) = g.S.Source.held c.args.source.now in
    let stopped : c.from_residual.result ≡ Err (stop_of_short c.in_err-plain.field-0.0) = search rules in
    subst (λ (r : Result Bool Stop). IfSome held (λ file. ComparesFound file c.args.survey.now r)) (sym stopped)
    (always held (λ file. ComparesFound file c.args.survey.now (Err (stop_of_short c.in_err-plain.field-0.0))) (λ file. short_compared file c.args.survey.now c.in_err-plain.field-0.0))

pub returns-in_err-plain-clause-first_past : goal.returns-in_err-plain-clause-first_past
returns-in_err-plain-clause-first_past g c =
    let m = c.args.meter.now in
    let s = c.args.survey.now in
    let W : ℕ = c.args.window.now.workers in
    let rest : List ℕ = wanted_buffers (strict_wants s) W in
    let size : c.from.result + 2880 ≡ s.header_len + 2880 = ap (λ k. k + 2880) c.from.ensures in
    let stopped : c.from_residual.result ≡ Err (stop_of_short c.in_err-plain.field-0.0) = search rules in
    let tells : TellsFirstPast {X = Bool} m.limit ((m.live, c.from.result + 2880) ∷ piled (0 + (c.from.result + 2880)) rest) (Err (stop_of_short c.in_err-plain.field-0.0)) =
    short_past Bool m (c.from.result + 2880) (piled (0 + (c.from.result + 2880)) rest) c.in_err-plain.field-0.0 c.in_err-plain.ensures.refused in
    subst (λ (r : Result Bool Stop). TellsFirstPast m.limit (piled 0 (strict_buffers s.header_len s.tile W)) r) (sym stopped)
    (subst (λ n. TellsFirstPast {X = Bool} m.limit ((0, n) ∷ piled (0 + n) rest) (Err (stop_of_short c.in_err-plain.field-0.0))) size
    (subst (λ k. TellsFirstPast {X = Bool} m.limit ((k, c.from.result + 2880) ∷ piled (0 + (c.from.result + 2880)) rest) (Err (stop_of_short c.in_err-plain.field-0.0))) c.requires.nothing_live tells))

pub returns-in_err-plain-clause-late : goal.returns-in_err-plain-clause-late
returns-in_err-plain-clause-late g c =
    let stopped : c.from_residual.result ≡ Err (stop_of_short c.in_err-plain.field-0.0) = search rules in
    subst (λ (r : Result Bool Stop). IfRefused r (ComesLate Verify)) (sym stopped) (short_refuses Bool (ComesLate Verify) c.in_err-plain.field-0.0)

pub returns-in_err-plain-clause-cause : goal.returns-in_err-plain-clause-cause
returns-in_err-plain-clause-cause g c =
    let t = g.S.Source.tally c.args.source.now in
    let m = c.args.meter.now in
    let stopped : c.from_residual.result ≡ Err (stop_of_short c.in_err-plain.field-0.0) = search rules in
    subst (λ (r : Result Bool Stop). ReadsAndTakes t t m.limit r) (sym stopped) (short_takes t m.limit c.in_err-plain.field-0.0 (refused_tells m (c.from.result + 2880) c.in_err-plain.field-0.0 c.in_err-plain.ensures.refused))

pub returns-in_err-plain-clause-peak : goal.returns-in_err-plain-clause-peak
returns-in_err-plain-clause-peak g c = let same : c.bytes.new.self.peak ≡ c.args.meter.now.peak = ap (λ (m : Gauge). m.peak) c.in_err-plain.ensures.unchanged in omega (arith, same)

pub returns-in_err-plain-clause-emptied : goal.returns-in_err-plain-clause-emptied
returns-in_err-plain-clause-emptied g c = λ i. record { slots = c.requires.window i; workers = c.args.window.now.workers }

pub returns-clause-first_past : goal.returns-clause-first_past
returns-clause-first_past g c =
    let m = c.args.meter.now in
    let s = c.args.survey.now in
    let n : ℕ = s.header_len + 2880 in
    let rest : List ℕ = wanted_buffers (strict_wants s) c.args.window.now.workers in
    let size : c.from.result + 2880 ≡ n = ap (λ k. k + 2880) c.from.ensures in
    let same : c.bytes.new.self.limit ≡ m.limit = ap (λ (x : Gauge). x.limit) c.in_ok-plain.ensures.taken.1 in
    let took : c.bytes.new.self.live ≡ 0 + n = ap (λ (x : Gauge). x.live) c.in_ok-plain.ensures.taken.1 ∙ (λ i. c.requires.nothing_live i + size i) in
    let room : 0 + n ≤ m.limit = omega (arith, c.in_ok-plain.ensures.taken.0, c.requires.nothing_live, size) in
    let tells : TellsFirstPast m.limit (piled (0 + n) rest) c.with_plain-answer.result = rw (same, took) at c.with_plain-answer.ensures.first_past in
    given_past m.limit 0 n (piled (0 + n) rest) c.with_plain-answer.result room tells

pub returns-clause-peak : goal.returns-clause-peak
returns-clause-peak g c =
    let m = c.args.meter.now in
    let s = c.args.survey.now in
    let n : ℕ = s.header_len + 2880 in
    let rest : List ℕ = wanted_buffers (strict_wants s) c.args.window.now.workers in
    let size : c.from.result + 2880 ≡ n = ap (λ k. k + 2880) c.from.ensures in
    let begun : c.bytes.new.self.peak ≡ max m.peak (m.live + (c.from.result + 2880)) = ap (λ (x : Gauge). x.peak) c.in_ok-plain.ensures.taken.1 in
    let took : c.bytes.new.self.live ≡ m.live + (c.from.result + 2880) = ap (λ (x : Gauge). x.live) c.in_ok-plain.ensures.taken.1 in
    let back : c.give_bytes.new.self.peak ≡ c.with_plain-answer.new.meter.peak = ap (λ (x : Gauge). x.peak) c.give_bytes.ensures in
    let all : sum (n ∷ rest) ≡ n + sum rest = sum_more n rest in
    let high : c.with_plain-answer.new.meter.peak ≤ max c.bytes.new.self.peak (c.bytes.new.self.live + sum rest) = c.with_plain-answer.ensures.peak in
    omega (arith, size, begun, took, back, all, high, c.requires.nothing_live)

pub returns-clause-exact_peak : goal.returns-clause-exact_peak
returns-clause-exact_peak g c =
    let m = c.args.meter.now in
    let s = c.args.survey.now in
    let n : ℕ = s.header_len + 2880 in
    let rest : List ℕ = wanted_buffers (strict_wants s) c.args.window.now.workers in
    let size : c.from.result + 2880 ≡ n = ap (λ k. k + 2880) c.from.ensures in
    let begun : c.bytes.new.self.peak ≡ max m.peak (m.live + (c.from.result + 2880)) = ap (λ (x : Gauge). x.peak) c.in_ok-plain.ensures.taken.1 in
    let took : c.bytes.new.self.live ≡ m.live + (c.from.result + 2880) = ap (λ (x : Gauge). x.live) c.in_ok-plain.ensures.taken.1 in
    let back : c.give_bytes.new.self.peak ≡ c.with_plain-answer.new.meter.peak = ap (λ (x : Gauge). x.peak) c.give_bytes.ensures in
    let all : sum (n ∷ rest) ≡ n + sum rest = sum_more n rest in
    let reached : OnOk c.with_plain-answer.result (c.with_plain-answer.new.meter.peak ≡ max c.bytes.new.self.peak (c.bytes.new.self.live + sum rest)) = c.with_plain-answer.ensures.exact_peak in
    ok_weaker c.with_plain-answer.result (λ (high : c.with_plain-answer.new.meter.peak ≡ max c.bytes.new.self.peak (c.bytes.new.self.live + sum rest)). omega (arith, size, begun, took, back, all, high, c.requires.nothing_live)) reached

pub returns-clause-live : goal.returns-clause-live
returns-clause-live g c =
    let n : ℕ = c.from.result + 2880 in
    let plain : List ℕ = c.in_ok-plain.plain in
    let left : List ℕ = c.with_plain-answer.new.plain in
    let long : length plain ≡ n = ap length c.in_ok-plain.ensures.bytes ∙ length-replicate {A = ℕ} n 0 in
    let took : c.bytes.new.self.live ≡ c.args.meter.now.live + n = ap (λ (x : Gauge). x.live) c.in_ok-plain.ensures.taken.1 in
    let gave : c.give_bytes.new.self.live ≡ c.with_plain-answer.new.meter.live - length (refilled plain left) = ap (λ (x : Gauge). x.live) c.give_bytes.ensures in
    omega (arith, gave, refilled_len plain left, long, took, c.with_plain-answer.ensures.stays.2, c.requires.nothing_live)

pub returns-clause-stays : goal.returns-clause-stays
returns-clause-stays g c = (
  search rules,
  ap (λ (x : Gauge). x.limit) c.give_bytes.ensures ∙ c.with_plain-answer.ensures.stays.3 ∙ ap (λ (x : Gauge). x.limit) c.in_ok-plain.ensures.taken.1,
)

pub returns-clause-cause : goal.returns-clause-cause
returns-clause-cause g c =
    let same : c.bytes.new.self.limit ≡ c.args.meter.now.limit = ap (λ (x : Gauge). x.limit) c.in_ok-plain.ensures.taken.1 in
    rw same at c.with_plain-answer.ensures.cause

pub returns-in_err-plain-clause-read : goal.returns-in_err-plain-clause-read
returns-in_err-plain-clause-read g c = no_hdu c.args.survey.now (g.S.Source.ranges c.args.source.now) (g.S.Source.held c.args.source.now)
