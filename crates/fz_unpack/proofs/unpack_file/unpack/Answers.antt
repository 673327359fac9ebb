-- With the first block.
use Rattle.std.proofs.Common.{◌≡◌, ℕ, ◌+◌, ◌-◌, ◌≤◌, max, List, Option, IfSome, Result, Err, length, refl, sym, ap, ◌∙◌, subst, arith, rules}
use Rattle.std.specs.Prelude.{OnOk}
use Rattle.std.proofs.lemmas.List.{length-replicate}
use Rattle.fz_base.specs.Buffer.{refilled}
use Rattle.fz_base.specs.Counts.{Tally, nameless}
use Rattle.fz_base.specs.Meter.{Gauge}
use Rattle.fz_base.specs.Stop.{TellsLimit, stop_of_short}
use Rattle.fz_base.specs.Takings.{TellsFirstPast, highest}
use Rattle.fz_base.specs.declared.failure.Stop.{Stop}
use Rattle.fz_files.specs.Buffers.{job_bound, job_takings}
use Rattle.fz_files.specs.declared.job.Job.TheVariants.{Unpack}
use Rattle.fz_job.specs.Clauses.{HasJobCause, StaysUnmade, TellsFirstFault, greatest_bound}
use Rattle.fz_job.specs.Stages.{Works, later_takings}
use Rattle.fz_unpack.proofs.Held.{refilled_len}
use Rattle.fz_files.specs.Touched.{touched_by}
use Rattle.fz_unpack.proofs.HduReads.{unread}
use Rattle.fz_unpack.proofs.Outcomes.{all_unmade, kept_same, ok_weaker, peak_stays, short_untold, untouched_shut, untouched_unmade}
use Rattle.fz_unpack.proofs.unpack_file.unpack.Goals as goal

pub returns-in_err-block-clause-first_fault : goal.returns-in_err-block-clause-first_fault
returns-in_err-block-clause-first_fault g c =
    let held : Option (List ℕ) = g.S.Source.held c.args.source.now in
    let stopped : c.from_residual.result ≡ Err (stop_of_short c.in_err-block.field-0.0) = search rules in
    subst (λ (r : Result (Unit {0}) Stop). TellsFirstFault Unpack held r) (sym stopped) (short_untold (Unit {0}) Unpack held c.in_err-block.field-0.0)

pub returns-in_err-block-clause-first_byte : goal.returns-in_err-block-clause-first_byte
returns-in_err-block-clause-first_byte g c = untouched_shut (g.K.Sink.contents c.args.sink.now) _ c.from_residual.result c.requires.empty

pub returns-in_err-block-clause-unmade : goal.returns-in_err-block-clause-unmade
returns-in_err-block-clause-unmade g c = untouched_unmade Unpack (g.S.Source.held c.args.source.now) c.args.meter.now.limit (λ file. job_takings Unpack file c.args.window.now.workers) _ c.from_residual.result (refl, refl)

pub returns-in_err-block-clause-cause : goal.returns-in_err-block-clause-cause
returns-in_err-block-clause-cause g c =
    let held : Option (List ℕ) = g.S.Source.held c.args.source.now in
    let source : Tally = g.S.Source.tally c.args.source.now in
    let sink : Tally = nameless (g.K.Sink.tally c.args.sink.now) in
    let W : ℕ = c.args.window.now.workers in
    let stopped : c.from_residual.result ≡ Err (stop_of_short c.in_err-block.field-0.0) = search rules in
    subst (λ (r : Result (Unit {0}) Stop). HasJobCause Unpack held source source sink sink c.args.meter.now.limit W r) (sym stopped)
    (c.stages_law.ensures.block.short Unpack held source sink W c.args.meter.now c.in_err-block.field-0.0 tt c.requires.nothing_live c.in_err-block.ensures.refused)

pub returns-in_err-block-clause-answered : goal.returns-in_err-block-clause-answered
returns-in_err-block-clause-answered g c =
    let held : Option (List ℕ) = g.S.Source.held c.args.source.now in
    let source : Tally = g.S.Source.tally c.args.source.now in
    let sink : Tally = nameless (g.K.Sink.tally c.args.sink.now) in
    let W : ℕ = c.args.window.now.workers in
    c.stages_law.ensures.answers Unpack held source source sink sink c.args.meter.now.limit W c.from_residual.result tt (returns-in_err-block-clause-cause g c)

pub returns-in_err-block-clause-buffers : goal.returns-in_err-block-clause-buffers
returns-in_err-block-clause-buffers g c = record {
  live = ap (λ (m : Gauge). m.live) c.in_err-block.ensures.unchanged ∙ c.requires.nothing_live;
  limit = ap (λ (m : Gauge). m.limit) c.in_err-block.ensures.unchanged;
  peak = peak_stays (g.S.Source.held c.args.source.now) (λ file. job_bound Unpack file c.args.window.now.workers) _ _ (ap (λ (m : Gauge). m.peak) c.in_err-block.ensures.unchanged);
  most = omega (arith, ap (λ (m : Gauge). m.peak) c.in_err-block.ensures.unchanged);
  window_is = λ i. record { slots = c.requires.window i; workers = c.args.window.now.workers };
}

pub returns-in_err-block-clause-kept : goal.returns-in_err-block-clause-kept
returns-in_err-block-clause-kept g c = record { held_is = refl; attached_is = refl; source_counts = kept_same _; sink_counts = kept_same _ }

pub returns-clause-cause : goal.returns-clause-cause
returns-clause-cause g c =
    let held : Option (List ℕ) = g.S.Source.held c.args.source.now in
    let source : Tally = g.S.Source.tally c.args.source.now in
    let sink : Tally = nameless (g.K.Sink.tally c.args.sink.now) in
    let source' : Tally = g.S.Source.tally c.with_block-answer.new.source in
    let sink' : Tally = nameless (g.K.Sink.tally c.with_block-answer.new.sink) in
    let limit : ℕ = c.args.meter.now.limit in
    let W : ℕ = c.args.window.now.workers in
    let same : c.bytes.new.self.limit ≡ limit = ap (λ (m : Gauge). m.limit) c.in_ok-block.ensures.taken.1 in
    let room : 2880 ≤ limit = omega (arith, c.in_ok-block.ensures.taken.0, c.requires.nothing_live) in
    let works : Works source source' sink sink' limit c.with_block-answer.result = rw same at c.with_block-answer.ensures.cause in
    let most : TellsLimit limit (greatest_bound Unpack W) c.with_block-answer.result = rw same at c.with_block-answer.ensures.most in
    let tells : IfSome held (λ file. TellsFirstPast limit (later_takings Unpack file W) c.with_block-answer.result) = rw same at c.with_block-answer.ensures.first_past in
    c.stages_law.ensures.block.behind Unpack held source source' sink sink' limit W c.with_block-answer.result tt room works most tells

pub returns-clause-answered : goal.returns-clause-answered
returns-clause-answered g c =
    let held : Option (List ℕ) = g.S.Source.held c.args.source.now in
    c.stages_law.ensures.answers Unpack held _ _ _ _ c.args.meter.now.limit c.args.window.now.workers c.with_block-answer.result tt (returns-clause-cause g c)

pub returns-clause-buffers : goal.returns-clause-buffers
returns-clause-buffers g c =
    let held : Option (List ℕ) = g.S.Source.held c.args.source.now in
    let W : ℕ = c.args.window.now.workers in
    let begun : c.bytes.new.self.peak ≡ max c.args.meter.now.peak (c.args.meter.now.live + 2880) = ap (λ (m : Gauge). m.peak) c.in_ok-block.ensures.taken.1 in
    let low : IfSome held (λ file. c.with_block-answer.new.meter.peak ≤ max c.bytes.new.self.peak (job_bound Unpack file W)) = c.with_block-answer.ensures.peak in
    let block : List ℕ = c.in_ok-block.block in
    let left : List ℕ = c.with_block-answer.new.block in
    let long : length block ≡ 2880 = ap length c.in_ok-block.ensures.bytes ∙ length-replicate {A = ℕ} 2880 0 in
    let took : c.bytes.new.self.live ≡ c.args.meter.now.live + 2880 = ap (λ (m : Gauge). m.live) c.in_ok-block.ensures.taken.1 in
    let gave : c.give_bytes.new.self.live ≡ c.with_block-answer.new.meter.live - length (refilled block left) = ap (λ (m : Gauge). m.live) c.give_bytes.ensures in
    let back : c.give_bytes.new.self.peak ≡ c.with_block-answer.new.meter.peak = ap (λ (m : Gauge). m.peak) c.give_bytes.ensures in
    record {
      live = omega (arith, gave, refilled_len block left, long, took, c.with_block-answer.ensures.stays.2, c.requires.nothing_live);
      limit = ap (λ (m : Gauge). m.limit) c.give_bytes.ensures ∙ c.with_block-answer.ensures.stays.3 ∙ ap (λ (m : Gauge). m.limit) c.in_ok-block.ensures.taken.1;
      peak = rw back (c.stages_law.ensures.peaks.block Unpack held W c.args.meter.now.peak c.bytes.new.self.peak c.with_block-answer.new.meter.peak (omega (arith, begun, c.requires.nothing_live)) low);
      most = omega (arith, back, begun, c.requires.nothing_live, c.with_block-answer.ensures.peak_most, c.stages_law.ensures.sizes.look Unpack W);
      window_is = c.with_block-answer.ensures.emptied;
    }

pub returns-clause-unmade : goal.returns-clause-unmade
returns-clause-unmade g c =
    let held : Option (List ℕ) = g.S.Source.held c.args.source.now in
    let limit : ℕ = c.args.meter.now.limit in
    let W : ℕ = c.args.window.now.workers in
    let same : c.bytes.new.self.limit ≡ limit = ap (λ (m : Gauge). m.limit) c.in_ok-block.ensures.taken.1 in
    let room : 2880 ≤ limit = omega (arith, c.in_ok-block.ensures.taken.0, c.requires.nothing_live) in
    let later : StaysUnmade Unpack held limit (λ file. later_takings Unpack file W) ((g.K.Sink.created c.with_block-answer.new.sink ≡ g.K.Sink.created c.args.sink.now) × (g.K.Sink.contents c.with_block-answer.new.sink ≡ g.K.Sink.contents c.args.sink.now)) c.with_block-answer.result = rw same at c.with_block-answer.ensures.unmade in
    all_unmade Unpack held limit (λ file. job_takings Unpack file W) (λ file. later_takings Unpack file W) _ c.with_block-answer.result (c.stages_law.ensures.passes.block Unpack held limit W tt room) later

pub returns-clause-exact_peak : goal.returns-clause-exact_peak
returns-clause-exact_peak g c =
    let held : Option (List ℕ) = g.S.Source.held c.args.source.now in
    let W : ℕ = c.args.window.now.workers in
    let begun : c.bytes.new.self.peak ≡ max c.args.meter.now.peak (c.args.meter.now.live + 2880) = ap (λ (m : Gauge). m.peak) c.in_ok-block.ensures.taken.1 in
    let first : c.bytes.new.self.peak ≡ max c.args.meter.now.peak 2880 = omega (arith, begun, c.requires.nothing_live) in
    let back : c.give_bytes.new.self.peak ≡ c.with_block-answer.new.meter.peak = ap (λ (m : Gauge). m.peak) c.give_bytes.ensures in
    let later : OnOk c.with_block-answer.result (IfSome held (λ file. c.with_block-answer.new.meter.peak ≡ max c.bytes.new.self.peak (highest (later_takings Unpack file W)))) = c.with_block-answer.ensures.exact_peak in
    rw back (ok_weaker c.with_block-answer.result (λ reached. c.stages_law.ensures.reached.block Unpack held W c.args.meter.now.peak c.bytes.new.self.peak c.with_block-answer.new.meter.peak tt first reached) later)

pub returns-in_err-block-clause-unread : goal.returns-in_err-block-clause-unread
returns-in_err-block-clause-unread g c = λ low. refl

pub returns-clause-unread : goal.returns-clause-unread
returns-clause-unread g c = λ low. absurd (omega (arith, low, c.in_ok-block.ensures.taken.0, c.requires.nothing_live))

pub returns-in_err-block-clause-touched : goal.returns-in_err-block-clause-touched
returns-in_err-block-clause-touched g c = unread (g.S.Source.held c.args.source.now) (touched_by Unpack) (g.S.Source.ranges c.args.source.now)
