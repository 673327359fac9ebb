-- With the first block.
use Rattle.std.proofs.Common.{◌≡◌, ℕ, ◌+◌, ◌-◌, ◌≤◌, max, List, Option, IfSome, Result, Err, length, refl, sym, ap, ◌∙◌, subst, arith, rules, ◌<◌}
use Rattle.std.specs.Prelude.{OnOk}
use Rattle.std.proofs.lemmas.List.{length-replicate}
use Rattle.fz_base.specs.Buffer.{refilled}
use Rattle.fz_base.specs.Counts.{Tally}
use Rattle.fz_base.specs.Meter.{Gauge}
use Rattle.fz_base.specs.Stop.{TellsLimit, stop_of_short}
use Rattle.fz_base.specs.Takings.{TellsFirstPast, highest}
use Rattle.fz_base.specs.declared.failure.Stop.{Stop}
use Rattle.fz_files.specs.Buffers.{job_bound, job_takings}
use Rattle.fz_files.specs.Reads.{header_ranges}
use Rattle.fz_files.specs.declared.job.Job.TheVariants.{List as ListHdus}
use Rattle.fz_job.specs.Clauses.{HasJobCause, StaysUnmade, TellsFirstFault, greatest_bound}
use Rattle.fz_verify.specs.Clauses.{PrintsLines}
use Rattle.fz_job.specs.Stages.{Works, later_takings}
use Rattle.fz_verify.proofs.Held.{refilled_len}
use Rattle.fz_verify.proofs.Outcomes.{kept_same, peak_stays, short_unprinted, short_untold, untouched_silent, all_unmade, ok_weaker}
use Rattle.fz_verify.proofs.HeaderReads.{unread}
use Rattle.fz_verify.proofs.Reports.{grew_not}
use Rattle.fz_verify.proofs.list_file.list.Goals as goal

pub returns-in_err-block-clause-lines : goal.returns-in_err-block-clause-lines
returns-in_err-block-clause-lines g c =
    let held : Option (List ℕ) = g.S.Source.held c.args.source.now in
    let old : Option (List ℕ) = g.T.Text.contents c.args.text.now in
    let stopped : c.from_residual.result ≡ Err (stop_of_short c.in_err-block.field-0.0) = search rules in
    subst (λ (r : Result (Unit {0}) Stop). PrintsLines ListHdus held old old r) (sym stopped) (short_unprinted (Unit {0}) ListHdus held old c.in_err-block.field-0.0)

pub returns-in_err-block-clause-first_fault : goal.returns-in_err-block-clause-first_fault
returns-in_err-block-clause-first_fault g c =
    let held : Option (List ℕ) = g.S.Source.held c.args.source.now in
    let stopped : c.from_residual.result ≡ Err (stop_of_short c.in_err-block.field-0.0) = search rules in
    subst (λ (r : Result (Unit {0}) Stop). TellsFirstFault ListHdus held r) (sym stopped) (short_untold (Unit {0}) ListHdus held c.in_err-block.field-0.0)

pub returns-in_err-block-clause-silent : goal.returns-in_err-block-clause-silent
returns-in_err-block-clause-silent g c = untouched_silent ListHdus (g.S.Source.held c.args.source.now) c.args.meter.now.limit (λ file. job_takings ListHdus file 1) _ c.from_residual.result (refl, refl)

pub returns-in_err-block-clause-cause : goal.returns-in_err-block-clause-cause
returns-in_err-block-clause-cause g c =
    let held : Option (List ℕ) = g.S.Source.held c.args.source.now in
    let source : Tally = g.S.Source.tally c.args.source.now in
    let text : Tally = g.T.Text.tally c.args.text.now in
    let stopped : c.from_residual.result ≡ Err (stop_of_short c.in_err-block.field-0.0) = search rules in
    subst (λ (r : Result (Unit {0}) Stop). HasJobCause ListHdus held source source text text c.args.meter.now.limit 1 r) (sym stopped)
    (c.stages_law.ensures.block.short ListHdus held source text 1 c.args.meter.now c.in_err-block.field-0.0 tt c.requires.nothing_live c.in_err-block.ensures.refused)

pub returns-in_err-block-clause-answered : goal.returns-in_err-block-clause-answered
returns-in_err-block-clause-answered g c =
    let held : Option (List ℕ) = g.S.Source.held c.args.source.now in
    let source : Tally = g.S.Source.tally c.args.source.now in
    let text : Tally = g.T.Text.tally c.args.text.now in
    c.stages_law.ensures.answers ListHdus held source source text text c.args.meter.now.limit 1 c.from_residual.result tt (returns-in_err-block-clause-cause g c)

pub returns-in_err-block-clause-buffers : goal.returns-in_err-block-clause-buffers
returns-in_err-block-clause-buffers g c =
    let same : c.bytes.new.self.peak ≡ c.args.meter.now.peak = ap (λ (m : Gauge). m.peak) c.in_err-block.ensures.unchanged in
    record {
      live = ap (λ (m : Gauge). m.live) c.in_err-block.ensures.unchanged ∙ c.requires.nothing_live;
      limit = ap (λ (m : Gauge). m.limit) c.in_err-block.ensures.unchanged;
      peak = peak_stays (g.S.Source.held c.args.source.now) (λ file. job_bound ListHdus file 1) _ _ same;
      most = omega (arith, same);
    }

pub returns-in_err-block-clause-kept : goal.returns-in_err-block-clause-kept
returns-in_err-block-clause-kept g c = record { held_is = refl; attached_is = refl; source_counts = kept_same _; sink_counts = kept_same _ }

pub returns-clause-cause : goal.returns-clause-cause
returns-clause-cause g c =
    let held : Option (List ℕ) = g.S.Source.held c.args.source.now in
    let source : Tally = g.S.Source.tally c.args.source.now in
    let text : Tally = g.T.Text.tally c.args.text.now in
    let source' : Tally = g.S.Source.tally c.list_with_block-answer.new.source in
    let text' : Tally = g.T.Text.tally c.list_with_block-answer.new.text in
    let limit : ℕ = c.args.meter.now.limit in
    let same : c.bytes.new.self.limit ≡ limit = ap (λ (m : Gauge). m.limit) c.in_ok-block.ensures.taken.1 in
    let room : 2880 ≤ limit = omega (arith, c.in_ok-block.ensures.taken.0, c.requires.nothing_live) in
    let works : Works source source' text text' limit c.list_with_block-answer.result = rw same at c.list_with_block-answer.ensures.cause in
    let most : TellsLimit limit (greatest_bound ListHdus 1) c.list_with_block-answer.result = rw same at c.list_with_block-answer.ensures.most in
    let tells : IfSome held (λ file. TellsFirstPast limit (later_takings ListHdus file 1) c.list_with_block-answer.result) = rw same at c.list_with_block-answer.ensures.first_past in
    c.stages_law.ensures.block.behind ListHdus held source source' text text' limit 1 c.list_with_block-answer.result tt room works most tells

pub returns-clause-answered : goal.returns-clause-answered
returns-clause-answered g c =
    let held : Option (List ℕ) = g.S.Source.held c.args.source.now in
    c.stages_law.ensures.answers ListHdus held _ _ _ _ c.args.meter.now.limit 1 c.list_with_block-answer.result tt (returns-clause-cause g c)

pub returns-clause-buffers : goal.returns-clause-buffers
returns-clause-buffers g c =
    let held : Option (List ℕ) = g.S.Source.held c.args.source.now in
    let begun : c.bytes.new.self.peak ≡ max c.args.meter.now.peak (c.args.meter.now.live + 2880) = ap (λ (m : Gauge). m.peak) c.in_ok-block.ensures.taken.1 in
    let first : c.bytes.new.self.peak ≤ max c.args.meter.now.peak 2880 = omega (arith, begun, c.requires.nothing_live) in
    let low : IfSome held (λ file. c.list_with_block-answer.new.meter.peak ≤ max c.bytes.new.self.peak (job_bound ListHdus file 1)) = c.list_with_block-answer.ensures.peak in
    let block : List ℕ = c.in_ok-block.block in
    let left : List ℕ = c.list_with_block-answer.new.block in
    let long : length block ≡ 2880 = ap length c.in_ok-block.ensures.bytes ∙ length-replicate {A = ℕ} 2880 0 in
    let took : c.bytes.new.self.live ≡ c.args.meter.now.live + 2880 = ap (λ (m : Gauge). m.live) c.in_ok-block.ensures.taken.1 in
    let gave : c.give_bytes.new.self.live ≡ c.list_with_block-answer.new.meter.live - length (refilled block left) = ap (λ (m : Gauge). m.live) c.give_bytes.ensures in
    let back : c.give_bytes.new.self.peak ≡ c.list_with_block-answer.new.meter.peak = ap (λ (m : Gauge). m.peak) c.give_bytes.ensures in
    record {
      live = omega (arith, gave, refilled_len block left, long, took, c.list_with_block-answer.ensures.stays.2, c.requires.nothing_live);
      limit = ap (λ (m : Gauge). m.limit) c.give_bytes.ensures ∙ c.list_with_block-answer.ensures.stays.3 ∙ ap (λ (m : Gauge). m.limit) c.in_ok-block.ensures.taken.1;
      peak = rw back (c.stages_law.ensures.peaks.block ListHdus held 1 c.args.meter.now.peak c.bytes.new.self.peak c.list_with_block-answer.new.meter.peak first low);
      most = omega (arith, back, first, c.list_with_block-answer.ensures.peak_most, c.stages_law.ensures.sizes.look ListHdus 1);
    }

pub returns-in_err-block-clause-touched : goal.returns-in_err-block-clause-touched
returns-in_err-block-clause-touched g c = unread (g.S.Source.held c.args.source.now) (header_ranges ListHdus) (g.S.Source.ranges c.args.source.now)

pub returns-in_err-block-clause-grown : goal.returns-in_err-block-clause-grown
returns-in_err-block-clause-grown g c = grew_not (g.T.Text.contents c.args.text.now)

pub returns-clause-silent : goal.returns-clause-silent
returns-clause-silent g c =
    let held : Option (List ℕ) = g.S.Source.held c.args.source.now in
    let limit : ℕ = c.args.meter.now.limit in
    let W : ℕ = 1 in
    let same : c.bytes.new.self.limit ≡ limit = ap (λ (m : Gauge). m.limit) c.in_ok-block.ensures.taken.1 in
    let room : 2880 ≤ limit = omega (arith, c.in_ok-block.ensures.taken.0, c.requires.nothing_live) in
    let later : StaysUnmade ListHdus held limit (λ file. later_takings ListHdus file W) ((g.T.Text.contents c.list_with_block-answer.new.text ≡ g.T.Text.contents c.args.text.now) × (g.T.Text.tally c.list_with_block-answer.new.text ≡ g.T.Text.tally c.args.text.now)) c.list_with_block-answer.result = rw same at c.list_with_block-answer.ensures.silent in
    all_unmade ListHdus held limit (λ file. job_takings ListHdus file W) (λ file. later_takings ListHdus file W) _ c.list_with_block-answer.result (c.stages_law.ensures.passes.block ListHdus held limit W tt room) later

pub returns-clause-exact_peak : goal.returns-clause-exact_peak
returns-clause-exact_peak g c =
    let held : Option (List ℕ) = g.S.Source.held c.args.source.now in
    let W : ℕ = 1 in
    let begun : c.bytes.new.self.peak ≡ max c.args.meter.now.peak (c.args.meter.now.live + 2880) = ap (λ (m : Gauge). m.peak) c.in_ok-block.ensures.taken.1 in
    let first : c.bytes.new.self.peak ≡ max c.args.meter.now.peak 2880 = omega (arith, begun, c.requires.nothing_live) in
    let back : c.give_bytes.new.self.peak ≡ c.list_with_block-answer.new.meter.peak = ap (λ (m : Gauge). m.peak) c.give_bytes.ensures in
    let later : OnOk c.list_with_block-answer.result (IfSome held (λ file. c.list_with_block-answer.new.meter.peak ≡ max c.bytes.new.self.peak (highest (later_takings ListHdus file W)))) = c.list_with_block-answer.ensures.exact_peak in
    rw back (ok_weaker c.list_with_block-answer.result (λ reached. c.stages_law.ensures.reached.block ListHdus held W c.args.meter.now.peak c.bytes.new.self.peak c.list_with_block-answer.new.meter.peak tt first reached) later)

pub returns-in_err-block-clause-unread : goal.returns-in_err-block-clause-unread
returns-in_err-block-clause-unread g c = λ low. refl

pub returns-clause-unread : goal.returns-clause-unread
returns-clause-unread g c = λ low. absurd (omega (arith, low, c.in_ok-block.ensures.taken.0, c.requires.nothing_live))
