-- With the first block.
use Rattle.std.proofs.Common.{◌≡◌, ℕ, ◌+◌, ◌-◌, ◌≤◌, max, Bool, List, Option, IfSome, Result, Err, length, refl, sym, ap, ◌∙◌, subst, arith, rules, ◌<◌}
use Rattle.std.specs.Prelude.{OnOk}
use Rattle.std.proofs.lemmas.List.{length-replicate}
use Rattle.fz_base.specs.Buffer.{refilled}
use Rattle.fz_base.specs.Counts.{Tally}
use Rattle.fz_base.specs.Meter.{Gauge}
use Rattle.fz_base.specs.Stop.{TellsLimit, stop_of_short}
use Rattle.fz_base.specs.Takings.{TellsFirstPast, highest}
use Rattle.fz_base.specs.declared.failure.Stop.{Stop}
use Rattle.fz_files.specs.Buffers.{job_bound, job_takings}
use Rattle.fz_files.specs.declared.job.Job.TheVariants.{Verify}
use Rattle.fz_job.specs.Clauses.{HasJobCause, StaysUnmade, TellsFirstFault, greatest_bound}
use Rattle.fz_verify.specs.Clauses.{PrintsLines}
use Rattle.fz_job.specs.Stages.{Works, later_takings}
use Rattle.fz_verify.proofs.Held.{refilled_len}
use Rattle.fz_verify.proofs.Outcomes.{kept_same, peak_stays, short_unprinted, short_untold, untouched_silent, all_unmade, ok_weaker}
use Rattle.fz_verify.proofs.Reports.{grew_not}
use Rattle.fz_files.specs.Touched.{touched_by}
use Rattle.fz_verify.proofs.HeaderReads.{unread}
use Rattle.fz_verify.proofs.verify_file.verify_decoded.Goals as goal

pub returns-in_err-block : goal.returns-in_err-block
returns-in_err-block g c =
    let cause : HasJobCause Verify (g.S.Source.held c.args.source.now) (g.S.Source.tally c.args.source.now) (g.S.Source.tally c.args.source.now) (g.T.Text.tally c.args.text.now) (g.T.Text.tally c.args.text.now) c.args.meter.now.limit 1 c.from_residual.result =
    let held : Option (List ℕ) = g.S.Source.held c.args.source.now in
    let source : Tally = g.S.Source.tally c.args.source.now in
    let text : Tally = g.T.Text.tally c.args.text.now in
    let stopped : c.from_residual.result ≡ Err (stop_of_short c.in_err-block.field-0.0) = search rules in
    subst (λ (r : Result Bool Stop). HasJobCause Verify held source source text text c.args.meter.now.limit 1 r) (sym stopped)
    (c.stages_law.ensures.block.short Verify held source text 1 c.args.meter.now c.in_err-block.field-0.0 tt c.requires.nothing_live c.in_err-block.ensures.refused) in
    record {
      lines =
          let held : Option (List ℕ) = g.S.Source.held c.args.source.now in
          let old : Option (List ℕ) = g.T.Text.contents c.args.text.now in
          let stopped : c.from_residual.result ≡ Err (stop_of_short c.in_err-block.field-0.0) = search rules in
          subst (λ (r : Result Bool Stop). PrintsLines Verify held old old r) (sym stopped) (short_unprinted Bool Verify held old c.in_err-block.field-0.0);
      right = search rules;
      reported = search rules;
      grown = grew_not (g.T.Text.contents c.args.text.now);
      first_fault =
          let held : Option (List ℕ) = g.S.Source.held c.args.source.now in
          let stopped : c.from_residual.result ≡ Err (stop_of_short c.in_err-block.field-0.0) = search rules in
          subst (λ (r : Result Bool Stop). TellsFirstFault Verify held r) (sym stopped) (short_untold Bool Verify held c.in_err-block.field-0.0);
      answered =
          let held : Option (List ℕ) = g.S.Source.held c.args.source.now in
          let source : Tally = g.S.Source.tally c.args.source.now in
          let text : Tally = g.T.Text.tally c.args.text.now in
          c.stages_law.ensures.answers Verify held source source text text c.args.meter.now.limit 1 c.from_residual.result tt cause;
      cause = cause;
      silent = untouched_silent Verify (g.S.Source.held c.args.source.now) c.args.meter.now.limit (λ file. job_takings Verify file 1) _ c.from_residual.result (refl, refl);
      buffers =
          let same : c.bytes.new.self.peak ≡ c.args.meter.now.peak = ap (λ (m : Gauge). m.peak) c.in_err-block.ensures.unchanged in
          record {
            live = ap (λ (m : Gauge). m.live) c.in_err-block.ensures.unchanged ∙ c.requires.nothing_live;
            limit = ap (λ (m : Gauge). m.limit) c.in_err-block.ensures.unchanged;
            peak = peak_stays (g.S.Source.held c.args.source.now) (λ file. job_bound Verify file 1) _ _ same;
            most = omega (arith, same);
            window_is = λ i. record { slots = c.requires.window i; workers = c.args.window.now.workers };
          };
      touched = unread (g.S.Source.held c.args.source.now) (touched_by Verify) (g.S.Source.ranges c.args.source.now);
      exact_peak = search rules;
      unread = λ low. refl;
      kept = record { held_is = refl; attached_is = refl; source_counts = kept_same _; sink_counts = kept_same _ };
      told_ranges = search rules;
      told_contents = search rules;
    }

pub returns : goal.returns
returns g c =
    let cause : HasJobCause Verify (g.S.Source.held c.args.source.now) (g.S.Source.tally c.args.source.now) (g.S.Source.tally c.verify_with_block-answer.new.source) (g.T.Text.tally c.args.text.now) (g.T.Text.tally c.verify_with_block-answer.new.text) c.args.meter.now.limit 1 c.verify_with_block-answer.result =
    let held : Option (List ℕ) = g.S.Source.held c.args.source.now in
    let source : Tally = g.S.Source.tally c.args.source.now in
    let text : Tally = g.T.Text.tally c.args.text.now in
    let source' : Tally = g.S.Source.tally c.verify_with_block-answer.new.source in
    let text' : Tally = g.T.Text.tally c.verify_with_block-answer.new.text in
    let limit : ℕ = c.args.meter.now.limit in
    let same : c.bytes.new.self.limit ≡ limit = ap (λ (m : Gauge). m.limit) c.in_ok-block.ensures.taken.1 in
    let room : 2880 ≤ limit = omega (arith, c.in_ok-block.ensures.taken.0, c.requires.nothing_live) in
    let works : Works source source' text text' limit c.verify_with_block-answer.result = rw same at c.verify_with_block-answer.ensures.cause in
    let most : TellsLimit limit (greatest_bound Verify 1) c.verify_with_block-answer.result = rw same at c.verify_with_block-answer.ensures.most in
    let tells : IfSome held (λ file. TellsFirstPast limit (later_takings Verify file 1) c.verify_with_block-answer.result) = rw same at c.verify_with_block-answer.ensures.first_past in
    c.stages_law.ensures.block.behind Verify held source source' text text' limit 1 c.verify_with_block-answer.result tt room works most tells in
    record {
      lines = search rules;
      right = search rules;
      reported = search rules;
      grown = search rules;
      first_fault = search rules;
      answered =
          let held : Option (List ℕ) = g.S.Source.held c.args.source.now in
          c.stages_law.ensures.answers Verify held _ _ _ _ c.args.meter.now.limit 1 c.verify_with_block-answer.result tt cause;
      cause = cause;
      silent =
          let held : Option (List ℕ) = g.S.Source.held c.args.source.now in
          let limit : ℕ = c.args.meter.now.limit in
          let W : ℕ = 1 in
          let same : c.bytes.new.self.limit ≡ limit = ap (λ (m : Gauge). m.limit) c.in_ok-block.ensures.taken.1 in
          let room : 2880 ≤ limit = omega (arith, c.in_ok-block.ensures.taken.0, c.requires.nothing_live) in
          let later : StaysUnmade Verify held limit (λ file. later_takings Verify file W) ((g.T.Text.contents c.verify_with_block-answer.new.text ≡ g.T.Text.contents c.args.text.now) × (g.T.Text.tally c.verify_with_block-answer.new.text ≡ g.T.Text.tally c.args.text.now)) c.verify_with_block-answer.result = rw same at c.verify_with_block-answer.ensures.silent in
          all_unmade Verify held limit (λ file. job_takings Verify file W) (λ file. later_takings Verify file W) _ c.verify_with_block-answer.result (c.stages_law.ensures.passes.block Verify held limit W tt room) later;
      buffers =
          let held : Option (List ℕ) = g.S.Source.held c.args.source.now in
          let begun : c.bytes.new.self.peak ≡ max c.args.meter.now.peak (c.args.meter.now.live + 2880) = ap (λ (m : Gauge). m.peak) c.in_ok-block.ensures.taken.1 in
          let first : c.bytes.new.self.peak ≤ max c.args.meter.now.peak 2880 = omega (arith, begun, c.requires.nothing_live) in
          let low : IfSome held (λ file. c.verify_with_block-answer.new.meter.peak ≤ max c.bytes.new.self.peak (job_bound Verify file 1)) = c.verify_with_block-answer.ensures.peak in
          let block : List ℕ = c.in_ok-block.block in
          let left : List ℕ = c.verify_with_block-answer.new.block in
          let long : length block ≡ 2880 = ap length c.in_ok-block.ensures.bytes ∙ length-replicate {A = ℕ} 2880 0 in
          let took : c.bytes.new.self.live ≡ c.args.meter.now.live + 2880 = ap (λ (m : Gauge). m.live) c.in_ok-block.ensures.taken.1 in
          let gave : c.give_bytes.new.self.live ≡ c.verify_with_block-answer.new.meter.live - length (refilled block left) = ap (λ (m : Gauge). m.live) c.give_bytes.ensures in
          let back : c.give_bytes.new.self.peak ≡ c.verify_with_block-answer.new.meter.peak = ap (λ (m : Gauge). m.peak) c.give_bytes.ensures in
          record {
            live = omega (arith, gave, refilled_len block left, long, took, c.verify_with_block-answer.ensures.stays.2, c.requires.nothing_live);
            limit = ap (λ (m : Gauge). m.limit) c.give_bytes.ensures ∙ c.verify_with_block-answer.ensures.stays.3 ∙ ap (λ (m : Gauge). m.limit) c.in_ok-block.ensures.taken.1;
            peak = rw back (c.stages_law.ensures.peaks.block Verify held 1 c.args.meter.now.peak c.bytes.new.self.peak c.verify_with_block-answer.new.meter.peak first low);
            most = omega (arith, back, first, c.verify_with_block-answer.ensures.peak_most, c.stages_law.ensures.sizes.look Verify 1);
            window_is = c.verify_with_block-answer.ensures.emptied;
          };
      touched = search rules;
      exact_peak =
          let held : Option (List ℕ) = g.S.Source.held c.args.source.now in
          let W : ℕ = 1 in
          let begun : c.bytes.new.self.peak ≡ max c.args.meter.now.peak (c.args.meter.now.live + 2880) = ap (λ (m : Gauge). m.peak) c.in_ok-block.ensures.taken.1 in
          let first : c.bytes.new.self.peak ≡ max c.args.meter.now.peak 2880 = omega (arith, begun, c.requires.nothing_live) in
          let back : c.give_bytes.new.self.peak ≡ c.verify_with_block-answer.new.meter.peak = ap (λ (m : Gauge). m.peak) c.give_bytes.ensures in
          let later : OnOk c.verify_with_block-answer.result (IfSome held (λ file. c.verify_with_block-answer.new.meter.peak ≡ max c.bytes.new.self.peak (highest (later_takings Verify file W)))) = c.verify_with_block-answer.ensures.exact_peak in
          rw back (ok_weaker c.verify_with_block-answer.result (λ reached. c.stages_law.ensures.reached.block Verify held W c.args.meter.now.peak c.bytes.new.self.peak c.verify_with_block-answer.new.meter.peak tt first reached) later);
      unread = λ low. absurd (omega (arith, low, c.in_ok-block.ensures.taken.0, c.requires.nothing_live));
      kept = search rules;
      told_ranges = search rules;
      told_contents = search rules;
    }

pub verify_with_block-answer-requires-clause-sound : goal.verify_with_block-answer-requires-clause-sound
verify_with_block-answer-requires-clause-sound g c κs within = λ so. c.requires.sound (sym c.is_some-skip.ensures ∙ so)
