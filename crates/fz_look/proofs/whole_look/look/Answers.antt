-- With the first block.
use Rattle.std.proofs.Common.{◌≡◌, ℕ, ◌+◌, ◌-◌, ◌≤◌, max, List, Option, IfSome, Result, Ok, Err, length, refl, sym, ap, ◌∙◌, subst, arith, rules}
use Rattle.std.proofs.lemmas.List.{length-replicate}
use Rattle.fz_base.specs.Buffer.{refilled}
use Rattle.fz_base.specs.Counts.{Tally, uncounted}
use Rattle.fz_base.specs.Meter.{Gauge}
use Rattle.fz_base.specs.Stop.{IfRefused, TellsLimit, stop_of_short}
use Rattle.fz_base.specs.Takings.{TellsFirstPast}
use Rattle.fz_base.specs.declared.failure.Short.{Short}
use Rattle.fz_base.specs.declared.failure.Stop.{Stop}
use Rattle.fz_files.specs.Buffers.{job_bound}
use Rattle.fz_files.specs.Touched.{touched_by}
use Rattle.fz_files.specs.declared.job.Job.TheVariants.{Unpack}
use Rattle.fz_job.specs.Clauses.{HasJobCause, greatest_bound}
use Rattle.fz_job.specs.Stages.{Works, later_takings}
use Rattle.fz_look.specs.Found.{looked_with}
use Rattle.fz_look.specs.Looked.{IsLooked, IsLookFault, IsSoundLook}
use Rattle.fz_look.specs.Looks.{live_after}
use Rattle.fz_look.specs.declared.whole_look.Found.{Found}
use Rattle.fz_look.specs.declared.looked.Looked.{Looked}
use Rattle.fz_look.proofs.Causes.{first_past_alike, limit_alike, look_cause, works_alike}
use Rattle.fz_look.proofs.Held.{refilled_is, refilled_len}
use Rattle.fz_look.proofs.HduReads.{unread}
use Rattle.fz_look.proofs.Outcomes.{if_short, kept_same, peak_stays, stop_weaker}
use Rattle.fz_look.proofs.whole_look.look.Goals as goal

-- ---- the block was not given

none_live : (short : Short) → live_after (Err (stop_of_short short)) ≡ 0
none_live short = refl

pub returns-in_err-block-clause-first_fault : goal.returns-in_err-block-clause-first_fault
returns-in_err-block-clause-first_fault g c =
    let held : Option (List ℕ) = g.S.Source.held c.args.source.now in
    let stopped : c.from_residual.result ≡ Err (stop_of_short c.in_err-block.field-0.0) = search rules in
    subst (λ (r : Result Looked Stop). IfRefused r (λ x. IfSome held (λ file. IsLookFault file x))) (sym stopped) (if_short Looked c.in_err-block.field-0.0 _)

pub returns-in_err-block-clause-cause : goal.returns-in_err-block-clause-cause
returns-in_err-block-clause-cause g c =
    let held : Option (List ℕ) = g.S.Source.held c.args.source.now in
    let source : Tally = g.S.Source.tally c.args.source.now in
    let W : ℕ = c.args.window.now.workers in
    let stopped : c.from_residual.result ≡ Err (stop_of_short c.in_err-block.field-0.0) = search rules in
    let cause : HasJobCause Unpack held source source uncounted uncounted c.args.meter.now.limit W c.from_residual.result =
    subst (λ (r : Result Looked Stop). HasJobCause Unpack held source source uncounted uncounted c.args.meter.now.limit W r) (sym stopped)
    (c.stages_law.ensures.block.short Unpack held source uncounted W c.args.meter.now c.in_err-block.field-0.0 tt c.requires.nothing_live c.in_err-block.ensures.refused) in
    look_cause held source source c.args.meter.now.limit W c.from_residual.result (kept_same source) cause

pub returns-in_err-block-clause-buffers : goal.returns-in_err-block-clause-buffers
returns-in_err-block-clause-buffers g c =
    let same : c.bytes.new.self.peak ≡ c.args.meter.now.peak = ap (λ (m : Gauge). m.peak) c.in_err-block.ensures.unchanged in
    let stopped : c.from_residual.result ≡ Err (stop_of_short c.in_err-block.field-0.0) = search rules in
    record {
      live = ap (λ (m : Gauge). m.live) c.in_err-block.ensures.unchanged ∙ c.requires.nothing_live ∙ sym (ap live_after stopped ∙ none_live c.in_err-block.field-0.0);
      limit = ap (λ (m : Gauge). m.limit) c.in_err-block.ensures.unchanged;
      peak = peak_stays (g.S.Source.held c.args.source.now) (λ file. job_bound Unpack file c.args.window.now.workers) _ _ same;
      most = omega (arith, same);
      window_is = λ i. record { slots = c.requires.window i; workers = c.args.window.now.workers };
    }

pub returns-in_err-block-clause-touched : goal.returns-in_err-block-clause-touched
returns-in_err-block-clause-touched g c = unread (g.S.Source.held c.args.source.now) (touched_by Unpack) (g.S.Source.ranges c.args.source.now)

pub returns-in_err-block-clause-unread : goal.returns-in_err-block-clause-unread
returns-in_err-block-clause-unread g c = λ low. refl

-- ---- it stopped

pub returns-in-Err-clause-first_fault : goal.returns-in-Err-clause-first_fault
returns-in-Err-clause-first_fault g c = stop_weaker Found Looked c.in-Err.stop (λ x is. is) c.in-Err.ensures.first_fault

pub returns-in-Err-clause-cause : goal.returns-in-Err-clause-cause
returns-in-Err-clause-cause g c =
    let held : Option (List ℕ) = g.S.Source.held c.args.source.now in
    let W : ℕ = c.args.window.now.workers in
    let source : Tally = g.S.Source.tally c.args.source.now in
    let source' : Tally = g.S.Source.tally c.with_block-answer.new.source in
    let limit : ℕ = c.args.meter.now.limit in
    let stop : Stop = c.in-Err.stop in
    let same : c.bytes.new.self.limit ≡ limit = ap (λ (m : Gauge). m.limit) c.in_ok-block.ensures.taken.1 in
    let room : 2880 ≤ limit = omega (arith, c.in_ok-block.ensures.taken.0, c.requires.nothing_live) in
    let works : Works {X = Found} source source' uncounted uncounted limit (Err stop) = rw same at c.in-Err.ensures.cause in
    let most : TellsLimit {X = Found} limit (greatest_bound Unpack W) (Err stop) = subst (λ n. TellsLimit {X = Found} n (greatest_bound Unpack W) (Err stop)) same c.in-Err.ensures.most in
    let tells : IfSome held (λ file. TellsFirstPast {X = Found} limit (later_takings Unpack file W) (Err stop)) =
    subst (λ n. IfSome held (λ file. TellsFirstPast {X = Found} n (later_takings Unpack file W) (Err stop))) same c.in-Err.ensures.first_past in
    let cause = c.stages_law.ensures.block.behind Unpack held source source' uncounted uncounted limit W (Err stop) tt room (works_alike Found Looked source source' uncounted uncounted limit stop works)
    (limit_alike Found Looked limit (greatest_bound Unpack W) stop most) (first_past_alike Found Looked held limit (λ file. later_takings Unpack file W) stop tells) in
    look_cause held source source' limit W (Err stop) works.source_kept cause

pub returns-in-Err-clause-buffers : goal.returns-in-Err-clause-buffers
returns-in-Err-clause-buffers g c =
    let held : Option (List ℕ) = g.S.Source.held c.args.source.now in
    let W : ℕ = c.args.window.now.workers in
    let begun : c.bytes.new.self.peak ≡ max c.args.meter.now.peak (c.args.meter.now.live + 2880) = ap (λ (m : Gauge). m.peak) c.in_ok-block.ensures.taken.1 in
    let first : c.bytes.new.self.peak ≤ max c.args.meter.now.peak 2880 = omega (arith, begun, c.requires.nothing_live) in
    let low : IfSome held (λ file. c.with_block-answer.new.meter.peak ≤ max c.bytes.new.self.peak (job_bound Unpack file W)) = c.with_block-answer.ensures.peak in
    let block : List ℕ = c.in_ok-block.block in
    let left : List ℕ = c.with_block-answer.new.block in
    let long : length block ≡ 2880 = ap length c.in_ok-block.ensures.bytes ∙ length-replicate {A = ℕ} 2880 0 in
    let took : c.bytes.new.self.live ≡ c.args.meter.now.live + 2880 = ap (λ (m : Gauge). m.live) c.in_ok-block.ensures.taken.1 in
    let gave : c.give_bytes.new.self.live ≡ c.with_block-answer.new.meter.live - length (refilled block left) = ap (λ (m : Gauge). m.live) c.give_bytes.ensures in
    let back : c.give_bytes.new.self.peak ≡ c.with_block-answer.new.meter.peak = ap (λ (m : Gauge). m.peak) c.give_bytes.ensures in
    record {
      live = omega (arith, gave, refilled_len block left, long, took, c.in-Err.ensures.live, c.requires.nothing_live);
      limit = ap (λ (m : Gauge). m.limit) c.give_bytes.ensures ∙ c.with_block-answer.ensures.stays.1 ∙ ap (λ (m : Gauge). m.limit) c.in_ok-block.ensures.taken.1;
      peak = rw back (c.stages_law.ensures.peaks.block Unpack held W c.args.meter.now.peak c.bytes.new.self.peak c.with_block-answer.new.meter.peak first low);
      most = omega (arith, back, first, c.with_block-answer.ensures.peak_most, c.stages_law.ensures.sizes.look Unpack W);
      window_is = c.with_block-answer.ensures.emptied;
    }

pub returns-in-Err-clause-unread : goal.returns-in-Err-clause-unread
returns-in-Err-clause-unread g c = λ low. absurd (omega (arith, low, c.in_ok-block.ensures.taken.0, c.requires.nothing_live))

pub give_bytes-requires : goal.give_bytes-requires
give_bytes-requires g c =
    let block : List ℕ = c.in_ok-block.block in
    let left : List ℕ = c.with_block-answer.new.block in
    let long : length block ≡ 2880 = ap length c.in_ok-block.ensures.bytes ∙ length-replicate {A = ℕ} 2880 0 in
    let took : c.bytes.new.self.live ≡ c.args.meter.now.live + 2880 = ap (λ (m : Gauge). m.live) c.in_ok-block.ensures.taken.1 in
    omega (arith, refilled_len block left, long, took, c.in-Err.ensures.live)

-- ---- it learnt something

pub returns-in-Ok-clause-looked : goal.returns-in-Ok-clause-looked
returns-in-Ok-clause-looked g c =
    let held : Option (List ℕ) = g.S.Source.held c.args.source.now in
    let block : List ℕ = c.in_ok-block.block in
    let left : List ℕ = c.with_block-answer.new.block in
    let long : length block ≡ 2880 = ap length c.in_ok-block.ensures.bytes ∙ length-replicate {A = ℕ} 2880 0 in
    let same : refilled block left ≡ left = refilled_is block left (c.with_block-answer.ensures.block ∙ sym long) in
    subst (λ (l : List ℕ). IfSome held (λ file. IsLooked file (looked_with c.in-Ok.found l))) (sym same) c.in-Ok.ensures.looked

pub returns-in-Ok-clause-sound : goal.returns-in-Ok-clause-sound
returns-in-Ok-clause-sound g c =
    let block : List ℕ = c.in_ok-block.block in
    let left : List ℕ = c.with_block-answer.new.block in
    let long : length block ≡ 2880 = ap length c.in_ok-block.ensures.bytes ∙ length-replicate {A = ℕ} 2880 0 in
    let same : refilled block left ≡ left = refilled_is block left (c.with_block-answer.ensures.block ∙ sym long) in
    subst (λ (l : List ℕ). IsSoundLook c.args.length (looked_with c.in-Ok.found l)) (sym same) c.in-Ok.ensures.sound

pub returns-in-Ok-clause-cause : goal.returns-in-Ok-clause-cause
returns-in-Ok-clause-cause g c =
    let held : Option (List ℕ) = g.S.Source.held c.args.source.now in
    let W : ℕ = c.args.window.now.workers in
    let source : Tally = g.S.Source.tally c.args.source.now in
    let source' : Tally = g.S.Source.tally c.with_block-answer.new.source in
    let limit : ℕ = c.args.meter.now.limit in
    let l : Looked = looked_with c.in-Ok.found (refilled c.in_ok-block.block c.with_block-answer.new.block) in
    let same : c.bytes.new.self.limit ≡ limit = ap (λ (m : Gauge). m.limit) c.in_ok-block.ensures.taken.1 in
    let room : 2880 ≤ limit = omega (arith, c.in_ok-block.ensures.taken.0, c.requires.nothing_live) in
    let works : Works {X = Found} source source' uncounted uncounted limit (Ok c.in-Ok.found) = rw same at c.in-Ok.ensures.cause in
    let tells : IfSome held (λ file. TellsFirstPast {X = Found} limit (later_takings Unpack file W) (Ok c.in-Ok.found)) =
    subst (λ (n : ℕ). IfSome held (λ file. TellsFirstPast {X = Found} n (later_takings Unpack file W) (Ok c.in-Ok.found))) same c.in-Ok.ensures.first_past in
    let cause = c.stages_law.ensures.block.behind Unpack held source source' uncounted uncounted limit W (Ok l) tt room (record { source_kept = works.source_kept; sink_kept = works.sink_kept; ok = works.ok; stop = tt }) tt tells in
    look_cause held source source' limit W (Ok l) works.source_kept cause

pub returns-in-Ok-clause-buffers : goal.returns-in-Ok-clause-buffers
returns-in-Ok-clause-buffers g c =
    let held : Option (List ℕ) = g.S.Source.held c.args.source.now in
    let W : ℕ = c.args.window.now.workers in
    let begun : c.bytes.new.self.peak ≡ max c.args.meter.now.peak (c.args.meter.now.live + 2880) = ap (λ (m : Gauge). m.peak) c.in_ok-block.ensures.taken.1 in
    let first : c.bytes.new.self.peak ≤ max c.args.meter.now.peak 2880 = omega (arith, begun, c.requires.nothing_live) in
    let low : IfSome held (λ file. c.with_block-answer.new.meter.peak ≤ max c.bytes.new.self.peak (job_bound Unpack file W)) = c.with_block-answer.ensures.peak in
    let block : List ℕ = c.in_ok-block.block in
    let left : List ℕ = c.with_block-answer.new.block in
    let long : length block ≡ 2880 = ap length c.in_ok-block.ensures.bytes ∙ length-replicate {A = ℕ} 2880 0 in
    let took : c.bytes.new.self.live ≡ c.args.meter.now.live + 2880 = ap (λ (m : Gauge). m.live) c.in_ok-block.ensures.taken.1 in
    record {
      live = omega (arith, refilled_len block left, long, took, c.in-Ok.ensures.live, c.requires.nothing_live);
      limit = c.with_block-answer.ensures.stays.1 ∙ ap (λ (m : Gauge). m.limit) c.in_ok-block.ensures.taken.1;
      peak = c.stages_law.ensures.peaks.block Unpack held W c.args.meter.now.peak c.bytes.new.self.peak c.with_block-answer.new.meter.peak first low;
      most = omega (arith, first, c.with_block-answer.ensures.peak_most, c.stages_law.ensures.sizes.look Unpack W);
      window_is = c.with_block-answer.ensures.emptied;
    }

pub returns-in-Ok-clause-exact_peak : goal.returns-in-Ok-clause-exact_peak
returns-in-Ok-clause-exact_peak g c =
    let held : Option (List ℕ) = g.S.Source.held c.args.source.now in
    let W : ℕ = c.args.window.now.workers in
    let begun : c.bytes.new.self.peak ≡ max c.args.meter.now.peak (c.args.meter.now.live + 2880) = ap (λ (m : Gauge). m.peak) c.in_ok-block.ensures.taken.1 in
    let first : c.bytes.new.self.peak ≡ max c.args.meter.now.peak 2880 = omega (arith, begun, c.requires.nothing_live) in
    c.stages_law.ensures.reached.block Unpack held W c.args.meter.now.peak c.bytes.new.self.peak c.with_block-answer.new.meter.peak tt first c.in-Ok.ensures.exact_peak

pub returns-in-Ok-clause-unread : goal.returns-in-Ok-clause-unread
returns-in-Ok-clause-unread g c = λ low. absurd (omega (arith, low, c.in_ok-block.ensures.taken.0, c.requires.nothing_live))
