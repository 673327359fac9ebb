-- With the first block.
use Rattle.std.proofs.Common.{◌≡◌, inl, ℕ, ◌+◌, ◌-◌, ◌≤◌, max, List, Option, Result, Err, length, refl, sym, ap, ◌∙◌, subst, arith, rules}
use Rattle.std.specs.Prelude.{OnOk}
use Rattle.std.proofs.lemmas.List.{length-replicate}
use Rattle.fz_base.specs.Buffer.{refilled}
use Rattle.fz_base.specs.Counts.{Tally}
use Rattle.fz_base.specs.Meter.{Gauge}
use Rattle.fz_base.specs.Stop.{TellsLimit, stop_of_short}
use Rattle.fz_base.specs.Takings.{TellsFirstPast, highest}
use Rattle.fz_base.specs.declared.failure.Stop.{Stop}
use Rattle.fz_patch.specs.Clauses.{HasPatchCause, IsUnwritten, TellsPatchFault, greatest_patch_bound, later_takings}
use Rattle.fz_target.specs.Ends.{WorksInPlace}
use Rattle.fz_laws.specs.PatchBuffers.{patch_takings}
use Rattle.fz_target.specs.Targets.{job_at}
use Rattle.fz_target.specs.Told.{IfBoth}
use Rattle.fz_patch.proofs.Amended.{kept-same}
use Rattle.fz_patch.proofs.FrameBlock.{names_same, ok_weaker}
use Rattle.fz_patch.proofs.EndsJoined.{counts_same}
use Rattle.fz_patch.proofs.EndsTold.{if_both}
use Rattle.fz_patch.proofs.FramePatch.{answers, bound_block, cause_after, first_short, peak_after, peak_reached, peak_stays, refilled_len}
use Rattle.fz_patch.proofs.FramePatch.{short_untold, short_unwritten, unwritten_after}
use Rattle.fz_patch.proofs.KeptFound.{none_read, rest_untouched}
use Rattle.fz_patch.proofs.patch_file.patch.Goals as goal

pub returns-in_err-block-clause-safe : goal.returns-in_err-block-clause-safe
returns-in_err-block-clause-safe g c = if_both (g.D.Source.held c.args.store.now) (g.S.Source.held c.args.patch.now) _ (λ f p is by. inl (is, refl))

pub returns-in_err-block-clause-unwritten : goal.returns-in_err-block-clause-unwritten
returns-in_err-block-clause-unwritten g c =
    let job = job_at c.args.hdu c.args.corner.now in
    let held : Option (List ℕ) = g.D.Source.held c.args.store.now in
    let given : Option (List ℕ) = g.S.Source.held c.args.patch.now in
    let s : Tally = g.D.Source.tally c.args.store.now in
    let limit : ℕ = c.args.meter.now.limit in
    let stopped : c.from_residual.result ≡ Err (stop_of_short c.in_err-block.field-0.0) = search rules in
    subst (λ (r : Result (Unit {0}) Stop). IsUnwritten held given limit (λ f q. patch_takings f q job) ((held ≡ held) × (s.amended ≡ s.amended)) r)
    (sym stopped) (short_unwritten (Unit {0}) held given limit (λ f q. patch_takings f q job) c.in_err-block.field-0.0 (refl, refl))

pub returns-in_err-block-clause-named : goal.returns-in_err-block-clause-named
returns-in_err-block-clause-named g c = names_same c.args.hdu (g.D.Source.held c.args.store.now) c.from_residual.result (refl, refl)

pub returns-in_err-block-clause-unread : goal.returns-in_err-block-clause-unread
returns-in_err-block-clause-unread g c = λ low. (refl, refl)

pub returns-in_err-block-clause-first_fault : goal.returns-in_err-block-clause-first_fault
returns-in_err-block-clause-first_fault g c =
    let job = job_at c.args.hdu c.args.corner.now in
    let held : Option (List ℕ) = g.D.Source.held c.args.store.now in
    let given : Option (List ℕ) = g.S.Source.held c.args.patch.now in
    let stopped : c.from_residual.result ≡ Err (stop_of_short c.in_err-block.field-0.0) = search rules in
    subst (λ (r : Result (Unit {0}) Stop). TellsPatchFault job held given r) (sym stopped) (short_untold (Unit {0}) job held given c.in_err-block.field-0.0)

pub returns-in_err-block-clause-cause : goal.returns-in_err-block-clause-cause
returns-in_err-block-clause-cause g c =
    let job = job_at c.args.hdu c.args.corner.now in
    let held : Option (List ℕ) = g.D.Source.held c.args.store.now in
    let given : Option (List ℕ) = g.S.Source.held c.args.patch.now in
    let s : Tally = g.D.Source.tally c.args.store.now in
    let p : Tally = g.S.Source.tally c.args.patch.now in
    let stopped : c.from_residual.result ≡ Err (stop_of_short c.in_err-block.field-0.0) = search rules in
    subst (λ (r : Result (Unit {0}) Stop). HasPatchCause job held given s s p p c.args.meter.now.limit r) (sym stopped)
    (first_short {X = Unit {0}} job held given s p c.args.meter.now c.in_err-block.field-0.0 c.requires.nothing_live c.in_err-block.ensures.refused)

pub returns-in_err-block-clause-answered : goal.returns-in_err-block-clause-answered
returns-in_err-block-clause-answered g c =
    answers c.patch_buffers_law.ensures c.takings_law.ensures.within (job_at c.args.hdu c.args.corner.now) (g.D.Source.held c.args.store.now) (g.S.Source.held c.args.patch.now) _ _ _ _ c.args.meter.now.limit c.from_residual.result
    (returns-in_err-block-clause-cause g c)

pub returns-in_err-block-clause-buffers : goal.returns-in_err-block-clause-buffers
returns-in_err-block-clause-buffers g c =
    let peak = ap (λ (m : Gauge). m.peak) c.in_err-block.ensures.unchanged in
    record {
      live = ap (λ (m : Gauge). m.live) c.in_err-block.ensures.unchanged ∙ c.requires.nothing_live;
      limit = ap (λ (m : Gauge). m.limit) c.in_err-block.ensures.unchanged;
      risen = omega (arith, peak);
      peak = peak_stays (job_at c.args.hdu c.args.corner.now) (g.D.Source.held c.args.store.now) (g.S.Source.held c.args.patch.now) _ _ peak;
      most = omega (arith, peak);
    }

pub returns-in_err-block-clause-counts : goal.returns-in_err-block-clause-counts
returns-in_err-block-clause-counts g c = (kept-same _, counts_same _ _ refl)

pub returns-clause-unwritten : goal.returns-clause-unwritten
returns-clause-unwritten g c =
    let job = job_at c.args.hdu c.args.corner.now in
    let held : Option (List ℕ) = g.D.Source.held c.args.store.now in
    let given : Option (List ℕ) = g.S.Source.held c.args.patch.now in
    let s : Tally = g.D.Source.tally c.args.store.now in
    let s' : Tally = g.D.Source.tally c.with_block-answer.new.store in
    let limit : ℕ = c.args.meter.now.limit in
    let same : c.bytes.new.self.limit ≡ limit = ap (λ (m : Gauge). m.limit) c.in_ok-block.ensures.taken.1 in
    let room : 2880 ≤ limit = omega (arith, c.in_ok-block.ensures.taken.0, c.requires.nothing_live) in
    let later : IsUnwritten held given limit (λ f q. later_takings f q job)
    ((g.D.Source.held c.with_block-answer.new.store ≡ held) × (s'.amended ≡ s.amended)) c.with_block-answer.result =
    rw same at c.with_block-answer.ensures.unwritten in
    unwritten_after _ job held given limit c.with_block-answer.result room later

pub returns-clause-named : goal.returns-clause-named
returns-clause-named g c = c.with_block-answer.ensures.named

pub returns-clause-unread : goal.returns-clause-unread
returns-clause-unread g c = λ low. absurd (omega (arith, low, c.in_ok-block.ensures.taken.0, c.requires.nothing_live))

pub returns-clause-cause : goal.returns-clause-cause
returns-clause-cause g c =
    let job = job_at c.args.hdu c.args.corner.now in
    let held : Option (List ℕ) = g.D.Source.held c.args.store.now in
    let given : Option (List ℕ) = g.S.Source.held c.args.patch.now in
    let s : Tally = g.D.Source.tally c.args.store.now in
    let s' : Tally = g.D.Source.tally c.with_block-answer.new.store in
    let p : Tally = g.S.Source.tally c.args.patch.now in
    let p' : Tally = g.S.Source.tally c.with_block-answer.new.patch in
    let limit : ℕ = c.args.meter.now.limit in
    let same : c.bytes.new.self.limit ≡ limit = ap (λ (m : Gauge). m.limit) c.in_ok-block.ensures.taken.1 in
    let room : 2880 ≤ limit = omega (arith, c.in_ok-block.ensures.taken.0, c.requires.nothing_live) in
    let works : WorksInPlace s s' p p' limit c.with_block-answer.result = rw same at c.with_block-answer.ensures.cause in
    let most : TellsLimit limit greatest_patch_bound c.with_block-answer.result = rw same at c.with_block-answer.ensures.most in
    let tells : IfBoth held given (λ f q. TellsFirstPast limit (later_takings f q job) c.with_block-answer.result) = rw same at c.with_block-answer.ensures.first_past in
    cause_after job held given s s' p p' limit c.with_block-answer.result room works most tells

pub returns-clause-answered : goal.returns-clause-answered
returns-clause-answered g c =
    answers c.patch_buffers_law.ensures c.takings_law.ensures.within (job_at c.args.hdu c.args.corner.now) (g.D.Source.held c.args.store.now) (g.S.Source.held c.args.patch.now) _ _ _ _ c.args.meter.now.limit c.with_block-answer.result
    (returns-clause-cause g c)

pub returns-clause-buffers : goal.returns-clause-buffers
returns-clause-buffers g c =
    let job = job_at c.args.hdu c.args.corner.now in
    let held : Option (List ℕ) = g.D.Source.held c.args.store.now in
    let given : Option (List ℕ) = g.S.Source.held c.args.patch.now in
    let begun : c.bytes.new.self.peak ≡ max c.args.meter.now.peak (c.args.meter.now.live + 2880) = ap (λ (m : Gauge). m.peak) c.in_ok-block.ensures.taken.1 in
    let low : IfBoth held given (λ f q. c.with_block-answer.new.meter.peak ≤ max c.bytes.new.self.peak (highest (later_takings f q job))) = c.with_block-answer.ensures.peak in
    let block : List ℕ = c.in_ok-block.block in
    let left : List ℕ = c.with_block-answer.new.block in
    let long : length block ≡ 2880 = ap length c.in_ok-block.ensures.bytes ∙ length-replicate {A = ℕ} 2880 0 in
    let took : c.bytes.new.self.live ≡ c.args.meter.now.live + 2880 = ap (λ (m : Gauge). m.live) c.in_ok-block.ensures.taken.1 in
    let gave : c.give_bytes.new.self.live ≡ c.with_block-answer.new.meter.live - length (refilled block left) = ap (λ (m : Gauge). m.live) c.give_bytes.ensures in
    let back : c.give_bytes.new.self.peak ≡ c.with_block-answer.new.meter.peak = ap (λ (m : Gauge). m.peak) c.give_bytes.ensures in
    record {
      live = omega (arith, gave, refilled_len block left, long, took, c.with_block-answer.ensures.stays.2, c.requires.nothing_live);
      limit = ap (λ (m : Gauge). m.limit) c.give_bytes.ensures ∙ c.with_block-answer.ensures.stays.3 ∙ ap (λ (m : Gauge). m.limit) c.in_ok-block.ensures.taken.1;
      risen = omega (arith, back, begun, c.with_block-answer.ensures.risen);
      peak = rw back (peak_after c.patch_buffers_law.ensures job held given c.args.meter.now.peak c.bytes.new.self.peak c.with_block-answer.new.meter.peak (omega (arith, begun, c.requires.nothing_live)) low);
      most = omega (arith, back, begun, c.requires.nothing_live, c.with_block-answer.ensures.peak_most, bound_block);
    }

pub returns-clause-exact_peak : goal.returns-clause-exact_peak
returns-clause-exact_peak g c =
    let job = job_at c.args.hdu c.args.corner.now in
    let held : Option (List ℕ) = g.D.Source.held c.args.store.now in
    let given : Option (List ℕ) = g.S.Source.held c.args.patch.now in
    let begun : c.bytes.new.self.peak ≡ max c.args.meter.now.peak (c.args.meter.now.live + 2880) = ap (λ (m : Gauge). m.peak) c.in_ok-block.ensures.taken.1 in
    let back : c.give_bytes.new.self.peak ≡ c.with_block-answer.new.meter.peak = ap (λ (m : Gauge). m.peak) c.give_bytes.ensures in
    let reached : OnOk c.with_block-answer.result (IfBoth held given (λ f q. c.with_block-answer.new.meter.peak ≡ max c.bytes.new.self.peak (highest (later_takings f q job)))) = c.with_block-answer.ensures.exact_peak in
    ok_weaker c.with_block-answer.result
    (λ (all : IfBoth held given (λ f q. c.with_block-answer.new.meter.peak ≡ max c.bytes.new.self.peak (highest (later_takings f q job)))).
    rw back (peak_reached job held given c.args.meter.now.peak c.bytes.new.self.peak c.with_block-answer.new.meter.peak (omega (arith, begun, c.requires.nothing_live)) all))
    reached

pub returns-clause-counts : goal.returns-clause-counts
returns-clause-counts g c = (c.with_block-answer.ensures.cause.store_kept, c.with_block-answer.ensures.cause.patch_kept)

-- ---- what is kept of FILE, and what is read of PATCH

pub returns-in_err-block-clause-kept : goal.returns-in_err-block-clause-kept
returns-in_err-block-clause-kept g c =
    rest_untouched (job_at c.args.hdu c.args.corner.now) (g.S.Source.attached c.args.patch.now) (g.S.Source.held c.args.patch.now) (g.D.Source.held c.args.store.now) _ (g.D.Source.tally c.args.store.now).amended.writes _ refl refl

pub returns-in_err-block-clause-given_touched : goal.returns-in_err-block-clause-given_touched
returns-in_err-block-clause-given_touched g c =
    none_read (g.D.Source.held c.args.store.now) (g.S.Source.held c.args.patch.now) (job_at c.args.hdu c.args.corner.now) (g.S.Source.ranges c.args.patch.now)

pub returns-clause-kept : goal.returns-clause-kept
returns-clause-kept g c = c.with_block-answer.ensures.kept

pub returns-clause-given_touched : goal.returns-clause-given_touched
returns-clause-given_touched g c = c.with_block-answer.ensures.given_touched
