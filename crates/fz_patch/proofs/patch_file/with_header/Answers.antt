-- The target is found or not, and then the work says the rest.
use Rattle.std.proofs.Common.{◌≡◌, ◌⊎◌, inl, ℕ, ◌+◌, ◌≤◌, max, List, [], ◌∷◌, length, sum, Option, Some, Result, Ok, Err, refl, sym, ap, ◌∙◌, subst, arith, rules}
use Rattle.std.specs.Prelude.{OnOk, false}
use Rattle.fz_base.specs.Counts.{Amend, Tally}
use Rattle.fz_base.specs.Ranges.{LogsIn}
use Rattle.fz_base.specs.Refusal.{first_refusal}
use Rattle.fz_base.specs.Stop.{IfRefused, IsDefined, TellsLimit}
use Rattle.fz_base.specs.Takings.{TellsFirstPast, highest, piled}
use Rattle.fz_base.specs.declared.fault.Fault.{Fault}
use Rattle.fz_base.specs.declared.failure.Stop.{Stop}
use Rattle.fz_block.specs.Facts.{IsHeaderOf}
use Rattle.fz_block.specs.declared.header.Header.{Header}
use Rattle.fz_files.specs.Restored.{header_in, pixels_of}
use Rattle.fz_checks.specs.WorkBuffers.{work_buffers}
use Rattle.fz_laws.specs.PatchBuffers.{given_takings}
use Rattle.fz_laws.specs.PatchChecks.{if_patchable, own_checks, patch_target}
use Rattle.fz_patch.specs.Clauses.{IsPatchedBy, IsUnpassed, LeavesSafe, TellsPatchFault, greatest_patch_bound}
use Rattle.fz_patch.specs.Kept.{KeepsBytes}
use Rattle.fz_target.specs.Ends.{WorksInPlace}
use Rattle.fz_target.specs.Reads.{found_alone, given_header_range}
use Rattle.fz_target.specs.Steps.{ComesInWork}
use Rattle.fz_target.specs.Targets.{GivesWithin, IsTargetIn, given_taking, job_at}
use Rattle.fz_target.specs.declared.target.Target.{Target}
use Rattle.fz_patch.proofs.EndsTold.{if_both, if_some, some_of}
use Rattle.fz_patch.proofs.FrameBlock.{either_way}
use Rattle.fz_patch.proofs.FrameHeader.{bound_headers, bound_work, few_pixels, find_high, find_past, found_by, given_works, has_of, kept_is, of_jobs, stop_limit, target_is, tile_of, told_stop, work_high, work_limit, work_low, work_past}
use Rattle.fz_patch.proofs.FramePatch.{over_short}
use Rattle.fz_patch.proofs.FrameWork.{if_refused}
use Rattle.fz_patch.proofs.KeptFound.{alone_found, alone_stops, header_only, header_read, not_both, only_changed, pixels_too}
use Rattle.fz_patch.proofs.KeptSteps.{KeptBy}
use Rattle.fz_patch.proofs.patch_file.with_header.Goals as goal

-- ---- the header is that of the file

-- ---- it was not found

pub returns-in_err-target-clause-safe : goal.returns-in_err-target-clause-safe
returns-in_err-target-clause-safe g c = if_both (g.D.Source.held c.args.store.now) (g.S.Source.held c.args.patch.now) _ (λ f p is by wanted w. inl (is, refl))

pub returns-in_err-target-clause-unwritten : goal.returns-in_err-target-clause-unwritten
returns-in_err-target-clause-unwritten g c = λ refused. if_both (g.D.Source.held c.args.store.now) (g.S.Source.held c.args.patch.now) _ (λ f p is by wanted w. (refl, refl))

pub returns-in_err-target-clause-unpassed : goal.returns-in_err-target-clause-unpassed
returns-in_err-target-clause-unpassed g c =
    if_both (g.D.Source.held c.args.store.now) (g.S.Source.held c.args.patch.now) _ (λ f p is by wanted w live. inl (refl, refl))

pub returns-in_err-target-clause-over_limit : goal.returns-in_err-target-clause-over_limit
returns-in_err-target-clause-over_limit g c = over_short c.from_residual.result (refl, refl)

pub returns-in_err-target-clause-late : goal.returns-in_err-target-clause-late
returns-in_err-target-clause-late g c = if_refused c.from_residual.result (λ x. inl (refl, refl))

pub returns-in_err-target-clause-first_fault : goal.returns-in_err-target-clause-first_fault
returns-in_err-target-clause-first_fault g c =
    let stop : Stop = c.in_err-target.field-0.0 in
    let stopped : c.from_residual.result ≡ Err stop = search rules in
    let corner : List ℕ = c.args.patching.now.asked.corner.now in
    let header : Header = c.args.header.now in
    if_both (g.D.Source.held c.args.store.now) (g.S.Source.held c.args.patch.now) _
    (λ f p is by wanted w.
    let defined : IsDefined {X = Header} (if_patchable f p (job_at wanted corner) (Ok header)) (Err stop) =
    some_of (g.S.Source.held c.args.patch.now) (λ q. IsDefined {X = Header} (if_patchable f q (job_at wanted corner) (Ok header)) (Err stop)) p by (c.in_err-target.ensures.exact f wanted (has_of c.hdu_at_law.ensures.walk c.found_hdus_law.ensures.last (g.D.Source.held c.args.store.now) c.args.patching.now.asked.length c.args.header.now c.args.buf.now (g.met.D.Source.agrees c.args.store.now c.args.patching.now.asked.length c.requires.attached) c.requires.read f wanted is w)) in
    let told : IsDefined {X = Header} (patch_target f p (job_at wanted corner)) (Err stop) =
    subst (λ (r : Result Header Fault). IsDefined {X = Header} r (Err stop)) (sym (target_is header f p corner wanted w)) defined in
    subst (λ (r : Result (Unit {0}) Stop). TellsPatchFault (job_at wanted corner) (Some f) (Some p) r) (sym stopped) (told_stop (Unit {0}) f p (job_at wanted corner) stop told))

pub returns-in_err-target-clause-first_past : goal.returns-in_err-target-clause-first_past
returns-in_err-target-clause-first_past g c =
    let stop : Stop = c.in_err-target.field-0.0 in
    let stopped : c.from_residual.result ≡ Err stop = search rules in
    let corner : List ℕ = c.args.patching.now.asked.corner.now in
    let header : Header = c.args.header.now in
    let meter = c.args.meter.now in
    if_both (g.D.Source.held c.args.store.now) (g.S.Source.held c.args.patch.now) _
    (λ f p is by wanted w live.
    let job = job_at wanted corner in
    let own = first_refusal (own_checks f header job) in
    let defined : IsDefined {X = Header} (if_patchable f p job (Ok header)) (Err stop) =
    some_of (g.S.Source.held c.args.patch.now) (λ q. IsDefined {X = Header} (if_patchable f q job (Ok header)) (Err stop)) p by (c.in_err-target.ensures.exact f wanted (has_of c.hdu_at_law.ensures.walk c.found_hdus_law.ensures.last (g.D.Source.held c.args.store.now) c.args.patching.now.asked.length c.args.header.now c.args.buf.now (g.met.D.Source.agrees c.args.store.now c.args.patching.now.asked.length c.requires.attached) c.requires.read f wanted is w)) in
    let tells : TellsFirstPast {X = Target} meter.limit (given_taking meter.live p own) (Err stop) =
    some_of (g.S.Source.held c.args.patch.now) (λ q. TellsFirstPast {X = Target} meter.limit (given_taking meter.live q own) (Err stop)) p by (c.in_err-target.ensures.first_past f wanted (has_of c.hdu_at_law.ensures.walk c.found_hdus_law.ensures.last (g.D.Source.held c.args.store.now) c.args.patching.now.asked.length c.args.header.now c.args.buf.now (g.met.D.Source.agrees c.args.store.now c.args.patching.now.asked.length c.requires.attached) c.requires.read f wanted is w)) in
    subst (λ (r : Result (Unit {0}) Stop). TellsFirstPast meter.limit (given_takings f p job header own) r) (sym stopped)
    (find_past Target (Unit {0}) c.takings_law.ensures.first c.takings_law.ensures.second _ _ meter.limit meter.live f p job header own stop (kept_is c.args.meter.now.live c.args.buf.now c.args.header.now c.requires.header live) c.in_err-target.ensures.cause.stop defined tells))

pub returns-in_err-target-clause-peak : goal.returns-in_err-target-clause-peak
returns-in_err-target-clause-peak g c =
    let corner : List ℕ = c.args.patching.now.asked.corner.now in
    let header : Header = c.args.header.now in
    let meter = c.args.meter.now in
    if_both (g.D.Source.held c.args.store.now) (g.S.Source.held c.args.patch.now) _
    (λ f p is by wanted w live.
    let job = job_at wanted corner in
    let own = first_refusal (own_checks f header job) in
    let low : c.find_target.new.meter.peak ≤ max meter.peak (highest (given_taking meter.live p own)) =
    some_of (g.S.Source.held c.args.patch.now) (λ q. c.find_target.new.meter.peak ≤ max meter.peak (highest (given_taking meter.live q own))) p by (c.in_err-target.ensures.peak f wanted (has_of c.hdu_at_law.ensures.walk c.found_hdus_law.ensures.last (g.D.Source.held c.args.store.now) c.args.patching.now.asked.length c.args.header.now c.args.buf.now (g.met.D.Source.agrees c.args.store.now c.args.patching.now.asked.length c.requires.attached) c.requires.read f wanted is w)) in
    omega (arith, low, find_high meter.live f p job header own (kept_is c.args.meter.now.live c.args.buf.now c.args.header.now c.requires.header live)))

pub returns-in_err-target-clause-most : goal.returns-in_err-target-clause-most
returns-in_err-target-clause-most g c = λ low.
    let stop : Stop = c.in_err-target.field-0.0 in
    let stopped : c.from_residual.result ≡ Err stop = search rules in
    let meter = c.args.meter.now in
    subst (λ (r : Result (Unit {0}) Stop). TellsLimit meter.limit greatest_patch_bound r) (sym stopped)
    (stop_limit (Unit {0}) Target meter.limit (meter.live + 737280) greatest_patch_bound stop (omega (arith, low, bound_headers)) c.in_err-target.ensures.most)

pub returns-in_err-target-clause-peak_most : goal.returns-in_err-target-clause-peak_most
returns-in_err-target-clause-peak_most g c = λ low. omega (arith, low, bound_headers, c.in_err-target.ensures.peak_most)

pub returns-in_err-target-clause-cause : goal.returns-in_err-target-clause-cause
returns-in_err-target-clause-cause g c =
    let stop : Stop = c.in_err-target.field-0.0 in
    let stopped : c.from_residual.result ≡ Err stop = search rules in
    let s : Tally = g.D.Source.tally c.args.store.now in
    let p : Tally = g.S.Source.tally c.args.patch.now in
    let p' : Tally = g.S.Source.tally c.find_target.new.patch in
    subst (λ (r : Result (Unit {0}) Stop). WorksInPlace s s p p' c.args.meter.now.limit r) (sym stopped) (given_works {X = Unit {0}} {Y = Target} s p p' c.args.meter.now.limit stop c.in_err-target.ensures.cause)

-- ---- it was found

pub work-requires-clause-found : goal.work-requires-clause-found
work-requires-clause-found g c = λ lifetimes lives.
    let held : Option (List ℕ) = g.D.Source.held c.args.store.now in
    record {
      target = c.in_ok-target.ensures.target.0;
      attached = (c.args.patching.now.asked.length, c.requires.attached, c.in_ok-target.ensures.target.2);
      header = subst (λ (h : Header). IsHeaderOf c.args.buf.now h) (sym c.in_ok-target.ensures.target.1) c.requires.header;
      by =
          found_by c.args.patching.now.asked.length c.args.patching.now.asked.corner.now c.args.buf.now c.args.header.now c.in_ok-target.target c.requires.header c.in_ok-target.ensures.target.1
          c.in_ok-target.ensures.own.0 c.in_ok-target.ensures.own.1;
      said =
          if_some held (λ f. IsTargetIn f c.in_ok-target.target × (header_in f c.in_ok-target.target.header ≡ c.args.buf.now))
          (λ f is.
          let long : length f ≡ c.args.patching.now.asked.length = some_of held (λ f. length f ≡ c.args.patching.now.asked.length) f is
          (g.met.D.Source.agrees c.args.store.now c.args.patching.now.asked.length c.requires.attached) in
          let read : header_in f c.args.header.now ≡ c.args.buf.now = some_of held (λ f. header_in f c.args.header.now ≡ c.args.buf.now) f is c.requires.read in (
            c.in_ok-target.ensures.said f (record { length_is = long; header_is = read; passes = c.in_ok-target.ensures.own.0.checks }),
            ap (header_in f) c.in_ok-target.ensures.target.1 ∙ read,
          ));
    }

pub work-requires-clause-given : goal.work-requires-clause-given
work-requires-clause-given g c = λ lifetimes lives. subst (λ (n : Option ℕ). GivesWithin n c.in_ok-target.target) (sym c.in_ok-target.ensures.stays.0.attached_is) c.in_ok-target.ensures.given.0

on_ok : {X : Type 0} {P Q : Type 0} (r : Result X Stop) → (P → Q) → OnOk r P → OnOk r Q
on_ok (Ok x) f p = f p
on_ok (Err stop) f p = tt

pub returns-clause-patched : goal.returns-clause-patched
returns-clause-patched g c =
    let s : Tally = g.D.Source.tally c.args.store.now in
    let s' : Tally = g.D.Source.tally c.work.new.store in
    on_ok c.work.result
    (of_jobs (g.D.Source.held c.args.store.now) (g.S.Source.held c.args.patch.now) (g.S.Source.held c.find_target.new.patch) c.in_ok-target.target c.args.header.now c.args.patching.now.asked.corner.now
    (λ job. IsPatchedBy job (g.D.Source.held c.work.new.store) s.amended s'.amended) (c.in_ok-target.ensures.stays.0.held_is) (c.in_ok-target.ensures.given.1) (if_both (g.D.Source.held c.args.store.now) (g.S.Source.held c.args.patch.now) _ (λ f p is by wanted w. target_is c.args.header.now f p c.args.patching.now.asked.corner.now wanted w ∙ some_of (g.S.Source.held c.args.patch.now) (λ q. if_patchable f q (job_at wanted c.args.patching.now.asked.corner.now) (Ok c.args.header.now) ≡ Ok c.in_ok-target.target.header) p by (c.in_ok-target.ensures.exact f wanted (has_of c.hdu_at_law.ensures.walk c.found_hdus_law.ensures.last (g.D.Source.held c.args.store.now) c.args.patching.now.asked.length c.args.header.now c.args.buf.now (g.met.D.Source.agrees c.args.store.now c.args.patching.now.asked.length c.requires.attached) c.requires.read f wanted is w))))) c.work.ensures.patched

pub returns-clause-safe : goal.returns-clause-safe
returns-clause-safe g c =
    let s : Tally = g.D.Source.tally c.args.store.now in
    let s' : Tally = g.D.Source.tally c.work.new.store in
    of_jobs (g.D.Source.held c.args.store.now) (g.S.Source.held c.args.patch.now) (g.S.Source.held c.find_target.new.patch) c.in_ok-target.target c.args.header.now c.args.patching.now.asked.corner.now
    (λ job. LeavesSafe job (g.D.Source.held c.work.new.store) s.amended s'.amended) (c.in_ok-target.ensures.stays.0.held_is) (c.in_ok-target.ensures.given.1) (if_both (g.D.Source.held c.args.store.now) (g.S.Source.held c.args.patch.now) _ (λ f p is by wanted w. target_is c.args.header.now f p c.args.patching.now.asked.corner.now wanted w ∙ some_of (g.S.Source.held c.args.patch.now) (λ q. if_patchable f q (job_at wanted c.args.patching.now.asked.corner.now) (Ok c.args.header.now) ≡ Ok c.in_ok-target.target.header) p by (c.in_ok-target.ensures.exact f wanted (has_of c.hdu_at_law.ensures.walk c.found_hdus_law.ensures.last (g.D.Source.held c.args.store.now) c.args.patching.now.asked.length c.args.header.now c.args.buf.now (g.met.D.Source.agrees c.args.store.now c.args.patching.now.asked.length c.requires.attached) c.requires.read f wanted is w)))) c.work.ensures.safe

pub returns-clause-unwritten : goal.returns-clause-unwritten
returns-clause-unwritten g c = λ refused.
    of_jobs (g.D.Source.held c.args.store.now) (g.S.Source.held c.args.patch.now) (g.S.Source.held c.find_target.new.patch) c.in_ok-target.target c.args.header.now c.args.patching.now.asked.corner.now
    (λ job f p. (g.D.Source.held c.work.new.store ≡ g.D.Source.held c.args.store.now) × (g.D.Source.tally c.work.new.store ≡ g.D.Source.tally c.args.store.now)) (c.in_ok-target.ensures.stays.0.held_is) (c.in_ok-target.ensures.given.1) (if_both (g.D.Source.held c.args.store.now) (g.S.Source.held c.args.patch.now) _ (λ f p is by wanted w. target_is c.args.header.now f p c.args.patching.now.asked.corner.now wanted w ∙ some_of (g.S.Source.held c.args.patch.now) (λ q. if_patchable f q (job_at wanted c.args.patching.now.asked.corner.now) (Ok c.args.header.now) ≡ Ok c.in_ok-target.target.header) p by (c.in_ok-target.ensures.exact f wanted (has_of c.hdu_at_law.ensures.walk c.found_hdus_law.ensures.last (g.D.Source.held c.args.store.now) c.args.patching.now.asked.length c.args.header.now c.args.buf.now (g.met.D.Source.agrees c.args.store.now c.args.patching.now.asked.length c.requires.attached) c.requires.read f wanted is w)))) (c.work.ensures.unwritten refused)

pub returns-clause-first_fault : goal.returns-clause-first_fault
returns-clause-first_fault g c =
    of_jobs (g.D.Source.held c.args.store.now) (g.S.Source.held c.args.patch.now) (g.S.Source.held c.find_target.new.patch) c.in_ok-target.target c.args.header.now c.args.patching.now.asked.corner.now
    (λ job f p. TellsPatchFault job (Some f) (Some p) c.work.result) (c.in_ok-target.ensures.stays.0.held_is) (c.in_ok-target.ensures.given.1) (if_both (g.D.Source.held c.args.store.now) (g.S.Source.held c.args.patch.now) _ (λ f p is by wanted w. target_is c.args.header.now f p c.args.patching.now.asked.corner.now wanted w ∙ some_of (g.S.Source.held c.args.patch.now) (λ q. if_patchable f q (job_at wanted c.args.patching.now.asked.corner.now) (Ok c.args.header.now) ≡ Ok c.in_ok-target.target.header) p by (c.in_ok-target.ensures.exact f wanted (has_of c.hdu_at_law.ensures.walk c.found_hdus_law.ensures.last (g.D.Source.held c.args.store.now) c.args.patching.now.asked.length c.args.header.now c.args.buf.now (g.met.D.Source.agrees c.args.store.now c.args.patching.now.asked.length c.requires.attached) c.requires.read f wanted is w)))) c.work.ensures.first_fault

pub returns-clause-late : goal.returns-clause-late
returns-clause-late g c =
    subst
    (λ (h : Header). IfRefused c.work.result
    (λ x. ((g.D.Source.held c.work.new.store ≡ g.D.Source.held c.args.store.now) × (g.D.Source.tally c.work.new.store ≡ g.D.Source.tally c.args.store.now)) ⊎ ComesInWork h.hdu x))
    c.in_ok-target.ensures.target.1 c.work.ensures.late

pub returns-clause-first_past : goal.returns-clause-first_past
returns-clause-first_past g c =
    let corner : List ℕ = c.args.patching.now.asked.corner.now in
    let header : Header = c.args.header.now in
    let meter = c.args.meter.now in
    let n : ℕ = pixels_of c.in_ok-target.target.image.plan 0 in
    let tells : TellsFirstPast meter.limit (piled meter.live (work_buffers 0 false (Some n) 1)) c.work.result =
    rw (c.in_ok-target.ensures.stays.1, c.in_ok-target.ensures.stays.2) at c.work.ensures.first_past in
    if_both (g.D.Source.held c.args.store.now) (g.S.Source.held c.args.patch.now) _
    (λ f p is by wanted w live.
    let job = job_at wanted corner in
    let own = first_refusal (own_checks f header job) in
    let none : TellsFirstPast {X = Target} meter.limit (given_taking meter.live p own) (Ok c.in_ok-target.target) =
    some_of (g.S.Source.held c.args.patch.now) (λ q. TellsFirstPast {X = Target} meter.limit (given_taking meter.live q own) (Ok c.in_ok-target.target)) p by (c.in_ok-target.ensures.first_past f wanted (has_of c.hdu_at_law.ensures.walk c.found_hdus_law.ensures.last (g.D.Source.held c.args.store.now) c.args.patching.now.asked.length c.args.header.now c.args.buf.now (g.met.D.Source.agrees c.args.store.now c.args.patching.now.asked.length c.requires.attached) c.requires.read f wanted is w)) in
    work_past {X = Unit {0}} {Y = Target} c.takings_law.ensures.second meter.limit meter.live n f p job header c.in_ok-target.target.header c.in_ok-target.target c.work.result (kept_is c.args.meter.now.live c.args.buf.now c.args.header.now c.requires.header live) (tile_of c.in_ok-target.target c.args.header.now f c.in_ok-target.ensures.target.0 c.in_ok-target.ensures.target.1 (c.in_ok-target.ensures.said f (has_of c.hdu_at_law.ensures.walk c.found_hdus_law.ensures.last (g.D.Source.held c.args.store.now) c.args.patching.now.asked.length c.args.header.now c.args.buf.now (g.met.D.Source.agrees c.args.store.now c.args.patching.now.asked.length c.requires.attached) c.requires.read f wanted is w))) (some_of (g.S.Source.held c.args.patch.now) (λ q. if_patchable f q (job_at wanted c.args.patching.now.asked.corner.now) (Ok c.args.header.now) ≡ Ok c.in_ok-target.target.header) p by (c.in_ok-target.ensures.exact f wanted (has_of c.hdu_at_law.ensures.walk c.found_hdus_law.ensures.last (g.D.Source.held c.args.store.now) c.args.patching.now.asked.length c.args.header.now c.args.buf.now (g.met.D.Source.agrees c.args.store.now c.args.patching.now.asked.length c.requires.attached) c.requires.read f wanted is w))) none tells)

pub returns-clause-unpassed : goal.returns-clause-unpassed
returns-clause-unpassed g c =
    let corner : List ℕ = c.args.patching.now.asked.corner.now in
    let header : Header = c.args.header.now in
    let meter = c.args.meter.now in
    let store = c.args.store.now in
    let n : ℕ = pixels_of c.in_ok-target.target.image.plan 0 in
    let passed : IsUnpassed ((g.D.Source.held c.work.new.store ≡ g.D.Source.held store) × (g.D.Source.tally c.work.new.store ≡ g.D.Source.tally store))
    meter.limit (piled meter.live (work_buffers 0 false (Some n) 1)) =
    rw (c.in_ok-target.ensures.stays.1, c.in_ok-target.ensures.stays.2) at c.work.ensures.unpassed in
    if_both (g.D.Source.held store) (g.S.Source.held c.args.patch.now) _
    (λ f p is by wanted w live.
    let job = job_at wanted corner in
    let own = first_refusal (own_checks f header job) in
    let has = has_of c.hdu_at_law.ensures.walk c.found_hdus_law.ensures.last (g.D.Source.held store) c.args.patching.now.asked.length header c.args.buf.now
    (g.met.D.Source.agrees store c.args.patching.now.asked.length c.requires.attached) c.requires.read f wanted is w in
    let none : TellsFirstPast {X = Target} meter.limit (given_taking meter.live p own) (Ok c.in_ok-target.target) =
    some_of (g.S.Source.held c.args.patch.now) (λ q. TellsFirstPast {X = Target} meter.limit (given_taking meter.live q own) (Ok c.in_ok-target.target)) p by
    (c.in_ok-target.ensures.first_past f wanted has) in
    let found_is : if_patchable f p job (Ok header) ≡ Ok c.in_ok-target.target.header =
    some_of (g.S.Source.held c.args.patch.now) (λ q. if_patchable f q job (Ok header) ≡ Ok c.in_ok-target.target.header) p by
    (c.in_ok-target.ensures.exact f wanted has) in
    either_way (λ same. same)
    (λ tells. work_past {X = Unit {0}} {Y = Target} c.takings_law.ensures.second meter.limit meter.live n f p job header
    c.in_ok-target.target.header c.in_ok-target.target (Ok tt) (kept_is meter.live c.args.buf.now header c.requires.header live)
    (tile_of c.in_ok-target.target header f c.in_ok-target.ensures.target.0 c.in_ok-target.ensures.target.1 (c.in_ok-target.ensures.said f has))
    found_is none tells) passed)

pub returns-clause-peak : goal.returns-clause-peak
returns-clause-peak g c =
    let corner : List ℕ = c.args.patching.now.asked.corner.now in
    let header : Header = c.args.header.now in
    let meter = c.args.meter.now in
    let n : ℕ = pixels_of c.in_ok-target.target.image.plan 0 in
    let high : c.work.new.meter.peak ≤ max c.find_target.new.meter.peak (meter.live + sum (work_buffers 0 false (Some n) 1)) = rw c.in_ok-target.ensures.stays.1 at c.work.ensures.peak in
    if_both (g.D.Source.held c.args.store.now) (g.S.Source.held c.args.patch.now) _
    (λ f p is by wanted w live.
    let job = job_at wanted corner in
    let own = first_refusal (own_checks f header job) in
    let low : c.find_target.new.meter.peak ≤ max meter.peak (highest (given_taking meter.live p own)) =
    some_of (g.S.Source.held c.args.patch.now) (λ q. c.find_target.new.meter.peak ≤ max meter.peak (highest (given_taking meter.live q own))) p by (c.in_ok-target.ensures.peak f wanted (has_of c.hdu_at_law.ensures.walk c.found_hdus_law.ensures.last (g.D.Source.held c.args.store.now) c.args.patching.now.asked.length c.args.header.now c.args.buf.now (g.met.D.Source.agrees c.args.store.now c.args.patching.now.asked.length c.requires.attached) c.requires.read f wanted is w)) in
    let both = work_high meter.live n f p job header c.in_ok-target.target.header (kept_is c.args.meter.now.live c.args.buf.now c.args.header.now c.requires.header live) (tile_of c.in_ok-target.target c.args.header.now f c.in_ok-target.ensures.target.0 c.in_ok-target.ensures.target.1 (c.in_ok-target.ensures.said f (has_of c.hdu_at_law.ensures.walk c.found_hdus_law.ensures.last (g.D.Source.held c.args.store.now) c.args.patching.now.asked.length c.args.header.now c.args.buf.now (g.met.D.Source.agrees c.args.store.now c.args.patching.now.asked.length c.requires.attached) c.requires.read f wanted is w))) (some_of (g.S.Source.held c.args.patch.now) (λ q. if_patchable f q (job_at wanted c.args.patching.now.asked.corner.now) (Ok c.args.header.now) ≡ Ok c.in_ok-target.target.header) p by (c.in_ok-target.ensures.exact f wanted (has_of c.hdu_at_law.ensures.walk c.found_hdus_law.ensures.last (g.D.Source.held c.args.store.now) c.args.patching.now.asked.length c.args.header.now c.args.buf.now (g.met.D.Source.agrees c.args.store.now c.args.patching.now.asked.length c.requires.attached) c.requires.read f wanted is w))) in
    omega (arith, high, low, both.0, both.1))

pub returns-clause-exact_peak : goal.returns-clause-exact_peak
returns-clause-exact_peak g c =
    let corner : List ℕ = c.args.patching.now.asked.corner.now in
    let header : Header = c.args.header.now in
    let meter = c.args.meter.now in
    let n : ℕ = pixels_of c.in_ok-target.target.image.plan 0 in
    let reached : OnOk c.work.result (c.work.new.meter.peak ≡ max c.find_target.new.meter.peak (meter.live + sum (work_buffers 0 false (Some n) 1))) = rw c.in_ok-target.ensures.stays.1 at c.work.ensures.exact_peak in
    on_ok c.work.result
    (λ (high : c.work.new.meter.peak ≡ max c.find_target.new.meter.peak (meter.live + sum (work_buffers 0 false (Some n) 1))). if_both (g.D.Source.held c.args.store.now) (g.S.Source.held c.args.patch.now) _
    (λ f p is by wanted w live.
    let job = job_at wanted corner in
    let own = first_refusal (own_checks f header job) in
    let low : c.find_target.new.meter.peak ≡ max meter.peak (highest (given_taking meter.live p own)) =
    some_of (g.S.Source.held c.args.patch.now) (λ q. c.find_target.new.meter.peak ≡ max meter.peak (highest (given_taking meter.live q own))) p by (c.in_ok-target.ensures.exact_peak f wanted (has_of c.hdu_at_law.ensures.walk c.found_hdus_law.ensures.last (g.D.Source.held c.args.store.now) c.args.patching.now.asked.length c.args.header.now c.args.buf.now (g.met.D.Source.agrees c.args.store.now c.args.patching.now.asked.length c.requires.attached) c.requires.read f wanted is w)) in
    let both = work_high meter.live n f p job header c.in_ok-target.target.header (kept_is c.args.meter.now.live c.args.buf.now c.args.header.now c.requires.header live) (tile_of c.in_ok-target.target c.args.header.now f c.in_ok-target.ensures.target.0 c.in_ok-target.ensures.target.1 (c.in_ok-target.ensures.said f (has_of c.hdu_at_law.ensures.walk c.found_hdus_law.ensures.last (g.D.Source.held c.args.store.now) c.args.patching.now.asked.length c.args.header.now c.args.buf.now (g.met.D.Source.agrees c.args.store.now c.args.patching.now.asked.length c.requires.attached) c.requires.read f wanted is w))) (some_of (g.S.Source.held c.args.patch.now) (λ q. if_patchable f q (job_at wanted c.args.patching.now.asked.corner.now) (Ok c.args.header.now) ≡ Ok c.in_ok-target.target.header) p by (c.in_ok-target.ensures.exact f wanted (has_of c.hdu_at_law.ensures.walk c.found_hdus_law.ensures.last (g.D.Source.held c.args.store.now) c.args.patching.now.asked.length c.args.header.now c.args.buf.now (g.met.D.Source.agrees c.args.store.now c.args.patching.now.asked.length c.requires.attached) c.requires.read f wanted is w))) in
    let most = work_low meter.live n f p job header c.in_ok-target.target.header (kept_is c.args.meter.now.live c.args.buf.now c.args.header.now c.requires.header live) (tile_of c.in_ok-target.target c.args.header.now f c.in_ok-target.ensures.target.0 c.in_ok-target.ensures.target.1 (c.in_ok-target.ensures.said f (has_of c.hdu_at_law.ensures.walk c.found_hdus_law.ensures.last (g.D.Source.held c.args.store.now) c.args.patching.now.asked.length c.args.header.now c.args.buf.now (g.met.D.Source.agrees c.args.store.now c.args.patching.now.asked.length c.requires.attached) c.requires.read f wanted is w))) (some_of (g.S.Source.held c.args.patch.now) (λ q. if_patchable f q (job_at wanted c.args.patching.now.asked.corner.now) (Ok c.args.header.now) ≡ Ok c.in_ok-target.target.header) p by (c.in_ok-target.ensures.exact f wanted (has_of c.hdu_at_law.ensures.walk c.found_hdus_law.ensures.last (g.D.Source.held c.args.store.now) c.args.patching.now.asked.length c.args.header.now c.args.buf.now (g.met.D.Source.agrees c.args.store.now c.args.patching.now.asked.length c.requires.attached) c.requires.read f wanted is w))) in
    omega (arith, high, low, both.0, both.1, most)))
    reached

pub returns-clause-most : goal.returns-clause-most
returns-clause-most g c = λ low.
    let meter = c.args.meter.now in
    let t : Target = c.in_ok-target.target in
    let tells : TellsFirstPast meter.limit (piled meter.live (work_buffers 0 false (Some (pixels_of t.image.plan 0)) 1)) c.work.result = rw (c.in_ok-target.ensures.stays.1, c.in_ok-target.ensures.stays.2) at c.work.ensures.first_past in
    let works : WorksInPlace _ _ _ _ meter.limit c.work.result = rw c.in_ok-target.ensures.stays.2 at c.work.ensures.cause in
    work_limit {X = Unit {0}} c.workspace_law.ensures.bound c.workspace_law.ensures.grows c.workspace_law.ensures.past _ _ _ _ meter.limit meter.live (pixels_of t.image.plan 0) c.work.result (few_pixels t.image.plan c.in_ok-target.ensures.target.0.readable.divided) low works tells

pub returns-clause-peak_most : goal.returns-clause-peak_most
returns-clause-peak_most g c = λ low.
    let meter = c.args.meter.now in
    let t : Target = c.in_ok-target.target in
    let bound = bound_work c.workspace_law.ensures.bound c.workspace_law.ensures.grows (pixels_of t.image.plan 0) meter.live (few_pixels t.image.plan c.in_ok-target.ensures.target.0.readable.divided) low in
    omega (arith, low, bound, bound_headers, c.in_ok-target.ensures.stays.1, c.in_ok-target.ensures.peak_most, c.work.ensures.peak)

pub returns-clause-cause : goal.returns-clause-cause
returns-clause-cause g c =
    let s : Tally = g.D.Source.tally c.args.store.now in
    let s' : Tally = g.D.Source.tally c.work.new.store in
    let p' : Tally = g.S.Source.tally c.work.new.patch in
    let same : g.S.Source.tally c.find_target.new.patch ≡ g.S.Source.tally c.args.patch.now = c.in_ok-target.ensures.cause.ok in
    subst (λ (p : Tally). WorksInPlace s s' p p' c.args.meter.now.limit c.work.result) same
    (subst (λ (n : ℕ). WorksInPlace s s' (g.S.Source.tally c.find_target.new.patch) p' n c.work.result) c.in_ok-target.ensures.stays.2 c.work.ensures.cause)

-- ---- what is kept of FILE

pub returns-in_err-target-clause-kept : goal.returns-in_err-target-clause-kept
returns-in_err-target-clause-kept g c = if_some (g.D.Source.held c.args.store.now) _ (λ f is wanted w. inl (is, refl))

pub returns-clause-kept : goal.returns-clause-kept
returns-clause-kept g c =
    let held : Option (List ℕ) = g.D.Source.held c.args.store.now in
    let log : Option (List Amend) = (g.D.Source.tally c.args.store.now).amended.writes in
    let log' : Option (List Amend) = (g.D.Source.tally c.work.new.store).amended.writes in
    let t : Target = c.in_ok-target.target in
    let done = c.in_ok-target.ensures in
    if_some held _
    (λ f is wanted w.
    let has = (has_of c.hdu_at_law.ensures.walk c.found_hdus_law.ensures.last (g.D.Source.held c.args.store.now) c.args.patching.now.asked.length c.args.header.now c.args.buf.now
    (g.met.D.Source.agrees c.args.store.now c.args.patching.now.asked.length c.requires.attached) c.requires.read f wanted is w) in
    only_changed t c.args.header.now c.args.buf.now c.args.patching.now.asked.corner.now f wanted (g.S.Source.attached c.args.patch.now) (g.S.Source.held c.args.patch.now) (g.D.Source.held c.work.new.store) log log'
    w (done.passes f wanted has) done.target.1 done.target.0 (done.said f has) has.header_is done.box_at done.given.0
    (some_of held (λ x. KeepsBytes (KeptBy t c.args.buf.now) x (g.D.Source.held c.work.new.store) log log') f is c.work.ensures.kept))

-- ---- what is read of PATCH

pub returns-in_err-target-clause-given_within : goal.returns-in_err-target-clause-given_within
returns-in_err-target-clause-given_within g c =
    header_read c.ranges_law.ensures.within (g.S.Source.held c.args.patch.now) (g.S.Source.ranges c.args.patch.now) (g.S.Source.ranges c.find_target.new.patch) c.in_err-target.ensures.read

pub returns-in_err-target-clause-given_alone : goal.returns-in_err-target-clause-given_alone
returns-in_err-target-clause-given_alone g c =
    if_some (g.D.Source.held c.args.store.now) _
    (λ f is wanted x w e.
    c.in_err-target.ensures.alone f wanted x (has_of c.hdu_at_law.ensures.walk c.found_hdus_law.ensures.last (g.D.Source.held c.args.store.now) c.args.patching.now.asked.length c.args.header.now c.args.buf.now
    (g.met.D.Source.agrees c.args.store.now c.args.patching.now.asked.length c.requires.attached) c.requires.read f wanted is w)
    (alone_stops f wanted c.args.patching.now.asked.corner.now c.args.header.now x w e))

pub returns-in_err-target-clause-given_refused : goal.returns-in_err-target-clause-given_refused
returns-in_err-target-clause-given_refused g c =
    let given : Option (List ℕ) = g.S.Source.held c.args.patch.now in
    let before : Option (List (ℕ × ℕ)) = g.S.Source.ranges c.args.patch.now in
    let now : Option (List (ℕ × ℕ)) = g.S.Source.ranges c.find_target.new.patch in
    if_both (g.D.Source.held c.args.store.now) given _
    (λ f p is by wanted x w e. some_of given (λ q. LogsIn (given_header_range q ∷ []) before now) p by (header_only c.ranges_law.ensures.within given before now c.in_err-target.ensures.read))

pub returns-clause-given_within : goal.returns-clause-given_within
returns-clause-given_within g c =
    pixels_too c.ranges_law.ensures.within c.ranges_law.ensures.join c.in_ok-target.target (g.S.Source.held c.args.patch.now) (g.S.Source.ranges c.args.patch.now) (g.S.Source.ranges c.find_target.new.patch) (g.S.Source.ranges c.work.new.patch)
    c.in_ok-target.ensures.begins c.in_ok-target.ensures.read c.work.ensures.pixels_read

pub returns-clause-given_alone : goal.returns-clause-given_alone
returns-clause-given_alone g c =
    let corner : List ℕ = c.args.patching.now.asked.corner.now in
    if_some (g.D.Source.held c.args.store.now) _
    (λ f is wanted x w e.
    let has = (has_of c.hdu_at_law.ensures.walk c.found_hdus_law.ensures.last (g.D.Source.held c.args.store.now) c.args.patching.now.asked.length c.args.header.now c.args.buf.now
    (g.met.D.Source.agrees c.args.store.now c.args.patching.now.asked.length c.requires.attached) c.requires.read f wanted is w) in
    absurd (not_both (found_alone f (job_at wanted corner)) c.args.header.now x (alone_found f wanted corner c.args.header.now w (c.in_ok-target.ensures.passes f wanted has)) e))

pub returns-clause-given_refused : goal.returns-clause-given_refused
returns-clause-given_refused g c =
    let corner : List ℕ = c.args.patching.now.asked.corner.now in
    let given : Option (List ℕ) = g.S.Source.held c.args.patch.now in
    if_both (g.D.Source.held c.args.store.now) given _
    (λ f p is by wanted x w e.
    let has = (has_of c.hdu_at_law.ensures.walk c.found_hdus_law.ensures.last (g.D.Source.held c.args.store.now) c.args.patching.now.asked.length c.args.header.now c.args.buf.now
    (g.met.D.Source.agrees c.args.store.now c.args.patching.now.asked.length c.requires.attached) c.requires.read f wanted is w) in
    let found : if_patchable f p (job_at wanted corner) (Ok c.args.header.now) ≡ Ok c.in_ok-target.target.header =
    some_of given (λ q. if_patchable f q (job_at wanted corner) (Ok c.args.header.now) ≡ Ok c.in_ok-target.target.header) p by (c.in_ok-target.ensures.exact f wanted has) in
    absurd (not_both (patch_target f p (job_at wanted corner)) c.in_ok-target.target.header x (target_is c.args.header.now f p corner wanted w ∙ found) e))
