-- The looks at the headers stop, or the header that is wanted is kept, and then the work says the rest.
use Rattle.std.proofs.Common.{◌≡◌, ℕ, ◌+◌, ◌-◌, ◌≤◌, max, List, [], ◌∷◌, length, Option, Some, None, Result, Ok, Err, refl, sym, ap, ◌∙◌, subst, arith, rules}
use Rattle.std.specs.Prelude.{IfSome, OnOk}
use Rattle.fz_base.specs.Buffer.{refilled}
use Rattle.fz_base.specs.Counts.{Amend, Tally}
use Rattle.fz_base.specs.Meter.{Gauge, taken}
use Rattle.fz_base.specs.Ranges.{LogsIn}
use Rattle.fz_base.specs.Refusal.{first_refusal}
use Rattle.fz_base.specs.Stop.{IsDefined, ReadsAndTakes, StoppedTaking, TellsLimit}
use Rattle.fz_base.specs.Takings.{TellsFirstPast, first_past, highest}
use Rattle.fz_base.specs.declared.failure.Stop.{Stop}
use Rattle.fz_base.specs.declared.fault.Fault.{Fault}
use Rattle.fz_block.specs.Checks.{header_blocks_of}
use Rattle.fz_block.specs.Takings.{header_taking}
use Rattle.fz_block.specs.declared.header.Header.{Header}
use Rattle.fz_block.specs.declared.next.ReadHeader.{ReadHeader}
use Rattle.fz_files.specs.Restored.{header_in}
use Rattle.fz_job.specs.Surveys.{amend_surveyed, survey_takings}
use Rattle.fz_job.specs.declared.checks.JobChecks.TheVariants.{Amend as AmendLook, Every}
use Rattle.fz_job.specs.declared.survey.Survey.{Survey}
use Rattle.fz_laws.specs.PatchBuffers.{given_takings}
use Rattle.fz_laws.specs.PatchChecks.{own_checks, patch_target}
use Rattle.fz_patch.specs.Clauses.{IsPatchedBy, LeavesSafe, TellsPatchFault, greatest_patch_bound, later_takings}
use Rattle.fz_target.specs.Ends.{WorksInPlace}
use Rattle.fz_patch.specs.Jobs.{IsWanted}
use Rattle.fz_patch.specs.Kept.{LeavesRest}
use Rattle.fz_target.specs.Reads.{found_alone, given_header_range}
use Rattle.fz_target.specs.Steps.{KeepsReach}
use Rattle.fz_target.specs.Targets.{job_at}
use Rattle.fz_target.specs.Told.{IfBoth}
use Rattle.fz_patch.proofs.EndsJoined.{refused_weaker}
use Rattle.fz_patch.proofs.FrameBlock.{HasFound, HasLooked, SaysSame, again_high, again_past, again_told, all_high, all_past, all_reached, amend_high, amend_past, amend_told, both_weaker, either_way, every_high, every_past, every_told, found, in_work, looked, names_same, names_wanted, of_wanted, ok_weaker, over_weaker, reach_same, read_is, still_amended, store_works, told_both, untouched, untouched_safe, wanted_of, same_past}
use Rattle.fz_patch.proofs.FrameBlock.{past_later, unpassed_here}
use Rattle.fz_patch.proofs.FrameHeader.{bound_headers, stop_limit}
use Rattle.fz_patch.proofs.FramePatch.{refilled_len}
use Rattle.fz_patch.proofs.KeptFound.{none_read, of_job, reads_wanted, rest_untouched}
use Rattle.fz_patch.proofs.patch_file.with_block.Goals as goal

-- ---- the first look stopped

pub returns-in_err-survey_every-clause-safe : goal.returns-in_err-survey_every-clause-safe
returns-in_err-survey_every-clause-safe g c =
    let held : g.D.Source.held c.survey_every.new.source ≡ g.D.Source.held c.args.store.now = search rules in
    let amended : (g.D.Source.tally c.survey_every.new.source).amended ≡ (g.D.Source.tally c.args.store.now).amended = still_amended (g.D.Source.tally c.args.store.now) (g.D.Source.tally c.args.store.now) (g.D.Source.tally c.survey_every.new.source) refl c.in_err-survey_every.ensures.cause.kept in
    untouched_safe (job_at c.args.hdu c.args.patching.now.asked.corner.now) (g.D.Source.held c.args.store.now) (g.S.Source.held c.args.patch.now) _ _ _ held (ap (λ a. a.writes) amended)

pub returns-in_err-survey_every-clause-unwritten : goal.returns-in_err-survey_every-clause-unwritten
returns-in_err-survey_every-clause-unwritten g c =
    let held : g.D.Source.held c.survey_every.new.source ≡ g.D.Source.held c.args.store.now = search rules in
    let amended : (g.D.Source.tally c.survey_every.new.source).amended ≡ (g.D.Source.tally c.args.store.now).amended = still_amended (g.D.Source.tally c.args.store.now) (g.D.Source.tally c.args.store.now) (g.D.Source.tally c.survey_every.new.source) refl c.in_err-survey_every.ensures.cause.kept in
    untouched (g.D.Source.held c.args.store.now) (g.S.Source.held c.args.patch.now) _ _ c.from_residual.result (held, amended)

pub returns-in_err-survey_every-clause-named : goal.returns-in_err-survey_every-clause-named
returns-in_err-survey_every-clause-named g c =
    let held : g.D.Source.held c.survey_every.new.source ≡ g.D.Source.held c.args.store.now = search rules in
    let amended : (g.D.Source.tally c.survey_every.new.source).amended ≡ (g.D.Source.tally c.args.store.now).amended = still_amended (g.D.Source.tally c.args.store.now) (g.D.Source.tally c.args.store.now) (g.D.Source.tally c.survey_every.new.source) refl c.in_err-survey_every.ensures.cause.kept in
    names_same c.args.hdu (g.D.Source.held c.args.store.now) c.from_residual.result (held, amended)

pub returns-in_err-survey_every-clause-reach : goal.returns-in_err-survey_every-clause-reach
returns-in_err-survey_every-clause-reach g c =
    let same : g.D.Source.attached c.survey_every.new.source ≡ g.D.Source.attached c.args.store.now = search rules in
    reach_same _ _ same

pub returns-in_err-survey_every-clause-first_fault : goal.returns-in_err-survey_every-clause-first_fault
returns-in_err-survey_every-clause-first_fault g c =
    let stopped : c.from_residual.result ≡ Err c.in_err-survey_every.field-0.0 = search rules in
    subst (λ (r : Result (Unit {0}) Stop). TellsPatchFault (job_at c.args.hdu c.args.patching.now.asked.corner.now) (g.D.Source.held c.args.store.now) (g.S.Source.held c.args.patch.now) r) (sym stopped) (every_told (Unit {0}) c.survey_law.ensures.every (job_at c.args.hdu c.args.patching.now.asked.corner.now) (g.D.Source.held c.args.store.now) (g.S.Source.held c.args.patch.now) c.in_err-survey_every.field-0.0 c.in_err-survey_every.ensures.exact)

pub returns-in_err-survey_every-clause-first_past : goal.returns-in_err-survey_every-clause-first_past
returns-in_err-survey_every-clause-first_past g c =
    let stopped : c.from_residual.result ≡ Err c.in_err-survey_every.field-0.0 = search rules in
    let meter = c.args.meter.now in
    subst (λ (r : Result (Unit {0}) Stop). IfBoth (g.D.Source.held c.args.store.now) (g.S.Source.held c.args.patch.now) (λ f p. TellsFirstPast meter.limit (later_takings f p (job_at c.args.hdu c.args.patching.now.asked.corner.now)) r)) (sym stopped)
    (every_past (Unit {0}) c.takings_law.ensures.first c.takings_law.ensures.second c.survey_law.ensures.every _ _ meter.limit meter.live (job_at c.args.hdu c.args.patching.now.asked.corner.now) (g.D.Source.held c.args.store.now) (g.S.Source.held c.args.patch.now) c.in_err-survey_every.field-0.0 c.requires.one_block c.in_err-survey_every.ensures.cause.stop c.in_err-survey_every.ensures.exact c.in_err-survey_every.ensures.first_past)

pub returns-in_err-survey_every-clause-peak : goal.returns-in_err-survey_every-clause-peak
returns-in_err-survey_every-clause-peak g c =
    let meter = c.args.meter.now in
    every_high c.survey_law.ensures.every meter.live meter.peak c.survey_every.new.meter.peak (job_at c.args.hdu c.args.patching.now.asked.corner.now) (g.D.Source.held c.args.store.now) (g.S.Source.held c.args.patch.now) c.requires.one_block c.in_err-survey_every.ensures.peak

pub returns-in_err-survey_every-clause-most : goal.returns-in_err-survey_every-clause-most
returns-in_err-survey_every-clause-most g c =
    let stopped : c.from_residual.result ≡ Err c.in_err-survey_every.field-0.0 = search rules in
    let meter = c.args.meter.now in
    subst (λ (r : Result (Unit {0}) Stop). TellsLimit meter.limit greatest_patch_bound r) (sym stopped)
    (stop_limit (Unit {0}) Survey meter.limit (meter.live + 737280) greatest_patch_bound c.in_err-survey_every.field-0.0 (omega (arith, c.requires.one_block, bound_headers)) c.in_err-survey_every.ensures.most)

pub returns-in_err-survey_every-clause-peak_most : goal.returns-in_err-survey_every-clause-peak_most
returns-in_err-survey_every-clause-peak_most g c =
    omega (arith, c.requires.one_block, bound_headers, c.in_err-survey_every.ensures.peak_most)

pub returns-in_err-survey_every-clause-cause : goal.returns-in_err-survey_every-clause-cause
returns-in_err-survey_every-clause-cause g c =
    let stopped : c.from_residual.result ≡ Err c.in_err-survey_every.field-0.0 = search rules in
    let meter = c.args.meter.now in
    let s : Tally = g.D.Source.tally c.args.store.now in
    let s' : Tally = g.D.Source.tally c.survey_every.new.source in
    let p : Tally = g.S.Source.tally c.args.patch.now in
    subst (λ (r : Result (Unit {0}) Stop). WorksInPlace s s' p p meter.limit r) (sym stopped) (store_works {X = Unit {0}} {Y = Survey} s s' p meter.limit c.in_err-survey_every.field-0.0 c.in_err-survey_every.ensures.cause)

-- ---- the second look stopped

pub returns-in_err-found-clause-safe : goal.returns-in_err-found-clause-safe
returns-in_err-found-clause-safe g c =
    let held : g.D.Source.held c.survey_to_amend.new.source ≡ g.D.Source.held c.args.store.now = search rules in
    let amended : (g.D.Source.tally c.survey_to_amend.new.source).amended ≡ (g.D.Source.tally c.args.store.now).amended = still_amended (g.D.Source.tally c.args.store.now) (g.D.Source.tally c.survey_every.new.source) (g.D.Source.tally c.survey_to_amend.new.source) c.in_ok-survey_every.ensures.cause.ok c.in_err-found.ensures.cause.kept in
    untouched_safe (job_at c.args.hdu c.args.patching.now.asked.corner.now) (g.D.Source.held c.args.store.now) (g.S.Source.held c.args.patch.now) _ _ _ held (ap (λ a. a.writes) amended)

pub returns-in_err-found-clause-unwritten : goal.returns-in_err-found-clause-unwritten
returns-in_err-found-clause-unwritten g c =
    let held : g.D.Source.held c.survey_to_amend.new.source ≡ g.D.Source.held c.args.store.now = search rules in
    let amended : (g.D.Source.tally c.survey_to_amend.new.source).amended ≡ (g.D.Source.tally c.args.store.now).amended = still_amended (g.D.Source.tally c.args.store.now) (g.D.Source.tally c.survey_every.new.source) (g.D.Source.tally c.survey_to_amend.new.source) c.in_ok-survey_every.ensures.cause.ok c.in_err-found.ensures.cause.kept in
    untouched (g.D.Source.held c.args.store.now) (g.S.Source.held c.args.patch.now) _ _ c.from_residual-in_err-found.result (held, amended)

pub returns-in_err-found-clause-named : goal.returns-in_err-found-clause-named
returns-in_err-found-clause-named g c =
    let held : g.D.Source.held c.survey_to_amend.new.source ≡ g.D.Source.held c.args.store.now = search rules in
    let amended : (g.D.Source.tally c.survey_to_amend.new.source).amended ≡ (g.D.Source.tally c.args.store.now).amended = still_amended (g.D.Source.tally c.args.store.now) (g.D.Source.tally c.survey_every.new.source) (g.D.Source.tally c.survey_to_amend.new.source) c.in_ok-survey_every.ensures.cause.ok c.in_err-found.ensures.cause.kept in
    names_same c.args.hdu (g.D.Source.held c.args.store.now) c.from_residual-in_err-found.result (held, amended)

pub returns-in_err-found-clause-reach : goal.returns-in_err-found-clause-reach
returns-in_err-found-clause-reach g c =
    let same : g.D.Source.attached c.survey_to_amend.new.source ≡ g.D.Source.attached c.args.store.now = search rules in
    reach_same _ _ same

pub returns-in_err-found-clause-first_fault : goal.returns-in_err-found-clause-first_fault
returns-in_err-found-clause-first_fault g c =
    let stopped : c.from_residual-in_err-found.result ≡ Err c.in_err-found.field-0.0 = search rules in
    let live1 : c.survey_every.new.meter.live ≡ c.args.meter.now.live = c.in_ok-survey_every.ensures.stays.1 in
    let limit1 : c.survey_every.new.meter.limit ≡ c.args.meter.now.limit = c.in_ok-survey_every.ensures.stays.2 in
    let look : IfSome (g.D.Source.held c.args.store.now) (HasLooked c.args.meter.now.live c.args.meter.now.limit) = looked c.survey_law.ensures.every c.args.meter.now.live c.args.meter.now.limit (g.D.Source.held c.args.store.now) _ c.requires.one_block c.in_ok-survey_every.ensures.exact c.in_ok-survey_every.ensures.first_past in
    let held1 : g.D.Source.held c.survey_every.new.source ≡ g.D.Source.held c.args.store.now = search rules in
    let exact : IfSome (g.D.Source.held c.args.store.now) (λ f. IsDefined {X = Header} (amend_surveyed c.args.hdu f) (Err c.in_err-found.field-0.0)) = rw held1 at c.in_err-found.ensures.exact in
    subst (λ (r : Result (Unit {0}) Stop). TellsPatchFault (job_at c.args.hdu c.args.patching.now.asked.corner.now) (g.D.Source.held c.args.store.now) (g.S.Source.held c.args.patch.now) r) (sym stopped)
    (amend_told c.hdu_at_law.ensures.walk c.found_hdus_law.ensures.last c.survey_law.ensures.amend (Unit {0}) c.args.meter.now.live c.args.meter.now.limit (job_at c.args.hdu c.args.patching.now.asked.corner.now) (g.D.Source.held c.args.store.now) (g.S.Source.held c.args.patch.now) c.in_err-found.field-0.0 look exact)

pub returns-in_err-found-clause-first_past : goal.returns-in_err-found-clause-first_past
returns-in_err-found-clause-first_past g c =
    let stopped : c.from_residual-in_err-found.result ≡ Err c.in_err-found.field-0.0 = search rules in
    let meter = c.args.meter.now in
    let live1 : c.survey_every.new.meter.live ≡ c.args.meter.now.live = c.in_ok-survey_every.ensures.stays.1 in
    let limit1 : c.survey_every.new.meter.limit ≡ c.args.meter.now.limit = c.in_ok-survey_every.ensures.stays.2 in
    let look : IfSome (g.D.Source.held c.args.store.now) (HasLooked c.args.meter.now.live c.args.meter.now.limit) = looked c.survey_law.ensures.every c.args.meter.now.live c.args.meter.now.limit (g.D.Source.held c.args.store.now) _ c.requires.one_block c.in_ok-survey_every.ensures.exact c.in_ok-survey_every.ensures.first_past in
    let held1 : g.D.Source.held c.survey_every.new.source ≡ g.D.Source.held c.args.store.now = search rules in
    let exact : IfSome (g.D.Source.held c.args.store.now) (λ f. IsDefined {X = Header} (amend_surveyed c.args.hdu f) (Err c.in_err-found.field-0.0)) = rw held1 at c.in_err-found.ensures.exact in
    let tells : IfSome (g.D.Source.held c.args.store.now) (λ f. TellsFirstPast {X = Header} meter.limit (survey_takings (AmendLook c.args.hdu) meter.live f) (Err c.in_err-found.field-0.0)) =
    subst (λ (n : ℕ). IfSome (g.D.Source.held c.args.store.now) (λ f. TellsFirstPast {X = Header} n (survey_takings (AmendLook c.args.hdu) meter.live f) (Err c.in_err-found.field-0.0))) limit1
    (subst (λ (n : ℕ). IfSome (g.D.Source.held c.args.store.now) (λ f. TellsFirstPast {X = Header} c.survey_every.new.meter.limit (survey_takings (AmendLook c.args.hdu) n f) (Err c.in_err-found.field-0.0))) live1
    (subst (λ (h : Option (List ℕ)). IfSome h (λ f. TellsFirstPast {X = Header} c.survey_every.new.meter.limit (survey_takings (AmendLook c.args.hdu) c.survey_every.new.meter.live f) (Err c.in_err-found.field-0.0))) held1 c.in_err-found.ensures.first_past)) in
    let why : StoppedTaking (g.D.Source.tally c.survey_every.new.source) (g.D.Source.tally c.survey_to_amend.new.source) meter.limit c.in_err-found.field-0.0 = rw limit1 at c.in_err-found.ensures.cause.stop in
    subst (λ (r : Result (Unit {0}) Stop). IfBoth (g.D.Source.held c.args.store.now) (g.S.Source.held c.args.patch.now) (λ f p. TellsFirstPast meter.limit (later_takings f p (job_at c.args.hdu c.args.patching.now.asked.corner.now)) r)) (sym stopped)
    (amend_past c.hdu_at_law.ensures.walk c.found_hdus_law.ensures.last c.survey_law.ensures.amend (Unit {0}) c.takings_law.ensures.first c.takings_law.ensures.second _ _ meter.limit meter.live (job_at c.args.hdu c.args.patching.now.asked.corner.now) (g.D.Source.held c.args.store.now) (g.S.Source.held c.args.patch.now) c.in_err-found.field-0.0 c.requires.one_block why look exact tells)

pub returns-in_err-found-clause-peak : goal.returns-in_err-found-clause-peak
returns-in_err-found-clause-peak g c =
    let meter = c.args.meter.now in
    let live1 : c.survey_every.new.meter.live ≡ c.args.meter.now.live = c.in_ok-survey_every.ensures.stays.1 in
    let limit1 : c.survey_every.new.meter.limit ≡ c.args.meter.now.limit = c.in_ok-survey_every.ensures.stays.2 in
    let look : IfSome (g.D.Source.held c.args.store.now) (HasLooked c.args.meter.now.live c.args.meter.now.limit) = looked c.survey_law.ensures.every c.args.meter.now.live c.args.meter.now.limit (g.D.Source.held c.args.store.now) _ c.requires.one_block c.in_ok-survey_every.ensures.exact c.in_ok-survey_every.ensures.first_past in
    let held1 : g.D.Source.held c.survey_every.new.source ≡ g.D.Source.held c.args.store.now = search rules in
    let first : IfSome (g.D.Source.held c.args.store.now) (λ f. c.survey_every.new.meter.peak ≤ max c.args.meter.now.peak (highest (survey_takings Every c.args.meter.now.live f))) = c.in_ok-survey_every.ensures.peak in
    let next : IfSome (g.D.Source.held c.args.store.now) (λ f. c.survey_to_amend.new.meter.peak ≤ max c.survey_every.new.meter.peak (highest (survey_takings (AmendLook c.args.hdu) c.args.meter.now.live f))) = rw (held1, live1) at c.in_err-found.ensures.peak in
    amend_high c.hdu_at_law.ensures.walk c.found_hdus_law.ensures.last c.survey_law.ensures.amend c.survey_law.ensures.every meter.live meter.limit meter.peak c.survey_every.new.meter.peak c.survey_to_amend.new.meter.peak (job_at c.args.hdu c.args.patching.now.asked.corner.now) (g.D.Source.held c.args.store.now) (g.S.Source.held c.args.patch.now) c.requires.one_block look first next

pub returns-in_err-found-clause-most : goal.returns-in_err-found-clause-most
returns-in_err-found-clause-most g c =
    let stopped : c.from_residual-in_err-found.result ≡ Err c.in_err-found.field-0.0 = search rules in
    let meter = c.args.meter.now in
    let tells : TellsLimit {X = Header} meter.limit (c.survey_every.new.meter.live + 737280) (Err c.in_err-found.field-0.0) = subst (λ (n : ℕ). TellsLimit {X = Header} n (c.survey_every.new.meter.live + 737280) (Err c.in_err-found.field-0.0)) c.in_ok-survey_every.ensures.stays.2 c.in_err-found.ensures.most in
    subst (λ (r : Result (Unit {0}) Stop). TellsLimit meter.limit greatest_patch_bound r) (sym stopped)
    (stop_limit (Unit {0}) Header meter.limit (c.survey_every.new.meter.live + 737280) greatest_patch_bound c.in_err-found.field-0.0 (omega (arith, c.in_ok-survey_every.ensures.stays.1, c.requires.one_block, bound_headers)) tells)

pub returns-in_err-found-clause-peak_most : goal.returns-in_err-found-clause-peak_most
returns-in_err-found-clause-peak_most g c =
    omega (arith, c.requires.one_block, bound_headers, c.in_ok-survey_every.ensures.stays.1, c.in_ok-survey_every.ensures.peak_most, c.in_err-found.ensures.peak_most)

pub returns-in_err-found-clause-cause : goal.returns-in_err-found-clause-cause
returns-in_err-found-clause-cause g c =
    let stopped : c.from_residual-in_err-found.result ≡ Err c.in_err-found.field-0.0 = search rules in
    let meter = c.args.meter.now in
    let s : Tally = g.D.Source.tally c.args.store.now in
    let s' : Tally = g.D.Source.tally c.survey_to_amend.new.source in
    let p : Tally = g.S.Source.tally c.args.patch.now in
    let part : ReadsAndTakes {X = Header} s s' meter.limit (Err c.in_err-found.field-0.0) =
    subst (λ (t : Tally). ReadsAndTakes {X = Header} t s' meter.limit (Err c.in_err-found.field-0.0)) c.in_ok-survey_every.ensures.cause.ok (subst (λ (n : ℕ). ReadsAndTakes {X = Header} (g.D.Source.tally c.survey_every.new.source) s' n (Err c.in_err-found.field-0.0)) c.in_ok-survey_every.ensures.stays.2 c.in_err-found.ensures.cause) in
    subst (λ (r : Result (Unit {0}) Stop). WorksInPlace s s' p p meter.limit r) (sym stopped) (store_works {X = Unit {0}} {Y = Header} s s' p meter.limit c.in_err-found.field-0.0 part)

-- ---- the header was not read again

pub returns-in_err-kept-clause-safe : goal.returns-in_err-kept-clause-safe
returns-in_err-kept-clause-safe g c =
    let held : g.D.Source.held c.read_again.new.store ≡ g.D.Source.held c.args.store.now = search rules in
    let amended : (g.D.Source.tally c.read_again.new.store).amended ≡ (g.D.Source.tally c.args.store.now).amended = still_amended (g.D.Source.tally c.args.store.now) (g.D.Source.tally c.survey_to_amend.new.source) (g.D.Source.tally c.read_again.new.store) (c.in_ok-found.ensures.cause.ok ∙ c.in_ok-survey_every.ensures.cause.ok) c.in_err-kept.ensures.cause.kept in
    untouched_safe (job_at c.args.hdu c.args.patching.now.asked.corner.now) (g.D.Source.held c.args.store.now) (g.S.Source.held c.args.patch.now) _ _ _ held (ap (λ a. a.writes) amended)

pub returns-in_err-kept-clause-unwritten : goal.returns-in_err-kept-clause-unwritten
returns-in_err-kept-clause-unwritten g c =
    let held : g.D.Source.held c.read_again.new.store ≡ g.D.Source.held c.args.store.now = search rules in
    let amended : (g.D.Source.tally c.read_again.new.store).amended ≡ (g.D.Source.tally c.args.store.now).amended = still_amended (g.D.Source.tally c.args.store.now) (g.D.Source.tally c.survey_to_amend.new.source) (g.D.Source.tally c.read_again.new.store) (c.in_ok-found.ensures.cause.ok ∙ c.in_ok-survey_every.ensures.cause.ok) c.in_err-kept.ensures.cause.kept in
    untouched (g.D.Source.held c.args.store.now) (g.S.Source.held c.args.patch.now) _ _ c.from_residual-in_err-kept.result (held, amended)

pub returns-in_err-kept-clause-named : goal.returns-in_err-kept-clause-named
returns-in_err-kept-clause-named g c =
    let held : g.D.Source.held c.read_again.new.store ≡ g.D.Source.held c.args.store.now = search rules in
    let amended : (g.D.Source.tally c.read_again.new.store).amended ≡ (g.D.Source.tally c.args.store.now).amended = still_amended (g.D.Source.tally c.args.store.now) (g.D.Source.tally c.survey_to_amend.new.source) (g.D.Source.tally c.read_again.new.store) (c.in_ok-found.ensures.cause.ok ∙ c.in_ok-survey_every.ensures.cause.ok) c.in_err-kept.ensures.cause.kept in
    names_same c.args.hdu (g.D.Source.held c.args.store.now) c.from_residual-in_err-kept.result (held, amended)

pub returns-in_err-kept-clause-reach : goal.returns-in_err-kept-clause-reach
returns-in_err-kept-clause-reach g c =
    let same : g.D.Source.attached c.read_again.new.store ≡ g.D.Source.attached c.args.store.now = search rules in
    reach_same _ _ same

pub returns-in_err-kept-clause-first_fault : goal.returns-in_err-kept-clause-first_fault
returns-in_err-kept-clause-first_fault g c =
    let stopped : c.from_residual-in_err-kept.result ≡ Err c.in_err-kept.field-0.0 = search rules in
    let live1 : c.survey_every.new.meter.live ≡ c.args.meter.now.live = c.in_ok-survey_every.ensures.stays.1 in
    let limit1 : c.survey_every.new.meter.limit ≡ c.args.meter.now.limit = c.in_ok-survey_every.ensures.stays.2 in
    let look : IfSome (g.D.Source.held c.args.store.now) (HasLooked c.args.meter.now.live c.args.meter.now.limit) = looked c.survey_law.ensures.every c.args.meter.now.live c.args.meter.now.limit (g.D.Source.held c.args.store.now) _ c.requires.one_block c.in_ok-survey_every.ensures.exact c.in_ok-survey_every.ensures.first_past in
    let held1 : g.D.Source.held c.survey_every.new.source ≡ g.D.Source.held c.args.store.now = search rules in
    let live2 : c.survey_to_amend.new.meter.live ≡ c.args.meter.now.live = c.in_ok-found.ensures.stays.1 ∙ live1 in
    let limit2 : c.survey_to_amend.new.meter.limit ≡ c.args.meter.now.limit = c.in_ok-found.ensures.stays.2 ∙ limit1 in
    let exact2 : IfSome (g.D.Source.held c.args.store.now) (λ f. amend_surveyed c.args.hdu f ≡ Ok c.in_ok-found.found) = rw held1 at c.in_ok-found.ensures.exact in
    let none2 : IfSome (g.D.Source.held c.args.store.now) (λ f. first_past c.args.meter.now.limit (survey_takings (AmendLook c.args.hdu) c.args.meter.now.live f) ≡ None) = same_past c.args.hdu c.args.meter.now.limit c.survey_every.new.meter.limit c.args.meter.now.live c.survey_every.new.meter.live (g.D.Source.held c.args.store.now) (g.D.Source.held c.survey_every.new.source) held1 limit1 live1 c.in_ok-found.ensures.first_past in
    let known : IfSome (g.D.Source.held c.args.store.now) (HasFound c.args.meter.now.live c.args.meter.now.limit c.args.hdu c.in_ok-found.found) = found c.hdu_at_law.ensures.walk c.found_hdus_law.ensures.last c.survey_law.ensures.amend c.args.meter.now.live c.args.meter.now.limit c.args.hdu c.in_ok-found.found (g.D.Source.held c.args.store.now) c.requires.one_block look exact2 none2 in
    let held2 : g.D.Source.held c.survey_to_amend.new.source ≡ g.D.Source.held c.args.store.now = search rules in
    let same : IfSome (g.D.Source.held c.args.store.now) (SaysSame c.in_ok-found.found (Err c.in_err-kept.field-0.0)) = rw held2 at c.in_err-kept.ensures.same in
    subst (λ (r : Result (Unit {0}) Stop). TellsPatchFault (job_at c.args.hdu c.args.patching.now.asked.corner.now) (g.D.Source.held c.args.store.now) (g.S.Source.held c.args.patch.now) r) (sym stopped)
    (again_told c.hdu_at_law.ensures.blocks c.takings_law.ensures.second c.args.meter.now.live c.args.meter.now.limit c.requires.one_block (job_at c.args.hdu c.args.patching.now.asked.corner.now) c.in_ok-found.found (Unit {0}) (g.D.Source.held c.args.store.now) (g.S.Source.held c.args.patch.now) c.in_err-kept.field-0.0 known same)

pub returns-in_err-kept-clause-first_past : goal.returns-in_err-kept-clause-first_past
returns-in_err-kept-clause-first_past g c =
    let stopped : c.from_residual-in_err-kept.result ≡ Err c.in_err-kept.field-0.0 = search rules in
    let meter = c.args.meter.now in
    let live1 : c.survey_every.new.meter.live ≡ c.args.meter.now.live = c.in_ok-survey_every.ensures.stays.1 in
    let limit1 : c.survey_every.new.meter.limit ≡ c.args.meter.now.limit = c.in_ok-survey_every.ensures.stays.2 in
    let look : IfSome (g.D.Source.held c.args.store.now) (HasLooked c.args.meter.now.live c.args.meter.now.limit) = looked c.survey_law.ensures.every c.args.meter.now.live c.args.meter.now.limit (g.D.Source.held c.args.store.now) _ c.requires.one_block c.in_ok-survey_every.ensures.exact c.in_ok-survey_every.ensures.first_past in
    let held1 : g.D.Source.held c.survey_every.new.source ≡ g.D.Source.held c.args.store.now = search rules in
    let live2 : c.survey_to_amend.new.meter.live ≡ c.args.meter.now.live = c.in_ok-found.ensures.stays.1 ∙ live1 in
    let limit2 : c.survey_to_amend.new.meter.limit ≡ c.args.meter.now.limit = c.in_ok-found.ensures.stays.2 ∙ limit1 in
    let exact2 : IfSome (g.D.Source.held c.args.store.now) (λ f. amend_surveyed c.args.hdu f ≡ Ok c.in_ok-found.found) = rw held1 at c.in_ok-found.ensures.exact in
    let none2 : IfSome (g.D.Source.held c.args.store.now) (λ f. first_past c.args.meter.now.limit (survey_takings (AmendLook c.args.hdu) c.args.meter.now.live f) ≡ None) = same_past c.args.hdu c.args.meter.now.limit c.survey_every.new.meter.limit c.args.meter.now.live c.survey_every.new.meter.live (g.D.Source.held c.args.store.now) (g.D.Source.held c.survey_every.new.source) held1 limit1 live1 c.in_ok-found.ensures.first_past in
    let known : IfSome (g.D.Source.held c.args.store.now) (HasFound c.args.meter.now.live c.args.meter.now.limit c.args.hdu c.in_ok-found.found) = found c.hdu_at_law.ensures.walk c.found_hdus_law.ensures.last c.survey_law.ensures.amend c.args.meter.now.live c.args.meter.now.limit c.args.hdu c.in_ok-found.found (g.D.Source.held c.args.store.now) c.requires.one_block look exact2 none2 in
    let held2 : g.D.Source.held c.survey_to_amend.new.source ≡ g.D.Source.held c.args.store.now = search rules in
    let same : IfSome (g.D.Source.held c.args.store.now) (SaysSame c.in_ok-found.found (Err c.in_err-kept.field-0.0)) = rw held2 at c.in_err-kept.ensures.same in
    let tells : IfSome (g.D.Source.held c.args.store.now) (λ f. TellsFirstPast {X = ReadHeader} meter.limit (header_taking meter.live (header_blocks_of c.in_ok-found.found.hdu c.in_ok-found.found.start f)) (Err c.in_err-kept.field-0.0)) =
    subst (λ (n : ℕ). IfSome (g.D.Source.held c.args.store.now) (λ f. TellsFirstPast {X = ReadHeader} n (header_taking meter.live (header_blocks_of c.in_ok-found.found.hdu c.in_ok-found.found.start f)) (Err c.in_err-kept.field-0.0))) limit2
    (subst (λ (n : ℕ). IfSome (g.D.Source.held c.args.store.now) (λ f. TellsFirstPast {X = ReadHeader} c.survey_to_amend.new.meter.limit (header_taking n (header_blocks_of c.in_ok-found.found.hdu c.in_ok-found.found.start f)) (Err c.in_err-kept.field-0.0))) live2
    (subst (λ (h : Option (List ℕ)). IfSome h (λ f. TellsFirstPast {X = ReadHeader} c.survey_to_amend.new.meter.limit (header_taking c.survey_to_amend.new.meter.live (header_blocks_of c.in_ok-found.found.hdu c.in_ok-found.found.start f)) (Err c.in_err-kept.field-0.0))) held2 c.in_err-kept.ensures.first_past)) in
    let why : StoppedTaking (g.D.Source.tally c.survey_to_amend.new.source) (g.D.Source.tally c.read_again.new.store) meter.limit c.in_err-kept.field-0.0 = rw limit2 at c.in_err-kept.ensures.cause.stop in
    subst (λ (r : Result (Unit {0}) Stop). IfBoth (g.D.Source.held c.args.store.now) (g.S.Source.held c.args.patch.now) (λ f p. TellsFirstPast meter.limit (later_takings f p (job_at c.args.hdu c.args.patching.now.asked.corner.now)) r)) (sym stopped)
    (again_past c.hdu_at_law.ensures.blocks c.takings_law.ensures.second c.args.meter.now.live c.args.meter.now.limit c.requires.one_block (job_at c.args.hdu c.args.patching.now.asked.corner.now) c.in_ok-found.found (Unit {0}) c.takings_law.ensures.first _ _ (g.D.Source.held c.args.store.now) (g.S.Source.held c.args.patch.now) c.in_err-kept.field-0.0 why known same tells)

pub returns-in_err-kept-clause-peak : goal.returns-in_err-kept-clause-peak
returns-in_err-kept-clause-peak g c =
    let live1 : c.survey_every.new.meter.live ≡ c.args.meter.now.live = c.in_ok-survey_every.ensures.stays.1 in
    let limit1 : c.survey_every.new.meter.limit ≡ c.args.meter.now.limit = c.in_ok-survey_every.ensures.stays.2 in
    let look : IfSome (g.D.Source.held c.args.store.now) (HasLooked c.args.meter.now.live c.args.meter.now.limit) = looked c.survey_law.ensures.every c.args.meter.now.live c.args.meter.now.limit (g.D.Source.held c.args.store.now) _ c.requires.one_block c.in_ok-survey_every.ensures.exact c.in_ok-survey_every.ensures.first_past in
    let held1 : g.D.Source.held c.survey_every.new.source ≡ g.D.Source.held c.args.store.now = search rules in
    let live2 : c.survey_to_amend.new.meter.live ≡ c.args.meter.now.live = c.in_ok-found.ensures.stays.1 ∙ live1 in
    let limit2 : c.survey_to_amend.new.meter.limit ≡ c.args.meter.now.limit = c.in_ok-found.ensures.stays.2 ∙ limit1 in
    let exact2 : IfSome (g.D.Source.held c.args.store.now) (λ f. amend_surveyed c.args.hdu f ≡ Ok c.in_ok-found.found) = rw held1 at c.in_ok-found.ensures.exact in
    let none2 : IfSome (g.D.Source.held c.args.store.now) (λ f. first_past c.args.meter.now.limit (survey_takings (AmendLook c.args.hdu) c.args.meter.now.live f) ≡ None) = same_past c.args.hdu c.args.meter.now.limit c.survey_every.new.meter.limit c.args.meter.now.live c.survey_every.new.meter.live (g.D.Source.held c.args.store.now) (g.D.Source.held c.survey_every.new.source) held1 limit1 live1 c.in_ok-found.ensures.first_past in
    let known : IfSome (g.D.Source.held c.args.store.now) (HasFound c.args.meter.now.live c.args.meter.now.limit c.args.hdu c.in_ok-found.found) = found c.hdu_at_law.ensures.walk c.found_hdus_law.ensures.last c.survey_law.ensures.amend c.args.meter.now.live c.args.meter.now.limit c.args.hdu c.in_ok-found.found (g.D.Source.held c.args.store.now) c.requires.one_block look exact2 none2 in
    let held2 : g.D.Source.held c.survey_to_amend.new.source ≡ g.D.Source.held c.args.store.now = search rules in
    let first : IfSome (g.D.Source.held c.args.store.now) (λ f. c.survey_every.new.meter.peak ≤ max c.args.meter.now.peak (highest (survey_takings Every c.args.meter.now.live f))) = c.in_ok-survey_every.ensures.peak in
    let next : IfSome (g.D.Source.held c.args.store.now) (λ f. c.survey_to_amend.new.meter.peak ≤ max c.survey_every.new.meter.peak (highest (survey_takings (AmendLook c.args.hdu) c.args.meter.now.live f))) = rw (held1, live1) at c.in_ok-found.ensures.peak in
    let last : IfSome (g.D.Source.held c.args.store.now) (λ f. c.read_again.new.meter.peak ≤ max c.survey_to_amend.new.meter.peak (highest (header_taking c.args.meter.now.live (header_blocks_of c.in_ok-found.found.hdu c.in_ok-found.found.start f)))) = rw (held2, live2) at c.in_err-kept.ensures.peak in
    again_high c.hdu_at_law.ensures.blocks c.takings_law.ensures.second c.args.meter.now.live c.args.meter.now.limit c.requires.one_block (job_at c.args.hdu c.args.patching.now.asked.corner.now) c.in_ok-found.found c.survey_law.ensures.every c.survey_law.ensures.amend c.args.meter.now.peak c.survey_every.new.meter.peak c.survey_to_amend.new.meter.peak c.read_again.new.meter.peak (g.D.Source.held c.args.store.now) (g.S.Source.held c.args.patch.now) known first next last

pub returns-in_err-kept-clause-most : goal.returns-in_err-kept-clause-most
returns-in_err-kept-clause-most g c =
    let stopped : c.from_residual-in_err-kept.result ≡ Err c.in_err-kept.field-0.0 = search rules in
    let meter = c.args.meter.now in
    let live : c.survey_to_amend.new.meter.live ≡ meter.live = c.in_ok-found.ensures.stays.1 ∙ c.in_ok-survey_every.ensures.stays.1 in
    let tells : TellsLimit {X = ReadHeader} meter.limit (c.survey_to_amend.new.meter.live + 737280) (Err c.in_err-kept.field-0.0) = subst (λ (n : ℕ). TellsLimit {X = ReadHeader} n (c.survey_to_amend.new.meter.live + 737280) (Err c.in_err-kept.field-0.0)) (c.in_ok-found.ensures.stays.2 ∙ c.in_ok-survey_every.ensures.stays.2) c.in_err-kept.ensures.most in
    subst (λ (r : Result (Unit {0}) Stop). TellsLimit meter.limit greatest_patch_bound r) (sym stopped)
    (stop_limit (Unit {0}) ReadHeader meter.limit (c.survey_to_amend.new.meter.live + 737280) greatest_patch_bound c.in_err-kept.field-0.0 (omega (arith, live, c.requires.one_block, bound_headers)) tells)

pub returns-in_err-kept-clause-peak_most : goal.returns-in_err-kept-clause-peak_most
returns-in_err-kept-clause-peak_most g c =
    omega (arith, c.requires.one_block, bound_headers, c.in_ok-survey_every.ensures.stays.1, c.in_ok-survey_every.ensures.peak_most, c.in_ok-found.ensures.stays.1, c.in_ok-found.ensures.peak_most, c.in_err-kept.ensures.peak_most)

pub returns-in_err-kept-clause-cause : goal.returns-in_err-kept-clause-cause
returns-in_err-kept-clause-cause g c =
    let stopped : c.from_residual-in_err-kept.result ≡ Err c.in_err-kept.field-0.0 = search rules in
    let meter = c.args.meter.now in
    let s : Tally = g.D.Source.tally c.args.store.now in
    let s' : Tally = g.D.Source.tally c.read_again.new.store in
    let p : Tally = g.S.Source.tally c.args.patch.now in
    let part : ReadsAndTakes {X = ReadHeader} s s' meter.limit (Err c.in_err-kept.field-0.0) =
    subst (λ (t : Tally). ReadsAndTakes {X = ReadHeader} t s' meter.limit (Err c.in_err-kept.field-0.0)) (c.in_ok-found.ensures.cause.ok ∙ c.in_ok-survey_every.ensures.cause.ok) (subst (λ (n : ℕ). ReadsAndTakes {X = ReadHeader} (g.D.Source.tally c.survey_to_amend.new.source) s' n (Err c.in_err-kept.field-0.0)) (c.in_ok-found.ensures.stays.2 ∙ c.in_ok-survey_every.ensures.stays.2) c.in_err-kept.ensures.cause) in
    subst (λ (r : Result (Unit {0}) Stop). WorksInPlace s s' p p meter.limit r) (sym stopped) (store_works {X = Unit {0}} {Y = ReadHeader} s s' p meter.limit c.in_err-kept.field-0.0 part)

-- ---- the rest

pub with_header-answer-requires-clause-end : goal.with_header-answer-requires-clause-end
with_header-answer-requires-clause-end g c = λ lifetimes lives.
    (c.in_ok-kept.ensures.again.within, c.in_ok-kept.ensures.again.near)

pub with_header-answer-requires-clause-read : goal.with_header-answer-requires-clause-read
with_header-answer-requires-clause-read g c = λ lifetimes lives.
    let same : g.D.Source.held c.read_again.new.store ≡ g.D.Source.held c.survey_to_amend.new.source = search rules in
    subst (λ (l : List ℕ). IfSome (g.D.Source.held c.read_again.new.store) (λ f. header_in f c.in_ok-kept.kept.facts ≡ l)) (sym c.as_mut_slice.ensures.value)
    (subst (λ (h : Option (List ℕ)). IfSome h (λ f. header_in f c.in_ok-kept.kept.facts ≡ c.in_ok-kept.kept.bytes)) (sym same) (read_is (g.D.Source.held c.survey_to_amend.new.source) c.args.patching.now.asked.length c.in_ok-found.found c.in_ok-kept.kept c.in_ok-kept.ensures.again))

pub returns-clause-patched : goal.returns-clause-patched
returns-clause-patched g c =
    let live1 : c.survey_every.new.meter.live ≡ c.args.meter.now.live = c.in_ok-survey_every.ensures.stays.1 in
    let limit1 : c.survey_every.new.meter.limit ≡ c.args.meter.now.limit = c.in_ok-survey_every.ensures.stays.2 in
    let look : IfSome (g.D.Source.held c.args.store.now) (HasLooked c.args.meter.now.live c.args.meter.now.limit) = looked c.survey_law.ensures.every c.args.meter.now.live c.args.meter.now.limit (g.D.Source.held c.args.store.now) _ c.requires.one_block c.in_ok-survey_every.ensures.exact c.in_ok-survey_every.ensures.first_past in
    let held1 : g.D.Source.held c.survey_every.new.source ≡ g.D.Source.held c.args.store.now = search rules in
    let live2 : c.survey_to_amend.new.meter.live ≡ c.args.meter.now.live = c.in_ok-found.ensures.stays.1 ∙ live1 in
    let limit2 : c.survey_to_amend.new.meter.limit ≡ c.args.meter.now.limit = c.in_ok-found.ensures.stays.2 ∙ limit1 in
    let exact2 : IfSome (g.D.Source.held c.args.store.now) (λ f. amend_surveyed c.args.hdu f ≡ Ok c.in_ok-found.found) = rw held1 at c.in_ok-found.ensures.exact in
    let none2 : IfSome (g.D.Source.held c.args.store.now) (λ f. first_past c.args.meter.now.limit (survey_takings (AmendLook c.args.hdu) c.args.meter.now.live f) ≡ None) = same_past c.args.hdu c.args.meter.now.limit c.survey_every.new.meter.limit c.args.meter.now.live c.survey_every.new.meter.live (g.D.Source.held c.args.store.now) (g.D.Source.held c.survey_every.new.source) held1 limit1 live1 c.in_ok-found.ensures.first_past in
    let known : IfSome (g.D.Source.held c.args.store.now) (HasFound c.args.meter.now.live c.args.meter.now.limit c.args.hdu c.in_ok-found.found) = found c.hdu_at_law.ensures.walk c.found_hdus_law.ensures.last c.survey_law.ensures.amend c.args.meter.now.live c.args.meter.now.limit c.args.hdu c.in_ok-found.found (g.D.Source.held c.args.store.now) c.requires.one_block look exact2 none2 in
    let held2 : g.D.Source.held c.survey_to_amend.new.source ≡ g.D.Source.held c.args.store.now = search rules in
    let same3 : IfSome (g.D.Source.held c.args.store.now) (SaysSame c.in_ok-found.found (Ok c.in_ok-kept.kept)) = rw held2 at c.in_ok-kept.ensures.same in
    let wanted : IfSome (g.D.Source.held c.args.store.now) (IsWanted c.args.hdu c.in_ok-kept.kept.facts) = wanted_of c.args.meter.now.live c.args.meter.now.limit c.args.hdu c.in_ok-found.found (g.D.Source.held c.args.store.now) c.in_ok-kept.kept known same3 in
    let held3 : g.D.Source.held c.read_again.new.store ≡ g.D.Source.held c.args.store.now = search rules in
    let tally : g.D.Source.tally c.read_again.new.store ≡ g.D.Source.tally c.args.store.now = c.in_ok-kept.ensures.cause.ok ∙ c.in_ok-found.ensures.cause.ok ∙ c.in_ok-survey_every.ensures.cause.ok in
    let writes : (g.D.Source.tally c.read_again.new.store).amended ≡ (g.D.Source.tally c.args.store.now).amended = ap (λ (t : Tally). t.amended) tally in
    let all : OnOk c.with_header-answer.result (IfBoth (g.D.Source.held c.args.store.now) (g.S.Source.held c.args.patch.now) (λ f p. (any : Option ℕ) → IsWanted any c.in_ok-kept.kept.facts f → IsPatchedBy (job_at any c.args.patching.now.asked.corner.now) (g.D.Source.held c.with_header-answer.new.store) (g.D.Source.tally c.args.store.now).amended (g.D.Source.tally c.with_header-answer.new.store).amended f p)) = rw (held3, writes) at c.with_header-answer.ensures.patched in
    ok_weaker c.with_header-answer.result (of_wanted (g.D.Source.held c.args.store.now) (g.S.Source.held c.args.patch.now) c.in_ok-kept.kept.facts c.args.hdu c.args.patching.now.asked.corner.now (λ job. IsPatchedBy job (g.D.Source.held c.with_header-answer.new.store) (g.D.Source.tally c.args.store.now).amended (g.D.Source.tally c.with_header-answer.new.store).amended) wanted) all

pub returns-clause-safe : goal.returns-clause-safe
returns-clause-safe g c =
    let live1 : c.survey_every.new.meter.live ≡ c.args.meter.now.live = c.in_ok-survey_every.ensures.stays.1 in
    let limit1 : c.survey_every.new.meter.limit ≡ c.args.meter.now.limit = c.in_ok-survey_every.ensures.stays.2 in
    let look : IfSome (g.D.Source.held c.args.store.now) (HasLooked c.args.meter.now.live c.args.meter.now.limit) = looked c.survey_law.ensures.every c.args.meter.now.live c.args.meter.now.limit (g.D.Source.held c.args.store.now) _ c.requires.one_block c.in_ok-survey_every.ensures.exact c.in_ok-survey_every.ensures.first_past in
    let held1 : g.D.Source.held c.survey_every.new.source ≡ g.D.Source.held c.args.store.now = search rules in
    let live2 : c.survey_to_amend.new.meter.live ≡ c.args.meter.now.live = c.in_ok-found.ensures.stays.1 ∙ live1 in
    let limit2 : c.survey_to_amend.new.meter.limit ≡ c.args.meter.now.limit = c.in_ok-found.ensures.stays.2 ∙ limit1 in
    let exact2 : IfSome (g.D.Source.held c.args.store.now) (λ f. amend_surveyed c.args.hdu f ≡ Ok c.in_ok-found.found) = rw held1 at c.in_ok-found.ensures.exact in
    let none2 : IfSome (g.D.Source.held c.args.store.now) (λ f. first_past c.args.meter.now.limit (survey_takings (AmendLook c.args.hdu) c.args.meter.now.live f) ≡ None) = same_past c.args.hdu c.args.meter.now.limit c.survey_every.new.meter.limit c.args.meter.now.live c.survey_every.new.meter.live (g.D.Source.held c.args.store.now) (g.D.Source.held c.survey_every.new.source) held1 limit1 live1 c.in_ok-found.ensures.first_past in
    let known : IfSome (g.D.Source.held c.args.store.now) (HasFound c.args.meter.now.live c.args.meter.now.limit c.args.hdu c.in_ok-found.found) = found c.hdu_at_law.ensures.walk c.found_hdus_law.ensures.last c.survey_law.ensures.amend c.args.meter.now.live c.args.meter.now.limit c.args.hdu c.in_ok-found.found (g.D.Source.held c.args.store.now) c.requires.one_block look exact2 none2 in
    let held2 : g.D.Source.held c.survey_to_amend.new.source ≡ g.D.Source.held c.args.store.now = search rules in
    let same3 : IfSome (g.D.Source.held c.args.store.now) (SaysSame c.in_ok-found.found (Ok c.in_ok-kept.kept)) = rw held2 at c.in_ok-kept.ensures.same in
    let wanted : IfSome (g.D.Source.held c.args.store.now) (IsWanted c.args.hdu c.in_ok-kept.kept.facts) = wanted_of c.args.meter.now.live c.args.meter.now.limit c.args.hdu c.in_ok-found.found (g.D.Source.held c.args.store.now) c.in_ok-kept.kept known same3 in
    let held3 : g.D.Source.held c.read_again.new.store ≡ g.D.Source.held c.args.store.now = search rules in
    let tally : g.D.Source.tally c.read_again.new.store ≡ g.D.Source.tally c.args.store.now = c.in_ok-kept.ensures.cause.ok ∙ c.in_ok-found.ensures.cause.ok ∙ c.in_ok-survey_every.ensures.cause.ok in
    let writes : (g.D.Source.tally c.read_again.new.store).amended ≡ (g.D.Source.tally c.args.store.now).amended = ap (λ (t : Tally). t.amended) tally in
    let all : IfBoth (g.D.Source.held c.args.store.now) (g.S.Source.held c.args.patch.now) (λ f p. (any : Option ℕ) → IsWanted any c.in_ok-kept.kept.facts f → LeavesSafe (job_at any c.args.patching.now.asked.corner.now) (g.D.Source.held c.with_header-answer.new.store) (g.D.Source.tally c.args.store.now).amended (g.D.Source.tally c.with_header-answer.new.store).amended f p) = rw (held3, writes) at c.with_header-answer.ensures.safe in
    of_wanted (g.D.Source.held c.args.store.now) (g.S.Source.held c.args.patch.now) c.in_ok-kept.kept.facts c.args.hdu c.args.patching.now.asked.corner.now (λ job. LeavesSafe job (g.D.Source.held c.with_header-answer.new.store) (g.D.Source.tally c.args.store.now).amended (g.D.Source.tally c.with_header-answer.new.store).amended) wanted all

pub returns-clause-unwritten : goal.returns-clause-unwritten
returns-clause-unwritten g c =
    let live1 : c.survey_every.new.meter.live ≡ c.args.meter.now.live = c.in_ok-survey_every.ensures.stays.1 in
    let limit1 : c.survey_every.new.meter.limit ≡ c.args.meter.now.limit = c.in_ok-survey_every.ensures.stays.2 in
    let look : IfSome (g.D.Source.held c.args.store.now) (HasLooked c.args.meter.now.live c.args.meter.now.limit) = looked c.survey_law.ensures.every c.args.meter.now.live c.args.meter.now.limit (g.D.Source.held c.args.store.now) _ c.requires.one_block c.in_ok-survey_every.ensures.exact c.in_ok-survey_every.ensures.first_past in
    let held1 : g.D.Source.held c.survey_every.new.source ≡ g.D.Source.held c.args.store.now = search rules in
    let live2 : c.survey_to_amend.new.meter.live ≡ c.args.meter.now.live = c.in_ok-found.ensures.stays.1 ∙ live1 in
    let limit2 : c.survey_to_amend.new.meter.limit ≡ c.args.meter.now.limit = c.in_ok-found.ensures.stays.2 ∙ limit1 in
    let exact2 : IfSome (g.D.Source.held c.args.store.now) (λ f. amend_surveyed c.args.hdu f ≡ Ok c.in_ok-found.found) = rw held1 at c.in_ok-found.ensures.exact in
    let none2 : IfSome (g.D.Source.held c.args.store.now) (λ f. first_past c.args.meter.now.limit (survey_takings (AmendLook c.args.hdu) c.args.meter.now.live f) ≡ None) = same_past c.args.hdu c.args.meter.now.limit c.survey_every.new.meter.limit c.args.meter.now.live c.survey_every.new.meter.live (g.D.Source.held c.args.store.now) (g.D.Source.held c.survey_every.new.source) held1 limit1 live1 c.in_ok-found.ensures.first_past in
    let known : IfSome (g.D.Source.held c.args.store.now) (HasFound c.args.meter.now.live c.args.meter.now.limit c.args.hdu c.in_ok-found.found) = found c.hdu_at_law.ensures.walk c.found_hdus_law.ensures.last c.survey_law.ensures.amend c.args.meter.now.live c.args.meter.now.limit c.args.hdu c.in_ok-found.found (g.D.Source.held c.args.store.now) c.requires.one_block look exact2 none2 in
    let held2 : g.D.Source.held c.survey_to_amend.new.source ≡ g.D.Source.held c.args.store.now = search rules in
    let same3 : IfSome (g.D.Source.held c.args.store.now) (SaysSame c.in_ok-found.found (Ok c.in_ok-kept.kept)) = rw held2 at c.in_ok-kept.ensures.same in
    let wanted : IfSome (g.D.Source.held c.args.store.now) (IsWanted c.args.hdu c.in_ok-kept.kept.facts) = wanted_of c.args.meter.now.live c.args.meter.now.limit c.args.hdu c.in_ok-found.found (g.D.Source.held c.args.store.now) c.in_ok-kept.kept known same3 in
    let held3 : g.D.Source.held c.read_again.new.store ≡ g.D.Source.held c.args.store.now = search rules in
    let tally : g.D.Source.tally c.read_again.new.store ≡ g.D.Source.tally c.args.store.now = c.in_ok-kept.ensures.cause.ok ∙ c.in_ok-found.ensures.cause.ok ∙ c.in_ok-survey_every.ensures.cause.ok in
    let writes : (g.D.Source.tally c.read_again.new.store).amended.writes ≡ (g.D.Source.tally c.args.store.now).amended.writes = ap (λ (t : Tally). t.amended.writes) tally in
    let took : c.read_again.new.meter ≡ taken c.survey_to_amend.new.meter (length c.in_ok-kept.kept.bytes) = c.in_ok-kept.ensures.taken.1 in
    let live3 : c.read_again.new.meter.live ≡ 2880 + length c.in_ok-kept.kept.bytes =
    ap (λ (m : Gauge). m.live) took ∙ ap (λ n. n + length c.in_ok-kept.kept.bytes) (live2 ∙ c.requires.one_block) in
    let live4 : c.read_again.new.meter.live ≡ 2880 + length c.as_mut_slice.result.now = live3 ∙ ap (λ l. 2880 + length l) (sym c.as_mut_slice.ensures.value) in
    let limit3 : c.read_again.new.meter.limit ≡ c.args.meter.now.limit = ap (λ (m : Gauge). m.limit) took ∙ limit2 in
    let none3 : IfSome (g.D.Source.held c.args.store.now)
    (λ f. first_past c.args.meter.now.limit
    (header_taking c.args.meter.now.live (header_blocks_of c.in_ok-found.found.hdu c.in_ok-found.found.start f)) ≡ None) =
    rw (held2, live2, limit2) at c.in_ok-kept.ensures.first_past in
    let weak : (g.D.Source.held c.with_header-answer.new.store ≡ g.D.Source.held c.read_again.new.store) × (g.D.Source.tally c.with_header-answer.new.store ≡ g.D.Source.tally c.read_again.new.store) → (g.D.Source.held c.with_header-answer.new.store ≡ g.D.Source.held c.args.store.now) × ((g.D.Source.tally c.with_header-answer.new.store).amended ≡ (g.D.Source.tally c.args.store.now).amended) = λ same. (same.0 ∙ held3, ap (λ (t : Tally). t.amended) (same.1 ∙ tally)) in
    record {
      refused = λ refused.
          let all : IfBoth (g.D.Source.held c.args.store.now) (g.S.Source.held c.args.patch.now) (λ f p. (any : Option ℕ) → IsWanted any c.in_ok-kept.kept.facts f → (g.D.Source.held c.with_header-answer.new.store ≡ g.D.Source.held c.read_again.new.store) × (g.D.Source.tally c.with_header-answer.new.store ≡ g.D.Source.tally c.read_again.new.store)) = subst (λ (h : Option (List ℕ)). IfBoth h (g.S.Source.held c.args.patch.now) (λ f p. (any : Option ℕ) → IsWanted any c.in_ok-kept.kept.facts f → (g.D.Source.held c.with_header-answer.new.store ≡ g.D.Source.held c.read_again.new.store) × (g.D.Source.tally c.with_header-answer.new.store ≡ g.D.Source.tally c.read_again.new.store))) held3 (c.with_header-answer.ensures.unwritten refused) in
          both_weaker (g.D.Source.held c.args.store.now) (g.S.Source.held c.args.patch.now) _ _ (λ f p. weak) (of_wanted (g.D.Source.held c.args.store.now) (g.S.Source.held c.args.patch.now) c.in_ok-kept.kept.facts c.args.hdu c.args.patching.now.asked.corner.now (λ job f p. (g.D.Source.held c.with_header-answer.new.store ≡ g.D.Source.held c.read_again.new.store) × (g.D.Source.tally c.with_header-answer.new.store ≡ g.D.Source.tally c.read_again.new.store)) wanted all);
      late = refused_weaker c.with_header-answer.result (λ x came. either_way weak (in_work c.in_ok-kept.kept.facts.hdu x) came) c.with_header-answer.ensures.late;
      past = past_later c.hdu_at_law.ensures.blocks c.takings_law.ensures.second c.args.meter.now.live c.args.meter.now.limit c.requires.one_block
          (job_at c.args.hdu c.args.patching.now.asked.corner.now) c.in_ok-found.found _ _ (g.D.Source.held c.args.store.now) (g.S.Source.held c.args.patch.now) c.in_ok-kept.kept
          weak known same3 none3
          (unpassed_here _ (g.D.Source.held c.args.store.now) (g.D.Source.held c.read_again.new.store) (g.S.Source.held c.args.patch.now)
          c.args.meter.now.limit c.read_again.new.meter.limit c.read_again.new.meter.live (2880 + length c.as_mut_slice.result.now) c.in_ok-kept.kept.facts
          c.args.hdu c.args.patching.now.asked.corner.now held3 limit3 live4 wanted c.with_header-answer.ensures.unpassed);
      over_limit = over_weaker c.with_header-answer.result weak c.with_header-answer.ensures.over_limit;
    }

pub returns-clause-named : goal.returns-clause-named
returns-clause-named g c =
    let live1 : c.survey_every.new.meter.live ≡ c.args.meter.now.live = c.in_ok-survey_every.ensures.stays.1 in
    let limit1 : c.survey_every.new.meter.limit ≡ c.args.meter.now.limit = c.in_ok-survey_every.ensures.stays.2 in
    let look : IfSome (g.D.Source.held c.args.store.now) (HasLooked c.args.meter.now.live c.args.meter.now.limit) = looked c.survey_law.ensures.every c.args.meter.now.live c.args.meter.now.limit (g.D.Source.held c.args.store.now) _ c.requires.one_block c.in_ok-survey_every.ensures.exact c.in_ok-survey_every.ensures.first_past in
    let held1 : g.D.Source.held c.survey_every.new.source ≡ g.D.Source.held c.args.store.now = search rules in
    let exact2 : IfSome (g.D.Source.held c.args.store.now) (λ f. amend_surveyed c.args.hdu f ≡ Ok c.in_ok-found.found) = rw held1 at c.in_ok-found.ensures.exact in
    let none2 : IfSome (g.D.Source.held c.args.store.now) (λ f. first_past c.args.meter.now.limit (survey_takings (AmendLook c.args.hdu) c.args.meter.now.live f) ≡ None) = same_past c.args.hdu c.args.meter.now.limit c.survey_every.new.meter.limit c.args.meter.now.live c.survey_every.new.meter.live (g.D.Source.held c.args.store.now) (g.D.Source.held c.survey_every.new.source) held1 limit1 live1 c.in_ok-found.ensures.first_past in
    let known : IfSome (g.D.Source.held c.args.store.now) (HasFound c.args.meter.now.live c.args.meter.now.limit c.args.hdu c.in_ok-found.found) = found c.hdu_at_law.ensures.walk c.found_hdus_law.ensures.last c.survey_law.ensures.amend c.args.meter.now.live c.args.meter.now.limit c.args.hdu c.in_ok-found.found (g.D.Source.held c.args.store.now) c.requires.one_block look exact2 none2 in
    let held2 : g.D.Source.held c.survey_to_amend.new.source ≡ g.D.Source.held c.args.store.now = search rules in
    let same3 : IfSome (g.D.Source.held c.args.store.now) (SaysSame c.in_ok-found.found (Ok c.in_ok-kept.kept)) = rw held2 at c.in_ok-kept.ensures.same in
    let wanted : IfSome (g.D.Source.held c.args.store.now) (IsWanted c.args.hdu c.in_ok-kept.kept.facts) = wanted_of c.args.meter.now.live c.args.meter.now.limit c.args.hdu c.in_ok-found.found (g.D.Source.held c.args.store.now) c.in_ok-kept.kept known same3 in
    let held3 : g.D.Source.held c.read_again.new.store ≡ g.D.Source.held c.args.store.now = search rules in
    let tally : g.D.Source.tally c.read_again.new.store ≡ g.D.Source.tally c.args.store.now = c.in_ok-kept.ensures.cause.ok ∙ c.in_ok-found.ensures.cause.ok ∙ c.in_ok-survey_every.ensures.cause.ok in
    let weak : (g.D.Source.held c.with_header-answer.new.store ≡ g.D.Source.held c.read_again.new.store) × (g.D.Source.tally c.with_header-answer.new.store ≡ g.D.Source.tally c.read_again.new.store) → (g.D.Source.held c.with_header-answer.new.store ≡ g.D.Source.held c.args.store.now) × ((g.D.Source.tally c.with_header-answer.new.store).amended ≡ (g.D.Source.tally c.args.store.now).amended) = λ same. (same.0 ∙ held3, ap (λ (t : Tally). t.amended) (same.1 ∙ tally)) in
    names_wanted c.args.hdu (g.D.Source.held c.args.store.now) c.in_ok-kept.kept.facts c.with_header-answer.result wanted weak c.with_header-answer.ensures.late

pub returns-clause-first_fault : goal.returns-clause-first_fault
returns-clause-first_fault g c =
    let live1 : c.survey_every.new.meter.live ≡ c.args.meter.now.live = c.in_ok-survey_every.ensures.stays.1 in
    let limit1 : c.survey_every.new.meter.limit ≡ c.args.meter.now.limit = c.in_ok-survey_every.ensures.stays.2 in
    let look : IfSome (g.D.Source.held c.args.store.now) (HasLooked c.args.meter.now.live c.args.meter.now.limit) = looked c.survey_law.ensures.every c.args.meter.now.live c.args.meter.now.limit (g.D.Source.held c.args.store.now) _ c.requires.one_block c.in_ok-survey_every.ensures.exact c.in_ok-survey_every.ensures.first_past in
    let held1 : g.D.Source.held c.survey_every.new.source ≡ g.D.Source.held c.args.store.now = search rules in
    let live2 : c.survey_to_amend.new.meter.live ≡ c.args.meter.now.live = c.in_ok-found.ensures.stays.1 ∙ live1 in
    let limit2 : c.survey_to_amend.new.meter.limit ≡ c.args.meter.now.limit = c.in_ok-found.ensures.stays.2 ∙ limit1 in
    let exact2 : IfSome (g.D.Source.held c.args.store.now) (λ f. amend_surveyed c.args.hdu f ≡ Ok c.in_ok-found.found) = rw held1 at c.in_ok-found.ensures.exact in
    let none2 : IfSome (g.D.Source.held c.args.store.now) (λ f. first_past c.args.meter.now.limit (survey_takings (AmendLook c.args.hdu) c.args.meter.now.live f) ≡ None) = same_past c.args.hdu c.args.meter.now.limit c.survey_every.new.meter.limit c.args.meter.now.live c.survey_every.new.meter.live (g.D.Source.held c.args.store.now) (g.D.Source.held c.survey_every.new.source) held1 limit1 live1 c.in_ok-found.ensures.first_past in
    let known : IfSome (g.D.Source.held c.args.store.now) (HasFound c.args.meter.now.live c.args.meter.now.limit c.args.hdu c.in_ok-found.found) = found c.hdu_at_law.ensures.walk c.found_hdus_law.ensures.last c.survey_law.ensures.amend c.args.meter.now.live c.args.meter.now.limit c.args.hdu c.in_ok-found.found (g.D.Source.held c.args.store.now) c.requires.one_block look exact2 none2 in
    let held2 : g.D.Source.held c.survey_to_amend.new.source ≡ g.D.Source.held c.args.store.now = search rules in
    let same3 : IfSome (g.D.Source.held c.args.store.now) (SaysSame c.in_ok-found.found (Ok c.in_ok-kept.kept)) = rw held2 at c.in_ok-kept.ensures.same in
    let wanted : IfSome (g.D.Source.held c.args.store.now) (IsWanted c.args.hdu c.in_ok-kept.kept.facts) = wanted_of c.args.meter.now.live c.args.meter.now.limit c.args.hdu c.in_ok-found.found (g.D.Source.held c.args.store.now) c.in_ok-kept.kept known same3 in
    let held3 : g.D.Source.held c.read_again.new.store ≡ g.D.Source.held c.args.store.now = search rules in
    let all : IfBoth (g.D.Source.held c.args.store.now) (g.S.Source.held c.args.patch.now) (λ f p. (any : Option ℕ) → IsWanted any c.in_ok-kept.kept.facts f → TellsPatchFault (job_at any c.args.patching.now.asked.corner.now) (Some f) (Some p) c.with_header-answer.result) = rw held3 at c.with_header-answer.ensures.first_fault in
    told_both (job_at c.args.hdu c.args.patching.now.asked.corner.now) (g.D.Source.held c.args.store.now) (g.S.Source.held c.args.patch.now) c.with_header-answer.result (of_wanted (g.D.Source.held c.args.store.now) (g.S.Source.held c.args.patch.now) c.in_ok-kept.kept.facts c.args.hdu c.args.patching.now.asked.corner.now (λ job f p. TellsPatchFault job (Some f) (Some p) c.with_header-answer.result) wanted all)

pub returns-clause-first_past : goal.returns-clause-first_past
returns-clause-first_past g c =
    let live1 : c.survey_every.new.meter.live ≡ c.args.meter.now.live = c.in_ok-survey_every.ensures.stays.1 in
    let limit1 : c.survey_every.new.meter.limit ≡ c.args.meter.now.limit = c.in_ok-survey_every.ensures.stays.2 in
    let look : IfSome (g.D.Source.held c.args.store.now) (HasLooked c.args.meter.now.live c.args.meter.now.limit) = looked c.survey_law.ensures.every c.args.meter.now.live c.args.meter.now.limit (g.D.Source.held c.args.store.now) _ c.requires.one_block c.in_ok-survey_every.ensures.exact c.in_ok-survey_every.ensures.first_past in
    let held1 : g.D.Source.held c.survey_every.new.source ≡ g.D.Source.held c.args.store.now = search rules in
    let live2 : c.survey_to_amend.new.meter.live ≡ c.args.meter.now.live = c.in_ok-found.ensures.stays.1 ∙ live1 in
    let limit2 : c.survey_to_amend.new.meter.limit ≡ c.args.meter.now.limit = c.in_ok-found.ensures.stays.2 ∙ limit1 in
    let exact2 : IfSome (g.D.Source.held c.args.store.now) (λ f. amend_surveyed c.args.hdu f ≡ Ok c.in_ok-found.found) = rw held1 at c.in_ok-found.ensures.exact in
    let none2 : IfSome (g.D.Source.held c.args.store.now) (λ f. first_past c.args.meter.now.limit (survey_takings (AmendLook c.args.hdu) c.args.meter.now.live f) ≡ None) = same_past c.args.hdu c.args.meter.now.limit c.survey_every.new.meter.limit c.args.meter.now.live c.survey_every.new.meter.live (g.D.Source.held c.args.store.now) (g.D.Source.held c.survey_every.new.source) held1 limit1 live1 c.in_ok-found.ensures.first_past in
    let known : IfSome (g.D.Source.held c.args.store.now) (HasFound c.args.meter.now.live c.args.meter.now.limit c.args.hdu c.in_ok-found.found) = found c.hdu_at_law.ensures.walk c.found_hdus_law.ensures.last c.survey_law.ensures.amend c.args.meter.now.live c.args.meter.now.limit c.args.hdu c.in_ok-found.found (g.D.Source.held c.args.store.now) c.requires.one_block look exact2 none2 in
    let held2 : g.D.Source.held c.survey_to_amend.new.source ≡ g.D.Source.held c.args.store.now = search rules in
    let same3 : IfSome (g.D.Source.held c.args.store.now) (SaysSame c.in_ok-found.found (Ok c.in_ok-kept.kept)) = rw held2 at c.in_ok-kept.ensures.same in
    let wanted : IfSome (g.D.Source.held c.args.store.now) (IsWanted c.args.hdu c.in_ok-kept.kept.facts) = wanted_of c.args.meter.now.live c.args.meter.now.limit c.args.hdu c.in_ok-found.found (g.D.Source.held c.args.store.now) c.in_ok-kept.kept known same3 in
    let held3 : g.D.Source.held c.read_again.new.store ≡ g.D.Source.held c.args.store.now = search rules in
    let took : c.read_again.new.meter ≡ taken c.survey_to_amend.new.meter (length c.in_ok-kept.kept.bytes) = c.in_ok-kept.ensures.taken.1 in
    let live3 : c.read_again.new.meter.live ≡ 2880 + length c.in_ok-kept.kept.bytes = ap (λ (m : Gauge). m.live) took ∙ ap (λ n. n + length c.in_ok-kept.kept.bytes) (live2 ∙ c.requires.one_block) in
    let live4 : c.read_again.new.meter.live ≡ 2880 + length c.as_mut_slice.result.now = live3 ∙ ap (λ l. 2880 + length l) (sym c.as_mut_slice.ensures.value) in
    let limit3 : c.read_again.new.meter.limit ≡ c.args.meter.now.limit = ap (λ (m : Gauge). m.limit) took ∙ limit2 in
    let none3 : IfSome (g.D.Source.held c.args.store.now) (λ f. first_past c.args.meter.now.limit (header_taking c.args.meter.now.live (header_blocks_of c.in_ok-found.found.hdu c.in_ok-found.found.start f)) ≡ None) = rw (held2, live2, limit2) at c.in_ok-kept.ensures.first_past in
    let all : IfBoth (g.D.Source.held c.args.store.now) (g.S.Source.held c.args.patch.now) (λ f p. (any : Option ℕ) → IsWanted any c.in_ok-kept.kept.facts f → c.read_again.new.meter.live ≡ 2880 + length c.as_mut_slice.result.now → TellsFirstPast c.args.meter.now.limit (given_takings f p (job_at any c.args.patching.now.asked.corner.now) c.in_ok-kept.kept.facts (first_refusal (own_checks f c.in_ok-kept.kept.facts (job_at any c.args.patching.now.asked.corner.now)))) c.with_header-answer.result) = rw (held3, limit3) at c.with_header-answer.ensures.first_past in
    let here : IfBoth (g.D.Source.held c.args.store.now) (g.S.Source.held c.args.patch.now) (λ f p. TellsFirstPast c.args.meter.now.limit (given_takings f p (job_at c.args.hdu c.args.patching.now.asked.corner.now) c.in_ok-kept.kept.facts (first_refusal (own_checks f c.in_ok-kept.kept.facts (job_at c.args.hdu c.args.patching.now.asked.corner.now)))) c.with_header-answer.result) =
    both_weaker (g.D.Source.held c.args.store.now) (g.S.Source.held c.args.patch.now) _ _ (λ f p tells. tells live4) (of_wanted (g.D.Source.held c.args.store.now) (g.S.Source.held c.args.patch.now) c.in_ok-kept.kept.facts c.args.hdu c.args.patching.now.asked.corner.now (λ job f p. c.read_again.new.meter.live ≡ 2880 + length c.as_mut_slice.result.now → TellsFirstPast c.args.meter.now.limit (given_takings f p job c.in_ok-kept.kept.facts (first_refusal (own_checks f c.in_ok-kept.kept.facts job))) c.with_header-answer.result) wanted all) in
    all_past c.hdu_at_law.ensures.blocks c.takings_law.ensures.second c.args.meter.now.live c.args.meter.now.limit c.requires.one_block (job_at c.args.hdu c.args.patching.now.asked.corner.now) c.in_ok-found.found {X = Unit {0}} (g.D.Source.held c.args.store.now) (g.S.Source.held c.args.patch.now) c.in_ok-kept.kept c.with_header-answer.result known same3 none3 here

pub returns-clause-peak : goal.returns-clause-peak
returns-clause-peak g c =
    let live1 : c.survey_every.new.meter.live ≡ c.args.meter.now.live = c.in_ok-survey_every.ensures.stays.1 in
    let limit1 : c.survey_every.new.meter.limit ≡ c.args.meter.now.limit = c.in_ok-survey_every.ensures.stays.2 in
    let look : IfSome (g.D.Source.held c.args.store.now) (HasLooked c.args.meter.now.live c.args.meter.now.limit) = looked c.survey_law.ensures.every c.args.meter.now.live c.args.meter.now.limit (g.D.Source.held c.args.store.now) _ c.requires.one_block c.in_ok-survey_every.ensures.exact c.in_ok-survey_every.ensures.first_past in
    let held1 : g.D.Source.held c.survey_every.new.source ≡ g.D.Source.held c.args.store.now = search rules in
    let live2 : c.survey_to_amend.new.meter.live ≡ c.args.meter.now.live = c.in_ok-found.ensures.stays.1 ∙ live1 in
    let limit2 : c.survey_to_amend.new.meter.limit ≡ c.args.meter.now.limit = c.in_ok-found.ensures.stays.2 ∙ limit1 in
    let exact2 : IfSome (g.D.Source.held c.args.store.now) (λ f. amend_surveyed c.args.hdu f ≡ Ok c.in_ok-found.found) = rw held1 at c.in_ok-found.ensures.exact in
    let none2 : IfSome (g.D.Source.held c.args.store.now) (λ f. first_past c.args.meter.now.limit (survey_takings (AmendLook c.args.hdu) c.args.meter.now.live f) ≡ None) = same_past c.args.hdu c.args.meter.now.limit c.survey_every.new.meter.limit c.args.meter.now.live c.survey_every.new.meter.live (g.D.Source.held c.args.store.now) (g.D.Source.held c.survey_every.new.source) held1 limit1 live1 c.in_ok-found.ensures.first_past in
    let known : IfSome (g.D.Source.held c.args.store.now) (HasFound c.args.meter.now.live c.args.meter.now.limit c.args.hdu c.in_ok-found.found) = found c.hdu_at_law.ensures.walk c.found_hdus_law.ensures.last c.survey_law.ensures.amend c.args.meter.now.live c.args.meter.now.limit c.args.hdu c.in_ok-found.found (g.D.Source.held c.args.store.now) c.requires.one_block look exact2 none2 in
    let held2 : g.D.Source.held c.survey_to_amend.new.source ≡ g.D.Source.held c.args.store.now = search rules in
    let same3 : IfSome (g.D.Source.held c.args.store.now) (SaysSame c.in_ok-found.found (Ok c.in_ok-kept.kept)) = rw held2 at c.in_ok-kept.ensures.same in
    let wanted : IfSome (g.D.Source.held c.args.store.now) (IsWanted c.args.hdu c.in_ok-kept.kept.facts) = wanted_of c.args.meter.now.live c.args.meter.now.limit c.args.hdu c.in_ok-found.found (g.D.Source.held c.args.store.now) c.in_ok-kept.kept known same3 in
    let held3 : g.D.Source.held c.read_again.new.store ≡ g.D.Source.held c.args.store.now = search rules in
    let took : c.read_again.new.meter ≡ taken c.survey_to_amend.new.meter (length c.in_ok-kept.kept.bytes) = c.in_ok-kept.ensures.taken.1 in
    let live3 : c.read_again.new.meter.live ≡ 2880 + length c.in_ok-kept.kept.bytes = ap (λ (m : Gauge). m.live) took ∙ ap (λ n. n + length c.in_ok-kept.kept.bytes) (live2 ∙ c.requires.one_block) in
    let live4 : c.read_again.new.meter.live ≡ 2880 + length c.as_mut_slice.result.now = live3 ∙ ap (λ l. 2880 + length l) (sym c.as_mut_slice.ensures.value) in
    let limit3 : c.read_again.new.meter.limit ≡ c.args.meter.now.limit = ap (λ (m : Gauge). m.limit) took ∙ limit2 in
    let first : IfSome (g.D.Source.held c.args.store.now) (λ f. c.survey_every.new.meter.peak ≤ max c.args.meter.now.peak (highest (survey_takings Every c.args.meter.now.live f))) = c.in_ok-survey_every.ensures.peak in
    let next : IfSome (g.D.Source.held c.args.store.now) (λ f. c.survey_to_amend.new.meter.peak ≤ max c.survey_every.new.meter.peak (highest (survey_takings (AmendLook c.args.hdu) c.args.meter.now.live f))) = rw (held1, live1) at c.in_ok-found.ensures.peak in
    let last : IfSome (g.D.Source.held c.args.store.now) (λ f. c.read_again.new.meter.peak ≤ max c.survey_to_amend.new.meter.peak (highest (header_taking c.args.meter.now.live (header_blocks_of c.in_ok-found.found.hdu c.in_ok-found.found.start f)))) = rw (held2, live2) at c.in_ok-kept.ensures.peak in
    let all : IfBoth (g.D.Source.held c.args.store.now) (g.S.Source.held c.args.patch.now) (λ f p. (any : Option ℕ) → IsWanted any c.in_ok-kept.kept.facts f → c.read_again.new.meter.live ≡ 2880 + length c.as_mut_slice.result.now → c.with_header-answer.new.meter.peak ≤ max c.read_again.new.meter.peak (highest (given_takings f p (job_at any c.args.patching.now.asked.corner.now) c.in_ok-kept.kept.facts (first_refusal (own_checks f c.in_ok-kept.kept.facts (job_at any c.args.patching.now.asked.corner.now)))))) = rw held3 at c.with_header-answer.ensures.peak in
    let here : IfBoth (g.D.Source.held c.args.store.now) (g.S.Source.held c.args.patch.now) (λ f p. c.with_header-answer.new.meter.peak ≤ max c.read_again.new.meter.peak (highest (given_takings f p (job_at c.args.hdu c.args.patching.now.asked.corner.now) c.in_ok-kept.kept.facts (first_refusal (own_checks f c.in_ok-kept.kept.facts (job_at c.args.hdu c.args.patching.now.asked.corner.now)))))) =
    both_weaker (g.D.Source.held c.args.store.now) (g.S.Source.held c.args.patch.now) _ _ (λ f p low. low live4) (of_wanted (g.D.Source.held c.args.store.now) (g.S.Source.held c.args.patch.now) c.in_ok-kept.kept.facts c.args.hdu c.args.patching.now.asked.corner.now (λ job f p. c.read_again.new.meter.live ≡ 2880 + length c.as_mut_slice.result.now → c.with_header-answer.new.meter.peak ≤ max c.read_again.new.meter.peak (highest (given_takings f p job c.in_ok-kept.kept.facts (first_refusal (own_checks f c.in_ok-kept.kept.facts job))))) wanted all) in
    let back : c.give_bytes.new.self.peak ≡ c.with_header-answer.new.meter.peak = ap (λ (m : Gauge). m.peak) c.give_bytes.ensures in
    rw back (all_high c.hdu_at_law.ensures.blocks c.takings_law.ensures.second c.args.meter.now.live c.args.meter.now.limit c.requires.one_block (job_at c.args.hdu c.args.patching.now.asked.corner.now) c.in_ok-found.found c.survey_law.ensures.every c.survey_law.ensures.amend c.args.meter.now.peak c.survey_every.new.meter.peak c.survey_to_amend.new.meter.peak c.read_again.new.meter.peak c.with_header-answer.new.meter.peak (g.D.Source.held c.args.store.now) (g.S.Source.held c.args.patch.now) c.in_ok-kept.kept known same3 first next last here)

pub returns-clause-exact_peak : goal.returns-clause-exact_peak
returns-clause-exact_peak g c =
    let live1 : c.survey_every.new.meter.live ≡ c.args.meter.now.live = c.in_ok-survey_every.ensures.stays.1 in
    let limit1 : c.survey_every.new.meter.limit ≡ c.args.meter.now.limit = c.in_ok-survey_every.ensures.stays.2 in
    let look : IfSome (g.D.Source.held c.args.store.now) (HasLooked c.args.meter.now.live c.args.meter.now.limit) = looked c.survey_law.ensures.every c.args.meter.now.live c.args.meter.now.limit (g.D.Source.held c.args.store.now) _ c.requires.one_block c.in_ok-survey_every.ensures.exact c.in_ok-survey_every.ensures.first_past in
    let held1 : g.D.Source.held c.survey_every.new.source ≡ g.D.Source.held c.args.store.now = search rules in
    let live2 : c.survey_to_amend.new.meter.live ≡ c.args.meter.now.live = c.in_ok-found.ensures.stays.1 ∙ live1 in
    let limit2 : c.survey_to_amend.new.meter.limit ≡ c.args.meter.now.limit = c.in_ok-found.ensures.stays.2 ∙ limit1 in
    let exact2 : IfSome (g.D.Source.held c.args.store.now) (λ f. amend_surveyed c.args.hdu f ≡ Ok c.in_ok-found.found) = rw held1 at c.in_ok-found.ensures.exact in
    let none2 : IfSome (g.D.Source.held c.args.store.now) (λ f. first_past c.args.meter.now.limit (survey_takings (AmendLook c.args.hdu) c.args.meter.now.live f) ≡ None) = same_past c.args.hdu c.args.meter.now.limit c.survey_every.new.meter.limit c.args.meter.now.live c.survey_every.new.meter.live (g.D.Source.held c.args.store.now) (g.D.Source.held c.survey_every.new.source) held1 limit1 live1 c.in_ok-found.ensures.first_past in
    let known : IfSome (g.D.Source.held c.args.store.now) (HasFound c.args.meter.now.live c.args.meter.now.limit c.args.hdu c.in_ok-found.found) = found c.hdu_at_law.ensures.walk c.found_hdus_law.ensures.last c.survey_law.ensures.amend c.args.meter.now.live c.args.meter.now.limit c.args.hdu c.in_ok-found.found (g.D.Source.held c.args.store.now) c.requires.one_block look exact2 none2 in
    let held2 : g.D.Source.held c.survey_to_amend.new.source ≡ g.D.Source.held c.args.store.now = search rules in
    let same3 : IfSome (g.D.Source.held c.args.store.now) (SaysSame c.in_ok-found.found (Ok c.in_ok-kept.kept)) = rw held2 at c.in_ok-kept.ensures.same in
    let wanted : IfSome (g.D.Source.held c.args.store.now) (IsWanted c.args.hdu c.in_ok-kept.kept.facts) = wanted_of c.args.meter.now.live c.args.meter.now.limit c.args.hdu c.in_ok-found.found (g.D.Source.held c.args.store.now) c.in_ok-kept.kept known same3 in
    let held3 : g.D.Source.held c.read_again.new.store ≡ g.D.Source.held c.args.store.now = search rules in
    let took : c.read_again.new.meter ≡ taken c.survey_to_amend.new.meter (length c.in_ok-kept.kept.bytes) = c.in_ok-kept.ensures.taken.1 in
    let live3 : c.read_again.new.meter.live ≡ 2880 + length c.in_ok-kept.kept.bytes = ap (λ (m : Gauge). m.live) took ∙ ap (λ n. n + length c.in_ok-kept.kept.bytes) (live2 ∙ c.requires.one_block) in
    let live4 : c.read_again.new.meter.live ≡ 2880 + length c.as_mut_slice.result.now = live3 ∙ ap (λ l. 2880 + length l) (sym c.as_mut_slice.ensures.value) in
    let limit3 : c.read_again.new.meter.limit ≡ c.args.meter.now.limit = ap (λ (m : Gauge). m.limit) took ∙ limit2 in
    let first : IfSome (g.D.Source.held c.args.store.now) (λ f. c.survey_every.new.meter.peak ≡ max c.args.meter.now.peak (highest (survey_takings Every c.args.meter.now.live f))) = c.in_ok-survey_every.ensures.exact_peak in
    let next : IfSome (g.D.Source.held c.args.store.now) (λ f. c.survey_to_amend.new.meter.peak ≡ max c.survey_every.new.meter.peak (highest (survey_takings (AmendLook c.args.hdu) c.args.meter.now.live f))) = rw (held1, live1) at c.in_ok-found.ensures.exact_peak in
    let grew : c.read_again.new.meter.peak ≡ max c.survey_to_amend.new.meter.peak (c.survey_to_amend.new.meter.live + length c.in_ok-kept.kept.bytes) = ap (λ (m : Gauge). m.peak) took in
    let last : c.read_again.new.meter.peak ≡ max c.survey_to_amend.new.meter.peak (c.args.meter.now.live + length c.in_ok-kept.kept.bytes) = omega (arith, grew, live2) in
    let back : c.give_bytes.new.self.peak ≡ c.with_header-answer.new.meter.peak = ap (λ (m : Gauge). m.peak) c.give_bytes.ensures in
    let reached : OnOk c.with_header-answer.result (IfBoth (g.D.Source.held c.args.store.now) (g.S.Source.held c.args.patch.now) (λ f p. (any : Option ℕ) → IsWanted any c.in_ok-kept.kept.facts f → c.read_again.new.meter.live ≡ 2880 + length c.as_mut_slice.result.now → c.with_header-answer.new.meter.peak ≡ max c.read_again.new.meter.peak (highest (given_takings f p (job_at any c.args.patching.now.asked.corner.now) c.in_ok-kept.kept.facts (first_refusal (own_checks f c.in_ok-kept.kept.facts (job_at any c.args.patching.now.asked.corner.now))))))) = rw held3 at c.with_header-answer.ensures.exact_peak in
    ok_weaker c.with_header-answer.result
    (λ (all : IfBoth (g.D.Source.held c.args.store.now) (g.S.Source.held c.args.patch.now) (λ f p. (any : Option ℕ) → IsWanted any c.in_ok-kept.kept.facts f → c.read_again.new.meter.live ≡ 2880 + length c.as_mut_slice.result.now → c.with_header-answer.new.meter.peak ≡ max c.read_again.new.meter.peak (highest (given_takings f p (job_at any c.args.patching.now.asked.corner.now) c.in_ok-kept.kept.facts (first_refusal (own_checks f c.in_ok-kept.kept.facts (job_at any c.args.patching.now.asked.corner.now))))))).
    let here : IfBoth (g.D.Source.held c.args.store.now) (g.S.Source.held c.args.patch.now) (λ f p. c.with_header-answer.new.meter.peak ≡ max c.read_again.new.meter.peak (highest (given_takings f p (job_at c.args.hdu c.args.patching.now.asked.corner.now) c.in_ok-kept.kept.facts (first_refusal (own_checks f c.in_ok-kept.kept.facts (job_at c.args.hdu c.args.patching.now.asked.corner.now)))))) =
    both_weaker (g.D.Source.held c.args.store.now) (g.S.Source.held c.args.patch.now) _ _ (λ f p low. low live4) (of_wanted (g.D.Source.held c.args.store.now) (g.S.Source.held c.args.patch.now) c.in_ok-kept.kept.facts c.args.hdu c.args.patching.now.asked.corner.now (λ job f p. c.read_again.new.meter.live ≡ 2880 + length c.as_mut_slice.result.now → c.with_header-answer.new.meter.peak ≡ max c.read_again.new.meter.peak (highest (given_takings f p job c.in_ok-kept.kept.facts (first_refusal (own_checks f c.in_ok-kept.kept.facts job))))) wanted all) in
    rw back (all_reached c.hdu_at_law.ensures.blocks c.takings_law.ensures.second c.args.meter.now.live c.args.meter.now.limit c.requires.one_block (job_at c.args.hdu c.args.patching.now.asked.corner.now) c.in_ok-found.found c.survey_law.ensures.every c.survey_law.ensures.amend c.args.meter.now.peak c.survey_every.new.meter.peak c.survey_to_amend.new.meter.peak c.read_again.new.meter.peak c.with_header-answer.new.meter.peak (g.D.Source.held c.args.store.now) (g.S.Source.held c.args.patch.now) c.in_ok-kept.kept known same3 c.in_ok-kept.ensures.again.is_header first next last here))
    reached

pub returns-clause-reach : goal.returns-clause-reach
returns-clause-reach g c =
    let same : g.D.Source.attached c.read_again.new.store ≡ g.D.Source.attached c.args.store.now = search rules in
    subst (λ (a : Option ℕ). KeepsReach a (g.D.Source.attached c.with_header-answer.new.store)) same c.with_header-answer.ensures.reach

pub returns-clause-most : goal.returns-clause-most
returns-clause-most g c =
    let live2 : c.survey_to_amend.new.meter.live ≡ c.args.meter.now.live = c.in_ok-found.ensures.stays.1 ∙ c.in_ok-survey_every.ensures.stays.1 in
    let limit2 : c.survey_to_amend.new.meter.limit ≡ c.args.meter.now.limit = c.in_ok-found.ensures.stays.2 ∙ c.in_ok-survey_every.ensures.stays.2 in
    let took : c.read_again.new.meter ≡ taken c.survey_to_amend.new.meter (length c.in_ok-kept.kept.bytes) = c.in_ok-kept.ensures.taken.1 in
    let live3 : c.read_again.new.meter.live ≡ 2880 + length c.in_ok-kept.kept.bytes = ap (λ (m : Gauge). m.live) took ∙ ap (λ n. n + length c.in_ok-kept.kept.bytes) (live2 ∙ c.requires.one_block) in
    let limit3 : c.read_again.new.meter.limit ≡ c.args.meter.now.limit = ap (λ (m : Gauge). m.limit) took ∙ limit2 in
    let short : length c.in_ok-kept.kept.bytes ≤ 737280 = c.in_ok-kept.ensures.again.short in
    rw limit3 at (c.with_header-answer.ensures.most (omega (arith, live3, short)))

pub returns-clause-peak_most : goal.returns-clause-peak_most
returns-clause-peak_most g c =
    let live2 : c.survey_to_amend.new.meter.live ≡ c.args.meter.now.live = c.in_ok-found.ensures.stays.1 ∙ c.in_ok-survey_every.ensures.stays.1 in
    let limit2 : c.survey_to_amend.new.meter.limit ≡ c.args.meter.now.limit = c.in_ok-found.ensures.stays.2 ∙ c.in_ok-survey_every.ensures.stays.2 in
    let took : c.read_again.new.meter ≡ taken c.survey_to_amend.new.meter (length c.in_ok-kept.kept.bytes) = c.in_ok-kept.ensures.taken.1 in
    let live3 : c.read_again.new.meter.live ≡ 2880 + length c.in_ok-kept.kept.bytes = ap (λ (m : Gauge). m.live) took ∙ ap (λ n. n + length c.in_ok-kept.kept.bytes) (live2 ∙ c.requires.one_block) in
    let limit3 : c.read_again.new.meter.limit ≡ c.args.meter.now.limit = ap (λ (m : Gauge). m.limit) took ∙ limit2 in
    let short : length c.in_ok-kept.kept.bytes ≤ 737280 = c.in_ok-kept.ensures.again.short in
    let back : c.give_bytes.new.self.peak ≡ c.with_header-answer.new.meter.peak = ap (λ (m : Gauge). m.peak) c.give_bytes.ensures in
    omega (arith, back, c.requires.one_block, bound_headers, c.in_ok-survey_every.ensures.stays.1, c.in_ok-survey_every.ensures.peak_most, c.in_ok-found.ensures.stays.1, c.in_ok-found.ensures.peak_most, c.in_ok-kept.ensures.peak_most, c.with_header-answer.ensures.peak_most (omega (arith, live3, short)))

pub returns-clause-stays : goal.returns-clause-stays
returns-clause-stays g c =
    let live2 : c.survey_to_amend.new.meter.live ≡ c.args.meter.now.live = c.in_ok-found.ensures.stays.1 ∙ c.in_ok-survey_every.ensures.stays.1 in
    let limit2 : c.survey_to_amend.new.meter.limit ≡ c.args.meter.now.limit = c.in_ok-found.ensures.stays.2 ∙ c.in_ok-survey_every.ensures.stays.2 in
    let took : c.read_again.new.meter ≡ taken c.survey_to_amend.new.meter (length c.in_ok-kept.kept.bytes) = c.in_ok-kept.ensures.taken.1 in
    let live3 : c.read_again.new.meter.live ≡ 2880 + length c.in_ok-kept.kept.bytes = ap (λ (m : Gauge). m.live) took ∙ ap (λ n. n + length c.in_ok-kept.kept.bytes) (live2 ∙ c.requires.one_block) in
    let limit3 : c.read_again.new.meter.limit ≡ c.args.meter.now.limit = ap (λ (m : Gauge). m.limit) took ∙ limit2 in
    let gave : c.give_bytes.new.self.live ≡ c.with_header-answer.new.meter.live - length (refilled c.in_ok-kept.kept.bytes c.with_header-answer.new.buf) = ap (λ (m : Gauge). m.live) c.give_bytes.ensures in (
      search rules,
      search rules,
      omega (arith, gave, refilled_len c.in_ok-kept.kept.bytes c.with_header-answer.new.buf, live3, c.with_header-answer.ensures.stays.3, c.requires.one_block),
      ap (λ (m : Gauge). m.limit) c.give_bytes.ensures ∙ c.with_header-answer.ensures.stays.4 ∙ limit3,
    )

pub returns-clause-risen : goal.returns-clause-risen
returns-clause-risen g c =
    let back : c.give_bytes.new.self.peak ≡ c.with_header-answer.new.meter.peak = ap (λ (m : Gauge). m.peak) c.give_bytes.ensures in
    let took : c.read_again.new.meter.peak ≡ max c.survey_to_amend.new.meter.peak (c.survey_to_amend.new.meter.live + length c.in_ok-kept.kept.bytes) = ap (λ (m : Gauge). m.peak) c.in_ok-kept.ensures.taken.1 in
    omega (arith, back, took, c.with_header-answer.ensures.risen, c.in_ok-found.ensures.risen, c.in_ok-survey_every.ensures.risen)

pub returns-clause-cause : goal.returns-clause-cause
returns-clause-cause g c =
    let live2 : c.survey_to_amend.new.meter.live ≡ c.args.meter.now.live = c.in_ok-found.ensures.stays.1 ∙ c.in_ok-survey_every.ensures.stays.1 in
    let limit2 : c.survey_to_amend.new.meter.limit ≡ c.args.meter.now.limit = c.in_ok-found.ensures.stays.2 ∙ c.in_ok-survey_every.ensures.stays.2 in
    let took : c.read_again.new.meter ≡ taken c.survey_to_amend.new.meter (length c.in_ok-kept.kept.bytes) = c.in_ok-kept.ensures.taken.1 in
    let live3 : c.read_again.new.meter.live ≡ 2880 + length c.in_ok-kept.kept.bytes = ap (λ (m : Gauge). m.live) took ∙ ap (λ n. n + length c.in_ok-kept.kept.bytes) (live2 ∙ c.requires.one_block) in
    let limit3 : c.read_again.new.meter.limit ≡ c.args.meter.now.limit = ap (λ (m : Gauge). m.limit) took ∙ limit2 in
    let tally : g.D.Source.tally c.read_again.new.store ≡ g.D.Source.tally c.args.store.now = c.in_ok-kept.ensures.cause.ok ∙ c.in_ok-found.ensures.cause.ok ∙ c.in_ok-survey_every.ensures.cause.ok in
    let writes : (g.D.Source.tally c.read_again.new.store).amended.writes ≡ (g.D.Source.tally c.args.store.now).amended.writes = ap (λ (t : Tally). t.amended.writes) tally in
    let s' : Tally = g.D.Source.tally c.with_header-answer.new.store in
    let p : Tally = g.S.Source.tally c.args.patch.now in
    let p' : Tally = g.S.Source.tally c.with_header-answer.new.patch in
    subst (λ (t : Tally). WorksInPlace t s' p p' c.args.meter.now.limit c.with_header-answer.result) tally (subst (λ (n : ℕ). WorksInPlace (g.D.Source.tally c.read_again.new.store) s' p p' n c.with_header-answer.result) limit3 c.with_header-answer.ensures.cause)

-- ---- what is kept of FILE, and what is read of PATCH

pub returns-in_err-survey_every-clause-kept : goal.returns-in_err-survey_every-clause-kept
returns-in_err-survey_every-clause-kept g c =
    let held : g.D.Source.held c.survey_every.new.source ≡ g.D.Source.held c.args.store.now = search rules in
    let amended : (g.D.Source.tally c.survey_every.new.source).amended ≡ (g.D.Source.tally c.args.store.now).amended = still_amended (g.D.Source.tally c.args.store.now) (g.D.Source.tally c.args.store.now) (g.D.Source.tally c.survey_every.new.source) refl c.in_err-survey_every.ensures.cause.kept in
    rest_untouched (job_at c.args.hdu c.args.patching.now.asked.corner.now) (g.S.Source.attached c.args.patch.now) (g.S.Source.held c.args.patch.now) (g.D.Source.held c.args.store.now) _ (g.D.Source.tally c.args.store.now).amended.writes _ held
    (ap (λ a. a.writes) amended)

pub returns-in_err-survey_every-clause-given_touched : goal.returns-in_err-survey_every-clause-given_touched
returns-in_err-survey_every-clause-given_touched g c =
    none_read (g.D.Source.held c.args.store.now) (g.S.Source.held c.args.patch.now) (job_at c.args.hdu c.args.patching.now.asked.corner.now) (g.S.Source.ranges c.args.patch.now)

pub returns-in_err-found-clause-kept : goal.returns-in_err-found-clause-kept
returns-in_err-found-clause-kept g c =
    let held : g.D.Source.held c.survey_to_amend.new.source ≡ g.D.Source.held c.args.store.now = search rules in
    let amended : (g.D.Source.tally c.survey_to_amend.new.source).amended ≡ (g.D.Source.tally c.args.store.now).amended = still_amended (g.D.Source.tally c.args.store.now) (g.D.Source.tally c.survey_every.new.source) (g.D.Source.tally c.survey_to_amend.new.source) c.in_ok-survey_every.ensures.cause.ok c.in_err-found.ensures.cause.kept in
    rest_untouched (job_at c.args.hdu c.args.patching.now.asked.corner.now) (g.S.Source.attached c.args.patch.now) (g.S.Source.held c.args.patch.now) (g.D.Source.held c.args.store.now) _ (g.D.Source.tally c.args.store.now).amended.writes _ held
    (ap (λ a. a.writes) amended)

pub returns-in_err-found-clause-given_touched : goal.returns-in_err-found-clause-given_touched
returns-in_err-found-clause-given_touched g c =
    none_read (g.D.Source.held c.args.store.now) (g.S.Source.held c.args.patch.now) (job_at c.args.hdu c.args.patching.now.asked.corner.now) (g.S.Source.ranges c.args.patch.now)

pub returns-in_err-kept-clause-kept : goal.returns-in_err-kept-clause-kept
returns-in_err-kept-clause-kept g c =
    let held : g.D.Source.held c.read_again.new.store ≡ g.D.Source.held c.args.store.now = search rules in
    let amended : (g.D.Source.tally c.read_again.new.store).amended ≡ (g.D.Source.tally c.args.store.now).amended = still_amended (g.D.Source.tally c.args.store.now) (g.D.Source.tally c.survey_to_amend.new.source) (g.D.Source.tally c.read_again.new.store) (c.in_ok-found.ensures.cause.ok ∙ c.in_ok-survey_every.ensures.cause.ok) c.in_err-kept.ensures.cause.kept in
    rest_untouched (job_at c.args.hdu c.args.patching.now.asked.corner.now) (g.S.Source.attached c.args.patch.now) (g.S.Source.held c.args.patch.now) (g.D.Source.held c.args.store.now) _ (g.D.Source.tally c.args.store.now).amended.writes _ held
    (ap (λ a. a.writes) amended)

pub returns-in_err-kept-clause-given_touched : goal.returns-in_err-kept-clause-given_touched
returns-in_err-kept-clause-given_touched g c =
    none_read (g.D.Source.held c.args.store.now) (g.S.Source.held c.args.patch.now) (job_at c.args.hdu c.args.patching.now.asked.corner.now) (g.S.Source.ranges c.args.patch.now)

pub returns-clause-kept : goal.returns-clause-kept
returns-clause-kept g c =
    let live1 : c.survey_every.new.meter.live ≡ c.args.meter.now.live = c.in_ok-survey_every.ensures.stays.1 in
    let limit1 : c.survey_every.new.meter.limit ≡ c.args.meter.now.limit = c.in_ok-survey_every.ensures.stays.2 in
    let look : IfSome (g.D.Source.held c.args.store.now) (HasLooked c.args.meter.now.live c.args.meter.now.limit) = looked c.survey_law.ensures.every c.args.meter.now.live c.args.meter.now.limit (g.D.Source.held c.args.store.now) _ c.requires.one_block c.in_ok-survey_every.ensures.exact c.in_ok-survey_every.ensures.first_past in
    let held1 : g.D.Source.held c.survey_every.new.source ≡ g.D.Source.held c.args.store.now = search rules in
    let exact2 : IfSome (g.D.Source.held c.args.store.now) (λ f. amend_surveyed c.args.hdu f ≡ Ok c.in_ok-found.found) = rw held1 at c.in_ok-found.ensures.exact in
    let none2 : IfSome (g.D.Source.held c.args.store.now) (λ f. first_past c.args.meter.now.limit (survey_takings (AmendLook c.args.hdu) c.args.meter.now.live f) ≡ None) = same_past c.args.hdu c.args.meter.now.limit c.survey_every.new.meter.limit c.args.meter.now.live c.survey_every.new.meter.live (g.D.Source.held c.args.store.now) (g.D.Source.held c.survey_every.new.source) held1 limit1 live1 c.in_ok-found.ensures.first_past in
    let known : IfSome (g.D.Source.held c.args.store.now) (HasFound c.args.meter.now.live c.args.meter.now.limit c.args.hdu c.in_ok-found.found) = found c.hdu_at_law.ensures.walk c.found_hdus_law.ensures.last c.survey_law.ensures.amend c.args.meter.now.live c.args.meter.now.limit c.args.hdu c.in_ok-found.found (g.D.Source.held c.args.store.now) c.requires.one_block look exact2 none2 in
    let held2 : g.D.Source.held c.survey_to_amend.new.source ≡ g.D.Source.held c.args.store.now = search rules in
    let same3 : IfSome (g.D.Source.held c.args.store.now) (SaysSame c.in_ok-found.found (Ok c.in_ok-kept.kept)) = rw held2 at c.in_ok-kept.ensures.same in
    let wanted : IfSome (g.D.Source.held c.args.store.now) (IsWanted c.args.hdu c.in_ok-kept.kept.facts) = wanted_of c.args.meter.now.live c.args.meter.now.limit c.args.hdu c.in_ok-found.found (g.D.Source.held c.args.store.now) c.in_ok-kept.kept known same3 in
    let held3 : g.D.Source.held c.read_again.new.store ≡ g.D.Source.held c.args.store.now = search rules in
    let tally : g.D.Source.tally c.read_again.new.store ≡ g.D.Source.tally c.args.store.now = c.in_ok-kept.ensures.cause.ok ∙ c.in_ok-found.ensures.cause.ok ∙ c.in_ok-survey_every.ensures.cause.ok in
    let corner : List ℕ = c.args.patching.now.asked.corner.now in
    let attached : Option ℕ = g.S.Source.attached c.args.patch.now in
    let given : Option (List ℕ) = g.S.Source.held c.args.patch.now in
    let now : Option (List ℕ) = g.D.Source.held c.with_header-answer.new.store in
    let log : Option (List Amend) = (g.D.Source.tally c.args.store.now).amended.writes in
    let log3 : Option (List Amend) = (g.D.Source.tally c.read_again.new.store).amended.writes in
    let log' : Option (List Amend) = (g.D.Source.tally c.with_header-answer.new.store).amended.writes in
    of_job c.args.hdu c.in_ok-kept.kept.facts (g.D.Source.held c.args.store.now) (λ any. LeavesRest (job_at any corner) attached given now log log') wanted
    (subst (λ (l : Option (List Amend)). IfSome (g.D.Source.held c.args.store.now) (λ f. (any : Option ℕ) → IsWanted any c.in_ok-kept.kept.facts f → LeavesRest (job_at any corner) attached given now l log' f)) (ap (λ (t : Tally). t.amended.writes) tally)
    (subst (λ (h : Option (List ℕ)). IfSome h (λ f. (any : Option ℕ) → IsWanted any c.in_ok-kept.kept.facts f → LeavesRest (job_at any corner) attached given now log3 log' f)) held3 c.with_header-answer.ensures.kept))

pub returns-clause-given_touched : goal.returns-clause-given_touched
returns-clause-given_touched g c =
    let live1 : c.survey_every.new.meter.live ≡ c.args.meter.now.live = c.in_ok-survey_every.ensures.stays.1 in
    let limit1 : c.survey_every.new.meter.limit ≡ c.args.meter.now.limit = c.in_ok-survey_every.ensures.stays.2 in
    let look : IfSome (g.D.Source.held c.args.store.now) (HasLooked c.args.meter.now.live c.args.meter.now.limit) = looked c.survey_law.ensures.every c.args.meter.now.live c.args.meter.now.limit (g.D.Source.held c.args.store.now) _ c.requires.one_block c.in_ok-survey_every.ensures.exact c.in_ok-survey_every.ensures.first_past in
    let held1 : g.D.Source.held c.survey_every.new.source ≡ g.D.Source.held c.args.store.now = search rules in
    let exact2 : IfSome (g.D.Source.held c.args.store.now) (λ f. amend_surveyed c.args.hdu f ≡ Ok c.in_ok-found.found) = rw held1 at c.in_ok-found.ensures.exact in
    let none2 : IfSome (g.D.Source.held c.args.store.now) (λ f. first_past c.args.meter.now.limit (survey_takings (AmendLook c.args.hdu) c.args.meter.now.live f) ≡ None) = same_past c.args.hdu c.args.meter.now.limit c.survey_every.new.meter.limit c.args.meter.now.live c.survey_every.new.meter.live (g.D.Source.held c.args.store.now) (g.D.Source.held c.survey_every.new.source) held1 limit1 live1 c.in_ok-found.ensures.first_past in
    let known : IfSome (g.D.Source.held c.args.store.now) (HasFound c.args.meter.now.live c.args.meter.now.limit c.args.hdu c.in_ok-found.found) = found c.hdu_at_law.ensures.walk c.found_hdus_law.ensures.last c.survey_law.ensures.amend c.args.meter.now.live c.args.meter.now.limit c.args.hdu c.in_ok-found.found (g.D.Source.held c.args.store.now) c.requires.one_block look exact2 none2 in
    let held2 : g.D.Source.held c.survey_to_amend.new.source ≡ g.D.Source.held c.args.store.now = search rules in
    let same3 : IfSome (g.D.Source.held c.args.store.now) (SaysSame c.in_ok-found.found (Ok c.in_ok-kept.kept)) = rw held2 at c.in_ok-kept.ensures.same in
    let wanted : IfSome (g.D.Source.held c.args.store.now) (IsWanted c.args.hdu c.in_ok-kept.kept.facts) = wanted_of c.args.meter.now.live c.args.meter.now.limit c.args.hdu c.in_ok-found.found (g.D.Source.held c.args.store.now) c.in_ok-kept.kept known same3 in
    let held3 : g.D.Source.held c.read_again.new.store ≡ g.D.Source.held c.args.store.now = search rules in
    let corner : List ℕ = c.args.patching.now.asked.corner.now in
    let given : Option (List ℕ) = g.S.Source.held c.args.patch.now in
    let before : Option (List (ℕ × ℕ)) = g.S.Source.ranges c.args.patch.now in
    let now : Option (List (ℕ × ℕ)) = g.S.Source.ranges c.with_header-answer.new.patch in
    let h : Header = c.in_ok-kept.kept.facts in
    reads_wanted c.args.hdu corner h (g.D.Source.held c.args.store.now) given before now wanted c.with_header-answer.ensures.given_within
    (subst (λ (o : Option (List ℕ)). IfSome o (λ f. (any : Option ℕ) (x : Fault) → IsWanted any h f → found_alone f (job_at any corner) ≡ Err x → now ≡ before)) held3 c.with_header-answer.ensures.given_alone)
    (subst (λ (o : Option (List ℕ)). IfBoth o given (λ f p. (any : Option ℕ) (x : Fault) → IsWanted any h f → patch_target f p (job_at any corner) ≡ Err x → LogsIn (given_header_range p ∷ []) before now)) held3 c.with_header-answer.ensures.given_refused)
