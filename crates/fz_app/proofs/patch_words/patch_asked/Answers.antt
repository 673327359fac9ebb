-- What `patch` says of both files since they were attached, and of the meter that was narrowed, it says of them as they were before.
use Rattle.std.proofs.Common.{◌≡◌, ◌<◌, ap, rules, subst, sym, ◌∙◌, take}
use Rattle.fz_target.specs.Targets.{job_at}
use Rattle.fz_base.specs.Counts.{Tally}
use Rattle.fz_base.specs.Meter.{Gauge, narrowed}
use Rattle.fz_words.specs.PatchJobs.{PatchAsked}
use Rattle.fz_words.specs.Seen.{patch_asked_of}
use Rattle.fz_app.specs.PatchPromises.{job_asked}
use Rattle.fz_app.proofs.PatchAnswers.{attached as attached_both, unopened}
use Rattle.fz_app.proofs.PatchKept.{none_read, rest_untouched}
use Rattle.fz_app.proofs.patch_words.patch_asked.Goals as goal

pub returns-in_err-length-clause-ends : goal.returns-in_err-length-clause-ends
returns-in_err-length-clause-ends g c =
    unopened (patch_asked_of c.args.request.now) _ _ _ _ _ _ _ c.args.meter.now _ c.from_residual.result c.in_err-length.field-0.0 (search rules)
    c.attach_both.ensures.stays.0.0 c.narrow.ensures c.in_err-length.ensures.cause c.in_err-length.ensures.names c.requires.unused.0

pub returns-clause-ends : goal.returns-clause-ends
returns-clause-ends g c =
    let asked : PatchAsked = patch_asked_of c.args.request.now in
    let held : g.D.Source.held c.attach_both.new.store ≡ g.D.Source.held c.args.store.now = c.attach_both.ensures.stays.0.0 in
    let given : g.S.Source.held c.attach_both.new.patch ≡ g.S.Source.held c.args.patch.now = c.attach_both.ensures.stays.0.1 in
    let meter : c.narrow.new.self ≡ narrowed c.args.meter.now c.args.request.now.memory = c.narrow.ensures in
    let job : job_at c.args.request.now.hdu (take c.args.request.now.at.n c.corner_of-corner.result) ≡ job_asked asked = λ i. record { wanted = c.args.request.now.hdu; corner = c.corner_of-corner.ensures i } in
    attached_both asked (g.D.Source.held c.args.store.now) (g.D.Source.held c.patch.new.store) (g.S.Source.held c.args.patch.now)
    (g.D.Source.tally c.args.store.now) (g.D.Source.tally c.attach_both.new.store) (g.D.Source.tally c.patch.new.store)
    (g.S.Source.tally c.args.patch.now) (g.S.Source.tally c.attach_both.new.patch) (g.S.Source.tally c.patch.new.patch)
    c.args.meter.now c.patch.new.meter c.patch.result
    c.in_ok-length.ensures.cause.ok.0 c.in_ok-length.ensures.cause.ok.1 c.in_ok-length.ensures.names.both.0 c.in_ok-length.ensures.names.both.1
    (record {
      patched = rw (held, given, job) at c.patch.ensures.patched;
      safe = rw (held, given, job) at c.patch.ensures.safe;
      unwritten = rw (held, given, job, meter) at c.patch.ensures.unwritten;
      first_fault = rw (held, given, job) at c.patch.ensures.first_fault;
      answered = rw (held, given, job, meter) at c.patch.ensures.answered;
      cause = rw (held, given, job, meter) at c.patch.ensures.cause;
      buffers = rw (held, given, job, meter) at c.patch.ensures.buffers;
      counts = c.patch.ensures.counts;
    })

pub returns-in_err-length-clause-unread : goal.returns-in_err-length-clause-unread
returns-in_err-length-clause-unread g c = λ low. c.attach_both.ensures.stays.1

pub returns-clause-unread : goal.returns-clause-unread
returns-clause-unread g c = λ low.
    let unread = c.patch.ensures.unread (subst (λ (m : Gauge). m.limit < 2880) (sym c.narrow.ensures) low) in
    (unread.0 ∙ c.attach_both.ensures.stays.1.0, unread.1 ∙ c.attach_both.ensures.stays.1.1)

-- ---- what is kept of FILE, and what is read of PATCH

pub returns-in_err-length-clause-kept : goal.returns-in_err-length-clause-kept
returns-in_err-length-clause-kept g c =
    rest_untouched (job_asked (patch_asked_of c.args.request.now)) (g.S.Source.attached c.attach_both.new.patch) (g.S.Source.held c.args.patch.now) (g.D.Source.held c.args.store.now) (g.D.Source.held c.attach_both.new.store)
    (g.D.Source.tally c.args.store.now).amended.writes (g.D.Source.tally c.attach_both.new.store).amended.writes c.attach_both.ensures.stays.0.0 (ap (λ a. a.writes) c.in_err-length.ensures.cause.store_kept.not_amended)

pub returns-in_err-length-clause-given_touched : goal.returns-in_err-length-clause-given_touched
returns-in_err-length-clause-given_touched g c =
    none_read (g.D.Source.held c.args.store.now) (g.S.Source.held c.args.patch.now) (job_asked (patch_asked_of c.args.request.now)) (g.S.Source.ranges c.args.patch.now) (g.S.Source.ranges c.attach_both.new.patch) c.attach_both.ensures.stays.1.1

pub returns-clause-kept : goal.returns-clause-kept
returns-clause-kept g c =
    let asked : PatchAsked = patch_asked_of c.args.request.now in
    let held : g.D.Source.held c.attach_both.new.store ≡ g.D.Source.held c.args.store.now = c.attach_both.ensures.stays.0.0 in
    let given : g.S.Source.held c.attach_both.new.patch ≡ g.S.Source.held c.args.patch.now = c.attach_both.ensures.stays.0.1 in
    let attached : g.S.Source.attached c.attach_both.new.patch ≡ g.S.Source.attached c.patch.new.patch = sym c.patch.ensures.stays.0.attached_is in
    let writes : (g.D.Source.tally c.attach_both.new.store).amended.writes ≡ (g.D.Source.tally c.args.store.now).amended.writes = ap (λ (t : Tally). t.amended.writes) c.in_ok-length.ensures.cause.ok.0 in
    let job : job_at c.args.request.now.hdu (take c.args.request.now.at.n c.corner_of-corner.result) ≡ job_asked asked = λ i. record { wanted = c.args.request.now.hdu; corner = c.corner_of-corner.ensures i } in
    rw (held, given, attached, writes, job) at c.patch.ensures.kept

pub returns-clause-given_touched : goal.returns-clause-given_touched
returns-clause-given_touched g c =
    let asked : PatchAsked = patch_asked_of c.args.request.now in
    let held : g.D.Source.held c.attach_both.new.store ≡ g.D.Source.held c.args.store.now = c.attach_both.ensures.stays.0.0 in
    let given : g.S.Source.held c.attach_both.new.patch ≡ g.S.Source.held c.args.patch.now = c.attach_both.ensures.stays.0.1 in
    let ranges : g.S.Source.ranges c.attach_both.new.patch ≡ g.S.Source.ranges c.args.patch.now = c.attach_both.ensures.stays.1.1 in
    let job : job_at c.args.request.now.hdu (take c.args.request.now.at.n c.corner_of-corner.result) ≡ job_asked asked = λ i. record { wanted = c.args.request.now.hdu; corner = c.corner_of-corner.ensures i } in
    rw (held, given, ranges, job) at c.patch.ensures.given_touched
