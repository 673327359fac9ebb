-- The bytes are those of the packed file, or why they were not read is kept.
use Rattle.std.proofs.Common.{◌≡◌, ℕ, true, List, Option, IfSome, ◌∙◌, arith}
use Rattle.fz_base.specs.Ranges.{LogsIn}
use Rattle.fz_base.specs.declared.failure.Stop.{Stop}
use Rattle.fz_files.specs.Touched.{touched_by}
use Rattle.fz_files.specs.declared.job.Job.TheVariants.{Unpack}
use Rattle.fz_retile.specs.Views.{is_late}
use Rattle.fz_retile.proofs.Copying.{copy_read}
use Rattle.fz_retile.proofs.Keeping.{failures_kept, failures_stop, reading_never, reading_not_refused, reading_stopped, reads_kept, refusals_kept, refusals_stop}
use Rattle.fz_retile.proofs.Keeping.{first_kept}
use Rattle.fz_retile.proofs.Marking.{marks_same}
use Rattle.fz_retile.proofs.Same.{failures_same, fits_same, known_same, octets_same, refusals_same}
use Rattle.fz_retile.proofs.Shown.{copied_shown}
use Rattle.fz_retile.proofs.Tallies.{cause_kept}
use Rattle.fz_retile.proofs.view.PlainView.read_copied.Goals as goal

pub overflow_add-from : goal.overflow_add-from
overflow_add-from g c =
    let v = c.args.self.now in
    let read = v.at_hand.read c.args.here.now c.requires.here in
    let whole = read.order.whole c.requires.copied in
    omega (arith, whole, read.order.within, v.fixed.near, c.requires.has)

pub read_front-requires-clause-within : goal.read_front-requires-clause-within
read_front-requires-clause-within g c =
    let v = c.args.self.now in
    let h = c.args.here.now in
    let read = v.at_hand.read h c.requires.here in
    let whole = read.order.whole c.requires.copied in
    (v.length, v.is_attached, omega (arith, whole, read.order.within, c.requires.has, c.min-count.ensures))

pub returns-in-Ok-clause-bytes : goal.returns-in-Ok-clause-bytes
returns-in-Ok-clause-bytes g c =
    let v = c.args.self.now in
    let h = c.args.here.now in
    copied_shown c.pieces_law.ensures (g.S.Source.held v.inner.now) v.plain_len v.survey v.first v.space v.here v.boxed h c.requires.here v.known c.args.at c.min-count.result c.read_front.new.into
    c.requires.copied c.requires.has.0 (omega (arith, c.requires.has, c.min-count.ensures)) c.in-Ok.ensures.bytes

pub invariant_of-self : goal.invariant_of-self
invariant_of-self g c =
    let v = c.args.self.now in
    let h = c.args.here.now in
    let new = c.read_front.new in
    let done = c.in-Ok.ensures in
    let held : Option (List ℕ) = g.S.Source.held v.inner.now in
    let held' : Option (List ℕ) = g.S.Source.held new.source in
    let same : held' ≡ held = done.stays.0.held_is in
    let order = (v.at_hand.read h c.requires.here).order in
    let read : IfSome held (λ f. LogsIn (touched_by Unpack f) (g.S.Source.ranges v.inner.now) (g.S.Source.ranges new.source)) =
    copy_read c.touched_law.ensures.copy c.log_law.ensures.one v.plain_len v.length _ v.survey v.first v.space v.here v.boxed h c.requires.here c.requires.copied order
    held c.args.at c.min-count.result (g.S.Source.ranges v.inner.now) (g.S.Source.ranges new.source) v.known (omega (arith, c.requires.has, c.requires.some, c.min-count.ensures)) c.requires.has.0
    (omega (arith, c.requires.has, c.min-count.ensures)) done.log in
    record {
      is_attached = done.stays.0.attached_is ∙ v.is_attached;
      fixed = v.fixed;
      room = v.room;
      at_hand = v.at_hand;
      known = known_same held held' same v.plain_len v.survey v.first v.space v.here v.boxed v.known;
      marks = marks_same held held' same v.here v.space.numbers v.marks;
      fits = fits_same held held' same v.plain_len v.fits;
      octets = octets_same held held' same v.octets;
      reads = reads_kept c.ranges_law.ensures.join held held' (g.S.Source.ranges v.start.value) (g.S.Source.ranges v.inner.now) (g.S.Source.ranges new.source) same read done.stays.0.told v.reads;
      refusals = refusals_same held held' same v.later v.more v.refusals;
      failures = failures_same (g.S.Source.tally v.start.value) (g.S.Source.tally v.inner.now) (g.S.Source.tally new.source) v.failed done.cause.ok v.failures;
    }

pub invariant_of-self-in-Err : goal.invariant_of-self-in-Err
invariant_of-self-in-Err g c =
    let v = c.args.self.now in
    let h = c.args.here.now in
    let new = c.read_front.new in
    let done = c.in-Err.ensures in
    let stop : Stop = c.reading.result in
    let held : Option (List ℕ) = g.S.Source.held v.inner.now in
    let held' : Option (List ℕ) = g.S.Source.held new.source in
    let same : held' ≡ held = done.stays.0.held_is in
    let start = g.S.Source.tally v.start.value in
    let t0 = g.S.Source.tally v.inner.now in
    let t1 = g.S.Source.tally new.source in
    let order = (v.at_hand.read h c.requires.here).order in
    let read : IfSome held (λ f. LogsIn (touched_by Unpack f) (g.S.Source.ranges v.inner.now) (g.S.Source.ranges new.source)) =
    copy_read c.touched_law.ensures.copy c.log_law.ensures.one v.plain_len v.length _ v.survey v.first v.space v.here v.boxed h c.requires.here c.requires.copied order
    held c.args.at c.min-count.result (g.S.Source.ranges v.inner.now) (g.S.Source.ranges new.source) v.known (omega (arith, c.requires.has, c.requires.some, c.min-count.ensures)) c.requires.has.0
    (omega (arith, c.requires.has, c.min-count.ensures)) done.log in
    record {
      is_attached = done.stays.0.attached_is ∙ v.is_attached;
      fixed = v.fixed;
      room = v.room;
      at_hand = v.at_hand;
      known = known_same held held' same v.plain_len v.survey v.first v.space v.here v.boxed v.known;
      marks = marks_same held held' same v.here v.space.numbers v.marks;
      fits = fits_same held held' same v.plain_len v.fits;
      octets = octets_same held held' same v.octets;
      reads = reads_kept c.ranges_law.ensures.join held held' (g.S.Source.ranges v.start.value) (g.S.Source.ranges v.inner.now) (g.S.Source.ranges new.source) same read done.stays.0.told v.reads;
      refusals = refusals_kept held' stop v.later c.keep_stop.new.later v.more c.keep_stop.new.more c.keep_stop.ensures.later c.keep_stop.ensures.more
          (refusals_stop (Unit {0}) held held' stop v.later v.more same (reading_not_refused (Unit {0}) c.in-Err.failed stop (λ x. is_late x ≡ true) c.reading.ensures)
          (reading_never (Unit {0}) held c.in-Err.failed stop c.reading.ensures) v.refusals);
      failures = failures_kept start t1 stop v.failed c.keep_stop.new.failed c.keep_stop.ensures.failed
          (failures_stop start t0 t1 stop v.failed done.cause.kept (reading_stopped t0 t1 c.in-Err.failed stop c.reading.ensures done.cause) v.failures);
    }

pub returns-in-Err-clause-cause : goal.returns-in-Err-clause-cause
returns-in-Err-clause-cause g c =
    let v = c.args.self.now in
    let t0 = g.S.Source.tally v.inner.now in
    let t1 = g.S.Source.tally c.read_front.new.source in
    record {
      counts = cause_kept ℕ t0 t1 v.more c.keep_stop.new.more c.reading.result c.keep_stop.result c.keep_stop.ensures.more c.keep_stop.ensures.answer
          c.in-Err.ensures.cause.kept (reading_stopped t0 t1 c.in-Err.failed c.reading.result c.reading.ensures c.in-Err.ensures.cause);
      first = first_kept ℕ v.later c.keep_stop.new.later c.reading.result c.keep_stop.result c.keep_stop.ensures.later;
    }
