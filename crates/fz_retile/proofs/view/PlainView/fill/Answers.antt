-- The band has the box, or why a tile was not read is kept.
use Rattle.std.proofs.Common.{◌≡◌, ℕ, List, Option, refl, ◌∙◌, arith, rules}
use Rattle.fz_base.specs.declared.failure.Stop.{Stop}
use Rattle.fz_job.specs.Images.{IsReadable}
use Rattle.fz_retile.proofs.Imaging.{image_known, image_read}
use Rattle.fz_retile.proofs.Keeping.{boxed_at_hand, bytes_filled, failures_kept, failures_stop, known_boxed, known_unboxed, late_row, reads_kept, refusals_kept, refusals_stop, room_filled, unboxed_at_hand}
use Rattle.fz_retile.proofs.Keeping.{first_kept}
use Rattle.fz_retile.proofs.Marking.{marks_filled, marks_shown}
use Rattle.fz_retile.proofs.Same.{failures_same, fits_same, octets_same, refusals_same}
use Rattle.fz_retile.proofs.Tallies.{cause_kept}
use Rattle.fz_retile.proofs.view.PlainView.fill.Goals as goal

pub fill_band-requires-clause-image : goal.fill_band-requires-clause-image
fill_band-requires-clause-image g c =
    let v = c.args.self.now in
    image_read v.length v.plain_len v.survey v.first v.space v.here v.boxed c.args.here.now c.args.image.now c.requires.here c.requires.image c.readable_law.ensures v.at_hand

pub fill_band-requires-clause-known : goal.fill_band-requires-clause-known
fill_band-requires-clause-known g c =
    let v = c.args.self.now in
    let readable : IsReadable c.args.image.now = image_read v.length v.plain_len v.survey v.first v.space v.here v.boxed c.args.here.now c.args.image.now c.requires.here c.requires.image c.readable_law.ensures v.at_hand in
    image_known v.length v.plain_len v.survey v.first v.space v.here v.boxed c.args.here.now c.args.image.now c.requires.here c.requires.image c.image_law.ensures
    (g.S.Source.held v.inner.now) (g.met.S.Source.octets v.inner.now) readable v.known

pub fill_band-requires-clause-within : goal.fill_band-requires-clause-within
fill_band-requires-clause-within g c =
    let v = c.args.self.now in
    let near = (v.at_hand.read c.args.here.now c.requires.here).near c.args.image.now c.requires.image in
    (v.length, omega (arith, v.fixed.near), v.is_attached, near)

pub fill_band-requires-clause-numbers : goal.fill_band-requires-clause-numbers
fill_band-requires-clause-numbers g c =
    let v = c.args.self.now in
    let small = (v.at_hand.read c.args.here.now c.requires.here).small c.args.image.now c.requires.image in
    omega (arith, small, v.room.numbers)

pub fill_band-requires-clause-code : goal.fill_band-requires-clause-code
fill_band-requires-clause-code g c =
    let v = c.args.self.now in
    let small = (v.at_hand.read c.args.here.now c.requires.here).small c.args.image.now c.requires.image in
    omega (arith, small, v.room.code)

pub fill_band-requires-clause-marks : goal.fill_band-requires-clause-marks
fill_band-requires-clause-marks g c =
    let v = c.args.self.now in
    marks_shown (g.S.Source.held v.inner.now) v.here c.args.here.now c.args.image.now v.space.numbers c.requires.here c.requires.image v.marks

pub invariant_of-self : goal.invariant_of-self
invariant_of-self g c =
    let v = c.args.self.now in
    let new = c.fill_band.new in
    let done = c.in-Ok.ensures in
    let held : Option (List ℕ) = g.S.Source.held v.inner.now in
    let held' : Option (List ℕ) = g.S.Source.held new.source in
    let same : held' ≡ held = done.stays.0.held_is in
    record {
      is_attached = done.stays.0.attached_is ∙ v.is_attached;
      fixed = v.fixed;
      room = room_filled v.survey.header_len v.survey.tile v.space new.space v.room done.stays.1;
      at_hand = boxed_at_hand v.length v.plain_len v.survey v.space new.space v.here v.boxed c.args.here.now c.args.image.now c.args.region.now done.stays.1 c.requires.here c.requires.image c.requires.region v.at_hand;
      known = known_boxed v.plain_len v.survey v.first held held' v.space new.space v.here v.boxed c.args.here.now c.args.region.now same done.stays.1 c.requires.here done.filled v.known;
      marks = marks_filled held held' same v.here c.args.here.now c.args.image.now new.space.numbers c.requires.here c.requires.image done.marks;
      fits = fits_same held held' same v.plain_len v.fits;
      octets = octets_same held held' same v.octets;
      reads = reads_kept c.ranges_law.ensures.join held held' (g.S.Source.ranges v.start.value) (g.S.Source.ranges v.inner.now) (g.S.Source.ranges new.source) same done.read done.stays.0.told v.reads;
      refusals = refusals_same held held' same v.later v.more v.refusals;
      failures = failures_same (g.S.Source.tally v.start.value) (g.S.Source.tally v.inner.now) (g.S.Source.tally new.source) v.failed done.cause.ok v.failures;
    }

pub returns-in-Ok-clause-stays : goal.returns-in-Ok-clause-stays
returns-in-Ok-clause-stays g c = (
  record {
    name = search rules;
    start = refl;
    held = c.in-Ok.ensures.stays.0.held_is;
    plain_len = refl;
    packed_len = refl;
    space = bytes_filled c.args.self.now.space c.fill_band.new.space c.in-Ok.ensures.stays.1;
  },
  search rules,
  search rules,
)

pub invariant_of-self-in-Err : goal.invariant_of-self-in-Err
invariant_of-self-in-Err g c =
    let v = c.args.self.now in
    let new = c.fill_band.new in
    let done = c.in-Err.ensures in
    let stop : Stop = c.in-Err.stop in
    let held : Option (List ℕ) = g.S.Source.held v.inner.now in
    let held' : Option (List ℕ) = g.S.Source.held new.source in
    let same : held' ≡ held = done.stays.0.held_is in
    let start = g.S.Source.tally v.start.value in
    let t1 = g.S.Source.tally new.source in
    record {
      is_attached = done.stays.0.attached_is ∙ v.is_attached;
      fixed = v.fixed;
      room = room_filled v.survey.header_len v.survey.tile v.space new.space v.room done.stays.1;
      at_hand = unboxed_at_hand v.length v.plain_len v.survey v.space new.space v.here v.boxed done.stays.1 v.at_hand;
      known = known_unboxed v.plain_len v.survey v.first held held' v.space new.space v.here v.boxed same done.stays.1 v.known;
      marks = marks_filled held held' same v.here c.args.here.now c.args.image.now new.space.numbers c.requires.here c.requires.image done.marks;
      fits = fits_same held held' same v.plain_len v.fits;
      octets = octets_same held held' same v.octets;
      reads = reads_kept c.ranges_law.ensures.join held held' (g.S.Source.ranges v.start.value) (g.S.Source.ranges v.inner.now) (g.S.Source.ranges new.source) same done.read done.stays.0.told v.reads;
      refusals = refusals_kept held' stop v.later c.keep_stop.new.later v.more c.keep_stop.new.more c.keep_stop.ensures.later c.keep_stop.ensures.more
          (refusals_stop (Unit {0}) held held' stop v.later v.more same (late_row (Unit {0}) (Unit {0}) stop done.row) done.never v.refusals);
      failures = failures_kept start t1 stop v.failed c.keep_stop.new.failed c.keep_stop.ensures.failed
          (failures_stop start (g.S.Source.tally v.inner.now) t1 stop v.failed done.cause.kept done.cause.stop v.failures);
    }

pub returns-in-Err-clause-stays : goal.returns-in-Err-clause-stays
returns-in-Err-clause-stays g c = (
  record {
    name = search rules;
    start = refl;
    held = c.in-Err.ensures.stays.0.held_is;
    plain_len = refl;
    packed_len = refl;
    space = bytes_filled c.args.self.now.space c.fill_band.new.space c.in-Err.ensures.stays.1;
  },
  search rules,
  search rules,
)

pub returns-in-Err-clause-cause : goal.returns-in-Err-clause-cause
returns-in-Err-clause-cause g c =
    let v = c.args.self.now in
    let new = c.fill_band.new in
    record {
      counts = cause_kept (Unit {0}) (g.S.Source.tally v.inner.now) (g.S.Source.tally new.source) v.more c.keep_stop.new.more c.in-Err.stop c.keep_stop.result c.keep_stop.ensures.more c.keep_stop.ensures.answer
          c.in-Err.ensures.cause.kept c.in-Err.ensures.cause.stop;
      first = first_kept (Unit {0}) v.later c.keep_stop.new.later c.in-Err.stop c.keep_stop.result c.keep_stop.ensures.later;
    }
