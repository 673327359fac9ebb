-- The HDU is at hand, or why its header was not read is kept.
use Rattle.std.proofs.Common.{◌≡◌, ℕ, List, Option, Some, None, refl, ◌∙◌, rules}
use Rattle.fz_base.specs.declared.failure.Stop.{Stop}
use Rattle.fz_look.specs.declared.here.Here.{Here}
use Rattle.fz_retile.proofs.Keeping.{begun_of, bytes_filled, bytes_read, failures_kept, failures_stop, known_none, known_read, known_unboxed, late_changed, none_at_hand, read_at_hand, reads_kept, refusals_kept, refusals_stop, room_filled, room_read, unboxed_at_hand}
use Rattle.fz_retile.proofs.Keeping.{first_kept}
use Rattle.fz_retile.proofs.Marking.{marks_cleared, marks_none}
use Rattle.fz_retile.proofs.Same.{failures_same, fits_same, octets_same, refusals_same}
use Rattle.fz_retile.proofs.Tallies.{cause_kept}
use Rattle.fz_retile.proofs.view.PlainView.read_hdu.Goals as goal

pub read_begun-answer-requires-clause-told : goal.read_begun-answer-requires-clause-told
read_begun-answer-requires-clause-told g c =
    let v = c.args.self.now in
    begun_of (g.S.Source.held v.inner.now) v.survey v.plain_len c.args.begin.now v.first v.space v.here v.boxed v.known c.requires.told

pub invariant_of-self : goal.invariant_of-self
invariant_of-self g c =
    let v = c.args.self.now in
    let mid = c.read_begun-answer.new in
    let new = c.forget_marks.new.space in
    let held : Option (List ℕ) = g.S.Source.held v.inner.now in
    let held' : Option (List ℕ) = g.S.Source.held mid.source in
    let same : held' ≡ held = c.in-Ok.ensures.stays.0.held_is in
    let stay = c.forget_marks.ensures.space in
    record {
      is_attached = c.in-Ok.ensures.stays.0.attached_is ∙ v.is_attached;
      fixed = v.fixed;
      room = room_filled v.survey.header_len v.survey.tile mid.space new (room_read v.survey.header_len v.survey.tile v.space mid.space v.room c.in-Ok.ensures.stays.1) stay;
      at_hand = unboxed_at_hand v.length v.plain_len v.survey mid.space new (Some c.in-Ok.here) None stay
          (read_at_hand v.length v.plain_len v.survey v.space mid.space c.in-Ok.here c.in-Ok.ensures.stays.1 c.in-Ok.ensures.read);
      known = known_unboxed v.plain_len v.survey v.first held' held' mid.space new (Some c.in-Ok.here) None refl stay
          (known_read v.plain_len v.survey v.first held held' v.space mid.space v.here v.boxed c.in-Ok.here same v.known c.in-Ok.ensures.told);
      marks = marks_cleared held' (Some c.in-Ok.here) new.numbers c.forget_marks.ensures.none;
      fits = fits_same held held' same v.plain_len v.fits;
      octets = octets_same held held' same v.octets;
      reads = reads_kept c.ranges_law.ensures.join held held' (g.S.Source.ranges v.start.value) (g.S.Source.ranges v.inner.now) (g.S.Source.ranges mid.source) same c.in-Ok.ensures.touched c.in-Ok.ensures.stays.0.told v.reads;
      refusals = refusals_same held held' same v.later v.more v.refusals;
      failures = failures_same (g.S.Source.tally v.start.value) (g.S.Source.tally v.inner.now) (g.S.Source.tally mid.source) v.failed c.in-Ok.ensures.cause.ok v.failures;
    }

pub returns-in-Ok-clause-view : goal.returns-in-Ok-clause-view
returns-in-Ok-clause-view g c =
    let v = c.args.self.now in
    let mid = c.read_begun-answer.new in
    record {
      name = search rules;
      start = refl;
      held = c.in-Ok.ensures.stays.0.held_is;
      plain_len = refl;
      packed_len = refl;
      space = bytes_filled mid.space c.forget_marks.new.space c.forget_marks.ensures.space ∙ bytes_read v.space mid.space c.in-Ok.ensures.stays.1;
    }

pub invariant_of-self-in-Err : goal.invariant_of-self-in-Err
invariant_of-self-in-Err g c =
    let v = c.args.self.now in
    let new = c.read_begun-answer.new in
    let stop : Stop = c.in-Err.stop in
    let held : Option (List ℕ) = g.S.Source.held v.inner.now in
    let held' : Option (List ℕ) = g.S.Source.held new.source in
    let same : held' ≡ held = c.in-Err.ensures.stays.0.held_is in
    let start = g.S.Source.tally v.start.value in
    let t1 = g.S.Source.tally new.source in
    record {
      is_attached = c.in-Err.ensures.stays.0.attached_is ∙ v.is_attached;
      fixed = v.fixed;
      room = room_read v.survey.header_len v.survey.tile v.space new.space v.room c.in-Err.ensures.stays.1;
      at_hand = none_at_hand v.length v.plain_len v.survey new.space;
      known = known_none v.plain_len v.survey v.first held held' v.space new.space v.here v.boxed same v.known;
      marks = marks_none held' new.space.numbers;
      fits = fits_same held held' same v.plain_len v.fits;
      octets = octets_same held held' same v.octets;
      reads = reads_kept c.ranges_law.ensures.join held held' (g.S.Source.ranges v.start.value) (g.S.Source.ranges v.inner.now) (g.S.Source.ranges new.source) same c.in-Err.ensures.touched c.in-Err.ensures.stays.0.told v.reads;
      refusals = refusals_kept held' stop v.later c.keep_stop.new.later v.more c.keep_stop.new.more c.keep_stop.ensures.later c.keep_stop.ensures.more
          (refusals_stop Here held held' stop v.later v.more same (late_changed Here Here stop c.in-Err.ensures.changed) c.in-Err.ensures.never v.refusals);
      failures = failures_kept start t1 stop v.failed c.keep_stop.new.failed c.keep_stop.ensures.failed
          (failures_stop start (g.S.Source.tally v.inner.now) t1 stop v.failed c.in-Err.ensures.cause.kept c.in-Err.ensures.cause.stop v.failures);
    }

pub returns-in-Err-clause-view : goal.returns-in-Err-clause-view
returns-in-Err-clause-view g c = record {
  name = search rules;
  start = refl;
  held = c.in-Err.ensures.stays.0.held_is;
  plain_len = refl;
  packed_len = refl;
  space = bytes_read c.args.self.now.space c.read_begun-answer.new.space c.in-Err.ensures.stays.1;
}

pub returns-in-Err-clause-cause : goal.returns-in-Err-clause-cause
returns-in-Err-clause-cause g c =
    let v = c.args.self.now in
    let new = c.read_begun-answer.new in
    record {
      counts = cause_kept Here (g.S.Source.tally v.inner.now) (g.S.Source.tally new.source) v.more c.keep_stop.new.more c.in-Err.stop c.keep_stop.result c.keep_stop.ensures.more c.keep_stop.ensures.answer
          c.in-Err.ensures.cause.kept c.in-Err.ensures.cause.stop;
      first = first_kept Here v.later c.keep_stop.new.later c.in-Err.stop c.keep_stop.result c.keep_stop.ensures.later;
    }
