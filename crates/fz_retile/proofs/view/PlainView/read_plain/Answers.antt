-- One piece after another.
use Rattle.std.proofs.Common.{◌≡◌, ℕ, ◌+◌, ◌-◌, ◌≤◌, List, ◌++◌, length, drop, Option, Err, refl, ◌∙◌, subst, arith, length-take, rules}
use borrow.Rule.Slice.PartMut.{post_of, put_mid, same_len_mid}
use Rattle.fz_base.specs.declared.failure.Failed.{Failed}
use Rattle.fz_retile.specs.Views.{ReadsFront, restored_from, with_more}
use Rattle.fz_retile.proofs.Shown.{all_read, front_longer, more_front}
use Rattle.fz_retile.proofs.Tallies.{cause_since, first_since}
use Rattle.fz_retile.proofs.view.PlainView.read_plain.Goals as goal

pub loop-done-preserved : goal.loop-done-preserved
loop-done-preserved g c =
    let old = c.loop-done.invariant in
    let n : ℕ = c.in_ok-done.field-0 in
    let one = c.in_ok-done.ensures in
    let plain = restored_from (g.S.Source.held c.args.self.now.inner.now) in
    let done : ℕ = c.loop-done.done in
    let into : List ℕ = c.loop-done.into in
    let left : ℕ = length into - done in
    let piece : List ℕ = c.read_piece.new.into in
    let same : length (put_mid done left into piece) ≡ length into = same_len_mid done left into piece one.stays.1 in
    let few : n ≤ left = omega (arith, one.count, length-take left (drop done into)) in
    record {
      view = record {
        name = one.stays.0.name ∙ old.view.name;
        start = one.stays.0.start ∙ old.view.start;
        held = one.stays.0.held ∙ old.view.held;
        plain_len = one.stays.0.plain_len ∙ old.view.plain_len;
        packed_len = one.stays.0.packed_len ∙ old.view.packed_len;
        space = one.stays.0.space ∙ old.view.space;
      };
      cause = one.cause.counts.ok ∙ old.cause;
      later = one.cause.first.ok ∙ old.later;
      long = same ∙ old.long;
      few = omega (arith, same, few, old.few);
      bytes = more_front plain done n c.args.at into (piece ++ post_of done left into) (put_mid done left into piece) old.few refl old.bytes
          (front_longer plain (c.args.at + done) n piece (post_of done left into) (omega (arith, one.stays.1, one.count))
          (subst (λ (h : Option (List ℕ)). ReadsFront (restored_from h) (c.args.at + done) n piece) old.view.held one.bytes));
    }

pub returns-clause-bytes : goal.returns-clause-bytes
returns-clause-bytes g c =
    let old = c.loop-done.invariant in
    all_read (restored_from (g.S.Source.held c.args.self.now.inner.now)) c.args.at c.loop-done.done c.loop-done.into (omega (arith, old.few)) old.bytes

-- why a piece was not read is why not all are
pub returns-in_err-done-clause-cause : goal.returns-in_err-done-clause-cause
returns-in_err-done-clause-cause g c =
    let v = c.args.self.now in
    let mid = c.loop-done.self in
    let new = c.read_piece.new.self in
    let failed : Failed = c.in_err-done.field-0.0 in
    let stopped : c.from_residual.result ≡ Err failed = search rules in
    record {
      counts = cause_since ℕ (Unit {0}) (with_more (g.S.Source.tally v.inner.now) v.more) (with_more (g.S.Source.tally mid.inner.now) mid.more)
          (with_more (g.S.Source.tally new.inner.now) new.more) failed c.from_residual.result stopped c.loop-done.invariant.cause
          c.in_err-done.ensures.cause.counts;
      first = first_since ℕ (Unit {0}) v.later mid.later new.later failed c.from_residual.result stopped c.loop-done.invariant.later
          c.in_err-done.ensures.cause.first;
    }
