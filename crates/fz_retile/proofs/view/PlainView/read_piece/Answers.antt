-- The bytes are those of a header, or zeros; pixels and copied bytes are read elsewhere.
use Rattle.std.proofs.Common.{◌≡◌, ℕ, ◌+◌, ◌-◌, List, take, drop, Option, ◌∙◌, length, ap, subst, arith}
use Rattle.std.specs.Prelude.{IfOk}
use Rattle.fz_retile.specs.Views.{ReadsFront, restored_from, with_more}
use Rattle.fz_retile.proofs.Shown.{fill_shown, header_shown, part_front}
use Rattle.fz_retile.proofs.Tallies.{cause_after, first_after}
use Rattle.fz_retile.proofs.view.PlainView.read_piece.Goals as goal

pub returns-then-at-here-clause-bytes : goal.returns-then-at-here-clause-bytes
returns-then-at-here-clause-bytes g c =
    let v = c.go_to.new.self in
    let h = c.in_ok-here.here in
    let is = c.in_ok-here.ensures.here in
    let order = (v.at_hand.read h is).order in
    let n : ℕ = c.put_front.result in
    let into : List ℕ = c.put_front.new.into in
    let held : Option (List ℕ) = g.S.Source.held v.inner.now in
    let read : take n into ≡ take n (drop (c.args.at - h.at) (take (h.data_at - h.at) v.space.translated)) =
    c.put_front.ensures.bytes
    ∙ ap (λ (l : List ℕ). take n (take (h.data_at - h.at - (c.args.at - h.at)) (drop (c.args.at - h.at) l))) c.as_slice-made.ensures
    ∙ part_front n (c.args.at - h.at) (h.data_at - h.at) v.space.translated (omega (arith, c.put_front.ensures.count, order.made, c.in_ok-here.ensures.has)) in
    subst (λ (l : Option (List ℕ)). ReadsFront (restored_from l) c.args.at n into) c.in_ok-here.ensures.view.held
    (header_shown c.pieces_law.ensures held v.plain_len v.survey v.first v.space v.here v.boxed h is v.known c.args.at n into c.in_ok-here.ensures.has.0 (omega (arith, c.put_front.ensures.count, order.made, c.in_ok-here.ensures.has)) read)

pub returns-clause-bytes : goal.returns-clause-bytes
returns-clause-bytes g c =
    let v = c.go_to.new.self in
    let h = c.in_ok-here.here in
    let is = c.in_ok-here.ensures.here in
    let n : ℕ = c.min-count.result in
    let into : List ℕ = c.put_zeros.new.into in
    let held : Option (List ℕ) = g.S.Source.held v.inner.now in
    subst (λ (l : Option (List ℕ)). ReadsFront (restored_from l) c.args.at n into) c.in_ok-here.ensures.view.held
    (fill_shown c.pieces_law.ensures held v.plain_len v.survey v.first v.space v.here v.boxed h is v.known c.in-Some.image c.in-Some.is c.args.at n into (omega arith) (omega (arith, c.min-count.ensures, c.in_ok-here.ensures.has)) c.put_zeros.ensures.bytes)

pub slice_bounds-put_front-end : goal.slice_bounds-put_front-end
slice_bounds-put_front-end g c =
    let v = c.go_to.new.self in
    let order = (v.at_hand.read c.in_ok-here.here c.in_ok-here.ensures.here).order in
    omega (arith, order.made, ap length c.as_slice-made.ensures)

-- ---- what is read elsewhere, of the view as it is then

pub returns-in_default-clause-bytes : goal.returns-in_default-clause-bytes
returns-in_default-clause-bytes g c =
    subst (λ (l : Option (List ℕ)). IfOk c.read_copied.result (λ n. ReadsFront (restored_from l) c.args.at n c.read_copied.new.into)) c.in_ok-here.ensures.view.held
    c.read_copied.ensures.bytes

pub returns-in_default-clause-cause : goal.returns-in_default-clause-cause
returns-in_default-clause-cause g c =
    let v = c.args.self.now in
    let mid = c.go_to.new.self in
    let new = c.read_copied.new.self in
    record {
      counts = cause_after ℕ (with_more (g.S.Source.tally v.inner.now) v.more) (with_more (g.S.Source.tally mid.inner.now) mid.more)
          (with_more (g.S.Source.tally new.inner.now) new.more) c.read_copied.result c.in_ok-here.ensures.cause.counts.ok c.read_copied.ensures.cause.counts;
      first = first_after ℕ v.later mid.later new.later c.read_copied.result c.in_ok-here.ensures.cause.first.ok c.read_copied.ensures.cause.first;
    }

pub returns-then-at-here-2-clause-bytes : goal.returns-then-at-here-2-clause-bytes
returns-then-at-here-2-clause-bytes g c =
    let h = c.in_ok-here.here in
    let mid : Option (List ℕ) = g.S.Source.held c.go_to.new.self.inner.now in
    let place : h.data_at + (c.args.at - h.data_at) ≡ c.args.at = omega arith in
    subst (λ (l : Option (List ℕ)). IfOk c.read_pixels.result (λ n. ReadsFront (restored_from l) c.args.at n c.read_pixels.new.into)) c.in_ok-here.ensures.view.held
    (subst (λ k. IfOk c.read_pixels.result (λ n. ReadsFront (restored_from mid) k n c.read_pixels.new.into)) place c.read_pixels.ensures.bytes)

pub returns-then-at-here-2-clause-cause : goal.returns-then-at-here-2-clause-cause
returns-then-at-here-2-clause-cause g c =
    let v = c.args.self.now in
    let mid = c.go_to.new.self in
    let new = c.read_pixels.new.self in
    record {
      counts = cause_after ℕ (with_more (g.S.Source.tally v.inner.now) v.more) (with_more (g.S.Source.tally mid.inner.now) mid.more)
          (with_more (g.S.Source.tally new.inner.now) new.more) c.read_pixels.result c.in_ok-here.ensures.cause.counts.ok c.read_pixels.ensures.cause.counts;
      first = first_after ℕ v.later mid.later new.later c.read_pixels.result c.in_ok-here.ensures.cause.first.ok c.read_pixels.ensures.cause.first;
    }
