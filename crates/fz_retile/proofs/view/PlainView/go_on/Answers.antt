-- The next HDU begins where the one at hand ends.
use Rattle.std.proofs.Common.{◌≡◌, ℕ, ◌+◌, ◌<◌, false, List, Option, IfSome, refl, sym, ◌∙◌, subst, arith, true≢false, rules}
use Rattle.fz_base.specs.declared.failure.Stop.{Stop}
use Rattle.fz_block.specs.Header.{next_start_of}
use Rattle.fz_look.specs.Here.{IsPlaced}
use Rattle.fz_look.specs.Laws.{HasNext}
use Rattle.fz_look.specs.declared.here.Here.{Here}
use Rattle.fz_retile.proofs.Keeping.{changed_late, changed_why, failures_kept, failures_stop, never_missed, next_begins, next_of_view, refusals_kept, refusals_stop}
use Rattle.fz_retile.proofs.Keeping.{first_kept}
use Rattle.fz_retile.proofs.Tallies.{cause_kept, kept_same}
use Rattle.fz_retile.proofs.view.PlainView.go_on.Goals as goal

pub next_start-requires : goal.next_start-requires
next_start-requires g c =
    let v = c.args.self.now in
    omega (arith, (v.at_hand.read c.args.here.now c.requires.here).order.within, v.fixed.near)

pub overflow_add-begin : goal.overflow_add-begin
overflow_add-begin g c = omega (arith, (c.args.self.now.at_hand.read c.args.here.now c.requires.here).order.number)

pub read_hdu-requires-clause-told : goal.read_hdu-requires-clause-told
read_hdu-requires-clause-told g c =
    let v = c.args.self.now in
    let held : Option (List ℕ) = g.S.Source.held v.inner.now in
    let h = c.args.here.now in
    subst (λ n. IfSome held (λ f. IsPlaced f (h.read.header.hdu + 1) n c.is_empty_primary.result h.end)) (sym c.next_start.ensures)
    (subst (λ flag. IfSome held (λ f. IsPlaced f (h.read.header.hdu + 1) (next_start_of h.read.header) flag h.end)) (sym c.is_empty_primary.ensures)
    (next_begins held v.survey c.args.here.now (next_of_view c.places_law.ensures.next held v.survey v.plain_len v.first v.space v.here v.boxed c.args.here.now c.requires.here c.requires.more v.known)))

pub invariant_of-self : goal.invariant_of-self
invariant_of-self g c =
    let v = c.args.self.now in
    let h = c.args.here.now in
    let held : Option (List ℕ) = g.S.Source.held v.inner.now in
    let stop : Stop = c.changed-stop.result in
    let start = g.S.Source.tally v.start.value in
    let now = g.S.Source.tally v.inner.now in
    let next : IfSome held (λ f. HasNext f v.survey h) = next_of_view c.places_law.ensures.next held v.survey v.plain_len v.first v.space v.here v.boxed h c.requires.here c.requires.more v.known in
    let no : c.is_there.result ≡ false = search rules in
    let gone : ((h.read.header.hdu + 1 < v.survey.hdus) × (next_start_of h.read.header < v.length)) → ⊥ =
    λ is. true≢false (sym (c.is_there.ensures.exact.1 (is.0, subst (λ n. n < v.length) (sym c.next_start.ensures) is.1)) ∙ no) in
    record {
      is_attached = v.is_attached;
      fixed = v.fixed;
      room = v.room;
      at_hand = v.at_hand;
      known = v.known;
      marks = v.marks;
      fits = v.fits;
      octets = v.octets;
      reads = v.reads;
      refusals = refusals_kept held stop v.later c.keep_stop.new.later v.more c.keep_stop.new.more c.keep_stop.ensures.later c.keep_stop.ensures.more
          (refusals_stop Here held held stop v.later v.more refl (changed_late Here stop _ c.changed-stop.ensures)
          (never_missed Here stop held v.length v.survey h (g.met.S.Source.agrees v.inner.now v.length v.is_attached) next gone) v.refusals);
      failures = failures_kept start now stop v.failed c.keep_stop.new.failed c.keep_stop.ensures.failed
          (failures_stop start now now stop v.failed (kept_same now) (changed_why now stop _ c.changed-stop.ensures) v.failures);
    }

pub returns-then-not-is_there-clause-cause : goal.returns-then-not-is_there-clause-cause
returns-then-not-is_there-clause-cause g c =
    let v = c.args.self.now in
    let now = g.S.Source.tally v.inner.now in
    let stop : Stop = c.changed-stop.result in
    record {
      counts = cause_kept Here now now v.more c.keep_stop.new.more stop c.keep_stop.result c.keep_stop.ensures.more c.keep_stop.ensures.answer (kept_same now) (changed_why now stop _ c.changed-stop.ensures);
      first = first_kept Here v.later c.keep_stop.new.later stop c.keep_stop.result c.keep_stop.ensures.later;
    }
