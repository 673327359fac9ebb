use Rattle.std.proofs.Common.{◌+◌, ◌-◌, ◌^◌, ◌<◌, ◌≤◌, sym, ap, ◌∙◌, arith}
use Rattle.std.specs.Option.{option_copied, option_map}
use Rattle.fz_words.specs.Seen.{seen_range}
use Rattle.fz_words.proofs.ListLemmas.{each-next, each-next-two, if-none, ranges-none, ranges-next, ranges-room}
use Rattle.fz_words.proofs.lists.box_in.Goals as goal

pub returns-in_err-range-clause-value : goal.returns-in_err-range-clause-value
returns-in_err-range-clause-value c =
    let so-far = rw c.in-Some.is at c.loop-rest.invariant.0 in
    c.from_residual.ensures ∙ ranges-none c.args.text.now _ _ _ _ c.in-Some.pieces.now c.cut.result.0.now so-far c.cut.ensures.before (sym c.range_in.ensures.value ∙ ap (option_map seen_range) c.in_err-range.was)

pub loop-rest-preserved : goal.loop-rest-preserved
loop-rest-preserved c =
    let s = c.loop-rest.sieve in
    let r = c.in_ok-range.range in
    let h = c.loop-rest.invariant in
    let inside = c.in_ok-range.ensures.inside in
    let so-far = rw c.in-Some.is at h.0 in
    let room = ranges-room c.args.text.now s.n s.lo s.hi s.step _ so-far (omega arith) in (
      ranges-next c.args.text.now s.n s.lo s.hi s.step c.in-Some.pieces.now c.cut.result.0.now _ (seen_range r) so-far (omega arith) c.cut.ensures.before c.cut.ensures.behind (sym c.range_in.ensures.value ∙ ap (option_map seen_range) c.in_ok-range.was),
      each-next-two (λ lo hi. lo ≤ hi) s.lo s.hi s.n (r.lo - 1) (r.hi - 1) room.0 room.1 h.1 (omega (arith, inside.1)),
      each-next (λ hi. hi + 1 < 2 ^ 31) s.hi s.n (r.hi - 1) room.1 h.2 (omega (arith, inside.0, inside.1, inside.2)),
      each-next (λ step. 1 ≤ step) s.step s.n r.step room.2 h.3 inside.3,
      if-none (option_copied c.cut.result.1) (1 ≤ s.n + 1) (omega arith),
    )
