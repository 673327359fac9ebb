use Rattle.std.proofs.Common.{◌≡◌, ℕ, ◌+◌, ◌≤◌, [], ◌∷◌, ◌∙◌, ap, arith, rules, codes, get_or}
use Rattle.std.proofs.lemmas.List.FromFn.{length-map-range_with_len}
use Rattle.fz_block.specs.Hdus.{cards_of}
use Rattle.fz_block.specs.declared.axes.Axes.{Axes}
use Rattle.fz_head.specs.PackedChecks.{tile_check}
use Rattle.fz_head.specs.PackedPlan.{numbered_in, size_of, tile_along}
use Rattle.fz_head.specs.PlainHeader.{axis_count}
use Rattle.fz_checks.proofs.SaidAxes.{each-more, entry-of, long-of, write_next}
use Rattle.fz_checks.proofs.packed_shape.tile_lengths.Goals as goal

pub tile_length-requires-clause-axis : goal.tile_length-requires-clause-axis
tile_length-requires-clause-axis c =
    let cards = cards_of c.args.buf.now in
    let size = λ (k : ℕ). size_of (numbered_in (codes "ZNAXIS") k cards) in
    let i = c.loop-i.i in
    let count : c.args.shape.now.n ≡ axis_count cards = ap (λ (a : Axes). a.n) c.requires.shape ∙ length-map-range_with_len size 1 (axis_count cards) in
    ap (λ (a : Axes). get_or a.len i 0) c.requires.shape ∙ entry-of size (axis_count cards) i (i + 1) _ (omega arith) (omega arith)

pub returns-in_err-lengths-clause-exact : goal.returns-in_err-lengths-clause-exact
returns-in_err-lengths-clause-exact c =
    let i = c.loop-i.i in
    let stopped = c.refusals_law.ensures.stopped (λ k. tile_check c.args.header.now.hdu (cards_of c.args.buf.now) k ∷ []) 1 i c.args.shape.now.n (i + 1) _ (omega arith) (omega arith) c.loop-i.invariant.passed c.in_err-lengths.ensures.exact in
    search (rules, stopped)

pub loop-i-preserved : goal.loop-i-preserved
loop-i-preserved c =
    let cards = cards_of c.args.buf.now in
    let i = c.loop-i.i in
    let v = c.in_ok-lengths.field-0 in
    let long = long-of (tile_along cards) i 9 c.loop-i.lengths (omega arith) c.loop-i.invariant.written in
    let place : i + 1 ≡ 1 + i = omega arith in
    record {
      passed = c.refusals_law.ensures.passed (λ k. tile_check c.args.header.now.hdu cards k ∷ []) 1 i (i + 1) (omega arith) c.loop-i.invariant.passed c.in_ok-lengths.ensures.exact;
      written = write_next (tile_along cards) i 9 c.loop-i.lengths v (omega arith) c.loop-i.invariant.written (c.in_ok-lengths.ensures.value ∙ ap (tile_along cards) place);
      some = each-more (λ k w. (1 ≤ w) × (w ≤ get_or c.args.shape.now.len k 0)) c.loop-i.lengths i v (omega (arith, long)) c.in_ok-lengths.ensures.some c.loop-i.invariant.some;
    }
