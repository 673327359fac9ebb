use Rattle.std.proofs.Common.{◌≡◌, ℕ, refl, ap, ◌∙◌, codes}
use Rattle.std.proofs.lemmas.List.FromFn.{length-map-range_with_len}
use Rattle.fz_block.specs.Hdus.{cards_of}
use Rattle.fz_block.specs.declared.axes.Axes.{Axes}
use Rattle.fz_head.specs.PackedPlan.{numbered_in, size_of, tile_along}
use Rattle.fz_head.specs.PlainHeader.{axis_count}
use Rattle.fz_checks.proofs.SaidAxes.{nine-of}
use Rattle.fz_checks.proofs.packed_shape.tile.Goals as goal

pub returns-clause-value : goal.returns-clause-value
returns-clause-value c =
    let cards = cards_of c.args.buf.now in
    let size = λ (k : ℕ). size_of (numbered_in (codes "ZNAXIS") k cards) in
    let count : c.args.shape.now.n ≡ axis_count cards = ap (λ (a : Axes). a.n) c.requires.shape ∙ length-map-range_with_len size 1 (axis_count cards) in
    nine-of (tile_along cards) _ c.args.shape.now.n (axis_count cards) refl count c.in_ok-len.ensures.value
