-- How many axes an image has by its cards.
use Rattle.std.proofs.Common.{◌≡◌, ℕ, List, codes, ap, ◌∙◌}
use Rattle.std.proofs.lemmas.List.FromFn.{length-map-range_with_len}
use Rattle.fz_block.specs.Facts.{nine_axes}
use Rattle.fz_block.specs.declared.axes.Axes.{Axes}
use Rattle.fz_head.specs.PackedPlan.{numbered_in, said_axes, size_of}
use Rattle.fz_head.specs.PlainHeader.{axis_count}

-- the axes of the image are as many as its cards say
pub count-of : (cards : List (List ℕ)) (shape : Axes) → shape ≡ nine_axes (said_axes cards) → shape.n ≡ axis_count cards
count-of cards shape e = ap (λ (a : Axes). a.n) e ∙ length-map-range_with_len (λ k. size_of (numbered_in (codes "ZNAXIS") k cards)) 1 (axis_count cards)
