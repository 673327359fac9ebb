use Rattle.std.proofs.Common.{refl, codes}
use Rattle.fz_block.specs.Hdus.{cards_of}
use Rattle.fz_head.specs.PackedPlan.{numbered_in, size_of}
use Rattle.fz_head.specs.PlainHeader.{axis_count}
use Rattle.fz_checks.proofs.SaidAxes.{nine-of}
use Rattle.fz_checks.proofs.packed_shape.axes.Goals as goal

pub returns-clause-value : goal.returns-clause-value
returns-clause-value c =
    let cards = cards_of c.args.buf.now in
    nine-of (λ k. size_of (numbered_in (codes "ZNAXIS") k cards)) _ c.args.n (axis_count cards) refl c.requires.count c.in_ok-len.ensures.value
