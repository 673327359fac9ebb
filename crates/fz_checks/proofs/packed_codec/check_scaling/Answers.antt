use Rattle.std.proofs.Common.{[], ◌∷◌, ap, ◌∙◌, subst, position}
use Rattle.fz_base.specs.Refusal.{IsFirstOf}
use Rattle.fz_base.specs.declared.kind.Kind.TheVariants.{Quantised}
use Rattle.fz_block.specs.Hdus.{cards_of}
use Rattle.fz_block.specs.Checks.{refused_at}
use Rattle.fz_head.specs.PackedChecks.{is_scaling}
use Rattle.fz_checks.proofs.packed_codec.check_scaling.Goals as goal

pub returns : goal.returns
returns c =
    let cards = cards_of c.args.buf.now in
    subst (λ found. IsFirstOf (refused_at c.args.header.now.hdu found Quantised ∷ []) c.refuse_at.result)
    (c.scaling_card.ensures ∙ ap (λ n. position (is_scaling n) cards) c.column_count-columns.ensures) c.refuse_at.ensures
