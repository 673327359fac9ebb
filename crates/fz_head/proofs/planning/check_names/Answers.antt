use Rattle.std.proofs.Common.{[], ◌∷◌, arith, ap, sym, ◌∙◌}
use Rattle.fz_base.specs.Refusal.{first_refusal}
use Rattle.fz_base.specs.declared.kind.Kind.TheVariants.{Duplicate, Reserved}
use Rattle.fz_head.specs.Packable.{is_primary}
use Rattle.fz_head.specs.PackChecks.{header_fill, repeated_names, reserved_index, reserved_names}
use Rattle.fz_block.specs.Checks.{refused_at}
use Rattle.fz_head.specs.Repeats.{first_repeat, image_names, itself}
use Rattle.fz_head.proofs.FrontCards.{header-cards, header-end}
use Rattle.fz_head.proofs.RefusalLists.{first-of-third}
use Rattle.fz_head.proofs.planning.check_names.Goals as goal

pub first_reserved-requires : goal.first_reserved-requires
first_reserved-requires c = let end = (header-end c.args.buf.now c.args.header.now c.requires.header).within in omega arith

pub first_repeat-requires : goal.first_repeat-requires
first_repeat-requires c = let end = (header-end c.args.buf.now c.args.header.now c.requires.header).within in omega arith

pub returns : goal.returns
returns c =
    let h = c.args.header.now in
    let buf = c.args.buf.now in
    let cards = header-cards buf h c.requires.header in
    let reserved = ap (reserved_index (is_primary h.sort) h.axes.n) cards ∙ sym c.first_reserved.ensures in
    let repeated = ap (first_repeat image_names itself) cards ∙ sym c.first_repeat.ensures in
    first-of-third (reserved_names h buf) (repeated_names h buf) (header_fill h buf) c.check_header_fill.result
    (ap (λ found. first_refusal (refused_at h.hdu found Reserved ∷ [])) reserved ∙ c.in_ok-refuse_at.ensures)
    (ap (λ found. first_refusal (refused_at h.hdu found Duplicate ∷ [])) repeated ∙ c.in_ok-refuse_at-2.ensures) c.check_header_fill.ensures
