-- The header is as long whatever it tells of the heap.
use Rattle.std.proofs.Common.{Bool, refl, sym, ◌∙◌, subst, arith}
use Rattle.fz_block.specs.Hdus.{cards_of}
use Rattle.fz_head.specs.Conditions.{AreShort, IsPackPlan}
use Rattle.fz_head.specs.PackedHeader.{sum_cards}
use Rattle.fz_head.specs.ThereAndBack.{IsPacking}
use Rattle.fz_head.specs.declared.totals.Totals.{Totals}
use Rattle.fz_pack.proofs.Headers.{same_size}
use Rattle.fz_pack.proofs.image.header_len.Goals as goal

pub returns-clause-length : goal.returns-clause-length
returns-clause-length c = λ s same short.
    let buf = c.args.image.now.buf.now in
    let h = c.args.image.now.header in
    let p = c.args.image.now.plan in
    let none : Totals = record { heap = 0; emax_coded = 0; emax_stored = 0; sums = c.args.image.now.sums } in
    let empty : AreShort none = record { heap = omega arith; coded = omega arith; stored = omega arith } in
    let first : IsPacking buf h p none (sum_cards c.args.image.now.sums) = record {
      is_header = c.requires.header;
      simple = c.requires.simple;
      plan = c.requires.plan;
      totals = empty;
      sums_are = c.sum_cards_law.ensures.blank c.args.image.now.sums;
      count = refl;
    } in
    let second : IsPacking buf h p s (sum_cards s.sums) = record {
      is_header = c.requires.header;
      simple = c.requires.simple;
      plan = subst (λ (b : Bool). IsPackPlan buf h b p) (sym same) c.requires.plan;
      totals = short;
      sums_are = c.sum_cards_law.ensures.blank s.sums;
      count = refl;
    } in
    c.to_packed.ensures.size
    ∙ same_size (cards_of buf) p none s c.cards_law.ensures.header (c.whole_cards_law.ensures.packed buf h p none (sum_cards c.args.image.now.sums) first) (c.whole_cards_law.ensures.packed buf h p s (sum_cards s.sums) second)
    (c.sizes_law.ensures.totals (cards_of buf) p none s (sym same))
