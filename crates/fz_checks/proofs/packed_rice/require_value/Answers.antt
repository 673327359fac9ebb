use Rattle.std.proofs.Common.{codes, ap, ◌∙◌, not}
use Rattle.std.specs.Prelude.{is_none, is_some}
use Rattle.fz_base.specs.declared.kind.Kind.TheVariants.{BadCard}
use Rattle.fz_card.specs.Made.{numbered_name}
use Rattle.fz_block.specs.Hdus.{cards_of}
use Rattle.fz_head.specs.CardLists.{index_of}
use Rattle.fz_head.specs.PackedChecks.{at_name}
use Rattle.fz_checks.proofs.RefusalLists.{first-of-check, not-some}
use Rattle.fz_checks.proofs.packed_rice.require_value.Goals as goal

pub returns : goal.returns
returns c =
    let cards = cards_of c.args.buf.now in
    let k = c.args.header.now.hdu in
    let value = numbered_name (codes "ZVAL") c.args.i in
    first-of-check (not c.stands-none.result) (is_none (index_of value cards)) c.at_name.result (at_name k (numbered_name (codes "ZNAME") c.args.i) cards BadCard) c.refuse_when.result
    (ap not (c.stands-none.ensures ∙ ap (λ n. is_some (index_of n cards)) c.numbered.ensures) ∙ not-some (index_of value cards))
    (c.at_name.ensures ∙ ap (λ n. at_name k n cards BadCard) c.numbered-2.ensures) c.refuse_when.ensures
