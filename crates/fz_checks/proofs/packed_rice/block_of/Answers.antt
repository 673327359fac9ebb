use Rattle.std.proofs.Common.{◌≡◌, [], codes, rules, ap, ◌∙◌, not}
use Rattle.std.specs.Prelude.{Some}
use Rattle.fz_base.specs.Refusal.{first_refusal}
use Rattle.fz_base.specs.declared.kind.Kind.TheVariants.{BadCard}
use Rattle.fz_card.specs.Made.{numbered_name}
use Rattle.fz_card.specs.Reading.{integer_of}
use Rattle.fz_block.specs.Hdus.{cards_of}
use Rattle.fz_head.specs.CardLists.{the_card}
use Rattle.fz_head.specs.PackedChecks.{at_name, block_checks, is_block, value_missing}
use Rattle.fz_head.specs.PackedPlan.{numbered_in}
use Rattle.fz_checks.proofs.RefusalLists.{check-of, refused-next}
use Rattle.fz_checks.proofs.packed_rice.block_of.Goals as goal

pub returns-in_err-refuse_when-clause-exact : goal.returns-in_err-refuse_when-clause-exact
returns-in_err-refuse_when-clause-exact c =
    let cards = cards_of c.args.buf.now in
    let k = c.args.header.now.hdu in
    let name = numbered_name (codes "ZVAL") c.args.i in
    let said = numbered_in (codes "ZVAL") c.args.i cards in
    let x = c.in_err-refuse_when.field-0.0 in
    let here = check-of (not c.is_block-other.result) (not (is_block (integer_of said))) c.at_name.result (at_name k name cards BadCard) (Some x)
    (ap not (c.is_block-other.ensures ∙ ap is_block (c.integer_said-value.ensures ∙ ap (λ n. integer_of (the_card n cards)) c.numbered-name.ensures)))
    (c.at_name.ensures ∙ ap (λ n. at_name k n cards BadCard) c.numbered-name.ensures) c.in_err-refuse_when.ensures in
    let refused : first_refusal (block_checks k cards (Some c.args.i)) ≡ Some x =
    refused-next (value_missing k cards c.args.i) (not (is_block (integer_of said)), at_name k name cards BadCard) [] x c.in_ok-require_value.ensures here in
    search (rules, refused)
