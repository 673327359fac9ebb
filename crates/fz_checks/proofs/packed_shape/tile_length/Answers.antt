use Rattle.std.proofs.Common.{◌≡◌, [], ◌∷◌, codes, rules, ap, sym, ◌∙◌, not}
use Rattle.std.specs.Prelude.{Some, ◌&&◌, is_some}
use Rattle.std.proofs.lemmas.Bool.{and_left}
use Rattle.fz_base.specs.Refusal.{first_refusal}
use Rattle.fz_base.specs.declared.kind.Kind.TheVariants.{BadCard}
use Rattle.fz_card.specs.Made.{numbered_name}
use Rattle.fz_card.specs.Reading.{integer_of}
use Rattle.fz_block.specs.Hdus.{cards_of}
use Rattle.fz_head.specs.CardLists.{index_of, the_card}
use Rattle.fz_head.specs.PackedChecks.{at_name, is_positive, tile_check}
use Rattle.fz_head.specs.PackedPlan.{numbered_in}
use Rattle.fz_checks.proofs.RefusalLists.{check-of}
use Rattle.fz_checks.proofs.packed_shape.tile_length.Goals.{then-said, else-said}
use Rattle.fz_checks.proofs.packed_shape.tile_length.Goals as goal

pub returns-in_err-refuse_when-clause-exact : goal.returns-in_err-refuse_when-clause-exact
returns-in_err-refuse_when-clause-exact c =
    let cards = cards_of c.args.buf.now in
    let k = c.args.header.now.hdu in
    let name = numbered_name (codes "ZTILE") c.args.i in
    let card = numbered_in (codes "ZTILE") c.args.i cards in
    let x = c.in_err-refuse_when.field-0.0 in
    let said = c.stands-said.ensures ∙ ap (λ n. is_some (index_of n cards)) c.numbered-name.ensures in
    let value = c.integer_said-length.ensures ∙ ap (λ n. integer_of (the_card n cards)) c.numbered-name.ensures in
    let test : c.if-said.other ≡ (is_some (index_of name cards) && not (is_positive (integer_of card))) = elim c.if-said.branch [
      | then-said w ↦ w.other-is ∙ (ap not (w.is_positive.ensures ∙ ap is_positive value) ∙ ap (λ b. b && not (is_positive (integer_of card))) (sym w.if-said.true ∙ said))
      | else-said w ↦ w.other-is ∙ (w.if-said.false ∙ sym (and_left (is_some (index_of name cards)) (not (is_positive (integer_of card))) (sym said ∙ w.if-said.false)))
    ] in
    let refused : first_refusal (tile_check k cards c.args.i ∷ []) ≡ Some x =
    check-of c.if-said.other (is_some (index_of name cards) && not (is_positive (integer_of card))) c.at_name.result (at_name k name cards BadCard) (Some x) test
    (c.at_name.ensures ∙ ap (λ n. at_name k n cards BadCard) c.numbered-name.ensures) c.in_err-refuse_when.ensures in
    search (rules, refused)
