use Rattle.std.proofs.Common.{◌≡◌, [], ◌∷◌, codes, rules, ap, sym, ◌∙◌, not}
use Rattle.std.specs.Prelude.{Some, nat_lt}
use Rattle.fz_base.specs.Refusal.{first_refusal}
use Rattle.fz_base.specs.declared.kind.Kind.TheVariants.{BadCard, Limit}
use Rattle.fz_card.specs.Made.{numbered_name}
use Rattle.fz_card.specs.Reading.{integer_of}
use Rattle.fz_block.specs.Hdus.{cards_of}
use Rattle.fz_head.specs.CardLists.{the_card}
use Rattle.fz_head.specs.PackedChecks.{at_name, axis_checks, is_positive, missing}
use Rattle.fz_head.specs.PackedPlan.{numbered_in, size_of}
use Rattle.fz_checks.proofs.RefusalLists.{check-of, refused-first, refused-next}
use Rattle.fz_checks.proofs.packed_shape.axis.Goals as goal

pub returns-in_err-require-clause-exact : goal.returns-in_err-require-clause-exact
returns-in_err-require-clause-exact c =
    let cards = cards_of c.args.buf.now in
    let k = c.args.header.now.hdu in
    let name = numbered_name (codes "ZNAXIS") c.args.i in
    let here = ap (λ n. first_refusal (missing k n cards ∷ [])) (sym c.numbered-name.ensures) ∙ c.in_err-require.ensures in
    let refused : first_refusal (axis_checks k cards c.args.i) ≡ Some c.in_err-require.field-0.0 =
    refused-first (missing k name cards)
    ((not (is_positive (integer_of (numbered_in (codes "ZNAXIS") c.args.i cards))), at_name k name cards BadCard) ∷ (nat_lt 2147483647 (size_of (numbered_in (codes "ZNAXIS") c.args.i cards)), at_name k name cards Limit) ∷ [])
    c.in_err-require.field-0.0 here in
    search (rules, refused)

pub returns-in_err-refuse_when-clause-exact : goal.returns-in_err-refuse_when-clause-exact
returns-in_err-refuse_when-clause-exact c =
    let cards = cards_of c.args.buf.now in
    let k = c.args.header.now.hdu in
    let name = numbered_name (codes "ZNAXIS") c.args.i in
    let said = numbered_in (codes "ZNAXIS") c.args.i cards in
    let x = c.in_err-refuse_when.field-0.0 in
    let there = ap (λ n. first_refusal (missing k n cards ∷ [])) (sym c.numbered-name.ensures) ∙ c.in_ok-require.ensures in
    let here = check-of (not c.is_positive-other.result) (not (is_positive (integer_of said))) c.at_name.result (at_name k name cards BadCard) (Some x)
    (ap not (c.is_positive-other.ensures ∙ ap is_positive (c.integer_said-length.ensures ∙ ap (λ n. integer_of (the_card n cards)) c.numbered-name.ensures)))
    (c.at_name.ensures ∙ ap (λ n. at_name k n cards BadCard) c.numbered-name.ensures) c.in_err-refuse_when.ensures in
    let refused : first_refusal (axis_checks k cards c.args.i) ≡ Some x =
    refused-next (missing k name cards) (not (is_positive (integer_of said)), at_name k name cards BadCard) ((nat_lt 2147483647 (size_of said), at_name k name cards Limit) ∷ []) x there here in
    search (rules, refused)
