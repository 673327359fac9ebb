use Rattle.std.proofs.Common.{◌≡◌, [], ◌∷◌, codes, rules, ap, ◌∙◌, not}
use Rattle.std.specs.Prelude.{Some, None, pos}
use Rattle.fz_base.specs.Refusal.{first_refusal}
use Rattle.fz_base.specs.declared.kind.Kind.TheVariants.{BadCard, UnknownCodec}
use Rattle.fz_card.specs.Made.{numbered_name}
use Rattle.fz_card.specs.Reading.{integer_of}
use Rattle.fz_block.specs.Hdus.{cards_of}
use Rattle.fz_head.specs.CardLists.{the_card}
use Rattle.fz_head.specs.PackedChecks.{at_name, bytepix_checks, is_bytepix, is_integer, value_missing}
use Rattle.fz_head.specs.PackedPlan.{numbered_in}
use Rattle.fz_checks.proofs.RefusalLists.{check-of, refused-next, refused-third}
use Rattle.fz_checks.proofs.packed_rice.bytepix_of.Goals as goal

pub returns-in_err-refuse_when-clause-exact : goal.returns-in_err-refuse_when-clause-exact
returns-in_err-refuse_when-clause-exact c =
    let cards = cards_of c.args.buf.now in
    let k = c.args.header.now.hdu in
    let name = numbered_name (codes "ZVAL") c.args.i in
    let said = numbered_in (codes "ZVAL") c.args.i cards in
    let x = c.in_err-refuse_when.field-0.0 in
    let value = c.integer_said-value.ensures ∙ ap (λ n. integer_of (the_card n cards)) c.numbered-name.ensures in
    let here = check-of c.has_eight_bytes-eight.result (is_integer (pos 8) (integer_of said)) c.at_name.result (at_name k name cards UnknownCodec) (Some x)
    (c.has_eight_bytes-eight.ensures ∙ ap (is_integer (pos 8)) value)
    (c.at_name.ensures ∙ ap (λ n. at_name k n cards UnknownCodec) c.numbered-name.ensures) c.in_err-refuse_when.ensures in
    let refused : first_refusal (bytepix_checks k cards (Some c.args.i)) ≡ Some x =
    refused-next (value_missing k cards c.args.i) (is_integer (pos 8) (integer_of said), at_name k name cards UnknownCodec) ((not (is_bytepix (integer_of said)), at_name k name cards BadCard) ∷ []) x
    c.in_ok-require_value.ensures here in
    search (rules, refused)

pub returns-in_err-refuse_when-2-clause-exact : goal.returns-in_err-refuse_when-2-clause-exact
returns-in_err-refuse_when-2-clause-exact c =
    let cards = cards_of c.args.buf.now in
    let k = c.args.header.now.hdu in
    let name = numbered_name (codes "ZVAL") c.args.i in
    let said = numbered_in (codes "ZVAL") c.args.i cards in
    let x = c.in_err-refuse_when-2.field-0.0 in
    let value = c.integer_said-value.ensures ∙ ap (λ n. integer_of (the_card n cards)) c.numbered-name.ensures in
    let there = check-of c.has_eight_bytes-eight.result (is_integer (pos 8) (integer_of said)) c.at_name.result (at_name k name cards UnknownCodec) None
    (c.has_eight_bytes-eight.ensures ∙ ap (is_integer (pos 8)) value)
    (c.at_name.ensures ∙ ap (λ n. at_name k n cards UnknownCodec) c.numbered-name.ensures) c.in_ok-refuse_when.ensures in
    let here = check-of (not c.is_bytepix-other.result) (not (is_bytepix (integer_of said))) c.at_name-2.result (at_name k name cards BadCard) (Some x)
    (ap not (c.is_bytepix-other.ensures ∙ ap is_bytepix value))
    (c.at_name-2.ensures ∙ ap (λ n. at_name k n cards BadCard) c.numbered-name.ensures) c.in_err-refuse_when-2.ensures in
    let refused : first_refusal (bytepix_checks k cards (Some c.args.i)) ≡ Some x =
    refused-third (value_missing k cards c.args.i) (is_integer (pos 8) (integer_of said), at_name k name cards UnknownCodec) (not (is_bytepix (integer_of said)), at_name k name cards BadCard) [] x
    c.in_ok-require_value.ensures there here in
    search (rules, refused)
