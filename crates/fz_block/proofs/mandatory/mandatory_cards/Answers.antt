use Rattle.std.proofs.Common.{◌≡◌, ◌≤◌, Bool, List, Result, Some, Err, IfOk, ◌∙◌, refl, sym, subst, rules}
use Rattle.fz_base.specs.Refusal.{IsFirstOf, first_refusal}
use Rattle.fz_base.specs.declared.fault.Fault.{Fault}
use Rattle.fz_card.specs.Reading.{integer_of}
use Rattle.fz_block.specs.Cards.{card_at}
use Rattle.fz_block.specs.Facts.{nine_axes}
use Rattle.fz_block.specs.Hdus.{axes_of, pcount_of, gcount_of}
use Rattle.fz_block.specs.Mandatory.{mandatory_checks}
use Rattle.fz_block.specs.declared.mandatory.Mandatory.{Mandatory}
use Rattle.fz_block.proofs.MandatoryLemmas.{in_extension, in_bitpix, in_naxis, in_axes, after_axes, nine_written}
use Rattle.fz_block.proofs.mandatory.mandatory_cards.Goals as goal

refuses : {A : Type 0} (checks : List (Bool × Fault)) (x : Fault) (r : Result A Fault) → r ≡ Err x → first_refusal checks ≡ Some x → IsFirstOf checks r
refuses checks x r is e = subst (IsFirstOf checks) (sym is) e

-- an error says nothing of what was read
unsaid : {A : Type 0} (P : A → Type 0) (x : Fault) (r : Result A Fault) → r ≡ Err x → IfOk r P
unsaid {A} P x r is = subst (λ (s : Result A Fault). IfOk s P) (sym is) tt

pub returns-in_err-check_extension-clause-exact : goal.returns-in_err-check_extension-clause-exact
returns-in_err-check_extension-clause-exact c =
    let is : c.from_residual.result ≡ Err c.in_err-check_extension.field-0.0 = search rules in
    refuses (mandatory_checks c.args.hdu c.args.buf.now) c.in_err-check_extension.field-0.0 c.from_residual.result is
    (in_extension c.args.hdu c.args.buf.now _ c.in_err-check_extension.ensures)

pub returns-in_err-check_extension-clause-bitpix : goal.returns-in_err-check_extension-clause-bitpix
returns-in_err-check_extension-clause-bitpix c =
    let is : c.from_residual.result ≡ Err c.in_err-check_extension.field-0.0 = search rules in
    unsaid (λ (m : Mandatory). integer_of (card_at c.args.buf.now 1) ≡ Some m.bitpix) c.in_err-check_extension.field-0.0 c.from_residual.result is

pub returns-in_err-check_extension-clause-axes : goal.returns-in_err-check_extension-clause-axes
returns-in_err-check_extension-clause-axes c =
    let is : c.from_residual.result ≡ Err c.in_err-check_extension.field-0.0 = search rules in
    unsaid (λ (m : Mandatory). m.axes ≡ nine_axes (axes_of c.args.buf.now)) c.in_err-check_extension.field-0.0 c.from_residual.result is

pub returns-in_err-check_extension-clause-few : goal.returns-in_err-check_extension-clause-few
returns-in_err-check_extension-clause-few c =
    let is : c.from_residual.result ≡ Err c.in_err-check_extension.field-0.0 = search rules in
    unsaid (λ (m : Mandatory). m.axes.n ≤ 9) c.in_err-check_extension.field-0.0 c.from_residual.result is

pub returns-in_err-check_extension-clause-counts : goal.returns-in_err-check_extension-clause-counts
returns-in_err-check_extension-clause-counts c =
    let is : c.from_residual.result ≡ Err c.in_err-check_extension.field-0.0 = search rules in
    unsaid (λ (m : Mandatory). (m.pcount ≡ pcount_of c.args.hdu c.args.buf.now) × (m.gcount ≡ gcount_of c.args.hdu c.args.buf.now)) c.in_err-check_extension.field-0.0 c.from_residual.result is

pub returns-in_err-bitpix-clause-exact : goal.returns-in_err-bitpix-clause-exact
returns-in_err-bitpix-clause-exact c =
    let is : c.from_residual-in_err-bitpix.result ≡ Err c.in_err-bitpix.field-0.0 = search rules in
    refuses (mandatory_checks c.args.hdu c.args.buf.now) c.in_err-bitpix.field-0.0 c.from_residual-in_err-bitpix.result is
    (in_bitpix c.args.hdu c.args.buf.now _ c.in_ok-check_extension.ensures c.in_err-bitpix.ensures.exact)

pub returns-in_err-bitpix-clause-bitpix : goal.returns-in_err-bitpix-clause-bitpix
returns-in_err-bitpix-clause-bitpix c =
    let is : c.from_residual-in_err-bitpix.result ≡ Err c.in_err-bitpix.field-0.0 = search rules in
    unsaid (λ (m : Mandatory). integer_of (card_at c.args.buf.now 1) ≡ Some m.bitpix) c.in_err-bitpix.field-0.0 c.from_residual-in_err-bitpix.result is

pub returns-in_err-bitpix-clause-axes : goal.returns-in_err-bitpix-clause-axes
returns-in_err-bitpix-clause-axes c =
    let is : c.from_residual-in_err-bitpix.result ≡ Err c.in_err-bitpix.field-0.0 = search rules in
    unsaid (λ (m : Mandatory). m.axes ≡ nine_axes (axes_of c.args.buf.now)) c.in_err-bitpix.field-0.0 c.from_residual-in_err-bitpix.result is

pub returns-in_err-bitpix-clause-few : goal.returns-in_err-bitpix-clause-few
returns-in_err-bitpix-clause-few c =
    let is : c.from_residual-in_err-bitpix.result ≡ Err c.in_err-bitpix.field-0.0 = search rules in
    unsaid (λ (m : Mandatory). m.axes.n ≤ 9) c.in_err-bitpix.field-0.0 c.from_residual-in_err-bitpix.result is

pub returns-in_err-bitpix-clause-counts : goal.returns-in_err-bitpix-clause-counts
returns-in_err-bitpix-clause-counts c =
    let is : c.from_residual-in_err-bitpix.result ≡ Err c.in_err-bitpix.field-0.0 = search rules in
    unsaid (λ (m : Mandatory). (m.pcount ≡ pcount_of c.args.hdu c.args.buf.now) × (m.gcount ≡ gcount_of c.args.hdu c.args.buf.now)) c.in_err-bitpix.field-0.0 c.from_residual-in_err-bitpix.result is

pub returns-in_err-n-clause-exact : goal.returns-in_err-n-clause-exact
returns-in_err-n-clause-exact c =
    let is : c.from_residual-in_err-n.result ≡ Err c.in_err-n.field-0.0 = search rules in
    refuses (mandatory_checks c.args.hdu c.args.buf.now) c.in_err-n.field-0.0 c.from_residual-in_err-n.result is
    (in_naxis c.args.hdu c.args.buf.now _ c.in_ok-check_extension.ensures c.in_ok-bitpix.ensures.exact c.in_err-n.ensures.exact)

pub returns-in_err-n-clause-bitpix : goal.returns-in_err-n-clause-bitpix
returns-in_err-n-clause-bitpix c =
    let is : c.from_residual-in_err-n.result ≡ Err c.in_err-n.field-0.0 = search rules in
    unsaid (λ (m : Mandatory). integer_of (card_at c.args.buf.now 1) ≡ Some m.bitpix) c.in_err-n.field-0.0 c.from_residual-in_err-n.result is

pub returns-in_err-n-clause-axes : goal.returns-in_err-n-clause-axes
returns-in_err-n-clause-axes c =
    let is : c.from_residual-in_err-n.result ≡ Err c.in_err-n.field-0.0 = search rules in
    unsaid (λ (m : Mandatory). m.axes ≡ nine_axes (axes_of c.args.buf.now)) c.in_err-n.field-0.0 c.from_residual-in_err-n.result is

pub returns-in_err-n-clause-few : goal.returns-in_err-n-clause-few
returns-in_err-n-clause-few c =
    let is : c.from_residual-in_err-n.result ≡ Err c.in_err-n.field-0.0 = search rules in
    unsaid (λ (m : Mandatory). m.axes.n ≤ 9) c.in_err-n.field-0.0 c.from_residual-in_err-n.result is

pub returns-in_err-n-clause-counts : goal.returns-in_err-n-clause-counts
returns-in_err-n-clause-counts c =
    let is : c.from_residual-in_err-n.result ≡ Err c.in_err-n.field-0.0 = search rules in
    unsaid (λ (m : Mandatory). (m.pcount ≡ pcount_of c.args.hdu c.args.buf.now) × (m.gcount ≡ gcount_of c.args.hdu c.args.buf.now)) c.in_err-n.field-0.0 c.from_residual-in_err-n.result is

pub returns-in_err-len-clause-exact : goal.returns-in_err-len-clause-exact
returns-in_err-len-clause-exact c =
    let is : c.from_residual-in_err-len.result ≡ Err c.in_err-len.field-0.0 = search rules in
    refuses (mandatory_checks c.args.hdu c.args.buf.now) c.in_err-len.field-0.0 c.from_residual-in_err-len.result is
    (in_axes c.args.hdu c.args.buf.now _ _ c.in_ok-n.ensures.value.0 c.in_ok-check_extension.ensures c.in_ok-bitpix.ensures.exact c.in_ok-n.ensures.exact c.in_err-len.ensures.exact)

pub returns-in_err-len-clause-bitpix : goal.returns-in_err-len-clause-bitpix
returns-in_err-len-clause-bitpix c =
    let is : c.from_residual-in_err-len.result ≡ Err c.in_err-len.field-0.0 = search rules in
    unsaid (λ (m : Mandatory). integer_of (card_at c.args.buf.now 1) ≡ Some m.bitpix) c.in_err-len.field-0.0 c.from_residual-in_err-len.result is

pub returns-in_err-len-clause-axes : goal.returns-in_err-len-clause-axes
returns-in_err-len-clause-axes c =
    let is : c.from_residual-in_err-len.result ≡ Err c.in_err-len.field-0.0 = search rules in
    unsaid (λ (m : Mandatory). m.axes ≡ nine_axes (axes_of c.args.buf.now)) c.in_err-len.field-0.0 c.from_residual-in_err-len.result is

pub returns-in_err-len-clause-few : goal.returns-in_err-len-clause-few
returns-in_err-len-clause-few c =
    let is : c.from_residual-in_err-len.result ≡ Err c.in_err-len.field-0.0 = search rules in
    unsaid (λ (m : Mandatory). m.axes.n ≤ 9) c.in_err-len.field-0.0 c.from_residual-in_err-len.result is

pub returns-in_err-len-clause-counts : goal.returns-in_err-len-clause-counts
returns-in_err-len-clause-counts c =
    let is : c.from_residual-in_err-len.result ≡ Err c.in_err-len.field-0.0 = search rules in
    unsaid (λ (m : Mandatory). (m.pcount ≡ pcount_of c.args.hdu c.args.buf.now) × (m.gcount ≡ gcount_of c.args.hdu c.args.buf.now)) c.in_err-len.field-0.0 c.from_residual-in_err-len.result is

pub returns-in_err-pcount-clause-exact : goal.returns-in_err-pcount-clause-exact
returns-in_err-pcount-clause-exact c =
    let is : c.from_residual-in_err-pcount.result ≡ Err c.in_err-pcount.field-0.0 = search rules in
    refuses (mandatory_checks c.args.hdu c.args.buf.now) c.in_err-pcount.field-0.0 c.from_residual-in_err-pcount.result is
    (after_axes c.args.hdu c.args.buf.now _ c.in_ok-n.ensures.value.0 c.in_ok-check_extension.ensures c.in_ok-bitpix.ensures.exact c.in_ok-n.ensures.exact c.in_ok-len.ensures.exact ∙ c.in_err-pcount.ensures.exact)

pub returns-in_err-pcount-clause-bitpix : goal.returns-in_err-pcount-clause-bitpix
returns-in_err-pcount-clause-bitpix c =
    let is : c.from_residual-in_err-pcount.result ≡ Err c.in_err-pcount.field-0.0 = search rules in
    unsaid (λ (m : Mandatory). integer_of (card_at c.args.buf.now 1) ≡ Some m.bitpix) c.in_err-pcount.field-0.0 c.from_residual-in_err-pcount.result is

pub returns-in_err-pcount-clause-axes : goal.returns-in_err-pcount-clause-axes
returns-in_err-pcount-clause-axes c =
    let is : c.from_residual-in_err-pcount.result ≡ Err c.in_err-pcount.field-0.0 = search rules in
    unsaid (λ (m : Mandatory). m.axes ≡ nine_axes (axes_of c.args.buf.now)) c.in_err-pcount.field-0.0 c.from_residual-in_err-pcount.result is

pub returns-in_err-pcount-clause-few : goal.returns-in_err-pcount-clause-few
returns-in_err-pcount-clause-few c =
    let is : c.from_residual-in_err-pcount.result ≡ Err c.in_err-pcount.field-0.0 = search rules in
    unsaid (λ (m : Mandatory). m.axes.n ≤ 9) c.in_err-pcount.field-0.0 c.from_residual-in_err-pcount.result is

pub returns-in_err-pcount-clause-counts : goal.returns-in_err-pcount-clause-counts
returns-in_err-pcount-clause-counts c =
    let is : c.from_residual-in_err-pcount.result ≡ Err c.in_err-pcount.field-0.0 = search rules in
    unsaid (λ (m : Mandatory). (m.pcount ≡ pcount_of c.args.hdu c.args.buf.now) × (m.gcount ≡ gcount_of c.args.hdu c.args.buf.now)) c.in_err-pcount.field-0.0 c.from_residual-in_err-pcount.result is

pub returns-clause-exact : goal.returns-clause-exact
returns-clause-exact c =
    after_axes c.args.hdu c.args.buf.now _ c.in_ok-n.ensures.value.0 c.in_ok-check_extension.ensures c.in_ok-bitpix.ensures.exact c.in_ok-n.ensures.exact c.in_ok-len.ensures.exact
    ∙ c.in_ok-pcount.ensures.exact

pub returns-clause-axes : goal.returns-clause-axes
returns-clause-axes c = nine_written c.args.buf.now _ _ _ refl refl c.in_ok-n.ensures.value.0 c.in_ok-len.ensures.value

pub returns-clause-few : goal.returns-clause-few
returns-clause-few c = c.in_ok-n.ensures.value.1
