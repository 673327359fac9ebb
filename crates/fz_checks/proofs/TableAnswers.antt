-- The checks of the cards of a binary table, one after another: the first that refuses.
use Rattle.std.proofs.Common.{◌≡◌, ℕ, Bool, true, false, List, [], ◌∷◌, ap, sym, ◌∙◌, codes}
use Rattle.std.specs.Prelude.{◌&&◌, Option, Some, None, is_some, unwrap_or}
use Rattle.std.specs.List.{position}
use Rattle.fz_base.specs.Refusal.{first_refusal, refusal}
use Rattle.fz_base.specs.declared.fault.Fault.{Fault}
use Rattle.fz_base.specs.declared.fault.Place.TheVariants.{Card}
use Rattle.fz_base.specs.declared.kind.Kind.TheVariants.{CompressedTable, Duplicate}
use Rattle.fz_block.specs.Checks.{is_set, refused_at}
use Rattle.fz_block.specs.Facts.{IsHeaderOf}
use Rattle.fz_block.specs.Hdus.{cards_of}
use Rattle.fz_block.specs.declared.header.Header.{Header}
use Rattle.fz_head.specs.Packable.{is_packed}
use Rattle.fz_head.specs.Repeats.{first_repeat, table_names, counted_name}
use Rattle.fz_head.specs.TableChecks.{table_card_checks}
use Rattle.fz_head.specs.Written.{first_cards}
use Rattle.fz_checks.proofs.FrontCards.{header-cards}
use Rattle.fz_checks.proofs.RefusalLists.{passed, stopped}

abbrev set-check : Header → List ℕ → Bool × Fault
set-check h header = refused_at h.hdu (position (is_set (codes "ZTABLE")) (cards_of header)) CompressedTable

abbrev repeated : List ℕ → Option ℕ
repeated header = first_repeat table_names counted_name (cards_of header)

abbrev repeat-check : Header → List ℕ → Bool × Fault
repeat-check h header = (is_packed header h && is_some (repeated header), refusal h.hdu (Card (unwrap_or (repeated header) 0)) Duplicate)

pub set-of : (h : Header) (header : List ℕ) (found : Option ℕ) (answer : Option Fault) → IsHeaderOf header h → found ≡ position (is_set (codes "ZTABLE")) (first_cards header h.cards) →
    first_refusal (refused_at h.hdu found CompressedTable ∷ []) ≡ answer → first_refusal (set-check h header ∷ []) ≡ answer
set-of h header found answer is at e =
    let same : position (is_set (codes "ZTABLE")) (cards_of header) ≡ found = ap (position (is_set (codes "ZTABLE"))) (header-cards header h is) ∙ sym at in
    ap (λ o. first_refusal (refused_at h.hdu o CompressedTable ∷ [])) same ∙ e

pub in-compressed : (h : Header) (header : List ℕ) (x : Fault) → first_refusal (set-check h header ∷ []) ≡ Some x → first_refusal (table_card_checks h header) ≡ Some x
in-compressed h header x e = stopped (set-check h header ∷ []) (repeat-check h header ∷ []) x e

pub in-other : (h : Header) (header : List ℕ) → first_refusal (set-check h header ∷ []) ≡ None → is_packed header h ≡ false → first_refusal (table_card_checks h header) ≡ None
in-other h header one other =
    passed (set-check h header ∷ []) (repeat-check h header ∷ []) one
    ∙ ap (λ t. first_refusal ((t && is_some (repeated header), refusal h.hdu (Card (unwrap_or (repeated header) 0)) Duplicate) ∷ [])) other

pub in-packed : (h : Header) (header : List ℕ) (found : Option ℕ) → IsHeaderOf header h → first_refusal (set-check h header ∷ []) ≡ None → is_packed header h ≡ true → found ≡ first_repeat table_names counted_name (first_cards header h.cards) →
    first_refusal (refused_at h.hdu found Duplicate ∷ []) ≡ first_refusal (table_card_checks h header)
in-packed h header found is one packed at =
    let same : found ≡ repeated header = at ∙ ap (first_repeat table_names counted_name) (sym (header-cards header h is)) in
    ap (λ o. first_refusal (refused_at h.hdu o Duplicate ∷ [])) same
    ∙ (ap (λ t. first_refusal ((t && is_some (repeated header), refusal h.hdu (Card (unwrap_or (repeated header) 0)) Duplicate) ∷ [])) (sym packed)
    ∙ sym (passed (set-check h header ∷ []) (repeat-check h header ∷ []) one))
