-- The forms that were made stand in their cards.
use Rattle.std.proofs.Common.{◌≡◌, ℕ, List, [], ◌∷◌, codes, ◌∙◌, ap}
use Rattle.fz_card.specs.Made.{text_card_bytes}
use Rattle.fz_head.specs.PackedHeader.{descriptor_form, numbered_word_card}
use Rattle.fz_head.proofs.packed.column_cards.Goals as goal

-- the card of a name that is known
made : (card name text name' : List ℕ) → card ≡ text_card_bytes name text → name ≡ name' → card ≡ text_card_bytes name' text
made card name text name' is names = is ∙ ap (λ n. text_card_bytes n text) names

pub returns : goal.returns
returns c =
    let p = c.args.plan.now in
    let s = c.args.totals.now in
    let p1 = made _ _ _ _ c.text_card.ensures c.numbered.ensures in
    let p2 = c.form_card.ensures ∙ ap (λ l. numbered_word_card (codes "TFORM") 1 (descriptor_form p.wide l s.emax_coded)) c.coded_letter.ensures.value in
    let p3 = made _ _ _ _ c.text_card-2.ensures c.numbered-2.ensures in
    let p4 = c.form_card-2.ensures ∙ ap (λ l. numbered_word_card (codes "TFORM") 2 (descriptor_form p.wide l s.emax_stored)) c.stored_letter.ensures.value in
    λ i. p1 i ∷ p2 i ∷ p3 i ∷ p4 i ∷ []
