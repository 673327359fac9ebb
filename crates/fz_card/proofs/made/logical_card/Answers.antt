use Rattle.std.proofs.Common.{◌≡◌, ℕ, List, ap, ◌∙◌, rules}
use Rattle.fz_card.specs.Value.{logical_text}
use Rattle.fz_card.specs.Made.{value_card, right_aligned, logical_card_bytes}
use Rattle.fz_card.proofs.made.logical_card.Goals as goal
use Rattle.fz_card.proofs.made.logical_card.Goals.{then-value, else-value}

pub returns : goal.returns
unfolding logical_card_bytes
returns c =
    let text : c.if-value.number_card.now ≡ logical_text c.args.value = elim c.if-value.branch [ then-value w ↦ search rules | else-value w ↦ search rules ] in
    c.number_card.ensures ∙ ap (λ (text : List ℕ). value_card c.args.name.bytes (right_aligned 20 text)) text
