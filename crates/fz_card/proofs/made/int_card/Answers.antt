use Rattle.std.proofs.Common.{ℕ, List, ap, ◌∙◌, w64}
use Rattle.std.specs.Fmt.{signed_decimal}
use Rattle.std.proofs.lemmas.Int.{to_z-of_z}
use Rattle.fz_card.specs.Made.{value_card, right_aligned, int_card_bytes}
use Rattle.fz_card.proofs.made.int_card.Goals as goal

pub returns : goal.returns
unfolding int_card_bytes
returns c =
    c.number_card.ensures ∙ ap (λ (text : List ℕ). value_card c.args.name.bytes (right_aligned 20 text))
    (c.as_bytes.ensures.value ∙ (c.format.ensures.text ∙ ap signed_decimal (to_z-of_z w64 c.args.value c.ranges.value)))
