use Rattle.std.proofs.Common.{ℕ, ◌++◌, ap, ◌∙◌}
use Rattle.fz_card.specs.Layout.{blanks, filled}
use Rattle.fz_card.specs.Made.{text_card_bytes}
use Rattle.fz_card.proofs.Lines.{text_line}
use Rattle.fz_card.proofs.made.text_card.Goals as goal

pub returns : goal.returns
unfolding text_card_bytes
returns c =
    c.bytes.ensures ∙ ap (filled 80) (text_line c.args.name.bytes c.args.text.now c.value_line-line.result c.push.new.self c.push-2.new.self c.push_blanks.new.self c.push-3.new.self c.value_line-line.ensures c.push.ensures c.push-2.ensures (c.push_blanks.ensures ∙ ap (λ (count : ℕ). c.push-2.new.self ++ blanks count) c.saturating_sub.ensures) c.push-3.ensures)
