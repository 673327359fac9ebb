use Rattle.std.proofs.Common.{◌≡◌, ◌++◌, List, ℕ, length, ap, ◌∙◌, arith}
use Rattle.fz_card.specs.Layout.{filled}
use Rattle.fz_card.specs.Made.{numbered_name}
use Rattle.fz_card.proofs.Lines.{fits_digits}
use Rattle.fz_card.proofs.names.numbered.Goals as goal

pub push-requires-2 : goal.push-requires-2
push-requires-2 c =
    let front : c.push.new.self ≡ c.args.stem.now = rw c.new-line.ensures at c.push.ensures in
    let digits = c.as_bytes.ensures.value ∙ c.format.ensures.text in
    (omega arith, omega (arith, ap length front, ap length digits, fits_digits c.args.stem.now c.args.i c.requires))

pub returns : goal.returns
unfolding numbered_name
returns c =
    c.bytes.ensures ∙ ap (filled 8) (c.push-2.ensures ∙ (ap (λ (line : List ℕ). line ++ c.as_bytes.result.now) (rw c.new-line.ensures at c.push.ensures) ∙ ap (λ (digits : List ℕ). c.args.stem.now ++ digits) (c.as_bytes.ensures.value ∙ c.format.ensures.text)))
