-- Each size by itself.
use Rattle.std.proofs.Common.{rules}
use Rattle.fz_c.proofs.RangeLemmas.{holds_8, holds_16, holds_others}
use Rattle.fz_c.proofs.range.hold_pixels.Goals as goal

pub returns-in-8 : goal.returns-in-8
returns-in-8 c =
    let holds = holds_8 c.args.bitpix c.args.numbers.now (search rules) in
    (λ fine. holds.1 (c.are_numbers.ensures.0 fine), λ held. c.are_numbers.ensures.1 (holds.0 held))

pub returns-in-16 : goal.returns-in-16
returns-in-16 c =
    let holds = holds_16 c.args.bitpix c.args.numbers.now (search rules) in
    (λ fine. holds.1 (c.are_numbers-in-16.ensures.0 fine), λ held. c.are_numbers-in-16.ensures.1 (holds.0 held))

pub returns-in_default : goal.returns-in_default
returns-in_default c =
    let holds = holds_others c.args.bitpix c.args.numbers.now c.requires.size (search rules) (search rules) c.requires.whole in
    (λ fine. holds.1 (c.are_numbers-in_default.ensures.0 fine), λ held. c.are_numbers-in_default.ensures.1 (holds.0 held))
