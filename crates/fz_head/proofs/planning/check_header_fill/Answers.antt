use Rattle.std.proofs.Common.{not, ◌==◌, Some, sym, ap, ◌∙◌, arith}
use Rattle.std.specs.Prelude.{position}
use Rattle.fz_head.proofs.FoundFaults.{fill-found, fill-none}
use Rattle.fz_head.proofs.FrontCards.{header-end}
use Rattle.fz_head.proofs.planning.check_header_fill.Goals as goal

pub split_at-requires : goal.split_at-requires
split_at-requires c = let end = (header-end c.args.buf.now c.args.header.now c.requires.header).within in omega arith

pub returns-in-Some : goal.returns-in-Some
returns-in-Some c =
    let at = c.first_non_blank.ensures.place ∙ ap (position (λ b. not (b == 32))) c.split_at.ensures.back in
    fill-found c.args.buf.now c.args.header.now c.in-Some.i c.requires.header (sym at ∙ c.in-Some.is) ∙ ap Some (sym c.refused.ensures)

pub returns-in-None : goal.returns-in-None
returns-in-None c =
    let at = c.first_non_blank.ensures.place ∙ ap (position (λ b. not (b == 32))) c.split_at.ensures.back in
    fill-none c.args.buf.now c.args.header.now c.requires.header (sym at ∙ c.in-None.is)
