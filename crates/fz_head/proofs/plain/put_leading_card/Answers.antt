use Rattle.std.proofs.Common.{◌<◌, codes, map, ap, sym, subst, ◌∙◌, arith}
use Rattle.std.specs.Prelude.{IfSome}
use Rattle.std.specs.Option.{option_to_list}
use Rattle.std.specs.List.{find}
use Rattle.fz_block.specs.Hdus.{cards_of}
use Rattle.fz_head.specs.PackedHeader.{word_card}
use Rattle.fz_head.specs.PlainHeader.{leading_card, or_card, plain_card, says_what}
use Rattle.fz_head.specs.Written.{found_cards}
use Rattle.fz_head.proofs.FoundCards.{position-cards}
use Rattle.fz_head.proofs.FrontCards.{header-cards, header-end}
use Rattle.fz_head.proofs.WrittenCards.{adds-same}
use Rattle.fz_head.proofs.plain.put_leading_card.Goals as goal

pub first_saying-requires : goal.first_saying-requires
first_saying-requires c = let end = (header-end c.args.buf.now c.args.header.now c.requires.header).within in omega arith

pub put_or-requires-clause-found : goal.put_or-requires-clause-found
put_or-requires-clause-found c = λ i e.
    let end = (header-end c.args.buf.now c.args.header.now c.requires.header).within in
    let below : i < c.args.header.now.cards = subst (λ o. IfSome o (λ k. k < c.args.header.now.cards)) e c.first_saying.ensures.within in
    omega arith

pub returns-clause-written : goal.returns-clause-written
returns-clause-written c =
    let buf = c.args.buf.now in
    let h = c.args.header.now in
    let other = word_card (codes "XTENSION") (codes "IMAGE") in
    let found = position-cards says_what buf h.cards c.first_saying.result c.first_saying.ensures.index ∙ ap (λ l. option_to_list (find says_what l)) (sym (header-cards buf h c.requires.header)) in
    adds-same (or_card c.text_card-other.result.bytes (map plain_card (found_cards buf c.first_saying.result))) (leading_card (cards_of buf)) _ _ _ _
    (ap (λ k. or_card k (map plain_card (found_cards buf c.first_saying.result))) c.text_card-other.ensures ∙ ap (λ l. or_card other (map plain_card l)) found) c.put_or.ensures.written
