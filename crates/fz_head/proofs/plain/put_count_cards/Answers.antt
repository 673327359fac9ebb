use Rattle.std.proofs.Common.{◌++◌, codes, map, ap, sym, ◌∙◌}
use Rattle.fz_block.specs.Hdus.{cards_of}
use Rattle.fz_card.specs.Layout.{padded}
use Rattle.fz_head.specs.PackedHeader.{number_card}
use Rattle.fz_head.specs.PlainHeader.{count_cards_of, or_card, plain_card, restored_word}
use Rattle.fz_head.specs.Written.{found_cards}
use Rattle.fz_head.proofs.FoundCards.{named-cards}
use Rattle.fz_head.proofs.WrittenCards.{adds-same, adds-then}
use Rattle.fz_head.proofs.plain.put_count_cards.Goals as goal

pub returns-clause-written : goal.returns-clause-written
returns-clause-written c =
    let buf = c.args.buf.now in
    let none = number_card (codes "PCOUNT") 0 in
    let one = number_card (codes "GCOUNT") 1 in
    let pcount = adds-same (or_card c.int_card-none.result.bytes (map plain_card (found_cards buf c.first_named.result))) (or_card none (restored_word (codes "ZPCOUNT") (cards_of buf))) _ _ _ _
    (ap (λ k. or_card k (map plain_card (found_cards buf c.first_named.result))) c.int_card-none.ensures ∙ ap (λ l. or_card none (map plain_card l)) (named-cards buf (padded (codes "ZPCOUNT")) c.first_named.result c.first_named.ensures.first)) c.put_or-pcount.ensures.written in
    let gcount = adds-same (or_card c.int_card-one.result.bytes (map plain_card (found_cards buf c.first_named-2.result))) (or_card one (restored_word (codes "ZGCOUNT") (cards_of buf))) _ _ _ _
    (ap (λ k. or_card k (map plain_card (found_cards buf c.first_named-2.result))) c.int_card-one.ensures ∙ ap (λ l. or_card one (map plain_card l)) (named-cards buf (padded (codes "ZGCOUNT")) c.first_named-2.result c.first_named-2.ensures.first)) c.put_or.ensures.written in
    adds-same (or_card none (restored_word (codes "ZPCOUNT") (cards_of buf)) ++ or_card one (restored_word (codes "ZGCOUNT") (cards_of buf))) (count_cards_of c.args.primary (cards_of buf)) _ _ _ _
    (ap (λ b. count_cards_of b (cards_of buf)) (sym c.if-primary.false))
    (adds-then (or_card none (restored_word (codes "ZPCOUNT") (cards_of buf))) (or_card one (restored_word (codes "ZGCOUNT") (cards_of buf))) _ _ _ _ _ _ pcount gcount)
