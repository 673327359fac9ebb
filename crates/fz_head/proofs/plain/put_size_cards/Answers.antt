use Rattle.std.proofs.Common.{codes, map, ap}
use Rattle.fz_block.specs.Hdus.{cards_of}
use Rattle.fz_card.specs.Layout.{padded}
use Rattle.fz_head.specs.PlainHeader.{plain_card, restored_word}
use Rattle.fz_head.specs.Written.{found_cards}
use Rattle.fz_head.proofs.FoundCards.{named-cards}
use Rattle.fz_head.proofs.WrittenCards.{adds-same, adds-then}
use Rattle.fz_head.proofs.plain.put_size_cards.Goals as goal

pub returns-clause-written : goal.returns-clause-written
returns-clause-written c =
    let buf = c.args.buf.now in
    let bitpix = adds-same (map plain_card (found_cards buf c.first_named.result)) (restored_word (codes "ZBITPIX") (cards_of buf)) _ _ _ _ (ap (map plain_card) (named-cards buf (padded (codes "ZBITPIX")) c.first_named.result c.first_named.ensures.first)) c.put_found-bitpix.ensures.written in
    let naxis = adds-same (map plain_card (found_cards buf c.first_named-2.result)) (restored_word (codes "ZNAXIS") (cards_of buf)) _ _ _ _ (ap (map plain_card) (named-cards buf (padded (codes "ZNAXIS")) c.first_named-2.result c.first_named-2.ensures.first)) c.put_found.ensures.written in
    adds-then (restored_word (codes "ZBITPIX") (cards_of buf)) (restored_word (codes "ZNAXIS") (cards_of buf)) _ _ _ _ _ _ bitpix naxis
