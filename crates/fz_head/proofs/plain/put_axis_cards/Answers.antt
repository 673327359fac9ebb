use Rattle.std.proofs.Common.{◌+◌, codes, map, ap, ◌∙◌, arith}
use Rattle.fz_block.specs.Hdus.{cards_of}
use Rattle.fz_card.specs.Made.{numbered_name}
use Rattle.fz_table.specs.Columns.{first_named}
use Rattle.fz_head.specs.PlainHeader.{axis_card, plain_card}
use Rattle.fz_head.specs.Written.{found_cards}
use Rattle.fz_head.proofs.FoundCards.{adds-flat, named-cards}
use Rattle.fz_head.proofs.plain.put_axis_cards.Goals as goal

pub loop-i-preserved : goal.loop-i-preserved
loop-i-preserved c =
    let buf = c.args.buf.now in
    let found = c.first_named-found.ensures.first ∙ ap (λ n. first_named n buf) c.numbered.ensures in
    record {
      adds = adds-flat (axis_card (cards_of buf)) 1 c.loop-i.i (c.loop-i.i + 1) (map plain_card (found_cards buf c.first_named-found.result)) _ _ _ _ _ _ (omega arith)
          (ap (map plain_card) (named-cards buf (numbered_name (codes "ZNAXIS") (c.loop-i.i + 1)) c.first_named-found.result found))
          c.loop-i.invariant.adds c.put_found-written.ensures.written;
      number = omega (arith, c.put_found-written.ensures.number, c.loop-i.invariant.number);
    }
