use Rattle.std.proofs.Common.{◌≡◌, ℕ, true, List, codes, sym, ap, ◌∙◌, arith}
use Rattle.std.specs.Prelude.{Option, ◌&&◌, is_some}
use Rattle.std.specs.List.{list_any, position}
use Rattle.fz_block.specs.Checks.{is_set}
use Rattle.fz_block.specs.Hdus.{cards_of}
use Rattle.fz_block.specs.Facts.{IsHeaderOf}
use Rattle.fz_block.specs.declared.header.Header.{Header}
use Rattle.fz_head.specs.Packable.{is_packed, is_table}
use Rattle.fz_head.specs.Written.{first_cards}
use Rattle.fz_head.proofs.FrontCards.{header-cards, header-end}
use Rattle.fz_head.proofs.Positions.{some-position}
use Rattle.fz_head.proofs.packable.is_packed.Goals as goal

found : (buf : List ℕ) (h : Header) (o : Option ℕ) → IsHeaderOf buf h → is_table h.sort ≡ true → o ≡ position (is_set (codes "ZIMAGE")) (first_cards buf h.cards) → is_some o ≡ is_packed buf h
unfolding is_packed
found buf h o is table e =
    ap is_some e
    ∙ (some-position (is_set (codes "ZIMAGE")) (first_cards buf h.cards)
    ∙ (ap (list_any (is_set (codes "ZIMAGE"))) (sym (header-cards buf h is))
    ∙ ap (λ b. b && list_any (is_set (codes "ZIMAGE")) (cards_of buf)) (sym table)))

pub first_set-requires : goal.first_set-requires
first_set-requires c = let end = (header-end c.args.buf.now c.args.header.now c.requires.header).within in omega arith

pub returns-then-is_table : goal.returns-then-is_table
returns-then-is_table c = c.is_some.ensures ∙ found c.args.buf.now c.args.header.now c.first_set.result c.requires.header (sym c.is_table.ensures ∙ c.if-is_table.true) c.first_set.ensures
