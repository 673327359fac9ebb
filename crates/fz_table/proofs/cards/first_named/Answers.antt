use Rattle.std.proofs.Common.{ℕ, Bool, List, bytes_eq, length, ap, ◌∙◌, arith}
use Rattle.fz_card.specs.Layout.{card_name}
use Rattle.fz_block.specs.Cards.{first_among}
use Rattle.fz_table.specs.Columns.{first_named}
use Rattle.fz_table.proofs.Headers.{cards_are, cards_within, before_end}
use Rattle.fz_table.proofs.cards.first_named.Goals as goal

pub first_among-requires : goal.first_among-requires
first_among-requires c = omega (arith, cards_within c.args.buf.now c.args.header.now c.requires)

pub returns-clause-first : goal.returns-clause-first
unfolding first_named
returns-clause-first c =
    let has : List ℕ → Bool = λ card. bytes_eq (card_name card) c.args.name.now.bytes in
    c.first_among.ensures.first ∙ ap (λ n. first_among has n c.args.buf.now) (cards_are c.args.buf.now c.args.header.now c.requires)

pub returns-clause-within : goal.returns-clause-within
returns-clause-within c =
    before_end c.first_among.result c.args.header.now.cards (length c.args.buf.now) (cards_within c.args.buf.now c.args.header.now c.requires) c.first_among.ensures.within
