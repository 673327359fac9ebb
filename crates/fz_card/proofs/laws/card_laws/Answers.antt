use Rattle.fz_card.proofs.laws.card_laws.Goals as goal

pub returns : goal.returns
returns c = record {
  made = c.made_cards_law.ensures;
  values = record {
    integer = c.int_law.ensures.function;
    logical = c.logical_law.ensures.function;
    text = c.text_law.ensures.function;
    zero = c.zero_law.ensures.function;
  };
  numbers = c.numbers_law.ensures;
  names = c.names_law.ensures;
  blanks = c.blanks_law.ensures;
}
