use Rattle.fz_card.proofs.Lines.{name_of_made, card_name-int_card_bytes, card_name-logical_card_bytes, card_name-text_card_bytes, length-value_card, length-int_card_bytes, length-logical_card_bytes, length-text_card_bytes, int_card_value, logical_card_value}
use Rattle.fz_card.proofs.TextValues.{text_card_value}
use Rattle.fz_card.proofs.Texts.{is_unquoted-decimal}
use Rattle.fz_card.proofs.made.made_cards_law.Goals as goal

pub returns : goal.returns
returns c = record {
  field_name = name_of_made;
  integer_name = card_name-int_card_bytes;
  logical_name = card_name-logical_card_bytes;
  text_name = card_name-text_card_bytes;
  field_length = length-value_card;
  integer_length = length-int_card_bytes;
  logical_length = length-logical_card_bytes;
  text_length = length-text_card_bytes;
  integer_value = int_card_value;
  logical_value = logical_card_value;
  text_value = text_card_value;
  number_unquoted = is_unquoted-decimal;
}
