-- A slice of the file in whose middle the card is written.
use Rattle.fz_laws.proofs.CardInFile.{cards_stand_in_place}
use Rattle.fz_laws.proofs.patched.card_in_file_law.Goals as goal

pub returns : goal.returns
returns c = cards_stand_in_place
