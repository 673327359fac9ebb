-- HDU by HDU, by the cards that are made and by the pixels.
use Rattle.fz_laws.proofs.RestoredBytes.{restored_are_bytes}
use Rattle.fz_laws.proofs.round_trip.restored_bytes_law.Goals as goal

pub returns : goal.returns
returns c = restored_are_bytes c.card_laws.ensures
