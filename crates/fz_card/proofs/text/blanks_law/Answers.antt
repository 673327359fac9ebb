use Rattle.fz_card.proofs.Splits.{skip_blanks-after, skip_blanks-blanks}
use Rattle.fz_card.proofs.text.blanks_law.Goals as goal

pub returns : goal.returns
returns c = record { skipped = skip_blanks-after; behind_blanks = skip_blanks-blanks }
