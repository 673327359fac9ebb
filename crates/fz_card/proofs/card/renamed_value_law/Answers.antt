use Rattle.fz_card.proofs.FieldLaws.{same_values}
use Rattle.fz_card.proofs.card.renamed_value_law.Goals as goal

pub returns : goal.returns
returns c = same_values
