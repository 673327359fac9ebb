use Rattle.fz_card.proofs.FieldLaws.{value_text_found, value_text_has}
use Rattle.fz_card.proofs.text.value_text_law.Goals as goal

pub returns : goal.returns
returns c = λ card text plain. (value_text_found card text plain, value_text_has card text)
