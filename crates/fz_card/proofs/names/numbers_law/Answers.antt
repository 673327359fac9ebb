use Rattle.fz_card.proofs.Lines.{length-numbered_name}
use Rattle.fz_card.proofs.Numbers.{number_behind-has, number_behind-made, number_behind-other}
use Rattle.fz_card.proofs.names.numbers_law.Goals as goal

pub returns : goal.returns
returns c = record {
  eight_bytes = length-numbered_name;
  made_number = number_behind-made;
  number_made = λ stem name i e. let has = number_behind-has stem name i e in record { some = has.some; made = has.made };
  other_stem = number_behind-other;
}
