use Rattle.fz_sum.proofs.VerdictLaws.{datasum-law, checksum-law}
use Rattle.fz_sum.proofs.judging.verdicts_law.Goals as goal

pub returns-clause-datasum : goal.returns-clause-datasum
returns-clause-datasum c = datasum-law c.card_laws.ensures c.first_of_name_law.ensures.found

pub returns-clause-checksum : goal.returns-clause-checksum
returns-clause-checksum c = checksum-law c.card_laws.ensures c.first_of_name_law.ensures.found
