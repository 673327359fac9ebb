use Rattle.fz_checks.proofs.TakenImages.{answered, taken-blanks, taken-divided, taken-writable, taken-zeros}
use Rattle.fz_checks.proofs.checked.image_to_pack_law.Goals as goal

pub returns-clause-plan : goal.returns-clause-plan
returns-clause-plan c = answered

pub returns-clause-divided : goal.returns-clause-divided
returns-clause-divided c = taken-divided

pub returns-clause-writable : goal.returns-clause-writable
returns-clause-writable c = taken-writable

pub returns-clause-header_fill : goal.returns-clause-header_fill
returns-clause-header_fill c = taken-blanks

pub returns-clause-data_fill : goal.returns-clause-data_fill
returns-clause-data_fill c = taken-zeros
