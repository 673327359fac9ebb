use Rattle.fz_checks.proofs.PlannedCodecs.{planned-writable}
use Rattle.fz_checks.proofs.PlannedTiles.{planned-divided}
use Rattle.fz_checks.proofs.checked.pack_plan_law.Goals as goal

pub returns-clause-divided : goal.returns-clause-divided
returns-clause-divided c = λ o h header p options is packable answer. planned-divided o header h p options is packable answer

pub returns-clause-writable : goal.returns-clause-writable
returns-clause-writable c = λ o h header p options packable answer. planned-writable o header h p options packable answer
