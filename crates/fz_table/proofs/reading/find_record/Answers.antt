-- The answer is that of the row that was read.
use Rattle.std.proofs.Common.{rules, Result, Ok, Err}
use Rattle.fz_base.specs.Stop.{IsDefined, IfAnswered}
use Rattle.fz_base.specs.declared.failure.Stop.{Stop}
use Rattle.fz_base.specs.declared.failure.Stop.TheVariants.{Refused, ReadFault, WriteFault, OverLimit, NoMemory}
use Rattle.fz_table.specs.Records.{record_of}
use Rattle.fz_table.proofs.reading.find_record.Goals as goal

if_answered : {X : Type 0} (result : Result X Stop) (P : Type 0) → P → IfAnswered result P
if_answered (Ok x) P is = is
if_answered (Err (Refused x)) P is = is
if_answered (Err ReadFault) P is = tt
if_answered (Err WriteFault) P is = tt
if_answered (Err (OverLimit live asked limit)) P is = tt
if_answered (Err NoMemory) P is = tt

pub returns-clause-row : goal.returns-clause-row
returns-clause-row g c =
    let is : IsDefined (record_of c.args.hdu c.args.row c.args.table.now c.in_ok-says.says c.args.tile.now) c.map_err.result = search rules in
    if_answered c.map_err.result _ (c.in_ok-says.says, c.in_ok-says.ensures.row, is)
