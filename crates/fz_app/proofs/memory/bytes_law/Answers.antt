use Rattle.std.proofs.Common.{arith}
use Rattle.fz_app.proofs.MemoryRuns.{same_at}
use Rattle.fz_app.proofs.memory.bytes_law.Goals as goal

pub returns : goal.returns
returns c = λ k d less. omega (arith, c.type_inv.bytes k, same_at c.args.bytes.now k d 0 less)
