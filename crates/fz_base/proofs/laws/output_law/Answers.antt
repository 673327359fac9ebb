use Rattle.std.proofs.Common.{refl}
use Rattle.fz_base.specs.Sink.{written}
use Rattle.fz_base.proofs.Overwriting.{written-next, written-behind}
use Rattle.fz_base.proofs.Shut.{emptied_shut, written_shut}
use Rattle.fz_base.proofs.Writes.{writes_apart, writes_joined}
use Rattle.fz_base.proofs.laws.output_law.Goals as goal

pub returns-clause-next : goal.returns-clause-next
returns-clause-next c = written-next

pub returns-clause-apart : goal.returns-clause-apart
returns-clause-apart c = writes_apart

pub returns-clause-joined : goal.returns-clause-joined
returns-clause-joined c = writes_joined

pub returns-clause-behind : goal.returns-clause-behind
returns-clause-behind c = written-behind

pub returns-clause-empty : goal.returns-clause-empty
returns-clause-empty c = emptied_shut

pub returns-clause-shut : goal.returns-clause-shut
returns-clause-shut c = λ at bytes contents behind. written_shut at bytes contents (written at bytes contents) behind refl
