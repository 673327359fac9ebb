-- Nothing was read.
use Rattle.fz_fetch.proofs.ReadAhead.{none_ahead}
use Rattle.fz_fetch.proofs.ahead.Ahead.none.Goals as goal

pub returns-clause-ahead : goal.returns-clause-ahead
returns-clause-ahead c = λ held table bytes long. none_ahead held table bytes long
