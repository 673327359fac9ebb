use Rattle.std.proofs.Common.{refl}
use Rattle.std.specs.Fmt.{digits}
use Rattle.fz_card.specs.Made.{numbered_name}
use Rattle.fz_card.specs.Tables.{renamings, packed_names, own_names, foreign_names}
use Rattle.fz_card.specs.Naming.{number_behind, plain_name, is_dropped, is_reserved}
use Rattle.fz_cases_headers.proofs.names.nine_bytes.Goals as goal

pub returns-clause-reserved : goal.returns-clause-reserved
unfolding is_reserved plain_name renamings packed_names foreign_names number_behind numbered_name digits
returns-clause-reserved c = refl

pub returns-clause-dropped : goal.returns-clause-dropped
unfolding is_dropped own_names packed_names number_behind numbered_name digits
returns-clause-dropped c = refl
