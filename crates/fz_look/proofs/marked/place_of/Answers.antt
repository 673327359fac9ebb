-- A mark has room in the table.
use Rattle.std.proofs.Common.{length}
use Rattle.fz_look.proofs.Marking.{place_fits}
use Rattle.fz_look.proofs.marked.place_of.Goals as goal

pub returns-clause-within : goal.returns-clause-within
returns-clause-within c = place_fits (length c.args.table.now) c.args.tile c.requires.room
