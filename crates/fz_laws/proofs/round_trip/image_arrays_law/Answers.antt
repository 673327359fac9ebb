-- Image by image, and in each tile by tile.
use Rattle.fz_laws.proofs.Restoring.{arrays_stand}
use Rattle.fz_laws.proofs.round_trip.image_arrays_law.Goals as goal

pub returns : goal.returns
returns c = arrays_stand c.image_laws.ensures
