-- HDU by HDU, and in each image tile by tile.
use Rattle.fz_laws.specs.RoundTripTaken.{RestoringLaws}
use Rattle.fz_laws.proofs.Restoring.{stands_for_exactly, stands_for_no_other, stands_for_restored}
use Rattle.fz_laws.proofs.round_trip.restored_law.Goals as goal

pub returns : goal.returns
returns c =
    let laws : RestoringLaws = c.image_laws.ensures in
    record { stands = stands_for_restored laws; only = stands_for_no_other laws c.one_file_law.ensures; exactly = stands_for_exactly laws c.one_file_law.ensures }
