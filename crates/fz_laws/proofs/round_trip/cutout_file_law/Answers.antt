-- By the rows of the tiles that hold a pick.
use Rattle.fz_laws.specs.RoundTripTaken.{RestoringLaws}
use Rattle.fz_laws.proofs.CutOut.{CutLaws, has_cutout}
use Rattle.fz_laws.proofs.round_trip.cutout_file_law.Goals as goal

pub returns : goal.returns
returns c =
    let taken : RestoringLaws = c.image_laws.ensures in
    let laws : CutLaws = record { faults = taken.faults; lengths = taken.lengths; whole = taken.whole; tiles = taken.tiles } in
    record { some = has_cutout laws; one = c.one_picked_file_law.ensures }
