-- Row by row, and before them the headers.
use Rattle.fz_laws.specs.RoundTripTaken.{RestoringLaws}
use Rattle.fz_laws.proofs.FirstFaults.{first_fault_is}
use Rattle.fz_laws.proofs.Known.{first_fault_known}
use Rattle.fz_laws.proofs.round_trip.first_fault_law.Goals as goal

pub returns : goal.returns
returns c =
    let laws : RestoringLaws = c.image_laws.ensures in
    record { some = first_fault_is laws.faults; only = first_fault_known laws.known laws.faults }
