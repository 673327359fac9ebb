-- The first fault of a file for a job, by the bytes of the file only (FITS 4.0, sections 7.3.5 and 10.1.3).
use Rattle.std.specs.Prelude.{ℕ, List, Option, Some, None}
use Rattle.fz_base.specs.declared.fault.Fault.{Fault}
use Rattle.fz_files.specs.declared.job.Job.{Job}
use Rattle.fz_files.specs.declared.job.Job.TheVariants.{Pack, Unpack, Cut, Verify, List as ListHdus, Drill, Retile}
use Rattle.fz_files.specs.FirstFault.{rows_for}
use Rattle.fz_files.specs.PlainFault.{plain_fault}
use Rattle.fz_files.specs.RowPixels.{first_row_fault}
use Rattle.fz_files.specs.Walks.{header_fault, headers_for}

-- the fault of some rows, or else the one that is looked for after them
abbrev pub fault_then : Option Fault → Option Fault → Option Fault
fault_then (Some fault) later = Some fault
fault_then None later = later

-- the first fault of the rows that a job looks at, or none
abbrev pub rows_fault : Job → List ℕ → Option Fault
rows_fault job file = first_row_fault file (rows_for job file (headers_for job file))

-- the fault of a file whose headers have none; that of `retile` may also be one of the file that is packed anew
abbrev pub fault_behind : Job → List ℕ → Option Fault
fault_behind (Pack o) file = rows_fault (Pack o) file
fault_behind Unpack file = rows_fault Unpack file
fault_behind (Cut wanted sieve) file = rows_fault (Cut wanted sieve) file
fault_behind Verify file = rows_fault Verify file
fault_behind ListHdus file = rows_fault ListHdus file
fault_behind (Drill rows) file = rows_fault (Drill rows) file
fault_behind (Retile o) file = fault_then (rows_fault (Retile o) file) (plain_fault o file)

-- the fault of the headers of a file, or otherwise the one after them
abbrev pub fault_after : Option Fault → Job → List ℕ → Option Fault
fault_after (Some fault) job file = Some fault
fault_after None job file = fault_behind job file

-- the first fault of a file for a job, or none
unfoldable pub first_fault : Job → List ℕ → Option Fault
first_fault job file = fault_after (header_fault job file) job file
