-- What `retile` looks for after the rows of a packed file: whether the file that it stands for is too long, and the faults of its headers for
-- `pack` (FITS 4.0, sections 3.1, 3.3 and 10.1).
use Rattle.std.specs.Prelude.{ℕ, ◌^◌, nat_lt, List, length, Option, Some, None, if◌then◌else◌}
use Rattle.fz_base.specs.Refusal.{refusal}
use Rattle.fz_base.specs.declared.fault.Fault.{Fault}
use Rattle.fz_base.specs.declared.fault.Place.TheVariants.{Byte}
use Rattle.fz_base.specs.declared.kind.Kind.TheVariants.{Limit}
use Rattle.fz_head.specs.declared.options.PackOptions.{PackOptions}
use Rattle.fz_files.specs.declared.job.Job.TheVariants.{Pack, Unpack}
use Rattle.fz_files.specs.RestoredFile.{restored}
use Rattle.fz_files.specs.Walks.{header_fault, headers_for}

-- the file that a packed file stands for has more than 2^62 bytes
abbrev pub too_long : List ℕ → Fault
too_long file = refusal (length (headers_for Unpack file)) (Byte (length file)) Limit

-- the fault of the file that a packed file stands for, which is packed anew with these options: HDU, card and byte are those of that file
unfoldable pub plain_fault : PackOptions → List ℕ → Option Fault
plain_fault o file = if nat_lt (2 ^ 62) (length (restored file)) then Some (too_long file) else header_fault (Pack o) (restored file)
