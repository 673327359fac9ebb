-- What `retile` writes: the packed file of the file that a packed file stands for (FITS 4.0, section 10.1).
use Rattle.std.specs.Prelude.{ℕ, ◌^◌, nat_lt, List, length, Option, Some, None, if◌then◌else◌}
use Rattle.fz_base.specs.declared.fault.Fault.{Fault}
use Rattle.fz_head.specs.declared.options.PackOptions.{PackOptions}
use Rattle.fz_files.specs.Decided.{first_fault}
use Rattle.fz_files.specs.Packed.{IsPackedFile}
use Rattle.fz_files.specs.RestoredFile.{restored}
use Rattle.fz_files.specs.StandsFor.{StandsFor}
use Rattle.fz_files.specs.declared.job.Job.TheVariants.{Unpack}

-- The bytes are the packed file, by these options, of the file that a packed file stands for.
pub record IsRetiled (o : PackOptions) (file bytes : List ℕ) : Type 0 where
  pub plain : List ℕ
  pub stands : StandsFor file plain
  pub packed : IsPackedFile o plain bytes

-- the file that a packed file stands for, if it stands for one
abbrev pub restored_unless : Option Fault → List ℕ → Option (List ℕ)
restored_unless (Some fault) file = None
restored_unless None file = Some (restored file)

unfoldable pub restored_file : List ℕ → Option (List ℕ)
restored_file file = restored_unless (first_fault Unpack file) file

-- the same, if it is not too long: the file that is packed anew
abbrev pub if_short : Option (List ℕ) → Option (List ℕ)
if_short None = None
if_short (Some plain) = if nat_lt (2 ^ 62) (length plain) then None else Some plain

abbrev pub plain_of : List ℕ → Option (List ℕ)
plain_of file = if_short (restored_file file)
