-- The files that are packed, and the file that a packed file stands for (FITS 4.0, section 10.1).
use Rattle.std.specs.Prelude.{ℕ, List, None}
use Rattle.fz_tile.specs.Plain.{AreBytes}
use Rattle.fz_head.specs.Planned.{AreOptions}
use Rattle.fz_head.specs.declared.options.PackOptions.{PackOptions}
use Rattle.fz_files.specs.declared.job.Job.TheVariants.{Pack, Unpack}
use Rattle.fz_files.specs.FirstFault.{IsFirstFault}
use Rattle.fz_files.specs.Restored.{HdusStandFor, standing}
use Rattle.fz_files.specs.Walks.{headers_for}

-- A file that `pack` takes with these options: bytes in which it finds no fault.
pub record IsProfileFile (o : PackOptions) (file : List ℕ) : Type 0 where
  pub bytes : AreBytes file
  pub options : AreOptions o
  pub sound : IsFirstFault (Pack o) file None

-- The file has no fault of `unpack`, and these bytes are what its HDUs stand for, one after another.
pub record StandsFor (file restored : List ℕ) : Type 0 where
  pub sound : IsFirstFault Unpack file None
  pub parts : HdusStandFor file (standing file (headers_for Unpack file)) restored
