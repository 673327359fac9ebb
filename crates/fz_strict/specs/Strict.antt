-- Which packed files `pack` can have written: those that are the packed file of what they stand for, by some options (FITS 4.0, sections
-- 10.1.1 to 10.1.3).
use Rattle.std.specs.Prelude.{ℕ, List}
use Rattle.fz_head.specs.declared.options.PackOptions.{PackOptions}
use Rattle.fz_files.specs.Packed.{IsPackedFile}
use Rattle.fz_files.specs.StandsFor.{IsProfileFile, StandsFor}

-- A file is what `pack` writes by these options: no check of `unpack` refuses it, `pack` takes the file that it stands for, and the packed
-- file of that file is the file again.
pub record IsStrictBy (o : PackOptions) (file : List ℕ) : Type 0 where
  pub restored : List ℕ
  pub stands : StandsFor file restored
  pub taken : IsProfileFile o restored
  pub packed : IsPackedFile o restored file

-- A file is strict if it is that by some options.
pub record IsStrict (file : List ℕ) : Type 0 where
  pub options : PackOptions
  pub strict : IsStrictBy options file
