-- The law, by computing.
use Rattle.fz_strict.specs.Taken.{WalkLaws}
use Rattle.std.proofs.Common.{refl}
use Rattle.fz_strict.proofs.WorkedBare.{bare_strict}
use Rattle.fz_strict.proofs.WorkedFiles.{grid_not_strict, plain_strict, sum_stands, sum_strict}
use Rattle.fz_strict.proofs.WorkedFault.{filled_stands}
use Rattle.fz_strict.proofs.WorkedFill.{filled_not_strict}
use Rattle.fz_strict.proofs.WorkedSums.{some_not_strict, sum_found}
use Rattle.fz_strict.proofs.worked.strict_files_law.Goals as goal

pub returns : goal.returns
returns c =
    let walks : WalkLaws = c.walk_laws.ensures in
    record {
      bare = bare_strict c.restored_file_law.ensures.copies c.packed_file_law.ensures.copies;
      packed = plain_strict c.plain_file_law.ensures.restored c.plain_file_law.ensures.file;
      sums = sum_strict c.round_trip_law.ensures c.sum_file_law.ensures.file;
      found = sum_found walks c.passing_law.ensures.walk (sum_stands c.round_trip_law.ensures c.sum_file_law.ensures.file).sound;
      codec = refl;
      tile = refl;
      unpacked = grid_not_strict walks c.passing_law.ensures.walk c.restored_file_law.ensures.copies c.one_file_law.ensures c.hdu_list_law.ensures.one;
      filled = filled_stands c.first_fault_law.ensures.some c.restored_law.ensures.stands;
      fill =
          filled_not_strict walks c.passing_law.ensures.walk c.options_law.ensures.found c.restored_law.ensures.only c.packed_file_law.ensures.one
          c.plain_file_law.ensures.file;
      some_sums = some_not_strict walks c.passing_law.ensures.walk c.options_law.ensures.agree;
    }
