-- By the way back, and that a packed file stands for one file.
use Rattle.fz_laws.proofs.Lossless.{comes_back_alone, loses_nothing, options_do_not_matter}
use Rattle.fz_laws.proofs.round_trip.lossless_law.Goals as goal

pub returns : goal.returns
returns c =
    record {
      same = comes_back_alone c.round_trip_law.ensures c.one_file_law.ensures;
      one = loses_nothing c.round_trip_law.ensures c.one_file_law.ensures;
      options = options_do_not_matter c.round_trip_law.ensures c.one_file_law.ensures;
    }
