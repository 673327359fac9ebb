-- What the laws of strict files take of those below, and how one follows from another.
use Rattle.fz_strict.specs.FoundOptions.{found_options}
use Rattle.fz_strict.specs.Laws.{FoundOptionsDoForEach, StrictIsHduByHdu}
use Rattle.fz_strict.proofs.Each.{EachLaws, each_is_same}
use Rattle.fz_strict.proofs.OptionsFound.{found_options_do}
use Rattle.fz_strict.proofs.Whole.{same_is_strict}

pub hdu_by_hdu : EachLaws → StrictIsHduByHdu
hdu_by_hdu laws o file = (each_is_same laws o file, same_is_strict laws o file)

pub found_for_each : EachLaws → FoundOptionsDoForEach
found_for_each laws file =
    let found = found_options_do laws.strict file in
    ((λ is. each_is_same laws (found_options file) file (found.0 is)), (λ is. found.1 (same_is_strict laws (found_options file) file is)))
