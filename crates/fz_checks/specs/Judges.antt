-- What a job says of an HDU that passed the checks of every job (FITS 4.0, sections 3.3.2, 7.3 and 10.1).
use Rattle.std.specs.Prelude.{ℕ, ◌==◌, Bool, true, false, List, Option, Some, None, Ok, if◌then◌else◌}
use Rattle.fz_base.specs.Refusal.{first_refusal}
use Rattle.fz_block.specs.Checks.{Judge, unless_refused}
use Rattle.fz_block.specs.Walk.{hdu_of}
use Rattle.fz_block.specs.declared.header.Header.{Header}
use Rattle.fz_grid.specs.declared.region.Region.{Region}
use Rattle.fz_checks.specs.JobChecks.{pack_hdu_checks, unpack_hdu_checks, cut_hdu_checks, amend_hdu_checks}
use Rattle.fz_head.specs.Packable.{is_packed}
use Rattle.fz_head.specs.declared.options.PackOptions.{PackOptions}

-- what `pack` says of an HDU: it goes on after it
abbrev pub pack_judge : PackOptions → List ℕ → Judge
pack_judge o file h = unless_refused false (first_refusal (pack_hdu_checks o file h))

-- what `unpack`, `verify` and `list` say of one
abbrev pub unpack_judge : List ℕ → Judge
unpack_judge file h = unless_refused false (first_refusal (unpack_hdu_checks file h))

-- the HDU that a part is cut from: that of the wanted number, or the first packed one
abbrev pub is_wanted : Option ℕ → List ℕ → Header → Bool
is_wanted None header h = is_packed header h
is_wanted (Some k) header h = h.hdu == k

-- what `cut` says of one: it goes on after those before the HDU that it cuts from, and stops at that
abbrev pub cut_judge : Option ℕ → Region → List ℕ → Judge
cut_judge wanted region file h =
    if is_wanted wanted (hdu_of file h).header h then unless_refused true (first_refusal (cut_hdu_checks file region h)) else Ok false

-- what is said of an HDU while that is looked for whose image is changed in place: the search stops at it
abbrev pub amend_judge : Option ℕ → List ℕ → Judge
amend_judge wanted file h =
    if is_wanted wanted (hdu_of file h).header h then unless_refused true (first_refusal (amend_hdu_checks file h)) else Ok false
