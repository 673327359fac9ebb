-- A file that ended before the HDU that a part is cut from.
use Rattle.std.proofs.Common.{◌≡◌, ℕ, List, IfSome, sym, ap, ◌∙◌}
use Rattle.std.specs.Prelude.{Option, Some, None, Ok, Err}
use Rattle.fz_base.specs.Source.{HoldsLength}
use Rattle.fz_base.specs.declared.fault.Fault.{Fault}
use Rattle.fz_block.specs.declared.header.Header.{Header}
use Rattle.fz_grid.specs.declared.region.Region.{Region}
use Rattle.fz_checks.specs.JobChecks.{missing_hdu}
use Rattle.fz_job.specs.Surveys.{amend_surveyed, by_stop, cut_surveyed, stop_in, stop_or, surveyed, unless_missing}
use Rattle.fz_job.specs.declared.checks.JobChecks.TheVariants.{Amend, Cut}
use Rattle.fz_job.specs.declared.survey.Survey.{Survey}

pub is_missing : (held : Option (List ℕ)) (len : ℕ) (wanted : Option ℕ) (region : Region) (s : Survey) (x : Fault) → HoldsLength held len → IfSome held (λ g. surveyed (Cut wanted region) g ≡ Ok s) →
    s.stopped ≡ None → x ≡ missing_hdu wanted s.hdus len → IfSome held (λ g. cut_surveyed wanted region g ≡ Err x)
is_missing None len wanted region s x told is none fault = tt
is_missing (Some g) len wanted region s x told is none fault =
    ap (unless_missing wanted g) is ∙ ap (by_stop wanted g s) none ∙ ap (λ n. Err (missing_hdu wanted s.hdus n)) told ∙ ap Err (sym fault)

-- the same of the HDU whose image is changed in place; and it was found
pub is_not_there : (held : Option (List ℕ)) (len : ℕ) (wanted : Option ℕ) (s : Survey) (x : Fault) → HoldsLength held len → IfSome held (λ g. surveyed (Amend wanted) g ≡ Ok s) →
    s.stopped ≡ None → x ≡ missing_hdu wanted s.hdus len → IfSome held (λ g. amend_surveyed wanted g ≡ Err x)
is_not_there None len wanted s x told is none fault = tt
is_not_there (Some g) len wanted s x told is none fault =
    ap (stop_in wanted g) is ∙ ap (stop_or wanted g s) none ∙ ap (λ n. Err (missing_hdu wanted s.hdus n)) told ∙ ap Err (sym fault)

pub is_there : (held : Option (List ℕ)) (wanted : Option ℕ) (s : Survey) (h : Header) → IfSome held (λ g. surveyed (Amend wanted) g ≡ Ok s) →
    s.stopped ≡ Some h → IfSome held (λ g. amend_surveyed wanted g ≡ Ok h)
is_there None wanted s h is some = tt
is_there (Some g) wanted s h is some = ap (stop_in wanted g) is ∙ ap (stop_or wanted g s) some
