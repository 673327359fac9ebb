-- The checks that find a target, one after another (FITS 4.0, sections 4.4.1, 7.3 and 10.1).
use Rattle.std.specs.Prelude.{IfSome}
use Rattle.std.proofs.Common.{◌≡◌, ℕ, Bool, true, false, List, [], Option, Some, None, Result, Ok, Err, if◌then◌else◌, ap, ◌∙◌}
use Rattle.fz_base.specs.Refusal.{first_refusal, refusal}
use Rattle.fz_base.specs.declared.fault.Fault.{Fault}
use Rattle.fz_base.specs.declared.fault.Place.TheVariants.{Byte}
use Rattle.fz_base.specs.declared.kind.Kind.TheVariants.{BadPatch}
use Rattle.fz_block.specs.declared.header.Header.{Header}
use Rattle.fz_head.specs.declared.plan.Plan.{Plan}
use Rattle.fz_laws.specs.PatchChecks.{may_be_given}
use Rattle.fz_laws.specs.Given.{given_header}
use Rattle.fz_target.specs.Targets.{given_found, given_taking}

-- ---- what is given

abbrev pub bad_patch : Fault
bad_patch = refusal 0 (Byte 0) BadPatch

pub unfit_given : (p : Plan) (held : Option (List ℕ)) (q : Header) → IfSome held (λ patch. given_header patch ≡ Ok q) → may_be_given p (Ok q) ≡ false → IfSome held (λ patch. given_found p patch ≡ Err bad_patch)
unfit_given p None q found unfit = tt
unfit_given p (Some patch) q found unfit =
    ap (λ (r : Result Header Fault). if may_be_given p r then r else Err bad_patch) found ∙ ap (λ b. if b then Ok q else Err bad_patch) unfit

pub fit_given : (p : Plan) (held : Option (List ℕ)) (q : Header) → IfSome held (λ patch. given_header patch ≡ Ok q) → may_be_given p (Ok q) ≡ true → IfSome held (λ patch. given_found p patch ≡ Ok q)
fit_given p None q found fit = tt
fit_given p (Some patch) q found fit =
    ap (λ (r : Result Header Fault). if may_be_given p r then r else Err bad_patch) found ∙ ap (λ b. if b then Ok q else Err bad_patch) fit

-- ---- takings and stops

pub no_taking : (live : ℕ) (patch : List ℕ) (checks : List (Bool × Fault)) (x : Fault) → first_refusal checks ≡ Some x → given_taking live patch (first_refusal checks) ≡ []
no_taking live patch checks x stops = ap (given_taking live patch) stops
