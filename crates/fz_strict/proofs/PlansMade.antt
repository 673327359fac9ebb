-- A header that was restored has one plan.
use Rattle.std.proofs.Common.{◌≡◌, ℕ, List, sym, ap, ◌∙◌}
use Rattle.std.specs.Prelude.{Option, Some, None, Result, Ok, Err}
use Rattle.fz_base.specs.declared.fault.Fault.{Fault}
use Rattle.fz_block.specs.Checks.{header_of}
use Rattle.fz_block.specs.declared.header.Header.{Header}
use Rattle.fz_checks.specs.JobChecks.{plan_to_pack}
use Rattle.fz_head.specs.declared.options.PackOptions.{PackOptions}
use Rattle.fz_head.specs.declared.plan.Plan.{Plan}

abbrev ok_or : {X : Type 0} → X → Result X Fault → X
ok_or d (Ok x) = x
ok_or d (Err e) = d

abbrev some_or : {X : Type 0} → X → Option X → X
some_or d None = d
some_or d (Some x) = x

pub no_plan : (o : PackOptions) (k at end : ℕ) (buf : List ℕ) (header h : Header) (made plan : Plan) → header_of k at end buf ≡ Ok header → plan_to_pack o header buf ≡ Ok (Some made) → (made ≡ plan → ⊥)
    → header_of k at end buf ≡ Ok h → plan_to_pack o h buf ≡ Ok (Some plan) → ⊥
no_plan o k at end buf header h made plan found packs other again planned =
    let same : header ≡ h = ap (ok_or header) (sym found ∙ again) in
    let both : ◌≡◌ {A = Result (Option Plan) Fault} (Ok (Some made)) (Ok (Some plan)) = sym packs ∙ ap (λ (x : Header). plan_to_pack o x buf) same ∙ planned in
    other (ap (some_or made) (ap (ok_or (Some made)) both))
