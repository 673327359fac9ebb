-- The checks of the parameters of a Rice code, one after another.
use Rattle.std.proofs.Common.{◌≡◌, ℕ, Bool, true, List, [], ◌++◌, ap, ◌∙◌, codes}
use Rattle.std.specs.Prelude.{Some, None, if◌then◌else◌}
use Rattle.fz_base.specs.Refusal.{first_refusal}
use Rattle.fz_base.specs.declared.fault.Fault.{Fault}
use Rattle.fz_head.specs.PackedChecks.{block_checks, bytepix_checks, parameter_checks}
use Rattle.fz_head.specs.PackedPlan.{is_rice_name, parameter_number, said_codec}
use Rattle.fz_checks.proofs.RefusalLists.{passed, stopped}

-- the checks of BLOCKSIZE, and those of BYTEPIX
abbrev pub blocks : ℕ → List (List ℕ) → List (Bool × Fault)
blocks k cards = block_checks k cards (parameter_number (codes "BLOCKSIZE") cards)

abbrev pub bytes : ℕ → List (List ℕ) → List (Bool × Fault)
bytes k cards = bytepix_checks k cards (parameter_number (codes "BYTEPIX") cards)

pub of-rice : (k : ℕ) (cards : List (List ℕ)) → is_rice_name (said_codec cards) ≡ true → first_refusal (parameter_checks k cards) ≡ first_refusal (blocks k cards ++ bytes k cards)
of-rice k cards rice = ap (λ b. first_refusal (if b then blocks k cards ++ bytes k cards else [])) rice

pub in-block : (k : ℕ) (cards : List (List ℕ)) (x : Fault) → is_rice_name (said_codec cards) ≡ true → first_refusal (blocks k cards) ≡ Some x → first_refusal (parameter_checks k cards) ≡ Some x
in-block k cards x rice e = of-rice k cards rice ∙ stopped (blocks k cards) (bytes k cards) x e

pub in-bytepix : (k : ℕ) (cards : List (List ℕ)) (x : Fault) → is_rice_name (said_codec cards) ≡ true → first_refusal (blocks k cards) ≡ None → first_refusal (bytes k cards) ≡ Some x → first_refusal (parameter_checks k cards) ≡ Some x
in-bytepix k cards x rice one e = of-rice k cards rice ∙ (passed (blocks k cards) (bytes k cards) one ∙ e)
