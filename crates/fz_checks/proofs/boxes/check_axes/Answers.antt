use Rattle.std.proofs.Common.{◌≡◌, ℕ, List, [], ◌∷◌, Some, None, not, ◌==◌, subst, codes}
use Rattle.std.specs.Result.{MatchResult}
use Rattle.fz_base.specs.Refusal.{first_refusal}
use Rattle.fz_base.specs.declared.fault.Fault.{Fault}
use Rattle.fz_base.specs.declared.kind.Kind.TheVariants.{OutOfBox}
use Rattle.fz_block.specs.Hdus.{cards_of}
use Rattle.fz_checks.specs.JobChecks.{axes_check}
use Rattle.fz_head.specs.PackedChecks.{at_word}
use Rattle.fz_head.specs.PlainHeader.{axis_count}
use Rattle.fz_checks.proofs.AxesCounts.{count-of}
use Rattle.fz_checks.proofs.boxes.check_axes.Goals as goal

-- the check by the axes of the shape is that by the cards
same-check : (k : ℕ) (cards : List (List ℕ)) (axes n : ℕ) (fault : Fault) → n ≡ axis_count cards → fault ≡ at_word k (codes "ZNAXIS") cards OutOfBox →
    first_refusal ((not (axes == n), fault) ∷ []) ≡ first_refusal (axes_check k cards axes ∷ [])
same-check k cards axes n fault count at = λ i. first_refusal ((not (axes == count i), at i) ∷ [])

pub returns-clause-exact : goal.returns-clause-exact
returns-clause-exact c =
    let same = same-check c.args.header.now.hdu (cards_of c.args.buf.now) c.args.axes c.args.shape.now.n _ (count-of (cards_of c.args.buf.now) c.args.shape.now c.requires.shape) c.at_name.ensures in
    subst (λ o. MatchResult c.refuse_when.result (λ _. o ≡ None) (λ x. o ≡ Some x)) same c.refuse_when.ensures
