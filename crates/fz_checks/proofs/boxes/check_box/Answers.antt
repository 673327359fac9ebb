use Rattle.std.proofs.Common.{◌≡◌, ℕ, Bool, List, [], ◌∷◌, Some, None, ap, sym, ◌∙◌, subst, rules, codes}
use Rattle.std.specs.List.{flat_map, range_with_len}
use Rattle.std.specs.Result.{MatchResult}
use Rattle.fz_base.specs.Refusal.{first_refusal}
use Rattle.fz_base.specs.declared.fault.Fault.{Fault}
use Rattle.fz_block.specs.Hdus.{cards_of}
use Rattle.fz_grid.specs.declared.region.Region.{Region}
use Rattle.fz_checks.specs.JobChecks.{axes_check, axis_inside, box_checks}
use Rattle.fz_head.specs.PlainHeader.{axis_count}
use Rattle.fz_checks.proofs.RefusalLists.{passed, stopped}
use Rattle.fz_checks.proofs.AxesCounts.{count-of}
use Rattle.fz_checks.proofs.boxes.check_box.Goals as goal

-- the checks of the axes
abbrev axes-inside : ℕ → List (List ℕ) → Region → ℕ → List (Bool × Fault)
axes-inside k cards region n = flat_map (λ i. axis_inside k cards region i ∷ []) (range_with_len 0 n)

same-number : (k : ℕ) (cards : List (List ℕ)) (region : Region) (n : ℕ) → n ≡ axis_count cards → first_refusal (axes_check k cards region.n ∷ []) ≡ None →
    first_refusal (axes-inside k cards region n) ≡ first_refusal (box_checks k cards region)
same-number k cards region n count e =
    ap (λ m. first_refusal (axes-inside k cards region m)) count
    ∙ sym (passed (axes_check k cards region.n ∷ []) (axes-inside k cards region (axis_count cards)) e)

pub returns-in_err-check_axes-clause-exact : goal.returns-in_err-check_axes-clause-exact
returns-in_err-check_axes-clause-exact c =
    let k = c.args.header.now.hdu in
    let cards = cards_of c.args.buf.now in
    let refused = stopped (axes_check k cards c.args.region.now.n ∷ []) (axes-inside k cards c.args.region.now (axis_count cards)) _ c.in_err-check_axes.ensures.exact in
    search (rules, refused)

pub returns-clause-exact : goal.returns-clause-exact
returns-clause-exact c =
    let same = same-number c.args.header.now.hdu (cards_of c.args.buf.now) c.args.region.now c.args.shape.now.n (count-of (cards_of c.args.buf.now) c.args.shape.now c.requires.shape) c.in_ok-check_axes.ensures.exact in
    subst (λ o. MatchResult c.check_ends.result (λ _. o ≡ None) (λ x. o ≡ Some x)) same c.check_ends.ensures.exact
