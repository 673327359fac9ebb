use Rattle.std.proofs.Common.{◌≡◌, ℕ, ◌+◌, ◌^◌, ◌<◌, pos, sum, [], ◌∷◌, ◌++◌, take, get_or, refl, sym, subst, ap, ◌∙◌, arith, rules}
use Rattle.std.specs.Int.{w32}
use Rattle.std.specs.Prelude.{FitsSigned}
use Rattle.std.proofs.lemmas.Int.{to_z-of_z}
use Rattle.std.proofs.lemmas.List.Sums.{sum_by_push}
use Rattle.fz_rice.specs.Numbers.{residue}
use Rattle.fz_rice.specs.Code.{difference, mapped, differences}
use Rattle.fz_rice.proofs.NumbersLemmas.{residue_lt}
use Rattle.fz_rice.proofs.WritesLemmas.{last_residue, last_residue-nil, last_residue-more, differences-more}
use Rattle.fz_rice.proofs.encode.total.Goals as goal

pub loop-number-init : goal.loop-number-init
loop-number-init g c = record {
  sum = refl;
  few = omega arith;
  last = sym (last_residue-nil g.row.W c.args.start);
  below = c.requires.start;
}

pub loop-number-preserved : goal.loop-number-preserved
loop-number-preserved g c =
    let w = g.row.W in
    let start = c.args.start in
    let xs = c.args.numbers.now in
    let i = c.loop-number.number-index in
    let item = get_or xs i (pos 0) in
    let fits : FitsSigned w32 item = search rules in
    let next : c.residue-next.result ≡ residue w item = c.residue-next.ensures ∙ ap (residue w) (to_z-of_z w32 item fits) in
    let is : c.mapped.result ≡ mapped w (difference w (last_residue w start (take i xs)) (residue w item)) = c.mapped.ensures ∙ ap (λ u. mapped w (difference w c.loop-number.last u)) next ∙ ap (λ u. mapped w (difference w u (residue w item))) c.loop-number.invariant.last in
    let before = differences w start (take i xs) in
    let more : sum (differences w start (take (i + 1) xs)) ≡ sum before + c.mapped.result = ap sum (differences-more w start xs i (pos 0) c.loop-number-test.true ∙ ap (λ v. before ++ v ∷ []) (sym is)) ∙ sum_by_push (λ v. v) before c.mapped.result in
    record {
      sum = omega (arith, more, c.loop-number.invariant.sum, c.from-sum.ensures);
      few = omega (arith, c.from-sum.ensures, c.loop-number.invariant.few, c.mapped.type_inv);
      last = next ∙ sym (last_residue-more w start xs i (pos 0) c.loop-number-test.true);
      below = subst (λ (u : ℕ). u < 2 ^ w) (sym next) (residue_lt w item);
    }
