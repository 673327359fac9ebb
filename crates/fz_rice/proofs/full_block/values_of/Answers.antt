use Rattle.std.proofs.Common.{◌≡◌, ◌+◌, ◌-◌, pos, [], ◌∷◌, ◌++◌, take, get_or, sym, ap, ◌∙◌, arith, rules}
use Rattle.std.specs.Int.{w32}
use Rattle.std.specs.Prelude.{FitsSigned}
use Rattle.std.proofs.lemmas.Int.{to_z-of_z}
use Rattle.std.proofs.lemmas.List.{length-set, take_more_set}
use Rattle.fz_rice.specs.Numbers.{residue}
use Rattle.fz_rice.specs.Code.{difference, mapped, differences}
use Rattle.fz_rice.proofs.WritesLemmas.{last_residue, last_residue-more, differences-more}
use Rattle.fz_rice.proofs.full_block.values_of.Goals as goal

pub loop-i-preserved : goal.loop-i-preserved
loop-i-preserved g c =
    let w = g.row.W in
    let last = c.args.last in
    let xs = c.args.numbers.now in
    let i = c.loop-i.i in
    let so_far = c.loop-i.values in
    let v = c.mapped-in-loop-i.result in
    let x = get_or xs (i - 1) (pos 0) in
    let y = get_or xs i (pos 0) in
    let fits_x : FitsSigned w32 x = search rules in
    let fits_y : FitsSigned w32 y = search rules in
    let before : c.residue-in-loop-i.result ≡ residue w x = c.residue-in-loop-i.ensures ∙ ap (residue w) (to_z-of_z w32 x fits_x) in
    let next : c.residue-in-loop-i-2.result ≡ residue w y = c.residue-in-loop-i-2.ensures ∙ ap (residue w) (to_z-of_z w32 y fits_y) in
    let size : i ≡ i - 1 + 1 = omega (arith, c.loop-i.auto.i) in
    let follows : last_residue w last (take i xs) ≡ residue w x = ap (λ k. last_residue w last (take k xs)) size ∙ last_residue-more w last xs (i - 1) (pos 0) (omega (arith, c.requires.len, c.loop-i-test.true)) in
    let is : v ≡ mapped w (difference w (last_residue w last (take i xs)) (residue w y)) = c.mapped-in-loop-i.ensures ∙ ap (λ u. mapped w (difference w c.residue-in-loop-i.result u)) next ∙ ap (λ u. mapped w (difference w u (residue w y))) (before ∙ sym follows) in
    record {
      len = length-set so_far i v ∙ c.loop-i.invariant.len;
      so_far = take_more_set so_far i v (omega (arith, c.loop-i.invariant.len, c.loop-i-test.true)) ∙ ap (λ l. l ++ v ∷ []) c.loop-i.invariant.so_far ∙ ap (λ u. differences w last (take i xs) ++ u ∷ []) is ∙ sym (differences-more w last xs i (pos 0) (omega (arith, c.requires.len, c.loop-i-test.true)));
    }
