use Rattle.std.proofs.Common.{◌≡◌, ◌∙◌, ap, sym, ◌+◌, ◌%◌, ◌^◌, bit_and, arith}
use Rattle.std.proofs.lemmas.Nat.{and_mask}
use Rattle.fz_rice.specs.Reading.{unmapped}
use Rattle.fz_rice.proofs.MachineLemmas.{width_le, masked, mod_wide}
use Rattle.fz_rice.proofs.NumbersLemmas.{unmapped-even, unmapped-odd}
use Rattle.fz_rice.proofs.numbers.next_residue.Goals as goal
use Rattle.fz_rice.proofs.numbers.next_residue.Goals.{then-value-eq0, else-value-eq0}

pub returns : goal.returns
returns g c =
    let w = g.row.W in
    let last = c.args.last in
    let last_is : bit_and c.args.value 1 ≡ c.args.value % 2 = and_mask c.args.value 1 in
    let d : c.if-value-eq0.difference ≡ unmapped w c.args.value = elim c.if-value-eq0.branch [
      | then-value-eq0 b ↦ b.difference-is ∙ sym (unmapped-even w c.args.value (omega (arith, b.if-value-eq0.true, last_is)))
      | else-value-eq0 b ↦ b.difference-is ∙ omega (arith, unmapped-odd w c.args.value (λ e. b.if-value-eq0.false (last_is ∙ e)), b.greatest.ensures)
    ] in
    masked w c.greatest-2.result ((last + c.if-value-eq0.difference) % 4294967296) c.greatest-2.ensures ∙ mod_wide w (last + c.if-value-eq0.difference) (width_le w c.requires.width) ∙ ap (λ k. (last + k) % 2 ^ w) d
