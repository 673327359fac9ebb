use Rattle.std.proofs.Common.{◌≡◌, ℕ, Bool, List, subst, ◌∙◌, arith}
use Rattle.std.specs.List.{flat_map}
use Rattle.fz_bits.specs.Bits.{number_bits}
use Rattle.fz_rice.specs.Code.{split_bits}
use Rattle.fz_rice.specs.Writing.{Writes}
use Rattle.fz_rice.proofs.FieldsLemmas.{four_values}
use Rattle.fz_rice.proofs.full_block.write_four.Goals as goal

pub returns-in-Some : goal.returns-in-Some
returns-in-Some c =
    let vs = c.args.values.now in
    let f : ℕ → List Bool = split_bits c.args.k in
    let four = c.in-Some.four in
    let few = c.in-Some.ensures.few in
    let is : number_bits four.width four.bits ≡ flat_map f vs = c.in-Some.ensures.bits ∙ four_values f vs 0 _ _ _ _ c.requires.len (c.requires.first.is (omega (arith, few))) (c.requires.second.is (omega (arith, few))) (c.requires.third.is (omega (arith, few))) (c.requires.fourth.is (omega (arith, few))) in
    subst (λ (x : List Bool). Writes c.write.result x c.args.writer.now c.write.new.writer) is c.write.ensures
