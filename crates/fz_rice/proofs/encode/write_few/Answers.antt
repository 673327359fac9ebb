use Rattle.std.proofs.Common.{◌≡◌, ℕ, Bool, pos, List, get_or, length, subst, ap, ◌∙◌, arith, rules, ◌^◌, ◌<◌, ℤ, sym}
use Rattle.std.specs.List.{flat_map}
use Rattle.std.specs.Int.{w32}
use Rattle.std.specs.Prelude.{FitsSigned}
use Rattle.std.proofs.lemmas.Int.{to_z-of_z}
use Rattle.fz_bits.specs.Bits.{number_bits}
use Rattle.fz_rice.specs.Numbers.{residue}
use Rattle.fz_rice.specs.Code.{differences, split_bits}
use Rattle.fz_rice.specs.Writing.{Writes}
use Rattle.fz_rice.proofs.WritesLemmas.{four_bits}
use Rattle.fz_rice.proofs.NumbersLemmas.{residue_lt}
use Rattle.fz_rice.proofs.encode.write_few.Goals as goal

pub returns-in-Some : goal.returns-in-Some
returns-in-Some g c =
    let w = g.row.W in
    let start = c.args.start in
    let xs = c.args.numbers.now in
    let f : ℕ → List Bool = split_bits c.args.k in
    let four = c.in-Some.four in
    let x0 = get_or xs 0 (pos 0) in
    let x1 = get_or xs 1 (pos 0) in
    let x2 = get_or xs 2 (pos 0) in
    let x3 = get_or xs 3 (pos 0) in
    let f0 : FitsSigned w32 x0 = search rules in
    let f1 : FitsSigned w32 x1 = search rules in
    let f2 : FitsSigned w32 x2 = search rules in
    let f3 : FitsSigned w32 x3 = search rules in
    let a : c.residue-a.result ≡ residue w x0 = c.residue-a.ensures ∙ ap (residue w) (to_z-of_z w32 x0 f0) in
    let b : c.residue-b.result ≡ residue w x1 = c.residue-b.ensures ∙ ap (residue w) (to_z-of_z w32 x1 f1) in
    let d : c.residue-c.result ≡ residue w x2 = c.residue-c.ensures ∙ ap (residue w) (to_z-of_z w32 x2 f2) in
    let e : c.residue-d.result ≡ residue w x3 = c.residue-d.ensures ∙ ap (residue w) (to_z-of_z w32 x3 f3) in
    let len : length xs ≡ 4 = omega (arith, c.in-len4.len_at_least, c.in-len4.len_below) in
    let is : number_bits four.width four.bits ≡ flat_map f (differences w start xs) = c.in-Some.ensures ∙ four_bits f w start xs c.residue-a.result c.residue-b.result c.residue-c.result c.residue-d.result c.mapped.result c.mapped-in-len4.result c.mapped-in-len4-2.result c.mapped-in-len4-3.result len a b d e c.mapped.ensures c.mapped-in-len4.ensures c.mapped-in-len4-2.ensures c.mapped-in-len4-3.ensures in
    subst (λ (x : List Bool). Writes c.write.result x c.args.writer.now c.write.new.writer) is c.write.ensures

-- a residue is below the modulus
below : (w u : ℕ) (x : ℤ) → u ≡ residue w x → u < 2 ^ w
below w u x is = subst (λ (k : ℕ). k < 2 ^ w) (sym is) (residue_lt w x)

pub mapped-requires-clause-last : goal.mapped-requires-clause-last
mapped-requires-clause-last g c = c.requires.start

pub mapped-requires-clause-next : goal.mapped-requires-clause-next
mapped-requires-clause-next g c = below _ _ _ c.residue-a.ensures

pub mapped-requires-in-len4-clause-last : goal.mapped-requires-in-len4-clause-last
mapped-requires-in-len4-clause-last g c = below _ _ _ c.residue-a.ensures

pub mapped-requires-in-len4-clause-next : goal.mapped-requires-in-len4-clause-next
mapped-requires-in-len4-clause-next g c = below _ _ _ c.residue-b.ensures

pub mapped-requires-in-len4-2-clause-last : goal.mapped-requires-in-len4-2-clause-last
mapped-requires-in-len4-2-clause-last g c = below _ _ _ c.residue-b.ensures

pub mapped-requires-in-len4-2-clause-next : goal.mapped-requires-in-len4-2-clause-next
mapped-requires-in-len4-2-clause-next g c = below _ _ _ c.residue-c.ensures

pub mapped-requires-in-len4-3-clause-last : goal.mapped-requires-in-len4-3-clause-last
mapped-requires-in-len4-3-clause-last g c = below _ _ _ c.residue-c.ensures

pub mapped-requires-in-len4-3-clause-next : goal.mapped-requires-in-len4-3-clause-next
mapped-requires-in-len4-3-clause-next g c = below _ _ _ c.residue-d.ensures
