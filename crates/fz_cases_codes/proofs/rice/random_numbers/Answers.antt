use Rattle.std.proofs.Common.{◌≡◌, sym, subst, arith, rules, to_z, of_z}
use Rattle.std.specs.Int.{w32}
use Rattle.std.specs.List.{All}
use Rattle.std.specs.Prelude.{FitsSigned}
use Rattle.std.proofs.lemmas.Int.{to_z-of_z}
use Rattle.std.proofs.lemmas.List.Elements.{All-push}
use Rattle.fz_rice.specs.Numbers.{IsNumber}
use Rattle.fz_cases_codes.proofs.rice.random_numbers.Goals as goal

pub loop-made-preserved : goal.loop-made-preserved
loop-made-preserved g c =
    let w = g.row.W in
    let x = to_z w32 (of_z w32 c.number_of.result) in
    let fits : FitsSigned w32 c.number_of.result = search rules in
    let is : x ≡ c.number_of.result = to_z-of_z w32 c.number_of.result fits in
    record {
      len = omega (arith, c.in_ok-push.ensures.len, c.loop-made.invariant.len);
      all = subst (All (IsNumber w)) (sym c.in_ok-push.ensures.items) (All-push (IsNumber w) c.loop-made.numbers.items x c.loop-made.invariant.all (subst (IsNumber w) (sym is) c.number_of.ensures));
    }
