use Rattle.std.proofs.Common.{◌≡◌, ◌^◌, to_z, of_z, refl, ◌∙◌}
use Rattle.std.specs.Prelude.{pos}
use Rattle.std.specs.Int.{w64, w128}
use Rattle.std.proofs.lemmas.Int.{to_z-of_z}
use Rattle.fz_card.proofs.DecimalNumbers.{product-fits, product-low, abs-wide}
use Rattle.fz_card.proofs.decimal.multiplied.Goals as goal

number : (c : goal.After-power) → to_z w128 (of_z w128 c.from.result) ≡ c.args.integer
number c = to_z-of_z w128 c.from.result (record { sfits = c.from.type_inv }) ∙ (c.from.ensures ∙ to_z-of_z w64 c.args.integer c.ranges.integer)

factor : (c : goal.After-power) → to_z w128 (of_z w128 c.power.result) ≡ pos (10 ^ c.args.exponent)
factor c = to_z-of_z w128 c.power.result (record { sfits = c.power.type_inv }) ∙ c.power.ensures.value

pub overflow_mul-result : goal.overflow_mul-result
overflow_mul-result c = rw (number c, factor c) (product-fits c.args.integer c.args.exponent (abs-wide c.args.integer c.ranges.integer) c.requires)

pub returns-clause-value : goal.returns-clause-value
returns-clause-value c = to_z-of_z w128 _ (overflow_mul-result c) ∙ rw (number c, factor c) refl

pub returns-clause-low : goal.returns-clause-low
returns-clause-low c = rw (returns-clause-value c) (product-low c.args.integer c.args.exponent (abs-wide c.args.integer c.ranges.integer) c.requires)
