-- The plan is that of its image, or of none.
use Rattle.fz_flat.proofs.FlatLemmas.{its-own, lawful-if}
use Rattle.fz_flat.proofs.lawful.is_lawful.Goals as goal

pub returns-then-is_packed_image-clause-exact : goal.returns-then-is_packed_image-clause-exact
returns-then-is_packed_image-clause-exact c =
    lawful-if c.args.plan.now c.plan_of.result c.image_of-image.result c.is_same.result c.image_of-image.ensures (c.is_packed_image.ensures.0 c.if-is_packed_image.true) c.plan_of.ensures c.is_same.ensures

pub returns-then-is_packed_image-clause-its : goal.returns-then-is_packed_image-clause-its
returns-then-is_packed_image-clause-its c = λ yes.
    its-own c.args.plan.now
    ((lawful-if c.args.plan.now c.plan_of.result c.image_of-image.result c.is_same.result c.image_of-image.ensures (c.is_packed_image.ensures.0 c.if-is_packed_image.true) c.plan_of.ensures c.is_same.ensures).0 yes)
