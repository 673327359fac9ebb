use Rattle.std.proofs.Common.{refl}
use Rattle.fz_head.proofs.PackedSizes.{same-count, few-cards, packing-few}
use Rattle.fz_head.proofs.RestoredHeaders.{cutout-short, plain-short}
use Rattle.fz_head.proofs.law.sizes_law.Goals as goal

pub returns-clause-totals : goal.returns-clause-totals
returns-clause-totals c = same-count

pub returns-clause-few : goal.returns-clause-few
returns-clause-few c = few-cards

pub returns-clause-packing : goal.returns-clause-packing
returns-clause-packing c = packing-few

pub returns-clause-plain : goal.returns-clause-plain
returns-clause-plain c = λ header h p is planned. plain-short header h p is planned _ refl

pub returns-clause-cutout : goal.returns-clause-cutout
returns-clause-cutout c = λ header h p region is planned same. cutout-short header h p is planned region _ same refl
