use Rattle.fz_rice.proofs.FieldsLemmas.{field_is}
use Rattle.fz_rice.proofs.full_block.field_of.Goals as goal

pub returns : goal.returns
returns c = field_is c.number_law.ensures c.args.k c.args.value c.min.result c.requires c.min.ensures
