use Rattle.std.proofs.lemmas.Nat.{one_shl, and_mask}
use Rattle.fz_bits.proofs.fields.back.Goals as goal

pub returns : goal.returns
returns c = rw (one_shl c.args.rest 64 c.requires) (and_mask c.args.bits c.args.rest)
