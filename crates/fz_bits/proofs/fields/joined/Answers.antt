use Rattle.std.proofs.Common.{◌-◌, arith}
use Rattle.std.proofs.lemmas.Nat.{shl_whole, or_shifted}
use Rattle.fz_bits.proofs.fields.joined.Goals as goal

pub returns : goal.returns
returns c =
    rw (shl_whole c.args.high (64 - c.args.width) c.args.width 64 c.requires.high (omega arith)) (or_shifted c.args.high c.args.width c.args.low c.requires.low)
