use Rattle.std.proofs.Common.{◌≡◌, ◌+◌, ◌-◌, arith}
use Rattle.fz_bits.proofs.BitsLemmas.{number_bits-shifted}
use Rattle.fz_bits.proofs.fields.behind.Goals as goal

pub returns : goal.returns
returns c =
    let whole : c.args.width + (64 - c.args.width) ≡ 64 = omega arith in
    rw whole at (number_bits-shifted (64 - c.args.width) c.args.width c.args.bits)
