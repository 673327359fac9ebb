use Rattle.std.proofs.Common.{◌≡◌, ◌+◌, ◌-◌, ◌/◌, ◌^◌, ◌<◌, take, ap, ◌∙◌, arith}
use Rattle.std.proofs.lemmas.Nat.{shr-shr, shr_below}
use Rattle.fz_bits.specs.Bits.{number_bits}
use Rattle.fz_bits.proofs.BitsLemmas.{number_bits-front, below_wider}
use Rattle.fz_bits.proofs.fields.first.Goals as goal

pub returns-clause-fits : goal.returns-clause-fits
returns-clause-fits c =
    let rest = 1 + (63 - c.args.width) in
    let whole : c.args.width + rest ≡ 64 = omega arith in
    let fits : c.args.bits < 2 ^ (c.args.width + rest) = rw whole (omega arith) in
    rw (shr-shr c.args.bits 1 (63 - c.args.width)) (shr_below c.args.bits c.args.width rest fits)

pub overflow_cast-result-2 : goal.overflow_cast-result-2
overflow_cast-result-2 c =
    let below = below_wider (c.args.bits / 2 / 2 ^ (63 - c.args.width)) c.args.width 32 (returns-clause-fits c) c.requires in
    omega (arith, below)

pub returns-clause-bits : goal.returns-clause-bits
returns-clause-bits c =
    let rest = 1 + (63 - c.args.width) in
    let whole : c.args.width + rest ≡ 64 = omega arith in
    ap (number_bits c.args.width) (shr-shr c.args.bits 1 (63 - c.args.width)) ∙ number_bits-front c.args.width rest c.args.bits ∙ ap (λ k. take c.args.width (number_bits k c.args.bits)) whole
