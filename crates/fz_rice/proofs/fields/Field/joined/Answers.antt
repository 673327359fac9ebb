use Rattle.std.proofs.Common.{◌≡◌, ◌+◌, ◌*◌, ◌%◌, ◌^◌, bit_or, ap, ◌∙◌, arith}
use Rattle.std.proofs.lemmas.Nat.{shl_whole, or_shifted}
use Rattle.fz_bits.specs.Bits.{number_bits}
use Rattle.fz_rice.proofs.NumberBits.{joined_below, number_bits-joined}
use Rattle.fz_rice.proofs.fields.Field.joined.Goals as goal

pub invariant_of-result : goal.invariant_of-result
invariant_of-result c =
    let a = c.args.self in
    let b = c.args.next in
    let is : bit_or (a.bits * 2 ^ b.width % 18446744073709551616) b.bits ≡ a.bits * 2 ^ b.width + b.bits = ap (λ x. bit_or x b.bits) (shl_whole a.bits a.width b.width 64 a.fits (omega arith)) ∙ or_shifted a.bits b.width b.bits b.fits in
    record {
      few = c.requires;
      fits = rw is (joined_below a.width b.width a.bits b.bits a.fits b.fits);
    }

pub returns-clause-bits : goal.returns-clause-bits
returns-clause-bits c =
    let a = c.args.self in
    let b = c.args.next in
    let is : bit_or (a.bits * 2 ^ b.width % 18446744073709551616) b.bits ≡ a.bits * 2 ^ b.width + b.bits = ap (λ x. bit_or x b.bits) (shl_whole a.bits a.width b.width 64 a.fits (omega arith)) ∙ or_shifted a.bits b.width b.bits b.fits in
    ap (number_bits (a.width + b.width)) is ∙ number_bits-joined c.number_law.ensures a.width b.width a.bits b.bits b.fits
