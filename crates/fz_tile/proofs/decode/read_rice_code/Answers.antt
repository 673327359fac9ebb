-- A code that ends early is refused by what was read of the record.
use Rattle.std.proofs.Common.{◌≡◌, ℕ, ◌+◌, ◌*◌, ◌<◌, ◌≤◌, length, Err, refl, sym, subst, ap}
use Rattle.fz_rice.specs.declared.coder.CodeFault.{CodeFault}
use Rattle.fz_bits.specs.Bits.{bits_of}
use Rattle.fz_rice.specs.Prefix.{IsBeginning}
use Rattle.fz_tile.specs.Refusals.{IsRiceFault, unlawful}
use Rattle.fz_tile.proofs.FaultLemmas.{cut_code}
use Rattle.fz_tile.proofs.decode.read_rice_code.Goals as goal

pub returns-in-Err-Ended : goal.returns-in-Err-Ended
returns-in-Err-Ended g c = λ bitpix.
    let n = length c.args.numbers.now in
    let begins : IsBeginning g.row.W c.args.block n (bits_of c.args.code.now) = c.in-Err-Ended.ensures.ended.0 (ap (λ (e : CodeFault). Err e) c.in-Err-Ended.field-0-is) in
    cut_code g.row.W c.args.block bitpix c.args.total n c.args.code.now c.cut_fault.result begins
    (λ whole. c.cut_fault.ensures.short (subst (λ (k : ℕ). c.args.total ≤ 8 * k + 64) (sym c.decode.auto.numbers) whole))
    (λ more. c.cut_fault.ensures.long (subst (λ (k : ℕ). 8 * k + 64 < c.args.total) (sym c.decode.auto.numbers) more))

pub returns-in-Err-Unlawful : goal.returns-in-Err-Unlawful
returns-in-Err-Unlawful g c = λ bitpix.
    let facts = c.in-Err-Unlawful.ensures.unlawful.0 (ap (λ (e : CodeFault). Err e) c.in-Err-Unlawful.field-0-is) in
    unlawful refl facts.0 facts.1
