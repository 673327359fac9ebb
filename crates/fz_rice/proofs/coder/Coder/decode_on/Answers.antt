use Rattle.std.proofs.Common.{◌≡◌, ◌+◌, ◌*◌, ◌/◌, ◌≤◌, Bool, List, length, drop, subst, arith}
use Rattle.fz_bits.specs.Bits.{bits_of}
use Rattle.fz_bits.specs.Reader.{left}
use Rattle.fz_rice.specs.Reading.{blocks_at, GivesNumbers}
use Rattle.fz_rice.proofs.MarkLemmas.{reads_on}
use Rattle.fz_rice.proofs.coder.Coder.decode_on.Goals as goal

pub returns-clause-numbers : goal.returns-clause-numbers
returns-clause-numbers g c =
    let w = g.row.W in
    let block = c.args.block in
    let n = length c.args.numbers.now in
    let xs = c.read_blocks.new.numbers in
    let bits = bits_of c.args.code.now in
    let rest = left c.read_blocks.new.reader in
    let last = c.in_ok-last.last in
    let eight = c.bytes_law.ensures.eight c.args.code.now in
    let within : c.args.mark.bit ≤ length bits = omega (arith, eight, c.requires.within) in
    let counted : c.args.mark.bit / 8 * 8 + c.place.result + length rest ≡ length bits = omega (arith, eight, c.place.ensures, c.in_ok-last.ensures.count, c.reader_from-reader.ensures.count) in
    let gives : GivesNumbers w c.args.mark.last (blocks_at w block n n (drop c.args.mark.bit bits)) xs last rest = subst (λ (x : List Bool). GivesNumbers w c.args.mark.last (blocks_at w block n n x) xs last rest) c.reader_from-reader.ensures.left c.in_ok-last.ensures.numbers in
    reads_on c.number_law.ensures w block n bits rest c.args.mark _ xs c.requires.width (omega (arith, c.requires.block.0)) c.read_blocks.auto.numbers within counted gives
