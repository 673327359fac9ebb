use Rattle.std.proofs.Common.{◌≡◌, ◌+◌, ◌-◌, take, drop, ap, ◌∙◌, arith}
use Rattle.fz_bits.specs.Bits.{number_bits, bits_of}
use Rattle.fz_bits.proofs.BitsLemmas.{number_bits-from_be_bytes}
use Rattle.fz_bits.proofs.ReaderLemmas.{fits_part}
use Rattle.fz_bits.proofs.reader.word_at.Goals as goal

pub returns : goal.returns
returns c =
    let bytes = c.args.bytes.now in
    let word = c.copy_from_slice.new.self in
    let e : c.args.at + 8 - c.args.at ≡ 8 = omega arith in
    let is : word ≡ take 8 (drop c.args.at bytes) = c.copy_from_slice.ensures.after ∙ ap (λ k. take k (drop c.args.at bytes)) e in
    ap (number_bits 64) c.from_be_bytes.ensures ∙ number_bits-from_be_bytes word c.copy_from_slice.ensures.len (λ i. rw is (fits_part bytes (λ k. omega (arith, c.type_inv.bytes k)) 8 c.args.at i)) ∙ ap bits_of is
