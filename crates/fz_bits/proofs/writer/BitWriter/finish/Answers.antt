use Rattle.std.proofs.Common.{◌≡◌, ◌+◌, ◌-◌, ◌*◌, false, ◌++◌, length, take, drop, replicate, sym, ap, ◌∙◌, arith, append_assoc}
use Rattle.std.proofs.Math.Seq.{take-add}
use Rattle.fz_bits.specs.Bits.{number_bits, bits_of, fill_len}
use Rattle.fz_bits.specs.Writer.{written}
use Rattle.fz_bits.proofs.BitsLemmas.{bits_of-append}
use Rattle.fz_bits.proofs.WriterLemmas.{length-written}
use Rattle.fz_bits.proofs.writer.BitWriter.finish.Goals as goal

pub returns-clause-bits : goal.returns-clause-bits
unfolding written
returns-clause-bits c =
    let w = c.args.self in
    let out = c.finished.new.out in
    let len = c.finished.result - w.at in
    let e : c.finished.result ≡ w.at + len = omega (arith, c.finished.ensures.place) in
    let fill : 8 * len - w.count ≡ fill_len (length (written w)) = omega (arith, c.finished.ensures.place, length-written w) in
    ap (λ k. bits_of (take k out)) e ∙ ap bits_of (take-add w.at len out) ∙ bits_of-append (take w.at out) (take len (drop w.at out)) ∙ ap (λ bytes. bits_of bytes ++ bits_of (take len (drop w.at out))) c.finished.ensures.front ∙ ap (λ bits. bits_of (take w.at w.out.now) ++ bits) c.finished.ensures.bits ∙ sym (append_assoc (bits_of (take w.at w.out.now)) (number_bits w.count w.pending) (replicate (8 * len - w.count) false)) ∙ ap (λ k. written w ++ replicate k false) fill
