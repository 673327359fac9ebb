use Rattle.std.proofs.Common.{◌≡◌, ℕ, ◌-◌, ◌*◌, ◌++◌, false, length, drop, replicate, ap, ◌∙◌, arith, length-append}
use Rattle.std.proofs.lemmas.List.{drop-replicate, length-replicate}
use Rattle.fz_bits.specs.Bits.{number_bits, bits_of}
use Rattle.fz_bits.proofs.BitsLemmas.{number_bits-from_be_bytes, bits_of-append}
use Rattle.fz_bits.proofs.ReaderLemmas.{fits_filled, bits_of-zeros}
use Rattle.fz_bits.proofs.reader.last_word.Goals as goal

pub returns : goal.returns
returns c =
    let bytes = c.args.bytes.now in
    let n = length bytes in
    let word = c.copy_from_slice.new.self ++ drop n (replicate 8 0) in
    let is : word ≡ bytes ++ replicate (8 - n) 0 = ap (λ front. front ++ drop n (replicate 8 0)) c.copy_from_slice.ensures.after ∙ ap (λ back. bytes ++ back) (drop-replicate n 8 0) in
    let len : length word ≡ 8 = ap length is ∙ length-append bytes (replicate (8 - n) 0) ∙ omega (arith, length-replicate {A = ℕ} (8 - n) 0) in
    let zeros : 8 * (8 - n) ≡ 64 - 8 * n = omega arith in
    ap (number_bits 64) c.from_be_bytes.ensures ∙ number_bits-from_be_bytes word len (λ i. rw is (fits_filled bytes (λ k. omega (arith, c.type_inv.bytes k)) (8 - n) i)) ∙ ap bits_of is ∙ bits_of-append bytes (replicate (8 - n) 0) ∙ ap (λ l. bits_of bytes ++ l) (bits_of-zeros (8 - n)) ∙ ap (λ k. bits_of bytes ++ replicate k false) zeros
