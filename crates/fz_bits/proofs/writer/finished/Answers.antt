use Rattle.std.proofs.Common.{◌≡◌, ℕ, suc, ◌+◌, ◌-◌, ◌*◌, ◌/◌, ◌%◌, ◌^◌, ◌<◌, false, ◌++◌, length, take, replicate, refl, sym, ap, ◌∙◌, arith, length-take, length-drop}
use Rattle.std.specs.Int.{w64, to_be_bytes}
use Rattle.std.proofs.lemmas.Slice.{between-put_mid, drop-put_mid}
use Rattle.fz_bits.specs.Bits.{number_bits, bits_of}
use Rattle.fz_bits.proofs.WriterLemmas.{bits_of-last}
use Rattle.std.proofs.lemmas.Nat.{shl_whole, shl_below}
use Rattle.std.proofs.Math.Nat.{pow-suc, mul_assoc}
use Rattle.fz_bits.proofs.writer.finished.Goals as goal

-- the two shifts are one
shifted : (count pending : ℕ) → count < 64 → pending < 2 ^ count → (pending * 2 ^ (63 - count)) % 2 ^ 64 * 2 % 2 ^ 64 ≡ pending * 2 ^ (64 - count)
shifted count pending few fits =
    let e : count + (63 - count) ≡ 63 = omega arith in
    let one : 64 - count ≡ suc (63 - count) = omega arith in
    let below : pending * 2 ^ (63 - count) < 2 ^ 63 = rw e at (shl_below pending count (63 - count) fits) in
    let whole : 2 ^ (64 - count) ≡ 2 ^ (63 - count) * 2 = ap (λ k. 2 ^ k) one ∙ pow-suc 2 (63 - count) in
    rw (shl_whole pending count (63 - count) 64 fits (omega arith), shl_whole (pending * 2 ^ (63 - count)) 63 1 64 below (omega arith), whole) (mul_assoc pending (2 ^ (63 - count)) 2)

pub returns-clause-bits : goal.returns-clause-bits
returns-clause-bits c =
    let at = c.args.at in
    let len = (c.args.count + 7) / 8 in
    let last = c.copy_from_slice.new.self in
    let word = c.args.pending * 2 ^ (64 - c.args.count) in
    let whole = shifted c.args.count c.args.pending c.requires.few c.requires.fits in
    let is : last ≡ take len (to_be_bytes w64 word) = c.copy_from_slice.ensures.after ∙ ap (take len) (c.to_be_bytes-word.ensures ∙ ap (to_be_bytes w64) whole) in
    let size : length last ≡ at + len - at = c.copy_from_slice.ensures.len ∙ simp (length-take, length-drop) (omega arith) in
    let e : at + len - at ≡ len = omega arith in
    ap bits_of (between-put_mid at (at + len - at) c.args.out.now last (at + len) (omega arith) size ∙ is) ∙ bits_of-last len c.args.count c.args.pending c.requires.few c.requires.fits refl ∙ ap (λ k. number_bits c.args.count c.args.pending ++ replicate (8 * k - c.args.count) false) (sym e)

pub returns-clause-behind : goal.returns-clause-behind
returns-clause-behind c =
    let at = c.args.at in
    let len = (c.args.count + 7) / 8 in
    let last = c.copy_from_slice.new.self in
    let size : length last ≡ at + len - at = c.copy_from_slice.ensures.len ∙ simp (length-take, length-drop) (omega arith) in
    drop-put_mid at (at + len - at) c.args.out.now last (at + len) (omega arith) (omega arith) size
