use Rattle.std.proofs.Common.{◌≡◌, ◌+◌, ◌-◌, ◌*◌, ◌/◌, ◌^◌, ◌<◌, ◌++◌, length, take, ap, ◌∙◌, arith, length-append, length-take, length-drop}
use Rattle.std.specs.Int.{w64, to_be_bytes}
use Rattle.std.proofs.lemmas.Nat.{mod_below, pow_pos, shr_below}
use Rattle.std.proofs.lemmas.Slice.{take-put_mid, drop-put_mid}
use Rattle.fz_bits.specs.Bits.{number_bits, bits_of}
use Rattle.fz_bits.specs.Writer.{written}
use Rattle.fz_bits.proofs.BitsLemmas.{joined_below, below_wider}
use Rattle.fz_bits.proofs.WriterLemmas.{length-written, written_more, word_written}
use Rattle.fz_bits.proofs.writer.BitWriter.push.Goals as goal

pub joined-self-requires-clause-high : goal.joined-self-requires-clause-high
joined-self-requires-clause-high c = below_wider c.args.self.now.pending c.args.self.now.count (64 - c.args.width) c.args.self.now.fits (omega arith)

pub invariant_of-self : goal.invariant_of-self
invariant_of-self c =
    let w = c.args.self.now in
    let below = joined_below w.count c.args.width w.pending c.args.value w.fits c.requires.fits in
    record {
      few = c.if-count-lt64.true;
      in_out = omega (arith, length-written w);
      fits = rw c.joined-self.ensures below;
    }

pub joined-requires-clause-low : goal.joined-requires-clause-low
joined-requires-clause-low c =
    let w = c.args.self.now in
    let rest = w.count + c.args.width - 64 in
    let e : 64 - w.count + rest ≡ c.args.width = omega arith in
    shr_below c.args.value (64 - w.count) rest (rw e c.requires.fits)

pub slice_bounds-copy_from_slice-end : goal.slice_bounds-copy_from_slice-end
slice_bounds-copy_from_slice-end c = omega (arith, length-written c.args.self.now)

pub invariant_of-self-else-count-lt64 : goal.invariant_of-self-else-count-lt64
invariant_of-self-else-count-lt64 c =
    let w = c.args.self.now in
    let rest = w.count + c.args.width - 64 in
    record {
      few = omega arith;
      in_out = simp (length-append, length-take, length-drop) (omega (arith, length-written w));
      fits = rw c.back-self.ensures (mod_below c.args.value (2 ^ rest) (pow_pos rest));
    }

pub returns-then-count-lt64-clause-ok : goal.returns-then-count-lt64-clause-ok
unfolding written
returns-then-count-lt64-clause-ok c =
    let w = c.args.self.now in
    rw c.joined-self.ensures (written_more (bits_of (take w.at w.out.now)) w.count c.args.width w.pending c.args.value c.requires.fits)

pub returns-else-count-lt64-clause-ok : goal.returns-else-count-lt64-clause-ok
unfolding written
returns-else-count-lt64-clause-ok c =
    let w = c.args.self.now in
    let rest = w.count + c.args.width - 64 in
    let word = c.copy_from_slice.new.self in
    let is : word ≡ to_be_bytes w64 (w.pending * 2 ^ (64 - w.count) + c.args.value / 2 ^ rest) = c.copy_from_slice.ensures.after ∙ c.high_first-word.ensures ∙ ap (to_be_bytes w64) c.joined.ensures in
    let len : length word ≡ 8 = ap length is in
    let taken = take-put_mid w.at (w.at + 8 - w.at) w.out.now word (w.at + 8) (omega arith) (omega (arith, length-written w)) in
    let e : 64 - w.count + rest ≡ c.args.width = omega arith in
    let low : c.args.value / 2 ^ rest < 2 ^ (64 - w.count) = shr_below c.args.value (64 - w.count) rest (rw e c.requires.fits) in
    ap (λ bytes. bits_of bytes ++ number_bits rest c.back-self.result) taken ∙ ap (λ r. bits_of (take w.at w.out.now ++ word) ++ number_bits rest r) c.back-self.ensures ∙ word_written (take w.at w.out.now) word w.count rest w.pending c.args.value (omega arith) low is ∙ ap (λ k. (bits_of (take w.at w.out.now) ++ number_bits w.count w.pending) ++ number_bits k c.args.value) e

pub returns-else-count-lt64-clause-behind : goal.returns-else-count-lt64-clause-behind
returns-else-count-lt64-clause-behind c =
    let w = c.args.self.now in
    let word = c.copy_from_slice.new.self in
    let is : word ≡ to_be_bytes w64 c.joined.result = c.copy_from_slice.ensures.after ∙ c.high_first-word.ensures in
    let len : length word ≡ w.at + 8 - w.at = ap length is ∙ omega arith in
    rw (length-written) (drop-put_mid w.at (w.at + 8 - w.at) w.out.now word ((8 * (w.at + 8) + (w.count + c.args.width - 64) + 7) / 8) (omega arith) (omega (arith, length-written w)) len)
