use Rattle.std.proofs.Common.{◌≡◌, ℕ, ◌+◌, ◌-◌, ◌*◌, ◌/◌, ◌%◌, ◌^◌, ◌<◌, ◌≤◌, bit_or, length, take, drop, ap, sym, subst, ◌∙◌, arith, length-drop}
use Rattle.std.proofs.Math.Logic.{∥∥₁_map}
use Rattle.std.proofs.lemmas.List.{drop-drop}
use Rattle.fz_bits.specs.Bits.{number_bits, bits_of, IsAhead}
use Rattle.fz_bits.specs.Reader.{left}
use Rattle.fz_bits.proofs.BitsLemmas.{length-bits_of, bits_of-take, bits_of-drop}
use Rattle.fz_bits.proofs.ReaderLemmas.{word_joined}
use Rattle.fz_bits.proofs.reader.BitReader.append_word.Goals as goal

pub invariant_of-self : goal.invariant_of-self
invariant_of-self c =
    let r = c.args.self.now in
    let code = bits_of r.code.now in
    let at = 8 * r.at - r.count in
    let bits = drop at code in
    let whole : r.at + 8 ≤ length r.code.now = c.requires in
    let reach : at + r.count ≡ 8 * r.at = omega (arith, r.loaded) in
    let enough : r.count + 64 ≤ length bits = omega (arith, length-drop at code, length-bits_of r.code.now, reach) in
    let word : number_bits 64 c.word_at.result ≡ take 64 (drop r.count bits) = c.word_at.ensures ∙ bits_of-take 8 (drop r.at r.code.now) ∙ ap (take 64) (bits_of-drop r.at r.code.now ∙ ap (λ k. drop k code) (sym reach) ∙ sym (drop-drop r.count at code)) in
    let more = r.count % 8 + 56 in
    let e : at ≡ 8 * (r.at + (63 - r.count) / 8) - more = omega (arith, r.loaded, r.few) in
    record {
      small = r.small;
      within = omega (arith, r.few);
      loaded = omega (arith, r.loaded, r.few);
      few = omega arith;
      ahead = ∥∥₁_map r.ahead (λ a. subst (λ (k : ℕ). IsAhead more (bit_or r.pending (c.word_at.result / 2 ^ r.count)) (drop k code)) e (word_joined r.count more r.pending c.word_at.result bits enough (omega arith) (omega arith) word a));
    }

pub returns-clause-unmoved : goal.returns-clause-unmoved
unfolding left
returns-clause-unmoved c =
    let r = c.args.self.now in
    let e : 8 * (r.at + (63 - r.count) / 8) - (r.count % 8 + 56) ≡ 8 * r.at - r.count = omega (arith, r.loaded, r.few) in
    record { left = ap (λ k. drop k (bits_of r.code.now)) e; place = e }
